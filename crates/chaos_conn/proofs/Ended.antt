-- What the ended states have in common.
use Rattle.std.proofs.Common.{◌≡◌, true, false, refl}
use Rattle.chaos_conn.specs.declared.state.State.{State}
use Rattle.chaos_conn.specs.declared.state.State.TheVariants.{Inactive, RfcSent, RfcReceived, Open, Answered, ClsReceived, LosReceived, HostDown, Forwarded}
use Rattle.chaos_conn.specs.State.{is_ended, is_live, is_opening, is_inactive, is_requested, is_open, awaits_peer, tells_close}

-- what each test of a state says of an ended one
pub record IsOver (s : State) : Type 0 where
  pub not_live : is_live s ≡ false
  pub not_opening : is_opening s ≡ false
  pub not_inactive : is_inactive s ≡ false
  pub not_requested : is_requested s ≡ false
  pub not_open : is_open s ≡ false
  pub awaits_nobody : awaits_peer s ≡ false
  pub tells_no_close : tells_close s ≡ false

-- an ended state is over, whichever it is
pub ended_is_over : (s : State) → is_ended s ≡ true → IsOver s
ended_is_over Inactive e = absurd (cc)
ended_is_over RfcSent e = absurd (cc)
ended_is_over RfcReceived e = absurd (cc)
ended_is_over Open e = absurd (cc)
ended_is_over Answered e =
    record { not_live = refl; not_opening = refl; not_inactive = refl; not_requested = refl; not_open = refl; awaits_nobody = refl; tells_no_close = refl }
ended_is_over ClsReceived e =
    record { not_live = refl; not_opening = refl; not_inactive = refl; not_requested = refl; not_open = refl; awaits_nobody = refl; tells_no_close = refl }
ended_is_over LosReceived e =
    record { not_live = refl; not_opening = refl; not_inactive = refl; not_requested = refl; not_open = refl; awaits_nobody = refl; tells_no_close = refl }
ended_is_over HostDown e =
    record { not_live = refl; not_opening = refl; not_inactive = refl; not_requested = refl; not_open = refl; awaits_nobody = refl; tells_no_close = refl }
ended_is_over Forwarded e =
    record { not_live = refl; not_opening = refl; not_inactive = refl; not_requested = refl; not_open = refl; awaits_nobody = refl; tells_no_close = refl }
