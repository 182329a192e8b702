-- The start: A has requested, B is new.
use Rattle.std.proofs.Common.{◌≡◌, ℕ, ◌<◌, ◌≤◌, List, [], ◌∷◌, length, Some, Ok, refl, sym, ap, inl, arith}
use Rattle.std.specs.FinSet.{contains, empty, contains-empty}
use Rattle.std.specs.Ordering.{nat_cmp}
use Rattle.std.proofs.lemmas.Bool.{cond-false, le-ltb}
use Rattle.std.proofs.lemmas.List.Elements.{All-push, All-nil}
use Rattle.chaos_lab.specs.declared.side.Side.TheVariants.{A}
use Rattle.chaos_lab.specs.Machine.Told.{Nothing}
use Rattle.chaos_lab.specs.Machine.Kind.{Nth}
use Rattle.chaos_conn.specs.declared.state.State.TheVariants as st
use Rattle.chaos_packet.specs.Number.{num, off}
use Rattle.chaos_lab.specs.Numbers.{told_num}
use Rattle.chaos_lab.specs.Machine.{Machine, Caps, AreCaps, Copy, start}
use Rattle.chaos_packet.specs.Item.{ItemView}
use Rattle.chaos_window.specs.Receive.{started_receive}
use Rattle.chaos_conn.specs.Config.{ConfigView}
use Rattle.chaos_conn.specs.View.{new_conn}
use Rattle.chaos_conn.specs.Acted.{Acted}
use Rattle.chaos_conn.specs.Sending.{with_item}
use Rattle.chaos_conn.specs.Opening.{Outcome, act_request, after_asking, rfc_item}
use Rattle.chaos_lab.specs.Shown.{Rest, shown, send_view, recv_view, recv_shown, place_of}
use Rattle.chaos_lab.specs.Tied.{Agrees, MetBefore, Tied}
use Rattle.chaos_lab.specs.Laboratory.{stamp}

abbrev rest_of : ConfigView → Rest
rest_of c =
    record { retransmit = c.retransmit; probe = c.probe; down = c.down; last = 0; heard = 0; resent = 0; probed = 0; untold = 0; ended = st.HostDown }

abbrev caps_of : ConfigView → Caps
caps_of c = record { send = c.send_cap; recv = c.recv_cap }

-- the request of a contact that fits into a packet
abbrev pub asked_for : List ℕ → ConfigView → ℕ → Acted Outcome
asked_for contact c number = with_item (after_asking (new_conn c) (place_of A) 258 number 0) (rfc_item contact) (Ok tt)

pub asks : (contact : List ℕ) (c : ConfigView) (number : ℕ) → length contact ≤ 488
    → act_request (new_conn c) (place_of A) 258 contact number 0 ≡ asked_for contact c number
asks contact c number short = cond-false _ _ _ (le-ltb 488 (length contact) short)

-- A has requested a contact of B at moment 0
pub tied_start : (ba bb : ℕ) (contact : List ℕ) (ca cb : ConfigView) → ba < 65536 → AreCaps (caps_of ca)
    → AreCaps (caps_of cb) → let acted =
    asked_for contact ca ba in (pk : _) × (acted.packets ≡ pk ∷ [])
    × Tied ba bb (start (caps_of ca) (caps_of cb) (rfc_item contact)) acted.view (new_conn cb) (stamp A 1 0 pk ∷ [])
tied_start ba bb contact ca cb fits right_a right_b =
    let lab_rfc : ItemView = rfc_item contact in
    let w : Machine = start (caps_of ca) (caps_of cb) lab_rfc in
    let first : Copy = record { sender = A; kind = Nth 0; told = Nothing; len_a = 1; len_b = 0 } in
    let number : ba ≡ num ba 0 = omega arith in
    let sent : num (off ba 1) 1 ≡ told_num ba 1 = omega arith in
    let before : off ba 1 ≡ told_num ba 0 = omega arith in
    let first_number : num (off ba 1) 1 ≡ num ba 0 = omega arith in
    let clear : started_receive ca.recv_cap 0 ≡ recv_shown bb w.b w.a =
    sym
    (cond-false (contains {R = nat_cmp} empty 0) (recv_view bb w.b w.a) (started_receive ca.recv_cap 0)
    (contains-empty nat_cmp 0)) in (
      _,
      refl,
      record {
        reached =
            record { caps_a = caps_of ca; caps_b = caps_of cb; right_a = right_a; right_b = right_b; rfc = lab_rfc; events = []; run = refl };
        a =
            (rest_of ca, refl, λ j. record (shown A (rest_of ca) ba bb w.b w.a) { request = number j; send = record (send_view ba w.a) { sent = sent j; receipted = before j; acknowledged = before j }; recv = clear j });
        b = (rest_of cb, refl, refl);
        copies =
            (record { side = refl; len_a = refl; len_b = refl; stands = record { header = record { dst = refl; dst_index = refl; src = refl; src_index = refl }; what = (refl, first_number); tells = refl } }, tt);
        kinds = All-push (λ c. Agrees c.sender c.kind c.told) [] first (All-nil _) tt;
        met = All-push (MetBefore w) [] first (All-nil _) (λ is. inl refl);
        items_a =
            record { first = λ item h. let same : rfc_item contact ≡ item = some_is h in ap (λ i. i.op) (sym same); users = λ i item h. absurd (cc) };
        items_b = record { first = λ item h. absurd (cc); users = λ i item h. absurd (cc) };
      },
    )
  where
    some_is : {x y : ItemView} → Some x ≡ Some y → x ≡ y
    some_is h = cc
