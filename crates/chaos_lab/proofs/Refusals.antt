-- A call that is refused changes nothing.
use Rattle.std.proofs.Common.{◌≡◌, ℕ, List, [], length, Option, Some, None, Result, Ok, Err, ltb, refl, ◌∙◌, sym, ap}
use Rattle.std.proofs.lemmas.Bool.{cond_both}
use Rattle.chaos_packet.specs.Item.{ItemView}
use Rattle.chaos_packet.specs.Opcode.{kind_of}
use Rattle.chaos_conn.specs.declared.fault.ConnFault.{ConnFault}
use Rattle.chaos_conn.specs.declared.fault.ConnFault.TheVariants as fa
use Rattle.chaos_conn.specs.State.{is_open}
use Rattle.chaos_conn.specs.View.{ConnView, moment}
use Rattle.chaos_conn.specs.Acted.{Acted, quietly}
use Rattle.chaos_conn.specs.Sending.{with_item}
use Rattle.chaos_window.specs.Send.{next_of}
use Rattle.chaos_conn.specs.Calls.{act_write, write_at_most, write_item, most_bytes, has_window}

-- it was refused, and nothing changed, or the item went out
pub data Writes (v : ConnView) (item : ItemView) (acted : Acted (Result ℕ ConnFault)) : Type 0 where
  Refuses : (why : ConnFault) → acted ≡ quietly v (Err why) → Writes v item acted
  Sends : (u : ConnView) → acted ≡ with_item u item (Ok (next_of v.send)) → Writes v item acted

write_item_cases : (v : ConnView) (item : ItemView) (t : ℕ) → Writes v item (write_item v item t)
write_item_cases v item t =
    cond_both (has_window v.send) (with_item (record v { last = t; untold = 0 }) item (Ok (next_of v.send)))
    (quietly v (Err fa.Full)) (Writes v item)
    (λ _. Sends (record v { last = t; untold = 0 }) refl)
    (λ _. Refuses fa.Full refl)

at_most_cases : (v : ConnView) (most : Option ℕ) (item : ItemView) (t : ℕ) → Writes v item (write_at_most v most item t)
at_most_cases v None item t = Refuses fa.BadOp refl
at_most_cases v (Some most) item t =
    cond_both (ltb most (length item.body)) (quietly v (Err fa.TooLong)) (write_item v item t) (Writes v item)
    (λ _. Refuses fa.TooLong refl)
    (λ _. write_item_cases v item t)

pub write_cases : (v : ConnView) (op : ℕ) (bytes : List ℕ) (now : ℕ)
    → Writes v (record { op = op; body = bytes }) (act_write v op bytes now)
write_cases v op bytes now =
    cond_both (is_open v.state)
    (write_at_most v (most_bytes (kind_of op)) (record { op = op; body = bytes }) (moment v now))
    (quietly v (Err fa.NotOpen)) (Writes v (record { op = op; body = bytes }))
    (λ _. at_most_cases v (most_bytes (kind_of op)) (record { op = op; body = bytes }) (moment v now))
    (λ _. Refuses fa.NotOpen refl)

-- a refused write
pub record Same (v : ConnView) (acted : Acted (Result ℕ ConnFault)) : Type 0 where
  pub view : acted.view ≡ v
  pub packets : acted.packets ≡ []

same_by : (v : ConnView) (item : ItemView) (acted : Acted (Result ℕ ConnFault)) (why : ConnFault) → Writes v item acted
    → acted.answer ≡ Err why → Same v acted
same_by v item acted why (Refuses f is) h = record { view = λ i. (is i).view; packets = λ i. (is i).packets }
same_by v item acted why (Sends u is) h =
    let no : Ok (next_of v.send) ≡ Err why = sym (ap (λ a. a.answer) is) ∙ h in absurd (cc)

pub write_refused : (v : ConnView) (op : ℕ) (bytes : List ℕ) (now : ℕ) (why : ConnFault)
    → (act_write v op bytes now).answer ≡ Err why → Same v (act_write v op bytes now)
write_refused v op bytes now why h = same_by v _ _ why (write_cases v op bytes now) h
