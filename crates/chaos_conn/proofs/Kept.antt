-- A list from a place on.
use Rattle.std.proofs.Common.{◌≡◌, ℕ, ◌+◌, ◌≤◌, zero, suc, Bool, false, List, [], ◌∷◌, drop, length, slice_get, Option, Some, None, unwrap_or, ◌<◌, refl, ap, ◌∙◌, arith, append_assoc, length-append}
use native.Mathlib.Numerals.{unary_clauses}
use Rattle.std.specs.List.{list_any, sum_by}
use Rattle.std.proofs.lemmas.List.Sums.{sum_by-cons}
use Rattle.std.proofs.lemmas.Bool.Decides.{nat_tests}
use Rattle.chaos_window.specs.Receive.{ReceiveView, item_at}
use Rattle.chaos_packet.specs.Number.{num as num_after}
use Rattle.chaos_packet.specs.Item.{ItemView}
use Rattle.chaos_packet.specs.Packet.{PacketView}
use Rattle.chaos_packet.specs.Outbox.{OutboxView, with_put, room_of}
use Rattle.chaos_conn.specs.View.{ConnView}
use Rattle.chaos_conn.specs.Sending.{item_packet, packets_from}

-- what is at a place is followed by the rest
pub drop_at : {X : Type 0} (xs : List X) (i : ℕ) (x : X) → slice_get xs i ≡ Some x → drop i xs ≡ x ∷ drop (i + 1) xs
drop_at [] i x h = cc
drop_at (y ∷ ys) zero x h = cc
drop_at (y ∷ ys) (suc i) x h = let e = drop_at ys i x h in let f = simp unary_clauses at e in simp unary_clauses f

-- an item that doesn't pass is passed over
pub any_step : {X : Type 0} (p : X → Bool) (xs : List X) (i : ℕ) (x : X) (r : Bool) → slice_get xs i ≡ Some x
    → p x ≡ false → list_any p (drop i xs) ≡ r → list_any p (drop (i + 1) xs) ≡ r
any_step p xs i x r h fails e = let f = rw (drop_at xs i x h) at e in rw fails at f

-- a packet put out, and the rest to come
pub put_step : (v : ConnView) (out to : OutboxView) (num : ℕ) (items : List ItemView) (i : ℕ) (item : ItemView)
    → slice_get items i ≡ Some item
    → with_put out (packets_from v num (drop i items)) ≡ to
    → with_put (with_put out (item_packet v num item ∷ [])) (packets_from v (num_after num 1) (drop (i + 1) items)) ≡ to
put_step v out to num items i item h e = let f = rw (drop_at items i item h) at e in simp append_assoc f

-- there is room for the rest
pub room_step : (out : OutboxView) (p : PacketView) (items : List ItemView) (i : ℕ) (item : ItemView)
    → slice_get items i ≡ Some item
    → length (drop i items) ≤ room_of out → length (drop (i + 1) items) ≤ room_of (with_put out (p ∷ []))
room_step out p items i item h e =
    let f = rw (drop_at items i item h) at e in omega (arith, f, length-append out.packets (p ∷ []))

-- a packet goes out for each item
pub length-packets_from : (v : ConnView) (number : ℕ) (items : List ItemView)
    → length (packets_from v number items) ≡ length items
length-packets_from v number [] = refl
length-packets_from v number (item ∷ items) = ap suc (length-packets_from v (num_after number 1) items)

pub ruleset places = (drop_at, length-packets_from)

-- a sum goes on by one
pub sum_step : {X : Type 0} (f : X → ℕ) (xs : List X) (i : ℕ) (x : X) (b t : ℕ) → slice_get xs i ≡ Some x
    → b + sum_by f (drop i xs) ≡ t → b + f x + sum_by f (drop (i + 1) xs) ≡ t
sum_step f xs i x b t h e =
    let d : sum_by f (drop i xs) ≡ f x + sum_by f (drop (i + 1) xs) =
    ap (sum_by f) (drop_at xs i x h) ∙ sum_by-cons f x (drop (i + 1) xs) in
    omega (arith, d)

-- a slot, and the slots past it
pub slot_at : {X : Type 0} (xs : List (Option X)) (i : ℕ) → i < length xs
    → drop i xs ≡ unwrap_or (slice_get xs i) None ∷ drop (i + 1) xs
slot_at [] i h = absurd (omega arith)
slot_at (y ∷ ys) zero h = refl
slot_at (y ∷ ys) (suc i) h =
    let e = slot_at ys i (omega arith) in let f = simp unary_clauses at e in simp unary_clauses f

-- a sum over the slots from a place on
pub slots_sum : {X : Type 0} (f : Option X → ℕ) (xs : List (Option X)) (i : ℕ) → i < length xs
    → sum_by f (drop i xs) ≡ f (unwrap_or (slice_get xs i) None) + sum_by f (drop (i + 1) xs)
slots_sum f xs i h = ap (sum_by f) (slot_at xs i h) ∙ sum_by-cons f _ (drop (i + 1) xs)

-- the item at the offset past a place
pub item_at_next : (v : ReceiveView) (i : ℕ) → item_at v (i + 1) ≡ unwrap_or (slice_get v.held i) None
item_at_next v i = grind (arith, nat_tests)
