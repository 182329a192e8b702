-- What a running net lets come is fresh.
use Rattle.std.proofs.Common.{◌≡◌, ℕ, zero, suc, ◌+◌, ◌-◌, ◌*◌, ◌%◌, ◌<◌, ◌&&◌, nat_lt, List, [], ◌∷◌, length, Bool, true, false, Option, Some, None, refl, sym, ap, ◌∙◌, subst, arith}
use Rattle.std.specs.Prelude.{slice_get}
use Rattle.std.proofs.lemmas.Bool.{false≢true, cond-true}
use Rattle.std.proofs.lemmas.Bool.Decides.{nat_tests}
use Rattle.chaos_packet.specs.Opcode.{kind_of}
use Rattle.chaos_conn.specs.Sending.{carries_ack}
use Rattle.chaos_host.specs.Slot.{place_of}
use Rattle.chaos_lab.specs.declared.side.Side.{Side}
use Rattle.chaos_lab.specs.Machine.{other, fresh_span}
use Rattle.chaos_net.specs.declared.kept_sent.KeptSent.{KeptSent}
use Rattle.chaos_net.specs.declared.seat.Seat.{Seat}
use Rattle.chaos_net.specs.Net.{Name, Sent, Net, IsFresh, IsFreshFor, Near, index_of, present, length_of, lengths_of}
use Rattle.chaos_net.specs.Kept.{NetView, at, is_near, are_near, is_fresh_at, may_come}
use Rattle.chaos_net.specs.Running.{turn_of, IsSeatOf, IsKept, AreKept, Stands}
use Rattle.chaos_net.proofs.Lists.{some_eq}
use Rattle.chaos_net.proofs.Network.{reached_is_played}

-- ---- what is kept stands for what was sent

pub kept_there : (n : Net) (y : Side) (events : ℕ) (ks : List KeptSent) (qs : List Sent) (k : ℕ) (kept : KeptSent)
    → AreKept n y events ks qs → slice_get ks k ≡ Some kept
    → (q : Sent) × (slice_get qs k ≡ Some q) × IsKept n y events kept q
kept_there n y events [] qs k kept h is = absurd (cc)
kept_there n y events (one ∷ ks) [] k kept h is = absurd h
kept_there n y events (one ∷ ks) (q ∷ qs) zero kept h is =
    (q, refl, subst (λ z. IsKept n y events z q) (some_eq is) h.0)
kept_there n y events (one ∷ ks) (q ∷ qs) (suc k) kept h is = kept_there n y events ks qs k kept h.1 is

-- ---- tests

both : (a b : Bool) → (a && b) ≡ true → (a ≡ true) × (b ≡ true)
both true b h = (refl, h)
both false b h = absurd (false≢true h)

near : (a b : Name) → is_near a.turn b.turn ≡ true → Near a b
near a b h = by a.turn b.turn h
  where
    by : (m k : ℕ) → nat_lt ((m - k) + (k - m)) 256 ≡ true → (m < k + 256) × (k < m + 256)
    by m k h = let few : (m - k) + (k - m) < 256 = grind (arith, nat_tests) in (omega (arith, few), omega (arith, few))

below : (m k : ℕ) → nat_lt m k ≡ true → m < k
below m k h = grind (arith, nat_tests)

place_is : (d : Name) → d.place < 255 → place_of (index_of d) ≡ d.place
place_is d few = by d.place d.turn few
  where
    by : (place turn : ℕ) → place < 255 → (256 * (turn % 256) + (place + 1)) % 256 - 1 ≡ place
    by place turn few = omega (arith, few)

-- ---- a packet that may come

pub may_come_fresh : (v : NetView) (n : Net) (x : Side) (kept : KeptSent) (q : Sent) → Stands v n
    → IsKept n (other x) v.events kept q → may_come v.events (at v x).seats kept ≡ true → IsFresh n x q
may_come_fresh v n x kept q h k may ack c d s t by from now there index =
    let side = (reached_is_played n h.reached x).station.stories d t there in
    let here = h.stations x in
    let op : carries_ack (kind_of kept.packet.op) ≡ true = ap (λ p. carries_ack (kind_of p.op)) k.packet ∙ ack in
    let place : place_of kept.packet.dst_index ≡ d.place =
    ap (λ p. place_of p.dst_index) k.packet ∙ ap place_of index ∙ place_is d side.place in
    let fresh : is_fresh_at v.events (slice_get (at v x).seats d.place) kept ≡ true =
    ap (λ i. is_fresh_at v.events (slice_get (at v x).seats i) kept) (sym place) ∙ sym (cond-true _ _ _ op) ∙ may in
    of_seat (slice_get (at v x).seats d.place) refl fresh
  where
    of_seat : (o : Option Seat) → slice_get (at v x).seats d.place ≡ o → is_fresh_at v.events o kept ≡ true
        → IsFreshFor x q c d s t
    of_seat None is fresh = absurd (false≢true fresh)
    of_seat (Some seat) is fresh =
        let tests =
        both (nat_lt (v.events - kept.at) fresh_span)
        (are_near (Some seat.turn) kept.meant && are_near kept.by seat.peer) fresh in
        let nears = both (are_near (Some seat.turn) kept.meant) (are_near kept.by seat.peer) tests.1 in
        let same : present (n x) d.place ≡ d = λ j. record { place = d.place; turn = now j } in
        let told : IsSeatOf (n x) d seat =
        subst (λ name. IsSeatOf (n x) name seat) same ((h.stations x).seats d.place seat is) in
        let few = below (v.events - kept.at) fresh_span tests.0 in
        let length_c = k.lengths (other x) c in
        let length_d = k.lengths x d in
        let written_c : lengths_of n (other x) c ≡ length s.end.written = ap length_of from in
        let written_d : lengths_of n x d ≡ length t.end.written = ap length_of there in
        let sooner = k.at in
        record {
          meant = λ m is_m.
              let meant : kept.meant ≡ Some m.turn = k.meant ack c s by from ∙ ap turn_of is_m in
              near d m
              (ap (λ (z : ℕ × Option ℕ). are_near (Some z.0) z.1) (λ j. (sym told.turn j, sym meant j)) ∙ nears.0);
          peer = λ e is_e.
              let by_c : kept.by ≡ Some c.turn = k.by ∙ ap turn_of by in
              let peer : seat.peer ≡ Some e.turn = told.peer t there ∙ ap turn_of is_e in
              near c e (ap (λ (z : Option ℕ × Option ℕ). are_near z.0 z.1) (λ j. (sym by_c j, sym peer j)) ∙ nears.1);
          sender = omega (arith, few, length_c, written_c, sooner);
          receiver = omega (arith, few, length_d, written_d, sooner);
        }
