-- Where each pair of connections is played by a laboratory, the law holds.
use Rattle.std.proofs.Common.{◌≡◌, ℕ, zero, suc, ◌≤◌, List, [], length, Bool, true, false, Option, Some, None, refl, sym, ap, ◌∙◌, subst, inl, inr, ◌⊎◌, ⊎_elim, arith}
use Rattle.chaos_packet.specs.Begins.{Begins}
use Rattle.chaos_packet.specs.Item.{ItemView}
use Rattle.chaos_lab.specs.declared.side.Side.{Side}
use Rattle.chaos_lab.specs.declared.side.Side.TheVariants.{A, B}
use Rattle.chaos_lab.specs.Machine.{other}
use Rattle.chaos_lab.specs.Laboratory.{LabView, EndView}
use Rattle.chaos_lab.proofs.Plays.{reads_begin, unread_is_alone}
use Rattle.chaos_lab.proofs.Lists.{begins_through, begins_shorter}
use Rattle.chaos_net.specs.Net.{Net, Name, Story, Holds, HoldsBy}
use Rattle.chaos_net.specs.Played.{IsEnd, IsLinked, IsParted, IsPlayed, HasPeer, ArePlayed}

-- the lists of an end that plays a connection are its own
pub end_written : (y : Side) (e lab : EndView) → IsEnd y e lab → lab.written ≡ e.written
end_written y e lab (inl h) = ap (λ l. l.written) h
end_written y e lab (inr h) = h.written

pub end_read : (y : Side) (e lab : EndView) → IsEnd y e lab → lab.read ≡ e.read
end_read y e lab (inl h) = ap (λ l. l.read) h
end_read y e lab (inr h) = h.read

pub end_first : (y : Side) (e lab : EndView) → IsEnd y e lab → lab.first ≡ e.first
end_first y e lab (inl h) = ap (λ l. l.first) h
end_first y e lab (inr h) = h.first

pub twice : (x : Side) → other (other x) ≡ x
twice A = refl
twice B = refl

-- ---- names are equal or not

nat_eq : (a b : ℕ) → (a ≡ b) ⊎ (a ≡ b → ⊥)
nat_eq zero zero = inl refl
nat_eq zero (suc b) = inr (λ h. absurd (omega arith))
nat_eq (suc a) zero = inr (λ h. absurd (omega arith))
nat_eq (suc a) (suc b) =
    ⊎_elim (λ (h : a ≡ b). inl (ap suc h)) (λ (h : a ≡ b → ⊥). inr (λ same. h (omega arith))) (nat_eq a b)

pub name_eq : (a b : Name) → (a ≡ b) ⊎ (a ≡ b → ⊥)
name_eq a b =
    ⊎_elim
    (λ (p : a.place ≡ b.place). ⊎_elim (λ (t : a.turn ≡ b.turn). inl (λ j. record { place = p j; turn = t j }))
    (λ (t : a.turn ≡ b.turn → ⊥). inr (λ h. t (ap (λ n. n.turn) h))) (nat_eq a.turn b.turn))
    (λ (p : a.place ≡ b.place → ⊥). inr (λ h. p (ap (λ n. n.place) h)))
    (nat_eq a.place b.place)

pub linked_or_parted : (peer : Option Name) (taker : Name) → IsLinked peer taker ⊎ IsParted peer taker
linked_or_parted None taker = inl tt
linked_or_parted (Some peer) taker = name_eq peer taker

-- ---- the law

-- the lists of a pair
pub record PairHolds (r t : Story) (asker taker : Name) : Type 0 where
  -- what the taker read
  pub taken : Begins t.end.read r.end.written
  pub linked : IsLinked r.peer taker → Begins r.end.read t.end.written
  pub apart : (r.peer ≡ Some taker → ⊥) → length t.end.read ≤ 1

pair_holds : (x : Side) (n : Net) (asker taker : Name) (r t : Story) (l : LabView)
    → IsPlayed x asker taker r ((n (other x)).story taker) (n x).sent (n (other x)).sent (n (other x)).host.config l
    → (n (other x)).story taker ≡ Some t → t.asked ≡ false → t.peer ≡ Some asker → (r.peer ≡ None → r.end.read ≡ [])
    → PairHolds r t asker taker
pair_holds x n asker taker r t l p there asked peer unread =
    let b = p.taken t there (asked, peer) in
    let read : Begins l.b.read l.a.written = reads_begin l A p.machine in
    let back : Begins l.a.read l.b.written = reads_begin l B p.machine in
    let from : Begins t.end.read l.a.written = subst (λ xs. Begins xs l.a.written) (end_read B t.end l.b b) read in
    record {
      taken = ⊎_elim
          (λ (k : IsLinked r.peer taker). subst (Begins t.end.read) (end_written A r.end l.a (p.linked k)) from)
          (λ (k : IsParted r.peer taker). begins_through t.end.read l.a.written r.end.written from (p.parted k).1)
          (linked_or_parted r.peer taker);
      linked =
          λ k. subst (λ (z : List ItemView × List ItemView). Begins z.0 z.1)
          (λ j. (end_read A r.end l.a (p.linked k) j, end_written B t.end l.b b j)) back;
      apart =
          λ k. let most = alone r.peer refl k in let fits = begins_shorter t.end.read l.a.written from in omega arith;
    }
  where
    alone : (o : Option Name) → r.peer ≡ o → (r.peer ≡ Some taker → ⊥) → length l.a.written ≤ 1
    alone None is k =
        let a = p.linked (subst (λ o. IsLinked o taker) (sym is) tt) in
        let one = unread_is_alone l p.machine (end_read A r.end l.a a ∙ unread is) in
        omega (arith, one)
    alone (Some peer) is k = (p.parted (subst (λ o. IsParted o taker) (sym is) (λ same. k (is ∙ ap Some same)))).0

-- one that asked and wasn't opened has read nothing
unread : (n : Net) (x : Side) (name : Name) (s : Story) → (n x).story name ≡ Some s → ArePlayed n → s.peer ≡ None
    → s.end.read ≡ []
unread n x name s there h none =
    let p : HasPeer (n (other x)) name s None s.asked = subst (λ o. HasPeer (n (other x)) name s o s.asked) none
    ((h x).station.stories name s there).peer in p.1

peer_eq : (o : Option Name) (name : Name) → (o ≡ Some name) ⊎ (o ≡ Some name → ⊥)
peer_eq None name = inr (λ h. absurd (cc))
peer_eq (Some peer) name =
    ⊎_elim (λ (h : peer ≡ name). inl (ap Some h))
    (λ (h : peer ≡ name → ⊥). inr (λ q. h (let same : peer ≡ name = cc in same))) (name_eq peer name)

holds_by : (n : Net) (x : Side) (name : Name) (s : Story) (peer : Option Name) (asked : Bool) → ArePlayed n
    → (n x).story name ≡ Some s → s.peer ≡ peer → s.asked ≡ asked → HasPeer (n (other x)) name s peer asked
    → HoldsBy n x name s peer
holds_by n x name s None asked h there peer is known = (is ∙ known.0, known.1)
-- one that asked
holds_by n x name s (Some taker) true h there peer is known =
    let pair = (h x).pairs name taker s there is in
    let p =
    pair_holds x n name taker s known.0 pair.0 pair.1 known.1 known.2 known.3
    (λ none. let no : None ≡ Some taker = sym none ∙ peer in absurd (cc)) in
    record {
      story = known.0;
      there = known.1;
      begins = p.linked (subst (λ o. IsLinked o taker) (sym peer) refl);
      named = inl known.3;
    }
-- one that was asked
holds_by n x name s (Some asker) false h there peer is known =
    let y = other x in
    let pair = (h y).pairs asker name known.0 known.1 known.2 in
    let here : (n (other y)).story name ≡ Some s = ap (λ z. (n z).story name) (twice x) ∙ there in
    let p = pair_holds y n asker name known.0 s pair.0 pair.1 here is peer (unread n y asker known.0 known.1 h) in
    record {
      story = known.0;
      there = known.1;
      begins = p.taken;
      named = ⊎_elim
          (λ (k : known.0.peer ≡ Some name). inl k)
          (λ (k : known.0.peer ≡ Some name → ⊥). inr (is, p.apart k))
          (peer_eq known.0.peer name);
    }

pub net_holds : (n : Net) (x : Side) (name : Name) → ArePlayed n → Holds n x name
net_holds n x name h s there =
    holds_by n x name s s.peer s.asked h there refl refl ((h x).station.stories name s there).peer
