-- Each datagram that a node posted, and from which a packet is read, is sealed under each counter that it has.
use Rattle.std.proofs.Common.{◌≡◌, ℕ, zero, suc, ◌+◌, ◌<◌, ◌≤◌, List, [], ◌∷◌, ◌++◌, length, take, Some, refl, sym, ap, ◌∙◌, subst, inl, inr, ◌⊎◌, ⊎_elim, append_assoc, append-nil, arith}
use Rattle.std.specs.Prelude.{slice_get}
use Rattle.chaos_packet.specs.Packet.{PacketView}
use Rattle.chaos_lab.specs.declared.side.Side.{Side}
use Rattle.chaos_lab.specs.declared.side.Side.TheVariants.{A, B}
use Rattle.chaos_lab.specs.Machine.{other}
use Rattle.chaos_link.specs.Link.{Addressed}
use Rattle.chaos_link.specs.Packets.{packets_read}
use Rattle.chaos_net.specs.Net.{Net}
use Rattle.chaos_net.proofs.Lists.{some_eq, get_front}
use Rattle.chaos_node.specs.Link.{packets_in, read_all}
use Rattle.chaos_sealed_net.specs.SealedNet.{Datagram, SealedNet, ComesAfter, MaySeal, with_datagram, sealed_after}
use Rattle.chaos_sealed_net.specs.SealedNet.SealedEvent.{Seals}
use Rattle.chaos_sealed_net.specs.SealedNodes.{Counters, AreRising}
use Rattle.chaos_sealed_net.proofs.Lists.{below_or_not, get_within, get_some, get_old, get_last, all_by_get}
use Rattle.chaos_sealed_net.proofs.Fresh.{Holding, holding_after}

-- what is read of a datagram
abbrev pub read_of : Addressed → List PacketView
read_of d = packets_in (packets_read d.bytes)

-- ---- lists of datagrams

pub length_both : {X : Type 0} (xs ys : List X) → length (xs ++ ys) ≡ length xs + length ys
length_both [] ys = omega arith
length_both (x ∷ xs) ys = let rest = length_both xs ys in omega (arith, rest)

take_front : {X : Type 0} (xs ys : List X) (k : ℕ) → k ≤ length xs → take k (xs ++ ys) ≡ take k xs
take_front xs ys zero few = refl
take_front [] ys (suc k) few = absurd (omega (arith, few))
take_front (x ∷ xs) ys (suc k) few = ap (λ zs. x ∷ zs) (take_front xs ys k (omega (arith, few)))

take_whole : {X : Type 0} (xs ys : List X) → take (length xs) (xs ++ ys) ≡ xs
take_whole [] ys = refl
take_whole (x ∷ xs) ys = ap (λ zs. x ∷ zs) (take_whole xs ys)

both_read : (ds es : List Addressed) → length (read_all (ds ++ es)) ≡ length (read_all ds) + length (read_all es)
both_read [] es = omega arith
both_read (d ∷ ds) es =
    let one = length_both (read_of d) (read_all (ds ++ es)) in
    let two = length_both (read_of d) (read_all ds) in
    let rest = both_read ds es in
    omega (arith, one, two, rest)

one_read : (ds : List Addressed) (d : Addressed) → length (read_all (ds ++ d ∷ [])) ≡ length (read_all ds) + length (read_of d)
one_read ds d =
    let both = both_read ds (d ∷ []) in
    let last = length_both (read_of d) (read_all []) in
    omega (arith, both, last)

-- ---- what is sealed of what was posted

-- the datagram with this number, under a counter, carries a packet and some more
abbrev pub sealed_of : List Addressed → ℕ → ℕ → ℕ → Datagram
sealed_of posts k counter more = record {
  counter = counter;
  first = length (read_all (take k posts));
  last = length (read_all (take k posts)) + more;
}

-- it is one of these, under a counter that this has
pub record IsOf (counters : ℕ → List ℕ) (posts : List Addressed) (e : Datagram) : Type 0 where
  pub number : ℕ
  pub place : ℕ
  pub early : number < length posts
  pub counter : slice_get (counters number) place ≡ Some e.counter
  pub last : e.last < length (read_all posts)

abbrev pub AreThere : (ℕ → List ℕ) → List Datagram → List Addressed → Type 0
AreThere counters datagrams posts = (k i c : ℕ) (d : Addressed) (p : PacketView) (ps : List PacketView)
    → slice_get posts k ≡ Some d → read_of d ≡ p ∷ ps → slice_get (counters k) i ≡ Some c
    → (m : ℕ) × (slice_get datagrams m ≡ Some (sealed_of posts k c (length ps)))

pub record IsPosted (counters : ℕ → List ℕ) (datagrams : List Datagram) (posts : List Addressed) : Type 0 where
  pub there : AreThere counters datagrams posts
  pub only : (m : ℕ) (e : Datagram) → slice_get datagrams m ≡ Some e → IsOf counters posts e

pub none_posted : (counters : ℕ → List ℕ) → IsPosted counters [] []
none_posted counters = record { there = λ k i c d p ps at. absurd (cc); only = λ m e at. absurd (cc) }

-- the number stands for the same datagram, whatever is posted later
sealed_still : (posts more : List Addressed) (k counter size : ℕ) → k ≤ length posts
    → sealed_of (posts ++ more) k counter size ≡ sealed_of posts k counter size
sealed_still posts more k counter size few = ap same (take_front posts more k few)
  where
    same : List Addressed → Datagram
    same ds = record { counter = counter; first = length (read_all ds); last = length (read_all ds) + size }

of_more : (counters : ℕ → List ℕ) (posts : List Addressed) (d : Addressed) (e : Datagram) → IsOf counters posts e
    → IsOf counters (posts ++ d ∷ []) e
of_more counters posts d e h =
    let early = h.early in
    let last = h.last in
    let size = length_both posts (d ∷ []) in
    let read = one_read posts d in
    record {
      number = h.number;
      place = h.place;
      early = omega (arith, early, size);
      counter = h.counter;
      last = omega (arith, last, read);
    }

-- a datagram without a packet
unread_posted : (counters : ℕ → List ℕ) (datagrams : List Datagram) (posts : List Addressed) (d : Addressed)
    → read_of d ≡ [] → IsPosted counters datagrams posts → IsPosted counters datagrams (posts ++ d ∷ [])
unread_posted counters datagrams posts d none h = record {
  there = λ k i c e p ps at read counter.
      ⊎_elim
      (λ (few : k < length posts).
      let old = h.there k i c e p ps (get_old posts (d ∷ []) k e few at) read counter in
      (old.0, old.1 ∙ ap Some (sym (sealed_still posts (d ∷ []) k c (length ps) (omega (arith, few))))))
      (λ (late : length posts ≤ k).
      let last = get_last posts d k e late at in
      let no : [] ≡ p ∷ ps = sym none ∙ ap read_of (sym last.0) ∙ read in
      absurd (cc))
      (below_or_not k (length posts));
  only = λ m e at. of_more counters posts d e (h.only m e at);
}

-- ---- a datagram is sealed under one counter after the other

-- a datagram that carries these packets, under a counter
abbrev under : ℕ → ℕ → ℕ → Datagram
under first last counter = record { counter = counter; first = first; last = last }

-- it is the next datagram, under one of the first so many counters that this has
record IsNext (counters : ℕ → List ℕ) (posts : List Addressed) (first last i : ℕ) (e : Datagram) : Type 0 where
  place : ℕ
  few : place < i
  counter : slice_get (counters (length posts)) place ≡ Some e.counter
  is_first : e.first ≡ first
  is_last : e.last ≡ last

-- all that was posted is sealed, and the next datagram under its first so many counters
record IsPart (counters : ℕ → List ℕ) (datagrams : List Datagram) (posts : List Addressed) (first last i : ℕ) : Type 0
  where
    there : AreThere counters datagrams posts
    here : (j c : ℕ) → j < i → slice_get (counters (length posts)) j ≡ Some c
        → (m : ℕ) × (slice_get datagrams m ≡ Some (under first last c))
    only : (m : ℕ) (e : Datagram) → slice_get datagrams m ≡ Some e
        → IsOf counters posts e ⊎ IsNext counters posts first last i e

in_place : (ds : List Datagram) (d : Datagram) → slice_get (ds ++ d ∷ []) (length ds) ≡ Some d
in_place [] d = refl
in_place (z ∷ ds) d = in_place ds d

one_more : (ds : Side → List Datagram) (x : Side) (d : Datagram) → with_datagram ds x d x ≡ ds x ++ d ∷ []
one_more ds A d = refl
one_more ds B d = refl

none_far : (ds : Side → List Datagram) (x : Side) (d : Datagram) → with_datagram ds x d (other x) ≡ ds (other x)
none_far ds A d = refl
none_far ds B d = refl

-- one counter more
part_next : (counters : ℕ → List ℕ) (datagrams : List Datagram) (posts : List Addressed) (first last i c : ℕ)
    → slice_get (counters (length posts)) i ≡ Some c → IsPart counters datagrams posts first last i
    → IsPart counters (datagrams ++ under first last c ∷ []) posts first last (i + 1)
part_next counters datagrams posts first last i c counter h = record { there = there; here = here; only = only }
  where
    there : AreThere counters (datagrams ++ under first last c ∷ []) posts
    there k j b d p ps at read has =
        let old = h.there k j b d p ps at read has in
        (old.0, get_front datagrams (under first last c ∷ []) old.0 (sealed_of posts k b (length ps)) old.1)

    here : (j b : ℕ) → j < i + 1 → slice_get (counters (length posts)) j ≡ Some b
        → (m : ℕ) × (slice_get (datagrams ++ under first last c ∷ []) m ≡ Some (under first last b))
    here j b few has =
        ⊎_elim
        (λ (before : j < i).
        let old = h.here j b before has in
        (old.0, get_front datagrams (under first last c ∷ []) old.0 (under first last b) old.1))
        (λ (late : i ≤ j).
        let same : j ≡ i = omega (arith, few, late) in
        let both : c ≡ b = some_eq (sym counter ∙ ap (slice_get (counters (length posts))) (sym same) ∙ has) in
        (length datagrams, in_place datagrams (under first last c) ∙ ap (λ a. Some (under first last a)) both))
        (below_or_not j i)

    only : (m : ℕ) (e : Datagram) → slice_get (datagrams ++ under first last c ∷ []) m ≡ Some e
        → IsOf counters posts e ⊎ IsNext counters posts first last (i + 1) e
    only m e at =
        ⊎_elim
        (λ (few : m < length datagrams).
        ⊎_elim (λ (old : IsOf counters posts e). inl old)
        (λ (next : IsNext counters posts first last i e).
        let before = next.few in
        inr
        (record { place = next.place; few = omega (arith, before); counter = next.counter; is_first = next.is_first; is_last = next.is_last }))
        (h.only m e (get_old datagrams (under first last c ∷ []) m e few at)))
        (λ (late : length datagrams ≤ m).
        let now = get_last datagrams (under first last c) m e late at in
        inr
        (record {
          place = i;
          few = omega arith;
          counter = counter ∙ ap Some (ap (λ (z : Datagram). z.counter) (sym now.0));
          is_first = ap (λ (z : Datagram). z.first) now.0;
          is_last = ap (λ (z : Datagram). z.last) now.0;
        }))
        (below_or_not m (length datagrams))

record IsPartBy (counters : ℕ → List ℕ) (s r : SealedNet) (x : Side) (posts : List Addressed) (first last i : ℕ)
    : Type 0 where
  holding : Holding r
  net : r.net ≡ s.net
  newest : r.newest ≡ s.newest
  far : r.datagrams (other x) ≡ s.datagrams (other x)
  part : IsPart counters (r.datagrams x) posts first last i

module _ (counters : Counters) (rising : AreRising counters) (x : Side) (posts : List Addressed) (more : ℕ) where
  may_seal : (s : SealedNet) (i c : ℕ) → slice_get (counters x (length posts)) i ≡ Some c
      → IsPart (counters x) (s.datagrams x) posts (length (read_all posts)) (length (read_all posts) + more) i
      → length (read_all posts) + more < length (s.net x).sent
      → MaySeal s x (under (length (read_all posts)) (length (read_all posts) + more) c)
  may_seal s i c counter h sent = record {
    some = rising.some x (length posts) i c counter;
    order = omega arith;
    sent = sent;
    after =
        all_by_get (λ e. ComesAfter e (under (length (read_all posts)) (length (read_all posts) + more) c))
        (s.datagrams x)
        (λ m e at.
        ⊎_elim
        (λ (old : IsOf (counters x) posts e).
        let last = old.last in
        record {
          counter = rising.later x old.number (length posts) old.place i e.counter c old.early old.counter counter;
          packets = inl (omega (arith, last));
        })
        (λ (next : IsNext (counters x) posts (length (read_all posts)) (length (read_all posts) + more) i e).
        record {
          counter = rising.again x (length posts) next.place i e.counter c next.few next.counter counter;
          packets = inr (sym next.is_first, sym next.is_last);
        })
        (h.only m e at));
  }

  -- the counters that are left
  seal_counters : (left : ℕ) (s : SealedNet) (i : ℕ) → i + left ≡ length (counters x (length posts)) → Holding s
      → IsPart (counters x) (s.datagrams x) posts (length (read_all posts)) (length (read_all posts) + more) i
      → length (read_all posts) + more < length (s.net x).sent
      → (r : SealedNet)
      × IsPartBy (counters x) s r x posts (length (read_all posts)) (length (read_all posts) + more)
      (length (counters x (length posts)))
  seal_counters zero s i all h part sent =
      let same : i ≡ length (counters x (length posts)) = omega (arith, all) in
      (s, record { holding = h; net = refl; newest = refl; far = refl; part = subst (IsPart (counters x) (s.datagrams x) posts (length (read_all posts)) (length (read_all posts) + more)) same part })
  seal_counters (suc left) s i all h part sent =
      let c = get_some (counters x (length posts)) i (omega (arith, all)) in
      let new : Datagram = under (length (read_all posts)) (length (read_all posts) + more) c.0 in
      let u : SealedNet = sealed_after s (Seals x new) in
      let next : IsPart (counters x) (u.datagrams x) posts (length (read_all posts)) (length (read_all posts) + more) (i + 1) =
      subst (λ ds. IsPart (counters x) ds posts (length (read_all posts)) (length (read_all posts) + more) (i + 1))
      (sym (one_more s.datagrams x new))
      (part_next (counters x) (s.datagrams x) posts (length (read_all posts)) (length (read_all posts) + more) i c.0 c.1 part) in
      let rest =
      seal_counters left u (i + 1) (omega (arith, all))
      (holding_after s h (Seals x new) (may_seal s i c.0 c.1 part sent)) next sent in (
        rest.0,
        record {
          holding = rest.1.holding;
          net = rest.1.net;
          newest = rest.1.newest;
          far = rest.1.far ∙ none_far s.datagrams x new;
          part = rest.1.part;
        },
      )

-- under all its counters it is posted
part_posted : (counters : ℕ → List ℕ) (datagrams : List Datagram) (posts : List Addressed) (d : Addressed)
    (p : PacketView) (ps : List PacketView)
    → read_of d ≡ p ∷ ps
    → IsPart counters datagrams posts (length (read_all posts)) (length (read_all posts) + length ps)
    (length (counters (length posts)))
    → IsPosted counters datagrams (posts ++ d ∷ [])
part_posted counters datagrams posts d p ps read h = record { there = there; only = only }
  where
    there : AreThere counters datagrams (posts ++ d ∷ [])
    there k i c e q qs at has counter =
        ⊎_elim
        (λ (few : k < length posts).
        let old = h.there k i c e q qs (get_old posts (d ∷ []) k e few at) has counter in
        (old.0, old.1 ∙ ap Some (sym (sealed_still posts (d ∷ []) k c (length qs) (omega (arith, few))))))
        (λ (late : length posts ≤ k).
        let last = get_last posts d k e late at in
        let same : p ∷ ps ≡ q ∷ qs = sym read ∙ ap read_of (sym last.0) ∙ has in
        let sizes : length ps ≡ length qs = let both = ap length same in omega (arith, both) in
        let mine : slice_get (counters (length posts)) i ≡ Some c =
        ap (λ (z : ℕ). slice_get (counters z) i) (sym last.1) ∙ counter in
        let new = h.here i c (get_within (counters (length posts)) i c mine) mine in
        let front : read_all posts ≡ read_all (take k (posts ++ d ∷ [])) =
        ap read_all (sym (take_whole posts (d ∷ [])) ∙ ap (λ (z : ℕ). take z (posts ++ d ∷ [])) (sym last.1)) in
        (new.0, new.1 ∙ (λ j. Some (under (length (front j)) (length (front j) + sizes j) c))))
        (below_or_not k (length posts))

    only : (m : ℕ) (e : Datagram) → slice_get datagrams m ≡ Some e → IsOf counters (posts ++ d ∷ []) e
    only m e at =
        ⊎_elim (λ (old : IsOf counters posts e). of_more counters posts d e old)
        (λ (next : IsNext counters posts (length (read_all posts)) (length (read_all posts) + length ps) (length (counters (length posts))) e).
        let size = length_both posts (d ∷ []) in
        let all = one_read posts d in
        let here = ap length read in
        let last = next.is_last in
        record {
          number = length posts;
          place = next.place;
          early = omega (arith, size);
          counter = next.counter;
          last = omega (arith, all, here, last);
        })
        (h.only m e at)

-- ---- all that is posted is sealed

pub record IsSealedBy (counters : ℕ → List ℕ) (s r : SealedNet) (x : Side) (posts : List Addressed) : Type 0 where
  pub holding : Holding r
  pub net : r.net ≡ s.net
  pub newest : r.newest ≡ s.newest
  pub far : r.datagrams (other x) ≡ s.datagrams (other x)
  pub posted : IsPosted counters (r.datagrams x) posts

module _ (counters : Counters) (rising : AreRising counters) (x : Side) where
  -- one datagram
  seal_one : (s : SealedNet) (done : List Addressed) (d : Addressed) → Holding s
      → IsPosted (counters x) (s.datagrams x) done → length (read_all (done ++ d ∷ [])) ≤ length (s.net x).sent
      → (r : SealedNet) × IsSealedBy (counters x) s r x (done ++ d ∷ [])
  seal_one s done d h posted sent = by (read_of d) refl
    where
      by : (qs : List PacketView) → read_of d ≡ qs
          → (r : SealedNet) × IsSealedBy (counters x) s r x (done ++ d ∷ [])
      by [] read = (
        s,
        record {
          holding = h;
          net = refl;
          newest = refl;
          far = refl;
          posted = unread_posted (counters x) (s.datagrams x) done d read posted;
        },
      )
      by (p ∷ ps) read =
          let all = one_read done d in
          let here = ap length read in
          let start : IsPart (counters x) (s.datagrams x) done (length (read_all done)) (length (read_all done) + length ps) 0 =
          record {
            there = posted.there;
            here = λ j c few at. absurd (omega (arith, few));
            only = λ m e at. inl (posted.only m e at);
          } in
          let r =
          seal_counters counters rising x done (length ps) (length (counters x (length done))) s 0 (omega arith) h start
          (omega (arith, all, here, sent)) in (
            r.0,
            record {
              holding = r.1.holding;
              net = r.1.net;
              newest = r.1.newest;
              far = r.1.far;
              posted = part_posted (counters x) (r.0.datagrams x) done d p ps read r.1.part;
            },
          )

  pub seal_all : (s : SealedNet) (done todo : List Addressed) → Holding s
      → IsPosted (counters x) (s.datagrams x) done → length (read_all (done ++ todo)) ≤ length (s.net x).sent
      → (r : SealedNet) × IsSealedBy (counters x) s r x (done ++ todo)
  seal_all s done [] h posted sent =
      (s, record { holding = h; net = refl; newest = refl; far = refl; posted = subst (IsPosted (counters x) (s.datagrams x)) (sym (append-nil done)) posted })
  seal_all s done (d ∷ todo) h posted sent =
      let same : (done ++ d ∷ []) ++ todo ≡ done ++ d ∷ todo = append_assoc done (d ∷ []) todo in
      let still : length (read_all ((done ++ d ∷ []) ++ todo)) ≤ length (s.net x).sent =
      subst (λ (ds : List Addressed). length (read_all ds) ≤ length (s.net x).sent) (sym same) sent in
      let both = both_read (done ++ d ∷ []) todo in
      let one = seal_one s done d h posted (omega (arith, both, still)) in
      let rest =
      seal_all one.0 (done ++ d ∷ []) todo one.1.holding one.1.posted
      (subst (λ (n : Net). length (read_all ((done ++ d ∷ []) ++ todo)) ≤ length (n x).sent) (sym one.1.net) still) in (
        rest.0,
        record {
          holding = rest.1.holding;
          net = rest.1.net ∙ one.1.net;
          newest = rest.1.newest ∙ one.1.newest;
          far = rest.1.far ∙ one.1.far;
          posted = subst (IsPosted (counters x) (rest.0.datagrams x)) same rest.1.posted;
        },
      )
