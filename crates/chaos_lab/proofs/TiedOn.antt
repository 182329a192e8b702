-- A call of one connection keeps the tie.
use Rattle.std.proofs.Common.{◌≡◌, ℕ, zero, suc, ◌+◌, ◌<◌, ◌≤◌, List, [], ◌∷◌, ◌++◌, length, map, true, false, cond, None, refl, sym, ap, ◌∙◌, subst, inl, inr, ⊎_elim, arith}
use Rattle.std.specs.Prelude.{slice_get}
use Rattle.std.specs.List.{All, AllZip, AllByRecursion}
use Rattle.std.specs.FinSet.{contains}
use Rattle.std.proofs.lemmas.Bool.{cond-false, cases_Bool}
use Rattle.std.proofs.lemmas.List.Elements.{All-append, All-weaker, All-from_recursion, recursion_from_All}
use Rattle.chaos_lab.specs.declared.side.Side.{Side}
use Rattle.chaos_lab.specs.declared.side.Side.TheVariants.{A, B}
use Rattle.chaos_lab.specs.Machine.{PlainEnd as Plain}
use Rattle.chaos_lab.specs.Machine.Phase.{Inactive, RfcSent, RfcReceived, Open, Ended, Closed}
use Rattle.chaos_lab.specs.Machine.Kind.{Nth, Sns, Sts, Cls}
use Rattle.chaos_lab.specs.declared.stamped.Stamped.{Stamped}
use Rattle.chaos_lab.specs.Machine.{Phase, Kind, Told, Copy, Machine, Event, other, end_of, Tells, IsSent, Step}
use Rattle.chaos_lab.proofs.Directions.{Sound}
use Rattle.chaos_lab.proofs.Grows.{Grows, item_stays}
use Rattle.chaos_lab.proofs.Machines.{reached_holds, end_later, reached_on}
use Rattle.chaos_lab.proofs.Functions.{step_later, step_holds}
use Rattle.chaos_packet.specs.Item.{ItemView}
use Rattle.chaos_packet.specs.Packet.{PacketView}
use Rattle.chaos_window.specs.Receive.{started_receive}
use Rattle.chaos_conn.specs.View.{ConnView}
use Rattle.chaos_conn.specs.Acted.{Acted}
use Rattle.chaos_lab.specs.Shown.{Rest, shown_at, recv_view, recv_shown, there_at, StandsFor, IsWhat, IsPut, HasItems, Leaves, Stands}
use Rattle.chaos_lab.specs.Tied.{base_of, StandsCopy, Agrees, MetBefore, Tied}
use Rattle.chaos_lab.specs.Laboratory.{stamp}
use Rattle.chaos_lab.proofs.RecvTie.{same_slots}
use Rattle.chaos_lab.proofs.SendTie.{read_within}

module _ {X Y : Type 0} where
  pub AllZip-weaker : (R S : X → Y → Type 0) → ((x : X) (y : Y) → R x y → S x y) → (xs : List X) (ys : List Y)
      → AllZip R xs ys → AllZip S xs ys
  AllZip-weaker R S f [] [] h = tt
  AllZip-weaker R S f [] (y ∷ ys) h = h
  AllZip-weaker R S f (x ∷ xs) [] h = h
  AllZip-weaker R S f (x ∷ xs) (y ∷ ys) h = (f x y h.0, AllZip-weaker R S f xs ys h.1)

  pub AllZip-append : (R : X → Y → Type 0) (xs : List X) (ys : List Y) (us : List X) (vs : List Y) → AllZip R xs ys
      → AllZip R us vs → AllZip R (xs ++ us) (ys ++ vs)
  AllZip-append R [] [] us vs h k = k
  AllZip-append R [] (y ∷ ys) us vs h k = absurd h
  AllZip-append R (x ∷ xs) [] us vs h k = absurd h
  AllZip-append R (x ∷ xs) (y ∷ ys) us vs h k = (h.0, AllZip-append R xs ys us vs h.1 k)

-- ---- the end that doesn't act

pub front_same : (xs ys : List ItemView) (i : ℕ) → i < length xs → slice_get xs i ≡ slice_get (xs ++ ys) i
front_same [] ys i h = absurd (omega arith)
front_same (x ∷ xs) ys zero h = refl
front_same (x ∷ xs) ys (suc i) h = front_same xs ys i (omega arith)

recv_same : (b' : ℕ) (p q e : Plain) (more : List ItemView) → Sound p e → q.written ≡ p.written ++ more
    → recv_shown b' p e ≡ recv_shown b' q e
recv_same b' p q e more d is =
    let at : (i : ℕ) → there_at p e i ≡ there_at q e i = λ i.
    ⊎_elim
    (λ (t : contains e.arrived i ≡ true). ap (λ o. cond (contains e.arrived i) o None)
    (front_same p.written more i (d.within i t) ∙ sym (ap (λ ws. slice_get ws i) is)))
    (λ (t : contains e.arrived i ≡ false). cond-false _ _ _ t ∙ sym (cond-false _ _ _ t))
    (cases_Bool (contains e.arrived i)) in
    λ j. cond (contains e.arrived 0)
    (record (recv_view b' p e)
    { held = same_slots p e q e (length e.read) e.recv_cap (λ k l. at (length e.read + k)) j })
    (started_receive e.recv_cap 0)

peer_writes_at : (phase : Phase) (y : Side) (rest : Rest) (b b' : ℕ) (p q e : Plain) (more : List ItemView) → Sound p e
    → q.written ≡ p.written ++ more → shown_at phase y rest b b' p e ≡ shown_at phase y rest b b' q e
peer_writes_at Inactive y rest b b' p q e more d is = refl
peer_writes_at Closed y rest b b' p q e more d is = refl
peer_writes_at RfcSent y rest b b' p q e more d is =
    λ j. record (shown_at RfcSent y rest b b' p e) { recv = recv_same b' p q e more d is j }
peer_writes_at RfcReceived y rest b b' p q e more d is =
    λ j. record (shown_at RfcReceived y rest b b' p e) { recv = recv_same b' p q e more d is j }
peer_writes_at Open y rest b b' p q e more d is =
    λ j. record (shown_at Open y rest b b' p e) { recv = recv_same b' p q e more d is j }
peer_writes_at Ended y rest b b' p q e more d is =
    λ j. record (shown_at Ended y rest b b' p e) { recv = recv_same b' p q e more d is j }

pub peer_writes : (y : Side) (b b' : ℕ) (p q e : Plain) (more : List ItemView) (v : ConnView) → Sound p e
    → q.written ≡ p.written ++ more → Stands y b b' p e v → Stands y b b' q e v
peer_writes y b b' p q e more v d is s = (s.0, s.1, s.2 ∙ peer_writes_at e.phase y s.0 b b' p q e more d is)

-- ---- the packets put out, as copies

agrees_sent : (kind : Kind) (x : Side) (e : Plain) (told : Told) → Tells kind x e told → Agrees x kind told
agrees_sent (Nth zero) A e told t = subst (Agrees A (Nth zero)) (sym t) tt
agrees_sent (Nth zero) B e told t = subst (Agrees B (Nth zero)) (sym t) tt
agrees_sent (Nth (suc i)) A e told t = subst (Agrees A (Nth (suc i))) (sym t) tt
agrees_sent (Nth (suc i)) B e told t = subst (Agrees B (Nth (suc i))) (sym t) tt
agrees_sent Sns A e told t = subst (Agrees A Sns) (sym t) tt
agrees_sent Sns B e told t = subst (Agrees B Sns) (sym t) tt
agrees_sent Sts A e told t = subst (Agrees A Sts) (sym t.2) tt
agrees_sent Sts B e told t = subst (Agrees B Sts) (sym t.2) tt
agrees_sent Cls A e told t = subst (Agrees A Cls) (sym t) tt
agrees_sent Cls B e told t = subst (Agrees B Cls) (sym t) tt

-- what was sent at side x of the world w, which its step has led to
pub record Sent (ba bb : ℕ) (x : Side) (w : Machine) (packets : List PacketView) : Type 0 where
  pub copies : List Copy
  pub sent : All (IsSent w x) copies
  pub stand : AllZip (StandsCopy ba bb w) (map (stamp x (length w.a.written) (length w.b.written)) packets) copies
  pub kinds : All (λ c. Agrees c.sender c.kind c.told) copies
  pub met : (x ≡ A → length w.a.read ≤ length w.b.written) → All (MetBefore w) copies

All-cons : {X : Type 0} → (P : X → Type 0) → (x : X) (xs : List X) → P x → All P xs → All P (x ∷ xs)
All-cons P x xs h all = All-from_recursion P (x ∷ xs) (h, recursion_from_All P xs all)

-- by recursion on what is put out
sent_more : (packets : List PacketView) (ba bb : ℕ) (x : Side) (w : Machine)
    → AllByRecursion (IsPut x (base_of ba bb x) (base_of ba bb (other x)) (end_of w x)) packets → Sent ba bb x w packets
sent_more [] ba bb x w h =
    record { copies = []; sent = All-from_recursion _ [] tt; stand = tt; kinds = All-from_recursion _ [] tt; met = λ _. All-from_recursion _ [] tt }
sent_more (pk ∷ packets) ba bb x w h =
    let put : IsPut x (base_of ba bb x) (base_of ba bb (other x)) (end_of w x) pk = h.0 in
    let rest = sent_more packets ba bb x w h.1 in
    let c : Copy =
    record { sender = x; kind = put.kind; told = put.told; len_a = length w.a.written; len_b = length w.b.written } in
    record {
      copies = c ∷ rest.copies;
      sent =
          All-cons (IsSent w x) c rest.copies
          (record { sender = refl; may = put.may; tells = put.tells; len_a = refl; len_b = refl }) rest.sent;
      stand = (record { side = refl; len_a = refl; len_b = refl; stands = put.stands }, rest.stand);
      kinds =
          All-cons (λ c. Agrees c.sender c.kind c.told) c rest.copies
          (agrees_sent put.kind x (end_of w x) put.told put.tells) rest.kinds;
      met = λ within. All-cons (MetBefore w) c rest.copies
          (λ is. ⊎_elim (λ (t : put.kind ≡ Nth 0). inl t)
          (λ (t : 1 ≤ length (end_of w x).read). let read : 1
          ≤ length w.a.read = subst (λ y. 1 ≤ length (end_of w y).read) is t in let more = within is in inr
          (omega arith))
          (put.met is))
          (rest.met within);
    }

pub sent_of : (packets : List PacketView) (ba bb : ℕ) (x : Side) (w : Machine)
    → All (IsPut x (base_of ba bb x) (base_of ba bb (other x)) (end_of w x)) packets → Sent ba bb x w packets
sent_of packets ba bb x w h = sent_more packets ba bb x w (recursion_from_All _ packets h)

-- ---- a packet stands for its copy however its sender goes on

what_later : (kind : Kind) (b : ℕ) (e f : Plain) (pk : PacketView) → Grows e f → IsWhat b e pk kind → IsWhat b f pk kind
what_later (Nth i) b e f pk g h = (item_stays e f i (record { op = pk.op; body = pk.body }) g h.0, h.1)
what_later Sns b e f pk g h = h
what_later Sts b e f pk g h = h
what_later Cls b e f pk g h = h

pub copy_later : (ba bb : ℕ) (w v : Machine) (s : Stamped) (c : Copy) → Grows (end_of w c.sender) (end_of v c.sender)
    → StandsCopy ba bb w s c → StandsCopy ba bb v s c
copy_later ba bb w v s c g h =
    record { side = h.side; len_a = h.len_a; len_b = h.len_b; stands = record { header = h.stands.header; what = what_later c.kind _ _ _ s.packet g h.stands.what; tells = h.stands.tells } }

-- ---- the tie, where an end goes on to e

module _ {R : Type 0} where
  pub on_b : (ba bb : ℕ) (w : Machine) (va vb : ConnView) (stamped : List Stamped) (event : Event) (e : Plain)
      (more : List ItemView) (acted : Acted R)
      → Tied ba bb w va vb stamped → Leaves B bb ba w.a e acted
      → ((sent : List Copy) → All (IsSent (record w { b = e }) B) sent
      → Step w event (record w { b = e; copies = w.copies ++ sent }))
      → e.written ≡ w.b.written ++ more → HasItems B ba e
      → (v : Machine) × Step w event v
      × Tied ba bb v va acted.view (stamped ++ map (stamp B (length w.a.written) (length e.written)) acted.packets)
      × (v.a ≡ w.a) × (v.b ≡ e)
  on_b ba bb w va vb stamped event e more acted t l step longer its =
      let u : Machine = record w { b = e } in
      let s = sent_of acted.packets ba bb B u l.packets in
      let v : Machine = record w { b = e; copies = w.copies ++ s.copies } in
      let stepped : Step w event v = step s.copies s.sent in
      let h = reached_holds w t.reached in
      let later = step_later w event v h stepped in (
        v,
        stepped,
        record {
          reached = reached_on w event v t.reached stepped;
          a = peer_writes A ba bb w.b e w.a more va h.ba longer t.a;
          b = (l.rest, l.ended, l.view);
          copies = AllZip-append (StandsCopy ba bb v) stamped w.copies _ s.copies
              (AllZip-weaker (StandsCopy ba bb w) (StandsCopy ba bb v)
              (λ q c is. copy_later ba bb w v q c (end_later w v c.sender later) is) stamped w.copies t.copies)
              (AllZip-weaker (StandsCopy ba bb u) (StandsCopy ba bb v) (λ q c is. same_ends u s.copies q c is) _
              s.copies s.stand);
          kinds = All-append (λ c. Agrees c.sender c.kind c.told) w.copies s.copies t.kinds s.kinds;
          met = All-append (MetBefore v) w.copies s.copies
              (All-weaker (MetBefore w) (MetBefore v)
              (λ c m by. ⊎_elim (λ (z : c.kind ≡ Nth 0). inl z)
              (λ (z : 1 ≤ length w.b.written). inr (omega (arith, later.b.written_more))) (m by))
              w.copies t.met)
              (s.met (λ is. absurd (b_not_a is)));
          items_a = t.items_a;
          items_b = its;
        },
        refl,
        refl,
      )
    where
      b_not_a : B ≡ A → ⊥
      b_not_a is = cc

      same_ends : (u : Machine) (sent : List Copy) (q : Stamped) (c : Copy) → StandsCopy ba bb u q c
          → StandsCopy ba bb (record u { copies = u.copies ++ sent }) q c
      same_ends u sent q c is =
          record { side = is.side; len_a = is.len_a; len_b = is.len_b; stands = by_side c.sender is.stands }
        where
          by_side : (x : Side)
              → StandsFor x (base_of ba bb x) (base_of ba bb (other x)) (end_of u x) q.packet c.kind c.told
              → StandsFor x (base_of ba bb x) (base_of ba bb (other x))
              (end_of (record u { copies = u.copies ++ sent }) x) q.packet c.kind c.told
          by_side A z = z
          by_side B z = z

  pub on_a : (ba bb : ℕ) (w : Machine) (va vb : ConnView) (stamped : List Stamped) (event : Event) (e : Plain)
      (more : List ItemView) (acted : Acted R)
      → Tied ba bb w va vb stamped → Leaves A ba bb w.b e acted
      → ((sent : List Copy) → All (IsSent (record w { a = e }) A) sent
      → Step w event (record w { a = e; copies = w.copies ++ sent }))
      → e.written ≡ w.a.written ++ more → HasItems A bb e
      → (v : Machine) × Step w event v
      × Tied ba bb v acted.view vb (stamped ++ map (stamp A (length e.written) (length w.b.written)) acted.packets)
      × (v.a ≡ e) × (v.b ≡ w.b)
  on_a ba bb w va vb stamped event e more acted t l step longer its =
      let u : Machine = record w { a = e } in
      let s = sent_of acted.packets ba bb A u l.packets in
      let v : Machine = record w { a = e; copies = w.copies ++ s.copies } in
      let stepped : Step w event v = step s.copies s.sent in
      let h = reached_holds w t.reached in
      let later = step_later w event v h stepped in
      let holds = step_holds w event v h stepped in (
        v,
        stepped,
        record {
          reached = reached_on w event v t.reached stepped;
          a = (l.rest, l.ended, l.view);
          b = peer_writes B bb ba w.a e w.b more vb h.ab longer t.b;
          copies = AllZip-append (StandsCopy ba bb v) stamped w.copies _ s.copies
              (AllZip-weaker (StandsCopy ba bb w) (StandsCopy ba bb v)
              (λ q c is. copy_later ba bb w v q c (end_later w v c.sender later) is) stamped w.copies t.copies)
              (AllZip-weaker (StandsCopy ba bb u) (StandsCopy ba bb v) (λ q c is. same_ends u s.copies q c is) _
              s.copies s.stand);
          kinds = All-append (λ c. Agrees c.sender c.kind c.told) w.copies s.copies t.kinds s.kinds;
          met = All-append (MetBefore v) w.copies s.copies
              (All-weaker (MetBefore w) (MetBefore v)
              (λ c m by. ⊎_elim (λ (z : c.kind ≡ Nth 0). inl z)
              (λ (z : 1 ≤ length w.b.written). inr (omega (arith, later.b.written_more))) (m by))
              w.copies t.met)
              (s.met (λ is. read_within e w.b holds.ba));
          items_a = its;
          items_b = t.items_b;
        },
        refl,
        refl,
      )
    where
      same_ends : (u : Machine) (sent : List Copy) (q : Stamped) (c : Copy) → StandsCopy ba bb u q c
          → StandsCopy ba bb (record u { copies = u.copies ++ sent }) q c
      same_ends u sent q c is =
          record { side = is.side; len_a = is.len_a; len_b = is.len_b; stands = by_side c.sender is.stands }
        where
          by_side : (x : Side)
              → StandsFor x (base_of ba bb x) (base_of ba bb (other x)) (end_of u x) q.packet c.kind c.told
              → StandsFor x (base_of ba bb x) (base_of ba bb (other x))
              (end_of (record u { copies = u.copies ++ sent }) x) q.packet c.kind c.told
          by_side A z = z
          by_side B z = z
