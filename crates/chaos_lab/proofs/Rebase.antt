-- Before B has written, nothing depends on its first number: Accept may choose it.
use Rattle.std.proofs.Common.{◌≡◌, ℕ, ◌≤◌, List, [], ◌∷◌, length, false, ltb, refl, sym, ◌∙◌, subst, ⊎_elim, ◌⊎◌, arith}
use Rattle.std.specs.List.{AllZip, AllByRecursion}
use Rattle.std.proofs.lemmas.List.Elements.{recursion_from_All}
use Rattle.std.specs.FinSet.{contains}
use Rattle.std.proofs.lemmas.Bool.{cond-false, false_from_ne_true, le-ltb}
use Rattle.chaos_lab.specs.declared.side.Side.{Side}
use Rattle.chaos_lab.specs.declared.side.Side.TheVariants.{A, B}
use Rattle.chaos_lab.specs.Machine.{PlainEnd as Plain}
use Rattle.chaos_lab.specs.Machine.Phase.{Inactive, RfcSent, RfcReceived, Open, Ended, Closed}
use Rattle.chaos_lab.specs.Machine.Told.{Nothing, Acknowledges, Status}
use Rattle.chaos_lab.specs.Machine.Kind.{Nth, Sns, Sts, Cls}
use Rattle.chaos_lab.specs.declared.stamped.Stamped.{Stamped}
use Rattle.chaos_lab.specs.Machine.{Phase, Kind, Told, Copy, Machine, other, end_of}
use Rattle.chaos_lab.proofs.Machines.{reached_holds}
use Rattle.chaos_lab.proofs.Copies.{IsCopyOk, KindOk, len_of}
use Rattle.chaos_packet.specs.Packet.{PacketView}
use Rattle.chaos_window.specs.Send.{clear_send}
use Rattle.chaos_window.specs.Receive.{started_receive}
use Rattle.chaos_conn.specs.View.{ConnView}
use Rattle.chaos_lab.specs.Shown.{Rest, shown_at, send_view, recv_view, send_shown, recv_shown, StandsFor, IsWhat, CarriesTold}
use Rattle.chaos_lab.specs.Tied.{base_of, StandsCopy, Agrees, MetBefore, Tied}

-- A's view, while nothing arrived
a_any : (phase : Phase) (rest : Rest) (b b' c : ℕ) (p e : Plain) → contains e.arrived 0 ≡ false
    → shown_at phase A rest b b' p e ≡ shown_at phase A rest b c p e
a_any phase rest b b' c p e none = by phase
  where
    recv : recv_shown b' p e ≡ recv_shown c p e
    recv =
        cond-false _ _ _ none
        ∙ sym (cond-false (contains e.arrived 0) (recv_view c p e) (started_receive e.recv_cap 0) none)

    by : (phase : Phase) → shown_at phase A rest b b' p e ≡ shown_at phase A rest b c p e
    by Inactive = refl
    by Closed = refl
    by RfcSent = λ j. record (shown_at RfcSent A rest b b' p e) { recv = recv j }
    by RfcReceived = λ j. record (shown_at RfcReceived A rest b b' p e) { recv = recv j }
    by Open = λ j. record (shown_at Open A rest b b' p e) { recv = recv j }
    by Ended = λ j. record (shown_at Ended A rest b b' p e) { recv = recv j }

-- B's view, while it wrote nothing
b_any : (phase : Phase) (rest : Rest) (b c b' : ℕ) (p e : Plain) → length e.written ≡ 0
    → shown_at phase B rest b b' p e ≡ shown_at phase B rest c b' p e
b_any phase rest b c b' p e none = by phase
  where
    test : ltb 0 (length e.written) ≡ false
    test = le-ltb 0 (length e.written) (omega arith)

    send : send_shown b e ≡ send_shown c e
    send =
        cond-false _ _ _ test ∙ sym (cond-false (ltb 0 (length e.written)) (send_view c e) (clear_send e.send_cap) test)

    by : (phase : Phase) → shown_at phase B rest b b' p e ≡ shown_at phase B rest c b' p e
    by Inactive = refl
    by Closed = refl
    by RfcSent = λ j. record (shown_at RfcSent B rest b b' p e) { send = send j }
    by RfcReceived = λ j. record (shown_at RfcReceived B rest b b' p e) { send = send j }
    by Open = λ j. record (shown_at Open B rest b b' p e) { send = send j }
    by Ended = λ j. record (shown_at Ended B rest b b' p e) { send = send j }

-- the packets so far
told_any : (kind : Kind) (told : Told) (b' c : ℕ) (pk : PacketView) → kind ≡ Nth 0 → Agrees A kind told
    → CarriesTold b' pk told → CarriesTold c pk told
told_any kind Nothing b' c pk is ag h = h
told_any kind (Acknowledges r) b' c pk is ag h = absurd (subst (λ k. Agrees A k (Acknowledges r)) is ag)
told_any kind (Status r f w) b' c pk is ag h = absurd (subst (λ k. Agrees A k (Status r f w)) is ag)

what_any : (kind : Kind) (b c len : ℕ) (e : Plain) (pk : PacketView) → length e.written ≡ 0 → KindOk kind e len
    → IsWhat b e pk kind → IsWhat c e pk kind
what_any (Nth i) b c len e pk none near h = absurd (omega (arith, near.0))
what_any Sns b c len e pk none near h = h
what_any Sts b c len e pk none near h = h
what_any Cls b c len e pk none near h = h

stands_any : (ba bb c len : ℕ) (x : Side) (w : Machine) (pk : PacketView) (kind : Kind) (told : Told)
    → length w.b.written ≡ 0 → KindOk kind (end_of w x) len → Agrees x kind told
    → (x ≡ A → (kind ≡ Nth 0) ⊎ (1 ≤ length w.b.written))
    → StandsFor x (base_of ba bb x) (base_of ba bb (other x)) (end_of w x) pk kind told
    → StandsFor x (base_of ba c x) (base_of ba c (other x)) (end_of w x) pk kind told
stands_any ba bb c len A w pk kind told none near ag met s =
    ⊎_elim
    (λ (is : kind ≡ Nth 0).
    record { header = s.header; what = s.what; tells = told_any kind told bb c pk is ag s.tells })
    (λ (t : 1 ≤ length w.b.written). absurd (omega arith))
    (met refl)
stands_any ba bb c len B w pk kind told none near ag met s =
    record { header = s.header; what = what_any kind bb c len w.b pk none near s.what; tells = s.tells }

copies_any : (ss : List Stamped) (cs : List Copy) (ba bb c : ℕ) (w : Machine) → length w.b.written ≡ 0
    → AllByRecursion (IsCopyOk w) cs → AllByRecursion (λ c. Agrees c.sender c.kind c.told) cs
    → AllByRecursion (MetBefore w) cs → AllZip (StandsCopy ba bb w) ss cs → AllZip (StandsCopy ba c w) ss cs
copies_any [] [] ba bb c w none ok kinds met h = tt
copies_any [] (d ∷ cs) ba bb c w none ok kinds met h = h
copies_any (s ∷ ss) [] ba bb c w none ok kinds met h = h
copies_any (s ∷ ss) (d ∷ cs) ba bb c w none ok kinds met h = (
  record { side = h.0.side; len_a = h.0.len_a; len_b = h.0.len_b; stands = stands_any ba bb c (len_of d d.sender) d.sender w s.packet d.kind d.told none ok.0.kind_ok kinds.0 met.0 h.0.stands },
  copies_any ss cs ba bb c w none ok.1 kinds.1 met.1 h.1,
)

-- B's first number may be any, until it writes
pub rebase : (ba bb c : ℕ) (w : Machine) (va vb : ConnView) (stamped : List Stamped) → length w.b.written ≡ 0
    → Tied ba bb w va vb stamped → Tied ba c w va vb stamped
rebase ba bb c w va vb stamped none t =
    let h = reached_holds w t.reached in
    let new : contains w.a.arrived 0 ≡ false = false_from_ne_true _ (λ u. let z = h.ba.within 0 u in omega arith) in
    record {
      reached = t.reached;
      a = (t.a.0, t.a.1, t.a.2 ∙ a_any w.a.phase t.a.0 ba bb c w.b w.a new);
      b = (t.b.0, t.b.1, t.b.2 ∙ b_any w.b.phase t.b.0 bb c ba w.a w.b none);
      copies =
          copies_any stamped w.copies ba bb c w none (recursion_from_All _ w.copies h.copies)
          (recursion_from_All _ w.copies t.kinds) (recursion_from_All _ w.copies t.met) t.copies;
      kinds = t.kinds;
      met = t.met;
      items_a = record { first = t.items_a.first; users = t.items_a.users };
      items_b = t.items_b;
    }
