-- A run from a start, in which the connection opens and B reads what A wrote.
use Rattle.std.proofs.Common.{ℕ, zero, suc, [], ◌∷◌, ◌++◌, Some, refl, inl, inr, arith, lit<, lit≤}
use Rattle.std.specs.List.{All, Contains}
use Rattle.std.proofs.lemmas.List.Elements.{All-nil, All-cons}
use Rattle.std.specs.FinSet.{empty, insert}
use Rattle.chaos_packet.specs.Item.{ItemView}
use Rattle.chaos_lab.specs.declared.side.Side.TheVariants.{A, B}
use Rattle.chaos_lab.specs.Machine.{AreCaps, Copy, Machine, Caps, with_end, hear, take_in, read_item, read_next, Schedule, IsSent, Step, Run, start, Reached}
use Rattle.chaos_lab.specs.Machine.Told.{Nothing, Acknowledges, Status}
use Rattle.chaos_lab.specs.Machine.Kind.{Nth}
use Rattle.chaos_lab.specs.Machine.Phase.{RfcReceived, Open}
use Rattle.chaos_lab.specs.Machine.Event.{AcceptAt, WriteAt, ReadAt, TickAt, CloseAt, Deliver}
use Rattle.chaos_lab.specs.MachineHello.{SomethingIsAsked, SomethingIsRead}
use Rattle.chaos_lab.proofs.Lists.{contains-insert_same}

abbrev item : ℕ → ItemView
item n = record { op = 128; body = n ∷ [] }

abbrev two : Caps
two = record { send = 2; recv = 2 }

abbrev m0 : Machine
m0 = start two two (item 1)

abbrev rfc : Copy
rfc = record { sender = A; kind = Nth 0; told = Nothing; len_a = 1; len_b = 0 }

-- B was asked
abbrev m1 : Machine
m1 = with_end m0 B (record m0.b { phase = RfcReceived; arrived = insert m0.b.arrived 0 })

s1 : Step m0 (Deliver 0) m1
s1 = (rfc, refl, (omega arith, omega arith), (m1.b, inl (inl (refl, refl, refl)), ([], All-nil (IsSent m1 B), refl)))

abbrev opn : Copy
opn = record { sender = B; kind = Nth 0; told = Status 1 1 2; len_a = 1; len_b = 1 }

-- B accepted, and sent its OPN
abbrev m2 : Machine
m2 =
    let m = with_end m1 B (record (read_next m1.a m1.b) { phase = Open; written = m1.b.written ++ item 2 ∷ [] }) in
    record m { copies = m.copies ++ opn ∷ [] }

opn_sent : All (IsSent (with_end m1 B m2.b) B) (opn ∷ [])
opn_sent =
    All-cons (IsSent (with_end m1 B m2.b) B) opn []
    (record { sender = refl; may = (omega arith, omega arith); tells = refl; len_a = refl; len_b = refl })
    (All-nil (IsSent (with_end m1 B m2.b) B))

s2 : Step m1 (AcceptAt B (item 2)) m2
s2 = (m2.b, inl (refl, refl), (opn ∷ [], opn_sent, refl))

-- A is open
abbrev m3 : Machine
m3 =
    with_end m2 A (hear (Status 1 1 2) (read_next m2.b (record m2.a { phase = Open; arrived = insert m2.a.arrived 0 })))

s3 : Step m2 (Deliver 1) m3
s3 =
    (opn, refl, (omega arith, omega arith), (m3.a, inl (inr (inl (refl, refl, refl))), ([], All-nil (IsSent m3 A), refl)))

abbrev written : Copy
written = record { sender = A; kind = Nth 1; told = Acknowledges 1; len_a = 2; len_b = 1 }

-- A wrote an item, and sent it
abbrev m4 : Machine
m4 =
    let m = with_end m3 A (record m3.a { written = m3.a.written ++ item 3 ∷ [] }) in
    record m { copies = m.copies ++ written ∷ [] }

written_sent : All (IsSent (with_end m3 A m4.a) A) (written ∷ [])
written_sent =
    All-cons (IsSent (with_end m3 A m4.a) A) written []
    (record { sender = refl; may = (omega arith, omega arith); tells = refl; len_a = refl; len_b = refl })
    (All-nil (IsSent (with_end m3 A m4.a) A))

s4 : Step m3 (WriteAt A (item 3)) m4
s4 = (m4.a, inl (refl, omega arith, refl), (written ∷ [], written_sent, refl))

-- it came to B
abbrev m5 : Machine
m5 = with_end m4 B (take_in 1 (hear (Acknowledges 1) m4.b))

s5 : Step m4 (Deliver 2) m5
s5 =
    (written, refl, (omega arith, omega arith), (m5.b, inl (inr (inr (inl (refl, 1, refl, refl)))), ([], All-nil (IsSent m5 B), refl)))

-- B read it
abbrev m6 : Machine
m6 = with_end m5 B (read_item (Some (item 3)) m5.b)

s6 : Step m5 (ReadAt B) m6
s6 = (m6.b, inl (inl refl, contains-insert_same 1 (insert empty 0), refl), ([], All-nil (IsSent m6 B), refl))

-- ---- all

usual : AreCaps two
usual = (lit≤ tt, lit≤ tt, lit≤ tt, lit≤ tt)

reached_by : (events : Schedule) (m : Machine) → Run m0 events m → Reached m
reached_by events m run =
    record { caps_a = two; caps_b = two; right_a = usual; right_b = usual; rfc = item 1; events = events; run = run }

pub something_is_asked : SomethingIsAsked
something_is_asked = record { asked = m1; reached = reached_by (Deliver 0 ∷ []) m1 (m1, s1, refl); phase = refl }

-- a tick of B changes nothing
ticks : Step m5 (TickAt B) m5
ticks = (m5.b, inl (inr refl), ([], All-nil (IsSent m5 B), refl))

no_close : Contains (TickAt B ∷ []) (CloseAt B) → ⊥
no_close (zero, few, at) = absurd (cc)
no_close (suc i, few, at) = absurd (omega (arith, few))

pub something_is_read : SomethingIsRead
something_is_read = record {
  written = m4;
  came = m5;
  read = m6;
  reached =
      reached_by (Deliver 0 ∷ AcceptAt B (item 2) ∷ Deliver 1 ∷ WriteAt A (item 3) ∷ []) m4
      (m1, s1, (m2, s2, (m3, s3, (m4, s4, refl))));
  delivers = record { number = 2; copy = written; sent = refl; sender = refl; kind = refl; open_end = refl; inside = lit< tt; step = s5 };
  unclosed = ((m5, ticks, refl), no_close);
  next = refl;
  reads = s6;
  all = refl;
}
