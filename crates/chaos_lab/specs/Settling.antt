-- How two open ends settle: the events of a good network and of two users who read.
use Rattle.std.specs.Prelude.{ℕ, zero, suc, ◌+◌, ◌-◌, min, max, List, [], ◌∷◌, ◌++◌, length, is_none, if◌then◌else◌}
use Rattle.chaos_conn.specs.Calls.{front_of}
use Rattle.chaos_lab.specs.declared.side.Side.{Side}
use Rattle.chaos_lab.specs.declared.side.Side.TheVariants.{A, B}
use Rattle.chaos_lab.specs.Laboratory.{LabView, Happening, lab_end, happen, after_all}
use Rattle.chaos_lab.specs.Laboratory.Happening.{ReadBy, AnnounceBy, TickOf, DeliverCopy}

-- The user at y announces its greatest window, and the STS comes to the other end.
abbrev pub telling : Side → LabView → List Happening
telling y l = AnnounceBy y (lab_end l y).conn.config.recv_cap ∷ DeliverCopy (length l.copies) ∷ []

abbrev pub told : Side → LabView → LabView
told y l = after_all l (telling y l)

-- the greatest moment, of 64 bits
abbrev pub last_moment : ℕ
last_moment = 18446744073709551615

-- when an end that was just heard sends again
abbrev pub resend_moment : Side → LabView → ℕ
resend_moment x l = min last_moment ((lab_end l x).conn.heard + (lab_end l x).conn.config.retransmit)

-- the clock of x goes on to that
abbrev pub again : Side → LabView → LabView
again x l = (happen l (TickOf x (resend_moment x l))).lab

-- The user at y reads, where there is something to read.
abbrev pub reading : Side → LabView → List Happening
reading y l = if is_none (front_of (lab_end l y).conn) then [] else ReadBy y ∷ []

-- so many times
abbrev pub reading_on : Side → ℕ → LabView → List Happening
reading_on y zero l = []
reading_on y (suc n) l = reading y l ++ reading_on y n (after_all l (reading y l))

-- So many copies come to y, this one first, and its user reads after each.
abbrev pub coming : Side → ℕ → ℕ → LabView → List Happening
coming y copy zero l = []
coming y copy (suc n) l =
    let m = (happen l (DeliverCopy copy)).lab in
    DeliverCopy copy ∷ (reading y m ++ coming y (copy + 1) n (after_all m (reading y m)))

-- These copies come to y, from the first up to the end. Before they come, its user reads what had come already.
abbrev pub taking_in : Side → ℕ → ℕ → LabView → List Happening
taking_in y first end l =
    let read = reading_on y (lab_end l y).conn.config.recv_cap l in
    read ++ coming y first (end - first) (after_all l read)

-- These copies come to y, from the first up to the end, and then it tells its status.
abbrev pub bringing : Side → ℕ → ℕ → LabView → List Happening
bringing y first end l =
    let come = coming y first (end - first) l in
    come ++ telling y (after_all l come)

-- Before they come, its user reads what had come already.
abbrev pub taking : Side → ℕ → ℕ → LabView → List Happening
taking y first end l =
    let read = reading_on y (lab_end l y).conn.config.recv_cap l in
    read ++ bringing y first end (after_all l read)

-- Both ends have sent again: A takes the one list of copies, and then B the other.
abbrev pub both_taking : (from_a to_a from_b to_b : ℕ) → LabView → List Happening
both_taking from_a to_a from_b to_b l =
    let home = taking A from_b to_b l in
    home ++ taking B from_a to_a (after_all l home)

-- B sends again what it has no receipt for.
abbrev pub b_sending : (from_a to_a : ℕ) → LabView → List Happening
b_sending from_a to_a l =
    let m = again B l in
    TickOf B (resend_moment B l) ∷ both_taking from_a to_a (length l.copies) (length m.copies) m

-- A has sent again: now B hears what came to A.
abbrev pub b_hearing : (from_a to_a : ℕ) → LabView → List Happening
b_hearing from_a to_a l = telling A l ++ b_sending from_a to_a (told A l)

-- A sends again what it has no receipt for.
abbrev pub a_sending : LabView → List Happening
a_sending l =
    let m = again A l in
    TickOf A (resend_moment A l) ∷ b_hearing (length l.copies) (length m.copies) m

-- All of it. First A hears what came to B.
abbrev pub settling : LabView → List Happening
settling l = telling B l ++ a_sending (told B l)

-- the greatest moment that is ticked then
abbrev pub settling_moment : LabView → ℕ
settling_moment l =
    max (max l.a.conn.last l.b.conn.last) l.clock + l.a.conn.config.retransmit + l.b.conn.config.retransmit
