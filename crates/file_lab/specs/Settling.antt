-- How FILE settles: the events of a good network, of a client who reads and of a server that serves.
use Rattle.std.specs.Prelude.{◌≡◌, ◌<◌, ℕ, zero, suc, ◌-◌, nat_lt, take, List, [], ◌∷◌, ◌++◌, length, map, is_none, if◌then◌else◌}
use Rattle.chaos_conn.specs.Calls.{front_of}
use Rattle.chaos_lab.specs.declared.side.Side.TheVariants.{A, B}
use Rattle.chaos_lab.specs.Laboratory.{LabView, Happening, happen, after_all}
use Rattle.chaos_lab.specs.Laboratory.Happening.{TickOf, DeliverCopy}
use Rattle.chaos_lab.specs.Settling.{telling, told, resend_moment, again, reading, taking_in}
use Rattle.file_lab.specs.View.{FileLabView}
use Rattle.file_lab.specs.Events.{FileHappening, At, Serve}
use Rattle.file_lab.specs.Exact.{file_happen}

-- all after events, one after the other
abbrev pub after_events : FileLabView → List FileHappening → FileLabView
after_events l [] = l
after_events l (event ∷ events) = after_events (file_happen l event).view events

-- after events of the laboratory
abbrev pub in_lab : FileLabView → List Happening → FileLabView
in_lab l events = record l { lab = after_all l.lab events }

-- Events of the laboratory happen, and then others.
abbrev pub then_on : List Happening → (FileLabView → List FileHappening) → FileLabView → List FileHappening
then_on events others l = map At events ++ others (in_lab l events)

-- nothing more
abbrev pub no_more : FileLabView → List FileHappening
no_more l = []

-- ---- the items that B's server hasn't read

-- Where nothing is in front of B's server, this copy comes.
abbrev pub fetching : ℕ → LabView → List Happening
fetching copy l = if is_none (front_of l.b.conn) then DeliverCopy copy ∷ [] else []

-- Then A's user tells its status, so that B may reply.
abbrev pub asking : ℕ → LabView → List Happening
asking copy l =
    let fetch = fetching copy l in
    fetch ++ telling A (after_all l fetch)

-- If B's server has replied, having written so many items before, then its reply comes to A, whose user reads it.
abbrev pub replying : ℕ → LabView → List Happening
replying wrote l =
    let copy = length l.copies - 1 in
    if nat_lt wrote (length l.b.written) then DeliverCopy copy ∷ reading A (happen l (DeliverCopy copy)).lab else []

-- B's server serves once.
abbrev pub answering : (FileLabView → List FileHappening) → FileLabView → List FileHappening
answering others l =
    let m = (file_happen l Serve).view in
    Serve ∷ then_on (replying (length l.lab.b.written) m.lab) others m

-- So many items of A are served. They were sent again, the last of them just before this copy. At the end both users
-- tell their status.
abbrev pub serving : ℕ → ℕ → FileLabView → List FileHappening
serving before zero l = then_on (telling A l.lab ++ telling B (told A l.lab)) no_more l
serving before (suc n) l = then_on (asking (before - suc n) l.lab) (λ m. answering (λ k. serving before n k) m) l

-- ---- the replies that B wrote before

-- B sends again what it has no receipt for, and that comes to A.
abbrev pub b_sending : LabView → List Happening
b_sending l =
    let m = again B l in
    TickOf B (resend_moment B l) ∷ taking_in A (length l.copies) (length m.copies) m

-- First B hears what came to A.
abbrev pub b_hearing : LabView → List Happening
b_hearing l = telling A l ++ b_sending (told A l)

-- ---- all of it

-- so many of these happened, and not the next one
abbrev pub Stopped : FileLabView → List FileHappening → FileLabView → Type 0
Stopped old events new = (done : ℕ) × (done < length events) × (new ≡ after_events old (take done events))

-- how many items that A wrote B's server hasn't read
abbrev pub unread : LabView → ℕ
unread l = length l.a.written - length l.b.read

-- A has sent again what it has no receipt for.
abbrev pub homing : FileLabView → List FileHappening
homing l = then_on (b_hearing l.lab) (λ m. serving (length l.lab.copies) (unread l.lab) m) l

-- First A hears what came to B.
abbrev pub file_settling : FileLabView → List FileHappening
file_settling l = then_on (telling B l.lab ++ TickOf A (resend_moment A (told B l.lab)) ∷ []) homing l
