-- A laboratory in which the premises of the laws of opening, of progress and of rounds hold. So these laws can be used.
--
--       A                                  B
--       asks           -- 0, RFC -->       is asked, and accepts
--       is open        <-- 1, OPN --
--                      -- 2, STS -->       comes
--       writes `Hello` -- 3, data -->      never comes
--   500 a tick         -- 4, data -->      comes, and is read
--                      <-- 5, STS --       never comes
--  1000 a tick         -- 6, data -->      comes again
--                      <-- 7, STS --       never comes
--       and so on, 64 rounds in all
use Rattle.std.specs.Prelude.{◌≡◌, ◌<◌, [], ◌∷◌, length, codes}
use Rattle.chaos_packet.specs.Opcode.{op_data}
use Rattle.chaos_conn.specs.declared.state.State.TheVariants.{Open}
use Rattle.chaos_conn.specs.Config.{ConfigView, config_view}
use Rattle.chaos_lab.specs.declared.side.Side.TheVariants.{A, B}
use Rattle.chaos_lab.specs.declared.stamped.Stamped.{Stamped}
use Rattle.chaos_lab.specs.Headline.{ComesInside}
use Rattle.chaos_lab.specs.Laboratory.{LabView, after_all, lab_start}
use Rattle.chaos_lab.specs.Laboratory.Happening.{WriteBy, ReadBy, TickOf, AcceptFrom, DeliverCopy}
use Rattle.chaos_lab.specs.Machine.{greatest_window}
use Rattle.chaos_lab.specs.Opening.{CanOpen, HasTimeToSettle}
use Rattle.chaos_lab.specs.Progress.{CanSettle, ComesAgain, HadRead, IsDue, Report, Round, Rounds, Waits}
use Rattle.chaos_lab.specs.Tied.{HasMachine}

-- windows of two packets, and the usual times
abbrev pub small : ConfigView
small = config_view 2 2 500 10000 90000

-- ---- The laboratories, each as the events since the laboratory before have left it

-- A has asked
abbrev pub asking_lab : LabView
asking_lab = lab_start small small 100

-- the RFC has come to B
abbrev pub asked_lab : LabView
asked_lab = after_all asking_lab (DeliverCopy 0 ∷ [])

-- B has accepted, and the OPN is under way
abbrev pub accepted_lab : LabView
accepted_lab = after_all asked_lab (AcceptFrom 200 ∷ [])

-- both ends are open, and A has written an item that hasn't come to B
abbrev pub waiting_lab : LabView
waiting_lab =
    after_all accepted_lab (DeliverCopy 1 ∷ DeliverCopy 2 ∷ WriteBy A op_data (codes "Hello") ∷ [])

-- A has sent the item again, and the copy has come
abbrev pub helped_lab : LabView
helped_lab = after_all waiting_lab (TickOf A 500 ∷ DeliverCopy 4 ∷ [])

-- B has read the item, and A doesn't know it
abbrev pub read_lab : LabView
read_lab = after_all helped_lab (ReadBy B ∷ [])

-- the copy has come again, and the STS that this put out has come to A
abbrev pub told_lab : LabView
told_lab = after_all read_lab (DeliverCopy 4 ∷ DeliverCopy 6 ∷ [])

-- ---- The premises of the laws

-- The ends stand for the plain machine, as those of every laboratory do. The laboratory can open where B took no request yet, where B
-- holds the request, and where B has accepted it. There is time to settle afterwards.
pub record LabsCanOpen : Type 0 where
  pub machine : HasMachine asking_lab
  pub unasked : CanOpen asking_lab
  pub asked : CanOpen asked_lab
  pub accepted : CanOpen accepted_lab
  pub time : HasTimeToSettle asking_lab

-- B hasn't read all that A wrote, and both ends can settle. A copy of the item may come inside the window.
pub record LabCanSettle : Type 0 where
  pub machine : HasMachine waiting_lab
  pub unread : length waiting_lab.b.read < length waiting_lab.a.written
  pub settles : CanSettle waiting_lab
  pub copy : Stamped
  pub inside : ComesInside waiting_lab 3 copy 1

-- A round brings B the item for which B waits. And 64 rounds come one after the other, after which B is open and waits.
pub record RoundsCome : Type 0 where
  pub due : IsDue waiting_lab.a.conn 500
  pub round : Round A waiting_lab helped_lab
  pub last : LabView
  pub rounds : Rounds greatest_window A waiting_lab last
  pub open_end : last.b.conn.state ≡ Open
  pub waits : Waits last B

-- What was read comes again, and its STS is a report to A. A keeps the item until then, and B had read all that A wrote.
pub record ReportComes : Type 0 where
  pub copy : Stamped
  pub again : ComesAgain read_lab 4 copy
  pub keeps : 0 < length read_lab.a.conn.send.kept
  pub report : Report A read_lab told_lab
  pub all_read : HadRead A read_lab told_lab
