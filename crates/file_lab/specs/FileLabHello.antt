-- A laboratory whose B serves FILE, in which the premises of the laws of replies and of progress hold. So these laws can be used.
--
--       A                                  B
--       asks           -- 0, RFC -->       is asked, and accepts
--       is open        <-- 1, OPN --
--                      -- 2, STS -->       comes
--       writes LOGIN   -- 3, data -->      never comes
use Rattle.std.specs.Prelude.{◌≡◌, [], ◌∷◌, codes, false}
use Rattle.std.specs.FinMap as map
use Rattle.chaos_packet.specs.Opcode.{op_data}
use Rattle.chaos_file.specs.Session.{new_session}
use Rattle.chaos_lab.specs.declared.side.Side.TheVariants.{A}
use Rattle.chaos_lab.specs.LabHello.{asking_lab}
use Rattle.chaos_lab.specs.Laboratory.Happening.{WriteBy, AcceptFrom, DeliverCopy}
use Rattle.file_lab.specs.Events.{At}
use Rattle.file_lab.specs.Progress.{CanServe}
use Rattle.file_lab.specs.Settling.{after_events}
use Rattle.file_lab.specs.View.{FileLabView, commands_of, replies_to_a, wrote_mem}

-- A has asked, and B has served nothing
abbrev pub asking_file_lab : FileLabView
asking_file_lab = record { lab = asking_lab; session = new_session; files = map.empty }

-- both ends are open, and A has written a command that hasn't come to B
abbrev pub waiting_file_lab : FileLabView
waiting_file_lab =
    after_events asking_file_lab
    (At (DeliverCopy 0) ∷ At (AcceptFrom 200) ∷ At (DeliverCopy 1) ∷ At (DeliverCopy 2) ∷ At (WriteBy A op_data (codes "T1  LOGIN ANN")) ∷ [])

-- A waits for the reply to a command, B wrote no out-of-memory reply, and both ends can settle.
pub record CommandWaits : Type 0 where
  pub commands : commands_of waiting_file_lab ≡ codes "T1  LOGIN ANN" ∷ []
  pub unheard : replies_to_a waiting_file_lab ≡ []
  pub memory : wrote_mem waiting_file_lab ≡ false
  pub serves : CanServe waiting_file_lab
