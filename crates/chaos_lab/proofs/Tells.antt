-- What an answer in full says of the small one that it was made of.
use Rattle.std.proofs.Common.{◌≡◌, List, Result, Ok, Err, IfOk, OnErr, ap}
use Rattle.chaos_packet.specs.Item.{ItemView}
use Rattle.chaos_packet.specs.Packet.{PacketView}
use Rattle.chaos_lab.specs.declared.event.StepDone.{StepDone}
use Rattle.chaos_lab.specs.declared.fault.LabFault.{LabFault}
use Rattle.chaos_lab.specs.Told.{told}

-- what holds where the event was taken
pub taken : (packet : PacketView) (items : List ItemView) (answer : Result StepDone LabFault) (P : Type 0)
    → IfOk (told packet items answer) (λ _. P) → IfOk answer (λ _. P)
taken packet items (Ok done) P holds = holds
taken packet items (Err why) P holds = tt

-- and where it was refused
pub refused : (packet : PacketView) (items : List ItemView) (answer : Result StepDone LabFault) (P : Type 0)
    → OnErr (told packet items answer) P → OnErr answer P
refused packet items (Ok done) P holds = tt
refused packet items (Err why) P holds = holds

-- and why it was
pub refused_so : (packet : PacketView) (items : List ItemView) (answer : Result StepDone LabFault) (why : LabFault)
    → told packet items answer ≡ Err why → answer ≡ Err why
refused_so packet items (Ok done) why is = absurd (cc)
refused_so packet items (Err fault) why is = let same : fault ≡ why = cc in ap Err same
