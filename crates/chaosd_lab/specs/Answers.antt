-- What came of an event, as text.
use Rattle.std.specs.Prelude.{ℕ, ◌+◌, ◌==◌, List, [], ◌∷◌, ◌++◌, length, codes, Result, Ok, Err, unwrap_or, if◌then◌else◌}
use Rattle.std.specs.Fmt.{decimal}
use Rattle.std.specs.List.{flat_map}
use Rattle.chaos_packet.specs.Item.{ItemView}
use Rattle.chaos_packet.specs.Opcode.{opcode_name}
use Rattle.chaos_conn.specs.declared.answers.ReadEnd.{ReadEnd}
use Rattle.chaos_conn.specs.declared.answers.ReadEnd.TheVariants.{Item, Nothing, Ended}
use Rattle.chaos_conn.specs.declared.answers.Ticked.{Ticked}
use Rattle.chaos_conn.specs.declared.answers.Ticked.TheVariants.{Quiet, Down, Resent, Probed}
use Rattle.chaos_lab.specs.declared.stamped.Stamped.{Stamped}
use Rattle.chaos_lab.specs.declared.event.Stepped.{Stepped}
use Rattle.chaos_lab.specs.declared.event.Stepped.TheVariants as did
use Rattle.chaos_lab.specs.declared.fault.LabFault.{LabFault}
use Rattle.chaos_lab.specs.declared.fault.LabFault.TheVariants as fault
use Rattle.chaosd_io.specs.Texts.{line, octal_three}
use Rattle.chaosd_lab.specs.Names.{side_name, state_name, delivered_name, conn_fault_name}
use Rattle.chaosd_io.specs.Escapes.{shown_byte}

-- words, and a name
unfoldable pub named_line : List ℕ → List ℕ → List ℕ
named_line words name = words ++ 32 ∷ line name

-- words, and a number
unfoldable pub numbered_line : List ℕ → ℕ → List ℕ
numbered_line words n = line (words ++ 32 ∷ decimal n)

-- a space and bytes as text, where there are some
abbrev pub spaced_text : List ℕ → List ℕ
spaced_text bytes = if length bytes == 0 then [] else 32 ∷ flat_map shown_byte bytes

-- an item that was read
unfoldable pub item_line : ItemView → List ℕ
item_line item = line (codes "read " ++ octal_three item.op ++ spaced_text item.body)

abbrev pub read_text : ReadEnd → List ℕ
read_text (Item item) = item_line item
read_text Nothing = line (codes "read nothing")
read_text (Ended state) = named_line (codes "read ended") (state_name state)

abbrev pub ticked_text : Ticked → List ℕ
ticked_text Quiet = line (codes "ticked quiet")
ticked_text Down = line (codes "ticked down")
ticked_text (Resent count) = numbered_line (codes "ticked resent") count
ticked_text Probed = line (codes "ticked probed")

-- what an event did that was taken
abbrev pub stepped_text : Stepped → List ℕ
stepped_text (did.Wrote num) = numbered_line (codes "wrote") num
stepped_text (did.Read read) = read_text read
stepped_text (did.Announced window) = numbered_line (codes "announced") window
stepped_text (did.Ticked ticked) = ticked_text ticked
stepped_text did.Closed = line (codes "closed")
stepped_text (did.Accepted num) = numbered_line (codes "accepted") num
stepped_text did.Requested = line (codes "delivered Requested")
stepped_text (did.Delivered delivered) = named_line (codes "delivered") (delivered_name delivered)

-- why an event was refused
abbrev pub refusal_text : LabFault → List ℕ
refusal_text fault.NoSuchCopy = line (codes "refused 1 NoSuchCopy")
refusal_text fault.Stale = line (codes "refused 2 Stale")
refusal_text (fault.Refused why) = named_line (codes "refused 3") (conn_fault_name why)
refusal_text fault.NoMemory = line (codes "refused 4 NoMemory")
refusal_text fault.ByServer = line (codes "refused 5 ByServer")

-- what came of an event
abbrev pub answer_text : Result Stepped LabFault → List ℕ
answer_text (Ok stepped) = stepped_text stepped
answer_text (Err why) = refusal_text why

-- every opcode that an end sends has a name
abbrev pub op_name : ℕ → List ℕ
op_name op = unwrap_or (opcode_name op) []

abbrev pub numbers_text : ℕ → ℕ → List ℕ
numbers_text num ack = codes " num " ++ decimal num ++ codes " ack " ++ decimal ack ++ 10 ∷ []

-- a copy, behind its number
unfoldable pub copy_line : ℕ → Stamped → List ℕ
copy_line place copy =
    codes "copy " ++ decimal place ++ 32 ∷ side_name copy.side ++ 32 ∷ op_name copy.packet.op
    ++ numbers_text copy.packet.num copy.packet.ack

-- copies, of which the first has this number
unfoldable pub copies_text : ℕ → List Stamped → List ℕ
copies_text place [] = []
copies_text place (copy ∷ others) = copy_line place copy ++ copies_text (place + 1) others

-- how many packets both ends store
unfoldable pub stored_line : ℕ → ℕ → List ℕ
stored_line a b = line (codes "stored a " ++ decimal a ++ codes " b " ++ decimal b)
