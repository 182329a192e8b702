-- The text of a stream: what its items say to a user who doesn't see packets.
use Rattle.std.specs.Prelude.{◌≡◌, ℕ, ◌<◌, List, [], ◌∷◌, ◌++◌, length, map, slice_get, Some}
use Rattle.chaos_packet.specs.Begins.{Begins}
use Rattle.chaos_packet.specs.Item.{ItemView}
use Rattle.chaos_packet.specs.Opcode.{kind_of}
use Rattle.chaos_packet.specs.declared.opcode.Kind.{Kind}
use Rattle.chaos_packet.specs.declared.opcode.Kind.TheVariants as kind

-- a byte, or the mark of an EOF
pub data Symbol : Type 0 where
  Byte : (byte : ℕ) → Symbol
  Mark : Symbol

-- bytes as text
abbrev pub bytes_text : List ℕ → List Symbol
bytes_text bytes = map (λ b. Byte b) bytes

-- what an item of a kind says: data its bytes, an EOF its mark, and others nothing
abbrev pub item_text : Kind → List ℕ → List Symbol
item_text kind.Data body = bytes_text body
item_text kind.Eof body = Mark ∷ []
item_text _ body = []

-- what items say, one after the other
abbrev pub items_text : List ItemView → List Symbol
items_text [] = []
items_text (item ∷ items) = item_text (kind_of item.op) item.body ++ items_text items

-- the text of all items of a direction: the first of them opened the connection, and says nothing
abbrev pub text_of : List ItemView → List Symbol
text_of [] = []
text_of (opening ∷ items) = items_text items

-- Where some items, at least one, begin all the items, their text begins the text of all.
abbrev pub TextBegins : Type 0
TextBegins = (x y : List ItemView) → 0 < length x → Begins x y → Begins (text_of x) (text_of y)

-- So does their text followed by any first part of the next item's bytes, where that is data.
abbrev pub TextAndPartBegin : Type 0
TextAndPartBegin =
    (x y : List ItemView) (next : ItemView) (part : List ℕ) → 0 < length x → Begins x y
    → slice_get y (length x) ≡ Some next → kind_of next.op ≡ kind.Data → Begins part next.body
    → Begins (text_of x ++ bytes_text part) (text_of y)
