-- What a reply says to the command that it should answer.
use Rattle.std.specs.Prelude.{ℕ, Bool, false, ◌&&◌, if◌then◌else◌, List, Option, Some, None, is_some}
use Rattle.std.specs.Str.{bytes_eq}
use Rattle.chaos_file.specs.Reply.{SaidView, ReplyView, opened_in, given_in, refused_in}

-- what a reply says, where it is to the command of these two names
abbrev pub said_to : List ℕ → List ℕ → Option ReplyView → Option SaidView
said_to tid handle None = None
said_to tid handle (Some r) = if bytes_eq r.tid tid && bytes_eq r.handle handle then Some r.said else None

-- the length that it says the file has, where it answers OPEN
abbrev pub opened_of : Option SaidView → Option ℕ
opened_of None = None
opened_of (Some said) = opened_in said

-- the bytes that it gives, where it answers READ
abbrev pub given_of : Option SaidView → Option (List ℕ)
given_of None = None
given_of (Some said) = given_in said

-- whether it is an error
abbrev pub is_refused : Option SaidView → Bool
is_refused None = false
is_refused (Some said) = is_some (refused_in said)
