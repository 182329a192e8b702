-- The name that a client asks a server for.
use Rattle.std.specs.Prelude.{ℕ, ◌==◌, ◌++◌, nat_lt, if◌then◌else◌, List, drop, length, replicate, Option, Some, None, Result, Ok, Err}
use Rattle.std.specs.List.{list_any}
use Rattle.chaos_host.specs.declared.limits.TheConstants.{MAX_CONTACT}
use Rattle.file_client.specs.declared.contact.ContactFault.{ContactFault}
use Rattle.file_client.specs.declared.contact.ContactFault.TheVariants.{Empty, TooLong, HasSpace}

-- the first fault of bytes that are to be a contact: they are none, more than 64, or have a space (byte 32) among them
abbrev pub contact_fault : List ℕ → Option ContactFault
contact_fault name = if length name == 0 then Some Empty
    else (if nat_lt MAX_CONTACT (length name) then Some TooLong
    else (if list_any (λ b. b == 32) name then Some HasSpace
    else None))

abbrev pub unless_fault : Option ContactFault → List ℕ → Result (List ℕ) ContactFault
unless_fault (Some fault) name = Err fault
unless_fault None name = Ok name

-- a contact of these bytes, or the first of their faults
abbrev pub checked_contact : List ℕ → Result (List ℕ) ContactFault
checked_contact name = unless_fault (contact_fault name) name

-- how a contact lies in its place: behind its bytes there are zeros
abbrev pub padded : List ℕ → List ℕ
padded name = name ++ drop (length name) (replicate MAX_CONTACT 0)
