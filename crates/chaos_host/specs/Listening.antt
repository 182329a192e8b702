-- The contacts that a host listens to.
use Rattle.std.specs.Prelude.{ℕ, Bool, not, ◌&&◌, ◌==◌, nat_lt, nat_le, if◌then◌else◌, List, [], ◌∷◌, ◌++◌, length, Option, Some, None, Result, Ok, Err}
use Rattle.std.specs.List.{list_any}
use Rattle.std.specs.Str.{bytes_eq}
use Rattle.chaos_host.specs.declared.fault.ListenFault.{ListenFault}
use Rattle.chaos_host.specs.declared.fault.ListenFault.TheVariants.{TooMany, TooLong, Already, BadContact}
use Rattle.chaos_host.specs.declared.limits.TheConstants.{MAX_LISTENERS, MAX_CONTACT}
use Rattle.chaos_host.specs.View.{HostView}

-- one of the listeners is exactly this contact
abbrev pub has_listener : List (List ℕ) → List ℕ → Bool
has_listener listeners contact = list_any (λ listener. bytes_eq listener contact) listeners

-- a contact is not empty, and has no space (byte 32)
abbrev pub is_contact : List ℕ → Bool
is_contact contact = not (length contact == 0) && not (list_any (λ b. b == 32) contact)

-- the first fault of a contact that is to be listened to
abbrev pub listen_fault : List (List ℕ) → List ℕ → Option ListenFault
listen_fault listeners contact = if nat_le MAX_LISTENERS (length listeners) then Some TooMany
    else (if nat_lt MAX_CONTACT (length contact) then Some TooLong
    else (if has_listener listeners contact then Some Already
    else (if is_contact contact then None
    else Some BadContact)))

abbrev pub listen_answer : Option ListenFault → Result (Unit {0}) ListenFault
listen_answer (Some fault) = Err fault
listen_answer None = Ok tt

-- the contact is added, and nothing else changes; with a fault nothing at all
abbrev pub after_listen : Option ListenFault → HostView → List ℕ → HostView
after_listen (Some fault) v contact = v
after_listen None v contact = record v { listeners = v.listeners ++ contact ∷ [] }
