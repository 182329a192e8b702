-- A contact of a line is a contact.
use Rattle.std.proofs.Common.{◌≡◌, ◌==◌, ℕ, Bool, true, false, ◌&&◌, List, [], ◌∷◌, length, nat_le, nat_lt, None, refl, arith}
use Rattle.std.specs.List.{list_all, list_any}
use Rattle.std.specs.Char.{is_ascii_graphic}
use Rattle.std.proofs.lemmas.Bool.Decides.{nat_tests}
use Rattle.chaosd_line.specs.Values.{is_contact}
use Rattle.file_client.specs.Contact.{contact_fault}

both : (a b : Bool) → (a && b) ≡ true → (a ≡ true) × (b ≡ true)
both true true h = (refl, refl)
both true false h = cc
both false b h = cc

no_space : (t : List ℕ) → list_all is_ascii_graphic t ≡ true → list_any (λ b. b == 32) t ≡ false
no_space [] h = refl
no_space (b ∷ t) h =
    let parts : (is_ascii_graphic b ≡ true) × (list_all is_ascii_graphic t ≡ true) = both _ _ h in
    let visible : is_ascii_graphic b ≡ true = parts.0 in
    let apart : (b == 32) ≡ false = grind (arith, nat_tests) in
    rw (apart, no_space t parts.1) refl

sized : (n : ℕ) → (nat_le 1 n && nat_le n 64) ≡ true → ((n == 0) ≡ false) × (nat_lt 64 n ≡ false)
sized n h = (grind (arith, nat_tests), grind (arith, nat_tests))

pub no_fault : (t : List ℕ) → is_contact t ≡ true → contact_fault t ≡ None
no_fault t h =
    let parts : ((nat_le 1 (length t) && nat_le (length t) 64) ≡ true) × (list_all is_ascii_graphic t ≡ true) = both _ _ h in
    let sizes : ((length t == 0) ≡ false) × (nat_lt 64 (length t) ≡ false) = sized (length t) parts.0 in
    rw (sizes.0, sizes.1, no_space t parts.1) refl
