-- The names that the engines give: decimal numbers.
use Rattle.std.proofs.Common.{◌≡◌, ℕ, ◌+◌, ◌<◌, ◌≤◌, Bool, true, false, List, [], ◌∷◌, length, refl, ap, ◌∙◌, arith, rules}
use Rattle.std.specs.Prelude.{◌&&◌, ◌||◌, nat_le}
use Rattle.std.specs.Fmt.{decimal}
use Rattle.std.specs.List.{list_all}
use Rattle.std.specs.Char.{is_ascii_alphanumeric}
use Rattle.std.specs.Str.Parse.{AllDigits}
use Rattle.std.specs.Int.{IsInRange, is_in_range}
use Rattle.std.proofs.lemmas.Str.Parse.{tells_digits}
use Rattle.std.proofs.lemmas.Bool.Decides.{nat_tests}
use Rattle.std.proofs.lemmas.Fmt.{decimal_is_IsNumeral, decimal_nonempty, length-decimal-le}
use Rattle.chaos_file.specs.declared.limits.TheConstants.{MAX_TID, MAX_HANDLE, MAX_NAME, MAX_FILE}
use Rattle.chaos_file.specs.Names.{is_name, is_path}
use Rattle.file_copy.specs.declared.limits.TheConstants.{MAX_FIRST}
use Rattle.chaos_file.specs.Command.{Login}
use Rattle.chaos_file.specs.Spelling.{is_legal}
use Rattle.chaos_file.specs.Session.{new_session}
use Rattle.chaos_file.specs.Store.{Files}
use Rattle.file_copy.specs.Copy.{CanCopy, Does, chunk_count, logged_in}
use Rattle.file_copy.specs.Row.{file_handle}
use Rattle.file_copy.specs.Ends.{tids_from, login_command, login_reply}
use Rattle.file_copy.proofs.Runs.{runs_one}
use Rattle.file_copy.proofs.Steps.{logs_in}

digit_letter : (c : ℕ) → IsInRange 48 57 c → is_ascii_alphanumeric c ≡ true
digit_letter c h =
    let e : is_in_range 48 57 c ≡ true = search (rules, nat_tests) in
    ap (λ v. (v || is_in_range 65 90 c) || is_in_range 97 122 c) e

letters : (ds : List ℕ) → AllDigits 10 ds → list_all is_ascii_alphanumeric ds ≡ true
letters [] h = refl
letters (d ∷ ds) h =
    let p = tells_digits.parts d ds h in
    ap (λ v. v && list_all is_ascii_alphanumeric ds) (digit_letter d p.0) ∙ letters ds p.1

named_by : (a b c : Bool) → a ≡ true → b ≡ true → c ≡ true → (a && b && c) ≡ true
named_by false b c e f g = cc
named_by true false c e f g = cc
named_by true true false e f g = cc
named_by true true true e f g = refl

pub number_named : (n : ℕ) → n < 100000000 → is_name 1 MAX_TID (decimal n) ≡ true
number_named n l =
    let few : length (decimal n) ≤ 8 = search (rules, length-decimal-le 8) in
    let some : 0 < length (decimal n) = decimal_nonempty n (omega arith) in
    named_by (nat_le 1 (length (decimal n))) (nat_le (length (decimal n)) MAX_TID)
    (list_all is_ascii_alphanumeric (decimal n)) (search (rules, nat_tests)) (search (rules, nat_tests))
    (letters (decimal n) (decimal_is_IsNumeral n (omega arith)).0.1)

pub can_copy : (first : ℕ) (path bytes : List ℕ) → first ≤ MAX_FIRST → is_path path ≡ true → length bytes ≤ MAX_FILE
    → CanCopy (tids_from first) (3 + chunk_count (length bytes)) file_handle path bytes
can_copy first path bytes l p fits = record {
  names = λ i below. number_named (first + i) (omega arith);
  handle_named = refl;
  path_legal = p;
  fits = fits;
}

pub logs_in_named : (m : Files) (name : List ℕ) → is_name 1 MAX_NAME name ≡ true
    → Does m new_session (login_command name ∷ []) m (logged_in name) (login_reply name ∷ [])
logs_in_named m name h =
    runs_one m new_session (login_command name) m (logged_in name) (login_reply name)
    (logs_in m new_session (decimal 0) name
    (ap (λ v. v && (is_name 0 MAX_HANDLE [] && is_legal true (Login name))) (number_named 0 (omega arith)) ∙ h))
