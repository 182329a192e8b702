-- What std reads of a text is what the functions say.
use Rattle.std.proofs.Common.{◌≡◌, ◌≢◌, ◌∙◌, ◌<◌, ◌≤◌, ◌^◌, ◌∷◌, ◌&&◌, ℕ, Bool, true, false, List, [], None, Some, Result, Ok, Err, length, drop, cond, ap, refl, sym, subst, arith, append-nil, ne_eqb, option_map}
use Rattle.std.specs.Prelude.{if◌then◌else◌, nat_le, nat_lt, slice_index}
use Rattle.std.specs.List.{list_all}
use Rattle.std.specs.Char.{digit_value, is_digit}
use Rattle.std.specs.Net.Grammar.{IsSocketV4Text, Parses}
use Rattle.std.specs.Net.Reader.{Read, read_socket_v4, whole_value}
use Rattle.std.specs.Result.{result_ok}
use Rattle.std.specs.Str.Parse.{AllDigits, IsNumeral, digits_value, without_leading_plus}
use Rattle.std.specs.declared.net.socket_addr.SocketAddrV4.{SocketAddrV4}
use Rattle.std.proofs.NetLemmas.Sockets.{read_socket_v4_complete, read_socket_v4_sound}
use Rattle.std.proofs.lemmas.Bool.{false_from_ne_true, le-leb, leb-true, lt-ltb, ltb-true}
use Rattle.chaosd_hosts.specs.Addresses.{socket_read}
use Rattle.chaosd_hosts.specs.Numbers.{is_numeral, number_of}
use Rattle.chaosd_hosts.specs.Text.{Text}

-- ---- numbers

both : (a b : Bool) → (a && b) ≡ true → (a ≡ true) × (b ≡ true)
both true b e = (refl, e)
both false b e = absurd cc

all_digits : (radix : ℕ) (text : Text) → AllDigits radix text → list_all (λ c. is_digit c radix) text ≡ true
all_digits radix [] h = refl
all_digits radix (c ∷ text) h =
    rw (lt-ltb (digit_value c) radix h.0) (all_digits radix text h.1)

are_digits : (radix : ℕ) (text : Text) → list_all (λ c. is_digit c radix) text ≡ true → AllDigits radix text
are_digits radix [] e = tt
are_digits radix (c ∷ text) e =
    let parts = both (is_digit c radix) (list_all (λ d. is_digit d radix) text) e in
    (ltb-true (digit_value c) radix parts.0, are_digits radix text parts.1)

plain : (text : Text) → slice_index text 0 ≢ 43 → without_leading_plus text ≡ text
plain text ne = ap (λ b. drop (cond b 1 0) text) (ne_eqb (slice_index text 0) 43 ne)

-- digits within the bounds write their number
pub number_found : (radix least most n : ℕ) (text : Text) → slice_index text 0 ≢ 43
    → IsNumeral radix (without_leading_plus text) → n ≡ digits_value radix (without_leading_plus text) → least ≤ n → n ≤ most
    → Some n ≡ number_of radix least most text
unfolding number_of
number_found radix least most n text ne h e low high =
    let is : IsNumeral radix text = subst (IsNumeral radix) (plain text ne) h in
    let v : n ≡ digits_value radix text = e ∙ ap (digits_value radix) (plain text ne) in
    let least_is : nat_le least (digits_value radix text) ≡ true = ap (nat_le least) (sym v) ∙ le-leb least n low in
    let most_is : nat_le (digits_value radix text) most ≡ true = ap (λ m. nat_le m most) (sym v) ∙ le-leb n most high in
    rw (lt-ltb 0 (length text) is.0, all_digits radix text is.1, least_is, most_is) (ap Some v)

-- a text that is no number of 64 bits writes none within smaller bounds
pub number_missed : (radix least most : ℕ) (text : Text) → slice_index text 0 ≢ 43
    → ¬ (IsNumeral radix (without_leading_plus text) × (digits_value radix (without_leading_plus text) < 2 ^ 64))
    → most < 2 ^ 64
    → None ≡ number_of radix least most text
unfolding number_of
number_missed radix least most text ne none small =
    let v = digits_value radix text in
    let no : ¬ (IsNumeral radix text × (v < 2 ^ 64)) =
    subst (λ ds. ¬ (IsNumeral radix ds × (digits_value radix ds < 2 ^ 64))) (plain text ne) none in
    let test : (is_numeral radix text && (nat_le least v && nat_le v most)) ≡ false =
    false_from_ne_true _ (λ all.
    let parts = both (is_numeral radix text) (nat_le least v && nat_le v most) all in
    let number = both (nat_lt 0 (length text)) (list_all (λ c. is_digit c radix) text) parts.0 in
    let bounds = both (nat_le least v) (nat_le v most) parts.1 in
    let fits : v ≤ most = leb-true v most bounds.1 in
    no ((ltb-true 0 (length text) number.0, are_digits radix text number.1), omega (arith, fits, small))) in
    ap (λ b. if b then Some v else None) (sym test)

-- ---- UDP addresses

abbrev address : List ℕ × ℕ → SocketAddrV4
address parts = record { ip = record { octets = parts.0 }; port = parts.1 }

socket_missed : (text : Text) (r : Read (List ℕ × ℕ)) → read_socket_v4 text ≡ r → ((a : SocketAddrV4) → ¬ (IsSocketV4Text text a))
    → option_map address (whole_value r) ≡ None
socket_missed text None e none = refl
socket_missed text (Some (parts, [])) e none =
    let read = read_socket_v4_sound text [] (address parts) e in
    absurd (none (address parts) (subst (λ t. IsSocketV4Text t (address parts)) (sym (read.1 ∙ append-nil read.0)) read.2))
socket_missed text (Some (parts, c ∷ rest)) e none = rw (ne_eqb (length (c ∷ rest)) 0 (omega arith)) refl

-- what std parses is what it reads
pub socket_parsed : {E : Type 0} (text : Text) (r : Result SocketAddrV4 E) → Parses IsSocketV4Text text r
    → result_ok r ≡ socket_read text
socket_parsed text (Ok a) h = sym (ap (λ r. option_map address (whole_value r)) (read_socket_v4_complete text a h))
socket_parsed text (Err e) h = sym (socket_missed text (read_socket_v4 text) refl h)
