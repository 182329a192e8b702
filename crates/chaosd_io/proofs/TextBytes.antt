-- The bytes of a text from a place on.
use Rattle.std.proofs.Common.{◌≡◌, ℕ, ◌+◌, ◌<◌, ◌≤◌, Bool, true, false, cond, eqb, ltb, take-append-drop, length-append, length-drop, List, [], ◌∷◌, ◌++◌, drop, take, take_all, ◌-◌, append_assoc, append-nil, length, refl, arith, ap, ◌∙◌, sym}
use Rattle.std.specs.Prelude.{Option, Some, None, is_some, ◌==◌, ◌&&◌, not}
use Rattle.std.specs.List.{flat_map, list_all}
use Rattle.chaosd_io.proofs.ReadBack as back
use Rattle.chaosd_io.proofs.ReadBack.{not_escape, plain_back}
use Rattle.std.proofs.lemmas.List.{drop_all, drop-drop}
use Rattle.chaosd_io.specs.Escapes.{plain_byte, escaped_byte, with_byte, bytes_of, first_byte, counted, with_front, within_packet, data_of, is_escaped, is_plain, shown_byte}
use Rattle.chaos_packet.specs.declared.limits.TheConstants.{MAX_DATA}
use Rattle.std.proofs.lemmas.Bool.{lt-ltb}
use Rattle.std.proofs.lemmas.Bool.Decides.{nat_tests}

-- the first byte, and those of the rest
abbrev pub with_first : Option (ℕ × ℕ) → List ℕ → Option (List ℕ)
with_first None text = None
with_first (Some p) text = with_byte (Some p.0) (bytes_of (drop p.1 text))

none_first : (others : Option (List ℕ)) → with_byte None others ≡ None
none_first None = refl
none_first (Some bytes) = refl

plain_first : (first : Option ℕ) (a : ℕ) (rest : List ℕ)
    → with_byte first (bytes_of rest) ≡ with_first (counted 1 first) (a ∷ rest)
plain_first None a rest = none_first (bytes_of rest)
plain_first (Some b) a rest = refl

escaped_first : (first : Option ℕ) (a b c : ℕ) (rest : List ℕ)
    → with_byte first (bytes_of rest) ≡ with_first (counted 3 first) (a ∷ b ∷ c ∷ rest)
escaped_first None a b c rest = none_first (bytes_of rest)
escaped_first (Some x) a b c rest = refl

by_test : (t : Bool) (a b c : ℕ) (others : List ℕ)
    → cond t (with_byte (escaped_byte b c) (bytes_of others)) (with_byte (plain_byte a) (bytes_of (b ∷ c ∷ others)))
    ≡ with_first (cond t (counted 3 (escaped_byte b c)) (counted 1 (plain_byte a))) (a ∷ b ∷ c ∷ others)
by_test true a b c others = escaped_first (escaped_byte b c) a b c others
by_test false a b c others = plain_first (plain_byte a) a (b ∷ c ∷ others)

-- a text that isn't empty stands for its first byte and what the rest stands for
pub bytes_first : (text : List ℕ) → 0 < length text → bytes_of text ≡ with_first (first_byte text) text
unfolding bytes_of
bytes_first [] h = absurd (omega (arith, h))
bytes_first (a ∷ []) h = plain_first (plain_byte a) a []
bytes_first (a ∷ b ∷ []) h = plain_first (plain_byte a) a (b ∷ [])
bytes_first (a ∷ b ∷ c ∷ others) h = by_test (a == 92) a b c others

pub text_end : (text : List ℕ) (i : ℕ) → length text ≤ i → bytes_of (drop i text) ≡ Some []
unfolding bytes_of
text_end text i le = ap bytes_of (drop_all i text le)

-- one byte more in front
front_more : (front after : List ℕ) (b : ℕ) (others : Option (List ℕ)) → after ≡ front ++ b ∷ []
    → with_front after others ≡ with_front front (with_byte (Some b) others)
front_more front after b None e = refl
front_more front after b (Some bytes) e = rw e (ap Some (append_assoc front (b ∷ []) bytes))

rest_of : (text : List ℕ) (i n : ℕ) → drop n (drop i text) ≡ drop (i + n) text
rest_of text i n = drop-drop n i text ∙ ap (λ k. drop k text) (omega arith)

-- what the code looks at is the rest of the text
pub rest_whole : (text : List ℕ) (i : ℕ) → take (length text - i) (drop i text) ≡ drop i text
rest_whole text i = take_all (length text - i) (drop i text) (omega (arith, length-drop i text))

-- ---- one byte

pub byte_read : (text front after : List ℕ) (b n : ℕ) → 0 < length text → first_byte text ≡ Some (b, n)
    → after ≡ front ++ b ∷ [] → with_front after (bytes_of (drop n text)) ≡ with_front front (bytes_of text)
byte_read text front after b n some first e =
    front_more front after b (bytes_of (drop n text)) e
    ∙ sym (ap (with_front front) (bytes_first text some ∙ ap (λ p. with_first p text) first))

-- it stands for nothing
pub byte_stops : (text front : List ℕ) → 0 < length text → first_byte text ≡ None
    → within_packet (with_front front (bytes_of text)) ≡ None
byte_stops text front some first =
    ap (λ o. within_packet (with_front front o)) (bytes_first text some ∙ ap (λ p. with_first p text) first)

too_long : (front more : List ℕ) (others : Option (List ℕ)) → MAX_DATA < length front + length more
    → within_packet (with_front front (with_front more others)) ≡ None
too_long front more None h = refl
too_long front more (Some bytes) h =
    let long : ltb MAX_DATA (length (front ++ (more ++ bytes))) ≡ true =
    lt-ltb MAX_DATA _ (omega (arith, h, length-append front (more ++ bytes), length-append more bytes)) in
    rw long refl

by_front : (b : ℕ) (others : Option (List ℕ)) → with_byte (Some b) others ≡ with_front (b ∷ []) others
by_front b None = refl
by_front b (Some bytes) = refl

-- there is one byte too many
pub byte_too_many : (text front : List ℕ) (b n : ℕ) → 0 < length text → first_byte text ≡ Some (b, n)
    → length front ≡ MAX_DATA → within_packet (with_front front (bytes_of text)) ≡ None
byte_too_many text front b n some first full =
    ap (λ o. within_packet (with_front front o))
    (bytes_first text some ∙ ap (λ p. with_first p text) first ∙ by_front b (bytes_of (drop n text)))
    ∙ too_long front (b ∷ []) (bytes_of (drop n text)) (omega (arith, full))

-- ---- bytes that stand for themselves

plain_head : (b : ℕ) (bytes : List ℕ) → list_all is_plain (b ∷ bytes) ≡ true
    → (is_escaped b ≡ false) × (list_all is_plain bytes ≡ true)
plain_head b bytes h = by (is_escaped b) (list_all is_plain bytes) h
  where
    by : (x y : Bool) → (not x && y) ≡ true → (x ≡ false) × (y ≡ true)
    by false true e = (refl, refl)
    by false false e = absurd (cc)
    by true y e = absurd (cc)

join_front : (b : ℕ) (bytes : List ℕ) (others : Option (List ℕ))
    → with_byte (Some b) (with_front bytes others) ≡ with_front (b ∷ bytes) others
join_front b bytes None = refl
join_front b bytes (Some more) = refl

no_front : (others : Option (List ℕ)) → others ≡ with_front [] others
no_front None = refl
no_front (Some bytes) = refl

plain_read : (piece rest : List ℕ) → list_all is_plain piece ≡ true
    → bytes_of (piece ++ rest) ≡ with_front piece (bytes_of rest)
plain_read [] rest plain = no_front (bytes_of rest)
plain_read (b ∷ piece) rest plain =
    let (is, others) = plain_head b piece plain in
    back.plain_first b (piece ++ rest) (not_escape b is)
    ∙ ap (λ first. with_byte first (bytes_of (piece ++ rest))) (plain_back b is)
    ∙ ap (with_byte (Some b)) (plain_read piece rest others) ∙ join_front b piece (bytes_of rest)

fronts_join : (front more : List ℕ) (others : Option (List ℕ))
    → with_front (front ++ more) others ≡ with_front front (with_front more others)
fronts_join front more None = refl
fronts_join front more (Some bytes) = ap Some (append_assoc front more bytes)

piece_read : (text : List ℕ) (n : ℕ) → list_all is_plain (take n text) ≡ true
    → bytes_of text ≡ with_front (take n text) (bytes_of (drop n text))
piece_read text n plain = ap bytes_of (sym (take-append-drop n text)) ∙ plain_read (take n text) (drop n text) plain

pub plain_step : (text front after : List ℕ) (n : ℕ) → list_all is_plain (take n text) ≡ true
    → after ≡ front ++ take n text → with_front after (bytes_of (drop n text)) ≡ with_front front (bytes_of text)
plain_step text front after n plain e =
    ap (λ l. with_front l (bytes_of (drop n text))) e ∙ fronts_join front (take n text) (bytes_of (drop n text))
    ∙ ap (with_front front) (sym (piece_read text n plain))

-- they are too many
pub plain_too_many : (text front : List ℕ) (n : ℕ) → list_all is_plain (take n text) ≡ true
    → MAX_DATA < length front + length (take n text) → within_packet (with_front front (bytes_of text)) ≡ None
plain_too_many text front n plain h =
    ap (λ o. within_packet (with_front front o)) (piece_read text n plain)
    ∙ too_long front (take n text) (bytes_of (drop n text)) h

-- they are shown as themselves
pub plain_shown : (bytes : List ℕ) → list_all is_plain bytes ≡ true → flat_map shown_byte bytes ≡ bytes
plain_shown [] plain = refl
plain_shown (b ∷ bytes) plain =
    let (is, others) = plain_head b bytes plain in
    let own : shown_byte b ≡ b ∷ [] = shown_plain b is in
    ap (λ l. l ++ flat_map shown_byte bytes) own ∙ ap (λ l. b ∷ l) (plain_shown bytes others)
  where
    shown_plain : (b : ℕ) → is_escaped b ≡ false → shown_byte b ≡ b ∷ []
    shown_plain b h =
        let other : eqb b 141 ≡ false = grind (arith, nat_tests, h) in
        rw other (rw h refl)

-- ---- the loop over a text

-- its step
pub front_read : (text front after : List ℕ) (i n : ℕ)
    → with_front after (bytes_of (drop n (drop i text))) ≡ with_front front (bytes_of (drop i text))
    → with_front front (bytes_of (drop i text)) ≡ bytes_of text
    → with_front after (bytes_of (drop (i + n) text)) ≡ bytes_of text
front_read text front after i n read so_far =
    ap (λ l. with_front after (bytes_of l)) (sym (rest_of text i n)) ∙ read ∙ so_far

within : (front : List ℕ) → length front ≤ MAX_DATA → Some front ≡ within_packet (Some front)
within front le =
    let few : ltb MAX_DATA (length front) ≡ false = grind (arith, nat_tests) in
    rw few refl

-- its end
pub byte_end : (text front : List ℕ) (i : ℕ) → length text ≤ i → length front ≤ MAX_DATA
    → with_front front (bytes_of (drop i text)) ≡ bytes_of text → Some front ≡ data_of text
byte_end text front i le few so_far =
    within front few
    ∙ ap within_packet
    (ap Some (sym (append-nil front)) ∙ ap (with_front front) (sym (text_end text i le)) ∙ so_far)

-- a text of plain bytes stands for itself
pub plain_stands : (text : List ℕ) → list_all is_plain text ≡ true → length text ≤ MAX_DATA → Some text ≡ data_of text
plain_stands text plain few =
    let n = length text in
    let whole : take n text ≡ text = take_all n text (omega arith) in
    byte_end text text n (omega arith) few
    (ap (λ l. with_front l (bytes_of (drop n text))) (sym whole)
    ∙ sym (piece_read text n (ap (list_all is_plain) whole ∙ plain)))

-- ---- whether a text stands for bytes

some_byte : (b : ℕ) (others : Option (List ℕ)) → is_some (with_byte (Some b) others) ≡ is_some others
some_byte b None = refl
some_byte b (Some bytes) = refl

first_stands : (text : List ℕ) (b n : ℕ) → 0 < length text → first_byte text ≡ Some (b, n)
    → is_some (bytes_of (drop n text)) ≡ is_some (bytes_of text)
first_stands text b n some is =
    sym (some_byte b (bytes_of (drop n text)))
    ∙ ap is_some (sym (bytes_first text some ∙ ap (λ first. with_first first text) is))

-- it does where the rest does
pub rest_stands : (text : List ℕ) (i b n : ℕ) → i < length text
    → first_byte (take (length text - i) (drop i text)) ≡ Some (b, n)
    → is_some (bytes_of (drop i text)) ≡ is_some (bytes_of text)
    → is_some (bytes_of (drop (i + n) text)) ≡ is_some (bytes_of text)
rest_stands text i b n more is so_far =
    ap (λ l. is_some (bytes_of l)) (sym (rest_of text i n))
    ∙ first_stands (drop i text) b n (omega (arith, length-drop i text)) (ap first_byte (sym (rest_whole text i)) ∙ is)
    ∙ so_far

-- and not where the rest's first byte is none
pub none_stands : (text : List ℕ) (i : ℕ) → i < length text → first_byte (take (length text - i) (drop i text)) ≡ None
    → is_some (bytes_of (drop i text)) ≡ is_some (bytes_of text) → false ≡ is_some (bytes_of text)
none_stands text i more is so_far =
    let some : 0 < length (drop i text) = omega (arith, length-drop i text) in
    sym
    (ap is_some
    (bytes_first (drop i text) some
    ∙ ap (λ first. with_first first (drop i text)) (ap first_byte (sym (rest_whole text i)) ∙ is)))
    ∙ so_far

-- nothing stands for nothing
pub end_stands : (text : List ℕ) (i : ℕ) → length text ≤ i
    → is_some (bytes_of (drop i text)) ≡ is_some (bytes_of text) → true ≡ is_some (bytes_of text)
end_stands text i le so_far = sym (ap is_some (text_end text i le)) ∙ so_far
