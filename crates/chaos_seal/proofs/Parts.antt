-- Bytes and the parts that a seal has.
use Rattle.std.proofs.Common.{◌≡◌, ◌≢◌, ℕ, ◌+◌, ◌-◌, ◌<◌, ◌≤◌, ◌^◌, List, [], ◌∷◌, ◌++◌, length, length-append, length-take, length-drop, length-take-le, get_or, take, drop, refl, arith, ap, ap₂, ◌∙◌, sym}
use Rattle.std.proofs.lemmas.List.{take_all, take_at, drop_at, drop-drop, drop-take, take-take, take-append-drop, take_more}
use Rattle.std.specs.Int.{w16, w64, to_be_bytes, from_be_bytes}
use Rattle.std.proofs.lemmas.Nat.{from_be_bytes-to_be_bytes_2, from_be_bytes-to_be_bytes_8}
use Rattle.sha2.specs.Sha256.{sha256}
use Rattle.sha2.proofs.Facts256.{length-sha256}
use Rattle.chaos_seal.specs.Hmac.{hmac, padded}
use Rattle.chaos_seal.specs.Seal.{Fits, Seals, text, tag_in, tag_of, mark, front, payload_of}
use Rattle.chaos_seal.specs.Opening.{IsSealed, from_in, to_in}
use Rattle.chaos_seal.specs.declared.form.Head.{Head}

-- the numbers of a head stand in the bytes
pub record Stands (h : Head) (f : List ℕ) : Type 0 where
  pub to : to_be_bytes w16 h.to ≡ take 2 (drop 4 f)
  pub from : to_be_bytes w16 h.from ≡ take 2 (drop 6 f)
  pub session : to_be_bytes w64 h.session ≡ take 8 (drop 8 f)
  pub peer : to_be_bytes w64 h.peer ≡ take 8 (drop 16 f)
  pub counter : to_be_bytes w64 h.counter ≡ take 8 (drop 24 f)

-- bytes in their parts
pub in_parts : (f : List ℕ) (h : Head) → take 4 f ≡ mark → Stands h f → text h (drop 32 f) ≡ f
in_parts f h m s =
    let fifth : to_be_bytes w64 h.counter ++ drop 32 f ≡ drop 24 f =
    ap₂ (λ x y. x ++ y) s.counter (sym (drop-drop 8 24 f)) ∙ take-append-drop 8 (drop 24 f) in
    let fourth : to_be_bytes w64 h.peer ++ drop 24 f ≡ drop 16 f =
    ap₂ (λ x y. x ++ y) s.peer (sym (drop-drop 8 16 f)) ∙ take-append-drop 8 (drop 16 f) in
    let third : to_be_bytes w64 h.session ++ drop 16 f ≡ drop 8 f =
    ap₂ (λ x y. x ++ y) s.session (sym (drop-drop 8 8 f)) ∙ take-append-drop 8 (drop 8 f) in
    let second : to_be_bytes w16 h.from ++ drop 8 f ≡ drop 6 f =
    ap₂ (λ x y. x ++ y) s.from (sym (drop-drop 2 6 f)) ∙ take-append-drop 2 (drop 6 f) in
    let first : to_be_bytes w16 h.to ++ drop 6 f ≡ drop 4 f =
    ap₂ (λ x y. x ++ y) s.to (sym (drop-drop 2 4 f)) ∙ take-append-drop 2 (drop 4 f) in
    ap (λ l. mark ++ to_be_bytes w16 h.to ++ to_be_bytes w16 h.from ++ to_be_bytes w64 h.session ++ to_be_bytes w64 h.peer ++ l)
    fifth
    ∙ ap (λ l. mark ++ to_be_bytes w16 h.to ++ to_be_bytes w16 h.from ++ to_be_bytes w64 h.session ++ l) fourth
    ∙ ap (λ l. mark ++ to_be_bytes w16 h.to ++ to_be_bytes w16 h.from ++ l) third
    ∙ ap (λ l. mark ++ to_be_bytes w16 h.to ++ l) second
    ∙ ap (λ l. mark ++ l) first
    ∙ ap (λ l. l ++ drop 4 f) (sym m) ∙ take-append-drop 4 f

pub length-tag : (key before : List ℕ) → length (tag_of key before) ≡ 16
length-tag key before =
    let whole : length (hmac key before) ≡ 32 = length-sha256 (padded 0x5C key ++ sha256 (padded 0x36 key ++ before)) in
    omega (arith, length-take 16 (hmac key before), whole)

-- a part of the front is the same part of all
part : (n i k : ℕ) (bs : List ℕ) → i + k ≤ n → take k (drop i (take n bs)) ≡ take k (drop i bs)
part n i k bs fits =
    ap (λ m. take k (drop i (take m bs))) (omega (arith, fits)) ∙ ap (take k) (drop-take i (n - i) bs)
    ∙ take-take k (n - i) (drop i bs) (omega (arith, fits))

pub in_front : (h : Head) (bs : List ℕ) → 48 ≤ length bs → Stands h bs → Stands h (front bs)
in_front h bs long s =
    let n = length bs - 16 in
    record {
      to = s.to ∙ sym (part n 4 2 bs (omega (arith, long)));
      from = s.from ∙ sym (part n 6 2 bs (omega (arith, long)));
      session = s.session ∙ sym (part n 8 8 bs (omega (arith, long)));
      peer = s.peer ∙ sym (part n 16 8 bs (omega (arith, long)));
      counter = s.counter ∙ sym (part n 24 8 bs (omega (arith, long)));
    }

-- the mark of bytes that begin so and have 0 behind it
pub marked : (bs : List ℕ) → 48 ≤ length bs → IsSealed bs → get_or bs 3 0 ≡ 0 → take 4 (front bs) ≡ mark
marked bs long begins zero =
    take-take 4 (length bs - 16) bs (omega (arith, long)) ∙ take_more bs 3 0 (omega (arith, long))
    ∙ ap₂ (λ l x. l ++ x ∷ []) begins zero

-- numbers whose bytes are the same
same_word : (m n : ℕ) → m < 2 ^ 16 → n < 2 ^ 16 → to_be_bytes w16 m ≡ to_be_bytes w16 n → m ≡ n
same_word m n small small_too e =
    sym (from_be_bytes-to_be_bytes_2 m small) ∙ ap (from_be_bytes w16) e ∙ from_be_bytes-to_be_bytes_2 n small_too

same_long : (m n : ℕ) → m < 2 ^ 64 → n < 2 ^ 64 → to_be_bytes w64 m ≡ to_be_bytes w64 n → m ≡ n
same_long m n small small_too e =
    sym (from_be_bytes-to_be_bytes_8 m small) ∙ ap (from_be_bytes w64) e ∙ from_be_bytes-to_be_bytes_8 n small_too

same_head : (h k : Head) → h.to ≡ k.to → h.from ≡ k.from → h.session ≡ k.session → h.peer ≡ k.peer → h.counter ≡ k.counter
    → h ≡ k
same_head h k to from session peer counter =
    λ j. record { to = to j; from = from j; session = session j; peer = peer j; counter = counter j }

-- There is one way to read a text.
same_text : (h k : Head) (p q : List ℕ) → Fits h → Fits k → text h p ≡ text k q → (h ≡ k) × (p ≡ q)
same_text h k p q f g e = (
  same_head h k
      (same_word h.to k.to f.to g.to (ap (λ l. take 2 (drop 4 l)) e))
      (same_word h.from k.from f.from g.from (ap (λ l. take 2 (drop 6 l)) e))
      (same_long h.session k.session f.session g.session (ap (λ l. take 8 (drop 8 l)) e))
      (same_long h.peer k.peer f.peer g.peer (ap (λ l. take 8 (drop 16 l)) e))
      (same_long h.counter k.counter f.counter g.counter (ap (λ l. take 8 (drop 24 l)) e)),
  ap (drop 32) e,
)

module _ {key : List ℕ} {h : Head} {payload bs : List ℕ} (s : Seals key h payload bs) where
  abbrev before : List ℕ
  before = text h payload

  abbrev its_tag : List ℕ
  its_tag = tag_of key before

  pub long : length bs ≡ 48 + length payload
  long = ap length s.bytes ∙ omega (arith, length-append before its_tag, length-tag key before)

  pub front_is : front bs ≡ before
  front_is = ap (take (length bs - 16)) s.bytes ∙ take_at before its_tag (length bs - 16) (omega (arith, long))

  pub tag_is : tag_in bs ≡ tag_of key (front bs)
  tag_is =
      ap (drop (length bs - 16)) s.bytes ∙ drop_at before its_tag (length bs - 16) (omega (arith, long))
      ∙ ap (tag_of key) (sym front_is)

  pub payload_is : payload_of bs ≡ payload
  payload_is = ap (drop 32) front_is

  pub begins : IsSealed bs
  begins = ap (take 3) s.bytes

  pub version_is : get_or bs 3 0 ≡ 0
  version_is = ap (λ l. get_or l 3 0) s.bytes

  pub to_is : to_in bs ≡ h.to
  to_is = ap (λ l. from_be_bytes w16 (take 2 (drop 4 l))) s.bytes ∙ from_be_bytes-to_be_bytes_2 h.to s.fits.to

  pub from_is : from_in bs ≡ h.from
  from_is = ap (λ l. from_be_bytes w16 (take 2 (drop 6 l))) s.bytes ∙ from_be_bytes-to_be_bytes_2 h.from s.fits.from

-- There is one way to open bytes, whatever the key.
pub opens_once : (key other : List ℕ) (h k : Head) (p q bs : List ℕ) → Seals key h p bs → Seals other k q bs → (h ≡ k) × (p ≡ q)
opens_once key other h k p q bs s t = same_text h k p q s.fits t.fits (sym (front_is s) ∙ front_is t)

-- bytes whose parts are right
pub sealed_by_parts : (key bs : List ℕ) (h : Head) → 48 ≤ length bs → Fits h → Stands h bs → IsSealed bs → get_or bs 3 0 ≡ 0
    → tag_in bs ≡ tag_of key (front bs) → Seals key h (payload_of bs) bs
sealed_by_parts key bs h size fits stands begin zero right =
    let whole = in_parts (front bs) h (marked bs size begin zero) (in_front h bs size stands) in
    record {
      fits = fits;
      bytes =
          sym (take-append-drop (length bs - 16) bs) ∙ ap (λ l. front bs ++ l) right
          ∙ ap (λ l. l ++ tag_of key l) (sym whole);
    }

-- the address that stands in the bytes
pub word_in : (n i : ℕ) (bs : List ℕ) → n < 2 ^ 16 → to_be_bytes w16 n ≡ take 2 (drop i bs)
    → from_be_bytes w16 (take 2 (drop i bs)) ≡ n
word_in n i bs small e = ap (from_be_bytes w16) (sym e) ∙ from_be_bytes-to_be_bytes_2 n small

-- the parts, one behind the other
pub put_together : (key : List ℕ) (h : Head) (payload d0 d1 d2 d3 d4 d5 d6 d7 tag d8 : List ℕ) → Fits h → d0 ≡ []
    → d1 ≡ d0 ++ mark → d2 ≡ d1 ++ to_be_bytes w16 h.to → d3 ≡ d2 ++ to_be_bytes w16 h.from
    → d4 ≡ d3 ++ to_be_bytes w64 h.session → d5 ≡ d4 ++ to_be_bytes w64 h.peer → d6 ≡ d5 ++ to_be_bytes w64 h.counter
    → d7 ≡ d6 ++ payload → tag ≡ tag_of key d7 → d8 ≡ d7 ++ tag → Seals key h payload d8
put_together key h payload d0 d1 d2 d3 d4 d5 d6 d7 tag d8 fits e0 e1 e2 e3 e4 e5 e6 e7 et e8 =
    let f1 : d1 ≡ mark = e1 ∙ ap (λ l. l ++ mark) e0 in
    let f2 : d2 ≡ mark ++ to_be_bytes w16 h.to = e2 ∙ ap (λ l. l ++ to_be_bytes w16 h.to) f1 in
    let f3 : d3 ≡ mark ++ to_be_bytes w16 h.to ++ to_be_bytes w16 h.from = e3 ∙ ap (λ l. l ++ to_be_bytes w16 h.from) f2 in
    let f4 : d4 ≡ mark ++ to_be_bytes w16 h.to ++ to_be_bytes w16 h.from ++ to_be_bytes w64 h.session =
    e4 ∙ ap (λ l. l ++ to_be_bytes w64 h.session) f3 in
    let f5 : d5 ≡ mark ++ to_be_bytes w16 h.to ++ to_be_bytes w16 h.from ++ to_be_bytes w64 h.session ++ to_be_bytes w64 h.peer =
    e5 ∙ ap (λ l. l ++ to_be_bytes w64 h.peer) f4 in
    let f6 : d6 ≡ text h [] = e6 ∙ ap (λ l. l ++ to_be_bytes w64 h.counter) f5 in
    let f7 : d7 ≡ text h payload = e7 ∙ ap (λ l. l ++ payload) f6 in
    record { fits = fits; bytes = e8 ∙ ap (λ l. d7 ++ l) et ∙ ap (λ l. l ++ tag_of key l) f7 }

-- the bytes behind the front
pub tail_whole : (bs : List ℕ) → take (length bs - (length bs - 16)) (tag_in bs) ≡ tag_in bs
tail_whole bs = take_all (length bs - (length bs - 16)) (tag_in bs) (omega (arith, length-drop (length bs - 16) bs))

pub behind_head : (bs : List ℕ) → take (length (front bs) - 32) (drop 32 (front bs)) ≡ payload_of bs
behind_head bs = take_all (length (front bs) - 32) (drop 32 (front bs)) (omega (arith, length-drop 32 (front bs)))

-- a length of none
pub no_payload : (l : List ℕ) → length l ≡ 0 → l ≡ []
no_payload [] e = refl
no_payload (x ∷ xs) e = absurd (omega arith)

pub some_payload : (l : List ℕ) → 0 < length l → l ≢ []
some_payload l some e = omega (arith, some, ap length e)

-- ---- the payload moved to the front

payload_at : (old : List ℕ) (count : ℕ) → 48 ≤ count → count ≤ length old
    → payload_of (take count old) ≡ take (count - 48) (drop 32 old)
payload_at old count long fits =
    ap (λ n. drop 32 (take (n - 16) (take count old))) (length-take-le count old fits)
    ∙ ap (drop 32) (take-take (count - 16) count old (omega arith))
    ∙ ap (λ n. drop 32 (take n old)) (omega (arith, long))
    ∙ drop-take 32 (count - 48) old

pub lifted : (old new : List ℕ) (count : ℕ) → 48 ≤ count → count ≤ length old
    → new ≡ take 0 old ++ take (count - 16 - 32) (drop 32 old) ++ drop (0 + (count - 16 - 32)) old → take (length (payload_of (take count old))) new ≡ payload_of (take count old)
lifted old new count long fits is =
    let moved = take (count - 48) (drop 32 old) in
    let size : length moved ≡ count - 48 =
    length-take-le (count - 48) (drop 32 old) (omega (arith, length-drop 32 old, fits, long)) in
    let all : length (payload_of (take count old)) ≡ count - 48 = ap length (payload_at old count long fits) ∙ size in
    let less : count - 16 - 32 ≡ count - 48 = omega (arith, long) in
    ap (λ n. take n new) all ∙ ap (take (count - 48)) is
    ∙ ap (λ n. take (count - 48) (take n (drop 32 old) ++ drop (0 + n) old)) less
    ∙ take_at moved (drop (0 + (count - 48)) old) (count - 48) size
    ∙ sym (payload_at old count long fits)
