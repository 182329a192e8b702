-- What is read as a command was spelled as that command: the other direction of `Spelling`.
use Rattle.std.proofs.Common.{◌≡◌, ◌<◌, ℕ, zero, suc, ◌+◌, Bool, true, false, cond, List, [], ◌∷◌, ◌++◌, length, take, drop, Option, Some, None, refl, ap, ◌∙◌, sym, subst, arith}
use Rattle.std.specs.Prelude.{not, option_map, ◌&&◌, ◌==◌, nat_le, nat_eq, if◌then◌else◌, codes}
use Rattle.std.specs.List.{prefix_len, starts_with}
use Rattle.std.specs.Str.{bytes_eq}
use Rattle.std.proofs.lemmas.List.{take-append-drop}
use Rattle.std.proofs.lemmas.Bool.{eqb-true, ltb-true}
use Rattle.std.proofs.Math.Dec.{ltb}
use Rattle.chaos_file.specs.declared.limits.TheConstants.{NL, MAX_TID, MAX_HANDLE, MAX_NAME, MAX_CHUNK}
use Rattle.chaos_file.specs.declared.command.Word.{Word}
use Rattle.chaos_file.specs.declared.command.Word.TheVariants as w
use Rattle.chaos_file.specs.Names.{is_name, is_path}
use Rattle.chaos_file.specs.Command.{CommandView, Login, OpenRead, OpenWrite, Read, Write, Close, Rename, Delete, FormView, Malformed, IllegalPath, Formed, ParsedView, NoWord, Good}
use Rattle.chaos_file.specs.Grammar.{is_nil, space, cut, after_front, Head, head_of, head_after, named_head, word_of, word_end, formed_if, legal_if, login_form, open_write_form, open_form, write_form, paths_form, rename_form, delete_form, form_of, parse_of_form, parse_of_word, parse_of_tail, parse_of_head, parse_of}
use Rattle.chaos_file.specs.Spelling.{spelling_of_command, spelling_of, is_legal, is_good}
use Rattle.chaos_file.proofs.Files.{bytes_same}
use Rattle.chaos_file.proofs.Spelling.{both_left, both_right}

pub both : (a b : Bool) → a ≡ true → b ≡ true → (a && b) ≡ true
both a b h k = ap (λ v. v && b) h ∙ k

-- ---- the bytes before the first `stop`, and those after it

zero_passes : (v : Bool) (m : ℕ) → cond (not v) (1 + m) 0 ≡ 0 → v ≡ true
zero_passes true m h = refl
zero_passes false m h = let k : 1 + m ≡ 0 = h in absurd (omega arith)

suc_goes_on : (v : Bool) (m k : ℕ) → cond (not v) (1 + m) 0 ≡ suc k → m ≡ k
suc_goes_on true m k h = let e : 0 ≡ suc k = h in omega arith
suc_goes_on false m k h = let e : 1 + m ≡ suc k = h in omega arith

-- a list about the first element that passes
split_at : (p : ℕ → Bool) (xs : List ℕ) (n : ℕ) → prefix_len (λ x. not (p x)) xs ≡ n → n < length xs
    → (b : ℕ) × (p b ≡ true) × (xs ≡ take n xs ++ b ∷ drop (suc n) xs)
split_at p [] n e l = absurd (omega arith)
split_at p (x ∷ xs) zero e l = (x, zero_passes (p x) (prefix_len (λ y. not (p y)) xs) e, refl)
split_at p (x ∷ xs) (suc k) e l =
    let rest : (b : ℕ) × (p b ≡ true) × (xs ≡ take k xs ++ b ∷ drop (suc k) xs) =
    split_at p xs k (suc_goes_on (p x) (prefix_len (λ y. not (p y)) xs) k e) (omega arith) in
    (rest.0, rest.1, ap (λ ys. x ∷ ys) rest.2)

cut_inner : (f : ℕ → List ℕ × List ℕ) (v : Bool) (n : ℕ) (q : List ℕ × List ℕ)
    → option_map f (cond v (Some n) None) ≡ Some q → (v ≡ true) × (f n ≡ q)
cut_inner f true n q h = (refl, cc)
cut_inner f false n q h = (cc, cc)

pub cut_parts : (stop : ℕ) (xs : List ℕ) (q : List ℕ × List ℕ) → cut stop xs ≡ Some q → xs ≡ q.0 ++ stop ∷ q.1
cut_parts stop xs q h =
    let n : ℕ = prefix_len (λ x. not (x == stop)) xs in
    let c : (ltb n (length xs) ≡ true) × ((take n xs, drop (n + 1) xs) ≡ q) = cut_inner (λ i. (take i xs, drop (i + 1) xs)) (ltb n (length xs)) n q h in
    let s : (b : ℕ) × ((b == stop) ≡ true) × (xs ≡ take n xs ++ b ∷ drop (suc n) xs) = split_at (λ x. x == stop) xs n refl (ltb-true n (length xs) c.0) in
    let next : suc n ≡ n + 1 = omega arith in
    s.2 ∙ ap (λ b. take n xs ++ b ∷ drop (suc n) xs) (eqb-true s.0 stop s.1)
    ∙ ap (λ k. take n xs ++ stop ∷ drop k xs) next ∙ ap (λ r. r.0 ++ stop ∷ r.1) c.1

-- ---- what follows a front

front_inner : (v : Bool) (d rest : List ℕ) → (if v then Some d else None) ≡ Some rest → (v ≡ true) × (d ≡ rest)
front_inner true d rest h = (refl, cc)
front_inner false d rest h = (cc, cc)

pub front_parts : (front bytes rest : List ℕ) → after_front front bytes ≡ Some rest → bytes ≡ front ++ rest
front_parts front bytes rest h =
    let c : (starts_with nat_eq bytes front ≡ true) × (drop (length front) bytes ≡ rest) =
    front_inner (starts_with nat_eq bytes front) (drop (length front) bytes) rest h in
    sym (take-append-drop (length front) bytes)
    ∙ ap (λ x. x ++ drop (length front) bytes) (sym (bytes_same front (take (length front) bytes) c.0))
    ∙ ap (λ r. front ++ r) c.1

pub nil_parts : (bytes : List ℕ) → is_nil bytes ≡ true → bytes ≡ []
nil_parts [] h = refl
nil_parts (b ∷ bytes) h = let e : length (b ∷ bytes) ≡ 0 = eqb-true (length (b ∷ bytes)) 0 h in absurd (omega arith)

-- ---- the forms

formed_parts : (v : Bool) (c d : CommandView) → formed_if v c ≡ Formed d → (v ≡ true) × (c ≡ d)
formed_parts true c d h = (refl, cc)
formed_parts false c d h = (cc, cc)

legal_parts : (v : Bool) (c d : CommandView) → legal_if v c ≡ Formed d → (v ≡ true) × (c ≡ d)
legal_parts true c d h = (refl, cc)
legal_parts false c d h = (cc, cc)

unless_parts : (v : Bool) (f : FormView) (c : CommandView) → (if v then Malformed else f) ≡ Formed c
    → (v ≡ false) × (f ≡ Formed c)
unless_parts true f c h = (cc, cc)
unless_parts false f c h = (refl, h)

where_parts : (v : Bool) (f : FormView) (c : CommandView) → (if v then f else Malformed) ≡ Formed c
    → (v ≡ true) × (f ≡ Formed c)
where_parts true f c h = (refl, h)
where_parts false f c h = (cc, cc)

-- a word and what stands behind it spell a legal command
Spells : List ℕ → List ℕ → Bool → CommandView → Type 0
Spells word rest bare command = (word ++ rest ≡ spelling_of_command command) × (is_legal bare command ≡ true)

spells : (word rest : List ℕ) (bare : Bool) (c d : CommandView) → c ≡ d → word ++ rest ≡ spelling_of_command c
    → is_legal bare c ≡ true → Spells word rest bare d
unfolding Spells
spells word rest bare c d e h k = (h ∙ ap spelling_of_command e, ap (is_legal bare) (sym e) ∙ k)

unmade : (c : CommandView) → Malformed ≡ Formed c → ⊥
unmade c h = cc

login_parts : (bare : Bool) (rest : List ℕ) (c : CommandView) → (o : Option (List ℕ))
    → after_front (space ∷ []) rest ≡ o → login_form bare o ≡ Formed c → Spells (codes "LOGIN") rest bare c
login_parts bare rest c None e h = absurd (unmade c h)
login_parts bare rest c (Some name) e h =
    let p : ((bare && is_name 1 MAX_NAME name) ≡ true) × (Login name ≡ c) =
    formed_parts (bare && is_name 1 MAX_NAME name) (Login name) c h in
    spells (codes "LOGIN") rest bare (Login name) c p.1
    (ap (λ r. codes "LOGIN" ++ r) (front_parts (space ∷ []) rest name e)) p.0

open_write_parts : (rest : List ℕ) (c : CommandView) → (o : Option (List ℕ))
    → after_front (codes " WRITE" ++ NL ∷ []) rest ≡ o → open_write_form o ≡ Formed c
    → Spells (codes "OPEN") rest false c
open_write_parts rest c None e h = absurd (unmade c h)
open_write_parts rest c (Some path) e h =
    let p : (is_path path ≡ true) × (OpenWrite path ≡ c) = legal_parts (is_path path) (OpenWrite path) c h in
    spells (codes "OPEN") rest false (OpenWrite path) c p.1
    (ap (λ r. codes "OPEN" ++ r) (front_parts (codes " WRITE" ++ NL ∷ []) rest path e)) p.0

open_parts : (rest : List ℕ) (c : CommandView) → (o : Option (List ℕ)) → after_front (codes " READ" ++ NL ∷ []) rest ≡ o
    → open_form rest o ≡ Formed c → Spells (codes "OPEN") rest false c
open_parts rest c None e h = open_write_parts rest c (after_front (codes " WRITE" ++ NL ∷ []) rest) refl h
open_parts rest c (Some path) e h =
    let p : (is_path path ≡ true) × (OpenRead path ≡ c) = legal_parts (is_path path) (OpenRead path) c h in
    spells (codes "OPEN") rest false (OpenRead path) c p.1
    (ap (λ r. codes "OPEN" ++ r) (front_parts (codes " READ" ++ NL ∷ []) rest path e)) p.0

-- a word with nothing behind it
alone_parts : (word rest : List ℕ) (bare : Bool) (c d : CommandView) → word ++ [] ≡ spelling_of_command c
    → not bare ≡ is_legal bare c → formed_if (not bare && is_nil rest) c ≡ Formed d → Spells word rest bare d
alone_parts word rest bare c d s l h =
    let p : ((not bare && is_nil rest) ≡ true) × (c ≡ d) = formed_parts (not bare && is_nil rest) c d h in
    spells word rest bare c d p.1
    (ap (λ r. word ++ r) (nil_parts rest (both_right (not bare) (is_nil rest) p.0)) ∙ s)
    (sym l ∙ both_left (not bare) (is_nil rest) p.0)

write_parts : (rest : List ℕ) (c : CommandView) → (o : Option (List ℕ)) → after_front (NL ∷ []) rest ≡ o
    → write_form o ≡ Formed c → Spells (codes "WRITE") rest false c
write_parts rest c None e h = absurd (unmade c h)
write_parts rest c (Some bytes) e h =
    let p : (nat_le (length bytes) MAX_CHUNK ≡ true) × (Write bytes ≡ c) =
    formed_parts (nat_le (length bytes) MAX_CHUNK) (Write bytes) c h in
    spells (codes "WRITE") rest false (Write bytes) c p.1
    (ap (λ r. codes "WRITE" ++ r) (front_parts (NL ∷ []) rest bytes e)) p.0

paths_parts : (rest text : List ℕ) (c : CommandView) → rest ≡ NL ∷ text → (o : Option (List ℕ × List ℕ))
    → cut NL text ≡ o → paths_form o ≡ Formed c → Spells (codes "RENAME") rest true c
paths_parts rest text c f None e h = absurd (unmade c h)
paths_parts rest text c f (Some q) e h =
    let p : ((is_path q.0 && is_path q.1) ≡ true) × (Rename q.0 q.1 ≡ c) =
    legal_parts (is_path q.0 && is_path q.1) (Rename q.0 q.1) c h in
    spells (codes "RENAME") rest true (Rename q.0 q.1) c p.1
    (ap (λ r. codes "RENAME" ++ r) (f ∙ ap (λ t. NL ∷ t) (cut_parts NL text q e))) p.0

rename_parts : (rest : List ℕ) (c : CommandView) → (o : Option (List ℕ)) → after_front (NL ∷ []) rest ≡ o
    → rename_form o ≡ Formed c → Spells (codes "RENAME") rest true c
rename_parts rest c None e h = absurd (unmade c h)
rename_parts rest c (Some text) e h = paths_parts rest text c (front_parts (NL ∷ []) rest text e) (cut NL text) refl h

delete_parts : (rest : List ℕ) (c : CommandView) → (o : Option (List ℕ)) → after_front (NL ∷ []) rest ≡ o
    → delete_form o ≡ Formed c → Spells (codes "DELETE") rest true c
delete_parts rest c None e h = absurd (unmade c h)
delete_parts rest c (Some path) e h =
    let p : (is_path path ≡ true) × (Delete path ≡ c) = legal_parts (is_path path) (Delete path) c h in
    spells (codes "DELETE") rest true (Delete path) c p.1
    (ap (λ r. codes "DELETE" ++ r) (front_parts (NL ∷ []) rest path e)) p.0

-- the letters of a word
unfoldable pub letters : Word → List ℕ
letters w.Login = codes "LOGIN"
letters w.Open = codes "OPEN"
letters w.Read = codes "READ"
letters w.Write = codes "WRITE"
letters w.Close = codes "CLOSE"
letters w.Rename = codes "RENAME"
letters w.Delete = codes "DELETE"

barely : (word rest : List ℕ) (v bare : Bool) (c : CommandView) → bare ≡ v → Spells word rest v c
    → Spells word rest bare c
barely word rest v bare c e h = let P : Bool → Type 0 = λ b. Spells word rest b c in subst P (sym e) h

form_parts : (bare : Bool) (rest : List ℕ) (c : CommandView) → (word : Word) → form_of word bare rest ≡ Formed c
    → Spells (letters word) rest bare c
unfolding letters
form_parts bare rest c w.Login h = login_parts bare rest c (after_front (space ∷ []) rest) refl h
form_parts bare rest c w.Open h =
    let p : (bare ≡ false) × (open_form rest (after_front (codes " READ" ++ NL ∷ []) rest) ≡ Formed c) =
    unless_parts bare (open_form rest (after_front (codes " READ" ++ NL ∷ []) rest)) c h in
    barely (codes "OPEN") rest false bare c p.0
    (open_parts rest c (after_front (codes " READ" ++ NL ∷ []) rest) refl p.1)
form_parts bare rest c w.Read h = alone_parts (codes "READ") rest bare Read c refl refl h
form_parts bare rest c w.Write h =
    let p : (bare ≡ false) × (write_form (after_front (NL ∷ []) rest) ≡ Formed c) =
    unless_parts bare (write_form (after_front (NL ∷ []) rest)) c h in
    barely (codes "WRITE") rest false bare c p.0 (write_parts rest c (after_front (NL ∷ []) rest) refl p.1)
form_parts bare rest c w.Close h = alone_parts (codes "CLOSE") rest bare Close c refl refl h
form_parts bare rest c w.Rename h =
    let p : (bare ≡ true) × (rename_form (after_front (NL ∷ []) rest) ≡ Formed c) =
    where_parts bare (rename_form (after_front (NL ∷ []) rest)) c h in
    barely (codes "RENAME") rest true bare c p.0 (rename_parts rest c (after_front (NL ∷ []) rest) refl p.1)
form_parts bare rest c w.Delete h =
    let p : (bare ≡ true) × (delete_form (after_front (NL ∷ []) rest) ≡ Formed c) =
    where_parts bare (delete_form (after_front (NL ∷ []) rest)) c h in
    barely (codes "DELETE") rest true bare c p.0 (delete_parts rest c (after_front (NL ∷ []) rest) refl p.1)

-- ---- the word

word_or : (v : Bool) (bytes name : List ℕ) (a word : Word) (others : Option Word) → (v ≡ true → bytes ≡ name)
    → name ≡ letters a → (others ≡ Some word → bytes ≡ letters word) → (if v then Some a else others) ≡ Some word
    → bytes ≡ letters word
word_or true bytes name a word others f s g h = let e : a ≡ word = cc in f refl ∙ s ∙ ap letters e
word_or false bytes name a word others f s g h = g h

word_next : (bytes name : List ℕ) (a word : Word) (others : Option Word) → name ≡ letters a
    → (others ≡ Some word → bytes ≡ letters word) → (if bytes_eq bytes name then Some a else others) ≡ Some word
    → bytes ≡ letters word
word_next bytes name a word others s g h =
    word_or (bytes_eq bytes name) bytes name a word others (bytes_same bytes name) s g h

no_word : (bytes : List ℕ) (word : Word) → ◌≡◌ {A = Option Word} None (Some word) → bytes ≡ letters word
no_word bytes word h = cc

pub word_parts : (bytes : List ℕ) (word : Word) → word_of bytes ≡ Some word → bytes ≡ letters word
unfolding letters
word_parts bytes word h =
    word_next bytes (codes "LOGIN") w.Login word _ refl
    (word_next bytes (codes "OPEN") w.Open word _ refl
    (word_next bytes (codes "READ") w.Read word _ refl
    (word_next bytes (codes "WRITE") w.Write word _ refl
    (word_next bytes (codes "CLOSE") w.Close word _ refl
    (word_next bytes (codes "RENAME") w.Rename word _ refl
    (word_next bytes (codes "DELETE") w.Delete word None refl (no_word bytes word))))))) h

-- ---- the whole command

-- the two names are given back, and the rest spells the command
SpellsTail : List ℕ → List ℕ → List ℕ → ParsedView → Type 0
SpellsTail t h tail (Good tid handle command) =
    (t ≡ tid) × (h ≡ handle) × (tail ≡ spelling_of_command command) × (is_legal (is_nil h) command ≡ true)
SpellsTail t h tail _ = Unit {0}

form_spells : (t h : List ℕ) (word : Word) (end : ℕ) (tail : List ℕ) → take end tail ≡ letters word → (f : FormView)
    → form_of word (is_nil h) (drop end tail) ≡ f → SpellsTail t h tail (parse_of_form t h word f)
unfolding SpellsTail Spells
form_spells t h word end tail e Malformed f = tt
form_spells t h word end tail e IllegalPath f = tt
form_spells t h word end tail e (Formed command) f =
    let s : Spells (letters word) (drop end tail) (is_nil h) command =
    form_parts (is_nil h) (drop end tail) command word f in
    (refl, refl, sym (take-append-drop end tail) ∙ ap (λ x. x ++ drop end tail) e ∙ s.0, s.1)

word_spells : (t h : List ℕ) (end : ℕ) (tail : List ℕ) → (o : Option Word) → word_of (take end tail) ≡ o
    → SpellsTail t h tail (parse_of_word t h (drop end tail) o)
unfolding SpellsTail
word_spells t h end tail None e = tt
word_spells t h end tail (Some word) e =
    form_spells t h word end tail (word_parts (take end tail) word e) (form_of word (is_nil h) (drop end tail)) refl

tail_or : (t h tail : List ℕ) (p : ParsedView) → SpellsTail t h tail p → (v : Bool)
    → SpellsTail t h tail (if v then NoWord t h else p)
unfolding SpellsTail
tail_or t h tail p s true = tt
tail_or t h tail p s false = s

tail_spells : (t h tail : List ℕ) (end : ℕ) → SpellsTail t h tail (parse_of_tail t h tail end)
tail_spells t h tail end =
    tail_or t h tail (parse_of_word t h (drop end tail) (word_of (take end tail)))
    (word_spells t h end tail (word_of (take end tail)) refl) (end == 0)

-- the head of a command: its two legal names, and what follows
unfoldable pub IsHead : List ℕ → Head → Type 0
IsHead bytes h =
    (bytes ≡ h.tid ++ space ∷ (h.handle ++ space ∷ h.tail)) × (is_name 1 MAX_TID h.tid ≡ true)
    × (is_name 0 MAX_HANDLE h.handle ≡ true)

head_if : (bytes : List ℕ) (g h : Head) (a b : Bool) → bytes ≡ g.tid ++ space ∷ (g.handle ++ space ∷ g.tail)
    → is_name 1 MAX_TID g.tid ≡ a → is_name 0 MAX_HANDLE g.handle ≡ b → (if a && b then Some g else None) ≡ Some h
    → IsHead bytes h
unfolding IsHead
head_if bytes g h true true e p q k =
    let same : g ≡ h = cc in
    let P : Head → Type 0 = λ x. IsHead bytes x in
    subst P same (e, p, q)
head_if bytes g h true false e p q k = (cc, cc, cc)
head_if bytes g h false b e p q k = (cc, cc, cc)

named_parts : (bytes tid after : List ℕ) (h : Head) → bytes ≡ tid ++ space ∷ after → (o : Option (List ℕ × List ℕ))
    → cut space after ≡ o → named_head tid o ≡ Some h → IsHead bytes h
unfolding IsHead
named_parts bytes tid after h e None f k = (cc, cc, cc)
named_parts bytes tid after h e (Some q) f k =
    head_if bytes (record { tid = tid; handle = q.0; tail = q.1 }) h (is_name 1 MAX_TID tid) (is_name 0 MAX_HANDLE q.0)
    (e ∙ ap (λ x. tid ++ space ∷ x) (cut_parts space after q f)) refl refl k

pub head_parts : (bytes : List ℕ) (h : Head) → (o : Option (List ℕ × List ℕ)) → cut space bytes ≡ o
    → head_after o ≡ Some h → IsHead bytes h
unfolding IsHead
head_parts bytes h None e k = (cc, cc, cc)
head_parts bytes h (Some q) e k = named_parts bytes q.0 q.1 h (cut_parts space bytes q e) (cut space q.1) refl k

whole : (bytes : List ℕ) (h : Head) (tid handle : List ℕ) (command : CommandView) → IsHead bytes h → (p : ParsedView)
    → SpellsTail h.tid h.handle h.tail p → p ≡ Good tid handle command
    → (bytes ≡ spelling_of tid handle command) × (is_good tid handle command ≡ true)
unfolding IsHead SpellsTail
whole bytes h tid handle command i p s e =
    let P : ParsedView → Type 0 = λ x. SpellsTail h.tid h.handle h.tail x in
    let g : (h.tid ≡ tid) × (h.handle ≡ handle) × (h.tail ≡ spelling_of_command command)
    × (is_legal (is_nil h.handle) command ≡ true) =
    subst P e s in (
      i.0 ∙ ap (λ x. x ++ space ∷ (h.handle ++ space ∷ h.tail)) g.0 ∙ ap (λ x. tid ++ space ∷ (x ++ space ∷ h.tail)) g.1
          ∙ ap (λ x. tid ++ space ∷ (handle ++ space ∷ x)) g.2,
      both (is_name 1 MAX_TID tid) (is_name 0 MAX_HANDLE handle && is_legal (is_nil handle) command)
          (ap (is_name 1 MAX_TID) (sym g.0) ∙ i.1)
          (both (is_name 0 MAX_HANDLE handle) (is_legal (is_nil handle) command)
          (ap (is_name 0 MAX_HANDLE) (sym g.1) ∙ i.2) (ap (λ x. is_legal (is_nil x) command) (sym g.1) ∙ g.3)),
    )

read_from : (bytes tid handle : List ℕ) (command : CommandView) → (o : Option Head) → head_of bytes ≡ o
    → parse_of_head o ≡ Good tid handle command
    → (bytes ≡ spelling_of tid handle command) × (is_good tid handle command ≡ true)
read_from bytes tid handle command None e h = (cc, cc)
read_from bytes tid handle command (Some g) e h =
    whole bytes g tid handle command (head_parts bytes g (cut space bytes) refl e)
    (parse_of_tail g.tid g.handle g.tail (word_end g.tail)) (tail_spells g.tid g.handle g.tail (word_end g.tail)) h

pub read_spelled : (bytes tid handle : List ℕ) (command : CommandView) → parse_of bytes ≡ Good tid handle command
    → bytes ≡ spelling_of tid handle command
read_spelled bytes tid handle command h = (read_from bytes tid handle command (head_of bytes) refl h).0

pub read_good : (bytes tid handle : List ℕ) (command : CommandView) → parse_of bytes ≡ Good tid handle command
    → is_good tid handle command ≡ true
read_good bytes tid handle command h = (read_from bytes tid handle command (head_of bytes) refl h).1
