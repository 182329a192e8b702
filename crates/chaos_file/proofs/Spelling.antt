-- What is spelled is read as it was meant.
use Rattle.std.proofs.Common.{◌≡◌, ℕ, ◌+◌, ◌<◌, Bool, true, false, cond, List, [], ◌∷◌, ◌++◌, length, drop, Some, None, refl, ap, ◌∙◌, sym, arith, rules, append_assoc, length-append}
use Rattle.std.specs.Prelude.{not, ◌&&◌, ◌==◌, nat_le, if◌then◌else◌, position, codes}
use Rattle.std.specs.List.{list_all, prefix_len}
use Rattle.std.specs.Char.{is_ascii_alphanumeric}
use Rattle.std.proofs.Math.Seq.{take-append_seam, drop-append-add}
use Rattle.std.proofs.lemmas.Bool.{lt-ltb, eqb-true}
use Rattle.chaos_file.specs.declared.limits.TheConstants.{NL, MAX_TID, MAX_HANDLE, MAX_NAME, MAX_PATH, MAX_CHUNK}
use Rattle.chaos_file.specs.declared.command.Word.{Word}
use Rattle.chaos_file.specs.declared.command.Word.TheVariants as w
use Rattle.chaos_file.specs.Names.{is_name, is_path, is_path_byte, begins_with_dot}
use Rattle.chaos_file.specs.Command.{CommandView, Login, OpenRead, OpenWrite, Read, Write, Close, Rename, Delete, FormView, Malformed, Formed, Good}
use Rattle.chaos_file.specs.Grammar.{is_nil, space, cut, head_of, head_after, named_head, ends_word, word_end, formed_if, legal_if, paths_form, parse_of_form, parse_of_tail, parse_of_head, parse_of}
use Rattle.chaos_file.specs.Answer.{reply_front}
use Rattle.chaos_file.specs.Spelling.{spelling_of_command, spelling_of, is_legal, is_good}

pub both_left : (a b : Bool) → (a && b) ≡ true → a ≡ true
both_left true b h = refl
both_left false b h = h

pub both_right : (a b : Bool) → (a && b) ≡ true → b ≡ true
both_right true b h = h
both_right false b h = cc

-- where the first byte that passes stands, behind bytes of which none does
prefix_front : (p : ℕ → Bool) (xs ys : List ℕ) (b : ℕ) → list_all (λ x. not (p x)) xs ≡ true → p b ≡ true
    → prefix_len (λ x. not (p x)) (xs ++ b ∷ ys) ≡ length xs
prefix_front p [] ys b h e = ap (λ v. cond (not v) (1 + prefix_len (λ x. not (p x)) ys) 0) e
prefix_front p (x ∷ xs) ys b h e =
    ap (λ v. cond v (1 + prefix_len (λ y. not (p y)) (xs ++ b ∷ ys)) 0)
    (both_left (not (p x)) (list_all (λ y. not (p y)) xs) h)
    ∙ ap (λ n. 1 + n) (prefix_front p xs ys b (both_right (not (p x)) (list_all (λ y. not (p y)) xs) h) e)
    ∙ omega arith

position_front : (p : ℕ → Bool) (xs ys : List ℕ) (b : ℕ) → list_all (λ x. not (p x)) xs ≡ true → p b ≡ true
    → position p (xs ++ b ∷ ys) ≡ Some (length xs)
position_front p xs ys b h e =
    let n : prefix_len (λ x. not (p x)) (xs ++ b ∷ ys) ≡ length xs = prefix_front p xs ys b h e in
    let l : length (xs ++ b ∷ ys) ≡ length xs + length (b ∷ ys) = length-append xs (b ∷ ys) in
    let below : prefix_len (λ x. not (p x)) (xs ++ b ∷ ys) < length (xs ++ b ∷ ys) = omega arith in
    ap (λ v. cond v (Some (prefix_len (λ x. not (p x)) (xs ++ b ∷ ys))) None) (lt-ltb _ _ below) ∙ ap Some n

self : (b : ℕ) → (b == b) ≡ true
self b = search rules

pub cut_front : (stop : ℕ) (xs ys : List ℕ) → list_all (λ x. not (x == stop)) xs ≡ true
    → cut stop (xs ++ stop ∷ ys) ≡ Some (xs, ys)
cut_front stop xs ys h =
    let at : position (λ b. b == stop) (xs ++ stop ∷ ys) ≡ Some (length xs) =
    position_front (λ b. b == stop) xs ys stop h (self stop) in
    rw at
    (ap (λ a. Some (a, drop (length xs + 1) (xs ++ stop ∷ ys))) (take-append_seam xs (stop ∷ ys))
    ∙ ap (λ d. Some (xs, d)) (drop-append-add xs (stop ∷ ys) 1))

-- a test that each element passes, and what follows from it
all_weaker : (p q : ℕ → Bool) → ((x : ℕ) → p x ≡ true → q x ≡ true) → (xs : List ℕ) → list_all p xs ≡ true
    → list_all q xs ≡ true
all_weaker p q f [] h = refl
all_weaker p q f (x ∷ xs) h =
    ap (λ v. v && list_all q xs) (f x (both_left (p x) (list_all p xs) h))
    ∙ all_weaker p q f xs (both_right (p x) (list_all p xs) h)

not_stop : (p : ℕ → Bool) (stop x : ℕ) → p stop ≡ false → (b : Bool) → (x == stop) ≡ b → p x ≡ true → not b ≡ true
not_stop p stop x none false e h = refl
not_stop p stop x none true e h =
    let same : x ≡ stop = eqb-true x stop e in let k : true ≡ false = sym h ∙ ap p same ∙ none in cc

pub without : (p : ℕ → Bool) (stop : ℕ) → p stop ≡ false → (xs : List ℕ) → list_all p xs ≡ true
    → list_all (λ x. not (x == stop)) xs ≡ true
without p stop none xs h = all_weaker p (λ x. not (x == stop)) (λ x k. not_stop p stop x none (x == stop) refl k) xs h

pub name_letters : (least most : ℕ) (name : List ℕ) → is_name least most name ≡ true
    → list_all is_ascii_alphanumeric name ≡ true
name_letters least most name h =
    both_right (nat_le least (length name) && nat_le (length name) most) (list_all is_ascii_alphanumeric name) h

path_bytes : (path : List ℕ) → is_path path ≡ true → list_all is_path_byte path ≡ true
path_bytes path h =
    both_right (nat_le 1 (length path) && nat_le (length path) MAX_PATH) (list_all is_path_byte path)
    (both_left (nat_le 1 (length path) && nat_le (length path) MAX_PATH && list_all is_path_byte path)
    (not (begins_with_dot path)) h)

-- ---- the head

-- two names, each with a space behind it, and what stands behind both
pub front_apart : (tid handle text : List ℕ)
    → reply_front tid handle ++ text ≡ tid ++ space ∷ (handle ++ space ∷ text)
front_apart tid handle text =
    append_assoc (tid ++ (space ∷ []) ++ handle) (space ∷ []) text
    ∙ append_assoc (tid ++ (space ∷ [])) handle (space ∷ text)
    ∙ append_assoc tid (space ∷ []) (handle ++ space ∷ text)

head_spelled : (tid handle tail : List ℕ) → is_name 1 MAX_TID tid ≡ true → is_name 0 MAX_HANDLE handle ≡ true → head_of (tid ++ space ∷ (handle ++ space ∷ tail)) ≡ Some (record { tid = tid; handle = handle; tail = tail })
head_spelled tid handle tail t h =
    let first : cut space (tid ++ space ∷ (handle ++ space ∷ tail)) ≡ Some (tid, handle ++ space ∷ tail) = cut_front space tid (handle ++ space ∷ tail) (without is_ascii_alphanumeric space refl tid (name_letters 1 MAX_TID tid t)) in
    let second : cut space (handle ++ space ∷ tail) ≡ Some (handle, tail) = cut_front space handle tail (without is_ascii_alphanumeric space refl handle (name_letters 0 MAX_HANDLE handle h)) in
    ap head_after first ∙ ap (named_head tid) second
    ∙ ap (λ v. if v then Some (record { tid = tid; handle = handle; tail = tail }) else None) (ap (λ v. v && is_name 0 MAX_HANDLE handle) t ∙ h)

-- ---- the word and what stands behind it

-- the word ends where the byte behind it does not belong to it
pub ended_word : (front rest : List ℕ) (b : ℕ) → list_all (λ x. not (ends_word x)) front ≡ true → ends_word b ≡ true
    → word_end (front ++ b ∷ rest) ≡ length front
ended_word front rest b h e = rw (position_front ends_word front rest b h e)

good_if : (tid handle : List ℕ) (word : Word) (command : CommandView) → (v : Bool) → v ≡ true
    → parse_of_form tid handle word (formed_if v command) ≡ Good tid handle command
good_if tid handle word command v h = ap (λ b. parse_of_form tid handle word (formed_if b command)) h

good_unless : (tid handle : List ℕ) (word : Word) (command : CommandView) (f : Bool → FormView)
    → f true ≡ Formed command → (bare v : Bool) → (not bare && v) ≡ true
    → parse_of_form tid handle word (if bare then Malformed else f v) ≡ Good tid handle command
good_unless tid handle word command f g true v h = cc
good_unless tid handle word command f g false v h =
    ap (λ b. parse_of_form tid handle word (f b)) h ∙ ap (parse_of_form tid handle word) g

good_where : (tid handle : List ℕ) (word : Word) (command : CommandView) (f : Bool → FormView) → f true ≡ Formed command
    → (bare v : Bool) → (bare && v) ≡ true
    → parse_of_form tid handle word (if bare then f v else Malformed) ≡ Good tid handle command
good_where tid handle word command f g true v h =
    ap (λ b. parse_of_form tid handle word (f b)) h ∙ ap (parse_of_form tid handle word) g
good_where tid handle word command f g false v h = cc

tail_spelled : (tid handle : List ℕ) → (command : CommandView) → is_legal (is_nil handle) command ≡ true
    → parse_of_tail tid handle (spelling_of_command command) (word_end (spelling_of_command command))
    ≡ Good tid handle command
tail_spelled tid handle (Login name) h =
    ap (parse_of_tail tid handle (spelling_of_command (Login name))) (ended_word (codes "LOGIN") name space refl refl)
    ∙ good_if tid handle w.Login (Login name) (is_nil handle && is_name 1 MAX_NAME name) h
tail_spelled tid handle (OpenRead path) h =
    ap (parse_of_tail tid handle (spelling_of_command (OpenRead path)))
    (ended_word (codes "OPEN") (codes "READ" ++ NL ∷ path) space refl refl)
    ∙ good_unless tid handle w.Open (OpenRead path) (λ v. legal_if v (OpenRead path)) refl (is_nil handle)
    (is_path path) h
tail_spelled tid handle (OpenWrite path) h =
    ap (parse_of_tail tid handle (spelling_of_command (OpenWrite path)))
    (ended_word (codes "OPEN") (codes "WRITE" ++ NL ∷ path) space refl refl)
    ∙ good_unless tid handle w.Open (OpenWrite path) (λ v. legal_if v (OpenWrite path)) refl (is_nil handle)
    (is_path path) h
tail_spelled tid handle Read h = good_if tid handle w.Read Read (not (is_nil handle) && true) (ap (λ v. v && true) h)
tail_spelled tid handle (Write bytes) h =
    ap (parse_of_tail tid handle (spelling_of_command (Write bytes))) (ended_word (codes "WRITE") bytes NL refl refl)
    ∙ good_unless tid handle w.Write (Write bytes) (λ v. formed_if v (Write bytes)) refl (is_nil handle)
    (nat_le (length bytes) MAX_CHUNK) h
tail_spelled tid handle Close h = good_if tid handle w.Close Close (not (is_nil handle) && true) (ap (λ v. v && true) h)
tail_spelled tid handle (Rename old new) h =
    let paths : (is_path old && is_path new) ≡ true = both_right (is_nil handle) (is_path old && is_path new) h in
    let halves : cut NL (old ++ NL ∷ new) ≡ Some (old, new)
    = cut_front NL old new
    (without is_path_byte NL refl old (path_bytes old (both_left (is_path old) (is_path new) paths))) in
    ap (parse_of_tail tid handle (spelling_of_command (Rename old new)))
    (ended_word (codes "RENAME") (old ++ NL ∷ new) NL refl refl)
    ∙ ap (λ p. parse_of_form tid handle w.Rename (if is_nil handle then paths_form p else Malformed)) halves
    ∙ good_where tid handle w.Rename (Rename old new) (λ v. legal_if v (Rename old new)) refl (is_nil handle)
    (is_path old && is_path new) h
tail_spelled tid handle (Delete path) h =
    ap (parse_of_tail tid handle (spelling_of_command (Delete path))) (ended_word (codes "DELETE") path NL refl refl)
    ∙ good_where tid handle w.Delete (Delete path) (λ v. legal_if v (Delete path)) refl (is_nil handle) (is_path path) h

pub parsed_spelled : (tid handle : List ℕ) (command : CommandView) → is_good tid handle command ≡ true
    → parse_of (spelling_of tid handle command) ≡ Good tid handle command
parsed_spelled tid handle command h =
    let t : is_name 1 MAX_TID tid ≡ true =
    both_left (is_name 1 MAX_TID tid) (is_name 0 MAX_HANDLE handle && is_legal (is_nil handle) command) h in
    let others : (is_name 0 MAX_HANDLE handle && is_legal (is_nil handle) command) ≡ true =
    both_right (is_name 1 MAX_TID tid) (is_name 0 MAX_HANDLE handle && is_legal (is_nil handle) command) h in
    ap parse_of_head
    (head_spelled tid handle (spelling_of_command command) t
    (both_left (is_name 0 MAX_HANDLE handle) (is_legal (is_nil handle) command) others))
    ∙ tail_spelled tid handle command
    (both_right (is_name 0 MAX_HANDLE handle) (is_legal (is_nil handle) command) others)
