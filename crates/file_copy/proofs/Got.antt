-- What the replies to the commands that get a file show of the server's files.
use Rattle.std.proofs.Common.{◌≡◌, ℕ, zero, suc, ◌+◌, ◌*◌, ◌<◌, ◌≤◌, Bool, true, false, List, [], ◌∷◌, ◌++◌, length, Option, Some, None, refl, ap, ◌∙◌, sym, subst, arith}
use Rattle.std.specs.Prelude.{nat_lt, slice_index, codes, if◌then◌else◌}
use Rattle.std.specs.Fmt.{decimal}
use Rattle.std.specs.FinMap as map
use Rattle.std.specs.List.{flat_map}
use Rattle.std.proofs.lemmas.List.{append_cancel_left, take_all}
use Rattle.std.proofs.lemmas.Bool.{ltb-false}
use Rattle.std.proofs.lemmas.Fmt.{decimal_injective}
use Rattle.chaos_file.specs.declared.limits.TheConstants.{MAX_CHUNK, MAX_FILE}
use Rattle.chaos_file.specs.declared.error.FileError.TheVariants as e
use Rattle.chaos_file.specs.Error.{error_text}
use Rattle.chaos_file.specs.Command.{OpenRead, Good}
use Rattle.chaos_file.specs.Spelling.{spelling_of, is_good}
use Rattle.chaos_file.specs.Answer.{Opened, Closed, Given, AtEnd, answer_text, read_answer, reply_front}
use Rattle.chaos_file.specs.Store.{Files, Over, Found, look_within}
use Rattle.chaos_file.specs.Plan.{plan_of}
use Rattle.chaos_file.specs.Step.{file_step, step_of, outcome_of, outcome_of_look}
use Rattle.chaos_file.specs.Replies.{replies_from}
use Rattle.chaos_file.proofs.Spelling.{parsed_spelled}
use Rattle.file_copy.specs.Copy.{upto, chunk, chunk_count, reply_of, logged_in, Tids, AreNamed, CanCopy, get_commands, get_replies}
use Rattle.file_copy.proofs.Growing.{given}
use Rattle.file_copy.proofs.Steps.{good_of}
use Rattle.file_copy.proofs.Whole.{gets, pieces_front}

less_no_same : (a b : ℕ) → a < b → a ≡ b → ⊥
less_no_same a b l e = omega arith

-- ---- lists that end alike

no_end : {A : Type 0} (xs : List A) (a : A) → [] ≡ xs ++ a ∷ [] → ⊥
no_end [] a h = cc
no_end (x ∷ xs) a h = cc

pub last_apart : {A : Type 0} (xs ys : List A) (a b : A) → xs ++ a ∷ [] ≡ ys ++ b ∷ [] → (xs ≡ ys) × (a ≡ b)
last_apart [] [] a b h = (refl, cc)
last_apart [] (y ∷ ys) a b h = let k : [] ≡ ys ++ b ∷ [] = cc in absurd (no_end ys b k)
last_apart (x ∷ xs) [] a b h = let k : [] ≡ xs ++ a ∷ [] = cc in absurd (no_end xs a k)
last_apart (x ∷ xs) (y ∷ ys) a b h =
    let first : x ≡ y = cc in
    let rest : xs ++ a ∷ [] ≡ ys ++ b ∷ [] = cc in
    let p = last_apart xs ys a b rest in
    (ap (λ z. z ∷ xs) first ∙ ap (λ l. y ∷ l) p.0, p.1)

-- ---- the pieces that were read

same_piece : (xs ys : List ℕ) → answer_text (read_answer xs) ≡ answer_text (read_answer ys) → xs ≡ ys
same_piece [] [] h = refl
same_piece [] (y ∷ ys) h =
    let k : answer_text AtEnd ≡ answer_text (Given (y ∷ ys)) = h ∙ ap answer_text (given (y ∷ ys) (omega arith)) in
    absurd (less_no_same 69 82 (omega arith) (ap (λ t. slice_index t 0) k))
same_piece (x ∷ xs) [] h =
    let k : answer_text AtEnd ≡ answer_text (Given (x ∷ xs)) = sym h ∙ ap answer_text (given (x ∷ xs) (omega arith)) in
    absurd (less_no_same 69 82 (omega arith) (ap (λ t. slice_index t 0) k))
same_piece (x ∷ xs) (y ∷ ys) h =
    let k : answer_text (Given (x ∷ xs)) ≡ answer_text (Given (y ∷ ys)) =
    sym (ap answer_text (given (x ∷ xs) (omega arith))) ∙ h ∙ ap answer_text (given (y ∷ ys) (omega arith)) in
    append_cancel_left (answer_text (Given [])) (x ∷ xs) (y ∷ ys) k

same_pieces : (tid : Tids) (handle : List ℕ) (f g : ℕ → List ℕ) (n : ℕ)
    → upto (λ i. reply_of (tid i) handle (read_answer (f i))) n
    ≡ upto (λ i. reply_of (tid i) handle (read_answer (g i))) n
    → upto f n ≡ upto g n
same_pieces tid handle f g zero h = refl
same_pieces tid handle f g (suc n) h =
    let p =
    last_apart (upto (λ i. reply_of (tid i) handle (read_answer (f i))) n)
    (upto (λ i. reply_of (tid i) handle (read_answer (g i))) n)
    (reply_of (tid n) handle (read_answer (f n))) (reply_of (tid n) handle (read_answer (g n))) h in
    ap (λ l. l ++ f n ∷ []) (same_pieces tid handle f g n p.0)
    ∙ ap (λ x. upto g n ++ x ∷ []) (same_piece (f n) (g n) (append_cancel_left (reply_front (tid n) handle) _ _ p.1))

all_pieces : (bytes : List ℕ) (n : ℕ) → length bytes ≤ MAX_CHUNK * n → flat_map (λ p. p) (upto (chunk bytes) n) ≡ bytes
all_pieces bytes n l = pieces_front bytes n ∙ take_all (MAX_CHUNK * n) bytes l

-- files of one length whose replies are the same
pub same_file : (tid : Tids) (handle xs ys : List ℕ) → length xs ≡ length ys
    → get_replies tid handle xs ≡ get_replies tid handle ys → xs ≡ ys
same_file tid handle xs ys l h =
    let n = 1 + chunk_count (length ys) in
    let whole : upto (λ i. reply_of (tid (1 + i)) handle (read_answer (chunk xs i))) (1 + chunk_count (length xs))
    ++ reply_of (tid (2 + chunk_count (length xs))) handle (Closed (length xs)) ∷ []
    ≡ upto (λ i. reply_of (tid (1 + i)) handle (read_answer (chunk ys i))) n
    ++ reply_of (tid (2 + chunk_count (length ys))) handle (Closed (length ys)) ∷ [] =
    cc in
    let reads : upto (λ i. reply_of (tid (1 + i)) handle (read_answer (chunk xs i))) (1 + chunk_count (length xs))
    ≡ upto (λ i. reply_of (tid (1 + i)) handle (read_answer (chunk ys i))) n =
    (last_apart _ _ _ _ whole).0 in
    let pieces = same_pieces (λ i. tid (1 + i)) handle (chunk xs) (chunk ys) n
    (subst
    (λ m. upto (λ i. reply_of (tid (1 + i)) handle (read_answer (chunk xs i))) (1 + chunk_count m)
    ≡ upto (λ i. reply_of (tid (1 + i)) handle (read_answer (chunk ys i))) n)
    l reads) in
    sym (all_pieces xs n (omega arith)) ∙ ap (flat_map (λ p. p)) pieces ∙ all_pieces ys n (omega arith)

-- ---- the file that was opened

-- OPEN READ by what is at the path
open_reply : (m : Files) (name tid handle path : List ℕ) → is_good tid handle (OpenRead path) ≡ true
    → (file_step m (logged_in name) (spelling_of tid handle (OpenRead path))).reply
    ≡ (step_of m (logged_in name) (Good tid handle (OpenRead path))
    (outcome_of_look m (logged_in name) handle path (look_within MAX_FILE (map.get m path)))).reply
open_reply m name tid handle path good =
    ap (λ p. (step_of m (logged_in name) p (outcome_of m (logged_in name) (plan_of (logged_in name) p))).reply)
    (parsed_spelled tid handle (OpenRead path) good)

no_open : (tid handle text : List ℕ) (n : ℕ) → slice_index text 0 ≡ 69
    → reply_front tid handle ++ text ≡ reply_of tid handle (Opened n) → ⊥
no_open tid handle text n first h =
    let k : slice_index text 0 ≡ 79 =
    ap (λ t. slice_index t 0) (append_cancel_left (reply_front tid handle) text (answer_text (Opened n)) h) in
    less_no_same 69 79 (omega arith) (sym first ∙ k)

-- a file is there, and has so many bytes
pub record IsOpened (o : Option (List ℕ)) (n : ℕ) : Type 0 where
  pub bytes : List ℕ
  pub there : o ≡ Some bytes
  pub size : length bytes ≡ n

opened_within : (m : Files) (name tid handle path bytes : List ℕ) (n : ℕ) (b : Bool)
    → nat_lt MAX_FILE (length bytes) ≡ b → n ≤ MAX_FILE
    → (step_of m (logged_in name) (Good tid handle (OpenRead path))
    (outcome_of_look m (logged_in name) handle path (if b then Over else Found bytes))).reply
    ≡ reply_of tid handle (Opened n)
    → length bytes ≡ n
opened_within m name tid handle path bytes n true w fits h =
    absurd (no_open tid handle (error_text e.FileTooBig) n refl h)
opened_within m name tid handle path bytes n false w fits h =
    let small : length bytes ≤ MAX_FILE = ltb-false MAX_FILE (length bytes) w in
    decimal_injective (length bytes) n (omega arith) (omega arith)
    (append_cancel_left (codes "OPEN ") (decimal (length bytes)) (decimal n)
    (append_cancel_left (reply_front tid handle) (answer_text (Opened (length bytes))) (answer_text (Opened n)) h))

opened_by : (m : Files) (name tid handle path : List ℕ) (n : ℕ) (o : Option (List ℕ)) → n ≤ MAX_FILE
    → (step_of m (logged_in name) (Good tid handle (OpenRead path))
    (outcome_of_look m (logged_in name) handle path (look_within MAX_FILE o))).reply
    ≡ reply_of tid handle (Opened n)
    → IsOpened o n
opened_by m name tid handle path n None fits h = absurd (no_open tid handle (error_text e.NoSuchFile) n refl h)
opened_by m name tid handle path n (Some bytes) fits h =
    record { bytes = bytes; there = refl; size = opened_within m name tid handle path bytes n (nat_lt MAX_FILE (length bytes)) refl fits h }

-- ---- the whole talk

fits_alike : (tid : Tids) (handle path xs ys : List ℕ) → length xs ≡ length ys
    → CanCopy tid (3 + chunk_count (length ys)) handle path ys
    → CanCopy tid (3 + chunk_count (length xs)) handle path xs
fits_alike tid handle path xs ys l c = record {
  names = subst (λ n. AreNamed tid (3 + chunk_count n)) (sym l) c.names;
  handle_named = c.handle_named;
  path_legal = c.path_legal;
  fits = subst (λ n. n ≤ MAX_FILE) (sym l) c.fits;
}

pub got : (m : Files) (tid : Tids) (name handle path bytes : List ℕ)
    → CanCopy tid (3 + chunk_count (length bytes)) handle path bytes
    → replies_from m (logged_in name) (get_commands tid handle path (length bytes)) ≡ get_replies tid handle bytes
    → map.get m path ≡ Some bytes
got m tid name handle path bytes c h =
    let first : (file_step m (logged_in name) (spelling_of (tid 0) handle (OpenRead path))).reply
    ≡ reply_of (tid 0) handle (Opened (length bytes)) =
    cc in
    let good = good_of (tid 0) handle (OpenRead path) (c.names 0 (omega arith)) c.handle_named c.path_legal in
    let o =
    opened_by m name (tid 0) handle path (length bytes) (map.get m path) c.fits
    (sym (open_reply m name (tid 0) handle path good) ∙ first) in
    let told : replies_from m (logged_in name) (get_commands tid handle path (length o.bytes))
    ≡ get_replies tid handle o.bytes =
    (gets m tid name handle path o.bytes (fits_alike tid handle path o.bytes bytes o.size c) o.there).replies_are in
    let same : get_replies tid handle o.bytes ≡ get_replies tid handle bytes =
    sym told ∙ ap (λ n. replies_from m (logged_in name) (get_commands tid handle path n)) o.size ∙ h in
    o.there ∙ ap Some (same_file tid handle o.bytes bytes o.size same)
