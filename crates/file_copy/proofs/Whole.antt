-- What the commands of whole files do.
use Rattle.std.proofs.Common.{◌≡◌, ℕ, zero, suc, ◌+◌, ◌*◌, ◌≤◌, true, List, [], ◌∷◌, ◌++◌, length, take, drop, Some, refl, ap, ◌∙◌, sym, subst, arith, rules}
use Rattle.std.specs.Prelude.{min, nat_le}
use Rattle.std.specs.FinMap as map
use Rattle.std.specs.List.{flat_map}
use Rattle.std.proofs.lemmas.List.{drop_min, append-nil}
use Rattle.std.proofs.lemmas.List.Concat.{flat_map-append}
use Rattle.std.proofs.Math.Nat.{zero-min}
use Rattle.std.proofs.lemmas.Bool.Decides.{nat_tests}
use Rattle.chaos_file.specs.declared.limits.TheConstants.{MAX_CHUNK, MAX_FILE, MAX_TID, MAX_HANDLE}
use Rattle.chaos_file.specs.Names.{is_name}
use Rattle.chaos_file.specs.Command.{OpenRead, OpenWrite, Read, Write, Close}
use Rattle.chaos_file.specs.Spelling.{spelling_of}
use Rattle.chaos_file.specs.Answer.{Opened, Wrote, Closed, read_answer}
use Rattle.chaos_file.specs.Session.{SessionView}
use Rattle.chaos_file.specs.Store.{Files}
use Rattle.chaos_file.specs.Replies.{files_after}
use Rattle.file_copy.specs.Copy.{upto, chunk, chunk_count, reply_of, logged_in, Tids, Does, CanCopy, put_commands, put_replies, get_commands, get_replies}
use Rattle.file_copy.proofs.Runs.{StepIs, runs_one, runs_upto, runs_append}
use Rattle.file_copy.proofs.Pieces.{front_more, front_all, front_length, piece_more, piece_length}
use Rattle.file_copy.proofs.Steps.{with_open, writing, reading, good_of, opens_to_write, writes_more, closes_written, opens_to_read, reads_on, closes_read}

short_piece : (bytes : List ℕ) (i : ℕ) → nat_le (length (chunk bytes i)) MAX_CHUNK ≡ true
short_piece bytes i = let h : length (chunk bytes i) ≤ MAX_CHUNK = piece_length bytes i in search (rules, nat_tests)

-- the session after so many WRITEs, and after so many READs
abbrev written : List ℕ → List ℕ → List ℕ → List ℕ → ℕ → SessionView
written name handle path bytes i = with_open name (writing handle path (take (MAX_CHUNK * i) bytes) ∷ [])

abbrev read : List ℕ → List ℕ → List ℕ → List ℕ → ℕ → SessionView
read name handle path bytes i = with_open name (reading handle path bytes (min (MAX_CHUNK * i) (length bytes)) ∷ [])

same_step : (m : Files) (s : SessionView) (c : List ℕ) (n : Files) (t u : SessionView) (r q : List ℕ) → t ≡ u → r ≡ q
    → StepIs m s c n t r → StepIs m s c n u q
same_step m s c n t u r q e f h = record { files = h.files; session = h.session ∙ e; reply_is = h.reply_is ∙ f }

write_step : (m : Files) (name tid handle path bytes : List ℕ) (i : ℕ) → is_name 1 MAX_TID tid ≡ true
    → is_name 1 MAX_HANDLE handle ≡ true → length bytes ≤ MAX_FILE
    → StepIs m (written name handle path bytes i) (spelling_of tid handle (Write (chunk bytes i))) m
    (written name handle path bytes (suc i))
    (reply_of tid handle (Wrote (min (MAX_CHUNK * (1 + i)) (length bytes))))
write_step m name tid handle path bytes i t h fits =
    same_step m (written name handle path bytes i) (spelling_of tid handle (Write (chunk bytes i))) m _ _ _ _
    (ap (λ b. with_open name (writing handle path b ∷ []))
    (front_more bytes i ∙ ap (λ k. take (MAX_CHUNK * k) bytes) (omega arith)))
    (ap (λ k. reply_of tid handle (Wrote k)) (piece_more bytes i))
    (writes_more m name tid handle path (take (MAX_CHUNK * i) bytes) (chunk bytes i)
    (good_of tid handle (Write (chunk bytes i)) t h (short_piece bytes i))
    (omega (arith, piece_more bytes i, fits)))

pub puts : (m : Files) (tid : Tids) (name handle path bytes : List ℕ)
    → CanCopy tid (2 + chunk_count (length bytes)) handle path bytes
    → Does m (logged_in name) (put_commands tid handle path bytes) (map.insert m path bytes) (logged_in name)
    (put_replies tid handle bytes)
puts m tid name handle path bytes o =
    let t = o.names in
    let h = o.handle_named in
    let p = o.path_legal in
    let fits = o.fits in
    let k = chunk_count (length bytes) in
    runs_append m (logged_in name) (spelling_of (tid 0) handle (OpenWrite path) ∷ []) m
    (written name handle path bytes 0) (reply_of (tid 0) handle (Opened 0) ∷ [])
    (upto (λ i. spelling_of (tid (1 + i)) handle (Write (chunk bytes i))) k
    ++ spelling_of (tid (1 + k)) handle Close ∷ [])
    (map.insert m path bytes) (logged_in name)
    (upto (λ i. reply_of (tid (1 + i)) handle (Wrote (min (MAX_CHUNK * (1 + i)) (length bytes)))) k
    ++ reply_of (tid (1 + k)) handle (Closed (length bytes)) ∷ [])
    (runs_one m (logged_in name) (spelling_of (tid 0) handle (OpenWrite path)) m (written name handle path bytes 0)
    (reply_of (tid 0) handle (Opened 0))
    (opens_to_write m name (tid 0) handle path (good_of (tid 0) handle (OpenWrite path) (t 0 (omega arith)) h p)))
    (runs_append m (written name handle path bytes 0)
    (upto (λ i. spelling_of (tid (1 + i)) handle (Write (chunk bytes i))) k) m (written name handle path bytes k)
    (upto (λ i. reply_of (tid (1 + i)) handle (Wrote (min (MAX_CHUNK * (1 + i)) (length bytes)))) k)
    (spelling_of (tid (1 + k)) handle Close ∷ []) (map.insert m path bytes) (logged_in name)
    (reply_of (tid (1 + k)) handle (Closed (length bytes)) ∷ [])
    (runs_upto m (written name handle path bytes) (λ i. spelling_of (tid (1 + i)) handle (Write (chunk bytes i)))
    (λ i. reply_of (tid (1 + i)) handle (Wrote (min (MAX_CHUNK * (1 + i)) (length bytes)))) k
    (λ i below. write_step m name (tid (1 + i)) handle path bytes i (t (1 + i) (omega (arith, below))) h fits))
    (runs_one m (written name handle path bytes k) (spelling_of (tid (1 + k)) handle Close) (map.insert m path bytes)
    (logged_in name) (reply_of (tid (1 + k)) handle (Closed (length bytes)))
    (subst
    (λ b. StepIs m (with_open name (writing handle path b ∷ [])) (spelling_of (tid (1 + k)) handle Close)
    (map.insert m path bytes) (logged_in name) (reply_of (tid (1 + k)) handle (Closed (length bytes))))
    (sym (front_all bytes))
    (closes_written m name (tid (1 + k)) handle path bytes
    (good_of (tid (1 + k)) handle Close (t (1 + k) (omega arith)) h refl)))))

read_step : (m : Files) (name tid handle path bytes : List ℕ) (i : ℕ) → is_name 1 MAX_TID tid ≡ true
    → is_name 1 MAX_HANDLE handle ≡ true
    → StepIs m (read name handle path bytes i) (spelling_of tid handle Read) m (read name handle path bytes (suc i))
    (reply_of tid handle (read_answer (chunk bytes i)))
read_step m name tid handle path bytes i t h =
    let at = min (MAX_CHUNK * i) (length bytes) in
    let next : take MAX_CHUNK (drop at bytes) ≡ chunk bytes i = ap (take MAX_CHUNK) (drop_min (MAX_CHUNK * i) bytes) in
    let past : at + length (take MAX_CHUNK (drop at bytes)) ≡ min (MAX_CHUNK * suc i) (length bytes) =
    ap (λ l. at + length l) next ∙ ap (λ n. n + length (chunk bytes i)) (sym (front_length bytes i))
    ∙ piece_more bytes i ∙ ap (λ k. min (MAX_CHUNK * k) (length bytes)) (omega arith) in
    same_step m (read name handle path bytes i) (spelling_of tid handle Read) m _ _ _ _
    (ap (λ k. with_open name (reading handle path bytes k ∷ [])) past)
    (ap (λ l. reply_of tid handle (read_answer l)) next)
    (reads_on m name tid handle path bytes at (good_of tid handle Read t h refl))

pub gets : (m : Files) (tid : Tids) (name handle path bytes : List ℕ)
    → CanCopy tid (3 + chunk_count (length bytes)) handle path bytes → map.get m path ≡ Some bytes
    → Does m (logged_in name) (get_commands tid handle path (length bytes)) m (logged_in name)
    (get_replies tid handle bytes)
gets m tid name handle path bytes o there =
    let t = o.names in
    let h = o.handle_named in
    let p = o.path_legal in
    let fits = o.fits in
    let k = 1 + chunk_count (length bytes) in
    runs_append m (logged_in name) (spelling_of (tid 0) handle (OpenRead path) ∷ []) m (read name handle path bytes 0)
    (reply_of (tid 0) handle (Opened (length bytes)) ∷ [])
    (upto (λ i. spelling_of (tid (1 + i)) handle Read) k
    ++ spelling_of (tid (2 + chunk_count (length bytes))) handle Close ∷ [])
    m (logged_in name)
    (upto (λ i. reply_of (tid (1 + i)) handle (read_answer (chunk bytes i))) k
    ++ reply_of (tid (2 + chunk_count (length bytes))) handle (Closed (length bytes)) ∷ [])
    (runs_one m (logged_in name) (spelling_of (tid 0) handle (OpenRead path)) m (read name handle path bytes 0)
    (reply_of (tid 0) handle (Opened (length bytes)))
    (same_step m (logged_in name) (spelling_of (tid 0) handle (OpenRead path)) m _ _ _ _
    (ap (λ k. with_open name (reading handle path bytes k ∷ [])) (sym (zero-min (length bytes)))) refl
    (opens_to_read m name (tid 0) handle path bytes (good_of (tid 0) handle (OpenRead path) (t 0 (omega arith)) h p)
    there fits)))
    (runs_append m (read name handle path bytes 0) (upto (λ i. spelling_of (tid (1 + i)) handle Read) k) m
    (read name handle path bytes k)
    (upto (λ i. reply_of (tid (1 + i)) handle (read_answer (chunk bytes i))) k)
    (spelling_of (tid (2 + chunk_count (length bytes))) handle Close ∷ []) m (logged_in name)
    (reply_of (tid (2 + chunk_count (length bytes))) handle (Closed (length bytes)) ∷ [])
    (runs_upto m (read name handle path bytes) (λ i. spelling_of (tid (1 + i)) handle Read)
    (λ i. reply_of (tid (1 + i)) handle (read_answer (chunk bytes i))) k
    (λ i below. read_step m name (tid (1 + i)) handle path bytes i (t (1 + i) (omega (arith, below))) h))
    (runs_one m (read name handle path bytes k) (spelling_of (tid (2 + chunk_count (length bytes))) handle Close) m
    (logged_in name) (reply_of (tid (2 + chunk_count (length bytes))) handle (Closed (length bytes)))
    (closes_read m name (tid (2 + chunk_count (length bytes))) handle path bytes (min (MAX_CHUNK * k) (length bytes))
    (good_of (tid (2 + chunk_count (length bytes))) handle Close (t (2 + chunk_count (length bytes)) (omega arith)) h
    refl))))

-- the pieces of a file, joined, are the file
pub pieces_front : (bytes : List ℕ) (k : ℕ) → flat_map (λ p. p) (upto (chunk bytes) k) ≡ take (MAX_CHUNK * k) bytes
pieces_front bytes zero = refl
pieces_front bytes (suc k) =
    flat_map-append (λ p. p) (upto (chunk bytes) k) (chunk bytes k ∷ [])
    ∙ ap (λ l. l ++ (chunk bytes k ++ [])) (pieces_front bytes k)
    ∙ ap (λ l. take (MAX_CHUNK * k) bytes ++ l) (append-nil (chunk bytes k))
    ∙ front_more bytes k ∙ ap (λ n. take (MAX_CHUNK * n) bytes) (omega arith)

pub pieces_joined : (bytes : List ℕ) → flat_map (λ p. p) (upto (chunk bytes) (chunk_count (length bytes))) ≡ bytes
pieces_joined bytes = pieces_front bytes (chunk_count (length bytes)) ∙ front_all bytes

-- a put that is broken off before its CLOSE, after so many WRITEs
pub put_broken : (m : Files) (tid : Tids) (name handle path bytes : List ℕ) (k : ℕ)
    → CanCopy tid (2 + chunk_count (length bytes)) handle path bytes → k ≤ chunk_count (length bytes)
    → files_after m (logged_in name)
    (spelling_of (tid 0) handle (OpenWrite path)
    ∷ upto (λ i. spelling_of (tid (1 + i)) handle (Write (chunk bytes i))) k)
    ≡ m
put_broken m tid name handle path bytes k o few =
    (runs_append m (logged_in name) (spelling_of (tid 0) handle (OpenWrite path) ∷ []) m
    (written name handle path bytes 0) (reply_of (tid 0) handle (Opened 0) ∷ [])
    (upto (λ i. spelling_of (tid (1 + i)) handle (Write (chunk bytes i))) k) m (written name handle path bytes k)
    (upto (λ i. reply_of (tid (1 + i)) handle (Wrote (min (MAX_CHUNK * (1 + i)) (length bytes)))) k)
    (runs_one m (logged_in name) (spelling_of (tid 0) handle (OpenWrite path)) m (written name handle path bytes 0)
    (reply_of (tid 0) handle (Opened 0))
    (opens_to_write m name (tid 0) handle path
    (good_of (tid 0) handle (OpenWrite path) (o.names 0 (omega arith)) o.handle_named o.path_legal)))
    (runs_upto m (written name handle path bytes) (λ i. spelling_of (tid (1 + i)) handle (Write (chunk bytes i)))
    (λ i. reply_of (tid (1 + i)) handle (Wrote (min (MAX_CHUNK * (1 + i)) (length bytes)))) k
    (λ i below. write_step m name (tid (1 + i)) handle path bytes i (o.names (1 + i) (omega (arith, below, few)))
    o.handle_named o.fits))).files
