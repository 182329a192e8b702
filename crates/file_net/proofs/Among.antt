-- A login, a put and a get among the commands of others.
use Rattle.std.proofs.Common.{◌≡◌, ℕ, zero, suc, ◌+◌, ◌*◌, ◌≤◌, Bool, true, false, List, [], ◌∷◌, ◌++◌, length, Option, Some, None, refl, sym, ap, ◌∙◌, subst, arith, rules, append_assoc, length-append}
use Rattle.std.specs.Prelude.{min, nat_le}
use Rattle.std.specs.FinMap as map
use Rattle.std.proofs.lemmas.Bool.Decides.{nat_tests}
use Rattle.std.proofs.lemmas.List.{append-nil}
use Rattle.std.specs.Prelude.{if◌then◌else◌}
use Rattle.std.specs.Fmt.{decimal}
use Rattle.chaos_file.specs.declared.limits.TheConstants.{MAX_CHUNK, MAX_NAME}
use Rattle.chaos_file.specs.Names.{is_name}
use Rattle.chaos_file.specs.Command.{OpenRead, OpenWrite, Read, Write, Close, Good, Login, word_said}
use Rattle.chaos_file.specs.Spelling.{spelling_of, is_good}
use Rattle.chaos_file.specs.Answer.{Opened, Wrote, Closed, LoggedIn, read_answer}
use Rattle.chaos_file.specs.Grammar.{parse_of}
use Rattle.chaos_file.specs.Session.{HandleView, SessionView, handle_named, new_session}
use Rattle.chaos_file.specs.Store.{Files}
use Rattle.chaos_file.specs.Plan.{Plan, plan_of, plan_close, may_say}
use Rattle.chaos_file.specs.Step.{file_step, step_of, outcome_of}
use Rattle.chaos_file.specs.Replies.{files_after, session_after, replies_from}
use Rattle.chaos_file.proofs.Spelling.{parsed_spelled}
use Rattle.chaos_file.proofs.Replies.{replies_append}
use Rattle.chaos_net.specs.Net.{Name, is_name as is_own}
use Rattle.file_copy.specs.Copy.{upto, chunk, chunk_count, reply_of, logged_in, Tids, CanCopy, put_front, put_reply, put_commands, put_replies, get_commands, get_replies}
use Rattle.file_copy.specs.Ends.{login_command, login_reply}
use Rattle.file_copy.proofs.Named.{logs_in_named, number_named}
use Rattle.file_copy.proofs.Got.{got}
use Rattle.file_copy.proofs.Pieces.{piece_length}
use Rattle.file_copy.proofs.Steps.{good_of}
use Rattle.file_copy.proofs.Whole.{puts, gets, put_broken}
use Rattle.file_net.specs.History.{Transaction, Service, after_one, after_all, AreRight, commands_by, replies_to}
use Rattle.file_net.specs.Operations.{Moment, LeavesFiles}
use Rattle.file_net.proofs.Parts.{first_of, parts_of, replies_of_parts, head_eq, tail_eq, silent, is_apart, after_append, right_front, right_back}
use Rattle.file_net.proofs.Next.{good_bare, session_on, is_next, first_moment, moment_on}
use Rattle.file_net.proofs.Shown.{IsAnswer, is_answer}
use Rattle.file_net.proofs.Own.{NeverAsks, AreOwn, own_upto, goes_on, never_open, never_write, never_read, never_login}

-- ---- lists

pub length_upto : {X : Type 0} (f : ℕ → X) (k : ℕ) → length (upto f k) ≡ k
length_upto f zero = refl
length_upto f (suc k) = let one = length-append (upto f k) (f k ∷ []) in let rest = length_upto f k in omega (arith, one, rest)

files_more : (m : Files) (s : SessionView) (xs : List (List ℕ)) (c : List ℕ)
    → files_after m s (xs ++ c ∷ []) ≡ (file_step (files_after m s xs) (session_after m s xs) c).files
files_more m s [] c = refl
files_more m s (x ∷ xs) c = files_more (file_step m s x).files (file_step m s x).session xs c

session_more : (m : Files) (s : SessionView) (xs : List (List ℕ)) (c : List ℕ)
    → session_after m s (xs ++ c ∷ []) ≡ (file_step (files_after m s xs) (session_after m s xs) c).session
session_more m s [] c = refl
session_more m s (x ∷ xs) c = session_more (file_step m s x).files (file_step m s x).session xs c

-- ---- a CLOSE is answered alike over any files, and leaves the same session

module _ (m n : Files) (s : SessionView) (tid handle : List ℕ) where
  abbrev Alike : Plan → Type 0
  Alike plan = ((step_of m s (Good tid handle Close) (outcome_of m s plan)).reply
      ≡ (step_of n s (Good tid handle Close) (outcome_of n s plan)).reply)
      × ((step_of m s (Good tid handle Close) (outcome_of m s plan)).session
      ≡ (step_of n s (Good tid handle Close) (outcome_of n s plan)).session)

  either_alike : (b : Bool) (x y : Plan) → Alike x → Alike y → Alike (if b then x else y)
  either_alike true x y p q = p
  either_alike false x y p q = q

  closes_alike : (o : Option (ℕ × HandleView)) → Alike (plan_close s o)
  closes_alike None = (refl, refl)
  closes_alike (Some f) = either_alike f.1.writes _ _ (refl, refl) (refl, refl)

  alike : Alike (plan_of s (Good tid handle Close))
  alike = either_alike (may_say s (word_said Close)) _ _ (closes_alike (handle_named handle s.handles)) (refl, refl)

  close_reply : is_good tid handle Close ≡ true
      → (file_step m s (spelling_of tid handle Close)).reply ≡ (file_step n s (spelling_of tid handle Close)).reply
  close_reply good =
      let p : parse_of (spelling_of tid handle Close) ≡ Good tid handle Close = parsed_spelled tid handle Close good in
      ap (λ z. (step_of m s z (outcome_of m s (plan_of s z))).reply) p ∙ alike.0
      ∙ sym (ap (λ z. (step_of n s z (outcome_of n s (plan_of s z))).reply) p)

  close_session : is_good tid handle Close ≡ true
      → (file_step m s (spelling_of tid handle Close)).session ≡ (file_step n s (spelling_of tid handle Close)).session
  close_session good =
      let p : parse_of (spelling_of tid handle Close) ≡ Good tid handle Close = parsed_spelled tid handle Close good in
      ap (λ z. (step_of m s z (outcome_of m s (plan_of s z))).session) p ∙ alike.1
      ∙ sym (ap (λ z. (step_of n s z (outcome_of n s (plan_of s z))).session) p)

-- ---- a get

pub record GotIn (c : Name) (v : Service) (h : List Transaction) (s : SessionView) (command path bytes : List ℕ)
    (more : List (List ℕ)) : Type 0 where
  pub at : Moment h c [] command
  pub file : map.get (after_all v at.before).files path ≡ Some bytes
  -- the session is as before, if the connection sent no more
  pub session : more ≡ [] → (after_all v h).session c ≡ s

pub got_in : (c : Name) (v : Service) (h : List Transaction) (tid : Tids) (name handle path bytes : List ℕ)
    (more heard : List (List ℕ)) → AreRight v h → v.session c ≡ logged_in name
    → CanCopy tid (3 + chunk_count (length bytes)) handle path bytes
    → commands_by c h ≡ get_commands tid handle path (length bytes) ++ more
    → replies_to c h ≡ get_replies tid handle bytes ++ heard
    → GotIn c v h (logged_in name) (spelling_of (tid 0) handle (OpenRead path)) path bytes more
got_in c v h tid name handle path bytes more heard r ready can said told =
    let n : ℕ = length bytes in
    let k : ℕ = 1 + chunk_count n in
    let s : SessionView = logged_in name in
    let open_it : List ℕ = spelling_of (tid 0) handle (OpenRead path) in
    let opened : List ℕ = reply_of (tid 0) handle (Opened n) in
    let reads : List (List ℕ) = upto (λ i. spelling_of (tid (1 + i)) handle Read) k in
    let gave : List (List ℕ) = upto (λ i. reply_of (tid (1 + i)) handle (read_answer (chunk bytes i))) k in
    let close_it : List ℕ = spelling_of (tid (2 + chunk_count n)) handle Close in
    let closed : List ℕ = reply_of (tid (2 + chunk_count n)) handle (Closed n) in
    let good = good_of (tid 0) handle (OpenRead path) (can.names 0 (omega arith)) can.handle_named can.path_legal in
    let shut = good_of (tid (2 + chunk_count n)) handle Close (can.names (2 + chunk_count n) (omega arith)) can.handle_named refl in
    -- the OPEN
    let f = first_of c h open_it ((reads ++ close_it ∷ []) ++ more) said in
    let o =
    is_next c v h s open_it opened ((reads ++ close_it ∷ []) ++ more) ((gave ++ closed ∷ []) ++ heard) f r ready told
    (is_answer (tid 0) handle (OpenRead path) (Opened n) good) in
    let w : Service = after_all v f.before in
    let w1 : Service = after_one w f.transaction in
    let m1 : Files = (file_step w.files s open_it).files in
    let s1 : SessionView = (file_step w.files s open_it).session in
    let both : f.transaction.reply ∷ replies_to c f.later ≡ opened ∷ ((gave ++ closed ∷ []) ++ heard) = o.told ∙ told in
    let first : (file_step w.files s open_it).reply ≡ opened = sym o.reply ∙ head_eq both in
    -- the READs
    let rest_said : commands_by c f.later ≡ reads ++ (close_it ∷ more) = f.rest ∙ append_assoc reads (close_it ∷ []) more in
    let rest_told : replies_to c f.later ≡ gave ++ (closed ∷ heard) = tail_eq both ∙ append_assoc gave (closed ∷ []) heard in
    let p = parts_of c f.later reads (close_it ∷ more) rest_said in
    let alike : length gave ≡ length reads =
    length_upto (λ i. reply_of (tid (1 + i)) handle (read_answer (chunk bytes i))) k
    ∙ sym (length_upto (λ i. spelling_of (tid (1 + i)) handle Read) k) in
    let q = replies_of_parts c f.later reads (close_it ∷ more) gave (closed ∷ heard) p alike rest_told in
    let right : AreRight w1 (p.front ++ p.back) = subst (AreRight w1) p.is o.right in
    let own : AreOwn (commands_by c p.front) (replies_to c p.front) =
    subst (λ (z : List (List ℕ) × List (List ℕ)). AreOwn z.0 z.1) (λ j. (sym p.own j, sym q.0 j))
    (own_upto (λ i. spelling_of (tid (1 + i)) handle Read)
    (λ i. reply_of (tid (1 + i)) handle (read_answer (chunk bytes i))) k
    (λ i below. read_own tid handle bytes i (good_of (tid (1 + i)) handle Read (can.names (1 + i) (omega (arith, below))) can.handle_named refl))) in
    let g = goes_on c p.front w1 m1 s1 (right_front w1 p.front p.back right) o.session own in
    let read : gave ≡ replies_from m1 s1 reads = sym q.0 ∙ g.replies ∙ ap (replies_from m1 s1) p.own in
    -- the CLOSE
    let w2 : Service = after_all w1 p.front in
    let s2 : SessionView = session_after m1 s1 reads in
    let u = first_of c p.back close_it more p.rest in
    let l =
    is_next c w2 p.back s2 close_it closed more heard u (right_back w1 p.front p.back right)
    (g.session ∙ ap (session_after m1 s1) p.own) q.1
    (is_answer (tid (2 + chunk_count n)) handle Close (Closed n) shut) in
    let last : u.transaction.reply ∷ replies_to c u.later ≡ closed ∷ heard = l.told ∙ q.1 in
    let ended : closed ≡ (file_step (files_after m1 s1 reads) s2 close_it).reply =
    sym (head_eq last) ∙ l.reply
    ∙ close_reply (after_all w2 u.before).files (files_after m1 s1 reads) s2 (tid (2 + chunk_count n)) handle shut in
    -- all of them, over the files of the OPEN
    let whole : replies_from w.files s (get_commands tid handle path n) ≡ get_replies tid handle bytes =
    (λ j. first j ∷ replies_append m1 s1 reads (close_it ∷ []) j) ∙ (λ j. opened ∷ (sym read j ++ sym ended j ∷ [])) in
    let file : map.get w.files path ≡ Some bytes = got w.files tid name handle path bytes can whole in
    record {
      at = first_moment c h open_it ((reads ++ close_it ∷ []) ++ more) f;
      file = file;
      session = λ none.
          session_on c v h f.before (f.transaction ∷ f.later) f.is ∙ session_on c w1 f.later p.front p.back p.is
          ∙ session_on c w2 p.back u.before (u.transaction ∷ u.later) u.is
          ∙ silent c (after_one (after_all w2 u.before) u.transaction) u.later (u.rest ∙ none) ∙ l.session
          ∙ close_session (after_all w2 u.before).files (files_after m1 s1 reads) s2 (tid (2 + chunk_count n)) handle shut
          ∙ sym (session_more m1 s1 reads close_it) ∙ (gets w.files tid name handle path bytes can file).session;
    }
  where
    read_own : (tid : Tids) (handle bytes : List ℕ) (i : ℕ) → is_good (tid (1 + i)) handle Read ≡ true
        → NeverAsks (spelling_of (tid (1 + i)) handle Read)
        × IsAnswer (spelling_of (tid (1 + i)) handle Read) (reply_of (tid (1 + i)) handle (read_answer (chunk bytes i)))
    read_own tid handle bytes i good =
        (never_read (tid (1 + i)) handle good, is_answer (tid (1 + i)) handle Read (read_answer (chunk bytes i)) good)

-- ---- a put

pub record PutIn (c : Name) (v : Service) (h : List Transaction) (s : SessionView) (front : List (List ℕ))
    (command path bytes : List ℕ) (more : List (List ℕ)) : Type 0 where
  pub at : Moment h c front command
  pub file : (after_one (after_all v at.before) at.transaction).files ≡ map.insert (after_all v at.before).files path bytes
  pub alone : LeavesFiles c v at.before
  -- the session is as before, if the connection sent no more
  pub session : more ≡ [] → (after_all v h).session c ≡ s

-- transactions of others leave it so
silent_leaves : (c : Name) (v : Service) (h : List Transaction) → commands_by c h ≡ [] → LeavesFiles c v h
silent_leaves c v [] e = tt
silent_leaves c v (t ∷ h) e = by (is_own t.by c) refl (λ none. silent_leaves c (after_one v t) h none) e
  where
    by : (b : Bool) → is_own t.by c ≡ b → (commands_by c h ≡ [] → LeavesFiles c (after_one v t) h)
        → (if b then t.command ∷ commands_by c h else commands_by c h) ≡ [] → LeavesFiles c v (t ∷ h)
    by true is further e = absurd (cc)
    by false is further e = ((λ same. absurd (is_apart t.by c is same)), further e)

leaves_both : (c : Name) (v : Service) (h k : List Transaction) → LeavesFiles c v h → LeavesFiles c (after_all v h) k
    → LeavesFiles c v (h ++ k)
leaves_both c v [] k p q = q
leaves_both c v (t ∷ h) k p q = (p.0, leaves_both c (after_one v t) h k p.1 q)

short_piece : (bytes : List ℕ) (i : ℕ) → nat_le (length (chunk bytes i)) MAX_CHUNK ≡ true
short_piece bytes i = let h : length (chunk bytes i) ≤ MAX_CHUNK = piece_length bytes i in search (rules, nat_tests)

pub put_in : (c : Name) (v : Service) (h : List Transaction) (tid : Tids) (name handle path bytes : List ℕ)
    (more heard : List (List ℕ)) → AreRight v h → v.session c ≡ logged_in name
    → CanCopy tid (2 + chunk_count (length bytes)) handle path bytes
    → commands_by c h ≡ put_commands tid handle path bytes ++ more
    → replies_to c h ≡ put_replies tid handle bytes ++ heard
    → PutIn c v h (logged_in name) (put_front tid handle path bytes (chunk_count (length bytes)))
    (spelling_of (tid (1 + chunk_count (length bytes))) handle Close) path bytes more
put_in c v h tid name handle path bytes more heard r ready can said told =
    let n : ℕ = length bytes in
    let k : ℕ = chunk_count n in
    let s : SessionView = logged_in name in
    let open_it : List ℕ = spelling_of (tid 0) handle (OpenWrite path) in
    let opened : List ℕ = reply_of (tid 0) handle (Opened 0) in
    let writes : List (List ℕ) = upto (λ i. spelling_of (tid (1 + i)) handle (Write (chunk bytes i))) k in
    let wrote : List (List ℕ) = upto (put_reply tid handle bytes) k in
    let close_it : List ℕ = spelling_of (tid (1 + k)) handle Close in
    let closed : List ℕ = reply_of (tid (1 + k)) handle (Closed n) in
    let front : List (List ℕ) = open_it ∷ writes in
    let good = good_of (tid 0) handle (OpenWrite path) (can.names 0 (omega arith)) can.handle_named can.path_legal in
    let shut = good_of (tid (1 + k)) handle Close (can.names (1 + k) (omega arith)) can.handle_named refl in
    -- OPEN and the WRITEs
    let all_said : commands_by c h ≡ front ++ (close_it ∷ more) =
    said ∙ ap (λ l. open_it ∷ l) (append_assoc writes (close_it ∷ []) more) in
    let all_told : replies_to c h ≡ (opened ∷ wrote) ++ (closed ∷ heard) =
    told ∙ ap (λ l. opened ∷ l) (append_assoc wrote (closed ∷ []) heard) in
    let p = parts_of c h front (close_it ∷ more) all_said in
    let alike : length (opened ∷ wrote) ≡ length front =
    ap suc (length_upto (put_reply tid handle bytes) k
    ∙ sym (length_upto (λ i. spelling_of (tid (1 + i)) handle (Write (chunk bytes i))) k)) in
    let q = replies_of_parts c h front (close_it ∷ more) (opened ∷ wrote) (closed ∷ heard) p alike all_told in
    let right : AreRight v (p.front ++ p.back) = subst (AreRight v) p.is r in
    let own : AreOwn (commands_by c p.front) (replies_to c p.front) =
    subst (λ (z : List (List ℕ) × List (List ℕ)). AreOwn z.0 z.1) (λ j. (sym p.own j, sym q.0 j)) (
      never_open (tid 0) handle path good,
      is_answer (tid 0) handle (OpenWrite path) (Opened 0) good,
      own_upto (λ i. spelling_of (tid (1 + i)) handle (Write (chunk bytes i))) (put_reply tid handle bytes) k
          (λ i below. write_own tid handle bytes i (good_of (tid (1 + i)) handle (Write (chunk bytes i)) (can.names (1 + i) (omega (arith, below))) can.handle_named (short_piece bytes i))),
    ) in
    -- the CLOSE
    let v1 : Service = after_all v p.front in
    let u = first_of c p.back close_it more p.rest in
    let w : Service = after_all v1 u.before in
    let m : Files = w.files in
    let g = goes_on c p.front v m s (right_front v p.front p.back right) ready own in
    let s2 : SessionView = session_after m s front in
    let l =
    is_next c v1 p.back s2 close_it closed more heard u (right_back v p.front p.back right)
    (g.session ∙ ap (session_after m s) p.own) q.1 (is_answer (tid (1 + k)) handle Close (Closed n) shut) in
    let still : files_after m s front ≡ m = put_broken m tid name handle path bytes k can (omega arith) in
    let put : (file_step m s2 close_it).files ≡ map.insert m path bytes =
    ap (λ z. (file_step z s2 close_it).files) (sym still) ∙ sym (files_more m s front close_it)
    ∙ (puts m tid name handle path bytes can).files in
    let joined : after_all v (p.front ++ u.before) ≡ w = after_append v p.front u.before in
    record {
      at = moment_on c h p.front p.back front [] front close_it p.is p.own (append-nil front)
          (first_moment c p.back close_it more u);
      file =
          ap (λ z. (after_one z u.transaction).files) joined ∙ l.files ∙ put
          ∙ ap (λ z. map.insert z.files path bytes) (sym joined);
      alone = leaves_both c v p.front u.before g.alone (silent_leaves c v1 u.before u.none);
      session = λ none.
          session_on c v h p.front p.back p.is ∙ session_on c v1 p.back u.before (u.transaction ∷ u.later) u.is
          ∙ silent c (after_one w u.transaction) u.later (u.rest ∙ none) ∙ l.session
          ∙ ap (λ z. (file_step z s2 close_it).session) (sym still) ∙ sym (session_more m s front close_it)
          ∙ (puts m tid name handle path bytes can).session;
    }
  where
    write_own : (tid : Tids) (handle bytes : List ℕ) (i : ℕ) → is_good (tid (1 + i)) handle (Write (chunk bytes i)) ≡ true
        → NeverAsks (spelling_of (tid (1 + i)) handle (Write (chunk bytes i)))
        × IsAnswer (spelling_of (tid (1 + i)) handle (Write (chunk bytes i))) (put_reply tid handle bytes i)
    write_own tid handle bytes i good = (
      never_write (tid (1 + i)) handle (chunk bytes i) good,
      is_answer (tid (1 + i)) handle (Write (chunk bytes i)) (Wrote (min (MAX_CHUNK * (1 + i)) (length bytes))) good,
    )

-- ---- a login

pub logged : (c : Name) (v : Service) (h : List Transaction) (name : List ℕ) → AreRight v h
    → v.session c ≡ new_session → is_name 1 MAX_NAME name ≡ true → commands_by c h ≡ login_command name ∷ []
    → replies_to c h ≡ login_reply name ∷ [] → (after_all v h).session c ≡ logged_in name
logged c v h name r new named said told =
    let good : is_good (decimal 0) [] (Login name) ≡ true =
    good_bare (decimal 0) (Login name) (number_named 0 (omega arith)) named in
    let own : AreOwn (commands_by c h) (replies_to c h) =
    subst (λ (z : List (List ℕ) × List (List ℕ)). AreOwn z.0 z.1) (λ j. (sym said j, sym told j))
    (never_login (decimal 0) [] name good, is_answer (decimal 0) [] (Login name) (LoggedIn name) good, tt) in
    let g = goes_on c h v v.files new_session r new own in
    g.session ∙ ap (session_after v.files new_session) said ∙ (logs_in_named v.files name named).session
