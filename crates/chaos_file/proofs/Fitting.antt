-- The definition's replies fit into a packet, in a session whose handles hold files of at most the greatest size.
use Rattle.std.proofs.Common.{◌≡◌, ◌≤◌, ℕ, zero, suc, Bool, true, false, List, [], ◌∷◌, ◌++◌, length, take, drop, ◌+◌, Option, Some, None, Result, Ok, Err, refl, sym, subst, arith, length-append}
use Rattle.std.specs.Prelude.{◌&&◌, nat_lt, nat_le, if◌then◌else◌, slice_set, position, codes}
use Rattle.std.specs.Fmt.{decimal}
use Rattle.std.proofs.lemmas.Bool.{ltb-false, leb-true, le-leb}
use Rattle.std.proofs.lemmas.List.{length-take}
use Rattle.std.proofs.lemmas.Fmt.{length-decimal-le}
use Rattle.chaos_file.specs.declared.limits.TheConstants.{MAX_TID, MAX_HANDLE, MAX_NAME, MAX_CHUNK, MAX_FILE}
use Rattle.chaos_file.specs.declared.error.FileError.{FileError}
use Rattle.chaos_file.specs.declared.error.FileError.TheVariants as e
use Rattle.chaos_file.specs.Error.{error_text}
use Rattle.chaos_file.specs.Names.{is_name}
use Rattle.chaos_file.specs.Spelling.{is_legal}
use Rattle.chaos_file.specs.Command.{CommandView, Login, OpenRead, OpenWrite, Read, Write, Close, Rename, Delete, ParsedView, BadHead, NoWord, Unknown, BadForm, BadPath, Good, word_said, tid_of, handle_of}
use Rattle.chaos_file.specs.Grammar.{Head, space, cut, is_nil, head_of, parse_of, parse_of_head}
use Rattle.chaos_file.specs.Answer.{Answer, LoggedIn, Opened, Given, AtEnd, Wrote, Closed, Renamed, Deleted, answer_text, reply_front}
use Rattle.chaos_file.specs.Session.{HandleView, SessionView, next_bytes, handle_at, handle_with_place, handle_named, is_named}
use Rattle.chaos_file.specs.Store.{Files, Look, Missing, Over, Found, look_within, look_for, is_there}
use Rattle.chaos_file.specs.Plan.{Request, GetFile, PutFile, RenameFile, RemoveFile, Plan, Refuse, Tell, Grow, Ask, plan_read, plan_write, plan_close, open_error, plan_unless, plan_command, may_say, plan_of}
use Rattle.chaos_file.specs.Step.{Left, outcome_of_look, outcome_of_request, outcome_of, step_of, file_step}
use Rattle.chaos_file.specs.Replies.{session_after}
use Rattle.chaos_file.specs.Reply.{is_answer}
use Rattle.std.specs.FinMap as map
use Rattle.chaos_file.proofs.Spelling.{both_left, both_right}
use Rattle.chaos_file.proofs.Reading.{IsHead, head_parts, read_good}
use Rattle.chaos_file.proofs.NoMemory.{head_gives}

-- ---- the handles

-- no handle holds more than the greatest file
abbrev pub AreSmall : List HandleView → Type 0
AreSmall [] = Unit {0}
AreSmall (h ∷ hs) = (length h.bytes ≤ MAX_FILE) × AreSmall hs

small_more : (hs : List HandleView) (h : HandleView) → AreSmall hs → length h.bytes ≤ MAX_FILE → AreSmall (hs ++ h ∷ [])
small_more [] h s k = (k, tt)
small_more (g ∷ hs) h s k = (s.0, small_more hs h s.1 k)

small_set : (hs : List HandleView) (i : ℕ) (h : HandleView) → AreSmall hs → length h.bytes ≤ MAX_FILE
    → AreSmall (slice_set hs i h)
small_set [] i h s k = tt
small_set (g ∷ hs) zero h s k = (k, s.1)
small_set (g ∷ hs) (suc i) h s k = (s.0, small_set hs i h s.1 k)

small_drop : (hs : List HandleView) (i : ℕ) → AreSmall hs → AreSmall (drop i hs)
small_drop hs zero s = s
small_drop [] (suc i) s = tt
small_drop (g ∷ hs) (suc i) s = small_drop hs i s.1

small_remove : (hs : List HandleView) (i : ℕ) → AreSmall hs → AreSmall (take i hs ++ drop (suc i) hs)
small_remove [] zero s = tt
small_remove [] (suc i) s = tt
small_remove (g ∷ hs) zero s = s.1
small_remove (g ∷ hs) (suc i) s = (s.0, small_remove hs i s.1)

small_at : (hs : List HandleView) (i : ℕ) → AreSmall hs → length (handle_at hs i).bytes ≤ MAX_FILE
small_at [] i s = omega arith
small_at (g ∷ hs) zero s = s.0
small_at (g ∷ hs) (suc i) s = small_at hs i s.1

-- a handle that was found
abbrev SmallOne : Option (ℕ × HandleView) → Type 0
SmallOne None = Unit {0}
SmallOne (Some f) = length f.1.bytes ≤ MAX_FILE

small_place : (hs : List HandleView) (o : Option ℕ) → AreSmall hs → SmallOne (handle_with_place hs o)
small_place hs None s = tt
small_place hs (Some place) s = small_at hs place s

-- ---- answers

abbrev pub AnswerFits : Answer → Type 0
AnswerFits answer = is_answer answer ≡ true

given_fits : (h : HandleView) → AnswerFits (Given (next_bytes h))
given_fits h =
    let n = length-take MAX_CHUNK (drop h.position h.bytes) in
    le-leb (length (next_bytes h)) MAX_CHUNK (omega arith)

name_short : (least most : ℕ) (name : List ℕ) → is_name least most name ≡ true → length name ≤ most
name_short least most name h =
    leb-true (length name) most
    (both_right (nat_le least (length name)) (nat_le (length name) most)
    (both_left (nat_le least (length name) && nat_le (length name) most) _ h))

count_short : (front : List ℕ) (n : ℕ) → length front ≤ 6 → n ≤ MAX_FILE → length (front ++ decimal n) ≤ 470
count_short front n short small =
    let digits = length-decimal-le 20 n (omega arith) (omega arith) (omega arith) in
    let all = length-append front (decimal n) in
    omega arith

answer_short : (answer : Answer) → AnswerFits answer → length (answer_text answer) ≤ 470
answer_short (LoggedIn name) k =
    let short = name_short 1 MAX_NAME name k in
    let all = length-append (codes "LOGIN ") name in
    omega arith
answer_short (Opened n) k = count_short (codes "OPEN ") n (omega arith) (leb-true n MAX_FILE k)
answer_short (Given bytes) k =
    let short = leb-true (length bytes) MAX_CHUNK k in
    let all = length-append (codes "READ") (141 ∷ bytes) in
    omega arith
answer_short AtEnd k = omega arith
answer_short (Wrote n) k = count_short (codes "WRITE ") n (omega arith) (leb-true n MAX_FILE k)
answer_short (Closed n) k = count_short (codes "CLOSE ") n (omega arith) (leb-true n MAX_FILE k)
answer_short Renamed k = omega arith
answer_short Deleted k = omega arith

pub error_fits : (error : FileError) → length (error_text error) ≤ 470
error_fits e.Syntax = omega arith
error_fits e.UnknownCommand = omega arith
error_fits e.NotLoggedIn = omega arith
error_fits e.IllegalPath = omega arith
error_fits e.HandleInUse = omega arith
error_fits e.NoSuchHandle = omega arith
error_fits e.WrongKind = omega arith
error_fits e.TooManyHandles = omega arith
error_fits e.FileTooBig = omega arith
error_fits e.NoSuchFile = omega arith
error_fits e.FileExists = omega arith
error_fits e.StoreFault = omega arith
error_fits e.NoMemory = omega arith

-- ---- plans

abbrev RequestFits : Request → Type 0
RequestFits (PutFile path bytes t) = (length bytes ≤ MAX_FILE) × AreSmall t.handles
RequestFits _ = Unit {0}

abbrev PlanFits : Plan → Type 0
PlanFits (Refuse error) = Unit {0}
PlanFits (Tell t answer) = AreSmall t.handles × AnswerFits answer
PlanFits (Grow t answer) = AreSmall t.handles × AnswerFits answer
PlanFits (Ask request) = RequestFits request

by_if : {X : Type 0} (P : X → Type 0) (b : Bool) (x y : X) → P x → P y → P (if b then x else y)
by_if P true x y h k = h
by_if P false x y h k = k

read_fits : (s : SessionView) (o : Option (ℕ × HandleView)) → AreSmall s.handles → SmallOne o → PlanFits (plan_read s o)
read_fits s None small k = tt
read_fits s (Some f) small k =
    by_if PlanFits f.1.writes _ _ tt
    (small_set s.handles f.0 _ small k, by_if AnswerFits (is_nil (next_bytes f.1)) AtEnd (Given (next_bytes f.1)) refl (given_fits f.1))

write_more : (bytes : List ℕ) (s : SessionView) (f : ℕ × HandleView) → AreSmall s.handles → (b : Bool)
    → nat_lt MAX_FILE (length f.1.bytes + length bytes) ≡ b
    → PlanFits
    (if b then Refuse e.FileTooBig else Grow
    (record s { handles = slice_set s.handles f.0 (record f.1 { bytes = f.1.bytes ++ bytes }) })
    (Wrote (length f.1.bytes + length bytes)))
write_more bytes s f small true is = tt
write_more bytes s f small false is =
    let within = ltb-false MAX_FILE (length f.1.bytes + length bytes) is in
    let all = length-append f.1.bytes bytes in
    (small_set s.handles f.0 _ small (omega arith), le-leb (length f.1.bytes + length bytes) MAX_FILE (omega arith))

write_fits : (bytes : List ℕ) (s : SessionView) (o : Option (ℕ × HandleView)) → AreSmall s.handles
    → PlanFits (plan_write bytes s o)
write_fits bytes s None small = tt
write_fits bytes s (Some f) small =
    by_if PlanFits f.1.writes _ _ (write_more bytes s f small (nat_lt MAX_FILE (length f.1.bytes + length bytes)) refl)
    tt

close_fits : (s : SessionView) (o : Option (ℕ × HandleView)) → AreSmall s.handles → SmallOne o
    → PlanFits (plan_close s o)
close_fits s None small k = tt
close_fits s (Some f) small k =
    let rest = small_remove s.handles f.0 small in
    by_if PlanFits f.1.writes _ _ (k, rest) (rest, le-leb (length f.1.bytes) MAX_FILE k)

unless_fits : (o : Option FileError) (plan : Plan) → PlanFits plan → PlanFits (plan_unless o plan)
unless_fits None plan k = k
unless_fits (Some error) plan k = tt

command_fits : (s : SessionView) (bare : Bool) (handle : List ℕ) (command : CommandView) → is_legal bare command ≡ true
    → AreSmall s.handles → PlanFits (plan_command s handle command)
command_fits s bare handle (Login name) legal small = (small, both_right bare (is_name 1 MAX_NAME name) legal)
command_fits s bare handle (OpenRead path) legal small = unless_fits (open_error s (handle_named handle s.handles)) _ tt
command_fits s bare handle (OpenWrite path) legal small =
    unless_fits (open_error s (handle_named handle s.handles)) _
    (small_more s.handles _ small (omega arith), refl)
command_fits s bare handle Read legal small =
    read_fits s (handle_named handle s.handles) small
    (small_place s.handles (position (is_named handle) s.handles) small)
command_fits s bare handle (Write bytes) legal small = write_fits bytes s (handle_named handle s.handles) small
command_fits s bare handle Close legal small =
    close_fits s (handle_named handle s.handles) small
    (small_place s.handles (position (is_named handle) s.handles) small)
command_fits s bare handle (Rename old new) legal small = tt
command_fits s bare handle (Delete path) legal small = tt

planned_fits : (s : SessionView) (c : List ℕ) (p : ParsedView) → parse_of c ≡ p → AreSmall s.handles
    → PlanFits (plan_of s p)
planned_fits s c BadHead is small = tt
planned_fits s c (NoWord tid handle) is small = tt
planned_fits s c (Unknown tid handle) is small = tt
planned_fits s c (BadForm tid handle word) is small = by_if PlanFits (may_say s word) _ _ tt tt
planned_fits s c (BadPath tid handle word) is small = by_if PlanFits (may_say s word) _ _ tt tt
planned_fits s c (Good tid handle command) is small =
    let good = read_good c tid handle command is in
    let legal =
    both_right (is_name 0 MAX_HANDLE handle) (is_legal (is_nil handle) command)
    (both_right (is_name 1 MAX_TID tid) _ good) in
    by_if PlanFits (may_say s (word_said command)) _ _ (command_fits s (is_nil handle) handle command legal small) tt

-- ---- outcomes

abbrev pub LeftFits : Result Left FileError → Type 0
LeftFits (Ok l) = AreSmall l.session.handles × AnswerFits l.answer
LeftFits (Err error) = Unit {0}

-- what a look finds is no greater than its limit
abbrev FoundFits : Look → Type 0
FoundFits (Found bytes) = length bytes ≤ MAX_FILE
FoundFits look = Unit {0}

bytes_found : (bytes : List ℕ) (b : Bool) → nat_lt MAX_FILE (length bytes) ≡ b
    → FoundFits (if b then Over else Found bytes)
bytes_found bytes true is = tt
bytes_found bytes false is = let within = ltb-false MAX_FILE (length bytes) is in omega arith

found_fits : (o : Option (List ℕ)) → FoundFits (look_within MAX_FILE o)
found_fits None = tt
found_fits (Some bytes) = bytes_found bytes (nat_lt MAX_FILE (length bytes)) refl

look_fits : (m : Files) (s : SessionView) (name path : List ℕ) (look : Look) → FoundFits look → AreSmall s.handles
    → LeftFits (outcome_of_look m s name path look)
look_fits m s name path Missing k small = tt
look_fits m s name path Over k small = tt
look_fits m s name path (Found bytes) k small =
    (small_more s.handles _ small k, le-leb (length bytes) MAX_FILE k)

request_fits : (m : Files) (s : SessionView) (request : Request) → RequestFits request → AreSmall s.handles
    → LeftFits (outcome_of_request m s request)
request_fits m s (GetFile name path) k small =
    look_fits m s name path (look_for m path MAX_FILE) (found_fits (map.get m path)) small
request_fits m s (PutFile path bytes t) k small = (k.1, le-leb (length bytes) MAX_FILE k.0)
request_fits m s (RenameFile old new) k small =
    by_if LeftFits (is_there m old) _ _ (by_if LeftFits (is_there m new) _ _ tt (small, refl)) tt
request_fits m s (RemoveFile path) k small = by_if LeftFits (is_there m path) _ _ (small, refl) tt

outcome_fits : (m : Files) (s : SessionView) (plan : Plan) → PlanFits plan → AreSmall s.handles
    → LeftFits (outcome_of m s plan)
outcome_fits m s (Refuse error) k small = tt
outcome_fits m s (Tell t answer) k small = k
outcome_fits m s (Grow t answer) k small = k
outcome_fits m s (Ask request) k small = request_fits m s request k small

-- ---- the front

front_short : (t h : List ℕ) → length t ≤ 8 → length h ≤ 8 → length (reply_front t h) ≤ 18
front_short t h a b =
    let one = length-append (t ++ (space ∷ []) ++ h) (space ∷ []) in
    let two = length-append (t ++ (space ∷ [])) h in
    let three = length-append t (space ∷ []) in
    omega arith

front_by : (c : List ℕ) (o : Option Head) → head_of c ≡ o
    → length (reply_front (tid_of (parse_of_head o)) (handle_of (parse_of_head o))) ≤ 18
unfolding IsHead
front_by c None is = omega arith
front_by c (Some g) is =
    let i : IsHead c g = head_parts c g (cut space c) refl is in
    let back = head_gives g in
    front_short _ _ (subst (λ t. length t ≤ 8) (sym back.tid) (name_short 1 MAX_TID g.tid i.1))
    (subst (λ t. length t ≤ 8) (sym back.handle) (name_short 0 MAX_HANDLE g.handle i.2))

pub front_fits : (c : List ℕ) → length (reply_front (tid_of (parse_of c)) (handle_of (parse_of c))) ≤ 18
front_fits c = front_by c (head_of c) refl

-- ---- a command

-- a reply of 488 bytes at most, in a session that stays so
pub record Fits (m : Files) (s : SessionView) (c : List ℕ) : Type 0 where
  pub reply : length (file_step m s c).reply ≤ 488
  pub small : AreSmall (file_step m s c).session.handles

-- by the outcome
record StepFits (m : Files) (s : SessionView) (c : List ℕ) (o : Result Left FileError) : Type 0 where
  reply : length (step_of m s (parse_of c) o).reply ≤ 488
  small : AreSmall (step_of m s (parse_of c) o).session.handles

step_fits : (m : Files) (s : SessionView) (c : List ℕ) (o : Result Left FileError) → LeftFits o → AreSmall s.handles
    → StepFits m s c o
step_fits m s c (Ok l) k small =
    let p : ParsedView = parse_of c in
    let all = length-append (reply_front (tid_of p) (handle_of p)) (answer_text l.answer) in
    let front = front_fits c in
    let text = answer_short l.answer k.1 in
    record { reply = omega arith; small = k.0 }
step_fits m s c (Err error) k small =
    let p : ParsedView = parse_of c in
    let all = length-append (reply_front (tid_of p) (handle_of p)) (error_text error) in
    let front = front_fits c in
    let text = error_fits error in
    record { reply = omega arith; small = small }

-- what a command leaves in such a session
pub left_fits : (m : Files) (s : SessionView) (c : List ℕ) → AreSmall s.handles
    → LeftFits (outcome_of m s (plan_of s (parse_of c)))
left_fits m s c small = outcome_fits m s (plan_of s (parse_of c)) (planned_fits s c (parse_of c) refl small) small

pub fits : (m : Files) (s : SessionView) (c : List ℕ) → AreSmall s.handles → Fits m s c
fits m s c small =
    let r = step_fits m s c (outcome_of m s (plan_of s (parse_of c))) (left_fits m s c small) small in
    record { reply = r.reply; small = r.small }

pub small_after : (commands : List (List ℕ)) (m : Files) (s : SessionView) → AreSmall s.handles
    → AreSmall (session_after m s commands).handles
small_after [] m s small = small
small_after (c ∷ commands) m s small =
    small_after commands (file_step m s c).files (file_step m s c).session (fits m s c small).small
