-- A reply is read as what it says, and what is read as a reply was spelled so.
use Rattle.std.proofs.Common.{◌≡◌, ◌<◌, ◌≤◌, ◌^◌, ℕ, Bool, true, false, List, [], ◌∷◌, ◌++◌, length, take, drop, Option, Some, None, Result, Ok, Err, refl, ap, ◌∙◌, sym, subst, arith, rules}
use Rattle.std.specs.Prelude.{option_map, not, ◌&&◌, ◌==◌, nat_le, if◌then◌else◌, codes}
use Rattle.std.specs.Fmt.{decimal}
use Rattle.std.specs.List.{list_all}
use Rattle.std.specs.Char.{is_ascii_alphanumeric}
use Rattle.std.specs.Str.{bytes_eq, IsAscii, IsUtf8}
use Rattle.std.specs.Str.Parse.{digits_value, ParsesUnsigned}
use Rattle.std.proofs.lemmas.Bool.{le-leb, leb-true}
use Rattle.std.proofs.lemmas.Fmt.{IsAscii-decimal, decimal_is_IsNumeral, parse-decimal}
use Rattle.std.proofs.lemmas.List.{take-append-drop}
use Rattle.std.proofs.lemmas.Str.{IsUtf8-from_ascii}
use Rattle.std.proofs.lemmas.Slice.Eq.{bytes_eq-Decides}
use Rattle.chaos_file.specs.declared.limits.TheConstants.{NL, MAX_TID, MAX_HANDLE, MAX_NAME, MAX_CHUNK, MAX_FILE}
use Rattle.chaos_file.specs.declared.command.Word.{Word}
use Rattle.chaos_file.specs.declared.command.Word.TheVariants as w
use Rattle.chaos_file.specs.declared.error.FileError.{FileError}
use Rattle.chaos_file.specs.declared.error.FileError.TheVariants as e
use Rattle.chaos_file.specs.Error.{error_text}
use Rattle.chaos_file.specs.Names.{is_name}
use Rattle.chaos_file.specs.Command.{ParsedView, tid_of, handle_of}
use Rattle.chaos_file.specs.Grammar.{Head, is_nil, space, cut, after_front, head_of, word_of, word_end, parse_of_head, parse_of}
use Rattle.chaos_file.specs.Answer.{Answer, LoggedIn, Opened, Given, AtEnd, Wrote, Closed, Renamed, Deleted, reply_front}
use Rattle.chaos_file.specs.Session.{SessionView, new_session}
use Rattle.chaos_file.specs.Store.{Files}
use Rattle.chaos_file.specs.Plan.{plan_of}
use Rattle.chaos_file.specs.Step.{Left, outcome_of, step_of, file_step}
use Rattle.chaos_file.specs.Replies.{files_after, session_after}
use Rattle.chaos_file.specs.Reply.{SaidView, Answered, Refused, ReplyView, said_text, reply_text, outcome_reply, step_reply, is_answer, is_sayable, is_reply, count_if, count_of, count_behind, answered_if, login_said, given_said, said_behind, said_of_word, said_of_text, said_of, reply_said, reply_named, reply_after, reading_of}
use Rattle.chaos_file.proofs.Files.{bytes_same}
use Rattle.chaos_file.proofs.Spelling.{both_left, both_right, cut_front, ended_word, front_apart, name_letters, without}
use Rattle.chaos_file.proofs.Reading.{IsHead, both, cut_parts, front_parts, head_parts, letters, nil_parts, word_parts}
use Rattle.chaos_file.proofs.NoMemory.{head_gives}
use Rattle.chaos_file.proofs.Fitting.{AreSmall, LeftFits, left_fits, small_after}

-- ---- numbers

pub same_bytes : (xs : List ℕ) → bytes_eq xs xs ≡ true
same_bytes xs = search (rules, bytes_eq-Decides)

-- a count is small
small : (n : ℕ) → n ≤ MAX_FILE → n < 2 ^ 64
small n h = omega (arith, h)

pub count_read : (n : ℕ) → nat_le n MAX_FILE ≡ true → count_of (decimal n) ≡ Some n
count_read n h =
    ap (λ v. count_if v (decimal n)) (decimal_is_IsNumeral n (small n (leb-true n MAX_FILE h))).1
    ∙ ap (λ v. if v && bytes_eq (decimal n) (decimal n) then Some n else None) h
    ∙ ap (λ v. if v then Some n else None) (same_bytes (decimal n))

-- digits that write a count are read as this count
pub count_is : (digits : List ℕ) (n : ℕ) → nat_le n MAX_FILE ≡ true → decimal n ≡ digits → count_of digits ≡ Some n
count_is digits n h e = ap count_of (sym e) ∙ count_read n h

count_if_parts : (n m : ℕ) (digits : List ℕ) → count_if n digits ≡ Some m → (nat_le m MAX_FILE ≡ true) × (decimal m ≡ digits)
count_if_parts n m digits h = by (nat_le n MAX_FILE && bytes_eq (decimal n) digits) refl h
  where
    by : (v : Bool) → (nat_le n MAX_FILE && bytes_eq (decimal n) digits) ≡ v → (if v then Some n else None) ≡ Some m
        → (nat_le m MAX_FILE ≡ true) × (decimal m ≡ digits)
    by true e k =
        let same : n ≡ m = cc in (
          ap (λ x. nat_le x MAX_FILE) (sym same) ∙ both_left (nat_le n MAX_FILE) (bytes_eq (decimal n) digits) e,
          ap decimal (sym same)
              ∙ bytes_same (decimal n) digits (both_right (nat_le n MAX_FILE) (bytes_eq (decimal n) digits) e),
        )
    by false e k = (cc, cc)

-- what writes no count isn't read as one
pub no_count : (digits : List ℕ) → ((n : ℕ) → n ≤ MAX_FILE → digits ≡ decimal n → ⊥) → count_of digits ≡ None
no_count digits f = by (count_of digits) refl
  where
    by : (o : Option ℕ) → count_of digits ≡ o → o ≡ None
    by None e = refl
    by (Some n) e =
        let p = count_if_parts (digits_value 10 digits) n digits e in absurd (f n (leb-true n MAX_FILE p.0) (sym p.1))

-- a count is a text
pub count_is_text : (digits : List ℕ) (n : ℕ) → n ≤ MAX_FILE → digits ≡ decimal n → IsUtf8 digits
count_is_text digits n fits is =
    IsUtf8-from_ascii digits (subst IsAscii (sym is) (IsAscii-decimal n (small n fits)))

-- and is parsed as the number that it writes
pub count_parsed : {E : Type 0} (digits : List ℕ) (n : ℕ) (r : Result ℕ E) → n ≤ MAX_FILE → digits ≡ decimal n
    → ParsesUnsigned 64 10 digits r → r ≡ Ok n
count_parsed digits n r fits is h = parse-decimal 64 n digits r (small n fits) (small n fits) is h

-- ---- what is spelled is read

answered : (v : Bool) (answer : Answer) → v ≡ true → answered_if v answer ≡ Some (Answered answer)
answered v answer h = ap (λ b. answered_if b answer) h

counted : (f : ℕ → SaidView) (n : ℕ) → nat_le n MAX_FILE ≡ true
    → option_map f (count_behind (Some (decimal n))) ≡ Some (f n)
counted f n h = ap (option_map f) (count_read n h)

said_read : (said : SaidView) → is_sayable said ≡ true → said_of (said_text said) ≡ Some said
said_read (Answered (LoggedIn name)) h =
    ap (said_of_text (codes "LOGIN " ++ name)) (ended_word (codes "LOGIN") name space refl refl)
    ∙ answered (is_name 1 MAX_NAME name) (LoggedIn name) h
said_read (Answered (Opened n)) h =
    ap (said_of_text (codes "OPEN " ++ decimal n)) (ended_word (codes "OPEN") (decimal n) space refl refl)
    ∙ counted (λ m. Answered (Opened m)) n h
said_read (Answered (Given bytes)) h =
    ap (said_of_text (codes "READ" ++ NL ∷ bytes)) (ended_word (codes "READ") bytes NL refl refl)
    ∙ answered (nat_le (length bytes) MAX_CHUNK) (Given bytes) h
said_read (Answered AtEnd) h = refl
said_read (Answered (Wrote n)) h =
    ap (said_of_text (codes "WRITE " ++ decimal n)) (ended_word (codes "WRITE") (decimal n) space refl refl)
    ∙ counted (λ m. Answered (Wrote m)) n h
said_read (Answered (Closed n)) h =
    ap (said_of_text (codes "CLOSE " ++ decimal n)) (ended_word (codes "CLOSE") (decimal n) space refl refl)
    ∙ counted (λ m. Answered (Closed m)) n h
said_read (Answered Renamed) h = refl
said_read (Answered Deleted) h = refl
said_read (Refused text) h =
    ap (said_of_text (codes "ERROR " ++ text)) (ended_word (codes "ERROR") text space refl refl)

spaceless : (least most : ℕ) (name : List ℕ) → is_name least most name ≡ true
    → list_all (λ x. not (x == space)) name ≡ true
spaceless least most name h = without is_ascii_alphanumeric space refl name (name_letters least most name h)

named_read : (tid handle text : List ℕ) → is_name 0 MAX_TID tid ≡ true → is_name 0 MAX_HANDLE handle ≡ true
    → reading_of (reply_front tid handle ++ text) ≡ reply_said tid handle (said_of text)
named_read tid handle text t h =
    ap reading_of (front_apart tid handle text)
    ∙ ap reply_after (cut_front space tid (handle ++ space ∷ text) (spaceless 0 MAX_TID tid t))
    ∙ ap (reply_named tid) (cut_front space handle text (spaceless 0 MAX_HANDLE handle h))
    ∙ ap (λ v. if v then reply_said tid handle (said_of text) else None) (both (is_name 0 MAX_TID tid) (is_name 0 MAX_HANDLE handle) t h)

-- a reply is read as what it says
pub reply_read : (r : ReplyView) → is_reply r ≡ true → reading_of (reply_text r) ≡ Some r
reply_read r h =
    let others : (is_name 0 MAX_HANDLE r.handle && is_sayable r.said) ≡ true =
    both_right (is_name 0 MAX_TID r.tid) (is_name 0 MAX_HANDLE r.handle && is_sayable r.said) h in
    named_read r.tid r.handle (said_text r.said)
    (both_left (is_name 0 MAX_TID r.tid) (is_name 0 MAX_HANDLE r.handle && is_sayable r.said) h)
    (both_left (is_name 0 MAX_HANDLE r.handle) (is_sayable r.said) others)
    ∙ ap (reply_said r.tid r.handle)
    (said_read r.said (both_right (is_name 0 MAX_HANDLE r.handle) (is_sayable r.said) others))

-- ---- what is read was spelled

-- a text spells what a reply may say
unfoldable pub Says : List ℕ → SaidView → Type 0
Says text said = (text ≡ said_text said) × (is_sayable said ≡ true)

answered_parts : (v : Bool) (answer : Answer) (s : SaidView) → answered_if v answer ≡ Some s
    → (v ≡ true) × (Answered answer ≡ s)
answered_parts true answer s h = (refl, cc)
answered_parts false answer s h = (cc, cc)

map_parts : {A : Type 0} (f : A → SaidView) (s : SaidView) (o : Option A) → option_map f o ≡ Some s
    → (x : A) × (o ≡ Some x) × (f x ≡ s)
map_parts f s None h = absurd (cc)
map_parts f s (Some x) h = (x, refl, cc)

says : (text : List ℕ) (said s : SaidView) → text ≡ said_text said → is_sayable said ≡ true → said ≡ s → Says text s
unfolding Says
says text said s e h same = (e ∙ ap said_text same, ap is_sayable (sym same) ∙ h)

login_says : (rest : List ℕ) (s : SaidView) (o : Option (List ℕ)) → after_front (space ∷ []) rest ≡ o
    → login_said o ≡ Some s → Says (codes "LOGIN" ++ rest) s
login_says rest s None e h = absurd (cc)
login_says rest s (Some name) e h =
    let p = answered_parts (is_name 1 MAX_NAME name) (LoggedIn name) s h in
    says (codes "LOGIN" ++ rest) (Answered (LoggedIn name)) s
    (ap (λ r. codes "LOGIN" ++ r) (front_parts (space ∷ []) rest name e)) p.0 p.1

given_says : (rest : List ℕ) (s : SaidView) (o : Option (List ℕ)) → after_front (NL ∷ []) rest ≡ o
    → given_said o ≡ Some s → Says (codes "READ" ++ rest) s
given_says rest s None e h = absurd (cc)
given_says rest s (Some bytes) e h =
    let p = answered_parts (nat_le (length bytes) MAX_CHUNK) (Given bytes) s h in
    says (codes "READ" ++ rest) (Answered (Given bytes)) s
    (ap (λ r. codes "READ" ++ r) (front_parts (NL ∷ []) rest bytes e)) p.0 p.1

alone_says : (word rest : List ℕ) (answer : Answer) (s : SaidView) → word ++ [] ≡ said_text (Answered answer)
    → is_answer answer ≡ true → answered_if (is_nil rest) answer ≡ Some s → Says (word ++ rest) s
alone_says word rest answer s e k h =
    let p = answered_parts (is_nil rest) answer s h in
    says (word ++ rest) (Answered answer) s (ap (λ r. word ++ r) (nil_parts rest p.0) ∙ e) k p.1

-- a count behind a space
count_parts : (rest : List ℕ) (n : ℕ) (o : Option (List ℕ)) → after_front (space ∷ []) rest ≡ o
    → count_behind o ≡ Some n → (nat_le n MAX_FILE ≡ true) × (rest ≡ space ∷ decimal n)
count_parts rest n None e h = (cc, cc)
count_parts rest n (Some digits) e h =
    let p = count_if_parts (digits_value 10 digits) n digits h in
    (p.0, front_parts (space ∷ []) rest digits e ∙ ap (λ d. space ∷ d) (sym p.1))

-- a word with a count behind it
counted_says : (word rest : List ℕ) (f : ℕ → Answer) (s : SaidView)
    → ((n : ℕ) → word ++ space ∷ decimal n ≡ said_text (Answered (f n))) → ((n : ℕ) → is_answer (f n) ≡ nat_le n MAX_FILE)
    → option_map (λ n. Answered (f n)) (count_behind (after_front (space ∷ []) rest)) ≡ Some s → Says (word ++ rest) s
counted_says word rest f s e k h =
    let m = map_parts (λ n. Answered (f n)) s (count_behind (after_front (space ∷ []) rest)) h in
    let p = count_parts rest m.0 (after_front (space ∷ []) rest) refl m.1 in
    says (word ++ rest) (Answered (f m.0)) s (ap (λ r. word ++ r) p.1 ∙ e m.0) (k m.0 ∙ p.0) m.2

word_says : (word : Word) (rest : List ℕ) (s : SaidView) → said_behind word rest ≡ Some s → Says (letters word ++ rest) s
unfolding letters
word_says w.Login rest s h = login_says rest s (after_front (space ∷ []) rest) refl h
word_says w.Open rest s h = counted_says (codes "OPEN") rest (λ n. Opened n) s (λ n. refl) (λ n. refl) h
word_says w.Read rest s h = given_says rest s (after_front (NL ∷ []) rest) refl h
word_says w.Write rest s h = counted_says (codes "WRITE") rest (λ n. Wrote n) s (λ n. refl) (λ n. refl) h
word_says w.Close rest s h = counted_says (codes "CLOSE") rest (λ n. Closed n) s (λ n. refl) (λ n. refl) h
word_says w.Rename rest s h = alone_says (codes "RENAME") rest Renamed s refl refl h
word_says w.Delete rest s h = alone_says (codes "DELETE") rest Deleted s refl refl h

refused_says : (rest : List ℕ) (s : SaidView) → option_map (λ t. Refused t) (after_front (space ∷ []) rest) ≡ Some s
    → Says (codes "ERROR" ++ rest) s
refused_says rest s h =
    let m = map_parts (λ t. Refused t) s (after_front (space ∷ []) rest) h in
    says (codes "ERROR" ++ rest) (Refused m.0) s
    (ap (λ r. codes "ERROR" ++ r) (front_parts (space ∷ []) rest m.0 m.1)) refl m.2

-- a text that begins with this word
joined : (text : List ℕ) (end : ℕ) (word : List ℕ) (s : SaidView) → take end text ≡ word
    → Says (word ++ drop end text) s → Says text s
joined text end word s e h =
    let P : List ℕ → Type 0 = λ t. Says t s in
    subst P (ap (λ x. x ++ drop end text) (sym e) ∙ take-append-drop end text) h

option_says : (text : List ℕ) (end : ℕ) (s : SaidView) (o : Option Word) → word_of (take end text) ≡ o
    → said_of_word o (drop end text) ≡ Some s → Says text s
option_says text end s None e h = absurd (cc)
option_says text end s (Some word) e h =
    joined text end (letters word) s (word_parts (take end text) word e) (word_says word (drop end text) s h)

either_says : (text : List ℕ) (s : SaidView) (v : Bool) (a b : Option SaidView) → (v ≡ true → a ≡ Some s → Says text s)
    → (b ≡ Some s → Says text s) → (if v then a else b) ≡ Some s → Says text s
either_says text s true a b f g h = f refl h
either_says text s false a b f g h = g h

pub text_says : (text : List ℕ) (end : ℕ) (s : SaidView) → said_of_text text end ≡ Some s → Says text s
text_says text end s h =
    either_says text s (bytes_eq (take end text) (codes "ERROR")) _ _
    (λ e k. joined text end (codes "ERROR") s (bytes_same (take end text) (codes "ERROR") e) (refused_says (drop end text) s k))
    (either_says text s (bytes_eq (take end text) (codes "EOF")) _ _
    (λ e k. joined text end (codes "EOF") s (bytes_same (take end text) (codes "EOF") e)
    (alone_says (codes "EOF") (drop end text) AtEnd s refl refl k))
    (option_says text end s (word_of (take end text)) refl)) h

-- the bytes spell the reply, and it is one of FILE
IsRead : List ℕ → ReplyView → Type 0
IsRead bytes r = (bytes ≡ reply_text r) × (is_reply r ≡ true)

said_parts : (bytes tid handle text : List ℕ) (r : ReplyView) → bytes ≡ tid ++ space ∷ (handle ++ space ∷ text)
    → is_name 0 MAX_TID tid ≡ true → is_name 0 MAX_HANDLE handle ≡ true → (o : Option SaidView) → said_of text ≡ o
    → reply_said tid handle o ≡ Some r → IsRead bytes r
unfolding IsRead Says
said_parts bytes tid handle text r e t h None k i = absurd (cc)
said_parts bytes tid handle text r e t h (Some said) k i =
    let p = text_says text (word_end text) said k in
    let same : record { tid = tid; handle = handle; said = said } ≡ r = cc in
    let P : ReplyView → Type 0 = λ x. IsRead bytes x in
    subst P same (
      e ∙ sym (front_apart tid handle text) ∙ ap (λ x. reply_front tid handle ++ x) p.0,
      both (is_name 0 MAX_TID tid) (is_name 0 MAX_HANDLE handle && is_sayable said) t
          (both (is_name 0 MAX_HANDLE handle) (is_sayable said) h p.1),
    )

names_parts : (bytes tid handle text : List ℕ) (r : ReplyView) → bytes ≡ tid ++ space ∷ (handle ++ space ∷ text)
    → (a b : Bool) → is_name 0 MAX_TID tid ≡ a → is_name 0 MAX_HANDLE handle ≡ b
    → (if a && b then reply_said tid handle (said_of text) else None) ≡ Some r → IsRead bytes r
names_parts bytes tid handle text r e true true t h k =
    said_parts bytes tid handle text r e t h (said_of text) refl k
names_parts bytes tid handle text r e true false t h k = absurd (cc)
names_parts bytes tid handle text r e false b t h k = absurd (cc)

handle_parts : (bytes tid after : List ℕ) (r : ReplyView) → bytes ≡ tid ++ space ∷ after → (o : Option (List ℕ × List ℕ))
    → cut space after ≡ o → reply_named tid o ≡ Some r → IsRead bytes r
handle_parts bytes tid after r e None f k = absurd (cc)
handle_parts bytes tid after r e (Some q) f k =
    names_parts bytes tid q.0 q.1 r (e ∙ ap (λ x. tid ++ space ∷ x) (cut_parts space after q f)) (is_name 0 MAX_TID tid)
    (is_name 0 MAX_HANDLE q.0) refl refl k

tid_parts : (bytes : List ℕ) (r : ReplyView) → (o : Option (List ℕ × List ℕ)) → cut space bytes ≡ o
    → reply_after o ≡ Some r → IsRead bytes r
tid_parts bytes r None e k = absurd (cc)
tid_parts bytes r (Some q) e k = handle_parts bytes q.0 q.1 r (cut_parts space bytes q e) (cut space q.1) refl k

-- what is read as a reply was spelled as this reply
pub reply_spelled : (bytes : List ℕ) (r : ReplyView) → reading_of bytes ≡ Some r → bytes ≡ reply_text r
unfolding IsRead
reply_spelled bytes r h = (tid_parts bytes r (cut space bytes) refl h).0

pub reply_legal : (bytes : List ℕ) (r : ReplyView) → reading_of bytes ≡ Some r → is_reply r ≡ true
unfolding IsRead
reply_legal bytes r h = (tid_parts bytes r (cut space bytes) refl h).1

-- ---- the definition's replies

-- an error stands behind ERROR and a space
error_said : (error : FileError) → error_text error ≡ codes "ERROR " ++ drop 6 (error_text error)
error_said e.Syntax = refl
error_said e.UnknownCommand = refl
error_said e.NotLoggedIn = refl
error_said e.IllegalPath = refl
error_said e.HandleInUse = refl
error_said e.NoSuchHandle = refl
error_said e.WrongKind = refl
error_said e.TooManyHandles = refl
error_said e.FileTooBig = refl
error_said e.NoSuchFile = refl
error_said e.FileExists = refl
error_said e.StoreFault = refl
error_said e.NoMemory = refl

-- a name of some letters is one of any number
pub name_from_none : (most : ℕ) (name : List ℕ) → is_name 1 most name ≡ true → is_name 0 most name ≡ true
name_from_none most name h =
    let letters : List ℕ → Bool = list_all is_ascii_alphanumeric in
    let long = both_left (nat_le 1 (length name) && nat_le (length name) most) (letters name) h in
    both (nat_le 0 (length name) && nat_le (length name) most) (letters name)
    (both (nat_le 0 (length name)) (nat_le (length name) most) (le-leb 0 (length name) (omega arith))
    (both_right (nat_le 1 (length name)) (nat_le (length name) most) long))
    (both_right (nat_le 1 (length name) && nat_le (length name) most) (letters name) h)

-- the names that are given back
record AreNames (p : ParsedView) : Type 0 where
  tid : is_name 0 MAX_TID (tid_of p) ≡ true
  handle : is_name 0 MAX_HANDLE (handle_of p) ≡ true

names_by : (c : List ℕ) (o : Option Head) → head_of c ≡ o → AreNames (parse_of_head o)
unfolding IsHead
names_by c None is = record { tid = refl; handle = refl }
names_by c (Some g) is =
    let i : IsHead c g = head_parts c g (cut space c) refl is in
    let back = head_gives g in
    record {
      tid = subst (λ t. is_name 0 MAX_TID t ≡ true) (sym back.tid) (name_from_none MAX_TID g.tid i.1);
      handle = subst (λ t. is_name 0 MAX_HANDLE t ≡ true) (sym back.handle) i.2;
    }

said_by : (p : ParsedView) (said : SaidView) → AreNames p → is_sayable said ≡ true
    → reading_of (reply_front (tid_of p) (handle_of p) ++ said_text said)
    ≡ Some (record { tid = tid_of p; handle = handle_of p; said = said })
said_by p said n k =
    reply_read (record { tid = tid_of p; handle = handle_of p; said = said })
    (both (is_name 0 MAX_TID (tid_of p)) (is_name 0 MAX_HANDLE (handle_of p) && is_sayable said) n.tid
    (both (is_name 0 MAX_HANDLE (handle_of p)) (is_sayable said) n.handle k))

left_read : (m : Files) (s : SessionView) (p : ParsedView) → AreNames p → (o : Result Left FileError) → LeftFits o
    → reading_of (step_of m s p o).reply ≡ Some (outcome_reply p o)
left_read m s p n (Ok left) k = said_by p (Answered left.answer) n k.1
left_read m s p n (Err error) k =
    ap (λ t. reading_of (reply_front (tid_of p) (handle_of p) ++ t)) (error_said error)
    ∙ said_by p (Refused (drop 6 (error_text error))) n refl

-- each reply of the definition is read as what it says, in a session whose handles hold files that aren't too big
step_read : (m : Files) (s : SessionView) (c : List ℕ) → AreSmall s.handles
    → reading_of (file_step m s c).reply ≡ Some (step_reply m s c)
step_read m s c small =
    left_read m s (parse_of c) (names_by c (head_of c) refl) (outcome_of m s (plan_of s (parse_of c)))
    (left_fits m s c small)

-- after whatever commands
pub replies_read : (m : Files) (before : List (List ℕ)) (c : List ℕ)
    → reading_of (file_step (files_after m new_session before) (session_after m new_session before) c).reply
    ≡ Some (step_reply (files_after m new_session before) (session_after m new_session before) c)
replies_read m before c =
    step_read (files_after m new_session before) (session_after m new_session before) c
    (small_after before m new_session tt)
