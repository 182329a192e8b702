-- What the reply to a command says, read back.
use Rattle.std.proofs.Common.{◌≡◌, ℕ, ◌≤◌, ◌<◌, Bool, true, false, List, ◌++◌, length, Option, Some, None, refl, ap, sym, ◌∙◌}
use Rattle.std.specs.Prelude.{◌&&◌, if◌then◌else◌, Decides, IfSome}
use Rattle.std.specs.Fmt.{decimal}
use Rattle.std.specs.Str.{bytes_eq}
use Rattle.std.proofs.lemmas.Bool.{le-leb, leb-true}
use Rattle.chaos_file.specs.declared.limits.TheConstants.{MAX_TID, MAX_HANDLE, MAX_CHUNK, MAX_FILE}
use Rattle.chaos_file.specs.Names.{is_name}
use Rattle.chaos_file.specs.Answer.{Opened, Given, reply_front}
use Rattle.chaos_file.specs.Reply.{SaidView, Answered, Refused, ReplyView, said_text, is_sayable, reading_of}
use Rattle.chaos_file.proofs.Files.{bytes_same}
use Rattle.chaos_file.proofs.Spelling.{both_left, both_right}
use Rattle.chaos_file.proofs.Reading.{both}
use Rattle.chaos_file.proofs.ReadReplies.{name_from_none, reply_legal, reply_read, reply_spelled, same_bytes}
use Rattle.file_copy.specs.Copy.{reply_of}
use Rattle.file_copy.specs.Row.{file_handle}
use Rattle.file_copy.specs.Said.{said_to, opened_of, given_of, is_refused}
use Rattle.file_copy.specs.Talk.{taken}
use Rattle.file_copy.specs.Ends.{IsErrorTo}
use Rattle.file_copy.proofs.Named.{number_named}
use Rattle.file_copy.proofs.Talks.{taken_is}

-- a number is the name of a reply
reply_named : (n : ℕ) → n < 100000000 → is_name 0 MAX_TID (decimal n) ≡ true
reply_named n l = name_from_none MAX_TID (decimal n) (number_named n l)

-- a reply says this to the command of these names
record Says (tid handle reply : List ℕ) (said : SaidView) : Type 0 where
  legal : is_sayable said ≡ true
  spelled : reply ≡ reply_front tid handle ++ said_text said

if_parts : {A : Type 0} (v : Bool) (x y : A) → (if v then Some x else None) ≡ Some y → (v ≡ true) × (x ≡ y)
if_parts true x y h = (refl, cc)
if_parts false x y h = (cc, cc)

says_by : (tid handle reply : List ℕ) (said : SaidView) (o : Option ReplyView) → reading_of reply ≡ o
    → said_to tid handle o ≡ Some said → Says tid handle reply said
says_by tid handle reply said None e h = absurd (cc)
says_by tid handle reply said (Some r) e h =
    let p = if_parts (bytes_eq r.tid tid && bytes_eq r.handle handle) r.said said h in
    let names = bytes_same r.tid tid (both_left (bytes_eq r.tid tid) (bytes_eq r.handle handle) p.0) in
    let handles = bytes_same r.handle handle (both_right (bytes_eq r.tid tid) (bytes_eq r.handle handle) p.0) in
    let legal =
    both_right (is_name 0 MAX_HANDLE r.handle) (is_sayable r.said)
    (both_right (is_name 0 MAX_TID r.tid) (is_name 0 MAX_HANDLE r.handle && is_sayable r.said) (reply_legal reply r e)) in
    record {
      legal = ap is_sayable (sym p.1) ∙ legal;
      spelled =
          reply_spelled reply r e ∙ ap (λ t. reply_front t r.handle ++ said_text r.said) names
          ∙ ap (λ t. reply_front tid t ++ said_text r.said) handles ∙ ap (λ s. reply_front tid handle ++ said_text s) p.1;
    }

says : (tid handle reply : List ℕ) (said : SaidView) → said_to tid handle (reading_of reply) ≡ Some said
    → Says tid handle reply said
says tid handle reply said h = says_by tid handle reply said (reading_of reply) refl h

-- and whatever reply says so is read so
said_back : (tid handle reply : List ℕ) (said : SaidView) → is_name 0 MAX_TID tid ≡ true
    → is_name 0 MAX_HANDLE handle ≡ true → Says tid handle reply said
    → said_to tid handle (reading_of reply) ≡ Some said
said_back tid handle reply said t h s =
    ap (λ r. said_to tid handle (reading_of r)) s.spelled
    ∙ ap (said_to tid handle)
    (reply_read (record { tid = tid; handle = handle; said = said })
    (both (is_name 0 MAX_TID tid) (is_name 0 MAX_HANDLE handle && is_sayable said) t
    (both (is_name 0 MAX_HANDLE handle) (is_sayable said) h s.legal)))
    ∙ ap (λ v. if v then Some said else None)
    (both (bytes_eq tid tid) (bytes_eq handle handle) (same_bytes tid) (same_bytes handle))

-- ---- the length that OPEN is answered by

opened_said : (o : Option SaidView) (n : ℕ) → opened_of o ≡ Some n → o ≡ Some (Answered (Opened n))
opened_said None n h = cc
opened_said (Some (Answered (Opened m))) n h = cc
opened_said (Some _) n h = cc

opened_is : (came : Bool) (tid reply : List ℕ) (n : ℕ) → came ≡ true
    → opened_of (said_to tid file_handle (reading_of reply)) ≡ Some n
    → (n ≤ MAX_FILE) × (taken came reply ≡ Some (reply_of tid file_handle (Opened n)))
opened_is came tid reply n here h =
    let s = says tid file_handle reply (Answered (Opened n)) (opened_said (said_to tid file_handle (reading_of reply)) n h) in
    (leb-true n MAX_FILE s.legal, ap (λ b. taken b reply) here ∙ ap Some s.spelled)

-- the length that was found is that of the reply
pub if_opened : (came : Bool) (tid reply : List ℕ) (found : Option ℕ) → came ≡ true
    → found ≡ opened_of (said_to tid file_handle (reading_of reply))
    → IfSome found (λ n. (n ≤ MAX_FILE) × (taken came reply ≡ Some (reply_of tid file_handle (Opened n))))
if_opened came tid reply None here e = tt
if_opened came tid reply (Some n) here e = opened_is came tid reply n here (sym e)

-- and that of the reply is found
pub opened_back : (came : Bool) (tid n : ℕ) (reply : List ℕ) → tid < 100000000 → n ≤ MAX_FILE
    → taken came reply ≡ Some (reply_of (decimal tid) file_handle (Opened n))
    → opened_of (said_to (decimal tid) file_handle (reading_of reply)) ≡ Some n
opened_back came tid n reply l fits e =
    ap opened_of
    (said_back (decimal tid) file_handle reply (Answered (Opened n)) (reply_named tid l) refl
    (record { legal = le-leb n MAX_FILE fits; spelled = taken_is came reply _ e }))

-- ---- the bytes that READ is answered by

given_said : (o : Option SaidView) (bytes : List ℕ) → given_of o ≡ Some bytes → o ≡ Some (Answered (Given bytes))
given_said None bytes h = cc
given_said (Some (Answered (Given more))) bytes h = cc
given_said (Some _) bytes h = cc

pub given_is : (came : Bool) (tid reply bytes : List ℕ) → came ≡ true
    → given_of (said_to tid file_handle (reading_of reply)) ≡ Some bytes
    → taken came reply ≡ Some (reply_of tid file_handle (Given bytes))
given_is came tid reply bytes here h =
    let s =
    says tid file_handle reply (Answered (Given bytes)) (given_said (said_to tid file_handle (reading_of reply)) bytes h) in
    ap (λ b. taken b reply) here ∙ ap Some s.spelled

pub given_back : (came : Bool) (tid : ℕ) (reply bytes : List ℕ) → tid < 100000000 → length bytes ≤ MAX_CHUNK
    → taken came reply ≡ Some (reply_of (decimal tid) file_handle (Given bytes))
    → given_of (said_to (decimal tid) file_handle (reading_of reply)) ≡ Some bytes
given_back came tid reply bytes l fits e =
    ap given_of
    (said_back (decimal tid) file_handle reply (Answered (Given bytes)) (reply_named tid l) refl
    (record { legal = le-leb (length bytes) MAX_CHUNK fits; spelled = taken_is came reply _ e }))

-- ---- an error

refused_said : (tid handle reply : List ℕ) (o : Option SaidView) → said_to tid handle (reading_of reply) ≡ o
    → is_refused o ≡ true → IsErrorTo tid handle reply
refused_said tid handle reply None e h = absurd (cc)
refused_said tid handle reply (Some (Refused text)) e h = (text, (says tid handle reply (Refused text) e).spelled)
refused_said tid handle reply (Some _) e h = absurd (cc)

-- whether a reply is an error to the command of this name
pub error_decides : (tid : ℕ) (handle reply : List ℕ) (r : Bool) → tid < 100000000
    → is_name 0 MAX_HANDLE handle ≡ true → r ≡ is_refused (said_to (decimal tid) handle (reading_of reply))
    → Decides r (IsErrorTo (decimal tid) handle reply)
error_decides tid handle reply r l named is = (
  λ t. refused_said (decimal tid) handle reply (said_to (decimal tid) handle (reading_of reply)) refl (sym is ∙ t),
  λ h. is
      ∙ ap is_refused
      (said_back (decimal tid) handle reply (Refused h.0) (reply_named tid l) named
      (record { legal = refl; spelled = h.1 })),
)
