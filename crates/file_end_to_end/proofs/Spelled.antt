-- The commands and the replies of a run, letter by letter; and each command is answered by FILE's definition.
use Rattle.std.proofs.Common.{◌≡◌, ℕ, zero, suc, ◌<◌, true, List, [], ◌∷◌, ◌++◌, codes, decimal, Some, Ok, Err, refl, sym, ap, ◌∙◌, subst, inl, arith, lit<, lit≤}
use Rattle.std.specs.Prelude.{slice_index_or}
use Rattle.std.proofs.lemmas.Fmt.{decimal_digit}
use Rattle.std.specs.FinMap as map
use Rattle.std.specs.FinMap.{get-insert}
use Rattle.std.specs.Cmp.Lexicographic.{nat_list_cmp_total}
use Rattle.chaos_file.specs.Answer.{AtEnd, Closed, Given, LoggedIn, Opened, Wrote, reply_to}
use Rattle.chaos_file.specs.Command.{Close, Login, OpenRead, OpenWrite, ParsedView, Read, Write}
use Rattle.chaos_file.specs.Error.{error_text}
use Rattle.chaos_file.specs.Apply.{IsStep}
use Rattle.chaos_file.specs.Grammar.{parse_of}
use Rattle.chaos_file.specs.ServeAnswer.{IsAnswered}
use Rattle.chaos_file.specs.Session.{SessionView, new_session}
use Rattle.chaos_file.specs.Spelling.{spelling_of}
use Rattle.chaos_file.specs.Step.{outcome_of_look, step_of}
use Rattle.chaos_file.specs.Store.{Files, Found, Look, change, look_for, look_within}
use Rattle.chaos_file.specs.declared.error.FileError.{FileError}
use Rattle.chaos_file.specs.declared.error.FileError.TheVariants as e
use Rattle.chaos_file.specs.declared.limits.TheConstants.{MAX_FILE}
use Rattle.file_copy.specs.Copy.{reply_of}
use Rattle.file_copy.specs.Ends.{login_command, login_reply, tids_from}
use Rattle.file_copy.specs.Row.{file_handle}
use Rattle.file_copy.specs.Operation.{CanDo, commands_of, replies_of}
use Rattle.chaos_file.specs.Names.{is_name}
use Rattle.chaos_file.specs.declared.limits.TheConstants.{MAX_TID}
use Rattle.file_end_to_end.specs.FileGot.{bytes, get_copy, path, put_copy, user}
use Rattle.file_end_to_end.specs.TwoClients.{contents, count, may_give}
use Rattle.file_end_to_end.proofs.States.{bytes_text, close_text, closed_text, end_text, login_text, more_text, open_text, opened_text, read_session, read_text, stored, user_session, write_close_text, write_closed_text, write_open_text, write_opened_text, write_session, write_text, wrote_text}

-- ---- numbers of one digit

zero_is : decimal 0 ≡ 48 ∷ []
zero_is = decimal_digit 0 (lit< tt)

one_is : decimal 1 ≡ 49 ∷ []
one_is = decimal_digit 1 (lit< tt)

two_is : decimal 2 ≡ 50 ∷ []
two_is = decimal_digit 2 (lit< tt)

three_is : decimal 3 ≡ 51 ∷ []
three_is = decimal_digit 3 (lit< tt)

four_is : decimal 4 ≡ 52 ∷ []
four_is = decimal_digit 4 (lit< tt)

five_is : decimal 5 ≡ 53 ∷ []
five_is = decimal_digit 5 (lit< tt)

six_is : decimal 6 ≡ 54 ∷ []
six_is = decimal_digit 6 (lit< tt)

seven_is : decimal 7 ≡ 55 ∷ []
seven_is = decimal_digit 7 (lit< tt)

-- ---- commands and replies

pub login_is : login_command user ≡ login_text
login_is = ap (λ (ds : List ℕ). spelling_of ds [] (Login user)) zero_is

pub logged_is : login_reply user ≡ login_text
logged_is = ap (λ (ds : List ℕ). reply_of ds [] (LoggedIn user)) zero_is

pub write_open_is : spelling_of (tids_from 1 0) file_handle (OpenWrite path) ≡ write_open_text
write_open_is = ap (λ (ds : List ℕ). spelling_of ds file_handle (OpenWrite path)) one_is

pub write_is : spelling_of (tids_from 1 1) file_handle (Write bytes) ≡ write_text
write_is = ap (λ (ds : List ℕ). spelling_of ds file_handle (Write bytes)) two_is

pub write_close_is : spelling_of (tids_from 1 2) file_handle Close ≡ write_close_text
write_close_is = ap (λ (ds : List ℕ). spelling_of ds file_handle Close) three_is

pub write_opened_is : reply_of (tids_from 1 0) file_handle (Opened 0) ≡ write_opened_text
write_opened_is =
    ap (λ (ds : List ℕ). reply_of ds file_handle (Opened 0)) one_is
    ∙ ap (λ (ds : List ℕ). codes "1 F OPEN " ++ ds) zero_is

pub wrote_is : reply_of (tids_from 1 1) file_handle (Wrote 2) ≡ wrote_text
wrote_is =
    ap (λ (ds : List ℕ). reply_of ds file_handle (Wrote 2)) two_is
    ∙ ap (λ (ds : List ℕ). codes "2 F WRITE " ++ ds) two_is

pub write_closed_is : reply_of (tids_from 1 2) file_handle (Closed 2) ≡ write_closed_text
write_closed_is =
    ap (λ (ds : List ℕ). reply_of ds file_handle (Closed 2)) three_is
    ∙ ap (λ (ds : List ℕ). codes "3 F CLOSE " ++ ds) two_is

pub open_is : spelling_of (tids_from 4 0) file_handle (OpenRead path) ≡ open_text
open_is = ap (λ (ds : List ℕ). spelling_of ds file_handle (OpenRead path)) four_is

pub read_is : spelling_of (tids_from 4 1) file_handle Read ≡ read_text
read_is = ap (λ (ds : List ℕ). spelling_of ds file_handle Read) five_is

pub more_is : spelling_of (tids_from 4 2) file_handle Read ≡ more_text
more_is = ap (λ (ds : List ℕ). spelling_of ds file_handle Read) six_is

pub close_is : spelling_of (tids_from 4 3) file_handle Close ≡ close_text
close_is = ap (λ (ds : List ℕ). spelling_of ds file_handle Close) seven_is

pub opened_is : reply_of (tids_from 4 0) file_handle (Opened 2) ≡ opened_text
opened_is =
    ap (λ (ds : List ℕ). reply_of ds file_handle (Opened 2)) four_is
    ∙ ap (λ (ds : List ℕ). codes "4 F OPEN " ++ ds) two_is

pub bytes_is : reply_of (tids_from 4 1) file_handle (Given bytes) ≡ bytes_text
bytes_is = ap (λ (ds : List ℕ). reply_of ds file_handle (Given bytes)) five_is

pub end_is : reply_of (tids_from 4 2) file_handle AtEnd ≡ end_text
end_is = ap (λ (ds : List ℕ). reply_of ds file_handle AtEnd) six_is

pub closed_is : reply_of (tids_from 4 3) file_handle (Closed 2) ≡ closed_text
closed_is =
    ap (λ (ds : List ℕ). reply_of ds file_handle (Closed 2)) seven_is
    ∙ ap (λ (ds : List ℕ). codes "7 F CLOSE " ++ ds) two_is

-- all commands of each operation, and all replies
pub put_commands_are : write_open_text ∷ write_text ∷ write_close_text ∷ [] ≡ commands_of put_copy
put_commands_are = λ j. sym write_open_is j ∷ sym write_is j ∷ sym write_close_is j ∷ []

pub put_replies_are : write_opened_text ∷ wrote_text ∷ write_closed_text ∷ [] ≡ replies_of put_copy
put_replies_are = λ j. sym write_opened_is j ∷ sym wrote_is j ∷ sym write_closed_is j ∷ []

pub get_commands_are : open_text ∷ read_text ∷ more_text ∷ close_text ∷ [] ≡ commands_of get_copy
get_commands_are = λ j. sym open_is j ∷ sym read_is j ∷ sym more_is j ∷ sym close_is j ∷ []

pub get_replies_are : opened_text ∷ bytes_text ∷ end_text ∷ closed_text ∷ [] ≡ replies_of get_copy
get_replies_are = λ j. sym opened_is j ∷ sym bytes_is j ∷ sym end_is j ∷ sym closed_is j ∷ []

pub can_put : CanDo put_copy
can_put = record { names = names; handle_named = refl; path_legal = refl; fits = lit≤ tt }
  where
    names : (i : ℕ) → i < 3 → is_name 1 MAX_TID (tids_from 1 i) ≡ true
    names zero few = ap (is_name 1 MAX_TID) one_is
    names (suc zero) few = ap (is_name 1 MAX_TID) two_is
    names (suc (suc zero)) few = ap (is_name 1 MAX_TID) three_is
    names (suc (suc (suc i))) few = absurd (omega (arith, few))

pub can_get : CanDo get_copy
can_get = record { names = names; handle_named = refl; path_legal = refl; fits = lit≤ tt }
  where
    names : (i : ℕ) → i < 4 → is_name 1 MAX_TID (tids_from 4 i) ≡ true
    names zero few = ap (is_name 1 MAX_TID) four_is
    names (suc zero) few = ap (is_name 1 MAX_TID) five_is
    names (suc (suc zero)) few = ap (is_name 1 MAX_TID) six_is
    names (suc (suc (suc zero))) few = ap (is_name 1 MAX_TID) seven_is
    names (suc (suc (suc (suc i)))) few = absurd (omega (arith, few))

-- ---- no error's reply is one of these replies: its second letter is an R

error_goes_on : (error : FileError) → slice_index_or (error_text error) 1 0 ≡ 82
error_goes_on e.Syntax = refl
error_goes_on e.UnknownCommand = refl
error_goes_on e.NotLoggedIn = refl
error_goes_on e.IllegalPath = refl
error_goes_on e.HandleInUse = refl
error_goes_on e.NoSuchHandle = refl
error_goes_on e.WrongKind = refl
error_goes_on e.TooManyHandles = refl
error_goes_on e.FileTooBig = refl
error_goes_on e.NoSuchFile = refl
error_goes_on e.FileExists = refl
error_goes_on e.StoreFault = refl
error_goes_on e.NoMemory = refl

-- the letter at this place is another one
no_error : (reply : List ℕ) (p : ParsedView) (error : FileError) (place letter : ℕ)
    → slice_index_or reply place 0 ≡ letter
    → slice_index_or (reply_to p (Err error)) place 0 ≡ slice_index_or (error_text error) 1 0
    → (letter ≡ 82 → ⊥) → reply ≡ reply_to p (Err error) → ⊥
no_error reply p error place letter there second other is =
    other (sym there ∙ ap (λ (bs : List ℕ). slice_index_or bs place 0) is ∙ second ∙ error_goes_on error)

-- ---- each command is answered

-- by a store that stays as it is
abbrev Answers : Files → SessionView → SessionView → List ℕ → List ℕ → Type 0
Answers m s t command reply = IsAnswered (change contents may_give count m m) s t command reply

pub login_answered : (m : Files) → Answers m new_session user_session login_text login_text
login_answered m = record {
  applied = record {
    honest = inl (refl, refl, refl);
    any = (refl, refl, refl);
    kept = λ error is. absurd (no_error login_text (parse_of login_text) error 4 79 refl refl (λ same. omega (arith, same)) is);
    kept_files = λ error is. refl;
  };
  fits = lit≤ tt;
}

write_opened_so : write_opened_text ≡ reply_to (parse_of write_open_text) (Ok (Opened 0))
write_opened_so = ap (λ (ds : List ℕ). codes "1 F OPEN " ++ ds) (sym zero_is)

wrote_so : wrote_text ≡ reply_to (parse_of write_text) (Ok (Wrote 2))
wrote_so = ap (λ (ds : List ℕ). codes "2 F WRITE " ++ ds) (sym two_is)

write_closed_so : write_closed_text ≡ reply_to (parse_of write_close_text) (Ok (Closed 2))
write_closed_so = ap (λ (ds : List ℕ). codes "3 F CLOSE " ++ ds) (sym two_is)

opened_so : opened_text ≡ reply_to (parse_of open_text) (Ok (Opened 2))
opened_so = ap (λ (ds : List ℕ). codes "4 F OPEN " ++ ds) (sym two_is)

closed_so : closed_text ≡ reply_to (parse_of close_text) (Ok (Closed 2))
closed_so = ap (λ (ds : List ℕ). codes "7 F CLOSE " ++ ds) (sym two_is)

pub write_opened : (m : Files) → Answers m user_session (write_session []) write_open_text write_opened_text
write_opened m = record {
  applied = record {
    honest = inl (write_opened_so, refl, refl);
    any = (write_opened_so, refl, refl);
    kept = λ error is. absurd (no_error write_opened_text (parse_of write_open_text) error 5 80 refl refl (λ same. omega (arith, same)) is);
    kept_files = λ error is. refl;
  };
  fits = lit≤ tt;
}

-- the second letter of WRITE is an R too, but its first is no E
error_begins : (error : FileError) → slice_index_or (error_text error) 0 0 ≡ 69
error_begins e.Syntax = refl
error_begins e.UnknownCommand = refl
error_begins e.NotLoggedIn = refl
error_begins e.IllegalPath = refl
error_begins e.HandleInUse = refl
error_begins e.NoSuchHandle = refl
error_begins e.WrongKind = refl
error_begins e.TooManyHandles = refl
error_begins e.FileTooBig = refl
error_begins e.NoSuchFile = refl
error_begins e.FileExists = refl
error_begins e.StoreFault = refl
error_begins e.NoMemory = refl

wrote_no_error : (error : FileError) → wrote_text ≡ reply_to (parse_of write_text) (Err error) → ⊥
wrote_no_error error is =
    let one : 87 ≡ slice_index_or (error_text error) 0 0 = ap (λ (bs : List ℕ). slice_index_or bs 4 0) is in
    let two : 87 ≡ 69 = one ∙ error_begins error in omega (arith, two)

pub wrote : (m : Files)
    → Answers m (write_session []) (write_session (codes "HI")) write_text wrote_text
wrote m = record {
  applied = record {
    honest = inl (wrote_so, refl, refl);
    any = (inl (wrote_so, refl), refl);
    kept = λ error is. absurd (wrote_no_error error is);
    kept_files = λ error is. refl;
  };
  fits = lit≤ tt;
}

pub write_closed : (m : Files)
    → IsAnswered (change contents may_give count m (stored m)) (write_session (codes "HI")) user_session write_close_text write_closed_text
write_closed m = record {
  applied = record {
    honest = inl (write_closed_so, refl, refl);
    any = inl (write_closed_so, refl);
    kept = λ error is. absurd (no_error write_closed_text (parse_of write_close_text) error 5 76 refl refl (λ same. omega (arith, same)) is);
    kept_files = λ error is. absurd (no_error write_closed_text (parse_of write_close_text) error 5 76 refl refl (λ same. omega (arith, same)) is);
  };
  fits = lit≤ tt;
}

-- the file is there after its put
stored_is : (m : Files) → map.get (stored m) path ≡ Some bytes
stored_is m = get-insert nat_list_cmp_total m path bytes path

found : (m : Files) → look_for (stored m) path MAX_FILE ≡ Found bytes
found m = ap (look_within MAX_FILE) (stored_is m)

pub open_answered : (m : Files) → Answers (stored m) user_session (read_session 0) open_text opened_text
open_answered m = record {
  applied = record {
    honest = inl
        (subst
        (λ (l : Look). IsStep (change contents may_give count (stored m) (stored m)) (step_of (stored m) user_session (parse_of open_text) (outcome_of_look (stored m) user_session (codes "F") (codes "A") l)) opened_text (read_session 0))
        (sym (found m)) (opened_so, refl, refl));
    any = inl (bytes, (lit≤ tt, found m), opened_so, refl);
    kept = λ error wrong. absurd (no_error opened_text (parse_of open_text) error 5 80 refl refl (λ same. omega (arith, same)) wrong);
    kept_files = λ error wrong. refl;
  };
  fits = lit≤ tt;
}

pub read_answered : (m : Files) → Answers m (read_session 0) (read_session 2) read_text bytes_text
read_answered m = record {
  applied = record {
    honest = inl (refl, refl, refl);
    any = (refl, refl, refl);
    kept = λ error is. absurd (no_error bytes_text (parse_of read_text) error 5 69 refl refl (λ same. omega (arith, same)) is);
    kept_files = λ error is. refl;
  };
  fits = lit≤ tt;
}

pub more_answered : (m : Files) → Answers m (read_session 2) (read_session 2) more_text end_text
more_answered m = record {
  applied = record {
    honest = inl (refl, refl, refl);
    any = (refl, refl, refl);
    kept = λ error is. refl;
    kept_files = λ error is. refl;
  };
  fits = lit≤ tt;
}

pub close_answered : (m : Files) → Answers m (read_session 2) user_session close_text closed_text
close_answered m = record {
  applied = record {
    honest = inl (closed_so, refl, refl);
    any = (closed_so, refl, refl);
    kept = λ error is. absurd (no_error closed_text (parse_of close_text) error 5 76 refl refl (λ same. omega (arith, same)) is);
    kept_files = λ error is. refl;
  };
  fits = lit≤ tt;
}
