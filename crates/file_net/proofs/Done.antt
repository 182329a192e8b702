-- Each operation in a history, by its kind.
use Rattle.std.proofs.Common.{◌≡◌, ℕ, suc, ◌+◌, List, [], ◌∷◌, ◌++◌, length, refl, sym, ap, ◌∙◌, length-append}
use Rattle.std.specs.FinMap as map
use Rattle.std.proofs.lemmas.List.{append-nil}
use Rattle.chaos_file.specs.Answer.{Closed, read_answer}
use Rattle.chaos_file.specs.Command.{Read, Write, Close}
use Rattle.chaos_file.specs.Spelling.{spelling_of}
use Rattle.chaos_file.specs.Store.{Files, is_there, with_moved}
use Rattle.chaos_net.specs.Net.{Name}
use Rattle.file_copy.specs.Copy.{Tids, upto, chunk, chunk_count, reply_of, logged_in, put_reply, put_front, put_commands, put_replies, get_commands, get_replies}
use Rattle.file_copy.specs.Ends.{delete_command, rename_command}
use Rattle.file_copy.specs.Operation.{Operation, Put, Get, Delete, Rename, commands_of, replies_of, CanDo}
use Rattle.file_net.specs.History.{Transaction, Service, new_service, after_one, after_all, AreRight, commands_by, replies_to}
use Rattle.file_net.specs.Operations.{IsDone}
use Rattle.file_net.proofs.Parts.{after_append, right_back}
use Rattle.file_net.proofs.Next.{moment_on}
use Rattle.file_net.proofs.Among.{got_in, put_in, length_upto}
use Rattle.file_net.proofs.Changes.{deleted_in, renamed_in}

-- ---- as many replies as commands

-- a list, and one more
length_more : (f : ℕ → List ℕ) (k : ℕ) (x : List ℕ) → length (upto f k ++ x ∷ []) ≡ k + 1
length_more f k x = length-append (upto f k) (x ∷ []) ∙ ap (λ n. n + 1) (length_upto f k)

get_alike : (tid : Tids) (handle path bytes : List ℕ)
    → length (get_replies tid handle bytes) ≡ length (get_commands tid handle path (length bytes))
get_alike tid handle path bytes =
    let n = 1 + chunk_count (length bytes) in
    let one = length_more (λ i. reply_of (tid (1 + i)) handle (read_answer (chunk bytes i))) n
    (reply_of (tid (2 + chunk_count (length bytes))) handle (Closed (length bytes))) in
    let two = length_more (λ i. spelling_of (tid (1 + i)) handle Read) n
    (spelling_of (tid (2 + chunk_count (length bytes))) handle Close) in
    ap suc (one ∙ sym two)

put_alike : (tid : Tids) (handle path bytes : List ℕ)
    → length (put_replies tid handle bytes) ≡ length (put_commands tid handle path bytes)
put_alike tid handle path bytes =
    let n = chunk_count (length bytes) in
    let one = length_more (put_reply tid handle bytes) n (reply_of (tid (1 + n)) handle (Closed (length bytes))) in
    let two = length_more (λ i. spelling_of (tid (1 + i)) handle (Write (chunk bytes i))) n
    (spelling_of (tid (1 + n)) handle Close) in
    ap suc (one ∙ sym two)

pub operation_alike : (operation : Operation) → length (replies_of operation) ≡ length (commands_of operation)
operation_alike (Put tid handle path bytes) = put_alike tid handle path bytes
operation_alike (Get tid handle path bytes) = get_alike tid handle path bytes
operation_alike (Delete tid path) = refl
operation_alike (Rename tid old new) = refl

-- ---- an operation in the back of a history

pub done_in : (m : Files) (history : List Transaction) (c : Name) (name : List ℕ) (earlier more heard : List (List ℕ))
    (operation : Operation) (front back : List Transaction) → history ≡ front ++ back → commands_by c front ≡ earlier
    → AreRight (new_service m) (front ++ back) → (after_all (new_service m) front).session c ≡ logged_in name
    → CanDo operation → commands_by c back ≡ commands_of operation ++ more → replies_to c back ≡ replies_of operation ++ heard
    → IsDone m history c earlier operation
done_in m history c name earlier more heard (Get tid handle path bytes) front back is own right ready can said told =
    let g = got_in c (after_all (new_service m) front) back tid name handle path bytes more heard
    (right_back (new_service m) front back right) ready can said told in
    record {
      at = moment_on c history front back earlier [] earlier _ is own (append-nil earlier) g.at;
      file = ap (λ z. map.get z.files path) (after_append (new_service m) front g.at.before) ∙ g.file;
    }
done_in m history c name earlier more heard (Put tid handle path bytes) front back is own right ready can said told =
    let g = put_in c (after_all (new_service m) front) back tid name handle path bytes more heard
    (right_back (new_service m) front back right) ready can said told in
    let joined = after_append (new_service m) front g.at.before in
    record {
      at = moment_on c history front back earlier (put_front tid handle path bytes (chunk_count (length bytes))) _ _ is own refl g.at;
      file =
          ap (λ z. (after_one z g.at.transaction).files) joined ∙ g.file
          ∙ ap (λ z. map.insert z.files path bytes) (sym joined);
      front = front;
      since = g.at.before;
      parts = refl;
      earlier_are = own;
      alone = g.alone;
    }
done_in m history c name earlier more heard (Delete tid path) front back is own right ready can said told =
    let g = deleted_in c (after_all (new_service m) front) back name tid path more heard
    (right_back (new_service m) front back right) ready can.0 can.1 said told in
    let joined = after_append (new_service m) front g.at.before in
    record {
      at = moment_on c history front back earlier [] earlier (delete_command tid path) is own (append-nil earlier) g.at;
      there = ap (λ z. is_there z.files path) joined ∙ g.there;
      file =
          ap (λ z. (after_one z g.at.transaction).files) joined ∙ g.file
          ∙ ap (λ z. map.remove z.files path) (sym joined);
    }
done_in m history c name earlier more heard (Rename tid old new) front back is own right ready can said told =
    let g = renamed_in c (after_all (new_service m) front) back name tid old new more heard
    (right_back (new_service m) front back right) ready can.0 can.1 can.2 said told in
    let joined = after_append (new_service m) front g.at.before in
    record {
      at = moment_on c history front back earlier [] earlier (rename_command tid old new) is own (append-nil earlier) g.at;
      there = ap (λ z. is_there z.files old) joined ∙ g.there;
      free = ap (λ z. is_there z.files new) joined ∙ g.free;
      file =
          ap (λ z. (after_one z g.at.transaction).files) joined ∙ g.file
          ∙ ap (λ z. with_moved z.files old new) (sym joined);
    }

-- the session after an operation
pub session_then : (c : Name) (v : Service) (h : List Transaction) (name : List ℕ) (heard : List (List ℕ))
    (operation : Operation) → AreRight v h → v.session c ≡ logged_in name → CanDo operation
    → commands_by c h ≡ commands_of operation ++ [] → replies_to c h ≡ replies_of operation ++ heard
    → (after_all v h).session c ≡ logged_in name
session_then c v h name heard (Get tid handle path bytes) right ready can said told =
    (got_in c v h tid name handle path bytes [] heard right ready can said told).session refl
session_then c v h name heard (Put tid handle path bytes) right ready can said told =
    (put_in c v h tid name handle path bytes [] heard right ready can said told).session refl
session_then c v h name heard (Delete tid path) right ready can said told =
    (deleted_in c v h name tid path [] heard right ready can.0 can.1 said told).session refl
session_then c v h name heard (Rename tid old new) right ready can said told =
    (renamed_in c v h name tid old new [] heard right ready can.0 can.1 can.2 said told).session refl
