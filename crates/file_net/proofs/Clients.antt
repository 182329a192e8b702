-- What a client's user said and heard, and the history.
use Rattle.std.proofs.Common.{◌≡◌, ℕ, ◌+◌, ◌≤◌, List, [], ◌∷◌, ◌++◌, drop, length, refl, sym, ap, ◌∙◌, subst, arith, append_assoc, length-append}
use Rattle.std.proofs.lemmas.List.{append-nil}
use Rattle.chaos_file.specs.Store.{Files}
use Rattle.chaos_net.specs.Net.{Name, Story}
use Rattle.chaos_packet.specs.Begins.{Begins}
use Rattle.file_copy.specs.Ends.{login_command, login_reply}
use Rattle.file_lab.specs.Bodies.{data_bodies}
use Rattle.file_net.specs.History.{Transaction, new_service, after_all, AreRight, commands_by, replies_to}
use Rattle.file_net.specs.FileNet.{FileNet, FileReached, IsServedBy}
use Rattle.file_lab.proofs.BodyLists.{begins_split}
use Rattle.file_net.proofs.Lists.{replies_append}
use Rattle.file_net.proofs.Kept.{file_net}
use Rattle.file_copy.specs.Operation.{Operation, commands_of, replies_of, all_commands, all_replies, CanDoAll}
use Rattle.file_net.specs.Operations.{IsClient, IsReady, Talks, AreDone, OperationAmongOthers, OperationsAmongOthers, LoginIsReady, AnsweredOnce}
use Rattle.file_net.proofs.Parts.{Parts, parts_of, replies_of_parts, begins_front, as_many, right_front, right_back, same_length}
use Rattle.file_net.proofs.Next.{session_on}
use Rattle.file_net.proofs.Among.{logged}
use Rattle.file_net.proofs.Done.{operation_alike, done_in, session_then}

-- ---- the client's commands in the history

-- the history up to what the client said earlier, and from there on
pub record IsSplit (m : Files) (f : FileNet) (c : Name) (earlier replies commands answers : List (List ℕ)) : Type 0 where
  pub parts : (rest : List (List ℕ)) × Parts c f.history earlier (commands ++ rest)
  pub before : replies_to c parts.1.front ≡ replies
  pub told : (rest : List (List ℕ)) × (replies_to c parts.1.back ≡ answers ++ rest)
  pub right : AreRight (new_service m) (parts.1.front ++ parts.1.back)

pub split : (m : Files) (f : FileNet) (a c : Name) (s : Story) (earlier replies commands answers : List (List ℕ))
    → FileReached m f → IsClient f a s c → Talks s earlier replies commands answers → length answers ≡ length commands
    → IsSplit m f c earlier replies commands answers
split m f a c s earlier replies commands answers r client t alike =
    let law = file_net m f r in
    let served : IsServedBy f s c = law.1 a s c client.there client.asked client.peer in
    let more = drop (length (data_bodies s.end.read)) (replies_to c f.history) in
    let heard : replies_to c f.history ≡ replies ++ (answers ++ (t.more_heard ++ more)) =
    begins_split (data_bodies s.end.read) (replies_to c f.history) served.replies
    ∙ ap (λ l. l ++ more) t.heard
    ∙ append_assoc replies (answers ++ t.more_heard) more
    ∙ ap (λ l. replies ++ l) (append_assoc answers t.more_heard more) in
    let size = as_many c f.history in
    let sum : length (replies_to c f.history)
    ≡ length replies + (length answers + length (t.more_heard ++ more)) =
    ap length heard ∙ length-append replies (answers ++ (t.more_heard ++ more))
    ∙ ap (λ l. length replies + l) (length-append answers (t.more_heard ++ more)) in
    let both = length-append earlier commands in
    let same = t.alike in
    let k =
    begins_front (commands_by c f.history) (earlier ++ commands) t.more_said
    (subst (λ l. Begins (commands_by c f.history) l)
    (t.said ∙ sym (append_assoc earlier commands t.more_said)) served.commands)
    (omega (arith, size, sum, both, same, alike)) in
    let said : commands_by c f.history ≡ earlier ++ (commands ++ k.0) = k.1 ∙ append_assoc earlier commands k.0 in
    let p = parts_of c f.history earlier (commands ++ k.0) said in
    let q = replies_of_parts c f.history earlier (commands ++ k.0) replies (answers ++ (t.more_heard ++ more)) p t.alike heard in
    record {
      parts = (k.0, p);
      before = q.0;
      told = (t.more_heard ++ more, q.1);
      right = subst (AreRight (new_service m)) p.is law.0.right;
    }

-- ---- the laws

-- the replies in a front of the history that has just these commands
front_replies : (c : Name) (history before later : List Transaction) (commands answers more : List (List ℕ))
    → history ≡ before ++ later → commands_by c before ≡ commands → length answers ≡ length commands
    → replies_to c history ≡ answers ++ more → replies_to c before ≡ answers
front_replies c history before later commands answers more is said alike told =
    (same_length (replies_to c before) answers (replies_to c later) more
    (as_many c before ∙ ap length said ∙ sym alike)
    (sym (ap (replies_to c) is ∙ replies_append c before later) ∙ told)).0

pub operation_among : OperationAmongOthers
operation_among m f a c s name earlier replies operation r client can t ready =
    let x = split m f a c s earlier replies (commands_of operation) (replies_of operation) r client t (operation_alike operation) in
    let p = x.parts.1 in
    let law = file_net m f r in
    let told : replies_to c f.history ≡ (replies ++ replies_of operation) ++ x.told.0 =
    ap (replies_to c) p.is ∙ replies_append c p.front p.back ∙ (λ j. x.before j ++ x.told.1 j)
    ∙ sym (append_assoc replies (replies_of operation) x.told.0) in
    let both = length-append replies (replies_of operation) in
    let two = length-append earlier (commands_of operation) in
    let same = t.alike in
    let alike = operation_alike operation in (
      done_in m f.history c name earlier x.parts.0 x.told.0 operation p.front p.back p.is p.own x.right
          (ready p.front p.back p.is p.own) can p.rest x.told.1,
      λ before later is said.
          let own : replies_to c before ≡ replies ++ replies_of operation =
          front_replies c f.history before later (earlier ++ commands_of operation) (replies ++ replies_of operation) x.told.0 is said
          (omega (arith, both, two, same, alike)) told in
          let q = parts_of c before earlier (commands_of operation) said in
          let z = replies_of_parts c before earlier (commands_of operation) replies (replies_of operation) q same own in
          let right : AreRight (new_service m) (q.front ++ q.back) =
          subst (AreRight (new_service m)) q.is
          (right_front (new_service m) before later (subst (AreRight (new_service m)) is law.0.right)) in
          session_on c (new_service m) before q.front q.back q.is
          ∙ session_then c (after_all (new_service m) q.front) q.back name [] operation (right_back (new_service m) q.front q.back right)
          (ready q.front (q.back ++ later) (is ∙ ap (λ l. l ++ later) q.is ∙ append_assoc q.front q.back later) q.own) can
          (q.rest ∙ sym (append-nil (commands_of operation))) (z.1 ∙ sym (append-nil (replies_of operation))),
    )

-- the first replies of a history are those of its first part
pub login_among : LoginIsReady
login_among m f a c s name r client named t before later is said =
    let x = split m f a c s [] [] (login_command name ∷ []) (login_reply name ∷ []) r client t refl in
    let law = file_net m f r in
    let p = x.parts.1 in
    -- all replies to the client begin with that to LOGIN
    let told : replies_to c f.history ≡ login_reply name ∷ x.told.0 =
    ap (replies_to c) p.is ∙ replies_append c p.front p.back ∙ (λ j. x.before j ++ x.told.1 j) in
    let own : replies_to c before ≡ login_reply name ∷ [] =
    front_replies c f.history before later (login_command name ∷ []) (login_reply name ∷ []) x.told.0 is said refl told in
    logged c (new_service m) before name
    (right_front (new_service m) before later (subst (AreRight (new_service m)) is law.0.right)) refl named said own

-- ---- one operation after another

module _ (m : Files) (f : FileNet) (a c : Name) (s : Story) (name : List ℕ) (r : FileReached m f)
    (client : IsClient f a s c) where
  all_done : (operations : List Operation) (earlier replies : List (List ℕ)) → CanDoAll operations
      → Talks s earlier replies (all_commands operations) (all_replies operations) → IsReady m f c earlier name
      → AreDone m f.history c earlier operations × IsReady m f c (earlier ++ all_commands operations) name
  all_done [] earlier replies can t ready = (tt, subst (λ l. IsReady m f c l name) (sym (append-nil earlier)) ready)
  all_done (operation ∷ operations) earlier replies can t ready =
      let first : Talks s earlier replies (commands_of operation) (replies_of operation) = record {
        more_said = all_commands operations ++ t.more_said;
        more_heard = all_replies operations ++ t.more_heard;
        said = t.said ∙ ap (λ l. earlier ++ l) (append_assoc (commands_of operation) (all_commands operations) t.more_said);
        heard = t.heard ∙ ap (λ l. replies ++ l) (append_assoc (replies_of operation) (all_replies operations) t.more_heard);
        alike = t.alike;
      } in
      let one = operation_among m f a c s name earlier replies operation r client can.0 first ready in
      let both = length-append replies (replies_of operation) in
      let two = length-append earlier (commands_of operation) in
      let same = t.alike in
      let alike = operation_alike operation in
      let rest : Talks s (earlier ++ commands_of operation) (replies ++ replies_of operation) (all_commands operations) (all_replies operations) = record {
        more_said = t.more_said;
        more_heard = t.more_heard;
        said = first.said ∙ sym (append_assoc earlier (commands_of operation) (all_commands operations ++ t.more_said));
        heard = first.heard ∙ sym (append_assoc replies (replies_of operation) (all_replies operations ++ t.more_heard));
        alike = omega (arith, both, two, same, alike);
      } in
      let next = all_done operations (earlier ++ commands_of operation) (replies ++ replies_of operation) can.1 rest one.1 in (
        (one.0, next.0),
        subst (λ l. IsReady m f c l name) (append_assoc earlier (commands_of operation) (all_commands operations)) next.1,
      )

pub operations_among : OperationsAmongOthers
operations_among m f a c s name operations r client named can t =
    let first : Talks s [] [] (login_command name ∷ []) (login_reply name ∷ []) = record {
      more_said = all_commands operations ++ t.more_said;
      more_heard = all_replies operations ++ t.more_heard;
      said = t.said;
      heard = t.heard;
      alike = refl;
    } in
    let rest : Talks s (login_command name ∷ []) (login_reply name ∷ []) (all_commands operations) (all_replies operations) = record {
      more_said = t.more_said;
      more_heard = t.more_heard;
      said = t.said;
      heard = t.heard;
      alike = refl;
    } in
    all_done m f a c s name r client operations (login_command name ∷ []) (login_reply name ∷ []) can rest
    (login_among m f a c s name r client named first)

-- ---- nothing is served twice or left out

prefix_length : {X : Type 0} (xs ys : List X) → Begins xs ys → length xs ≤ length ys
prefix_length xs ys begins =
    let size = ap length (begins_split xs ys begins) ∙ length-append xs (drop (length xs) ys) in
    omega (arith, size)

-- a prefix that isn't shorter is all
whole_prefix : {X : Type 0} (xs ys : List X) → Begins xs ys → length ys ≤ length xs → xs ≡ ys
whole_prefix xs ys begins long =
    let split = begins_split xs ys begins in
    let size = ap length split ∙ length-append xs (drop (length xs) ys) in
    (same_length xs ys (drop (length xs) ys) [] (omega (arith, size, long)) (sym split ∙ sym (append-nil ys))).0

-- there are no more replies read than sent, no more sent than commands served, and no more served than written
pub answered_once : AnsweredOnce
answered_once m f a c s r client alike =
    let served : IsServedBy f s c = (file_net m f r).1 a s c client.there client.asked client.peer in
    let read = prefix_length (data_bodies s.end.read) (replies_to c f.history) served.replies in
    let written = prefix_length (commands_by c f.history) (data_bodies s.end.written) served.commands in
    let size = as_many c f.history in (
      whole_prefix (commands_by c f.history) (data_bodies s.end.written) served.commands (omega (arith, read, size, alike)),
      sym (whole_prefix (data_bodies s.end.read) (replies_to c f.history) served.replies (omega (arith, written, size, alike))),
    )
