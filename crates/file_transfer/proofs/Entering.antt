-- A user who enters: what was sent and received, with the LOGIN in front or without it.
use Rattle.std.proofs.Common.{◌≡◌, ℕ, Bool, true, false, List, [], ◌∷◌, ◌++◌, ◌∙◌, refl, sym, subst, append-nil}
use Rattle.std.specs.Prelude.{Ok, Err, OnErr, Result, Some, None}
use Rattle.std.specs.Fmt.{decimal}
use Rattle.chaos_node.specs.declared.fault.NodeFault.{NodeFault}
use Rattle.file_copy.specs.declared.end.CopyEnd.{CopyEnd}
use Rattle.file_copy.specs.declared.end.CopyEnd.TheVariants as e
use Rattle.file_copy.specs.declared.talk.Talk as t
use Rattle.file_copy.specs.declared.login.Login.{Login}
use Rattle.file_copy.specs.declared.no_reply.NoReply.{NoReply}
use Rattle.file_copy.specs.declared.login.Login.TheVariants as login
use Rattle.file_copy.specs.declared.user.UserTalk.{UserTalk}
use Rattle.file_copy.specs.Ends.{EndedAt, EndedBy, IfDone, UnlessDone, login_command, login_reply}
use Rattle.file_copy.specs.Operation.{Operation, Put, Get, Delete, Rename, commands_of, replies_of}
use Rattle.file_copy.specs.Talk.{History, Since}
use Rattle.file_copy.specs.User.{EndsFor, user_talked}
use Rattle.file_copy.proofs.Users.{user_in, user_since_in, user_since_new}
use Rattle.file_transfer.specs.Sessions.{Does, Enters, EntersAnd}
use Rattle.file_transfer.specs.Settling.{ComesTo, change_end, is_done, is_replied}
use Rattle.file_transfer.specs.declared.outcome.Outcome.{Outcome}

-- success is reported by a reply at least
replies_some : (operation : Operation) → (r : List ℕ) × (rs : List (List ℕ)) × (replies_of operation ≡ r ∷ rs)
replies_some (Put tid handle path bytes) = (_, _, refl)
replies_some (Get tid handle path bytes) = (_, _, refl)
replies_some (Delete tid path) = (_, _, refl)
replies_some (Rename tid old new) = (_, _, refl)

module _ {T : Type 0} {ghosts : t.Ghosts T} (talked : T → History T) where
  -- ---- who got a reply is logged in

  did_in : (old new : UserTalk T ghosts) (operation : Operation) → Does (user_talked talked) operation old new → new.login ≡ login.Done
  did_in old new operation does =
      let some = replies_some operation in
      user_in talked old new (commands_of operation) some.1 some.0
      (subst (λ l. Since (user_talked talked old) (user_talked talked new) (commands_of operation) l) some.2 does)

  pub done_inside : (old new : UserTalk T ghosts) (operation : Operation) (end : Result CopyEnd NodeFault)
      → IfDone end (Does (user_talked talked) operation old new) → is_done end ≡ true → new.login ≡ login.Done
  done_inside old new operation (Ok e.Done) does is = did_in old new operation does
  done_inside old new operation (Ok (e.Refused reply)) does is = absurd (cc)
  done_inside old new operation (Ok (e.Strange reply)) does is = absurd (cc)
  done_inside old new operation (Ok e.Unanswered) does is = absurd (cc)
  done_inside old new operation (Ok e.Unknown) does is = absurd (cc)
  done_inside old new operation (Err fault) does is = absurd (cc)

  pub replied_inside : (old new : UserTalk T ghosts) (operation : Operation) (tid handle : List ℕ) (W : List ℕ → Type 0)
      (end : Result CopyEnd NodeFault) → IfDone end (Does (user_talked talked) operation old new)
      → UnlessDone end (EndedAt (user_talked talked old) (user_talked talked new) [] tid handle W)
      → is_replied end ≡ true → new.login ≡ login.Done
  replied_inside old new operation tid handle W (Ok e.Done) does ended is = did_in old new operation does
  replied_inside old new operation tid handle W (Ok (e.Refused reply)) does (Some r, (cs, h), by) is =
      user_in talked old new cs [] r h
  replied_inside old new operation tid handle W (Ok (e.Refused reply)) does (None, received, by) is =
      absurd (let none = by.0 in cc)
  replied_inside old new operation tid handle W (Ok (e.Strange reply)) does ended is = absurd (cc)
  replied_inside old new operation tid handle W (Ok e.Unanswered) does ended is = absurd (cc)
  replied_inside old new operation tid handle W (Ok e.Unknown) does ended is = absurd (cc)
  replied_inside old new operation tid handle W (Err fault) does ended is = absurd (cc)

  -- ---- who enters and does one operation

  pub entered_did : (connects : T → T → Type 0) (is_in : Bool) (user : List ℕ) (old begun new : UserTalk T ghosts)
      (operation : Operation) → (is_in ≡ true → old.login ≡ login.Done) → Enters connects is_in user old begun
      → Does (user_talked talked) operation begun new → EntersAnd talked connects is_in user old.talk operation new.talk
  entered_did connects true user old begun new operation inside same does =
      let some = replies_some operation in
      subst (λ l. Since (talked old.talk) (talked new.talk) (commands_of operation) l) (sym some.2)
      (user_since_in talked old new (commands_of operation) some.1 some.0 (inside refl)
      (subst (λ l. Since (user_talked talked old) (user_talked talked new) (commands_of operation) l) some.2
      (subst (λ u. Does (user_talked talked) operation u new) same does)))
  entered_did connects false user old begun new operation inside (connected, unsent, named) does =
      let some = replies_some operation in
      let since = user_since_new talked begun new (commands_of operation) some.1 some.0 unsent
      (subst (λ l. Since (user_talked talked begun) (user_talked talked new) (commands_of operation) l) some.2 does) in (
        begun.talk,
        connected,
        subst (λ n. Since (talked begun.talk) (talked new.talk) (login_command n ∷ (commands_of operation ++ []))
            (login_reply n ∷ (replies_of operation ++ []))) named
            (subst (λ l. Since (talked begun.talk) (talked new.talk) (login_command begun.name.now ∷ l)
            (login_reply begun.name.now ∷ (replies_of operation ++ []))) (sym (append-nil (commands_of operation)))
            (subst (λ l. Since (talked begun.talk) (talked new.talk) (login_command begun.name.now ∷ commands_of operation)
            (login_reply begun.name.now ∷ l)) (sym (append-nil (replies_of operation)))
            (subst (λ l. Since (talked begun.talk) (talked new.talk) (login_command begun.name.now ∷ commands_of operation)
            (login_reply begun.name.now ∷ l)) (sym some.2) since))),
      )

-- ---- who stays logged in

-- a copy that is done was replied to
pub done_replied : (end : Result CopyEnd NodeFault) → is_done end ≡ true → is_replied end ≡ true
done_replied (Ok e.Done) is = refl
done_replied (Ok (e.Refused reply)) is = absurd (cc)
done_replied (Ok (e.Strange reply)) is = absurd (cc)
done_replied (Ok e.Unanswered) is = absurd (cc)
done_replied (Ok e.Unknown) is = absurd (cc)
done_replied (Err fault) is = absurd (cc)

-- and so was a change, however a missing reply is taken
pub change_replied : (end : Result CopyEnd NodeFault) → is_replied end ≡ true → is_replied (change_end end) ≡ true
change_replied (Ok e.Done) is = refl
change_replied (Ok (e.Refused reply)) is = refl
change_replied (Ok (e.Strange reply)) is = absurd (cc)
change_replied (Ok e.Unanswered) is = absurd (cc)
change_replied (Ok e.Unknown) is = absurd (cc)
change_replied (Err fault) is = absurd (cc)

-- how a copy ended over a talk whose user had logged in
pub ended_inside : (is : Login) (end result : Result CopyEnd NodeFault) → is ≡ login.Done → EndsFor is end result → result ≡ end
ended_inside login.Unsent end result within h = absurd (cc)
ended_inside login.Sent end result within h = absurd (cc)
ended_inside login.Done end result within h = h
ended_inside (login.Missed reply) end result within h = absurd (cc)

-- an end that is Done was Done before the LOGIN's reply was asked for
pub ended_done : (is : Login) (end result : Result CopyEnd NodeFault) → EndsFor is end result → result ≡ Ok e.Done → end ≡ Ok e.Done
ended_done login.Unsent (Err fault) result h done = sym h ∙ done
ended_done login.Unsent (Ok e.Done) result h done = sym h ∙ done
ended_done login.Unsent (Ok (e.Refused reply)) result h done = sym h ∙ done
ended_done login.Unsent (Ok (e.Strange reply)) result h done = sym h ∙ done
ended_done login.Unsent (Ok e.Unanswered) result h done = sym h ∙ done
ended_done login.Unsent (Ok e.Unknown) result h done = absurd (let same : Ok e.Unanswered ≡ Ok e.Done = sym h ∙ done in cc)
ended_done login.Sent end result h done = sym h ∙ done
ended_done login.Done end result h done = sym h ∙ done
ended_done (login.Missed reply) (Err fault) result h done = sym h ∙ done
ended_done (login.Missed reply) (Ok end) result (by, is, ended) done =
    absurd (subst (EndedBy (decimal 0) [] (λ _. ⊥) (Some reply.items)) (let same : by ≡ e.Done = cc in same) ended)

not_failed : (why : NoReply) (end : Result CopyEnd NodeFault) (missed : Outcome) → ComesTo {U = Unit {0}} why end (Err missed) → is_done end ≡ true → ⊥
not_failed why (Ok e.Done) missed comes is = comes
not_failed why (Ok (e.Refused reply)) missed comes is = cc
not_failed why (Ok (e.Strange reply)) missed comes is = cc
not_failed why (Ok e.Unanswered) missed comes is = cc
not_failed why (Ok e.Unknown) missed comes is = cc
not_failed why (Err fault) missed comes is = cc

-- what was done and went wrong all the same was no copy of a user who is logged in
pub settled_out : (why : NoReply) (is_in : Bool) (is : Login) (end ended : Result CopyEnd NodeFault) (r : Result (Unit {0}) Outcome)
    → (is_in ≡ true → is ≡ login.Done) → EndsFor is end ended → ComesTo why ended r → OnErr r (is_done end ≡ true → is_in ≡ false)
settled_out why is_in is end ended (Ok x) inside ends comes = tt
settled_out why false is end ended (Err missed) inside ends comes = λ done. refl
settled_out why true is end ended (Err missed) inside ends comes = λ done.
    absurd (not_failed why end missed
    (subst (λ m. ComesTo {U = Unit {0}} why m (Err missed)) (ended_inside is end ended (inside refl) ends) comes) done)

out_where : (is_in is_done : Bool) → is_in ≡ is_done → (is_done ≡ true → is_in ≡ false) → is_in ≡ false
out_where is_in true same out = out refl
out_where is_in false same out = same

pub left : {A F : Type 0} (r : Result A F) (is_in was done : Bool) → is_in ≡ was → was ≡ done → OnErr r (done ≡ true → is_in ≡ false)
    → OnErr r (is_in ≡ false)
left (Ok x) is_in was done same stays out = tt
left (Err x) is_in was done same stays out = out_where is_in done (same ∙ stays) out
