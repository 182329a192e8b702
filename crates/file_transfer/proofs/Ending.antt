-- How a copy ends.
use Rattle.std.proofs.Common.{inl, inr, refl, sym, subst, ap, ◌∙◌}
use Rattle.std.specs.Prelude.{◌≡◌, ℕ, Bool, true, false, List, Ok, Err, Result, IfOk, IfErr, OnErr, OnOk, MatchResult}
use Rattle.chaos_node.specs.declared.fault.NodeFault.{NodeFault}
use Rattle.file_copy.specs.declared.end.CopyEnd.{CopyEnd}
use Rattle.file_copy.specs.declared.end.CopyEnd.TheVariants as e
use Rattle.file_copy.specs.Ends.{IfDone}
use Rattle.file_copy.specs.Talk.{History}
use Rattle.file_copy.specs.User.{user_talked}
use Rattle.file_copy.specs.declared.talk.Talk as t
use Rattle.file_copy.specs.declared.login.Login.TheVariants as login
use Rattle.file_copy.specs.declared.user.UserTalk.{UserTalk}
use Rattle.file_copy.specs.Operation.{Operation}
use Rattle.file_transfer.specs.Sessions.{Does, Enters, EntersAnd, Stays}
use Rattle.file_transfer.specs.Settling.{change_end, is_done, is_replied}
use Rattle.file_transfer.specs.declared.outcome.Outcome.{Outcome}
use Rattle.file_transfer.specs.declared.outcome.Outcome.TheVariants as o
use Rattle.file_transfer.specs.declared.outcome.Contents.{Contents}
use Rattle.file_transfer.specs.Outcome.{is_well, MatchCopied}
use Rattle.file_transfer.proofs.Entering.{entered_did}

-- what follows from what holds of a file that was copied
pub done_then : (end : Result CopyEnd NodeFault) (P Q : Type 0) → (P → Q) → IfDone end P → IfDone end Q
done_then (Ok e.Done) P Q f p = f p
done_then (Ok (e.Refused reply)) P Q f p = tt
done_then (Ok (e.Strange reply)) P Q f p = tt
done_then (Ok e.Unanswered) P Q f p = tt
done_then (Ok e.Unknown) P Q f p = tt
done_then (Err fault) P Q f p = tt

-- what wasn't done was no copy
not_copied : (outcome : Outcome) (P : Contents → Type 0) (Q : Type 0) → is_well outcome ≡ false → Q
    → MatchCopied outcome P Q
not_copied (o.Copied contents) P Q h q = absurd (cc)
not_copied o.Changed P Q h q = absurd (cc)
not_copied _ P Q h q = (h, q)

-- what came of a try that copied the file, or else missed it
pub of_tried : (tried : Result Contents Outcome) (outcome : Outcome) (P R : Contents → Type 0)
    (Q : Type 0)
    → MatchResult tried (λ contents. outcome ≡ o.Copied contents) (λ missed. outcome ≡ missed)
    → ((contents : Contents) → R contents → P contents) → IfOk tried R → IfErr tried (λ missed. is_well missed ≡ false)
    → Q
    → MatchCopied outcome P Q
of_tried (Ok contents) outcome P R Q is f r missed q = subst (λ w. MatchCopied w P Q) (sym is) (f contents r)
of_tried (Err m) outcome P R Q is f r missed q = subst (λ w. MatchCopied w P Q) (sym is) (not_copied m P Q missed q)

-- what was done of a command, where it was settled well
pub settled_then : {D F G : Type 0} (end : Result CopyEnd NodeFault) (r : Result G F) (a b : D) (P : D → Type 0)
    → OnOk r (end ≡ Ok e.Done) → OnOk r (b ≡ a) → IfDone end (P a) → OnOk r (P b)
settled_then end (Ok x) a b P done same h =
    subst P (sym same) (let k : IfDone (Ok e.Done) (P a) = subst (λ z. IfDone z (P a)) done h in k)
settled_then end (Err x) a b P done same h = tt

-- what was done over a talk that was entered
pub settled_behind : {T F G : Type 0} {ghosts : t.Ghosts T} (talked : T → History T) (connects : T → T → Type 0) (is_in : Bool)
    (user : List ℕ) (old begun : UserTalk T ghosts) (operation : Operation) (end : Result CopyEnd NodeFault) (r : Result G F)
    (a b : UserTalk T ghosts) → OnOk r (end ≡ Ok e.Done) → OnOk r (b ≡ a) → (is_in ≡ true → old.login ≡ login.Done)
    → Enters connects is_in user old begun → IfDone end (Does (user_talked talked) operation begun a)
    → OnOk r (EntersAnd talked connects is_in user old.talk operation b.talk)
settled_behind talked connects is_in user old begun operation end r a b done same inside was does =
    settled_then end r a b (λ u. EntersAnd talked connects is_in user old.talk operation u.talk) done same
    (done_then end (Does (user_talked talked) operation begun a) (EntersAnd talked connects is_in user old.talk operation a.talk)
    (λ d. entered_did talked connects is_in user old begun a operation inside was d) does)

-- a session stays open where its copy was done
pub settled_in : {F G : Type 0} (end : Result CopyEnd NodeFault) (r : Result G F) (is_in : Bool) → is_in ≡ is_done end
    → OnOk r (end ≡ Ok e.Done) → OnOk r (is_in ≡ true)
settled_in end (Ok x) is_in stays done = stays ∙ ap is_done done
settled_in end (Err x) is_in stays done = tt

-- a change that is done is done however its missing reply is taken
changed : (end : Result CopyEnd NodeFault) → change_end end ≡ Ok e.Done → end ≡ Ok e.Done
changed (Ok e.Done) h = refl
changed (Ok (e.Refused reply)) h = absurd (cc)
changed (Ok (e.Strange reply)) h = absurd (cc)
changed (Ok e.Unanswered) h = absurd (cc)
changed (Ok e.Unknown) h = absurd (cc)
changed (Err fault) h = absurd (cc)

-- what went well is a change that was made
made : {F G : Type 0} (end changes : Result CopyEnd NodeFault) (r : Result G F) → changes ≡ change_end end
    → OnOk r (changes ≡ Ok e.Done) → OnOk r (end ≡ Ok e.Done)
made end changes (Ok x) is done = changed end (sym is ∙ done)
made end changes (Err x) is done = tt

-- what a change did over a talk that was entered
pub changed_behind : {T F G : Type 0} {ghosts : t.Ghosts T} (talked : T → History T) (connects : T → T → Type 0) (is_in : Bool)
    (user : List ℕ) (old begun : UserTalk T ghosts) (operation : Operation) (end changes : Result CopyEnd NodeFault) (r : Result G F)
    (a b : UserTalk T ghosts) → changes ≡ change_end end → OnOk r (changes ≡ Ok e.Done) → OnOk r (b ≡ a)
    → (is_in ≡ true → old.login ≡ login.Done) → Enters connects is_in user old begun
    → IfDone end (Does (user_talked talked) operation begun a)
    → OnOk r (EntersAnd talked connects is_in user old.talk operation b.talk)
changed_behind talked connects is_in user old begun operation end changes r a b is done same inside was does =
    settled_behind talked connects is_in user old begun operation end r a b (made end changes r is done) same inside was does

-- and where its change was made
pub changed_in : {F G : Type 0} (end changes : Result CopyEnd NodeFault) (r : Result G F) (is_in : Bool) → changes ≡ change_end end
    → is_in ≡ is_replied end → OnOk r (changes ≡ Ok e.Done) → OnOk r (is_in ≡ true)
changed_in end changes (Ok x) is_in is stays done = stays ∙ ap is_replied (changed end (sym is ∙ done))
changed_in end changes (Err x) is_in is stays done = tt

-- who is logged in after a try did one operation
pub stays_done : {T A F : Type 0} (talked : T → History T) (connects : T → T → Type 0) (was_in : Bool) (user : List ℕ) (old : T)
    (is_in : Bool) (new : T) (operation : Operation) (r : Result A F)
    → OnOk r (EntersAnd talked connects was_in user old operation new) → OnErr r (is_in ≡ false)
    → Stays talked connects was_in user old is_in new
stays_done talked connects was_in user old is_in new operation (Ok x) did outside is = inr (operation, did)
stays_done talked connects was_in user old is_in new operation (Err e) did outside is = absurd (cc)

-- who did nothing stays as before
pub stays_same : {T : Type 0} (talked : T → History T) (connects : T → T → Type 0) (was_in : Bool) (user : List ℕ) (old : T)
    (is_in : Bool) (new : T) → is_in ≡ was_in → new ≡ old → Stays talked connects was_in user old is_in new
stays_same talked connects was_in user old is_in new same still is = inl (sym same ∙ is, still)

-- what holds of what went well, and of its having gone well
pub both_ok : {A F : Type 0} (r : Result A F) (P : A → Type 0) (Q : Type 0) → IfOk r P → OnOk r Q → IfOk r (λ x. P x × Q)
both_ok (Ok x) P Q p q = (p, q)
both_ok (Err e) P Q p q = tt
