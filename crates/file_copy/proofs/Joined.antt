-- The parts of a talk in which a file is copied, joined.
use Rattle.std.proofs.Common.{◌≡◌, ℕ, zero, suc, ◌+◌, ◌*◌, ◌<◌, List, [], ◌∷◌, ◌++◌, length, Option, refl, ap, ◌∙◌, subst, arith}
use Rattle.std.specs.Fmt.{decimal}
use Rattle.chaos_file.specs.Command.{CommandView, OpenRead, Read, Close}
use Rattle.chaos_file.specs.Spelling.{spelling_of}
use Rattle.chaos_file.specs.Answer.{Answer, Opened, Closed, read_answer}
use Rattle.file_copy.specs.declared.end.CopyEnd.{CopyEnd}
use Rattle.file_copy.specs.declared.end.CopyEnd.TheVariants as e
use Rattle.file_copy.specs.Copy.{upto, chunk, chunk_count, reply_of, get_commands, get_replies}
use Rattle.file_copy.specs.Talk.{History, Since}
use Rattle.file_copy.specs.Row.{file_handle}
use Rattle.std.specs.Prelude.{Result, Ok, Err}
use Rattle.chaos_node.specs.declared.fault.NodeFault.{NodeFault}
use Rattle.file_copy.specs.Ends.{IfCopied, IfDone, EndedBy, tids_from}
use Rattle.file_copy.proofs.Talks.{since_then}

pub not_copied : (tid handle : List ℕ) (Wanted : List ℕ → Type 0) (last : Option (List ℕ)) (end : CopyEnd) (P : Type 0)
    → EndedBy tid handle Wanted last end → IfCopied end P
not_copied tid handle Wanted last e.Done P h = absurd h
not_copied tid handle Wanted last (e.Refused reply) P h = tt
not_copied tid handle Wanted last (e.Strange reply) P h = tt
not_copied tid handle Wanted last e.Unanswered P h = tt
not_copied tid handle Wanted last e.Unknown P h = tt

pub copied_then : (end : CopyEnd) (P Q : Type 0) → (P → Q) → IfCopied end P → IfCopied end Q
copied_then e.Done P Q f h = f h
copied_then (e.Refused reply) P Q f h = tt
copied_then (e.Strange reply) P Q f h = tt
copied_then e.Unanswered P Q f h = tt
copied_then e.Unknown P Q f h = tt

pub done_then : (result : Result CopyEnd NodeFault) (P Q : Type 0) → (P → Q) → IfDone result P → IfDone result Q
done_then (Ok end) P Q f h = copied_then end P Q f h
done_then (Err fault) P Q f h = tt

pub from_copied : (end : CopyEnd) (P Q : Type 0) → IfCopied end P → (P → Q) → IfCopied end Q
from_copied end P Q h f = copied_then end P Q f h

pub when_copied : (end : CopyEnd) (P : Type 0) → end ≡ e.Done → IfCopied end P → P
when_copied e.Done P s h = h
when_copied (e.Refused reply) P s h = cc
when_copied (e.Strange reply) P s h = cc
when_copied e.Unanswered P s h = cc
when_copied e.Unknown P s h = cc

pub upto_same : {A : Type 0} (f g : ℕ → A) (k : ℕ) → ((i : ℕ) → i < k → f i ≡ g i) → upto f k ≡ upto g k
upto_same f g zero h = refl
upto_same f g (suc k) h =
    ap (λ l. l ++ f k ∷ []) (upto_same f g k (λ i l. h i (omega arith)))
    ∙ ap (λ x. upto g k ++ x ∷ []) (h k (omega arith))

pub next_tid : (first i : ℕ) → first + 1 + i ≡ first + (1 + i)
next_tid first i = omega arith

-- a talk by other words for the same commands and replies
pub since_same : {T : Type 0} (a b : History T) (xs ys rs qs : List (List ℕ)) → xs ≡ ys → rs ≡ qs → Since a b xs rs
    → Since a b ys qs
since_same a b xs ys rs qs e f h = subst (λ l. Since a b ys l) f (subst (λ l. Since a b l rs) e h)
