-- How a copy ended that wasn't done.
use Rattle.std.proofs.Common.{◌≡◌, ℕ, ◌+◌, ◌-◌, ◌*◌, ◌<◌, ◌≤◌, Bool, true, false, List, [], ◌∷◌, ◌++◌, length, Option, Some, None, refl, ap, ◌∙◌, sym, subst, arith, inl, inr}
use Rattle.std.specs.Prelude.{min, Decides, Result, Ok, Err, IfOk}
use Rattle.std.specs.Fmt.{decimal}
use Rattle.chaos_file.specs.declared.limits.TheConstants.{MAX_CHUNK, MAX_FILE}
use Rattle.chaos_file.specs.Answer.{AtEnd, Opened, Closed, read_answer}
use Rattle.file_copy.specs.declared.end.CopyEnd.{CopyEnd}
use Rattle.file_copy.specs.declared.end.CopyEnd.TheVariants as e
use Rattle.file_copy.specs.Copy.{upto, chunk, chunk_count, reply_of, get_front_replies}
use Rattle.file_copy.specs.Talk.{received_in, History, Since, Received, taken}
use Rattle.file_copy.specs.Row.{file_handle}
use Rattle.chaos_node.specs.declared.fault.NodeFault.{NodeFault}
use Rattle.file_copy.specs.Ends.{UnlessCopied, UnlessDone, EndedBy, EndedAt, IsOpened, IsGiven, IsPiece, ReadsEnded, GetEnded, tids_from, read_received}
use Rattle.file_copy.proofs.Talks.{since_then, none_some}
use Rattle.file_copy.proofs.Joined.{upto_same, next_tid}
use Rattle.file_copy.proofs.Growing.{given}

pub unless : (end : CopyEnd) (P : CopyEnd → Type 0) → P end → UnlessCopied end P
unless e.Done P h = tt
unless (e.Refused reply) P h = h
unless (e.Strange reply) P h = h
unless e.Unanswered P h = h
unless e.Unknown P h = h

pub unless_then : (end : CopyEnd) (P Q : CopyEnd → Type 0) → (P end → Q end) → UnlessCopied end P → UnlessCopied end Q
unless_then e.Done P Q f h = tt
unless_then (e.Refused reply) P Q f h = f h
unless_then (e.Strange reply) P Q f h = f h
unless_then e.Unanswered P Q f h = f h
unless_then e.Unknown P Q f h = f h

pub unless_done : (result : Result CopyEnd NodeFault) (P Q : CopyEnd → Type 0)
    → ((end : CopyEnd) → UnlessCopied end P → UnlessCopied end Q) → UnlessDone result P → UnlessDone result Q
unless_done (Ok end) P Q f h = f end h
unless_done (Err fault) P Q f h = tt

-- whoever got no reply of one kind got none of a narrower one
pub unwanted : (tid handle : List ℕ) (V W : List ℕ → Type 0) (last : Option (List ℕ)) (end : CopyEnd)
    → ((x : List ℕ) → last ≡ Some x → W x → V x) → EndedBy tid handle V last end
    → EndedBy tid handle W last end
unwanted tid handle V W last e.Done f h = h
unwanted tid handle V W last (e.Refused reply) f h = h
unwanted tid handle V W last (e.Strange reply) f h = (h.0, h.1, λ w. h.2 (f reply.items h.0 w))
unwanted tid handle V W last e.Unanswered f h = h
unwanted tid handle V W last e.Unknown f h = h

-- whoever got a reply that isn't the one that was wanted got none that is
pub refused_wanted : (tid handle wanted : List ℕ) (last : Option (List ℕ)) (end : CopyEnd) (is_wanted : Bool)
    → Decides is_wanted (last ≡ Some wanted) → is_wanted ≡ false → EndedBy tid handle (λ _. ⊥) last end
    → EndedBy tid handle (λ r. r ≡ wanted) last end
refused_wanted tid handle wanted last end is_wanted d other h =
    unwanted tid handle (λ _. ⊥) (λ r. r ≡ wanted) last end
    (λ x e w. let both : true ≡ false = sym (d.1 (e ∙ ap Some w)) ∙ other in cc) h

-- ---- what was received

pub received_ok : {F : Type 0} {T : Type 0} (a b : History T) (cs : List (List ℕ)) (reply : List ℕ) (result : Result Bool F)
    → IfOk result (λ came. Since a b cs ([] ++ received_in (taken came reply)))
    → IfOk result (λ came. Received a b (received_in (taken came reply)))
received_ok a b cs reply (Ok came) h = (cs, h)
received_ok a b cs reply (Err x) h = tt

pub received_then : {T : Type 0} (a b c : History T) (cs rs qs : List (List ℕ)) → Since a b cs rs → Received b c qs
    → Received a c (rs ++ qs)
received_then a b c cs rs qs h (ds, k) = (cs ++ ds, since_then a b c cs rs ds qs h k)

pub is_received : (came : Bool) (reply : List ℕ) → came ≡ true → taken came reply ≡ None → ⊥
is_received true reply e h = none_some reply (sym h)
is_received false reply e h = cc
