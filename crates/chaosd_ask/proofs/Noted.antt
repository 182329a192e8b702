-- What is noted of a reply.
use Rattle.std.proofs.Common.{◌≡◌, ℕ, ◌≤◌, ◌&&◌, List, length}
use Rattle.std.specs.Prelude.{Some, nat_le}
use Rattle.std.proofs.lemmas.Bool.{leb-true}
use Rattle.chaos_file.specs.declared.limits.TheConstants.{MAX_TID, MAX_HANDLE}
use Rattle.chaos_file.specs.Names.{is_name}
use Rattle.chaos_file.specs.Reply.{ReplyView, reading_of}
use Rattle.chaos_file.proofs.ReadReplies.{reply_legal}
use Rattle.chaos_file.proofs.Spelling.{both_left, both_right}

-- the handle of a reply that can be read is no longer than it may be
pub handle_short : (bytes : List ℕ) (r : ReplyView) → reading_of bytes ≡ Some r → length r.handle ≤ MAX_HANDLE
handle_short bytes r is =
    let named = both_left (is_name 0 MAX_HANDLE r.handle) _
    (both_right (is_name 0 MAX_TID r.tid) _ (reply_legal bytes r is)) in
    leb-true (length r.handle) MAX_HANDLE
    (both_right (nat_le 0 (length r.handle)) (nat_le (length r.handle) MAX_HANDLE)
    (both_left (nat_le 0 (length r.handle) && nat_le (length r.handle) MAX_HANDLE) _ named))
