-- What is handed up for what came.
use Rattle.std.proofs.Common.{◌≡◌, ℕ, List, [], ◌∷◌, length, take, drop, refl, ap, sym, Ok, ◌∙◌, Option, Some, None, IfSome}
use Rattle.std.proofs.lemmas.List.{take_at}
use Rattle.chaos_packet.specs.Words.{packet_at}
use Rattle.chaos_link.specs.Datagram.{datagram_read, read_by, words_of}
use Rattle.chaos_link.proofs.Carried as plain
use Rattle.chaos_link.proofs.Carried.{all_below}
use Rattle.chaos_link.specs.Link.{Addressed, QueueView, HandsOut, ReceivesFrom}
use Rattle.chaos_link.specs.declared.link.Received.{Received}
use Rattle.chaos_link.specs.declared.link.Received.TheVariants as receiving
use Rattle.chaos_chudp.specs.Link.{HandsUp, HandsUpOldest, HandedUp, HearsFrom, IsHandedUpAsSent, handed_by}
use Rattle.chaos_chudp.specs.Chudp.{chudp_form}
use Rattle.chaos_chudp.proofs.Carried.{form_carries, form_plain, no_fault}

oldest_handed : (ds : List Addressed) (old came new : List ℕ) (received result : Received)
    → HandsOut ds old came received → HandedUp came received new result → HandsUpOldest ds new result
oldest_handed [] old came new received result out handed =
    let nothing : received ≡ receiving.Nothing = out.0 in
    rw nothing at handed
oldest_handed (oldest ∷ others) old came new received result out handed =
    let got : received ≡ receiving.Got (length oldest.bytes) = out.0 in
    let up : HandsUp (take (length oldest.bytes) came) new result = rw got at handed in
    let bytes : take (length oldest.bytes) came ≡ oldest.bytes =
    ap (take (length oldest.bytes)) out.1 ∙ take_at oldest.bytes (drop (length oldest.bytes) old) (length oldest.bytes) refl in
    rw bytes at up

pub heard : (before after : Option QueueView) (old came new : List ℕ) (received result : Received)
    → IfSome before (ReceivesFrom old came received after) → HandedUp came received new result
    → IfSome before (HearsFrom new result after)
heard None after old came new received result queued handed = tt
heard (Some queue) after old came new received result queued handed =
    (oldest_handed queue.datagrams old came new received result queued.0 handed, queued.1)

-- What was sent is handed up.
pub same_datagram : IsHandedUpAsSent
same_datagram hop me bs h m small sound =
    let bytes = all_below bs small in
    let read : Ok (packet_at (words_of (drop 4 bs))) ≡ datagram_read bs = sym (ap (read_by bs) sound) in
    let carried = plain.carried_read (Ok (packet_at (words_of (drop 4 bs)))) bs bytes read in
    ap (handed_by (chudp_form hop me bs)) (no_fault (form_carries _ hop me bs h m bytes carried))
    ∙ form_plain _ hop me bs h m bytes carried
