-- FILE over a losing network.
use Rattle.std.proofs.Common.{◌≡◌, ℕ, List, ◌++◌, drop, length, sym, ap, ◌∙◌, append_assoc}
use Rattle.std.specs.FinMap as map
use Rattle.chaos_packet.specs.Begins.{Begins}
use Rattle.chaos_file.specs.Session.{new_session}
use Rattle.chaos_file.specs.Store.{Files}
use Rattle.chaos_file.specs.Replies.{replies_of, replies_from, files_after, session_after}
use Rattle.file_lab.specs.View.{FileLabView, commands_of, replies_to_a, commands_at_b, replies_of_b}
use Rattle.file_lab.specs.Kept.{IsServed}
use Rattle.file_lab.specs.Law.{RepliesBegin}
use Rattle.file_lab.proofs.BodyLists.{begins_split, begins_whole, bodies_begin}

-- the replies to more commands go on where those before them ended
abbrev pub GoOn : Type 0
GoOn =
    (m : Files) (xs ys : List (List ℕ))
    → replies_of m (xs ++ ys)
    ≡ replies_of m xs ++ replies_from (files_after m new_session xs) (session_after m new_session xs) ys

pub replies_begin : (l : FileLabView) → GoOn → Begins l.lab.a.read l.lab.b.written → Begins l.lab.b.read l.lab.a.written
    → IsServed l → RepliesBegin l
replies_begin l go_on to_a to_b served isnt =
    let s = served isnt in
    let read = replies_to_a l in
    let wrote = replies_of_b l in
    let got = commands_at_b l in
    let asked = commands_of l in
    let more = drop (length read) wrote in
    let others = drop (length got) asked in
    let rest = replies_from (files_after map.empty new_session got) (session_after map.empty new_session got) others in
    let replies : wrote ≡ read ++ more = begins_split read wrote (bodies_begin l.lab.a.read l.lab.b.written to_a) in
    let commands : asked ≡ got ++ others = begins_split got asked (bodies_begin l.lab.b.read l.lab.a.written to_b) in
    begins_whole read (replies_of map.empty asked) (more ++ rest)
    (ap (replies_of map.empty) commands ∙ go_on map.empty got others ∙ ap (λ rs. rs ++ rest) (sym s.replies ∙ replies)
    ∙ append_assoc read more rest)
