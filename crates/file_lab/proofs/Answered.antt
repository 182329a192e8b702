-- B's server has answered one command more, by the definition of the language.
use Rattle.std.proofs.Common.{◌≡◌, ℕ, List, [], ◌∷◌, ◌++◌, refl, sym, ap, ◌∙◌}
use Rattle.std.specs.FinMap as map
use Rattle.chaos_packet.specs.Item.{ItemView}
use Rattle.chaos_packet.specs.Opcode.{op_data, kind_of}
use Rattle.chaos_packet.specs.declared.opcode.Kind.TheVariants as kind
use Rattle.chaos_file.specs.Session.{SessionView, new_session}
use Rattle.chaos_file.specs.Store.{Files}
use Rattle.chaos_file.specs.Step.{Stepped, file_step}
use Rattle.chaos_file.specs.Replies.{replies_of, files_after, session_after}
use Rattle.file_lab.specs.Bodies.{data_bodies}
use Rattle.file_lab.specs.View.{FileLabView, commands_at_b, replies_of_b}
use Rattle.file_lab.specs.Kept.{AreAnswered}
use Rattle.file_lab.proofs.RepliesLaw.{GoOn}
use Rattle.file_lab.proofs.KeptSteps.{session_more, files_more, eof_no_body, one_body}

-- what B read and wrote stays, but for items that are no commands
pub answered_same : (l m : FileLabView) → commands_at_b m ≡ commands_at_b l → replies_of_b m ≡ replies_of_b l
    → m.session ≡ l.session → m.files ≡ l.files → AreAnswered l → AreAnswered m
answered_same l m read wrote session files s =
    record {
      replies = wrote ∙ s.replies ∙ ap (replies_of map.empty) (sym read);
      session = session ∙ s.session ∙ ap (session_after map.empty new_session) (sym read);
      files = files ∙ s.files ∙ ap (files_after map.empty new_session) (sym read);
    }

pub answered_eof : (l m : FileLabView) (item : ItemView) → kind_of item.op ≡ kind.Eof
    → m.lab.b.read ≡ l.lab.b.read ++ item ∷ [] → m.lab.b.written ≡ l.lab.b.written → m.session ≡ l.session
    → m.files ≡ l.files → AreAnswered l → AreAnswered m
answered_eof l m item is read wrote session files s =
    answered_same l m (ap data_bodies read ∙ eof_no_body l.lab.b.read item is) (ap data_bodies wrote) session files s

pub answered_more : GoOn → (l m : FileLabView) (item : ItemView) → kind_of item.op ≡ kind.Data
    → m.lab.b.read ≡ l.lab.b.read ++ item ∷ []
    → m.lab.b.written
    ≡ l.lab.b.written ++ (record { op = op_data; body = (file_step l.files l.session item.body).reply }) ∷ []
    → m.session ≡ (file_step l.files l.session item.body).session
    → m.files ≡ (file_step l.files l.session item.body).files → AreAnswered l → AreAnswered m
answered_more go_on l m item is got put session files s =
    let c : List ℕ = item.body in
    let cs = commands_at_b l in
    let at : Files = files_after map.empty new_session cs in
    let in_session : SessionView = session_after map.empty new_session cs in
    let same : file_step l.files l.session c ≡ file_step at in_session c =
    (λ j. file_step (s.files j) (s.session j) c) in
    let reply : List ℕ = (file_step l.files l.session c).reply in
    let read : commands_at_b m ≡ cs ++ c ∷ [] = ap data_bodies got ∙ one_body l.lab.b.read item is in
    let wrote : replies_of_b m ≡ replies_of_b l ++ reply ∷ [] =
    ap data_bodies put ∙ one_body l.lab.b.written (record { op = op_data; body = reply }) refl in
    record {
      replies =
          wrote ∙ (λ j. s.replies j ++ ap (λ (d : Stepped). d.reply) same j ∷ []) ∙ sym (go_on map.empty cs (c ∷ []))
          ∙ ap (replies_of map.empty) (sym read);
      session =
          session ∙ ap (λ (d : Stepped). d.session) same ∙ sym (session_more map.empty new_session cs c)
          ∙ ap (session_after map.empty new_session) (sym read);
      files =
          files ∙ ap (λ (d : Stepped). d.files) same ∙ sym (files_more map.empty new_session cs c)
          ∙ ap (files_after map.empty new_session) (sym read);
    }
