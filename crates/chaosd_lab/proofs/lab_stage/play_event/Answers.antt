use Rattle.std.proofs.Common.{◌++◌, List, length, drop, ◌∙◌, ap}
use Rattle.chaos_packet.specs.Item.{ItemView}
use Rattle.chaos_packet.specs.Packet.{PacketView}
use Rattle.chaos_lab.specs.Laboratory.{LabView, Happening}
use Rattle.chaos_lab.specs.Told.{told, packet_at, items_at}
use Rattle.chaos_lab.specs.Inside.{happening_of}
use Rattle.chaosd_lab.specs.Answers.{answer_text, copies_text}
use Rattle.chaosd_io.proofs.Runs.{went_well}
use Rattle.chaosd_lab.proofs.Events.{event_plays, event_wants, told_refused}
use Rattle.chaosd_lab.proofs.lab_stage.play_event.Goals as goal

pub returns-clause-played : goal.returns-clause-played
returns-clause-played c =
    let mid = c.put_answer.new.out in
    let before : LabView = c.args.lab.now in
    let after : LabView = c.happen-answer.new.self in
    let n = length before.copies in
    let event : Happening = happening_of c.args.event.now in
    let packet : PacketView = packet_at before event in
    let items : List ItemView = items_at after event in
    event_plays before after c.args.out.now mid c.put_copies.new.out event (told packet items c.happen-answer.result) _
    c.happen-answer.ensures.happens
    (went_well _ _ _ c.written.ensures c.in_ok-written.was (c.put_answer.ensures packet)
    ∙ ap (λ (k : List ItemView). c.args.out.now ++ answer_text (told packet k c.happen-answer.result))
    c.read_in.ensures)
    (went_well _ _ _ c.written-2.ensures c.in_ok-written-2.was c.put_copies.ensures
    ∙ ap (λ k. mid ++ copies_text (length k) (drop (length k) c.copies.result.now)) c.copies-before.ensures
    ∙ ap (λ k. mid ++ copies_text n (drop n k)) c.copies.ensures)
    (c.is_refused.ensures ∙ told_refused packet items c.happen-answer.result)

pub returns-clause-no_memory : goal.returns-clause-no_memory
returns-clause-no_memory c =
    let mid = c.put_answer.new.out in
    let before : LabView = c.args.lab.now in
    let after : LabView = c.happen-answer.new.self in
    let n = length before.copies in
    let event : Happening = happening_of c.args.event.now in
    let packet : PacketView = packet_at before event in
    let items : List ItemView = items_at after event in
    event_wants before after c.args.out.now mid c.put_copies.new.out event (told packet items c.happen-answer.result) _
    c.happen-answer.ensures.happens
    (went_well _ _ _ c.written.ensures c.in_ok-written.was (c.put_answer.ensures packet)
    ∙ ap (λ (k : List ItemView). c.args.out.now ++ answer_text (told packet k c.happen-answer.result))
    c.read_in.ensures)
    (went_well _ _ _ c.written-2.ensures c.in_ok-written-2.was c.put_copies.ensures
    ∙ ap (λ k. mid ++ copies_text (length k) (drop (length k) c.copies.result.now)) c.copies-before.ensures
    ∙ ap (λ k. mid ++ copies_text n (drop n k)) c.copies.ensures)
    (c.is_refused.ensures ∙ told_refused packet items c.happen-answer.result)
