use Rattle.std.proofs.Common.{◌∙◌, ap, sym, not, true, false, Ok, Err, Some}
use Rattle.std.proofs.lemmas.Bool.{false≢true}
use Rattle.chaos_link.specs.declared.link.Received.TheVariants as receiving
use Rattle.chaos_link.proofs.Asked.{then_receive}
use Rattle.chaos_link.proofs.Hears.{hears_v4, hears_v6, drops_v4, drops_v6, hears_error, viewed}
use Rattle.chaos_link.proofs.udp.UdpLink.listen.Goals as goal
use Rattle.chaos_link.proofs.udp.UdpLink.listen.Goals.{then-not-self, else-not-self}

pub returns-else-is_gone-clause-nothing : goal.returns-else-is_gone-clause-nothing
returns-else-is_gone-clause-nothing g c =
    then_receive g.S.DatagramSocket.asked c.args.self.now _ c.set_wait.new.socket _ c.self.view_is
    c.set_wait.ensures.nothing c.receive_datagram.ensures.asked

pub returns-in-Ok-default-V4-clause-nothing : goal.returns-in-Ok-default-V4-clause-nothing
returns-in-Ok-default-V4-clause-nothing g c =
    then_receive g.S.DatagramSocket.asked c.args.self.now _ c.set_wait.new.socket _ c.self.view_is
    c.set_wait.ensures.nothing c.receive_datagram.ensures.asked

pub returns-in-Ok-default-V6-clause-nothing : goal.returns-in-Ok-default-V6-clause-nothing
returns-in-Ok-default-V6-clause-nothing g c =
    then_receive g.S.DatagramSocket.asked c.args.self.now _ c.set_wait.new.socket _ c.self.view_is
    c.set_wait.ensures.nothing c.receive_datagram.ensures.asked

pub returns-in-Ok-clause-nothing : goal.returns-in-Ok-clause-nothing
returns-in-Ok-clause-nothing g c =
    then_receive g.S.DatagramSocket.asked c.args.self.now _ c.set_wait.new.socket _ c.self.view_is
    c.set_wait.ensures.nothing c.receive_datagram.ensures.asked

pub returns-in-Ok-2-clause-nothing : goal.returns-in-Ok-2-clause-nothing
returns-in-Ok-2-clause-nothing g c =
    then_receive g.S.DatagramSocket.asked c.args.self.now _ c.set_wait.new.socket _ c.self.view_is
    c.set_wait.ensures.nothing c.receive_datagram.ensures.asked

pub returns-then-is_gone-clause-nothing : goal.returns-then-is_gone-clause-nothing
returns-then-is_gone-clause-nothing g c =
    then_receive g.S.DatagramSocket.asked c.args.self.now _ c.set_wait.new.socket _ c.self.view_is
    c.set_wait.ensures.nothing c.receive_datagram.ensures.asked

pub returns-else-is_gone-clause-answered : goal.returns-else-is_gone-clause-answered
returns-else-is_gone-clause-answered g c set = (
  Err c.in-Err-receive_datagram.error,
  c.in-Err-receive_datagram.ensures.answered,
  hears_error c.args.self.now.closed c.args.self.now.peers _ c.new-self-inside.result _ false c.new-self-inside.ensures
      c.fault_after-self-inside.ensures c.if-is_gone.ensures,
)

pub returns-then-is_gone-clause-answered : goal.returns-then-is_gone-clause-answered
returns-then-is_gone-clause-answered g c set = (
  Err c.in-Err-receive_datagram.error,
  c.in-Err-receive_datagram.ensures.answered,
  hears_error c.args.self.now.closed c.args.self.now.peers _ c.new-self-inside.result _ true c.new-self-inside.ensures
      c.fault_after-self-inside.ensures c.if-is_gone.ensures,
)

pub returns-in-Ok-default-V4-clause-answered : goal.returns-in-Ok-default-V4-clause-answered
returns-in-Ok-default-V4-clause-answered g c set =
    let came = c.in-Ok-default-V4 in (
      Ok came.field-0-1,
      (came.ensures.answered, came.ensures.came),
      viewed c.self.view_is (Ok came.field-0-1) (receiving.Got came.count) (record c.new-self-inside.result { source = Some came.from })
          (hears_v4 c.self.inside.peers came.field-0-1 came.count c.new-self-inside.result c.new-self-inside.ensures
          c.self.inside.is_closed came.from came.field-0-1-is
          (λ is_closed. elim c.if-not-self.branch [
            | then-not-self w ↦ absurd (false≢true (sym w.if-not-self.true ∙ is_closed))
            | else-not-self w ↦ w.has_socket.ensures.0 (sym w.value-is ∙ c.if-has_socket.true)
          ])),
    )

pub returns-in-Ok-default-V6-clause-answered : goal.returns-in-Ok-default-V6-clause-answered
returns-in-Ok-default-V6-clause-answered g c set =
    let came = c.in-Ok-default-V6 in (
      Ok came.field-0-1,
      (came.ensures.answered, came.ensures.came),
      viewed c.self.view_is (Ok came.field-0-1) (receiving.Got came.count) c.new-self-inside.result
          (hears_v6 c.self.inside.peers came.field-0-1 came.count c.new-self-inside.result c.new-self-inside.ensures
          c.self.inside.is_closed came.field-0-1-0 came.field-0-1-is c.if-not-self-2.true),
    )

pub returns-in-Ok-clause-answered : goal.returns-in-Ok-clause-answered
returns-in-Ok-clause-answered g c set =
    let came = c.in-Ok-default-V4 in (
      Ok came.field-0-1,
      (came.ensures.answered, came.ensures.came),
      viewed c.self.view_is (Ok came.field-0-1) receiving.Nothing c.new-self-inside.result
          (elim c.if-not-self.branch [
            | then-not-self w ↦ absurd (false≢true (sym c.if-has_socket.false ∙ w.value-is ∙ ap not w.if-not-self.true))
            | else-not-self w ↦
                drops_v4 c.self.inside.peers came.field-0-1 c.new-self-inside.result c.new-self-inside.ensures
                c.self.inside.is_closed came.from came.field-0-1-is w.if-not-self.false
                (λ known. false≢true (sym c.if-has_socket.false ∙ w.value-is ∙ w.has_socket.ensures.1 known))
          ]),
    )

pub returns-in-Ok-2-clause-answered : goal.returns-in-Ok-2-clause-answered
returns-in-Ok-2-clause-answered g c set =
    let came = c.in-Ok-default-V6 in (
      Ok came.field-0-1,
      (came.ensures.answered, came.ensures.came),
      viewed c.self.view_is (Ok came.field-0-1) receiving.Nothing c.new-self-inside.result
          (drops_v6 c.self.inside.peers came.field-0-1 c.new-self-inside.result c.new-self-inside.ensures
          c.self.inside.is_closed came.field-0-1-0 came.field-0-1-is c.if-not-self-2.false),
    )
