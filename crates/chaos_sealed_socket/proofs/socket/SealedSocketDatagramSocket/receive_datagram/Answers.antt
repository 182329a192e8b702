use Rattle.std.proofs.Common.{◌≡◌, ◌≤◌, ℕ, ◌∙◌, length, take, ap, arith, sym}
use Rattle.chaos_sealed_socket.proofs.Asked.{held_before, receive_asked, reply_asked}
use Rattle.chaos_sealed_socket.proofs.Received.{handed_bytes, handed_long, handed_within, with_some_key}
use Rattle.chaos_sealed_socket.proofs.socket.SealedSocketDatagramSocket.receive_datagram.Goals as goal

pub returns-in_err-count-clause-asked : goal.returns-in_err-count-clause-asked
returns-in_err-count-clause-asked g c =
    rw (sym c.self.view_is)
    (receive_asked g.S.DatagramSocket.asked _ c.receive_datagram.new.self c.in_err-count.ensures.asked)

pub returns-then-is_empty-clause-asked : goal.returns-then-is_empty-clause-asked
returns-then-is_empty-clause-asked g c =
    rw (sym c.self.view_is)
    (receive_asked g.S.DatagramSocket.asked _ c.receive_datagram.new.self c.in_ok-count.ensures.asked)

pub returns-clause-within : goal.returns-clause-within
returns-clause-within g c =
    let room : length c.receive_datagram.new.buffer ≡ 2048 = c.receive_datagram.array_long in
    let fits : c.in_ok-count.count ≤ length c.receive_datagram.new.buffer =
    omega (arith, room, c.in_ok-count.ensures.within) in
    omega (
      arith,
      room,
      c.hand_up.ensures.count,
      handed_within _ _ c.receive_datagram.new.buffer c.in_ok-count.count fits c.open-opened.result c.open-opened.ensures.opens,
    )

pub returns-clause-came : goal.returns-clause-came
returns-clause-came g c =
    held_before g.S.DatagramSocket.asked (λ beneath. g.S.DatagramSocket.came beneath c.in_ok-count.from)
    g.S.DatagramSocket.began _ c.hand_up.new.self c.in_ok-count.from c.open-opened.result c.hand_up.ensures.takes
    c.in_ok-count.ensures.came

pub returns-clause-asked : goal.returns-clause-asked
returns-clause-asked g c =
    rw (sym c.self.view_is)
    (reply_asked g.S.DatagramSocket.asked _ c.hand_up.new.self c.receive_datagram.new.self c.in_ok-count.from _
    c.open-opened.result c.open-opened.new.self c.in_ok-count.ensures.asked c.open-opened.ensures.opens
    c.hand_up.ensures.takes)

pub returns-clause-receives : goal.returns-clause-receives
returns-clause-receives g c =
    let room : length c.receive_datagram.new.buffer ≡ 2048 = c.receive_datagram.array_long in
    let fits : c.in_ok-count.count ≤ length c.receive_datagram.new.buffer =
    omega (arith, room, c.in_ok-count.ensures.within) in
    rw (sym c.self.view_is) (
      c.receive_datagram.new.self,
      c.in_ok-count.ensures.asked,
      c.in_ok-count.ensures.answered,
      c.in_ok-count.ensures.came,
      with_some_key g.S.DatagramSocket.asked g.O.SealObserver.hears _ _ c.hand_up.new.self
          c.receive_datagram.new.self c.open-opened.new.buffer c.hand_up.result c.in_ok-count.from
          (sym c.is_empty.ensures ∙ c.if-is_empty.false)
          (record {
            came = take c.in_ok-count.count c.receive_datagram.new.buffer;
            opened = c.open-opened.result;
            seals = c.open-opened.new.self;
            opens = c.open-opened.ensures.opens;
            long =
                c.hand_up.ensures.count
                ∙ handed_long _ _ c.receive_datagram.new.buffer c.in_ok-count.count fits c.open-opened.result
                c.open-opened.ensures.opens;
            handed =
                ap (λ (n : ℕ). take n c.open-opened.new.buffer) c.hand_up.ensures.count
                ∙ handed_bytes c.receive_datagram.new.buffer c.open-opened.new.buffer c.in_ok-count.count
                c.open-opened.result c.open-opened.ensures.payload c.open-opened.ensures.buffer;
            takes = c.hand_up.ensures.takes;
            heard = c.hand_up.ensures.heard;
          }),
    )
