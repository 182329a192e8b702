-- The run of eight events.
use Rattle.std.proofs.Common.{refl, arith}
use Rattle.chaos_conn.specs.Config.{IsConfig, usual_config}
use Rattle.chaos_net.specs.Hello.{SomethingIsRead, two_hosts, hello}
use Rattle.chaos_net.proofs.Short.{short_runs}

pub usual : IsConfig usual_config
usual = record {
  some_send = omega arith;
  send_fits = omega arith;
  some_recv = omega arith;
  recv_fits = omega arith;
  some_retransmit = omega arith;
  some_probe = omega arith;
  some_down = omega arith;
}

pub something_is_read : SomethingIsRead
something_is_read = record {
  reached = short_runs two_hosts hello
      (record { address = 257; conns = 1; config = usual_config; right = refl; sound = usual; is = refl })
      (record { address = 258; conns = 1; config = usual_config; right = refl; sound = usual; is = refl })
      (omega arith)
      (tt, (omega arith, (tt, (refl, (tt, (refl, (tt, (refl, tt))))))));
  read = refl;
}
