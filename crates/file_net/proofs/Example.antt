-- The run by which two clients are served.
use Rattle.std.proofs.Common.{refl, arith}
use Rattle.std.specs.FinMap as map
use Rattle.chaos_conn.specs.Config.{usual_config}
use Rattle.chaos_net.proofs.Hello.{usual}
use Rattle.file_net.specs.Short.{TwoAreServed, two_hosts, logins}
use Rattle.file_net.proofs.Short.{short_file_runs}

pub two_are_served : TwoAreServed
two_are_served = record {
  reached = short_file_runs map.empty two_hosts logins
      (record { address = 257; conns = 2; config = usual_config; right = refl; sound = usual; is = refl })
      (record { address = 258; conns = 2; config = usual_config; right = refl; sound = usual; is = refl })
      (omega arith)
      ((tt, refl), ((omega arith, refl), ((omega arith, refl), ((tt, refl), ((tt, refl), ((refl, refl), ((refl, refl), ((tt, refl), ((tt, refl), ((refl, refl), ((refl, refl), ((tt, refl), ((tt, refl), (refl, (refl, ((tt, refl), ((refl, refl), tt)))))))))))))))));
  history = refl;
  read = refl;
}
