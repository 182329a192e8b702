use Rattle.std.proofs.Common.{◌≡◌, ◌≤◌}
use Rattle.chaosd_ask.specs.Asking.{Idles}
use Rattle.file_client.specs.Talk.{talker}
use Rattle.chaosd_ask.proofs.script.wait_for_input.Given as goal

-- nothing was sent, received or read
abbrev pub invariant-loop-turn : goal.invariant-loop-turn
invariant-loop-turn g l = record {
  same_links : g.D.Driver.links l.client.driver ≡ g.D.Driver.links l.fn.client.driver;
  same_time : g.D.Driver.time l.client.driver ≡ g.D.Driver.time l.fn.client.driver;
  well : g.D.Driver.failures l.client.driver ≤ g.D.Driver.failures l.fn.client.driver;
  input : g.R.Read.remaining l.reader ≡ g.R.Read.remaining l.fn.reader;
  idles : Idles (g.D.Driver.pace (g.D.Driver.time l.fn.client.driver)) (talker l.fn.client.host.now.caller (g.D.Driver.queue l.fn.client.driver))
      (talker l.client.host.now.caller (g.D.Driver.queue l.client.driver));
}
