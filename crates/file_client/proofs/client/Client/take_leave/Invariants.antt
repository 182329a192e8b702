use Rattle.std.proofs.Common.{◌≡◌, ◌≤◌, false}
use Rattle.chaos_link.specs.Link.{Asks}
use Rattle.file_client.specs.Talk.{WritesAndTurns, eof_item, talker}
use Rattle.file_client.proofs.client.Client.take_leave.Given as goal

-- the EOF was written at most once, and nothing was received
abbrev pub invariant-loop-turn : goal.invariant-loop-turn
invariant-loop-turn g l = record {
  shown : (g.D.Driver.pace (g.D.Driver.time l.fn.self.driver)).Shows l.self.host.now.now;
  same_links : g.D.Driver.links l.self.driver ≡ g.D.Driver.links l.fn.self.driver;
  same_time : g.D.Driver.time l.self.driver ≡ g.D.Driver.time l.fn.self.driver;
  unfailed : g.D.Driver.failures l.self.driver ≤ g.D.Driver.failures l.fn.self.driver;
  talk : WritesAndTurns (g.D.Driver.pace (g.D.Driver.time l.fn.self.driver))
      (Asks (g.D.Driver.asked l.fn.self.driver) (g.D.Driver.asked l.self.driver)) l.turn
      (talker l.fn.self.host.now.caller (g.D.Driver.queue l.fn.self.driver)) eof_item false l.is_written
      (talker l.self.host.now.caller (g.D.Driver.queue l.self.driver));
}
