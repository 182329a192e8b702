use Rattle.file_client.specs.Pace.{clock_pace}
use Rattle.file_end_to_end.proofs.Asking.{connections_are_asked}
use Rattle.file_end_to_end.proofs.Begun.{worlds_begin}
use Rattle.file_end_to_end.proofs.Opened.{connections_open}
use Rattle.file_end_to_end.proofs.Worlds.{worlds_last}
use Rattle.file_end_to_end.proofs.law.law_world.Goals as goal

pub returns : goal.returns
returns g c = record {
  begin = λ m. worlds_begin g.S.Store.contents g.S.Store.may_give g.S.Store.count m;
  asked = λ m. connections_are_asked g.S.Store.contents g.S.Store.may_give g.S.Store.count m;
  opened = λ m. connections_open g.S.Store.contents m;
  last = λ m clock timing.
      worlds_last g.S.Store.contents g.S.Store.may_give g.S.Store.count m (clock_pace (g.C.ReadableClock.shows clock) timing);
}
