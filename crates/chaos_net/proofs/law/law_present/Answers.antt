use Rattle.chaos_net.proofs.Present.{named_is_present, reads_are_told, front_is_told, writes_are_told}
use Rattle.chaos_net.proofs.law.law_present.Goals as goal

pub returns : goal.returns
returns c = record {
  named = named_is_present;
  reads = reads_are_told;
  front = front_is_told;
  writes = writes_are_told;
}
