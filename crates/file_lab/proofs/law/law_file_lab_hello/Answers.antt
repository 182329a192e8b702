use Rattle.std.proofs.Common.{refl, lit<, lit≤}
use Rattle.file_lab.proofs.law.law_file_lab_hello.Goals as goal

pub returns : goal.returns
returns c = record {
  commands = refl;
  unheard = refl;
  memory = refl;
  serves = record {
    lab = record {
      a = record { open_end = refl; again = lit< tt };
      b = record { open_end = refl; again = lit< tt };
      moments = lit≤ tt;
    };
    memory = refl;
  };
}
