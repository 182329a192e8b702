-- The command is one for which clap's answer is a function of the words.
use Rattle.std.proofs.Common.{◌≡◌, refl, true}
use Rattle.clap.specs.Words.{is_simple, is_simple_and_free}
use Rattle.clap.proofs.OnLiterals.{clap_on_literals}
use Rattle.chaosd_line.specs.CommandLine.{chaosd}

pub is_simple_chaosd : is_simple chaosd ≡ true
unfolding clap_on_literals
is_simple_chaosd = refl

pub is_free_chaosd : is_simple_and_free chaosd ≡ true
unfolding clap_on_literals
is_free_chaosd = refl
