use Rattle.std.proofs.Common.{rules, ◌≡◌, ◌<◌, length, sym, subst}
use Rattle.std.specs.List.{position_or_len, after_first}
use Rattle.file_copy.specs.Local.{IsBehindSlash}
use Rattle.file_copy.proofs.LocalFiles.{is_slash, behind_more}
use Rattle.file_copy.proofs.local.last_name.Goals as goal

-- what stands behind one slash more
pub loop-behind-preserved : goal.loop-behind-preserved
loop-behind-preserved c =
    let at : c.in-Some.behind.now ≡ after_first is_slash c.loop-behind.name.now = search rules in
    let below : position_or_len is_slash c.loop-behind.name.now < length c.loop-behind.name.now = search rules in
    (search rules, subst (IsBehindSlash c.args.path.now) (sym at) (behind_more c.args.path.now c.loop-behind.name.now c.loop-behind.invariant.1 below))
