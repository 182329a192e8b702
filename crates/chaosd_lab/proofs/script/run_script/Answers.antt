use Rattle.std.proofs.Common.{refl, ap}
use Rattle.std.specs.Prelude.{Err}
use Rattle.chaosd_io.specs.declared.fault.RunFault.TheVariants.{BadScript, InputTooLong, ReadFault, NoMemory}
use Rattle.chaosd_io.specs.Lines.{lines_of}
use Rattle.chaosd_lab.specs.Script.{wrong_line}
use Rattle.chaosd_lab.proofs.Ends.{all_handed, bad_at, bad_wrong, none_wrong, within, stops_handed, stops_told, wrong_reported}
use Rattle.chaosd_lab.proofs.script.run_script.Goals as goal

pub returns-clause-bad : goal.returns-clause-bad
returns-clause-bad g c number is =
    bad_at g.S.Stage.script _ _ _ _ number
    (stops_told g.S.Stage.script (Err c.in-Err.fault) _ _ _ _ _ c.in-Err.fault (BadScript number) refl is
    (stops_handed g.S.Stage.script _ _ _ _ _ _ _ _ c.in_ok-hand_on.ensures.kept c.in_ok-hand_on.ensures.empty
    (c.in-Err.ensures.stops _ (c.new-player.ensures.plays _))))

pub returns-clause-too_long : goal.returns-clause-too_long
returns-clause-too_long g c is =
    stops_told g.S.Stage.script (Err c.in-Err.fault) _ _ _ _ _ c.in-Err.fault InputTooLong refl is
    (stops_handed g.S.Stage.script _ _ _ _ _ _ _ _ c.in_ok-hand_on.ensures.kept c.in_ok-hand_on.ensures.empty
    (c.in-Err.ensures.stops _ (c.new-player.ensures.plays _)))

pub returns-clause-unread : goal.returns-clause-unread
returns-clause-unread g c is =
    stops_told g.S.Stage.script (Err c.in-Err.fault) _ _ _ _ _ c.in-Err.fault ReadFault refl is
    (stops_handed g.S.Stage.script _ _ _ _ _ _ _ _ c.in_ok-hand_on.ensures.kept c.in_ok-hand_on.ensures.empty
    (c.in-Err.ensures.stops _ (c.new-player.ensures.plays _)))

pub returns-clause-no_memory : goal.returns-clause-no_memory
returns-clause-no_memory g c is =
    stops_told g.S.Stage.script (Err c.in-Err.fault) _ _ _ _ _ c.in-Err.fault NoMemory refl is
    (stops_handed g.S.Stage.script _ _ _ _ _ _ _ _ c.in_ok-hand_on.ensures.kept c.in_ok-hand_on.ensures.empty
    (c.in-Err.ensures.stops _ (c.new-player.ensures.plays _)))

pub returns-clause-wrong : goal.returns-clause-wrong
returns-clause-wrong g c number is =
    wrong_reported _ (λ l. wrong_line g.S.Stage.script number (lines_of l)) c.in-Err.fault number _ _ c.wrong_at.ensures is
    (bad_wrong g.S.Stage.script _ _ _ _ number
    (stops_told g.S.Stage.script (Err c.in-Err.fault) _ _ _ _ _ c.in-Err.fault (BadScript number) refl is
    (stops_handed g.S.Stage.script _ _ _ _ _ _ _ _ c.in_ok-hand_on.ensures.kept c.in_ok-hand_on.ensures.empty
    (c.in-Err.ensures.stops _ (c.new-player.ensures.plays _)))))

pub returns-clause-none_wrong : goal.returns-clause-none_wrong
returns-clause-none_wrong g c = none_wrong c.in-Err.fault _ _ c.wrong_at.ensures

pub returns-in-Ok-clause-text : goal.returns-in-Ok-clause-text
returns-in-Ok-clause-text g c =
    all_handed g.S.Stage.script _ _ _ _ _ _ _ c.in_ok-hand_on.ensures.kept c.in_ok-hand_on.ensures.empty
    (ap (λ a. a.refused) c.in_ok-hand_on.ensures.same)
    (c.in-Ok.ensures.plays _ (c.new-player.ensures.plays _))

pub returns-in-Ok-clause-within : goal.returns-in-Ok-clause-within
returns-in-Ok-clause-within g c = within g.S.Stage.script _ _ _ _ (c.in-Ok.ensures.plays _ (c.new-player.ensures.plays _))
