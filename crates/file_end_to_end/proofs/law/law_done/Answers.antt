use Rattle.std.proofs.Common.{◌+◌, lit<, refl, subst, sym}
use Rattle.std.proofs.lemmas.Nat.{mod_below}
use Rattle.file_copy.specs.Talk.{silence}
use Rattle.file_client.specs.Pace.{clock_pace}
use Rattle.file_client.specs.Talk.{says_none_at}
use Rattle.file_end_to_end.specs.Over.{engine_of, pace_of}
use Rattle.file_end_to_end.proofs.Overs.{asked_so, done_in_worlds, finishes_in_worlds, sessions_in_worlds}
use Rattle.file_end_to_end.proofs.law.law_done.Goals as goal

pub returns-clause-begins : goal.returns-clause-begins
returns-clause-begins g c user old new operations (begun, connects, since) =
    let shows = g.C.ReadableClock.shows in
    let queue = g.L.Link.queue in
    let asked = g.L.Link.asked in
    let now = begun.host.now.now in
    let p = pace_of shows old in (
      begun,
      connects,
      finishes_in_worlds shows queue asked g.S.Store.contents g.S.Store.may_give g.S.Store.count old begun new user operations
          (p.starts now) now p.wait
          (mod_below (old.driver.timing.epoch.first + now) 65536 (lit< tt))
          (subst (λ time. (clock_pace (shows time.0) time.1).Shows begun.host.now.now) (sym connects.0) connects.1.2)
          (λ none. asked_so p _ now _ _ old.host.now.caller begun.host.now.caller none connects.1)
          (since.goes begun silence (refl, says_none_at (pace_of shows begun) (asked begun.driver.link.now begun.driver.link.now) (engine_of queue begun) begun.host.now.now (g.L.Link.began begun.driver.link.now))).1,
    )

pub returns-clause-worlds : goal.returns-clause-worlds
returns-clause-worlds g c user old new operations (begun, connects, since) =
    let shows = g.C.ReadableClock.shows in
    let queue = g.L.Link.queue in
    let asked = g.L.Link.asked in (
      begun,
      connects,
      sessions_in_worlds shows queue asked g.S.Store.contents g.S.Store.may_give g.S.Store.count begun new user operations
          (subst (λ time. (clock_pace (shows time.0) time.1).Shows begun.host.now.now) (sym connects.0) connects.1.2)
          (since.goes begun silence (refl, says_none_at (pace_of shows begun) (asked begun.driver.link.now begun.driver.link.now) (engine_of queue begun) begun.host.now.now (g.L.Link.began begun.driver.link.now))).1,
    )

pub returns-clause-each : goal.returns-clause-each
returns-clause-each g c old new operation since =
    let shows = g.C.ReadableClock.shows in
    let queue = g.L.Link.queue in
    let asked = g.L.Link.asked in
    done_in_worlds shows queue asked g.S.Store.contents g.S.Store.may_give g.S.Store.count old new operation
    (since.goes old silence (refl, says_none_at (pace_of shows old) (asked old.driver.link.now old.driver.link.now) (engine_of queue old) old.host.now.now (g.L.Link.began old.driver.link.now))).1
