-- What a client's contract says of operations, in all worlds.
use Rattle.std.proofs.Common.{◌≡◌, ◌+◌, ◌<◌, ℕ, zero, suc, List, [], ◌∷◌, Option, None, ap, ◌∙◌, refl, sym, subst, lit<}
use Rattle.std.proofs.lemmas.Nat.{mod_below}
use Rattle.chaos_link.specs.Link.{Addressed, Ask, QueueView}
use Rattle.chaos_file.specs.Store.{Files}
use Rattle.chaos_lab.specs.declared.side.Side.TheVariants.{A}
use Rattle.chaos_net.specs.Net.{Name}
use Rattle.file_copy.specs.Ends.{login_command, login_reply}
use Rattle.file_client.specs.Caller.{CallerView, Connects, HangsUpBy, Stays, asked as asked_for}
use Rattle.file_client.specs.Pace.{Pace}
use Rattle.file_client.specs.Talk.{Talker, Step, Says, SaysAt, talk_of}
use Rattle.file_client.specs.declared.client.Client.{Client}
use Rattle.file_client.specs.declared.clock_driver.ClockDriver.{ClockDriver}
use Rattle.file_net.specs.FileNet.{FileNet}
use Rattle.file_copy.specs.Operation.{Operation, all_commands, all_replies, commands_of, replies_of}
use Rattle.file_end_to_end.specs.Beginning.{FinishesBy, FinishesInWorlds, asking_world}
use Rattle.file_end_to_end.specs.Over.{AreDoneBy, DoneInWorlds, IsDoneBy, SessionsInWorlds, engine_of, pace_of, session_talk}
use Rattle.file_end_to_end.specs.System.{FileStandsFor}
use Rattle.file_end_to_end.specs.World.{World, IsNewWorld, IsServed, IsTalk, Lasts, system_by}
use Rattle.file_end_to_end.proofs.Beginning.{Known, asks_tells, finishes, lasts_asking}
use Rattle.file_end_to_end.proofs.Begun.{worlds_begin}
use Rattle.file_end_to_end.proofs.Silent.{Tells}
use Rattle.file_end_to_end.proofs.Worlds.{worlds_last}

-- what follows from a claim lasts as long
module _ {S : Type 0} (contents : S → Option Files) (may_give : S → List ℕ → ℕ → List ℕ → Type 0) (count : S → ℕ)
    (m : Files) (p : Pace) where
  weaker : (Claim Other : World S → FileNet → Type 0) → ((w : World S) (f : FileNet) → Claim w f → Other w f)
      → (k : ℕ) (w : World S) (f : FileNet) → Lasts contents may_give count m p Claim k w f
      → Lasts contents may_give count m p Other k w f
  weaker Claim Other so zero w f (stands, claim) = (stands, so w f claim)
  weaker Claim Other so (suc k) w f (stands, claim, on) = (
    stands,
    so w f claim,
    λ move t one fresh. let r = on move t one fresh in (r.0, r.1, r.2, weaker Claim Other so k t r.0 r.3),
  )

-- the talk of the steps of a contract
talk_is : (p : Pace) (Asked : List Ask → Type 0) (first last : Talker) (commands replies : List (List ℕ)) (steps : List Step)
    → (says : Says p Asked first (record { sent = commands; received = replies }) last) → steps ≡ says.talks.steps
    → IsTalk steps commands replies
talk_is p Asked first last commands replies steps says same = record {
  sent = ap (λ l. (talk_of l).sent) same ∙ ap (λ t. t.sent) says.talks.same ∙ says.sent;
  received = ap (λ l. (talk_of l).received) same ∙ ap (λ t. t.received) says.talks.same ∙ says.received;
}

done_by : {S : Type 0} (m : Files) (p : Pace) (Asked : List Ask → Type 0) (first last : Talker) (operation : Operation)
    (says : Says p Asked first (record { sent = commands_of operation; received = replies_of operation }) last) (f : FileNet) (a c : Name)
    (w : World S) (g : FileNet) → IsServed m f a c w g → IsDoneBy m says.talks.steps operation f a c w g
done_by m p Asked first last operation says f a c w g served same user idle can =
    served.done operation user idle can (talk_is p Asked first last (commands_of operation) (replies_of operation) w.steps says same)

pub done_in_worlds : {C L S : Type 0} (shows : C → ℕ → Type 0) (queue : L → Option QueueView)
    (asked : L → L → List Ask → Type 0) (contents : S → Option Files)
    (may_give : S → List ℕ → ℕ → List ℕ → Type 0) (count : S → ℕ) (old new : Client (ClockDriver C L)) (operation : Operation)
    → SaysAt (pace_of shows old) (asked new.driver.link.now old.driver.link.now) (engine_of queue old) old.host.now.now
    (record { sent = commands_of operation; received = replies_of operation }) (engine_of queue new) new.host.now.now
    → DoneInWorlds shows queue asked contents may_give count old new operation
done_in_worlds {C} {L} {S} shows queue asked contents may_give count old new operation said shown =
    let p = pace_of shows old in
    let (is, says) = said shown in (
      says,
      λ m k w f a c stands calling first none.
          weaker contents may_give count m p (IsServed m f a c) (IsDoneBy m says.talks.steps operation f a c)
          (λ t g served. done_by m p (asked new.driver.link.now old.driver.link.now) (engine_of queue old) (engine_of queue new) operation says f a c t g served) k w f
          (worlds_last contents may_give count m p k w f a c stands calling (subst (λ l. IsTalk l [] []) (sym none) (record { sent = refl; received = refl }))),
    )

-- ---- all operations over one connection

pub sessions_in_worlds : {C L S : Type 0} (shows : C → ℕ → Type 0) (queue : L → Option QueueView)
    (asked : L → L → List Ask → Type 0) (contents : S → Option Files)
    (may_give : S → List ℕ → ℕ → List ℕ → Type 0) (count : S → ℕ) (old new : Client (ClockDriver C L)) (user : List ℕ)
    (operations : List Operation) → (pace_of shows old).Shows old.host.now.now
    → SaysAt (pace_of shows old) (asked new.driver.link.now old.driver.link.now) (engine_of queue old) old.host.now.now
    (session_talk user operations) (engine_of queue new) new.host.now.now
    → SessionsInWorlds shows queue asked contents may_give count old new user operations
sessions_in_worlds {C} {L} {S} shows queue asked contents may_give count old new user operations shown said =
    let p = pace_of shows old in
    let commands = login_command user ∷ all_commands operations in
    let replies = login_reply user ∷ all_replies operations in
    let (is, says) = said shown in (
      says,
      λ m k w f a c stands unused.
          weaker contents may_give count m p (IsServed m f a c) (AreDoneBy m says.talks.steps user operations c)
          (λ t g served same good can. (served.session user operations unused.unsaid unused.unheard good can (talk_is p (asked new.driver.link.now old.driver.link.now) (engine_of queue old) (engine_of queue new) commands replies t.steps says same)).0) k w f
          (worlds_last contents may_give count m p k w f a c stands unused.calling unused.silent),
    )

-- ---- all operations, from a new world on

-- a client without a connection, which asks for one
pub asked_so : (p : Pace) (Asked : List Ask → Type 0) (now : ℕ) (before after : Option QueueView) (c d : CallerView)
    → c.id ≡ None → Connects p Asked now before after c d → d ≡ asked_for (p.starts now) now p.wait c
asked_so p Asked now before after c d none (b, hangs, shown, is) =
    let stays : Stays Asked before after c b = subst (λ o. HangsUpBy o p Asked before after c b) none hangs in
    is ∙ ap (asked_for (p.starts now) now p.wait) stays.0

module _ {C L S : Type 0} (shows : C → ℕ → Type 0) (queue : L → Option QueueView) (asked : L → L → List Ask → Type 0)
    (contents : S → Option Files) (may_give : S → List ℕ → ℕ → List ℕ → Type 0) (count : S → ℕ)
    (old begun new : Client (ClockDriver C L)) (user : List ℕ) (operations : List Operation) where
  small_start : (now : ℕ) → (pace_of shows begun).starts now < 65536
  small_start now = mod_below (begun.driver.timing.epoch.first + now) 65536 (lit< tt)

  -- the world in which the engine has asked
  asking_known : (m : Files) (w : World S) (new_world : IsNewWorld contents m w) (start now wait : ℕ) → start < 65536
      → begun.host.now.caller ≡ asked_for start now wait w.client.caller
      → (lost gone : List Addressed) × (f : FileNet)
      × Known contents may_give count m (pace_of shows begun) (asking_world w (engine_of queue begun) lost gone) f
  asking_known m w new_world start now wait small is =
      let (lost, gone, f, stands) = worlds_begin contents may_give count m w new_world in
      let from : World S = record w { posts = lost; server = record w.server { posts = gone } } in
      let r = asks_tells contents may_give count m (pace_of shows begun) f from w.client.caller start now wait small stands in (
        lost,
        gone,
        r.net,
        record {
          stands = subst (λ (z : CallerView). FileStandsFor contents m (system_by z lost (record w.server { posts = gone })) r.net) (sym is) r.stands;
          tells = subst (λ (z : CallerView). Tells z.id (r.net.net A) [] []) (sym is) r.tells;
        },
      )

  pub finishes_in_worlds : (start now wait : ℕ) → start < 65536 → (pace_of shows begun).Shows begun.host.now.now
      → (old.host.now.caller.id ≡ None → begun.host.now.caller ≡ asked_for start now wait old.host.now.caller)
      → SaysAt (pace_of shows begun) (asked new.driver.link.now begun.driver.link.now) (engine_of queue begun) begun.host.now.now (session_talk user operations) (engine_of queue new) new.host.now.now
      → FinishesInWorlds shows queue asked contents may_give count old begun new user operations
  finishes_in_worlds start now wait small shown is said =
      let p = pace_of shows begun in
      let says = (said shown).1 in
      let commands = login_command user ∷ all_commands operations in
      let replies = login_reply user ∷ all_replies operations in
      let talk : IsTalk says.talks.steps commands replies =
      talk_is p (asked new.driver.link.now begun.driver.link.now) (engine_of queue begun) (engine_of queue new) commands replies says.talks.steps says refl in (
        says,
        λ m w new_world engine.
            let caller : w.client.caller ≡ old.host.now.caller = ap (λ c. c.caller) engine in
            let none : old.host.now.caller.id ≡ None = ap (λ c. c.id) (sym caller ∙ new_world.engine) in
            let (lost, gone, f, known) =
            asking_known m w new_world start now wait small (is none ∙ ap (asked_for start now wait) (sym caller)) in (
              lost,
              gone,
              f,
              λ k. lasts_asking contents may_give count m p small_start (FinishesBy m says.talks.steps user operations)
                  (finishes contents may_give count m p user operations says.talks.steps talk) k
                  (asking_world w (engine_of queue begun) lost gone) f known,
            ),
      )
