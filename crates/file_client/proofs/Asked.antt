-- What a client's turns ask of its link.
use Rattle.std.proofs.Common.{◌≡◌, ℕ, Bool, List, [], refl, inl, inr}
use Rattle.std.specs.Prelude.{Option, None, Some, OnOk, Result, Ok, Err}
use Rattle.chaos_packet.specs.Outbox.{OutboxView}
use Rattle.chaos_link.specs.Link.{Ask, AskedSince, Asks, QueueView}
use Rattle.chaos_link.specs.declared.carriage.Carriage.{Carriage}
use Rattle.chaos_host.specs.View.{HostView}
use Rattle.chaos_host.specs.declared.answers.HostDelivered.{HostDelivered}
use Rattle.chaos_node.specs.Link.{turn_asks}
use Rattle.chaos_node.specs.Station.{Station, station}
use Rattle.chaos_node.specs.Turn.{RunsClientTurn, client_phases}
use Rattle.chaos_node.specs.declared.end.TurnEnd.{TurnEnd}
use Rattle.chaos_node.specs.declared.timer.RetransmitTimer.{RetransmitTimer}
use Rattle.file_client.specs.Caller.{CallerView, HangsUpBy, HangsUp, Stays, TurnsAt}
use Rattle.file_client.specs.Pace.{Pace}
use Rattle.file_client.specs.Talk.{Talker, Exchanges, SendsFarewell}
use Rattle.file_client.specs.Turn.{TakesTimedTurn, TakesTurn}

-- just what the turn asked was asked of its link
pub asks_of : (Asked : List Ask → Type 0) (Waits : Bool → Type 0) (now : ℕ) (before after : Option QueueView)
    (c d : CallerView) → TurnsAt Asked Waits now before after c d
    → (asks : List Ask) × Asked asks × TurnsAt (λ more. more ≡ asks) Waits now before after c d
asks_of Asked Waits now before after c d (is, (timers, (may_wait, waits, end, told, runs))) = (
  turn_asks c.carriage may_wait c.out.packets (client_phases timers runs.came now c.host).lots,
  runs.link.asks,
  (
    is,
    (
      timers,
      (
        may_wait,
        waits,
        end,
        told,
        record {
          came = runs.came;
          host = runs.host;
          told = runs.told;
          link = record { queue = runs.link.queue; asks = refl; read = runs.link.read; work = runs.link.work };
        },
      ),
    ),
  ),
)

module _ (A B : List Ask → Type 0) (f : (asks : List Ask) → A asks → B asks) where
  -- where all that may have been asked of the one may have been asked of the other
  pub runs_by : (timers : List RetransmitTimer) (may_wait : Bool) (carriage : Carriage) (now : ℕ)
      (before after : Station HostView) (end : TurnEnd) (told : Option HostDelivered)
      → RunsClientTurn timers A may_wait carriage now before after end told
      → RunsClientTurn timers B may_wait carriage now before after end told
  runs_by timers may_wait carriage now before after end told runs = record {
    came = runs.came;
    host = runs.host;
    told = runs.told;
    link = record { queue = runs.link.queue; asks = f _ runs.link.asks; read = runs.link.read; work = runs.link.work };
  }

  pub turns_by : (Waits : Bool → Type 0) (now : ℕ) (before after : Option QueueView) (c d : CallerView)
      → TurnsAt A Waits now before after c d → TurnsAt B Waits now before after c d
  turns_by Waits now before after c d (is, (timers, (may_wait, waits, end, told, runs))) =
      (is, (timers, (may_wait, waits, end, told, runs_by timers may_wait c.carriage now _ _ end told runs)))

  stays_by : (before after : Option QueueView) (c d : CallerView) → Stays A before after c d → Stays B before after c d
  stays_by before after c d (is, queue, none) = (is, queue, f [] none)

  hangs_up_at : (p : Pace) (id : Option ℕ) (before after : Option QueueView) (c d : CallerView)
      → HangsUpBy id p A before after c d → HangsUpBy id p B before after c d
  hangs_up_at p None before after c d stays = stays_by before after c d stays
  hangs_up_at p (Some id) before after c d (inl (nothing, stays)) = inl (nothing, stays_by before after _ d stays)
  hangs_up_at p (Some id) before after c d (inr (now, shown, turns)) =
      inr (now, shown, turns_by _ now before after _ d turns)

  pub hangs_up_by : (p : Pace) (before after : Option QueueView) (c d : CallerView) → HangsUp p A before after c d
      → HangsUp p B before after c d
  hangs_up_by p before after c d hung = hangs_up_at p c.id before after c d hung

  pub exchanges_by : (p : Pace) (first : Talker) (command : List ℕ) (reply : Option (List ℕ)) (last : Talker)
      → Exchanges p A first command reply last → Exchanges p B first command reply last
  exchanges_by p first command reply last (talk, talks, asked, is) = (talk, talks, f talk.asks asked, is)

  pub farewell_of : (p : Pace) (first last : Talker) → SendsFarewell p A first last → SendsFarewell p B first last
  farewell_of p first last (talk, talks, asked, is) = (talk, talks, f talk.asks asked, is)

-- of what went well
pub well_by : {T E : Type 0} (r : Result T E) (P Q : Type 0) → (P → Q) → OnOk r P → OnOk r Q
well_by (Ok x) P Q f h = f h
well_by (Err e) P Q f h = tt

-- ---- what has a link, and the link

module _ {T S : Type 0} (t : T) (link : T → S) (old new : AskedSince S Ask) where
  -- what was asked of the link was asked of what has it
  pub asks_through : (more : List Ask) → Asks old new more
      → Asks (λ (first : T). old (link first)) (λ (first : T). new (link first)) more
  asks_through more asks = record { goes = λ first before was. asks.goes (link first) before was }

  -- a turn over the link, with these timers, is one of what has it
  pub takes_through : (timers : List RetransmitTimer) (Waits : Bool → Type 0) (carriage : Carriage) (now : ℕ)
      (host left : HostView) (before after : Option QueueView) (waiting out : OutboxView)
      → TakesTimedTurn timers (Asks old new) Waits carriage now host left before after waiting out
      → TakesTurn (Asks (λ (first : T). old (link first)) (λ (first : T). new (link first))) Waits carriage now host left
      before after waiting out
  takes_through timers Waits carriage now host left before after waiting out (may_wait, waits, end, told, runs) = (
    timers,
    (
      may_wait,
      waits,
      end,
      told,
      runs_by (Asks old new) (Asks (λ (first : T). old (link first)) (λ (first : T). new (link first))) asks_through
          timers may_wait carriage now (station host before waiting) (station left after out) end told runs,
    ),
  )
