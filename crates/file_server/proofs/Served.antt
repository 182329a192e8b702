-- Turns of a service, one after another, each at the moment that was read for it.
use Rattle.std.proofs.Common.{true, ◌≡◌, ◌∙◌, ◌≤◌, ℕ, ◌+◌, List, [], ◌∷◌, ◌++◌, length, refl, ap, subst, sym}
use Rattle.std.specs.Prelude.{Option, Result, Ok, Err}
use Rattle.std.specs.Result.{IsErr}
use Rattle.std.proofs.lemmas.List.{append_assoc, append-nil, length-append}
use Rattle.chaos_conn.specs.Config.{ConfigView}
use Rattle.chaos_file.specs.Store.{StoreChange}
use Rattle.chaos_link.specs.Link.{Ask, AskedSince, Asks, QueueView}
use Rattle.chaos_link.proofs.Asked.{asks_both, asks_none}
use Rattle.chaos_link.specs.declared.carriage.Carriage.{Carriage}
use Rattle.chaos_node.specs.Link.{turn_asks}
use Rattle.chaos_node.specs.declared.end.TurnEnd.{TurnEnd}
use Rattle.chaos_node.specs.Moments.{Readings, Reads}
use Rattle.chaos_node.proofs.Reading.{reads_none, reads_then}
use Rattle.chaos_node.specs.declared.fault.NodeFault.{NodeFault}
use Rattle.chaos_node.specs.declared.timer.Interval.{Interval}
use Rattle.file_server.specs.Serve.{mode_of}
use Rattle.file_server.specs.Service.{HaveLooked, MadeTurns, MakesTurns, ServesBy, ServesTurn, TimedService, new_timed, service_options}
use Rattle.file_server.specs.Turn.{RunsTurn}
use Rattle.file_server.specs.Waiting.{waits}

-- a run that ends by a fault
pub made_to_fault : {A : Type 0} (end : Result A NodeFault) (turns made : ℕ) → IsErr end → made ≤ turns
    → MadeTurns end turns made
made_to_fault (Ok end) turns made fault few = cc
made_to_fault (Err fault) turns made is few = few

module _ {X : Type 0} (turn : ℕ → List Ask → X → X → Type 0) where
  -- one more turn
  makes_more : (moments : List ℕ) (now : ℕ) (asks more : List Ask) (first before after : X)
      → MakesTurns turn moments asks first before → turn now more before after
      → MakesTurns turn (moments ++ now ∷ []) (asks ++ more) first after
  makes_more [] now asks more first before after (none, same) made = (
    after,
    more,
    [],
    ap (λ (l : List Ask). l ++ more) none ∙ sym (append-nil more),
    subst (λ (b : X). turn now more b after) same made,
    (refl, refl),
  )
  makes_more (moment ∷ moments) now asks more first before after (between, front, behind, all, head, rest) made = (
    between,
    front,
    behind ++ more,
    ap (λ (l : List Ask). l ++ more) all ∙ append_assoc front behind more,
    head,
    makes_more moments now behind more between before after rest made,
  )

  -- Since the run began so many moments were read, a turn was made at each, and the link was asked what these turns asked.
  abbrev pub HasMade : (List ℕ → Type 0) → (List Ask → Type 0) → ℕ → X → X → Type 0
  HasMade read asked turns first last = (moments : List ℕ) × (asks : List Ask) × read moments × asked asks
      × (length moments ≡ turns) × MakesTurns turn moments asks first last

  pub made_none : {M L : Type 0} (read : Readings M) (asked : AskedSince L Ask) (first last : X) → last ≡ first
      → HasMade (Reads read read) (Asks asked asked) 0 first last
  made_none read asked first last same = ([], [], reads_none read, asks_none asked, refl, (refl, same))

  -- no moment could be read
  pub made_still : {M : Type 0} (a b c : Readings M) (asked : List Ask → Type 0) (turns : ℕ) (first last : X)
      → HasMade (Reads a b) asked turns first last → Reads b c [] → HasMade (Reads a c) asked turns first last
  made_still a b c asked turns first last (moments, asks, read, were, count, turned) more = (
    moments,
    asks,
    subst (λ (ms : List ℕ). Reads a c ms) (append-nil moments) (reads_then a b c moments [] read more),
    were,
    count,
    turned,
  )

  -- a moment was read, and a turn made at it
  pub made_next : {M L : Type 0} (ra rb rc : Readings M) (aa ab ac : AskedSince L Ask) (turns now : ℕ)
      (first before after : X)
      → HasMade (Reads ra rb) (Asks aa ab) turns first before → Reads rb rc (now ∷ [])
      → ((asks : List Ask) × Asks ab ac asks × turn now asks before after)
      → HasMade (Reads ra rc) (Asks aa ac) (turns + 1) first after
  made_next ra rb rc aa ab ac turns now first before after (moments, asks, read, were, count, turned) more made = (
    moments ++ now ∷ [],
    asks ++ made.0,
    reads_then ra rb rc moments (now ∷ []) read more,
    asks_both aa ab ac asks made.0 were made.1,
    length-append moments (now ∷ []) ∙ ap (λ (n : ℕ). n + 1) count,
    makes_more moments now asks made.0 first before after turned made.2,
  )

module _ {S : Type 0} (changes : S → S → StoreChange) (carriage : Carriage) (starts : ℕ → ℕ) where
  abbrev pub HasServed : (List ℕ → Type 0) → (List Ask → Type 0) → ℕ → TimedService S → TimedService S → Type 0
  HasServed = HasMade (ServesTurn changes carriage starts)

  -- a turn told without its link: what it asked
  pub serves_turn : {asked : List Ask → Type 0} (now : ℕ) (before after : TimedService S) (end : TurnEnd)
      → HaveLooked now before.station.node.host before.timers after.timers
      → RunsTurn changes (mode_of carriage) (service_options after.timers) asked (waits after.timers now true before.station.node.host) carriage
      (starts now) now before.station after.station end
      → (asks : List Ask) × asked asks × ServesTurn changes carriage starts now asks before after
  serves_turn now before after end timed done = (
    turn_asks carriage (waits after.timers now true before.station.node.host) before.station.outbox.packets done.lots,
    done.link.asks,
    record {
      end = end;
      timed = timed;
      turn = record {
        came = done.came;
        lots = done.lots;
        turn = done.turn;
        link = record { queue = done.link.queue; asks = refl; read = done.link.read; work = done.link.work };
      };
    },
  )

  -- a moment was read, and a turn made at it
  pub served_next : {M L : Type 0} (ra rb rc : Readings M) (aa ab ac : AskedSince L Ask) (turns start now : ℕ)
      (by : Carriage) (first before after : TimedService S) (end : TurnEnd)
      → HasServed (Reads ra rb) (Asks aa ab) turns first before → Reads rb rc (now ∷ []) → by ≡ carriage
      → start ≡ starts now → HaveLooked now before.station.node.host before.timers after.timers
      → RunsTurn changes (mode_of by) (service_options after.timers) (Asks ab ac) (waits after.timers now true before.station.node.host) by start
      now before.station after.station end
      → HasServed (Reads ra rc) (Asks aa ac) (turns + 1) first after
  served_next ra rb rc aa ab ac turns start now by first before after end has more same from timed done =
      let wait = waits after.timers now true before.station.node.host in
      let options = service_options after.timers in
      made_next (ServesTurn changes carriage starts) ra rb rc aa ab ac turns now first before after has more
      (serves_turn {asked = Asks ab ac} now before after end timed
      (subst
      (λ (k : Carriage). RunsTurn changes (mode_of k) options (Asks ab ac) wait k (starts now) now before.station after.station end)
      same
      (subst
      (λ (n : ℕ). RunsTurn changes (mode_of by) options (Asks ab ac) wait by n now before.station after.station end) from
      done)))

  -- so has the run
  pub served_by : {A : Type 0} (read : List ℕ → Type 0) (asked : List Ask → Type 0) (config : ConfigView)
      (interval : Interval) (turns address passed made : ℕ) (store : S) (queue : Option QueueView) (last : TimedService S)
      (end : Result A NodeFault)
      → HasServed read asked made (new_timed config interval address passed store queue) last → MadeTurns end turns made
      → ServesBy changes carriage read asked starts config interval turns address passed store last.station.node.store queue
      last.station.queue end
  served_by read asked config interval turns address passed made store queue last end
      (moments, asks, was, were, count, turned) ends =
      (moments, asks, was, were, subst (MadeTurns end turns) (sym count) ends, (last, turned, refl, refl))
