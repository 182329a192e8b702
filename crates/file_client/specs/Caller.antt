-- A host that calls a FILE server, by one connection after another.
use Rattle.std.specs.Prelude.{◌≡◌, ◌<◌, ◌⊎◌, ℕ, ◌+◌, ◌-◌, min, Bool, true, false, if◌then◌else◌, nat_le, nat_lt, List, [], codes, Option, Some, None, Result, Ok, Err}
use Rattle.std.specs.Result.{result_ok}
use Rattle.chaos_packet.specs.Count.{max_count}
use Rattle.chaos_packet.specs.Item.{ItemView}
use Rattle.chaos_packet.specs.Outbox.{OutboxView, room_of, with_put}
use Rattle.chaos_link.specs.Link.{Ask, QueueView}
use Rattle.chaos_link.specs.declared.carriage.Carriage.{Carriage}
use Rattle.chaos_conn.specs.Act.{Close, Read, Write}
use Rattle.chaos_conn.specs.Calls.{is_drained}
use Rattle.chaos_conn.specs.Config.{ConfigView}
use Rattle.chaos_conn.specs.declared.state.State.{State}
use Rattle.chaos_conn.specs.declared.state.State.TheVariants as state
use Rattle.chaos_host.specs.Acted.{HostActed}
use Rattle.chaos_host.specs.Calls.{HostReply, host_end}
use Rattle.chaos_host.specs.Connect.{ConnectAnswer, host_connect}
use Rattle.chaos_host.specs.View.{HostView, host_look, new_host}
use Rattle.chaos_host.specs.declared.fault.CallFault.{CallFault}
use Rattle.chaos_node.specs.Passing.{after_passing}
use Rattle.chaos_node.specs.declared.limits.TheConstants.{TURN_ROOM}
use Rattle.file_client.specs.declared.route.Route.{Route}
use Rattle.file_client.specs.Calls.{call_by, data_read, is_wrote}
use Rattle.file_client.specs.Pace.{Pace}
use Rattle.file_client.specs.Turn.{TakesTurn}

-- Its host, whom it calls, for which contact, how its packets are carried, its connection, if any, the moment at which it asked
-- last, for how many milliseconds it waits for that one's OPN, and what waits to be sent.
pub record CallerView : Type 0 where
  pub host : HostView
  pub to : ℕ
  pub contact : List ℕ
  pub carriage : Carriage
  pub id : Option ℕ
  pub since : ℕ
  pub wait : ℕ
  pub out : OutboxView

-- a host without a connection, which has used up so many indices and asks for FILE
abbrev pub new_caller : ℕ → ℕ → ConfigView → Carriage → ℕ → CallerView
new_caller me to config carriage count = record {
  host = after_passing to count (new_host me 1 config);
  to = to;
  contact = codes "FILE";
  carriage = carriage;
  id = None;
  since = 0;
  wait = 0;
  out = record { packets = []; cap = TURN_ROOM };
}

-- a new caller by a route, which asks for the route's contact
abbrev pub caller_by : Route → ℕ → CallerView
caller_by route count =
    record (new_caller route.me route.to route.config route.carriage count) { contact = route.contact }

-- ---- calls of the connection

module _ {A : Type 0} where
  abbrev pub after_call : CallerView → HostActed A → CallerView
  after_call c acted = record c { host = acted.view; out = with_put c.out acted.packets }

abbrev pub write_of : ItemView → ℕ → CallerView → HostActed HostReply
write_of item now c = call_by c.host (Write item.op item.body now) c.id

abbrev pub read_of : CallerView → HostActed HostReply
read_of c = call_by c.host Read c.id

-- The outbox has less room than this, and nothing was done; or the connection did it.
abbrev pub Acts : ℕ → {A : Type 0} → A → A → A → HostActed HostReply → CallerView → CallerView → Type 0
Acts room none done result acted c d =
    ((room_of c.out < room) × (result ≡ none) × (d ≡ c)) ⊎ ((result ≡ done) × (d ≡ after_call c acted))

-- The item was written to the connection at this moment, and it is told whether the connection took it.
abbrev pub Sends : ItemView → ℕ → Bool → CallerView → CallerView → Type 0
Sends item now taken c d = Acts 2 false (is_wrote (write_of item now c).answer) taken (write_of item now c) c d

-- The connection was read, and these are the data that it gave.
abbrev pub Receives : Option (List ℕ) → CallerView → CallerView → Type 0
Receives got c d = Acts 1 None (data_read (read_of c).answer) got (read_of c) c d

-- An item that wasn't written yet was; nothing was done where it was written before.
abbrev pub SendsOnce : Bool → ItemView → ℕ → Bool → CallerView → CallerView → Type 0
SendsOnce true item now taken c d = (taken ≡ true) × (d ≡ c)
SendsOnce false item now taken c d = Sends item now taken c d

-- The connection was read, where the command was written; nothing was done where it wasn't.
abbrev pub ReceivesBehind : Bool → Option (List ℕ) → CallerView → CallerView → Type 0
ReceivesBehind true got c d = Receives got c d
ReceivesBehind false got c d = (got ≡ None) × (d ≡ c)

-- ---- a connection's beginning and end

abbrev pub connect_of : ℕ → ℕ → CallerView → HostActed ConnectAnswer
connect_of start now c = host_connect c.host c.to c.contact start now

-- a connection for the caller's contact is asked for, where there is room for its RFC; so many milliseconds are waited for its OPN
abbrev pub asked : ℕ → ℕ → ℕ → CallerView → CallerView
asked start now wait c = if nat_lt 0 (room_of c.out)
    then record (after_call c (connect_of start now c)) { id = result_ok (connect_of start now c).answer; since = now; wait = wait }
    else record c { id = None; since = now; wait = wait }

abbrev pub closed_by : Option ℕ → CallerView → CallerView
closed_by None c = c
closed_by (Some id) c =
    if nat_lt 0 (room_of c.out) then record (after_call c (host_end c.host id (Close []))) { id = None } else record c
    { id = None }

-- the connection, where there is one, is closed with an empty text, where there is room for its CLS, and is the
-- caller's no more
abbrev pub closed : CallerView → CallerView
closed c = closed_by c.id c

abbrev pub has_asked : Result State CallFault → Bool
has_asked (Ok state.RfcSent) = true
has_asked _ = false

-- the connection was asked for, and no OPN came
abbrev pub is_asking : HostView → Option ℕ → Bool
is_asking h None = false
is_asking h (Some id) = has_asked (host_look h id (λ conn. conn.state))

-- a connection was asked for, and its OPN was waited for long enough
abbrev pub is_late : ℕ → CallerView → Bool
is_late now c = if is_asking c.host c.id then nat_le c.wait (now - c.since) else false

-- twice as long, up to the greatest u64
abbrev pub doubled : ℕ → ℕ
doubled wait = min (wait + wait) max_count

-- where no OPN came for so long, the connection is closed and another is asked for, whose OPN is waited for twice as long
abbrev pub asked_again : Pace → ℕ → CallerView → CallerView
asked_again p now c = if is_late now c then asked (p.starts now) now (doubled c.wait) (closed c) else c

abbrev pub has_drained : Result Bool CallFault → Bool
has_drained (Ok drained) = drained
has_drained (Err fault) = false

-- there is a connection, and its server read all that was written
abbrev pub all_read : HostView → Option ℕ → Bool
all_read h None = false
all_read h (Some id) = has_drained (host_look h id (λ conn. is_drained conn))

-- ---- turns

-- A client's turn was taken at this moment, between these states of the queue that its link is, and may have waited so. The
-- link was asked just what a turn asks.
abbrev pub TurnsAt : (List Ask → Type 0) → (Bool → Type 0) → ℕ → Option QueueView → Option QueueView → CallerView
    → CallerView → Type 0
TurnsAt Asked Waits now before after c d =
    (d ≡ record c { host = d.host; out = record { packets = []; cap = c.out.cap } })
    × TakesTurn Asked Waits c.carriage now c.host d.host before after c.out d.out

-- Nothing was done, and the link was asked nothing.
abbrev pub Stays : (List Ask → Type 0) → Option QueueView → Option QueueView → CallerView → CallerView → Type 0
Stays Asked before after c d = (d ≡ c) × (after ≡ before) × Asked []

-- The client asked again at this moment, where no OPN came for long, and a turn was taken, which may wait; or its clock told
-- none, and nothing was done.
abbrev pub TurnsOrStops : Pace → (List Ask → Type 0) → ℕ → ℕ → Option QueueView → Option QueueView → CallerView
    → CallerView → Type 0
TurnsOrStops p Asked was now before after c d =
    ((now ≡ was) × Stays Asked before after c d)
    ⊎ (p.Shows now × TurnsAt Asked (p.Waits true) now before after (asked_again p now c) d)

-- Nothing waits, and nothing was done; or what waits was sent in a turn, which doesn't wait.
abbrev pub SendsOn : Pace → (List Ask → Type 0) → Option QueueView → Option QueueView → CallerView → CallerView → Type 0
SendsOn p Asked before after c d =
    ((c.out.packets ≡ []) × Stays Asked before after c d)
    ⊎ ((now : ℕ) × p.Shows now × TurnsAt Asked (p.Waits false) now before after c d)

abbrev pub HangsUpBy : Option ℕ → Pace → (List Ask → Type 0) → Option QueueView → Option QueueView → CallerView
    → CallerView → Type 0
HangsUpBy None p Asked before after c d = Stays Asked before after c d
HangsUpBy (Some id) p Asked before after c d = SendsOn p Asked before after (closed_by (Some id) c) d

-- The connection was closed, where there was one, and the CLS was sent.
abbrev pub HangsUp : Pace → (List Ask → Type 0) → Option QueueView → Option QueueView → CallerView → CallerView → Type 0
HangsUp p Asked before after c d = HangsUpBy c.id p Asked before after c d

-- The caller hung up, and then asked at this moment for a connection that begins with the number of this moment.
abbrev pub Connects : Pace → (List Ask → Type 0) → ℕ → Option QueueView → Option QueueView → CallerView → CallerView → Type 0
Connects p Asked now before after c d =
    (b : CallerView) × HangsUp p Asked before after c b × p.Shows now × (d ≡ asked (p.starts now) now p.wait b)
