-- What serving each slot does: a relation, since a session may make any of several replies.
use Rattle.std.specs.Prelude.{◌≡◌, ◌⊎◌, ◌≤◌, ◌<◌, zero, suc, ℕ, Bool, false, List, [], ◌∷◌, ◌++◌, length, Option, Some, None, slice_set}
use Rattle.chaos_packet.specs.Outbox.{OutboxView}
use Rattle.chaos_packet.specs.Packet.{PacketView}
use Rattle.chaos_host.specs.Slot.{named_slot, place_of}
use Rattle.chaos_host.specs.View.{HostView, id_at}
use Rattle.chaos_host.specs.Acted.{HostActed, HostDoes}
use Rattle.chaos_file.specs.Session.{SessionView}
use Rattle.chaos_file.specs.Store.{StoreChange}
use Rattle.chaos_file.specs.ServeAnswer.{IsAnswered, IsUnused}
use Rattle.chaos_file.specs.ServeCalls.{can_serve}
use Rattle.chaos_file.specs.ServeHost.{DoesWorkInSlotBy}
use Rattle.chaos_file.specs.declared.served.Served.{Served}
use Rattle.chaos_link.specs.Link.{Ask}
use Rattle.chaos_link.specs.declared.carriage.Carriage.{Carriage}
use Rattle.chaos_link.specs.declared.carriage.Carriage.TheVariants.{One, Two}
use Rattle.chaos_node.specs.Link.{SendsLots, has_packets}
use Rattle.file_server.specs.Sessions.{Serving, eof_after, serving_at, serving_of}
use Rattle.chaos_node.specs.Station.{Station}
use Rattle.file_server.specs.Server.{Server}
use Rattle.file_server.specs.declared.limits.TheConstants.{BURST}
use Rattle.file_server.specs.declared.serve_mode.ServeMode.{ServeMode}
use Rattle.file_server.specs.declared.serve_mode.ServeMode.TheVariants.{Burst, Once}

-- a server that sends bundles serves in bursts, so that the replies of a burst share datagrams
abbrev pub mode_of : Carriage → ServeMode
mode_of One = Once
mode_of Two = Burst

-- a slot's session after it was served with this answer, and was left as that
abbrev pub serving_after : Serving → SessionView → Served → Serving
serving_after serving session answer = record serving { session = session; eof = eof_after serving.eof answer }

-- What is made of a command that a session is given, and of none. `answered`: this reply answers this command.
pub record Use : Type 1 where
  pub answered : List ℕ → List ℕ → Type 0
  pub unused : Type 0

-- by a store alone
abbrev pub plain_use : StoreChange → SessionView → SessionView → Use
plain_use store s t = record { answered = IsAnswered store s t; unused = IsUnused store s t }

-- A slot's session serves the connection with an own index. `does`: the session is left as this, and the host did that.
abbrev pub SessionServesBy : (SessionView → SessionView → Use) → ℕ → ℕ → Serving → (Serving → HostActed Served → Type 0)
    → HostView → Type 0
SessionServesBy u now id serving does h = (session : SessionView)
    × DoesWorkInSlotBy (u serving.session session).answered (u serving.session session).unused
    (λ acted. does (serving_after serving session acted.answer) acted) h (place_of id) now (named_slot h.slots id)

abbrev pub SessionServes : StoreChange → ℕ → ℕ → Serving → (Serving → HostActed Served → Type 0) → HostView → Type 0
SessionServes store = SessionServesBy (plain_use store)

-- A slot's session is this, and the host did that.
pub record SlotDoes (serving left : Serving) (old : HostView) (acted : HostActed Served) (new : HostView)
    (before after : OutboxView) : Type 0 where
  pub session : left ≡ serving
  pub does : HostDoes old 2 acted new before after acted.answer

module _ {S : Type 0} where
  -- A server after the slot at a place was served: its session is this, the host did that, and what it put out is one
  -- lot.
  pub record IsServedAt (place : ℕ) (s t : Server S) (lots : List (List PacketView)) (serving : Serving)
      (acted : HostActed Served) : Type 0 where
    pub host : t.host ≡ acted.view
    pub sessions : t.sessions ≡ slice_set s.sessions place serving
    pub out : lots ≡ acted.packets ∷ []

  -- A server at its link did this: the link was asked to send the packets by this carriage, and nothing else, and whether
  -- there were any was told. The outbox is as it was; so are the configuration and the numbers of slots and of sessions.
  pub record ServerDoes (asked : List Ask → Type 0) (carriage : Carriage)
      (does : Server S → Server S → List (List PacketView) → Type 0)
      (before after : Station (Server S)) (sent : Bool) : Type 0 where
    pub lots : List (List PacketView)
    pub done : does before.node after.node lots
    pub sends : SendsLots asked carriage before.queue lots after.queue
    pub outbox : after.outbox ≡ before.outbox
    pub told : sent ≡ has_packets lots
    pub config : after.node.host.config ≡ before.node.host.config
    pub size : length after.node.host.slots ≡ length before.node.host.slots
    pub count : length after.node.sessions ≡ length before.node.sessions

-- what is made of commands by what a server keeps, before and after them, for a connection of a host by its own index
abbrev pub Uses : Type 0 → Type 1
Uses S = S → S → HostView → ℕ → SessionView → SessionView → Use

abbrev pub plain_uses : {S : Type 0} → (S → S → StoreChange) → Uses S
plain_uses changes s t h id = plain_use (changes s t)

-- A burst of so many commands, which put out these packets, is over: nothing more in front can be served, or the burst is
-- as long as a burst may be.
abbrev pub IsBurstOver : HostView → ℕ → ℕ → List PacketView → Type 0
IsBurstOver h id times packets = (can_serve h id ≡ false) ⊎ ((times ≡ BURST) ⊎ (BURST < length packets))

module _ {S : Type 0} (uses : Uses S) where
  -- The connection at a place, where there is one, is served once: the server became this, and these lots went out.
  abbrev pub ServesPlaceBy : ℕ → ℕ → Option ℕ → Server S → Server S → List (List PacketView) → Type 0
  ServesPlaceBy now place None s t lots = (t ≡ s) × (lots ≡ [])
  ServesPlaceBy now place (Some id) s t lots =
      SessionServesBy (uses s.store t.store s.host id) now id (serving_of id now (serving_at s.sessions place))
      (IsServedAt place s t lots) s.host

  -- The connection with this index, at a place, is served so many times, one after another, and these packets are put out.
  abbrev pub ServesTimesBy : ℕ → ℕ → ℕ → ℕ → Server S → Server S → List PacketView → Type 0
  ServesTimesBy now place id zero s t packets = (t ≡ s) × (packets ≡ [])
  ServesTimesBy now place id (suc times) s t packets = (m : Server S) × (first last : List PacketView)
      × ServesTimesBy now place id times s m first × ServesPlaceBy now place (Some id) m t (last ∷ [])
      × (packets ≡ first ++ last)

  -- The connection is served in a burst: again and again, until the burst is over. What it puts out goes out at once.
  pub record ServesBurstBy (now place id : ℕ) (s t : Server S) (lots : List (List PacketView)) : Type 0 where
    pub times : ℕ
    pub packets : List PacketView
    pub some : 1 ≤ times
    pub few : times ≤ BURST
    pub serves : ServesTimesBy now place id times s t packets
    pub ends : IsBurstOver t.host id times packets
    pub out : lots ≡ packets ∷ []

  -- The connection at a place, where there is one, is served once, or in a burst.
  abbrev pub ServesModeBy : ServeMode → ℕ → ℕ → Option ℕ → Server S → Server S → List (List PacketView) → Type 0
  ServesModeBy Once now place there s t lots = ServesPlaceBy now place there s t lots
  ServesModeBy Burst now place None s t lots = (t ≡ s) × (lots ≡ [])
  ServesModeBy Burst now place (Some id) s t lots = ServesBurstBy now place id s t lots

  -- The slot at a place is served so.
  abbrev pub ServesSlotBy : ServeMode → ℕ → ℕ → Server S → Server S → List (List PacketView) → Type 0
  ServesSlotBy mode now place s t lots = ServesModeBy mode now place (id_at s.host place) s t lots

  -- Each of the first so many slots is served so, in rising order.
  abbrev pub ServesSlotsBy : ServeMode → ℕ → ℕ → Server S → Server S → List (List PacketView) → Type 0
  ServesSlotsBy mode now zero s t lots = (t ≡ s) × (lots ≡ [])
  ServesSlotsBy mode now (suc n) s t lots = (m : Server S) × (first last : List (List PacketView))
      × ServesSlotsBy mode now n s m first × ServesSlotBy mode now n m t last × (lots ≡ first ++ last)

-- the same by a store alone
module _ {S : Type 0} (changes : S → S → StoreChange) where
  abbrev pub ServesPlace : ℕ → ℕ → Option ℕ → Server S → Server S → List (List PacketView) → Type 0
  ServesPlace = ServesPlaceBy (plain_uses changes)

  abbrev pub ServesTimes : ℕ → ℕ → ℕ → ℕ → Server S → Server S → List PacketView → Type 0
  ServesTimes = ServesTimesBy (plain_uses changes)

  abbrev pub ServesBurst : ℕ → ℕ → ℕ → Server S → Server S → List (List PacketView) → Type 0
  ServesBurst = ServesBurstBy (plain_uses changes)

  abbrev pub ServesMode : ServeMode → ℕ → ℕ → Option ℕ → Server S → Server S → List (List PacketView) → Type 0
  ServesMode = ServesModeBy (plain_uses changes)

  abbrev pub ServesSlots : ServeMode → ℕ → ℕ → Server S → Server S → List (List PacketView) → Type 0
  ServesSlots = ServesSlotsBy (plain_uses changes)
