-- Phases of a server's turn that has begun, one after another.
use Rattle.std.proofs.Common.{◌≡◌, ◌≢◌, ℕ, suc, Bool, true, false, if◌then◌else◌, List, [], length, slice_get, Option, Some, None, Ok, Err, refl, ap, sym, ◌∙◌, subst, slice_set}
use Rattle.std.proofs.lemmas.List.{append-nil, set-get_or}
use Rattle.chaos_packet.specs.Packet.{PacketView}
use Rattle.chaos_conn.specs.View.{ConnView}
use Rattle.chaos_file.specs.ServeCalls.{is_served}
use Rattle.chaos_file.specs.ServeWork.{work_of}
use Rattle.chaos_file.specs.Session.{SessionView}
use Rattle.chaos_host.specs.Deliver.{host_deliver}
use Rattle.chaos_host.specs.Disposition.{host_with_packet}
use Rattle.chaos_host.specs.View.{HostView, host_look, id_at}
use Rattle.chaos_host.specs.declared.answers.HostDelivered.{HostDelivered}
use Rattle.chaos_host.specs.declared.answers.HostDisposition.{HostDisposition}
use Rattle.chaos_host.specs.declared.answers.HostDisposition.TheVariants as disposition
use Rattle.chaos_link.specs.declared.carriage.Carriage.{Carriage}
use Rattle.chaos_link.specs.Link.{Asks}
use Rattle.chaos_link.specs.declared.link.Link.{Ghosts}
use Rattle.chaos_node.specs.Arrive.{Arrival, deliver_effect}
use Rattle.chaos_node.specs.InTurn.{IsSameTurn, TurnDoes, station_of}
use Rattle.chaos_node.specs.Phase.{DoesPhase, Effect, and_then, over_packets}
use Rattle.chaos_node.specs.declared.turn.Turn.{Turn}
use Rattle.chaos_node.proofs.InTurn.{TurnTakes, same_twice, still, then_does}
use Rattle.chaos_node.proofs.Queue.{none_left}
use Rattle.file_server.specs.Arrive.{accept_by, arrive_at_server, greet, request_in}
use Rattle.file_server.specs.InTurn.{ServerTurnDoes, server_in}
use Rattle.file_server.specs.Serve.{ServerDoes, ServesSlotBy, ServesSlotsBy, Uses}
use Rattle.file_server.specs.Server.{Server, after_giving_back, with_host}
use Rattle.file_server.specs.Sessions.{Serving, new_serving, serving_at, serving_of}
use Rattle.file_server.specs.Slots.{Options, end_phases}
use Rattle.file_server.specs.Turn.{IsTurnBy}
use Rattle.file_server.specs.declared.serve_mode.ServeMode.{ServeMode}
use Rattle.file_server.proofs.Passed.{passed_so}
use Rattle.file_server.proofs.Relation.{slots_so}
use Rattle.file_server.proofs.Whole.{turn_so}

-- the packets of what came
abbrev pub packets_in : Arrival → List PacketView
packets_in (Some (Ok packets)) = packets
packets_in _ = []

greets_in : (came : Arrival) (start now : ℕ) (h : HostView)
    → over_packets (greet start now) (packets_in came) h ≡ arrive_at_server came start now h
greets_in None start now h = refl
greets_in (Some (Err fault)) start now h = refl
greets_in (Some (Ok packets)) start now h = refl

-- whether packets went out in any of three phases
pub any_is : (last more sent : Bool)
    → (if last then true else (if more then true else sent)) ≡ (if (if last then true else more) then true else sent)
any_is true more sent = refl
any_is false more sent = refl

-- what is no request is no request for FILE
pub none_asked : (became : HostDisposition) (p : PacketView) → ((id : ℕ) → became ≢ disposition.Requested id)
    → request_in p (host_with_packet became p) ≡ None
none_asked (disposition.Requested id) p not = absurd (not id refl)
none_asked (disposition.At id told) p not = refl
none_asked disposition.NoServer p not = refl
none_asked disposition.TableFull p not = refl
none_asked disposition.NoConnection p not = refl
none_asked (disposition.Dropped why) p not = refl

module _ {L : Type 0} {G : Ghosts L} where
  -- a packet was delivered, and the request for FILE that it is, accepted
  pub greeted : (start : ℕ) (p : PacketView) (a b c : Turn L G) (became : HostDelivered) (request : Option ℕ)
      (sent more all : Bool)
      → became ≡ (host_deliver a.host.now p a.now).answer → request ≡ request_in p became
      → TurnDoes a b (deliver_effect a.now p a.host.now) sent
      → TurnDoes b c (accept_by b.host.now start b.now request) more → all ≡ (if more then true else sent)
      → TurnDoes a c (greet start a.now p a.host.now) all
  greeted start p a b c became request sent more all is asked delivered accepted told =
      let wanted : Option ℕ = request_in p (host_deliver a.host.now p a.now).answer in
      let found : request ≡ wanted = asked ∙ ap (request_in p) is in
      then_does a b c (deliver_effect a.now p a.host.now) (λ now after. accept_by after start now wanted) sent more all
      delivered (subst (λ (r : Option ℕ). TurnDoes b c (accept_by b.host.now start b.now r) more) found accepted) told

  -- all packets of what came were greeted
  pub all_greeted : (came : Arrival) (start : ℕ) (rest : List PacketView) (a b : Turn L G) (sent : Bool)
      → TurnTakes (greet start a.now) (packets_in came) rest a b sent → slice_get rest 0 ≡ None
      → TurnDoes a b (arrive_at_server came start a.now a.host.now) sent
  all_greeted came start rest a b sent so none =
      let done = so.0.done in
      let all : done ≡ arrive_at_server came start a.now a.host.now =
      ap (λ (lots : List (List PacketView)). record { host = done.host; lots = lots }) (sym (append-nil done.lots))
      ∙ ap (λ (ps : List PacketView). and_then done (over_packets (greet start a.now) ps)) (sym (none_left rest none))
      ∙ so.0.whole ∙ greets_in came start a.now a.host.now in (
        subst
            (λ (e : Effect). DoesPhase (Asks (G.asked a.link.now) (G.asked b.link.now)) a.carriage e (station_of a)
            (station_of b) sent) all so.0.does,
        so.1,
      )

module _ {L S : Type 0} {G : Ghosts L} (uses : Uses S) where
  -- a phase of the turn at its moment and by its carriage, as they were when the turn began
  serves_still : (a b c : Turn L G) (does : ℕ → Server S → Server S → List (List PacketView) → Type 0)
      (xs ys : List Serving) (s t : S) (sent : Bool)
      → IsSameTurn a b → ServerTurnDoes b c (does b.now) xs ys s t sent
      → ServerDoes (Asks (G.asked b.link.now) (G.asked c.link.now)) a.carriage (does a.now) (server_in b xs s)
      (server_in c ys t) sent
  serves_still a b c does xs ys s t sent same one =
      subst
      (λ (k : Carriage). ServerDoes (Asks (G.asked b.link.now) (G.asked c.link.now)) k (does a.now) (server_in b xs s)
      (server_in c ys t) sent) same.3
      (subst
      (λ (n : ℕ). ServerDoes (Asks (G.asked b.link.now) (G.asked c.link.now)) b.carriage (does n) (server_in b xs s)
      (server_in c ys t) sent) same.4 one.0)

  -- the first slots were served, and then the next
  pub one_served : (mode : ServeMode) (a b c : Turn L G) (place : ℕ) (xs ys zs : List Serving) (s t u : S) (sent more all : Bool)
      → ServerTurnDoes a b (ServesSlotsBy uses mode a.now place) xs ys s t sent
      → ServerTurnDoes b c (ServesSlotBy uses mode b.now place) ys zs t u more
      → all ≡ (if more then true else sent)
      → ServerTurnDoes a c (ServesSlotsBy uses mode a.now (suc place)) xs zs s u all
  one_served mode a b c place xs ys zs s t u sent more all one two e = (
    slots_so uses a.carriage (server_in a xs s) (server_in b ys t) (server_in c zs u) mode place a.now sent more all
        one.0 (serves_still a b c (λ (now : ℕ). ServesSlotBy uses mode now place) ys zs t u more one.1 two) e,
    same_twice a b c one.1 two.1,
  )

  -- the first slots were served, and the next has nothing to serve
  pub none_to_serve : (mode : ServeMode) (a b : Turn L G) (place id : ℕ) (conn : ConnView) (here : Serving) (xs ys : List Serving) (s t : S)
      (sent : Bool)
      → ServerTurnDoes a b (ServesSlotsBy uses mode a.now place) xs ys s t sent
      → id_at b.host.now place ≡ Some id → here ≡ serving_at ys place → serving_of id b.now here ≡ here
      → host_look b.host.now id (λ c. c) ≡ Ok conn → is_served (Some (work_of conn)) ≡ false
      → ((v : SessionView) → (uses t t b.host.now id v v).unused)
      → ServerTurnDoes a b (ServesSlotsBy uses mode a.now (suc place)) xs ys s t sent
  none_to_serve mode a b place id conn here xs ys s t sent done there is serves shows none same =
      one_served mode a b b place xs ys ys s t t sent false sent done (
        passed_so uses b.carriage mode here ys ys t place id b.now b.host.now conn b.out.now (G.queue b.link.now) there is
            (sym (ap (slice_set ys place) is ∙ set-get_or ys place new_serving)) serves shows none same b.empty,
        (refl, refl, refl, refl, refl),
      ) refl

  -- what came was taken, each slot was served, and the last phases were made; the files were given back
  pub turn_taken : (mode : ServeMode) (options : Options) (came : Arrival) (start : ℕ) (a b c d : Turn L G) (xs ys zs : List Serving)
      (s t : S) (x y z all : Bool)
      → TurnDoes a b (arrive_at_server came start a.now a.host.now) x
      → ServerTurnDoes b c (ServesSlotsBy uses mode b.now (length b.host.now.slots)) xs ys s t y
      → TurnDoes c d (end_phases options ys c.now c.host.now) z
      → (server_in d zs t).node ≡ after_giving_back (with_host (server_in c ys t).node d.host.now)
      → all ≡ (if x then true else (if y then true else z))
      → ServerTurnDoes a d (IsTurnBy uses mode options came start a.now) xs zs s t all
  turn_taken mode options came start a b c d xs ys zs s t x y z all one two three given e =
      let same = same_twice a b c one.1 two.1 in (
        turn_so uses a.carriage mode options came start a.now (server_in a xs s) (server_in b xs s) (server_in c ys t)
            (server_in d zs t) x y z all refl given one.0
            (serves_still a b c (λ (now : ℕ). ServesSlotsBy uses mode now (length b.host.now.slots)) xs ys s t y one.1 two)
            (still a c d (λ (now : ℕ). end_phases options ys now c.host.now) z same three) e,
        same_twice a c d same three.1,
      )
