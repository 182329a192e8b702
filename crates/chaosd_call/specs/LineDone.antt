-- What it means that the status of a line which calls a server is Done.
use Rattle.std.specs.Prelude.{◌≡◌, ◌∷◌, ℕ, List, []}
use Rattle.chaos_node.specs.Timer.{new_timer}
use Rattle.chaos_node.specs.declared.timer.Interval.TheVariants.{Measured}
use Rattle.file_copy.specs.declared.talk.Talk as t
use Rattle.chaosd_line.specs.declared.ends.Ends.{Ends}
use Rattle.chaosd_line.specs.declared.framing.Framing.{Framing}
use Rattle.chaosd_line.specs.declared.framing.Framing.TheVariants.{Chudp, Own}
use Rattle.chaosd_line.specs.declared.line.Calling.{Calling}
use Rattle.file_client.specs.Caller.{CallerView, caller_by}
use Rattle.file_client.specs.declared.client.Client.{Client}
use Rattle.file_client.specs.declared.clock_driver.ClockDriver.{ClockDriver}
use Rattle.file_client.specs.declared.route.Route.{Route}
use Rattle.file_client.specs.declared.timing.Timing.{Timing}
use Rattle.chaosd_call.specs.Called.{LeadsTo}
use Rattle.chaosd_call.specs.Job.{Job, JobDone}
use Rattle.chaosd_call.specs.Patience.{patience_by}
use Rattle.chaosd_call.specs.Routes.{IsRouteOf}

module _ {C L : Type 0} (talk : t.Ghosts (Client (ClockDriver C L))) where
  -- A client that began with this engine, this timing and a timer that measures did the whole job, and nothing else.
  abbrev pub DoneBy : CallerView → Timing → List ℕ → Job → Type 0
  DoneBy engine timing user job = (client now : Client (ClockDriver C L)) × (client.host.now.caller ≡ engine)
      × (client.driver.timing ≡ timing) × (client.driver.timers.now ≡ new_timer Measured ∷ []) × JobDone talk.talked talk.connects user job client now

  -- A client did the whole job between these ends, and nothing else. The client began with a new engine, which calls as the line
  -- says, and waited for each reply as long as the line says.
  pub record DoneBetween (calling : Calling) (ends : Ends) (job : Job) : Type 0 where
    pub route : Route
    pub is_route : IsRouteOf calling ends route
    pub passed : ℕ
    pub timing : Timing
    pub patience : timing.patience ≡ patience_by calling.timeout
    pub done : DoneBy (caller_by route passed) timing calling.login.now job

  -- The same between the ends to which the line leads.
  abbrev pub LineDone : Calling → Job → Type 0
  LineDone calling job = (ends : Ends) × LeadsTo calling.target ends × DoneBetween calling ends job

-- The first fact, if packets stand in the program's own datagrams, or the second, if they stand in CHUDP.
abbrev pub ByFraming : Framing → Type 0 → Type 0 → Type 0
ByFraming (Own carriage) own chudp = own
ByFraming (Chudp bridge) own chudp = chudp
