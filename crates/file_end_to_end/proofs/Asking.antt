-- An engine that closes its connection, or asks for one.
use Rattle.std.proofs.Common.{◌≡◌, ℕ, ◌<◌, Bool, true, false, if◌then◌else◌, List, [], Option, Some, None, refl, sym, ap, subst, inl, inr}
use Rattle.std.specs.Prelude.{nat_lt}
use Rattle.std.specs.Result.{result_ok}
use Rattle.chaos_packet.specs.Outbox.{room_of, with_put}
use Rattle.chaos_conn.specs.Act.Call.{Close}
use Rattle.chaos_file.specs.Store.{Files, change}
use Rattle.chaos_host.specs.Calls.{host_end}
use Rattle.chaos_host.specs.Deeds.{HostEvent, host_made}
use Rattle.chaos_host.specs.Deeds.HostEvent.{Connects, Ends}
use Rattle.chaos_lab.specs.declared.side.Side.TheVariants.{A}
use Rattle.chaos_net.specs.Net.{IsOwn}
use Rattle.chaos_net.specs.System.{TakesCall}
use Rattle.file_client.specs.Caller.{CallerView, after_call, asked, closed_by, connect_of}
use Rattle.file_net.specs.FileNet.{FileNet, FileEvent, FileRun}
use Rattle.file_end_to_end.specs.Program.{program_host, program_turns}
use Rattle.file_end_to_end.specs.System.{FileStandsFor}
use Rattle.file_end_to_end.specs.World.{World, system_by, system_of, ConnectionsAreAsked}
use Rattle.file_end_to_end.proofs.Systems.{client_calls}

module _ {S : Type 0} (contents : S → Option Files) (may_give : S → List ℕ → ℕ → List ℕ → Type 0) (count : S → ℕ)
    (m : Files) (w : World S) where
  -- a run leads to a file net that stands for the engine as it is then
  abbrev Reaches : FileNet → CallerView → Type 0
  Reaches f caller = (g : FileNet) × (events : List FileEvent) × FileRun f events g
      × FileStandsFor contents m (system_by caller w.posts w.server) g

  -- it did nothing with its host
  kept : (f : FileNet) (caller : CallerView) → FileStandsFor contents m (system_of w) f
      → caller.host ≡ w.client.caller.host → caller.out ≡ w.client.caller.out → Reaches f caller
  kept f caller stands host out = (
    f,
    [],
    refl,
    subst (λ z. FileStandsFor contents m z f)
        (λ j. system_by (record w.client.caller { host = sym host j; out = sym out j }) w.posts w.server) stands,
  )

  -- it made a call of its host's own
  called : (f : FileNet) (caller : CallerView) (event : HostEvent) → FileStandsFor contents m (system_of w) f → IsOwn event
      → caller.host ≡ (host_made w.client.caller.host event).view
      → caller.out ≡ with_put w.client.caller.out (host_made w.client.caller.host event).packets
      → Reaches f caller
  called f caller event stands own host out =
      let one : TakesCall program_host (program_turns (change contents may_give count)) event (system_of w A)
      (system_by caller w.posts w.server A) =
      record { own = own; host = host; waiting = ap (λ o. o.packets) out; posts = refl } in
      let r = client_calls contents may_give count m (system_of w) (system_by caller w.posts w.server) f event stands one refl tt in
      (r.net, r.events, r.run, r.stands)

  closes : (f : FileNet) (o : Option ℕ) → w.client.caller.id ≡ o → FileStandsFor contents m (system_of w) f
      → Reaches f (closed_by o w.client.caller)
  closes f None is stands = kept f w.client.caller stands refl refl
  closes f (Some id) is stands = by (nat_lt 0 (room_of w.client.caller.out))
    where
      by : (b : Bool) → Reaches f (if b then record (after_call w.client.caller (host_end w.client.caller.host id (Close []))) { id = None } else record w.client.caller { id = None })
      by true =
          called f (record (after_call w.client.caller (host_end w.client.caller.host id (Close []))) { id = None })
          (Ends id (Close [])) stands refl refl refl
      by false = kept f (record w.client.caller { id = None }) stands refl refl

  asks : (f : FileNet) (start now wait : ℕ) → start < 65536 → FileStandsFor contents m (system_of w) f
      → Reaches f (asked start now wait w.client.caller)
  asks f start now wait small stands = by (nat_lt 0 (room_of w.client.caller.out))
    where
      by : (b : Bool)
          → Reaches f (if b then record (after_call w.client.caller (connect_of start now w.client.caller)) { id = result_ok (connect_of start now w.client.caller).answer; since = now; wait = wait } else record w.client.caller { id = None; since = now; wait = wait })
      by true =
          called f
          (record (after_call w.client.caller (connect_of start now w.client.caller)) { id = result_ok (connect_of start now w.client.caller).answer; since = now; wait = wait })
          (Connects w.client.caller.to w.client.caller.contact start now) stands small refl refl
      by false = kept f (record w.client.caller { id = None; since = now; wait = wait }) stands refl refl

pub connections_are_asked : {S : Type 0} (contents : S → Option Files) (may_give : S → List ℕ → ℕ → List ℕ → Type 0)
    (count : S → ℕ) (m : Files) → ConnectionsAreAsked contents m
connections_are_asked contents may_give count m w f caller stands (inl is) =
    subst (Reaches contents may_give count m w f) (sym is)
    (closes contents may_give count m w f w.client.caller.id refl stands)
connections_are_asked contents may_give count m w f caller stands (inr (start, now, wait, small, is)) =
    subst (Reaches contents may_give count m w f) (sym is) (asks contents may_give count m w f start now wait small stands)
