-- A whole turn of a server of its parts.
use Rattle.std.proofs.Common.{◌≡◌, zero, suc, ℕ, Bool, true, if◌then◌else◌, List, ◌++◌, length, Option, Some, None, refl, ap, sym, ◌∙◌, subst}
use Rattle.std.proofs.lemmas.List.{length-set}
use Rattle.chaos_host.specs.View.{HostView, id_at}
use Rattle.chaos_link.specs.Link.{Ask, AskedSince, Asks}
use Rattle.chaos_link.specs.declared.carriage.Carriage.{Carriage}
use Rattle.chaos_node.specs.Arrive.{Arrival}
use Rattle.chaos_node.specs.Link.{has_packets}
use Rattle.chaos_node.specs.Phase.{DoesPhase}
use Rattle.chaos_node.specs.Station.{Station, station}
use Rattle.chaos_node.proofs.Queue.{sends_both}
use Rattle.chaos_node.proofs.Whole.{has_all}
use Rattle.file_server.specs.Arrive.{arrive_at_server}
use Rattle.file_server.specs.Serve.{ServerDoes, ServesSlotsBy, Uses}
use Rattle.file_server.specs.Server.{Server, after_giving_back, with_host}
use Rattle.file_server.specs.Sessions.{Serving, serving_at, without_files}
use Rattle.file_server.specs.Slots.{Options, end_phases, given_back, given_back_at}
use Rattle.file_server.specs.Turn.{IsTurnBy}
use Rattle.file_server.specs.declared.serve_mode.ServeMode.{ServeMode}

-- a server at its link, of whose station its host's phases see the host
abbrev pub host_at : {S : Type 0} → Station (Server S) → Station HostView
host_at a = station a.node.host a.queue a.outbox

-- as many sessions as before
as_many_at : (found : Option ℕ) (place : ℕ) (sessions : List Serving)
    → length (given_back_at found place sessions) ≡ length sessions
as_many_at None place sessions = length-set sessions place (without_files (serving_at sessions place))
as_many_at (Some id) place sessions = refl

pub as_many : (h : HostView) (n : ℕ) (sessions : List Serving) → length (given_back h n sessions) ≡ length sessions
as_many h zero sessions = refl
as_many h (suc n) sessions = as_many_at (id_at h n) n (given_back h n sessions) ∙ as_many h n sessions

module _ {S : Type 0} (uses : Uses S) where
  -- what came, then each slot served, then the last phases, and the files of those without a connection given back
  pub turn_so : {L : Type 0} {aa ab ac ad : AskedSince L Ask} (carriage : Carriage) (mode : ServeMode) (options : Options) (came : Arrival) (start now : ℕ) (a b c d : Station (Server S)) (x y z all : Bool)
      → b.node ≡ with_host a.node b.node.host → d.node ≡ after_giving_back (with_host c.node d.node.host)
      → DoesPhase (Asks aa ab) carriage (arrive_at_server came start now a.node.host) (host_at a) (host_at b) x
      → ServerDoes (Asks ab ac) carriage (ServesSlotsBy uses mode now (length b.node.host.slots)) b c y
      → DoesPhase (Asks ac ad) carriage (end_phases options c.node.sessions now c.node.host) (host_at c) (host_at d) z
      → all ≡ (if x then true else (if y then true else z))
      → ServerDoes (Asks aa ad) carriage (IsTurnBy uses mode options came start now) a d all
  turn_so carriage mode options came start now a b c d x y z all same same' one two three e =
      let first = arrive_at_server came start now a.node.host in
      let last = end_phases options c.node.sessions now c.node.host in
      let arrived : b.node ≡ with_host a.node first.host = same ∙ ap (with_host a.node) one.host in
      let each : ServesSlotsBy uses mode now (length a.node.host.slots) (with_host a.node first.host) c.node two.lots
      = subst (λ (n : ℕ). ServesSlotsBy uses mode now n (with_host a.node first.host) c.node two.lots) one.size
      (subst (λ (s : Server S). ServesSlotsBy uses mode now (length b.node.host.slots) s c.node two.lots) arrived
      two.done) in
      record {
        lots = first.lots ++ (two.lots ++ last.lots);
        done =
            record { served = c.node; replies = two.lots; serves = each; ended = same' ∙ ap (λ (h : HostView). after_giving_back (with_host c.node h)) three.host; out = refl };
        sends =
            sends_both carriage a.queue b.queue d.queue first.lots (two.lots ++ last.lots) one.sends
            (sends_both carriage b.queue c.queue d.queue two.lots last.lots two.sends three.sends);
        outbox = three.outbox ∙ (two.outbox ∙ one.outbox);
        told = e ∙ (ap (λ (t : Bool). if t then true else (if y then true else z)) one.told
            ∙ (ap (λ (t : Bool). if has_packets first.lots then true else (if t then true else z)) two.told
            ∙ (ap (λ (t : Bool). if has_packets first.lots then true else (if has_packets two.lots then true else t))
            three.told
            ∙ sym (has_all first.lots two.lots last.lots))));
        config = three.config ∙ (two.config ∙ one.config);
        size = three.size ∙ (two.size ∙ one.size);
        count =
            ap (λ (s : Server S). length s.sessions) same'
            ∙ (as_many d.node.host (length d.node.host.slots) c.node.sessions
            ∙ (two.count ∙ ap (λ (s : Server S). length s.sessions) same));
      }
