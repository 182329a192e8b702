-- What stays at B while no connection ends, and what is kept while some do.
use Rattle.std.proofs.Common.{◌≡◌, ℕ, true, List, [], ◌∷◌, length, Option, Some, None, refl, sym, ap, ◌∙◌, subst}
use Rattle.std.specs.Prelude.{slice_get}
use Rattle.std.specs.List.{AllByRecursion}
use Rattle.std.proofs.lemmas.List.{length-set}
use Rattle.chaos_conn.specs.Act.{Call}
use Rattle.chaos_conn.specs.Act.Call.{Accept, Write, FinishRead, Close}
use Rattle.chaos_file.specs.Store.{Files}
use Rattle.chaos_host.specs.View.{HostView, IsHost}
use Rattle.chaos_host.specs.Deeds.{HostEvent, Deed, HostMade, IsDeed, IsEvent, deed_of, host_made, is_users}
use Rattle.chaos_host.specs.Deeds.HostEvent.{Comes, Calls, Ends, Releases, Ticks}
use Rattle.chaos_host.specs.Deeds.Deed.{Nothing, Does}
use Rattle.chaos_host.proofs.Deeds.{has_deeds}
use Rattle.chaos_lab.specs.declared.side.Side.TheVariants.{A, B}
use Rattle.chaos_net.specs.Net.{Name, Story, Sent, Net, NetEvent, Reached, arrives, happens}
use Rattle.chaos_net.specs.Net.NetEvent.{At, Arrives}
use Rattle.chaos_net.specs.Played.{ArePlayed}
use Rattle.chaos_net.proofs.Lasting.{stories_last}
use Rattle.chaos_net.proofs.Network.{reached_is_played}
use Rattle.chaos_net.proofs.Standing.{reached_on}
use Rattle.chaos_packet.specs.Opcode.{op_data}
use Rattle.chaos_file.specs.ServeWork.{Work, NotOpen, Nothing as Idle, Full, LastItem, Command}
use Rattle.chaos_file.specs.ServeCalls.{work_at}
use Rattle.file_server.specs.Sessions.{Serving}
use Rattle.file_net.specs.History.{Way}
use Rattle.file_net.specs.FileNet.{FileNet, FileEvent, Nets, Serves, FileRun, after_reading, served_by, transaction_of, file_happens}
use Rattle.file_net.proofs.Kept.{IsSound, event_keeps}
use Rattle.chaos_net.specs.Present.{named}
use Rattle.file_end_to_end.specs.Server.{IsKept}
use Rattle.file_end_to_end.proofs.Turning.{comes_turns, calls_turns, calls_kept, ends_kept, releases_kept, ticks_kept}
use Rattle.file_end_to_end.proofs.Led.{IsArriving, IsEnding}

-- ---- the number of slots

deed_size : (v : HostView) (d : Deed) (made : HostMade) → IsDeed v d made → length made.view.slots ≡ length v.slots
deed_size v Nothing made done = ap length done.slots
deed_size v (Does place call) made done =
    ap (λ (w : HostView). length w.slots) done.view ∙ length-set v.slots place _

pub event_size : (v : HostView) → IsHost v → (event : HostEvent) → IsEvent event
    → length (host_made v event).view.slots ≡ length v.slots
event_size v h event is = deed_size v (deed_of v event) (host_made v event) (has_deeds v event h is)

-- ---- while no connection of B ends

-- turns stay, no story is lost, and there are as many slots
pub record IsSteady (n m : Net) : Type 0 where
  pub turns : (place : ℕ) → (m B).turn place ≡ (n B).turn place
  pub stories : (c : Name) (s : Story) → (n B).story c ≡ Some s → (t : Story) × ((m B).story c ≡ Some t)
  pub size : length (m B).host.slots ≡ length (n B).host.slots

same_steady : (n : Net) → IsSteady n n
same_steady n = record { turns = λ place. refl; stories = λ c s is. (s, is); size = refl }

pub then_steady : (n m k : Net) → IsSteady n m → IsSteady m k → IsSteady n k
then_steady n m k p q = record {
  turns = λ place. q.turns place ∙ p.turns place;
  stories = λ c s is. let one = p.stories c s is in q.stories c one.0 one.1;
  size = q.size ∙ p.size;
}

lasting : (n : Net) (event : NetEvent) (c : Name) (s : Story) → (n B).story c ≡ Some s
    → (t : Story) × ((happens n event B).story c ≡ Some t)
lasting n event c s is = let l = stories_last n (event ∷ []) B c s is in (l.0, l.1)

calls_steady : (n : Net) → ArePlayed n → (id : ℕ) (call : Call) → is_users call ≡ true
    → IsSteady n (happens n (At B (Calls id call)))
calls_steady n h id call users = record {
  turns = λ place. calls_turns (n B) (n A) (h B).station id call users None place;
  stories = λ c s is. lasting n (At B (Calls id call)) c s is;
  size = event_size (n B).host (h B).station.host (Calls id call) users;
}

comes_steady : (n : Net) → ArePlayed n → (number now : ℕ) → IsSteady n (happens n (Arrives B number now))
comes_steady n h number now = record {
  turns = λ place. by_turn place (slice_get (n A).sent number);
  stories = λ c s is. lasting n (Arrives B number now) c s is;
  size = by_size (slice_get (n A).sent number);
}
  where
    by_turn : (place : ℕ) (o : Option Sent) → (arrives n B now o B).turn place ≡ (n B).turn place
    by_turn place None = refl
    by_turn place (Some q) = comes_turns (n B) (n A) (h B).station q.packet now q.by place

    by_size : (o : Option Sent) → length (arrives n B now o B).host.slots ≡ length (n B).host.slots
    by_size None = refl
    by_size (Some q) = event_size (n B).host (h B).station.host (Comes q.packet now) tt

arriving_steady : (f : FileNet) (event : FileEvent) → Reached f.net → IsArriving event
    → IsSteady f.net (file_happens f event).net
arriving_steady f (Nets (Arrives B number now)) r kind = comes_steady f.net (reached_is_played f.net r) number now
arriving_steady f (Nets (At B (Calls id (Accept start now)))) r kind =
    calls_steady f.net (reached_is_played f.net r) id (Accept start now) refl
arriving_steady f event r kind = absurd kind

pub arrivals_steady : (m : Files) (events : List FileEvent) (f g : FileNet) → IsSound m f → FileRun f events g
    → AllByRecursion IsArriving events → IsSteady f.net g.net
arrivals_steady m [] f g h is all = subst (λ (z : FileNet). IsSteady f.net z.net) (sym is) (same_steady f.net)
arrivals_steady m (event ∷ events) f g h r all =
    then_steady f.net (file_happens f event).net g.net (arriving_steady f event h.reached all.0)
    (arrivals_steady m events (file_happens f event) g (event_keeps m f event r.0 h) r.1 all.1)

-- B's server serves one connection
work_steady : (f : FileNet) (id now : ℕ) (way : Way) → Reached f.net → (o : Option Work)
    → IsSteady f.net (served_by f id now way o).net
work_steady f id now way r None = same_steady f.net
work_steady f id now way r (Some (NotOpen state)) = same_steady f.net
work_steady f id now way r (Some Idle) = same_steady f.net
work_steady f id now way r (Some Full) = same_steady f.net
work_steady f id now way r (Some LastItem) = calls_steady f.net (reached_is_played f.net r) id FinishRead refl
work_steady f id now way r (Some (Command body)) =
    let one : Net = after_reading f.net id in
    let call : Call = Write op_data (transaction_of f.service (named (f.net B) id) body way).reply now in
    let still = reached_on f.net (At B (Calls id FinishRead)) r refl in
    then_steady f.net one (happens one (At B (Calls id call)))
    (calls_steady f.net (reached_is_played f.net r) id FinishRead refl)
    (calls_steady one (reached_is_played one still) id call refl)

pub serves_steady : (f : FileNet) (id now : ℕ) (way : Way) → Reached f.net
    → IsSteady f.net (file_happens f (Serves id now way)).net
serves_steady f id now way r = work_steady f id now way r (work_at (f.net B).host id)

-- what is kept for each slot stays right, by the sessions as they were
work_kept : (f : FileNet) (id now : ℕ) (way : Way) → Reached f.net → (p : ℕ) (serving : Serving)
    → IsKept (f.net B).turn (f.net B).story f.service.session p serving → (o : Option Work)
    → IsKept ((served_by f id now way o).net B).turn ((served_by f id now way o).net B).story f.service.session p serving
work_kept f id now way r p serving k None = k
work_kept f id now way r p serving k (Some (NotOpen state)) = k
work_kept f id now way r p serving k (Some Idle) = k
work_kept f id now way r p serving k (Some Full) = k
work_kept f id now way r p serving k (Some LastItem) =
    calls_kept (f.net B) (f.net A) ((reached_is_played f.net r) B).station f.service.session None p serving k id FinishRead refl
work_kept f id now way r p serving k (Some (Command body)) =
    let one : Net = after_reading f.net id in
    let call : Call = Write op_data (transaction_of f.service (named (f.net B) id) body way).reply now in
    let still = reached_on f.net (At B (Calls id FinishRead)) r refl in
    calls_kept (one B) (one A) ((reached_is_played one still) B).station f.service.session None p serving
    (calls_kept (f.net B) (f.net A) ((reached_is_played f.net r) B).station f.service.session None p serving k id FinishRead refl)
    id call refl

pub serves_kept : (f : FileNet) (id now : ℕ) (way : Way) → Reached f.net → (p : ℕ) (serving : Serving)
    → IsKept (f.net B).turn (f.net B).story f.service.session p serving
    → IsKept ((file_happens f (Serves id now way)).net B).turn ((file_happens f (Serves id now way)).net B).story
    f.service.session p serving
serves_kept f id now way r p serving k = work_kept f id now way r p serving k (work_at (f.net B).host id)

work_far : (f : FileNet) (id now : ℕ) (way : Way) (o : Option Work) → (served_by f id now way o).net A ≡ f.net A
work_far f id now way None = refl
work_far f id now way (Some (NotOpen state)) = refl
work_far f id now way (Some Idle) = refl
work_far f id now way (Some Full) = refl
work_far f id now way (Some LastItem) = refl
work_far f id now way (Some (Command body)) = refl

-- and A does nothing
pub serves_far : (f : FileNet) (id now : ℕ) (way : Way) → (file_happens f (Serves id now way)).net A ≡ f.net A
serves_far f id now way = work_far f id now way (work_at (f.net B).host id)

-- nothing is served while packets come
arriving_service : (f : FileNet) (event : FileEvent) → IsArriving event → (file_happens f event).service ≡ f.service
arriving_service f (Nets event) kind = refl
arriving_service f (Serves id now way) kind = absurd kind

pub arrivals_service : (events : List FileEvent) (f g : FileNet) → FileRun f events g
    → AllByRecursion IsArriving events → g.service ≡ f.service
arrivals_service [] f g is all = ap (λ z. z.service) is
arrivals_service (event ∷ events) f g r all =
    arrivals_service events (file_happens f event) g r.1 all.1 ∙ arriving_service f event all.0

-- ---- while some end

-- what is kept for the slots stays right, and there are as many
pub record Keeps (f g : FileNet) : Type 0 where
  pub kept : (place : ℕ) (serving : Serving) → IsKept (f.net B).turn (f.net B).story f.service.session place serving
      → IsKept (g.net B).turn (g.net B).story g.service.session place serving
  pub size : length (g.net B).host.slots ≡ length (f.net B).host.slots
  pub service : g.service ≡ f.service

ending_keeps : (f : FileNet) (event : FileEvent) → Reached f.net → IsEnding event
    → Keeps f (file_happens f event)
ending_keeps f (Nets (At B (Ends id (Close text)))) r kind =
    let h = reached_is_played f.net r in
    record {
      kept = λ place serving k. ends_kept (f.net B) (f.net A) (h B).station f.service.session None place serving k id (Close text) refl;
      size = event_size (f.net B).host (h B).station.host (Ends id (Close text)) refl;
      service = refl;
    }
ending_keeps f (Nets (At B (Releases id))) r kind =
    let h = reached_is_played f.net r in
    record {
      kept = λ place serving k. releases_kept (f.net B) (f.net A) (h B).station f.service.session None place serving k id;
      size = event_size (f.net B).host (h B).station.host (Releases id) tt;
      service = refl;
    }
ending_keeps f (Nets (At B (Ticks at now))) r kind =
    let h = reached_is_played f.net r in
    record {
      kept = λ place serving k. ticks_kept (f.net B) (f.net A) (h B).station f.service.session None place serving k at now;
      size = event_size (f.net B).host (h B).station.host (Ticks at now) tt;
      service = refl;
    }
ending_keeps f event r kind = absurd kind

pub endings_keep : (m : Files) (events : List FileEvent) (f g : FileNet) → IsSound m f
    → FileRun f events g → AllByRecursion IsEnding events → Keeps f g
endings_keep m [] f g h is all =
    subst (Keeps f) (sym is) (record { kept = λ place serving k. k; size = refl; service = refl })
endings_keep m (event ∷ events) f g h r all =
    let one = ending_keeps f event h.reached all.0 in
    let rest = endings_keep m events (file_happens f event) g (event_keeps m f event r.0 h) r.1 all.1 in
    record {
      kept = λ place serving k. rest.kept place serving (one.kept place serving k);
      size = rest.size ∙ one.size;
      service = rest.service ∙ one.service;
    }
