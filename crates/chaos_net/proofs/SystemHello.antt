-- Eleven steps by computation.
use Rattle.std.proofs.Common.{◌≡◌, ℕ, ◌+◌, ◌*◌, ◌%◌, ◌<◌, false, List, [], ◌∷◌, ◌++◌, length, Option, Some, None, codes, refl, sym, ap, ◌∙◌, subst, arith, true≢false}
use Rattle.std.specs.Prelude.{⊤, slice_get}
use Rattle.chaos_packet.specs.Opcode.{kind_of, op_data}
use Rattle.chaos_conn.specs.Sending.{carries_ack}
use Rattle.chaos_conn.specs.Config.{usual_config}
use Rattle.chaos_conn.specs.Act.Call.{Accept, Write, Read}
use Rattle.chaos_host.specs.Deeds.{HostEvent}
use Rattle.chaos_host.specs.Deeds.HostEvent.{Listens, Connects, Ticks, Calls as Asks}
use Rattle.chaos_host.specs.View.{HostView}
use Rattle.chaos_lab.specs.declared.side.Side.{Side}
use Rattle.chaos_lab.specs.declared.side.Side.TheVariants.{A, B}
use Rattle.chaos_lab.specs.Machine.{other}
use Rattle.chaos_link.specs.declared.carriage.Carriage.TheVariants.{One}
use Rattle.chaos_link.specs.Loads.{packets_of}
use Rattle.chaos_net.specs.Hello.{first_name, two_hosts}
use Rattle.chaos_net.specs.Net.{Name, Story, Sent, Net, NetEvent, IsFresh, IsOwn, CanHappen, Run, after_events}
use Rattle.chaos_net.specs.Net.NetEvent.{At, Arrives}
use Rattle.chaos_net.specs.Short.{ShortLaw}
use Rattle.chaos_net.proofs.Hello.{usual}
use Rattle.chaos_net.proofs.Lists.{some_eq}
use Rattle.chaos_node.specs.Link.{read_all, sent_by}
use Rattle.chaos_node.specs.Turn.{client_phases}
use Rattle.chaos_net.specs.SystemHello.{SomethingIsRead, AreSteps, Stride, after_step, hello_steps, two_nodes}
use Rattle.chaos_net.specs.MadeTurns.{packets_sent}
use Rattle.chaos_net.specs.System.{System, Step, Turn, Calls, Steps, IsFreshStep, handed}
use Rattle.chaos_net.specs.Turns.{client_host, client_turns, client_upon}

-- ---- each step is one

a_turn : (s : System HostView) (x : Side) (number : Option ℕ) (start now : ℕ)
    → read_all
    (sent_by One ((s x).waiting ∷ (client_phases [] (handed (s (other x)).posts number) now (s x).program).lots))
    ≡ packets_of ((s x).waiting ∷ (client_phases [] (handed (s (other x)).posts number) now (s x).program).lots)
    → Steps client_host client_turns s (Turn x number start now) (after_step s (Turn x number start now))
a_turn s A number start now read = (
  record {
    carriage = One;
    lots = (client_phases [] (handed (s B).posts number) now (s A).program).lots;
    turn = ([], refl, refl);
    read = read;
    waiting = refl;
    posts = refl;
  },
  refl,
)
a_turn s B number start now read = (
  record {
    carriage = One;
    lots = (client_phases [] (handed (s A).posts number) now (s B).program).lots;
    turn = ([], refl, refl);
    read = read;
    waiting = refl;
    posts = refl;
  },
  refl,
)

a_call : (s : System HostView) (x : Side) (e : HostEvent) → IsOwn e
    → Steps client_host client_turns s (Calls x e) (after_step s (Calls x e))
a_call s A e own = (record { own = own; host = refl; waiting = refl; posts = refl }, refl)
a_call s B e own = (record { own = own; host = refl; waiting = refl; posts = refl }, refl)

-- ---- what comes is fresh

-- the first connection of a host has written little, and its peer, where it has one, is one of its first connections
abbrev IsNear : Option Name → Type 0
IsNear None = ⊤
IsNear (Some name) = name.turn < 256

abbrev IsYoung : Option Story → Type 0
IsYoung None = ⊤
IsYoung (Some s) = (length s.end.written < 100) × IsNear s.peer

near_peer : (o : Option Name) (name : Name) → IsNear o → o ≡ Some name → name.turn < 256
near_peer None name near is = let no : None ≡ Some name = is in absurd (cc)
near_peer (Some one) name near is = subst (λ (m : Name). m.turn < 256) (some_eq is) near

-- A packet of the first connection comes to the first connection, which are young both.
record IsFirst (n : Net) (x : Side) (q : Sent) : Type 0 where
  from : q.by ≡ Some first_name
  index : q.packet.dst_index ≡ 1
  present : (n x).turn 0 ≡ 0
  far : IsYoung ((n (other x)).story first_name)
  own : IsYoung ((n x).story first_name)

first_fresh : (n : Net) (x : Side) (q : Sent) → IsFirst n x q → IsFresh n x q
first_fresh n x q first ack c d s t by from now at index =
    let c_is : first_name ≡ c = some_eq (sym first.from ∙ by) in
    let names : 1 ≡ 256 * (d.turn % 256) + (d.place + 1) = sym first.index ∙ index in
    let place : 0 ≡ d.place = omega (arith, names) in
    let turn : 0 ≡ d.turn = sym first.present ∙ ap (n x).turn place ∙ now in
    let d_is : first_name ≡ d = λ j. record { place = place j; turn = turn j } in
    let young_s : IsYoung (Some s) = subst IsYoung (ap (n (other x)).story c_is ∙ from) first.far in
    let young_t : IsYoung (Some t) = subst IsYoung (ap (n x).story d_is ∙ at) first.own in
    let c_turn : c.turn ≡ 0 = ap (λ (m : Name). m.turn) (sym c_is) in
    let few_s = young_s.0 in
    let few_t = young_t.0 in
    record {
      meant = λ m is. let near = near_peer s.peer m young_s.1 is in (omega (arith, turn, near), omega (arith, turn, near));
      peer = λ e is. let near = near_peer t.peer e young_t.1 is in (omega (arith, c_turn, near), omega (arith, c_turn, near));
      sender = omega (arith, few_s);
      receiver = omega (arith, few_t);
    }

-- or one that carries no acknowledgement
abbrev IsBareSent : Option Sent → Type 0
IsBareSent None = ⊤
IsBareSent (Some q) = carries_ack (kind_of q.packet.op) ≡ false

bare_comes : (n : Net) (x : Side) (k now : ℕ) (o : Option Sent) → slice_get (n (other x)).sent k ≡ o → IsBareSent o
    → CanHappen n (Arrives x k now)
bare_comes n x k now None there bare q at = let no : None ≡ Some q = sym there ∙ at in absurd (cc)
bare_comes n x k now (Some p) there bare q at =
    subst (IsFresh n x) (some_eq (sym there ∙ at)) (λ ack. absurd (true≢false (sym ack ∙ bare)))

first_comes : (n : Net) (x : Side) (k now : ℕ) (q : Sent) → slice_get (n (other x)).sent k ≡ Some q → IsFirst n x q
    → CanHappen n (Arrives x k now)
first_comes n x k now q there first one at = subst (IsFresh n x) (some_eq (sym there ∙ at)) (first_fresh n x q first)

-- ---- the nets before the steps

abbrev net_1 : Net
net_1 = after_events two_hosts (At B (Listens (codes "HELLO")) ∷ [])

abbrev net_2 : Net
net_2 = after_events net_1 (At A (Connects 258 (codes "HELLO") 100 1) ∷ [])

abbrev net_3 : Net
net_3 = after_events net_2 (At A (Ticks 0 2) ∷ [])

abbrev net_4 : Net
net_4 = after_events net_3 (Arrives B 0 3 ∷ At B (Ticks 0 3) ∷ [])

abbrev net_5 : Net
net_5 = after_events net_4 (At B (Asks 1 (Accept 200 4)) ∷ [])

abbrev net_6 : Net
net_6 = after_events net_5 (At B (Ticks 0 5) ∷ [])

abbrev net_7 : Net
net_7 = after_events net_6 (Arrives A 0 6 ∷ At A (Ticks 0 6) ∷ [])

abbrev net_8 : Net
net_8 = after_events net_7 (At A (Asks 1 (Write op_data (codes "Hello") 7)) ∷ [])

abbrev net_9 : Net
net_9 = after_events net_8 (At A (Ticks 0 8) ∷ [])

rfc_comes : CanHappen net_3 (Arrives B 0 3)
rfc_comes = bare_comes net_3 B 0 3 (slice_get (net_3 A).sent 0) refl refl

opn_comes : CanHappen net_6 (Arrives A 0 6)
opn_comes = first_comes net_6 A 0 6 _ refl
    (record { from = refl; index = refl; present = refl; far = (omega arith, omega arith); own = (omega arith, tt) })

data_comes : CanHappen net_9 (Arrives B 2 9)
data_comes = first_comes net_9 B 2 9 _ refl
    (record { from = refl; index = refl; present = refl; far = (omega arith, omega arith); own = (omega arith, omega arith) })

-- ---- all

-- what is read of what a step posts
abbrev IsRead : System HostView → Step → Type 0
IsRead s (Turn x number start now) =
    read_all
    (sent_by One ((s x).waiting ∷ (client_phases [] (handed (s (other x)).posts number) now (s x).program).lots))
    ≡ packets_of ((s x).waiting ∷ (client_phases [] (handed (s (other x)).posts number) now (s x).program).lots)
IsRead s (Calls x e) = IsOwn e

one_step : (s : System HostView) (step : Step) → IsRead s step
    → Steps client_host client_turns s step (after_step s step)
one_step s (Turn x number start now) read = a_turn s x number start now read
one_step s (Calls x e) own = a_call s x e own

abbrev AreGood : System HostView → Net → List Stride → Type 0
AreGood s n [] = ⊤
AreGood s n (one ∷ steps) =
    IsRead s one.step × IsFreshStep client_upon n s one.step × Run n one.run (after_events n one.run)
    × AreGood (after_step s one.step) (after_events n one.run) steps

abbrev last_system : System HostView → List Stride → System HostView
last_system s [] = s
last_system s (one ∷ steps) = last_system (after_step s one.step) steps

abbrev last_net : Net → List Stride → Net
last_net n [] = n
last_net n (one ∷ steps) = last_net (after_events n one.run) steps

all_steps : (steps : List Stride) (s : System HostView) (n : Net) → AreGood s n steps
    → AreSteps s n steps (last_system s steps) (last_net n steps)
all_steps [] s n good = (refl, refl)
all_steps (one ∷ steps) s n good =
    (one_step s one.step good.0, good.1, good.2, all_steps steps (after_step s one.step) (after_events n one.run) good.3)

-- their events, one after another
abbrev events : List NetEvent
events =
    At B (Listens (codes "HELLO"))
    ∷ At A (Connects 258 (codes "HELLO") 100 1)
    ∷ At A (Ticks 0 2)
    ∷ Arrives B 0 3
    ∷ At B (Ticks 0 3)
    ∷ At B (Asks 1 (Accept 200 4))
    ∷ At B (Ticks 0 5)
    ∷ Arrives A 0 6
    ∷ At A (Ticks 0 6)
    ∷ At A (Asks 1 (Write op_data (codes "Hello") 7))
    ∷ At A (Ticks 0 8)
    ∷ Arrives B 2 9
    ∷ At B (Ticks 0 9)
    ∷ At B (Asks 1 Read)
    ∷ []

both_hosts : (x : Side) → (last_net two_hosts hello_steps x).host ≡ (last_system two_nodes hello_steps x).program
both_hosts A = refl
both_hosts B = refl

both_sent : (x : Side) → packets_sent (last_net two_hosts hello_steps x)
    ≡ read_all (last_system two_nodes hello_steps x).posts ++ (last_system two_nodes hello_steps x).waiting
both_sent A = refl
both_sent B = refl

pub something_is_read : ShortLaw → SomethingIsRead
something_is_read short_runs = record {
  system = last_system two_nodes hello_steps;
  net = last_net two_hosts hello_steps;
  steps =
      all_steps hello_steps two_nodes two_hosts (
        tt,
        tt,
        (tt, refl),
        (
          omega arith,
          tt,
          (omega arith, refl),
          (
            refl,
            tt,
            (tt, refl),
            (
              refl,
              (rfc_comes, tt),
              (rfc_comes, (tt, refl)),
              (
                refl,
                tt,
                (refl, refl),
                (
                  refl,
                  tt,
                  (tt, refl),
                  (
                    refl,
                    (opn_comes, tt),
                    (opn_comes, (tt, refl)),
                    (
                      refl,
                      tt,
                      (refl, refl),
                      (
                        refl,
                        tt,
                        (tt, refl),
                        (
                          refl,
                          (data_comes, tt),
                          (data_comes, (tt, refl)),
                          (refl, tt, (refl, refl), tt),
                        ),
                      ),
                    ),
                  ),
                ),
              ),
            ),
          ),
        ),
      );
  stands = record {
    reached =
        short_runs two_hosts events
        (record { address = 257; conns = 1; config = usual_config; right = refl; sound = usual; is = refl })
        (record { address = 258; conns = 1; config = usual_config; right = refl; sound = usual; is = refl })
        (omega arith)
        (tt, (omega arith, (tt, (tt, (tt, (refl, (tt, (tt, (tt, (refl, (tt, (tt, (tt, (refl, tt))))))))))))));
    hosts = both_hosts;
    sent = both_sent;
  };
  read = refl;
}
