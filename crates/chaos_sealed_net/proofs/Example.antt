-- The run of the example, by computation. It is short, so that all its connections are near.
use Rattle.std.proofs.Common.{◌≡◌, ℕ, ◌+◌, ◌<◌, ◌≤◌, List, [], ◌∷◌, length, Some, refl, inl, arith}
use Rattle.std.specs.Prelude.{slice_get}
use Rattle.chaos_conn.specs.Config.{usual_config}
use Rattle.chaos_lab.specs.declared.side.Side.{Side}
use Rattle.chaos_lab.specs.declared.side.Side.TheVariants.{A, B}
use Rattle.chaos_lab.specs.Machine.{other}
use Rattle.chaos_net.specs.Hello.{two_hosts}
use Rattle.chaos_net.specs.Net.{Sent, Net, IsOwn, IsNew, IsFresh}
use Rattle.chaos_net.specs.Net.NetEvent.{At, Arrives}
use Rattle.chaos_net.specs.Played.{ArePlayed}
use Rattle.chaos_net.proofs.Hello.{usual}
use Rattle.chaos_net.proofs.Network.{steps_are_played, start_is_played}
use Rattle.chaos_net.proofs.Short.{AreWithin, can_happen, more_within, new_within, step_within}
use Rattle.chaos_sealed_net.specs.SealedNet.{Datagram, SealedNet, SealedEvent, MaySeal, IsNear, SealedRun, seal_window, sealed_after, new_sealed}
use Rattle.chaos_sealed_net.specs.SealedNet.SealedEvent.{Does, Seals, Hears}
use Rattle.chaos_sealed_net.specs.SealedHello.{SomethingSealedIsRead, after_sealed, sealed_hello}

-- ---- short runs

pub fresh_near : (n : Net) (x : Side) (q : Sent) → IsFresh n x q → IsNear n x q
fresh_near n x q h ack c d s t by from now there index =
    let f = h ack c d s t by from now there index in record { meant = f.meant; peer = f.peer }

-- what is asked of a packet that comes, but for its connections
record IsReady (s : SealedNet) (x : Side) (place number : ℕ) : Type 0 where
  datagram : Datagram
  there : slice_get (s.datagrams (other x)) place ≡ Some datagram
  first : datagram.first ≤ number
  last : number ≤ datagram.last
  inside : s.newest x < datagram.counter + seal_window

abbrev AreReady : SealedNet → List SealedEvent → Type 0
AreReady s [] = Unit {0}
AreReady s (Does x event ∷ es) = IsOwn event × AreReady (sealed_after s (Does x event)) es
AreReady s (Seals x d ∷ es) = MaySeal s x d × AreReady (sealed_after s (Seals x d)) es
AreReady s (Hears x place number now ∷ es) =
    IsReady s x place number × AreReady (sealed_after s (Hears x place number now)) es

short_sealed : (events : List SealedEvent) (k : ℕ) (s : SealedNet) → ArePlayed s.net → AreWithin k s.net
    → k + length events ≤ 256 → AreReady s events → SealedRun s events (after_sealed s events)
short_sealed [] k s h w few ready = refl
short_sealed (Does x event ∷ es) k s h w few ready =
    let r : SealedNet = sealed_after s (Does x event) in (
      ready.0,
      short_sealed es (k + 1) r (steps_are_played s.net (At x event) h ready.0) (step_within k s.net (At x event) w)
          (omega (arith, few)) ready.1,
    )
short_sealed (Seals x d ∷ es) k s h w few ready =
    let r : SealedNet = sealed_after s (Seals x d) in
    (ready.0, short_sealed es (k + 1) r h (λ y. more_within k (s.net y) (w y)) (omega (arith, few)) ready.1)
short_sealed (Hears x place number now ∷ es) k s h w few ready =
    let r : SealedNet = sealed_after s (Hears x place number now) in
    let can = can_happen s.net k (Arrives x number now) h w (omega (arith, few)) tt in (
      record {
        datagram = ready.0.datagram;
        there = ready.0.there;
        first = ready.0.first;
        last = ready.0.last;
        inside = ready.0.inside;
        near = λ q at. fresh_near s.net x q (can q at);
      },
      short_sealed es (k + 1) r (steps_are_played s.net (Arrives x number now) h can)
          (step_within k s.net (Arrives x number now) w) (omega (arith, few)) ready.1,
    )

-- ---- the run

new_a : IsNew (two_hosts A)
new_a = record { address = 257; conns = 1; config = usual_config; right = refl; sound = usual; is = refl }

new_b : IsNew (two_hosts B)
new_b = record { address = 258; conns = 1; config = usual_config; right = refl; sound = usual; is = refl }

within : AreWithin 0 two_hosts
within A = new_within (two_hosts A) new_a
within B = new_within (two_hosts B) new_b

ready : AreReady (new_sealed two_hosts) sealed_hello
ready = (
  tt,
  (
    omega arith,
    (
      record { some = omega arith; order = omega arith; sent = omega arith; after = tt },
      (
        record { datagram = _; there = refl; first = omega arith; last = omega arith; inside = omega arith },
        (
          refl,
          (
            record { some = omega arith; order = omega arith; sent = omega arith; after = tt },
            (
              record { datagram = _; there = refl; first = omega arith; last = omega arith; inside = omega arith },
              (
                refl,
                (
                  record { some = omega arith; order = omega arith; sent = omega arith; after = (record { counter = omega arith; packets = inl (omega arith) }, tt) },
                  (
                    record { datagram = _; there = refl; first = omega arith; last = omega arith; inside = omega arith },
                    (refl, tt),
                  ),
                ),
              ),
            ),
          ),
        ),
      ),
    ),
  ),
)

pub something_sealed_is_read : SomethingSealedIsRead
something_sealed_is_read = record {
  run = short_sealed sealed_hello 0 (new_sealed two_hosts) (start_is_played two_hosts new_a new_b) within
      (omega arith) ready;
  read = refl;
}
