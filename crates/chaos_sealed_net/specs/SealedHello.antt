-- A run of the sealed machine, by which something is read: the law isn't empty. A's last two packets share a datagram.
--
--      A                                B
--                                       listens to HELLO
--      connects           -- 1: RFC -->
--                                       accepts
--                        <-- 1: OPN --
--      writes `Hello`     -- 2: STS, data -->
--                                       reads it
use Rattle.std.specs.Prelude.{◌≡◌, ℕ, List, [], ◌∷◌, codes}
use Rattle.chaos_packet.specs.Opcode.{op_data}
use Rattle.chaos_conn.specs.Opening.{rfc_item}
use Rattle.chaos_conn.specs.Act.Call.{Accept, Write, Read}
use Rattle.chaos_host.specs.Deeds.HostEvent.{Calls, Connects, Listens}
use Rattle.chaos_lab.specs.declared.side.Side.TheVariants.{A, B}
use Rattle.chaos_net.specs.Hello.{two_hosts, first_name}
use Rattle.chaos_net.specs.Present.{read_of}
use Rattle.chaos_sealed_net.specs.SealedNet.{Datagram, SealedNet, SealedEvent, SealedRun, sealed_after, new_sealed}
use Rattle.chaos_sealed_net.specs.SealedNet.SealedEvent.{Does, Seals, Hears}

-- the machine after some events, one after the other
abbrev pub after_sealed : SealedNet → List SealedEvent → SealedNet
after_sealed s [] = s
after_sealed s (e ∷ es) = after_sealed (sealed_after s e) es

abbrev pub carrying : ℕ → ℕ → ℕ → Datagram
carrying counter first last = record { counter = counter; first = first; last = last }

-- The hosts and what they do are those of the run without seals. The datagram 2 is sealed before B hears any of it.
abbrev pub sealed_hello : List SealedEvent
sealed_hello =
    Does B (Listens (codes "HELLO"))
    ∷ Does A (Connects 258 (codes "HELLO") 100 1)
    ∷ Seals A (carrying 1 0 0)
    ∷ Hears B 0 0 2
    ∷ Does B (Calls 1 (Accept 200 3))
    ∷ Seals B (carrying 1 0 0)
    ∷ Hears A 0 0 4
    ∷ Does A (Calls 1 (Write op_data (codes "Hello") 5))
    ∷ Seals A (carrying 2 1 2)
    ∷ Hears B 1 2 6
    ∷ Does B (Calls 1 Read)
    ∷ []

-- These events may happen one after the other, and then B's connection has read the request and the data.
pub record SomethingSealedIsRead : Type 0 where
  pub run : SealedRun (new_sealed two_hosts) sealed_hello (after_sealed (new_sealed two_hosts) sealed_hello)
  pub read : read_of (((after_sealed (new_sealed two_hosts) sealed_hello).net B).story first_name)
      ≡ rfc_item (codes "HELLO") ∷ record { op = op_data; body = codes "Hello" } ∷ []
