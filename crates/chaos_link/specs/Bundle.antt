-- The datagram of version 2 that carries packets.
use Rattle.std.specs.Prelude.{ℕ, ◌+◌, ◌*◌, List, [], ◌∷◌, ◌++◌, length, Bool, not, nat_lt, ◌&&◌}
use Rattle.chaos_packet.specs.Packet.{PacketView}
use Rattle.chaos_packet.specs.Words.{spelling_of, words_for}
use Rattle.chaos_packet.specs.declared.limits.TheConstants.{HEADER_WORDS}
use Rattle.chaos_link.specs.Datagram.{wire}
use Rattle.chaos_link.specs.Packets.{mark_of}
use Rattle.chaos_link.specs.declared.limits.TheConstants.{MARK_BYTES, MAX_PACKETS, MAX_BUNDLE}

-- how many bytes the packets take, one behind the other
abbrev pub bytes_for : List PacketView → ℕ
bytes_for [] = 0
bytes_for (p ∷ ps) = 2 * (HEADER_WORDS + words_for (length p.body)) + bytes_for ps

-- 1 to 8 packets whose datagram has at most so many bytes
abbrev pub fit_within : ℕ → List PacketView → Bool
fit_within most ps =
    (nat_lt 0 (length ps) && nat_lt (length ps) (MAX_PACKETS + 1)) && not (nat_lt most (MARK_BYTES + bytes_for ps))

-- packets that one datagram can carry
abbrev pub fit_together : List PacketView → Bool
fit_together ps = fit_within MAX_BUNDLE ps

-- the words that spell the packets in turn, with zero free halves
abbrev pub spelling_of_all : List PacketView → List ℕ
spelling_of_all [] = []
spelling_of_all (p ∷ ps) = spelling_of p ++ spelling_of_all ps

-- the datagram of version 2 that carries them, with zero free halves
abbrev pub datagram_of_all : List PacketView → List ℕ
datagram_of_all ps = mark_of (length ps) ++ wire (spelling_of_all ps)
