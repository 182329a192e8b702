-- What an observer hears of a sealed socket.
use Rattle.std.specs.Prelude.{◌≡◌, ℕ, List, [], ◌∷◌, Option, Some, None, option_map}
use Rattle.std.specs.declared.net.socket_addr.SocketAddr.{SocketAddr}
use Rattle.chaos_link.specs.Udp.{Outgoing}
use Rattle.chaos_seal.specs.Peers.{SealsView, unheard_of}
use Rattle.chaos_seal.specs.declared.fault.SealFault.{SealFault}
use Rattle.chaos_seal.specs.declared.opened.Opened.{Opened}
use Rattle.chaos_seal.specs.declared.opened.Opened.TheVariants as opening

-- that a datagram from there was refused with this fault; and that so many datagrams were sealed for this host, of which nothing
-- was opened yet
pub data Notice : Type 0 where
  Refused : (from : SocketAddr) (fault : SealFault) → Notice
  Unheard : (host sealed : ℕ) → Notice

-- for an observer, and what it hears: what the observer may become
abbrev pub HearsNotice : Type 0 → Type 1
HearsNotice O = O → Notice → O → Type 0

-- It stays, whatever it hears.
abbrev pub stays_as_it_is : {O : Type 0} → HearsNotice O
stays_as_it_is observer notice next = next ≡ observer

-- It hears this once, where there is anything to hear, and nothing else.
abbrev pub HearsOnce : {O : Type 0} → HearsNotice O → O → Option Notice → O → Type 0
HearsOnce hears observer None next = next ≡ observer
HearsOnce hears observer (Some notice) next = hears observer notice next

-- what is heard of a datagram from there that was opened as this
abbrev pub notice_of : Opened → SocketAddr → Option Notice
notice_of (opening.Refused fault) from = Some (Refused from fault)
notice_of opening.Plain from = None
notice_of (opening.Payload count) from = None
notice_of (opening.Hello host session) from = None
notice_of (opening.Learned host) from = None

-- how many datagrams were sealed for a host, where nothing of it was opened yet
abbrev pub unheard_notice : ℕ → SealsView → Option Notice
unheard_notice host seals = option_map (λ sealed. Unheard host sealed) (unheard_of host seals)

-- what is heard once these went out for this host
abbrev pub notice_of_sent : Option ℕ → SealsView → List Outgoing → Option Notice
notice_of_sent None seals sent = None
notice_of_sent (Some host) seals [] = None
notice_of_sent (Some host) seals (_ ∷ _) = unheard_notice host seals
