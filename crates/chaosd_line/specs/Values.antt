-- The forms of the words of a line: each is a function from a word to the value that the word stands for.
use Rattle.std.specs.Prelude.{◌==◌, ◌&&◌, ◌++◌, ◌∷◌, ℕ, Bool, true, false, not, codes, List, [], length, nat_le, nat_lt, Option, None, Some, is_some, option_map, unwrap_or, if◌then◌else◌}
use Rattle.std.specs.Char.{is_ascii_graphic}
use Rattle.std.specs.List.{list_all, list_any}
use Rattle.std.specs.Option.{option_and_then, option_map_or}
use Rattle.std.specs.Str.{bytes_eq}
use Rattle.std.specs.declared.net.socket_addr.SocketAddrV4.{SocketAddrV4}
use Rattle.clap.specs.Words.{Row, Text, all_of, first_of}
use Rattle.chaos_file.specs.Names.{is_name, is_path}
use Rattle.chaos_file.specs.declared.limits.TheConstants.{MAX_NAME}
use Rattle.chaos_host.specs.declared.limits.TheConstants.{MAX_CONTACT}
use Rattle.chaos_link.specs.declared.limits.TheConstants.{MAX_PEERS}
use Rattle.chaos_link.specs.Peers.{PeersView}
use Rattle.chaos_link.specs.declared.carriage.Carriage.{Carriage}
use Rattle.chaos_link.specs.declared.carriage.Carriage.TheVariants.{One, Two}
use Rattle.chaos_link.specs.declared.peers.Peer.{Peer}
use Rattle.chaosd_hosts.specs.Addresses.{bridge_of, peer_of}
use Rattle.chaosd_hosts.specs.Numbers.{is_padded, number_of}
use Rattle.chaosd_hosts.specs.Names.{is_host_name}
use Rattle.chaosd_line.specs.declared.line.LogLevel.{LogLevel}
use Rattle.chaosd_line.specs.declared.line.LogLevel.TheVariants.{Quiet, Normal, All}
use Rattle.chaosd_line.specs.declared.word.Word.{Word}
use Rattle.chaosd_line.specs.declared.word.Word.TheVariants as word

-- a value of which the test holds
abbrev pub kept_if : {T : Type 0} → (T → Bool) → T → Option T
kept_if test x = if test x then Some x else None

-- ---- places

-- the value of the word at a place
unfoldable pub given : {T : Type 0} → (Text → Option T) → Text → List Row → Option T
given read place rows = option_and_then read (first_of place rows)

-- the same of a word that need not be given: without a word there is no value, and the line is good
unfoldable pub given_if : {T : Type 0} → (Text → Option T) → Text → List Row → Option (Option T)
given_if read place rows = option_map_or (λ text. option_map Some (read text)) (first_of place rows) (Some None)

-- the words at a place
abbrev pub words_of : Text → List Row → List Text
words_of place rows = unwrap_or (all_of place rows) []

-- ---- numbers

-- decimal digits without leading zeros that write a number within these bounds
unfoldable pub decimal_of : ℕ → ℕ → Text → Option ℕ
decimal_of least most text = if is_padded text then None else number_of 10 least most text

abbrev pub turns_of : Text → Option ℕ
turns_of = decimal_of 0 1000000000

abbrev pub window_of : Text → Option ℕ
window_of = decimal_of 1 64

abbrev pub retransmit_of : Text → Option ℕ
retransmit_of = decimal_of 20 60000

abbrev pub seconds_of : Text → Option ℕ
seconds_of = decimal_of 1 3600

-- ---- words

-- the version of the datagrams
unfoldable pub version_of : Text → Option Carriage
version_of text = if bytes_eq text (codes "1") then Some One else (if bytes_eq text (codes "2") then Some Two else None)

-- how much a server logs
unfoldable pub log_of : Text → Option LogLevel
log_of text = if bytes_eq text (codes "quiet") then Some Quiet
    else (if bytes_eq text (codes "normal") then Some Normal
    else (if bytes_eq text (codes "all") then Some All else None))

-- what clap says of a flag
unfoldable pub flag_of : Text → Option Bool
flag_of text = if bytes_eq text (codes "true") then Some true
    else (if bytes_eq text (codes "false") then Some false else None)

-- 1 to 64 printable characters of ASCII, none of them a space: the bytes 21 to 7E in hexadecimal
abbrev pub is_contact : Text → Bool
is_contact text = nat_le 1 (length text) && nat_le (length text) MAX_CONTACT && list_all is_ascii_graphic text

-- any text, a contact name that is asked for, a user's name, a path of FILE, and a name of a host
abbrev pub takes : Word → Text → Bool
takes word.Any text = true
takes word.Contact text = is_contact text
takes word.Login text = is_name 1 MAX_NAME text
takes word.Path text = is_path text
takes word.HostName text = is_host_name text

unfoldable pub word_of : Word → Text → Option Text
word_of form text = kept_if (takes form) text

-- ---- peers

-- a text that begins with a star (42) is the bridge's
abbrev pub names_bridge : Text → Bool
names_bridge [] = false
names_bridge (b ∷ bytes) = b == 42

abbrev pub is_known : ℕ → List Peer → Bool
is_known address hosts = list_any (λ host. host.address == address) hosts

-- a host comes last, if there is room and its address is not known
unfoldable pub with_host : PeersView → Peer → Option PeersView
with_host peers host = if nat_lt (length peers.hosts) MAX_PEERS && not (is_known host.address peers.hosts)
    then Some (record peers { hosts = peers.hosts ++ host ∷ [] })
    else None

-- there is one bridge at most
unfoldable pub with_bridge : PeersView → SocketAddrV4 → Option PeersView
with_bridge peers socket = if is_some peers.bridge then None else Some (record peers { bridge = Some socket })

unfoldable pub with_peer : PeersView → Text → Option PeersView
with_peer peers text = if names_bridge text then option_and_then (with_bridge peers) (bridge_of text)
    else option_and_then (with_host peers) (peer_of text)

-- the peers, and those of the texts behind them
abbrev pub peers_after : List Text → PeersView → Option PeersView
peers_after [] peers = Some peers
peers_after (text ∷ texts) peers = option_and_then (peers_after texts) (with_peer peers text)

abbrev pub peers_of : List Text → Option PeersView
peers_of texts = peers_after texts (record { hosts = []; bridge = None })
