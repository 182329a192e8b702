-- Keys, and the files that have them.
use Rattle.std.specs.Prelude.{◌≡◌, ◌≢◌, ◌-◌, ◌∷◌, [], ℕ, Bool, true, false, List, length, map, drop, take, bit_and, Option, Some, None, unwrap_or, Result, Ok}
use Rattle.std.specs.Char.{is_ascii_whitespace}
use Rattle.std.specs.Fs.{IsFile, file_type, metadata_mode}
use Rattle.std.specs.List.{prefix_len, suffix_len}
use Rattle.std.specs.Path.{path_join, path_parent}
use Rattle.std.specs.declared.fs.attrs.Metadata.{Metadata}
use Rattle.hex.specs.Hex.{decode_sized}
use Rattle.hex.specs.declared.error.FromHexError.{FromHexError}
use Rattle.chaos_seal.specs.Peers.{SealsView, new_peer}
use Rattle.chaos_seal.specs.declared.fault.SealFault.{SealFault}
use Rattle.chaos_seal.specs.declared.fault.SealFault.TheVariants as faults
use Rattle.chaos_seal.specs.declared.limits.TheConstants.{KEY_BYTES}
use Rattle.chaosd_call.specs.declared.key_file.KeyFileFault.{KeyFileFault}
use Rattle.chaosd_call.specs.declared.keys.HostKey.{HostKey}
use Rattle.chaosd_call.specs.declared.key_file.KeyFileFault.TheVariants.{NotRegular, Shared}

-- ---- the key that a text writes

abbrev pub behind_space : List ℕ → List ℕ
behind_space text = drop (prefix_len is_ascii_whitespace text) text

abbrev pub before_space : List ℕ → List ℕ
before_space text = take (length text - suffix_len is_ascii_whitespace text) text

-- 64 hexadecimal digits of either case, with white space around them: two for each byte, the high four bits first
unfoldable pub key_of : List ℕ → Result (List ℕ) FromHexError
key_of text = decode_sized (before_space (behind_space text)) KEY_BYTES

-- some text writes the key
abbrev pub IsWritten : List ℕ → Type 0
IsWritten key = (text : List ℕ) × (key_of text ≡ Ok key)

-- ---- the file that has the text

-- the permissions of the file's group and of all others: 077 in octal
abbrev pub others_mode : Metadata → ℕ
others_mode file = bit_and (metadata_mode file) 0o077

-- a file is refused that isn't regular, or for which somebody but its owner has a permission
abbrev pub IsRefusedAs : Metadata → Option KeyFileFault → Type 0
IsRefusedAs file None = IsFile (file_type file) × (others_mode file ≡ 0)
IsRefusedAs file (Some NotRegular) = ¬ IsFile (file_type file)
IsRefusedAs file (Some Shared) = IsFile (file_type file) × (others_mode file ≢ 0)
IsRefusedAs file (Some _) = ⊥

-- a file that a hosts table names: where the name is relative, the file stands in the folder of the table's file
abbrev pub name_beside : List ℕ → List ℕ → List ℕ
name_beside table file = path_join (unwrap_or (path_parent table) []) file

-- ---- what a host seals with

-- the session of a run with these keys: nanoseconds since 1970 that a clock may show, or 0 of a run that has none
abbrev pub IsSession : (ℕ → Type 0) → List HostKey → ℕ → Type 0
IsSession dates [] session = session ≡ 0
IsSession dates (key ∷ keys) session = dates session

-- at its own address, with each of these keys, closed or not, and nothing sealed or heard yet
abbrev pub SealsWith : (ℕ → Type 0) → ℕ → List HostKey → Bool → SealsView → Type 0
SealsWith dates me keys closed seals = (seals.me ≡ me) × IsSession dates keys seals.session × (seals.closed ≡ closed)
    × (seals.peers ≡ map (λ k. new_peer k.address k.key) keys)

-- the key of a call, which the server has too
abbrev pub keys_with : ℕ → Option (List ℕ) → List HostKey
keys_with server None = []
keys_with server (Some key) = record { address = server; key = key } ∷ []

-- ---- what is reported of sealed datagrams

-- a network that repeats and delays brings such datagrams
abbrev pub is_usual : SealFault → Bool
is_usual faults.Stale = true
is_usual faults.OldSession = true
is_usual faults.OldCounter = true
is_usual other = false
