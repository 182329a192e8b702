-- HMAC-SHA-256 (RFC 2104) with a key of 32 bytes, over the SHA-256 of the kit.
use Rattle.std.specs.Prelude.{ℕ, List, ◌++◌, map, replicate, bit_xor}
use Rattle.sha2.specs.Sha256.{sha256}

-- the key, filled up with zeros to a block of 64 bytes, each byte with the pad's bits turned
abbrev pub padded : ℕ → List ℕ → List ℕ
padded pad key = map (bit_xor pad) (key ++ replicate 32 0)

abbrev pub hmac : List ℕ → List ℕ → List ℕ
hmac key message = sha256 (padded 0x5C key ++ sha256 (padded 0x36 key ++ message))
