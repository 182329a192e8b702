-- A vector, computed inside the proof checker.
use Rattle.std.proofs.Common.{refl}
use Rattle.sha2.specs.Sha256.{compress, digest_bytes, hash_after, first_words, rounds, schedule, sha256}
use Rattle.chaos_seal.specs.Vector.{IsVector}

pub vector : IsVector
unfolding first_words schedule rounds compress hash_after digest_bytes sha256
vector = refl
