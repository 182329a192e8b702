-- What asks for a hello is longer than the hello.
use Rattle.std.proofs.Common.{◌≡◌, ◌≢◌, ◌⊎◌, ℕ, ◌<◌, List, [], ◌∷◌, length, Option, Some, None, refl, arith, ap, inl, inr}
use Rattle.std.specs.declared.net.socket_addr.SocketAddrV4.{SocketAddrV4}
use Rattle.chaos_link.specs.Heard.{source_of}
use Rattle.chaos_link.specs.Udp.{Outgoing}
use Rattle.chaos_seal.specs.Opening.{AnswersPlain, Opens}
use Rattle.chaos_seal.specs.Peers.{SealsView}
use Rattle.chaos_seal.specs.declared.opened.Opened.TheVariants as opened
use Rattle.chaos_seal.proofs.Parts.{long}
use Rattle.chaos_sealed_socket.specs.Law.{AnswersShorter}
use Rattle.chaos_sealed_socket.specs.Socket.{Greets, Sealing, Turn}

some_bytes : (payload : List ℕ) → payload ≢ [] → 0 < length payload
some_bytes [] none = absurd (none refl)
some_bytes (x ∷ xs) some = omega arith

no_plain : (v : SealsView) (d : List ℕ) (host session : ℕ) → AnswersPlain v d (opened.Hello host session) → ⊥
no_plain v d host session (inl plain) = let e = plain.0 in cc
no_plain v d host session (inr refused) = let e = refused.0 in cc

longer : (v w : SealsView) (d : List ℕ) (host session : ℕ) → Opens v d (opened.Hello host session) w → 48 < length d
longer v w d host session (inl plain) = absurd (no_plain v d host session plain.1)
longer v w d host session (inr (inl refused)) = absurd (let e = refused.3 in cc)
longer v w d host session (inr (inr (p, h, payload, comes, is))) =
    omega (arith, long comes.sealed, some_bytes payload is.1)

shorter_to : (there : Option SocketAddrV4) (host session : ℕ) (s : Sealing) (turn : Turn) (n : ℕ) → 48 < n
    → Greets there host session s turn
    → (turn.sent ≡ []) ⊎ ((answer : Outgoing) × (turn.sent ≡ answer ∷ []) × (there ≡ Some answer.to) × (length answer.bytes < n))
shorter_to None host session s turn n more is = inl (ap (λ (t : Turn). t.sent) is)
shorter_to (Some from) host session s turn n more (inl (form, seals, sealed, is)) =
    let size : length form ≡ 48 = long sealed.sealed in
    inr (record { to = from; bytes = form }, ap (λ (t : Turn). t.sent) is, refl, omega (arith, size, more))
shorter_to (Some from) host session s turn n more (inr (lost, is)) = inl (ap (λ (t : Turn). t.sent) is)

pub answers_shorter : AnswersShorter
answers_shorter s came host session seals from turn opens is =
    shorter_to (source_of from) host session (record { seals = seals; kept = s.kept }) turn (length came)
    (longer s.seals seals came host session opens) is
