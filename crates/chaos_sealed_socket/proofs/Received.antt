-- What is handed up.
use Rattle.std.proofs.Common.{◌≡◌, ◌≢◌, ℕ, ◌≤◌, Bool, true, false, List, length, length-take-le, take, refl, ap, sym, ◌∙◌, arith, inl, inr}
use Rattle.std.specs.declared.net.socket_addr.SocketAddr.{SocketAddr}
use Rattle.chaos_link.specs.Udp.{SocketAsk}
use Rattle.chaos_seal.specs.Opening.{AnswersPlain, Opens}
use Rattle.chaos_seal.specs.Peers.{SealsView}
use Rattle.chaos_seal.specs.Seal.{payload_of}
use Rattle.chaos_seal.specs.declared.opened.Opened.{Opened}
use Rattle.chaos_seal.specs.declared.opened.Opened.TheVariants as opened
use Rattle.chaos_seal.proofs.Parts.{long, payload_is}
use Rattle.chaos_sealed_socket.specs.Calls.{HandsOn, OpensOver, count_of, handed_for}
use Rattle.chaos_sealed_socket.specs.Notice.{HearsNotice}
use Rattle.chaos_sealed_socket.specs.Socket.{SealedView}

no_payload : (v : SealsView) (d : List ℕ) (n : ℕ) → AnswersPlain v d (opened.Payload n) → ⊥
no_payload v d n (inl plain) = let e = plain.0 in cc
no_payload v d n (inr refused) = let e = refused.0 in cc

-- the length of a payload
payload_long : (v w : SealsView) (d : List ℕ) (n : ℕ) → Opens v d (opened.Payload n) w
    → (n ≡ length (payload_of d)) × (n ≤ length d)
payload_long v w d n (inl plain) = absurd (no_payload v d n plain.1)
payload_long v w d n (inr (inl refused)) = absurd (let e = refused.3 in cc)
payload_long v w d n (inr (inr (p, h, payload, comes, is))) =
    (is.3 ∙ sym (ap length (payload_is comes.sealed)), omega (arith, is.3, long comes.sealed))

module _ (v w : SealsView) (before : List ℕ) (count : ℕ) (fits : count ≤ length before) where
  pub handed_long : (answer : Opened) → Opens v (take count before) answer w
      → count_of answer count ≡ length (handed_for (take count before) answer)
  handed_long opened.Plain opens = sym (length-take-le count before fits)
  handed_long (opened.Payload n) opens = (payload_long v w (take count before) n opens).0
  handed_long (opened.Hello host session) opens = refl
  handed_long (opened.Learned host) opens = refl
  handed_long (opened.Refused fault) opens = refl

  pub handed_within : (answer : Opened) → Opens v (take count before) answer w → count_of answer count ≤ length before
  handed_within opened.Plain opens = fits
  handed_within (opened.Payload n) opens =
      let size : length (take count before) ≡ count = length-take-le count before fits in
      omega (arith, (payload_long v w (take count before) n opens).1, size, fits)
  handed_within (opened.Hello host session) opens = omega arith
  handed_within (opened.Learned host) opens = omega arith
  handed_within (opened.Refused fault) opens = omega arith

pub handed_bytes : (before now : List ℕ) (count : ℕ) (answer : Opened)
    → ((n : ℕ) → answer ≡ opened.Payload n → take n now ≡ payload_of (take count before))
    → (((n : ℕ) → answer ≢ opened.Payload n) → now ≡ before)
    → take (count_of answer count) now ≡ handed_for (take count before) answer
handed_bytes before now count opened.Plain payload other = ap (take count) (other (λ n e. cc))
handed_bytes before now count (opened.Payload n) payload other = payload n refl
handed_bytes before now count (opened.Hello host session) payload other = refl
handed_bytes before now count (opened.Learned host) payload other = refl
handed_bytes before now count (opened.Refused fault) payload other = refl

-- ---- with a key, and without

module _ {S O : Type 0} (asked : S → S → List SocketAsk → Type 0) (hears : HearsNotice O) (old : SealedView S O) where
  pub without_key : (empty : Bool) (beneath : S) (buffer : List ℕ) (count : ℕ) (from : SocketAddr) → empty ≡ true
      → HandsOn asked hears empty old (record { socket = beneath; sealing = old.sealing; observer = old.observer }) beneath buffer count from
  without_key true beneath buffer count from none = refl
  without_key false beneath buffer count from none = absurd (cc)

  pub with_some_key : (empty : Bool) (new : SealedView S O) (beneath : S) (buffer : List ℕ) (count : ℕ) (from : SocketAddr)
      → empty ≡ false → OpensOver asked hears old new beneath buffer count from
      → HandsOn asked hears empty old new beneath buffer count from
  with_some_key true new beneath buffer count from some is = absurd (cc)
  with_some_key false new beneath buffer count from some is = is
