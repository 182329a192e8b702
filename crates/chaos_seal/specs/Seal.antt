-- Sealed datagrams: version 3.
use Rattle.std.specs.Prelude.{◌≡◌, ℕ, ◌-◌, ◌<◌, ◌^◌, List, [], ◌∷◌, ◌++◌, length, take, drop}
use Rattle.std.specs.Int.{w16, w64, to_be_bytes}
use Rattle.chaos_seal.specs.Hmac.{hmac}
use Rattle.chaos_seal.specs.declared.form.Head.{Head}

-- the mark and the version
abbrev pub mark : List ℕ
mark = 0x43 ∷ 0x48 ∷ 3 ∷ 0 ∷ []

-- What stands before the tag: the mark, the addresses of the receiver and of the sender, the sender's session, the receiver's
-- session as the sender last heard it, the counter, and the payload. Each number has its high byte first.
abbrev pub text : Head → List ℕ → List ℕ
text h payload =
    mark ++ to_be_bytes w16 h.to ++ to_be_bytes w16 h.from ++ to_be_bytes w64 h.session ++ to_be_bytes w64 h.peer
    ++ to_be_bytes w64 h.counter ++ payload

-- the tag of what stands before it
abbrev pub tag_of : List ℕ → List ℕ → List ℕ
tag_of key before = take 16 (hmac key before)

-- the one datagram that seals a payload
abbrev pub sealed_form : List ℕ → Head → List ℕ → List ℕ
sealed_form key h payload = text h payload ++ tag_of key (text h payload)

-- Each number fits its bytes.
pub record Fits (h : Head) : Type 0 where
  pub to : h.to < 2 ^ 16
  pub from : h.from < 2 ^ 16
  pub session : h.session < 2 ^ 64
  pub peer : h.peer < 2 ^ 64
  pub counter : h.counter < 2 ^ 64

-- The bytes seal the payload with the key, under this head.
pub record Seals (key : List ℕ) (h : Head) (payload bs : List ℕ) : Type 0 where
  pub fits : Fits h
  pub bytes : bs ≡ sealed_form key h payload

-- what stands before the tag of bytes, and the tag
abbrev pub front : List ℕ → List ℕ
front bs = take (length bs - 16) bs

abbrev pub tag_in : List ℕ → List ℕ
tag_in bs = drop (length bs - 16) bs

-- the payload of bytes that are sealed
abbrev pub payload_of : List ℕ → List ℕ
payload_of bs = drop 32 (front bs)
