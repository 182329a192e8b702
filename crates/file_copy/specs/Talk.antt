-- What was sent and received in a talk with a FILE server.
use Rattle.std.specs.Prelude.{◌≡◌, ◌≤◌, ◌⊎◌, ◌||◌, ℕ, ◌-◌, Bool, true, false, List, [], ◌∷◌, ◌++◌, Option, Some, None, nat_lt, if◌then◌else◌}
use Rattle.std.proofs.Common.{ap, subst, sym, ◌∙◌}
use Rattle.std.proofs.lemmas.List.{append-nil}
use Rattle.chaos_packet.specs.Count.{max_count}
use Rattle.file_copy.specs.declared.limits.TheConstants.{REPLY_TURNS, REPLY_MILLIS, MOST_TURNS}
use Rattle.file_copy.specs.Copy.{upto}
use Rattle.file_copy.specs.declared.pace.Line.{Line}

pub record Talked : Type 0 where
  pub sent : List (List ℕ)
  pub received : List (List ℕ)

abbrev pub with_sent : List (List ℕ) → Talked → Talked
with_sent commands t = record t { sent = t.sent ++ commands }

abbrev pub with_received : List (List ℕ) → Talked → Talked
with_received replies t = record t { received = t.received ++ replies }

-- the bytes that were left in a place, where it is told that some were
abbrev pub taken : Bool → List ℕ → Option (List ℕ)
taken true bytes = Some bytes
taken false bytes = None

-- a command, where it was sent
abbrev pub sent_if : Bool → List ℕ → List (List ℕ)
sent_if true command = command ∷ []
sent_if false command = []

-- what was received
abbrev pub received_in : Option (List ℕ) → List (List ℕ)
received_in None = []
received_in (Some reply) = reply ∷ []

abbrev pub silence : Talked
silence = record { sent = []; received = [] }

-- What may have been sent and received since each earlier state.
abbrev pub History : Type 0 → Type 1
History T = T → Talked → Type 0

-- Since then these commands were sent and these replies received, and no others: what was sent and received since any earlier state
-- goes on by them.
pub record Since {T : Type 0} (start now : History T) (commands replies : List (List ℕ)) : Type 0 where
  pub goes : (first : T) (talk : Talked) → start first talk → now first (with_received replies (with_sent commands talk))

-- Since it stands where it is, nothing was.
pub since_none : {T : Type 0} (t : History T) → Since t t [] []
since_none t = record {
  goes = λ first talk h.
      subst (t first)
      (ap (λ (l : List (List ℕ)). record { sent = l; received = talk.received }) (sym (append-nil talk.sent))
      ∙ ap (λ (l : List (List ℕ)). record { sent = talk.sent ++ []; received = l }) (sym (append-nil talk.received))) h;
}

-- Since then these replies were received, and no others.
abbrev pub Received : {T : Type 0} → History T → History T → List (List ℕ) → Type 0
Received start now replies = (commands : List (List ℕ)) × Since start now commands replies

-- Since then nothing was received.
abbrev pub Unheard : {T : Type 0} → History T → History T → Type 0
Unheard start now = Received start now []

-- Who had sent these commands since any earlier state has now sent those, and has received nothing more.
abbrev pub SendsOn : {T : Type 0} → (T → History T) → T → T → List (List ℕ) → List (List ℕ) → Type 0
SendsOn {T} talked old new before after =
    (start : T) (replies : List (List ℕ)) → Since (talked start) (talked old) before replies
    → Since (talked start) (talked new) after replies

-- Since then this command was sent or not, and no other.
abbrev pub SentOrNot : {T : Type 0} → History T → History T → List ℕ → Type 0
SentOrNot start now command =
    (replies : List (List ℕ)) × (Since start now [] replies ⊎ Since start now (command ∷ []) replies)

-- Since then some of the commands f 0, f 1, .. were sent, from the first on and at most so many, and no others.
abbrev pub SentUpTo : {T : Type 0} → History T → History T → (ℕ → List ℕ) → ℕ → Type 0
SentUpTo start now f most =
    (sent : ℕ) × (sent ≤ most) × (replies : List (List ℕ)) × Since start now (upto f sent) replies

-- ---- the replies that are there to be received

-- Where a talk tells them, more may have come behind those that were there, and none is lost.
abbrev pub More : Option (List (List ℕ)) → Option (List (List ℕ)) → Type 0
More None now = now ≡ None
More (Some ready) now = (came : List (List ℕ)) × (now ≡ Some (ready ++ came))

-- Where a talk tells them, the first was received, or none where none is there.
abbrev pub Next : Option (List (List ℕ)) → Option (List ℕ) → Option (List (List ℕ)) → Type 0
Next None received now = now ≡ None
Next (Some []) received now = (received ≡ None) × (now ≡ Some [])
Next (Some (reply ∷ ready)) received now = (received ≡ Some reply) × (now ≡ Some ready)

-- ---- how far a talk has come

pub record Course : Type 0 where
  -- the turns that were made, where they are counted
  pub turns : Option ℕ
  -- the moment of the last
  pub moment : ℕ
  -- no more replies come than are there
  pub is_over : Bool
  -- the failures that were counted
  pub failures : ℕ
  -- the milliseconds for which a reply is waited for, where the talk has a patience of its own
  pub patience : Option ℕ
  -- what is known of the line
  pub line : Line

-- how far a talk has come that is over too where nobody is there to reply
abbrev pub over_where : Bool → Course → Course
over_where gone course = record course { is_over = course.is_over || gone }

-- what a count tells that stays at the greatest u64: nothing there
abbrev pub counted : ℕ → Option ℕ
counted count = if nat_lt count max_count then Some count else None

-- So many turns were made between these counts, where they were counted.
abbrev pub Turned : ℕ → Option ℕ → Option ℕ → Type 0
Turned n before None = Unit {0}
Turned n before (Some k) = (n ≤ k) × (before ≡ Some (k - n))

-- A reply is late after that many turns and milliseconds: after the talk's patience by the clock alone; where the talk
-- has none, after 1,000 turns and 10 seconds.
abbrev pub IsLate : Option ℕ → ℕ → ℕ → Type 0
IsLate None turns millis = (REPLY_TURNS ≤ turns) × (REPLY_MILLIS ≤ millis)
IsLate (Some patience) turns millis = patience ≤ millis

-- That many turns, from the one moment to the other, are long enough to wait for a reply: the reply is late; or, where
-- the clock stands still, 4,294,967,295 turns were made.
abbrev pub IsLong : Option ℕ → ℕ → ℕ → ℕ → Type 0
IsLong patience turns since moment = IsLate patience turns (moment - since) ⊎ (turns ≡ MOST_TURNS)

-- Since then nothing was received, and the talk is over or has gone on for long enough.
abbrev pub InVain : {T : Type 0} → History T → Course → History T → Course → Type 0
InVain start since now course = Unheard start now
    × ((course.is_over ≡ true)
    ⊎ ((turns : ℕ) × Turned turns since.turns course.turns × IsLong course.patience turns since.moment course.moment))
