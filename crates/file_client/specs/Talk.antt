-- What a client's connection says and is given.
use Rattle.std.specs.Prelude.{refl, ◌≡◌, ◌≤◌, ◌⊎◌, ℕ, ◌+◌, Bool, true, false, List, [], ◌∷◌, ◌++◌, Option, Some, None, map}
use Rattle.file_copy.specs.Talk.{Talked, silence as nothing}
use Rattle.chaos_packet.specs.Item.{ItemView}
use Rattle.chaos_packet.specs.Opcode.{op_data, op_eof}
use Rattle.chaos_link.specs.Link.{Ask, QueueView}
use Rattle.file_client.specs.Calls.{is_over}
use Rattle.file_client.specs.Caller.{CallerView, Receives, Sends, TurnsAt, all_read, asked, asked_again}
use Rattle.file_client.specs.Pace.{Pace}
use Rattle.file_client.specs.Patience.{IsSpent}
use Rattle.file_client.specs.declared.limits.TheConstants.{END_TURNS}

-- A client's host, and the queue that its link is.
pub record Talker : Type 0 where
  pub caller : CallerView
  pub queue : Option QueueView

abbrev pub talker : CallerView → Option QueueView → Talker
talker caller queue = record { caller = caller; queue = queue }

-- the items that its connection wrote and the data that it was given, in order, how many turns it took, and what its link was
-- asked in these, in order
pub record Talk : Type 0 where
  pub sent : List ItemView
  pub received : List (List ℕ)
  pub turns : ℕ
  pub asks : List Ask

abbrev pub silence : Talk
silence = record { sent = []; received = []; turns = 0; asks = [] }

-- one after the other
abbrev pub and_later : Talk → Talk → Talk
and_later first later = record {
  sent = first.sent ++ later.sent;
  received = first.received ++ later.received;
  turns = first.turns + later.turns;
  asks = first.asks ++ later.asks;
}

-- whatever a link was asked
abbrev pub Anything : List Ask → Type 0
Anything asks = Unit {0}

-- ---- what a client does

pub data Step : Type 0 where
  Calls : (now : ℕ) → Step
  Writes : (item : ItemView) → (now : ℕ) → (taken : Bool) → Step
  Reads : (got : Option (List ℕ)) → Step
  Turns : (now : ℕ) → (asks : List Ask) → Step

-- what a step adds to the talk: an item that is taken, data that are read, a turn and what that asked of the link
abbrev pub and_then : Talk → Step → Talk
and_then talk (Calls now) = talk
and_then talk (Writes item now true) = record talk { sent = talk.sent ++ item ∷ [] }
and_then talk (Writes item now false) = talk
and_then talk (Reads None) = talk
and_then talk (Reads (Some bytes)) = record talk { received = talk.received ++ bytes ∷ [] }
and_then talk (Turns now asks) = record talk { turns = talk.turns + 1; asks = talk.asks ++ asks }

abbrev pub talk_of : List Step → Talk
talk_of [] = silence
talk_of (step ∷ before) = and_then (talk_of before) step

-- what was sent where an item was or wasn't written before, and is or isn't now
abbrev pub newly_sent : Bool → Bool → ItemView → List ItemView
newly_sent false true item = item ∷ []
newly_sent was is item = []

abbrev pub eof_item : ItemView
eof_item = record { op = op_eof; body = [] }

module _ (p : Pace) where
  -- What a step makes of a client: it asks for a connection; it tries to write an item; it reads; it takes a turn,
  -- before which it asks again where no OPN came for long, and which asks this of its link.
  abbrev pub Does : Talker → Step → Talker → Type 0
  Does c (Calls now) d =
      p.Shows now × (c.caller.id ≡ None) × (d ≡ talker (asked (p.starts now) now p.wait c.caller) c.queue)
  Does c (Writes item now taken) d = p.Shows now × Sends item now taken c.caller d.caller × (d.queue ≡ c.queue)
  Does c (Reads got) d = Receives got c.caller d.caller × (d.queue ≡ c.queue)
  Does c (Turns now asks) d =
      p.Shows now × TurnsAt (λ more. more ≡ asks) (p.Waits true) now c.queue d.queue (asked_again p now c.caller) d.caller

  -- A client took these steps, the last one first.
  abbrev pub Goes : Talker → List Step → Talker → Type 0
  Goes first [] last = last ≡ first
  Goes first (step ∷ before) last = (between : Talker) × Goes first before between × Does between step last

  -- A client became another, and sent and received this meanwhile, and asked its link this.
  pub record Talks (first : Talker) (talk : Talk) (last : Talker) : Type 0 where
    pub steps : List Step
    pub goes : Goes first steps last
    pub same : talk_of steps ≡ talk

  -- An item was written where it wasn't before and was taken, and so many turns were taken, in which the link was asked
  -- just what they ask.
  abbrev pub WritesAndTurns : (List Ask → Type 0) → ℕ → Talker → ItemView → Bool → Bool → Talker → Type 0
  WritesAndTurns Asked turns first item was is last =
      (was ≡ true → is ≡ true) × (asks : List Ask) × Asked asks
      × Talks first (record { sent = newly_sent was is item; received = []; turns = turns; asks = asks }) last

-- So many turns were taken, or the connection has ended, or there is none.
abbrev pub GivesUp : ℕ → Talk → Talker → Type 0
GivesUp most talk last = (talk.turns ≡ most) ⊎ (is_over last.caller.host last.caller.id ≡ true)

-- ---- one command

abbrev pub command_item : List ℕ → ItemView
command_item bytes = record { op = op_data; body = bytes }

-- what is received by one read
abbrev pub receiving : Option (List ℕ) → Talk
receiving None = silence
receiving (Some bytes) = record silence { received = bytes ∷ [] }

-- A reply was waited for as long as the pace says, or the connection has ended, or there is none.
abbrev pub GivesUpBy : Pace → Talk → Talker → Type 0
GivesUpBy p talk last = IsSpent p.Shows p.patience talk.turns ⊎ (is_over last.caller.host last.caller.id ≡ true)

-- The command was written, and this was read in answer; or nothing came, and the client gave up.
abbrev pub IsExchange : Pace → List ℕ → Option (List ℕ) → Talk → Talker → Type 0
IsExchange p command (Some reply) talk last = (talk.sent ≡ command_item command ∷ []) × (talk.received ≡ reply ∷ [])
IsExchange p command None talk last =
    (is_written : Bool) × (talk.sent ≡ newly_sent false is_written (command_item command)) × (talk.received ≡ [])
    × GivesUpBy p talk last

abbrev pub Exchanges : Pace → (List Ask → Type 0) → Talker → List ℕ → Option (List ℕ) → Talker → Type 0
Exchanges p Asked first command reply last =
    (talk : Talk) × Talks p first talk last × Asked talk.asks × IsExchange p command reply talk last

-- ---- a farewell

-- The EOF was written or wasn't taken, and nothing was received. It ended where the server had read all, after 100 turns,
-- or where the connection had ended or there was none.
pub record IsFarewell (talk : Talk) (last : Talker) : Type 0 where
  pub is_written : Bool
  pub sent : talk.sent ≡ newly_sent false is_written eof_item
  pub received : talk.received ≡ []
  pub within : talk.turns ≤ END_TURNS
  pub ends : GivesUp END_TURNS talk last ⊎ ((is_written ≡ true) × (all_read last.caller.host last.caller.id ≡ true))

abbrev pub SendsFarewell : Pace → (List Ask → Type 0) → Talker → Talker → Type 0
SendsFarewell p Asked first last = (talk : Talk) × Talks p first talk last × Asked talk.asks × IsFarewell talk last

-- ---- the talk of a call

-- A client took steps, in which it wrote these commands and nothing else that was taken, was given these replies and no other
-- data, and asked its link just what these steps ask.
pub record Says (p : Pace) (Asked : List Ask → Type 0) (first : Talker) (talk : Talked) (last : Talker) : Type 0 where
  pub whole : Talk
  pub talks : Talks p first whole last
  pub asked : Asked whole.asks
  pub sent : whole.sent ≡ map command_item talk.sent
  pub received : whole.received ≡ talk.received

-- Where it began at a moment that its clock shows, it said and heard this, and stands at such a moment.
abbrev pub SaysAt : Pace → (List Ask → Type 0) → Talker → ℕ → Talked → Talker → ℕ → Type 0
SaysAt p Asked first began talk last now = p.Shows began → p.Shows now × Says p Asked first talk last

pub says_none_at : (p : Pace) (Asked : List Ask → Type 0) (c : Talker) (now : ℕ) → Asked [] → SaysAt p Asked c now nothing c now
says_none_at p Asked c now none shown =
    (shown, record { whole = silence; talks = record { steps = []; goes = refl; same = refl }; asked = none; sent = refl; received = refl })
