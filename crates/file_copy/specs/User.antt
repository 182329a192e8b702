-- The talk of a user, whose LOGIN goes in front of the first command, and whose reply to it comes in front of the first reply.
use Rattle.std.specs.Prelude.{◌≡◌, ℕ, ◌+◌, Bool, true, false, List, [], ◌∷◌, ◌++◌, drop, length, Some, Ok, Result}
use Rattle.std.specs.Fmt.{decimal}
use Rattle.std.proofs.Common.{arith, refl, subst, sym}
use Rattle.std.proofs.lemmas.List.{drop_all}
use Rattle.chaos_node.specs.declared.fault.NodeFault.{NodeFault}
use Rattle.file_copy.specs.declared.end.CopyEnd.{CopyEnd}
use Rattle.file_copy.specs.declared.end.CopyEnd.TheVariants.{Unanswered, Unknown}
use Rattle.file_copy.specs.Ends.{EndedBy, login_command, login_reply}
use Rattle.file_copy.specs.Talk.{History, Since, Talked, silence, since_none}
use Rattle.file_copy.specs.declared.talk.Talk as t
use Rattle.file_copy.specs.declared.login.Login.{Login}
use Rattle.file_copy.specs.declared.login.Login.TheVariants.{Unsent, Sent, Done, Missed}
use Rattle.file_copy.specs.declared.user.UserTalk.{UserTalk}

-- the LOGIN, once it was sent
abbrev pub login_sent : List ℕ → Login → List (List ℕ)
login_sent name Unsent = []
login_sent name Sent = login_command name ∷ []
login_sent name Done = login_command name ∷ []
login_sent name (Missed reply) = login_command name ∷ []

-- the reply to the LOGIN, once it came
abbrev pub login_received : List ℕ → Login → List (List ℕ)
login_received name Unsent = []
login_received name Sent = []
login_received name Done = login_reply name ∷ []
login_received name (Missed reply) = reply.items ∷ []

abbrev pub is_heard : Login → Bool
is_heard Unsent = false
is_heard Sent = false
is_heard Done = true
is_heard (Missed reply) = true

-- a reply came that doesn't log the user in
abbrev pub is_missed : Login → Bool
is_missed Unsent = false
is_missed Sent = false
is_missed Done = false
is_missed (Missed reply) = true

-- commands may go behind the LOGIN
abbrev pub MayFollow : Login → Type 0
MayFollow Unsent = ⊥
MayFollow Sent = Unit {0}
MayFollow Done = Unit {0}
MayFollow (Missed reply) = ⊥

-- With the LOGIN, no more commands are without a reply than the server's window allows: a command takes one of the places that are left
-- behind the LOGIN, until the reply to the LOGIN came.
abbrev pub TakesPlace : ℕ → Login → ℕ → ℕ → Type 0
TakesPlace window Unsent room left = window ≡ left + 2
TakesPlace window Sent room left = room ≡ left + 1
TakesPlace window Done room left = Unit {0}
TakesPlace window (Missed reply) room left = ⊥

-- How a copy ended that a talk says ended so: by the reply to the LOGIN, where it came and doesn't log the user in. Where the
-- LOGIN wasn't sent, no command was sent, so that nothing was done.
abbrev pub EndsFor : Login → Result CopyEnd NodeFault → Result CopyEnd NodeFault → Type 0
EndsFor (Missed reply) (Ok end) result = (e : CopyEnd) × (result ≡ Ok e) × EndedBy (decimal 0) [] (λ _. ⊥) (Some reply.items) e
EndsFor Unsent (Ok Unknown) result = result ≡ Ok Unanswered
EndsFor login end result = result ≡ end

-- No command goes before the LOGIN. No reply comes before that to the LOGIN, nor behind one that doesn't log the user in.
abbrev pub InTurn : Login → Login → Talked → Type 0
InTurn was Unsent talk = (was ≡ Unsent) × (talk ≡ silence)
InTurn was Sent talk = (is_heard was ≡ false) × (talk.received ≡ [])
InTurn was Done talk = Unit {0}
InTurn was (Missed reply) talk = talk.received ≡ []

-- what of a list stands behind a list that is its prefix
abbrev behind : List (List ℕ) → List (List ℕ) → List (List ℕ)
behind before all = drop (length before) all

-- From one state of a talk to another, this was sent and received beside the LOGIN and its reply, which stand in front.
pub record Says {T : Type 0} (talked : T → History T) (start now : T) (name : List ℕ) (was is : Login) (talk : Talked) : Type 0
  where
    pub in_turn : InTurn was is talk
    pub since : Since (talked start) (talked now) (behind (login_sent name was) (login_sent name is) ++ talk.sent)
        (behind (login_received name was) (login_received name is) ++ talk.received)

module _ {T : Type 0} {ghosts : t.Ghosts T} where
  -- what a user's talk may have sent and received beside the LOGIN and its reply
  abbrev pub user_talked : (T → History T) → UserTalk T ghosts → History (UserTalk T ghosts)
  user_talked talked now start talk =
      (now.name.now ≡ start.name.now) × Says talked start.talk now.talk now.name.now start.login now.login talk

-- ---- since it stands where it is, nothing was

behind_itself : (xs : List (List ℕ)) → drop (length xs) xs ≡ []
behind_itself xs = drop_all (length xs) xs (omega arith)

in_turn_still : (login : Login) → InTurn login login silence
in_turn_still Unsent = (refl, refl)
in_turn_still Sent = (refl, refl)
in_turn_still Done = tt
in_turn_still (Missed reply) = refl

pub user_began : {T : Type 0} {ghosts : t.Ghosts T} (talked : T → History T) (user : UserTalk T ghosts)
    → user_talked talked user user silence
user_began talked user = (
  refl,
  record {
    in_turn = in_turn_still user.login;
    since =
        subst (λ xs. Since (talked user.talk) (talked user.talk) (xs ++ []) (drop (length (login_received user.name.now user.login)) (login_received user.name.now user.login) ++ []))
        (sym (behind_itself (login_sent user.name.now user.login)))
        (subst (λ xs. Since (talked user.talk) (talked user.talk) [] (xs ++ []))
        (sym (behind_itself (login_received user.name.now user.login))) (since_none (talked user.talk)));
  },
)
