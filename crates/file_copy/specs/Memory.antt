-- A FILE server in memory.
use Rattle.std.specs.Prelude.{◌≡◌, ℕ, List, ◌++◌, [], take, Option, Some, None}
use Rattle.std.proofs.Common.{ap, sym, ◌∙◌}
use Rattle.std.proofs.lemmas.List.{append-nil}
use Rattle.std.specs.FinMap as fin
use Rattle.chaos_file.specs.Session.{SessionView, new_session}
use Rattle.chaos_file.specs.Store.{Files}
use Rattle.chaos_file.specs.Step.{Stepped}
use Rattle.chaos_file.specs.Replies.{replies_from}
use Rattle.file_copy.specs.Talk.{Talked, silence, with_received, with_sent}

-- a command's step was done and answered, or there was no memory and nothing changed
abbrev pub StepsOrStays : Stepped → Files → SessionView → Files → SessionView → Option (List ℕ) → Type 0
StepsOrStays step m s n t None = (n ≡ m) × (t ≡ s)
StepsOrStays step m s n t (Some reply) = (n ≡ step.files) × (t ≡ step.session) × (reply ≡ step.reply)

-- What was sent is answered as FILE's definition says, from a new session on and over no files: those replies were received, and these
-- are there behind them.
abbrev pub Answered : Talked → Option (List (List ℕ)) → Type 0
Answered t (Some ready) = replies_from fin.empty new_session t.sent ≡ t.received ++ ready
Answered t None = ⊥

-- these commands were sent, and as many of these replies were received
abbrev pub talked_of : List (List ℕ) → List (List ℕ) → ℕ → Talked
talked_of sent replies received = record { sent = sent; received = take received replies }

pub nothing_more : (t : Talked) → t ≡ with_received silence.received (with_sent silence.sent t)
nothing_more t =
    ap (λ (l : List (List ℕ)). record { sent = l; received = t.received }) (sym (append-nil t.sent))
    ∙ ap (λ (l : List (List ℕ)). record { sent = t.sent ++ []; received = l }) (sym (append-nil t.received))
