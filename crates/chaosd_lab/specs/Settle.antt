-- The line `settle`.
use Rattle.std.specs.Prelude.{◌≡◌, ℕ, Bool, true, false, ◌&&◌, IsTrue, nat_le, nat_lt, List, [], ◌∷◌, ◌++◌, Some, codes, take, slice_get}
use Rattle.chaos_conn.specs.View.{ConnView}
use Rattle.chaos_conn.specs.State.{is_open}
use Rattle.chaos_lab.specs.declared.fault.LabFault.TheVariants.{NoMemory}
use Rattle.chaos_lab.specs.Laboratory.{LabView, Happening, happen, after_all}
use Rattle.chaos_lab.specs.Settling.{settling, settling_moment, last_moment}
use Rattle.chaosd_io.specs.Texts.{line}
use Rattle.chaosd_lab.specs.Script.{Done}
use Rattle.chaosd_lab.specs.Answers.{refusal_text}
use Rattle.chaosd_lab.specs.Happen.{event_text}
use Rattle.chaosd_lab.specs.Typed.{event_line}

-- an end is open, and sends again before its peer counts as down
abbrev pub is_in_time : ConnView → Bool
is_in_time v = is_open v.state && nat_lt v.config.retransmit v.config.down

-- both are, and there are moments left
abbrev pub can_settle : LabView → Bool
can_settle l = is_in_time l.a.conn && is_in_time l.b.conn && nat_le (settling_moment l) last_moment

-- what is printed of events as if they were typed, one after the other: the line of each, and what it prints
unfoldable pub typed_text : LabView → List Happening → List ℕ
typed_text l [] = []
typed_text l (event ∷ events) = event_line event ++ event_text l event ++ typed_text (happen l event).lab events

-- where the two ends can't settle
abbrev pub unsettled_text : List ℕ
unsettled_text = line (codes "refused 6 CannotSettle")

-- what the line does, as the ends can settle or not: the events of settling happen, or it is refused
abbrev pub settle_by : Bool → LabView → Done LabView
settle_by true l = record { lab = after_all l (settling l); text = typed_text l (settling l); is_refused = false }
settle_by false l = record { lab = l; text = unsettled_text; is_refused = true }

abbrev pub settle_done : LabView → Done LabView
settle_done l = settle_by (can_settle l) l

-- Where memory runs out in the midst of settling, the events before that one happened, and they are printed, that
-- one's line, and the refusal.
abbrev pub WantsEvents : (before after : LabView) → List ℕ → Type 0
WantsEvents l after text =
    (n : ℕ) × (event : Happening) × (slice_get (settling l) n ≡ Some event)
    × (after ≡ after_all l (take n (settling l)))
    × (text ≡ typed_text l (take n (settling l)) ++ event_line event ++ refusal_text NoMemory)

-- what the line leaves then, and what is printed of it
abbrev pub WantsSettling : (before after : LabView) → List ℕ → Type 0
WantsSettling l after text = IsTrue (can_settle l) × WantsEvents l after text

-- the one word
abbrev pub settle_word : List ℕ
settle_word = codes "settle"
