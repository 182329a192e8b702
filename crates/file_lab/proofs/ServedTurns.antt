-- Serving a connection once is a turn of its user.
use Rattle.std.proofs.Common.{◌≡◌, ℕ, Bool, true, false, if◌then◌else◌, Option, Some, None, refl, sym, ap, ◌∙◌, subst}
use Rattle.chaos_packet.specs.Item.{ItemView}
use Rattle.chaos_packet.specs.Opcode.{op_data, kind_of}
use Rattle.chaos_packet.specs.Outbox.{OutboxView}
use Rattle.chaos_packet.specs.declared.opcode.Kind.{Kind}
use Rattle.chaos_packet.specs.declared.opcode.Kind.TheVariants as kind
use Rattle.chaos_window.specs.Send.{next_of}
use Rattle.chaos_conn.specs.declared.state.State.{State}
use Rattle.chaos_conn.specs.declared.state.State.TheVariants as st
use Rattle.chaos_conn.specs.State.{is_open}
use Rattle.chaos_conn.specs.View.{ConnView}
use Rattle.chaos_conn.specs.Calls.{can_write, front_of}
use Rattle.chaos_file.specs.Replies.{memory_change}
use Rattle.chaos_file.specs.ServeWork.{Work, NotOpen, Nothing, Full, LastItem, Command, work_of, work_at_front, work_of_kind}
use Rattle.chaos_file.specs.Serve.{DoesWork, ServesConn, ActsTwice, IsReplyTaken}
use Rattle.chaos_file.specs.declared.served.Served.{Served}
use Rattle.chaos_lab.specs.Turn.{Turn, Rests, Reads, Replies, HasFront, TakesTurn}
use Rattle.file_lab.specs.Serving.{Service, ServesBy, turned_by}

pub only_open : (s : State) → is_open s ≡ true → s ≡ st.Open
only_open st.Inactive e = absurd (cc)
only_open st.RfcSent e = absurd (cc)
only_open st.RfcReceived e = absurd (cc)
only_open st.Open e = refl
only_open st.Answered e = absurd (cc)
only_open st.ClsReceived e = absurd (cc)
only_open st.LosReceived e = absurd (cc)
only_open st.HostDown e = absurd (cc)
only_open st.Forwarded e = absurd (cc)

-- ---- what is to be done, by the state, the item in front and the room for a reply

abbrev pub IsWork : Bool → Option ItemView → Bool → Work → Type 0
IsWork is front room LastItem = (is ≡ true) × (item : ItemView) × (front ≡ Some item) × (kind_of item.op ≡ kind.Eof)
IsWork is front room (Command body) =
    (is ≡ true) × (item : ItemView) × (front ≡ Some item) × (room ≡ true) × (item.body ≡ body)
    × (kind_of item.op ≡ kind.Eof → ⊥)
IsWork is front room _ = Unit {0}

room_is : (item : ItemView) (room : Bool) → (kind_of item.op ≡ kind.Eof → ⊥)
    → IsWork true (Some item) room (if room then Command item.body else Full)
room_is item true isnt = (refl, item, refl, refl, refl, isnt)
room_is item false isnt = tt

kind_is : (item : ItemView) (room : Bool) (k : Kind) → kind_of item.op ≡ k
    → IsWork true (Some item) room (work_of_kind k room item.body)
kind_is item room kind.Eof e = (refl, item, refl, e)
kind_is item room kind.Data e = room_is item room (λ z. let isnt : kind.Data ≡ kind.Eof = sym e ∙ z in absurd (cc))
kind_is item room kind.Rfc e = room_is item room (λ z. let isnt : kind.Rfc ≡ kind.Eof = sym e ∙ z in absurd (cc))
kind_is item room kind.Opn e = room_is item room (λ z. let isnt : kind.Opn ≡ kind.Eof = sym e ∙ z in absurd (cc))
kind_is item room kind.Cls e = room_is item room (λ z. let isnt : kind.Cls ≡ kind.Eof = sym e ∙ z in absurd (cc))
kind_is item room kind.Fwd e = room_is item room (λ z. let isnt : kind.Fwd ≡ kind.Eof = sym e ∙ z in absurd (cc))
kind_is item room kind.Ans e = room_is item room (λ z. let isnt : kind.Ans ≡ kind.Eof = sym e ∙ z in absurd (cc))
kind_is item room kind.Sns e = room_is item room (λ z. let isnt : kind.Sns ≡ kind.Eof = sym e ∙ z in absurd (cc))
kind_is item room kind.Sts e = room_is item room (λ z. let isnt : kind.Sts ≡ kind.Eof = sym e ∙ z in absurd (cc))
kind_is item room kind.Los e = room_is item room (λ z. let isnt : kind.Los ≡ kind.Eof = sym e ∙ z in absurd (cc))
kind_is item room kind.Lsn e = room_is item room (λ z. let isnt : kind.Lsn ≡ kind.Eof = sym e ∙ z in absurd (cc))
kind_is item room kind.Unc e = room_is item room (λ z. let isnt : kind.Unc ≡ kind.Eof = sym e ∙ z in absurd (cc))
kind_is item room kind.Other e = room_is item room (λ z. let isnt : kind.Other ≡ kind.Eof = sym e ∙ z in absurd (cc))

work_is : (is : Bool) (state : State) (front : Option ItemView) (room : Bool)
    → IsWork is front room (if is then work_at_front front room else NotOpen state)
work_is false state front room = tt
work_is true state None room = tt
work_is true state (Some item) room = kind_is item room (kind_of item.op) refl

pub is_work : (v : ConnView) (work : Work) → work_of v ≡ work → IsWork (is_open v.state) (front_of v) (can_write v) work
is_work v work is =
    subst (IsWork (is_open v.state) (front_of v) (can_write v)) is
    (work_is (is_open v.state) v.state (front_of v) (can_write v))

-- ---- the turn

pub TurnOf : (s t : Service) (v w : ConnView) (now : ℕ) (before after : OutboxView) (answer : Served) (work : Work)
    → Type 0
TurnOf s t v w now before after answer work =
    (turn : Turn) × ServesBy s t turn answer work × TakesTurn v now turn w before after (turned_by answer)

turn_by : (s t : Service) (v w : ConnView) (now : ℕ) (before after : OutboxView) (answer : Served) → IsReplyTaken
    → (work : Work) → work_of v ≡ work
    → DoesWork (memory_change s.files t.files) s.session t.session (λ acted. ActsTwice v acted w before after answer) v
    now work
    → TurnOf s t v w now before after answer work
unfolding TurnOf
turn_by s t v w now before after answer law (NotOpen state) is h =
    (Rests, (refl, (λ j. record { session = h.0.0 j; files = h.0.1 j }), h.1.answers), record { taken = tt; view = h.1.view; packets = h.1.packets; config = h.1.config; done = ap turned_by h.1.answers })
turn_by s t v w now before after answer law Nothing is h =
    (Rests, (refl, (λ j. record { session = h.0.0 j; files = h.0.1 j }), h.1.answers), record { taken = tt; view = h.1.view; packets = h.1.packets; config = h.1.config; done = ap turned_by h.1.answers })
turn_by s t v w now before after answer law Full is h =
    (Rests, (refl, (λ j. record { session = h.0.0 j; files = h.0.1 j }), h.1.answers), record { taken = tt; view = h.1.view; packets = h.1.packets; config = h.1.config; done = ap turned_by h.1.answers })
turn_by s t v w now before after answer law LastItem is h =
    let k = is_work v LastItem is in
    let front : HasFront v = record { is_open = only_open v.state k.0; item = k.1; front = k.2 } in
    (Reads, (refl, (λ j. record { session = h.0.0 j; files = h.0.1 j }), h.1.answers), record { taken = front; view = h.1.view; packets = h.1.packets; config = h.1.config; done = ap turned_by h.1.answers })
turn_by s t v w now before after answer law (Command body) is h =
    let k = is_work v (Command body) is in
    let front : HasFront v = record { is_open = only_open v.state k.0; item = k.1; front = k.2 } in
    (Replies op_data h.0, (h.0, refl, h.2.answers, h.1), record { taken = (front, (next_of v.send, law v h.0 now k.3 h.1.fits)); view = h.2.view; packets = h.2.packets; config = h.2.config; done = ap turned_by h.2.answers })

pub serves_turn : (s t : Service) (v w : ConnView) (now : ℕ) (before after : OutboxView) (answer : Served)
    → IsReplyTaken → ServesConn (memory_change s.files t.files) s.session t.session v now w before after answer
    → (turn : Turn) × ServesBy s t turn answer (work_of v) × TakesTurn v now turn w before after (turned_by answer)
unfolding TurnOf
serves_turn s t v w now before after answer law h = turn_by s t v w now before after answer law (work_of v) refl h
