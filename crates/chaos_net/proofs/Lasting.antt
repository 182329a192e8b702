-- Stories last.
use Rattle.std.proofs.Common.{◌≡◌, ℕ, List, [], ◌∷◌, ◌++◌, Bool, true, false, if◌then◌else◌, Option, Some, None, refl, sym, ap, ◌∙◌, ⊎_elim}
use Rattle.std.specs.Prelude.{slice_get}
use Rattle.std.specs.Option.{option_to_list}
use Rattle.chaos_packet.specs.Begins.{Begins}
use Rattle.chaos_packet.specs.Item.{ItemView}
use Rattle.chaos_packet.specs.Packet.{PacketView}
use Rattle.chaos_conn.specs.declared.answers.Delivered.{Delivered}
use Rattle.chaos_conn.specs.declared.answers.Delivered.TheVariants as came
use Rattle.chaos_conn.specs.declared.answers.ReadEnd.{ReadEnd}
use Rattle.chaos_conn.specs.declared.answers.ReadEnd.TheVariants as gave
use Rattle.chaos_conn.specs.View.{ConnView}
use Rattle.chaos_conn.specs.Calls.{front_of, act_read}
use Rattle.chaos_conn.specs.Arriving.{act_deliver}
use Rattle.chaos_conn.specs.Act.{Call, act}
use Rattle.chaos_conn.specs.Act.Call.{Request, TakeRequest, Accept, Answer, Reject, Deliver, Write, Unc, Read, FinishRead, Announce, Close, Tick}
use Rattle.chaos_conn.specs.Names.{is_refused}
use Rattle.chaos_host.specs.declared.slot.Slot.{Slot}
use Rattle.chaos_host.specs.Deeds.{HostEvent, Deed, deed_of}
use Rattle.chaos_host.specs.Deeds.HostEvent.{Comes}
use Rattle.chaos_host.specs.Deeds.Deed.{Nothing, Does}
use Rattle.chaos_lab.specs.declared.side.Side.{Side}
use Rattle.chaos_lab.specs.declared.side.Side.TheVariants.{A, B}
use Rattle.chaos_lab.specs.Machine.{other}
use Rattle.chaos_lab.specs.Laboratory.{with_written, with_given, with_opened, with_read}
use Rattle.chaos_lab.proofs.Lists.{begins_itself, begins_longer, begins_through}
use Rattle.chaos_net.specs.Net.{Name, Story, Sent, Station, Net, NetEvent, present, as_read, goes_on, story_after, after_slot, after_deed, after_event, arrives, happens}
use Rattle.chaos_net.specs.Net.NetEvent.{At, Arrives}
use Rattle.chaos_net.specs.Lasting.{LastsAs, StoriesLast}
use Rattle.chaos_net.proofs.Holding.{name_eq}
use Rattle.chaos_net.proofs.Next.{look_own, look_other}
use Rattle.chaos_net.proofs.Stories.{kept_peer}

-- ---- a story goes on

longer : (xs ys : List ItemView) → Begins xs (xs ++ ys)
longer xs ys = begins_longer xs xs ys (begins_itself xs)

either : (b : Bool) (xs ys zs : List ItemView) → Begins xs ys → Begins xs zs → Begins xs (if b then ys else zs)
either true xs ys zs p q = p
either false xs ys zs p q = q

wrote : (call : Call) (packets : List PacketView) (items : List ItemView)
    → Begins items (with_written call packets items)
wrote (Write op bytes now) packets items = longer items _
wrote (Accept start now) packets items = longer items _
wrote (Request me peer contact start now) packets items = begins_itself items
wrote (TakeRequest rfc me now) packets items = begins_itself items
wrote (Answer bytes) packets items = begins_itself items
wrote (Reject text) packets items = begins_itself items
wrote (Deliver p now) packets items = begins_itself items
wrote (Unc bytes) packets items = begins_itself items
wrote Read packets items = begins_itself items
wrote FinishRead packets items = begins_itself items
wrote (Announce window) packets items = begins_itself items
wrote (Close text) packets items = begins_itself items
wrote (Tick now) packets items = begins_itself items

gave_more : (given : ReadEnd) (items : List ItemView) → Begins items (with_given given items)
gave_more (gave.Item item) items = longer items _
gave_more gave.Nothing items = begins_itself items
gave_more (gave.Ended state) items = begins_itself items

opened_more : (delivered : Delivered) (p : PacketView) (items : List ItemView)
    → Begins items (with_opened delivered p items)
opened_more came.Opened p items = longer items _
opened_more delivered p items = begins_itself items

has_read : (v : ConnView) (call : Call) (items : List ItemView)
    → Begins items (with_read v call (act v call).answer items)
has_read v Read items = gave_more (act_read v).answer items
has_read v (Deliver p now) items = opened_more (act_deliver v p now).answer p items
has_read v (Accept start now) items = longer items (option_to_list (front_of v))
has_read v (Write op bytes now) items = begins_itself items
has_read v (Request me peer contact start now) items = begins_itself items
has_read v (TakeRequest rfc me now) items = begins_itself items
has_read v (Answer bytes) items = begins_itself items
has_read v (Reject text) items = begins_itself items
has_read v (Unc bytes) items = begins_itself items
has_read v FinishRead items = begins_itself items
has_read v (Announce window) items = begins_itself items
has_read v (Close text) items = begins_itself items
has_read v (Tick now) items = begins_itself items

goes_lasts : (s : Story) (call : Call) (from : Option Name) → LastsAs s (goes_on s call from)
goes_lasts s call from = record {
  written =
      either (is_refused (act s.end.conn (as_read call)).answer) _ _ _ (begins_itself s.end.written)
      (wrote (as_read call) (act s.end.conn (as_read call)).packets s.end.written);
  read =
      either (is_refused (act s.end.conn (as_read call)).answer) _ _ _ (begins_itself s.end.read)
      (has_read s.end.conn (as_read call) s.end.read);
  asked = refl;
  peer = λ peer is. kept_peer s call from peer is ∙ is;
}

same_lasts : (s : Story) → LastsAs s s
same_lasts s =
    record { written = begins_itself s.end.written; read = begins_itself s.end.read; asked = refl; peer = λ peer is. is }

lasts_through : (s t u : Story) → LastsAs s t → LastsAs t u → LastsAs s u
lasts_through s t u h k = record {
  written = begins_through s.end.written t.end.written u.end.written h.written k.written;
  read = begins_through s.end.read t.end.read u.end.read h.read k.read;
  asked = k.asked ∙ h.asked;
  peer = λ peer is. k.peer peer (h.peer peer is);
}

-- ---- the stories of a station

-- the story of a name has gone on in other stories
abbrev Lasts : (Name → Option Story) → Name → Story → Type 0
Lasts stories name s = (t : Story) × (stories name ≡ Some t) × LastsAs s t

slot_lasts : (st : Station) (place : ℕ) (call : Call) (from : Option Name) (o : Option Slot) (name : Name) (s : Story)
    → st.story name ≡ Some s → Lasts (after_slot st place call from o).story name s
slot_lasts st place call from None name s there = (s, there, same_lasts s)
slot_lasts st place call from (Some slot) name s there =
    let c : Name = present st place in
    let o : Option Story = story_after (st.story c) slot.conn call from in
    ⊎_elim
    (λ (same : name ≡ c).
    let here : st.story c ≡ Some s = ap st.story (sym same) ∙ there in
    (goes_on s call from, ap (after_slot st place call from (Some slot)).story same ∙ look_own st.story c o ∙ ap (λ z. story_after z slot.conn call from) here, goes_lasts s call from))
    (λ (apart : name ≡ c → ⊥). (s, look_other st.story c o name apart ∙ there, same_lasts s))
    (name_eq name c)

deed_lasts : (st : Station) (d : Deed) (from : Option Name) (name : Name) (s : Story) → st.story name ≡ Some s
    → Lasts (after_deed st d from).story name s
deed_lasts st Nothing from name s there = (s, there, same_lasts s)
deed_lasts st (Does place call) from name s there =
    slot_lasts st place call from (slice_get st.host.slots place) name s there

-- ---- a net

pub event_lasts : (n : Net) (x : Side) (event : HostEvent) (from : Option Name) (y : Side) (name : Name) (s : Story)
    → (n y).story name ≡ Some s → Lasts (after_event n x event from y).story name s
event_lasts n A event from A name s there = deed_lasts (n A) (deed_of (n A).host event) from name s there
event_lasts n A event from B name s there = (s, there, same_lasts s)
event_lasts n B event from A name s there = (s, there, same_lasts s)
event_lasts n B event from B name s there = deed_lasts (n B) (deed_of (n B).host event) from name s there

arrives_lasts : (n : Net) (x : Side) (now : ℕ) (o : Option Sent) (y : Side) (name : Name) (s : Story)
    → (n y).story name ≡ Some s → Lasts (arrives n x now o y).story name s
arrives_lasts n x now None y name s there = (s, there, same_lasts s)
arrives_lasts n x now (Some q) y name s there = event_lasts n x (Comes q.packet now) q.by y name s there

step_lasts : (n : Net) (event : NetEvent) (y : Side) (name : Name) (s : Story) → (n y).story name ≡ Some s
    → Lasts (happens n event y).story name s
step_lasts n (At x event) y name s there = event_lasts n x event None y name s there
step_lasts n (Arrives x number now) y name s there =
    arrives_lasts n x now (slice_get (n (other x)).sent number) y name s there

pub stories_last : StoriesLast
stories_last n [] y name s there = (s, there, same_lasts s)
stories_last n (event ∷ events) y name s there =
    let one = step_lasts n event y name s there in
    let rest = stories_last (happens n event) events y name one.0 one.1 in
    (rest.0, rest.1, lasts_through s one.0 rest.0 one.2 rest.2)
