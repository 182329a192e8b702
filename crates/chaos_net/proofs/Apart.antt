-- Packets of one connection change no other.
use Rattle.std.proofs.Common.{◌≡◌, ℕ, ◌&&◌, List, Bool, true, false, not, if◌then◌else◌, Option, Some, None, refl, sym, ap, ◌∙◌, subst, ⊎_elim}
use Rattle.std.specs.Prelude.{slice_get}
use Rattle.std.proofs.lemmas.Bool.{false≢true, cases_Bool}
use Rattle.chaos_packet.specs.Item.{ItemView}
use Rattle.chaos_packet.specs.Opcode.{kind_of, is_rfc}
use Rattle.chaos_packet.specs.Packet.{PacketView}
use Rattle.chaos_conn.specs.declared.answers.Delivered.{Delivered}
use Rattle.chaos_conn.specs.declared.answers.Delivered.TheVariants as came
use Rattle.chaos_conn.specs.declared.answers.Why.{Why}
use Rattle.chaos_conn.specs.declared.answers.Why.TheVariants as why
use Rattle.chaos_conn.specs.State.{is_inactive, is_live}
use Rattle.chaos_conn.specs.View.{ConnView}
use Rattle.chaos_conn.specs.Acted.{Acted}
use Rattle.chaos_conn.specs.Sending.{carries_ack}
use Rattle.chaos_conn.specs.Arriving.{act_deliver, deliver_in, after_rfc, drop_for, is_between_hosts, is_between_indices}
use Rattle.chaos_conn.specs.Act.{Call}
use Rattle.chaos_conn.specs.Act.Call.{TakeRequest, Deliver}
use Rattle.chaos_conn.specs.Act.Reply.{Came}
use Rattle.chaos_conn.specs.Names.{Opens, Stays, is_named, is_opened}
use Rattle.chaos_conn.proofs.Alike.{not_rfc}
use Rattle.chaos_conn.proofs.NamesStay.{opens_or_stays}
use Rattle.chaos_host.specs.declared.route.Route.{Route}
use Rattle.chaos_host.specs.declared.route.Route.TheVariants as to
use Rattle.chaos_host.specs.declared.slot.Slot.{Slot}
use Rattle.chaos_host.specs.Slot.{is_used}
use Rattle.chaos_host.specs.View.{HostView}
use Rattle.chaos_host.specs.Route.{route}
use Rattle.chaos_host.specs.Deeds.{HostEvent, Deed, IsDeed, host_made, deed_of, deed_by, by_used, by_free}
use Rattle.chaos_host.specs.Deeds.HostEvent.{Comes}
use Rattle.chaos_host.specs.Deeds.Deed.{Nothing, Does}
use Rattle.chaos_host.proofs.Deeds.{has_deeds}
use Rattle.chaos_lab.specs.declared.side.Side.{Side}
use Rattle.chaos_lab.specs.declared.side.Side.TheVariants.{A, B}
use Rattle.chaos_lab.specs.Machine.{other}
use Rattle.chaos_lab.specs.Laboratory.{with_opened}
use Rattle.chaos_net.specs.Net.{Name, Story, Sent, Station, Net, present, with_story, story_after, goes_on, peer_after, after_slot, after_deed, after_event, arrives, happens}
use Rattle.chaos_net.specs.Net.NetEvent.{Arrives}
use Rattle.chaos_net.specs.Played.{IsSide}
use Rattle.chaos_net.specs.Apart.{ChangesPeerAlone, IsAsBefore, BareAddsNothing}
use Rattle.chaos_net.proofs.Lists.{some_eq}
use Rattle.chaos_net.proofs.Holding.{name_eq, twice}
use Rattle.chaos_net.proofs.Next.{look_own, look_other}
use Rattle.chaos_net.proofs.Goes.{GoingOn, arrived}
use Rattle.chaos_net.proofs.Network.{reached_is_played}

-- ---- the deed of a packet that comes

-- it is delivered, or its request is taken
abbrev IsOf : PacketView → Deed → Type 0
IsOf p Nothing = Unit {0}
IsOf p (Does place (Deliver q now)) = q ≡ p
IsOf p (Does place (TakeRequest q me now)) = q ≡ p
IsOf p (Does place call) = ⊥

used_of : (p : PacketView) (now place : ℕ) (o : Option Slot) → IsOf p (by_used place (Deliver p now) o)
used_of p now place None = tt
used_of p now place (Some slot) = by (is_used slot)
  where
    by : (b : Bool) → IsOf p (if b then Does place (Deliver p now) else Nothing)
    by true = refl
    by false = tt

free_of : (v : HostView) (p : PacketView) (now place : ℕ) (o : Option Slot) → IsOf p (by_free v p now place o)
free_of v p now place None = tt
free_of v p now place (Some slot) = refl

deed_is_of : (v : HostView) (p : PacketView) (now : ℕ) (r : Route) → IsOf p (deed_by v p now r)
deed_is_of v p now (to.Slot place) = used_of p now place (slice_get v.slots place)
deed_is_of v p now (to.Request place) = free_of v p now place (slice_get v.slots place)
deed_is_of v p now to.NotOurs = tt
deed_is_of v p now to.NoSource = tt
deed_is_of v p now to.NoServer = tt
deed_is_of v p now to.TableFull = tt
deed_is_of v p now to.SendLos = tt
deed_is_of v p now to.DropSilently = tt

stories_after : (n : Net) (x : Side) (event : HostEvent) (from : Option Name) (d : Name)
    → (after_event n x event from x).story d ≡ (after_deed (n x) (deed_of (n x).host event) from).story d
stories_after n A event from d = refl
stories_after n B event from d = refl

pub comes_after : (n : Net) (x : Side) (number now : ℕ) (q : Sent) (d : Name)
    → slice_get (n (other x)).sent number ≡ Some q
    → (happens n (Arrives x number now) x).story d
    ≡ (after_deed (n x) (deed_of (n x).host (Comes q.packet now)) q.by).story d
comes_after n x number now q d there =
    ap (λ o. (arrives n x now o x).story d) there ∙ stories_after n x (Comes q.packet now) q.by d

-- ---- a stranger's packet

-- a story after a delivery that came to this
abbrev goes_by : Story → PacketView → Option Name → Acted Delivered → Story
goes_by s p from acted = record {
  end =
      record { conn = acted.view; first = s.end.first; written = s.end.written; read = with_opened acted.answer p s.end.read };
  asked = s.asked;
  peer = peer_after s.peer (Came acted.answer) from;
}

dropped : (s : Story) (p : PacketView) (from : Option Name) (reason : Why)
    → goes_by s p from (drop_for s.end.conn reason) ≡ s
dropped s p from reason = λ j. record { end = s.end; asked = s.asked; peer = stays s.peer j }
  where
    stays : (o : Option Name) → peer_after o (Came (came.Dropped reason)) from ≡ o
    stays None = refl
    stays (Some peer) = refl

stranger : (s : Story) (p : PacketView) (now : ℕ) (from : Option Name) → is_named s.end.conn p ≡ false
    → is_rfc (kind_of p.op) ≡ false → goes_on s (Deliver p now) from ≡ s
stranger s p now from foreign rfc =
    by (is_live s.end.conn.state) (is_between_hosts s.end.conn p) (is_rfc (kind_of p.op))
    (is_between_indices s.end.conn p) foreign rfc
  where
    v : ConnView
    v = s.end.conn

    by : (live hosts request indices : Bool) → (hosts && indices) ≡ false → request ≡ false
        → goes_by s p from
        (if not live then drop_for s.end.conn why.NotOpen
        else (if not hosts then drop_for s.end.conn why.Stranger
        else (if request then after_rfc s.end.conn p now
        else (if not indices then drop_for s.end.conn why.Stranger else deliver_in s.end.conn.state
        s.end.conn p now))))
        ≡ s
    by false hosts request indices f r = dropped s p from why.NotOpen
    by true false request indices f r = dropped s p from why.Stranger
    by true true true indices f r = absurd (false≢true (sym r))
    by true true false false f r = dropped s p from why.Stranger
    by true true false true f r = absurd (false≢true (sym f))

-- ---- what carries an acknowledgement

deliver_eq : (p q : PacketView) (m k : ℕ) → Deliver p m ≡ Deliver q k → p ≡ q
deliver_eq p q m k h = cc

pub changes_peer_alone : ChangesPeerAlone
changes_peer_alone n x number now q c d s r there sender from ack fresh apart =
    comes_after n x number now q d there
    ∙ by (deed_of own.host (Comes q.packet now)) (deed_is_of own.host q.packet now (route own.host q.packet))
    (has_deeds own.host (Comes q.packet now) (h x).station.host tt)
  where
    own : Station
    own = n x

    far : Station
    far = n (other x)

    h : (y : Side) → IsSide y (n y) (n (other y))
    h = reached_is_played n r

    rfc : is_rfc (kind_of q.packet.op) ≡ false
    rfc = not_rfc (kind_of q.packet.op) ack

    foreign : (place : ℕ) (t : Story) (p : PacketView) (at : ℕ) → own.story (present own place) ≡ Some t
        → is_inactive t.end.conn.state ≡ false → p ≡ q.packet → d ≡ present own place → is_named t.end.conn p ≡ false
    foreign place t p at known used of same =
        ⊎_elim
        (λ (yes : is_named t.end.conn p ≡ true).
        let c0 : Name = present own place in
        let g : GoingOn x own far c0 t (Deliver p at) q.by = record {
          side = h x;
          back = subst (λ y. IsSide (other x) far (n y)) (twice x) (h (other x));
          there = known;
          present = refl;
          used = used;
          goes = refl;
          arrival =
              λ p' at' is.
              record { number = number; packet = q; there = there; is = sym of ∙ deliver_eq p p' at at' is; by = refl; fresh = fresh };
        } in
        let a =
        arrived x own far c0 t (Deliver p at) q.by g p at refl
        (ap (λ (z : PacketView). carries_ack (kind_of z.op)) of ∙ ack) yes in
        let name : a.name ≡ c = some_eq (sym a.from_is ∙ sender) in
        let story : a.story ≡ s = some_eq (sym a.known ∙ ap far.story name ∙ from) in
        absurd (apart (ap (λ (z : Story). z.peer) (sym story) ∙ a.to ∙ ap Some (sym same))))
        (λ (no : is_named t.end.conn p ≡ false). no)
        (cases_Bool (is_named t.end.conn p))

    by : (e : Deed) → IsOf q.packet e → IsDeed own.host e (host_made own.host (Comes q.packet now))
        → (after_deed own e q.by).story d ≡ own.story d
    by Nothing o k = refl
    by (Does place (Deliver p at)) o k =
        let c0 : Name = present own place in
        let u = ((h x).station.slots place k.slot k.there).used k.fits in
        let next : Option Story = story_after (own.story c0) k.slot.conn (Deliver p at) q.by in
        ap (λ z. (after_slot own place (Deliver p at) q.by z).story d) k.there
        ∙ ⊎_elim
        (λ (same : d ≡ c0).
        ap (with_story own.story c0 next) same
        ∙ look_own own.story c0 next
        ∙ ap (λ z. story_after z k.slot.conn (Deliver p at) q.by) u.1
        ∙ ap Some
        (stranger u.0 p at q.by (foreign place u.0 p at u.1 (ap (λ v. is_inactive v.state) u.2 ∙ k.fits) o same)
        (ap (λ (z : PacketView). is_rfc (kind_of z.op)) o ∙ rfc))
        ∙ sym u.1
        ∙ ap own.story (sym same))
        (λ (other_one : d ≡ c0 → ⊥). look_other own.story c0 next d other_one)
        (name_eq d c0)
    by (Does place (TakeRequest p me at)) o k =
        absurd (false≢true (sym rfc ∙ ap (λ (z : PacketView). is_rfc (kind_of z.op)) (sym o) ∙ k.fits.3))
    by (Does place call) o k = absurd o

-- ---- what carries none

read_same : (a : Delivered) (p : PacketView) (items : List ItemView) → is_opened a ≡ false
    → with_opened a p items ≡ items
read_same came.Opened p items h = absurd (false≢true (sym h))
read_same a p items h = refl

peer_same : (o from : Option Name) (a : Delivered) → is_opened a ≡ false → peer_after o (Came a) from ≡ o
peer_same (Some peer) from a h = refl
peer_same None from a h = ap (λ (b : Bool). if b then from else None) h

-- it opens nothing
opens_nothing : (v : ConnView) (p : PacketView) (now : ℕ) → carries_ack (kind_of p.op) ≡ false
    → is_opened (act_deliver v p now).answer ≡ false
opens_nothing v p now bare =
    ⊎_elim
    (λ (o : Opens v p (act_deliver v p now)). absurd (false≢true (sym bare ∙ o.ack)))
    (λ (k : Stays v p (act_deliver v p now)). k.opened)
    (opens_or_stays v p now)

as_before : (s : Story) (p : PacketView) (now : ℕ) (from : Option Name) → carries_ack (kind_of p.op) ≡ false
    → IsAsBefore s (goes_on s (Deliver p now) from)
as_before s p now from bare =
    let shut = opens_nothing s.end.conn p now bare in
    record {
      written = refl;
      read = read_same (act_deliver s.end.conn p now).answer p s.end.read shut;
      peer = peer_same s.peer from (act_deliver s.end.conn p now).answer shut;
    }

pub bare_adds_nothing : BareAddsNothing
bare_adds_nothing n x number now q d s r there bare at =
    let k =
    by (deed_of own.host (Comes q.packet now)) (deed_is_of own.host q.packet now (route own.host q.packet))
    (has_deeds own.host (Comes q.packet now) (h x).station.host tt) in
    (k.0, comes_after n x number now q d there ∙ k.1, k.2)
  where
    own : Station
    own = n x

    h : (y : Side) → IsSide y (n y) (n (other y))
    h = reached_is_played n r

    -- the connection of another slot or turn
    kept : (place : ℕ) (call : Call) (slot : Slot) → slice_get own.host.slots place ≡ Some slot
        → (d ≡ present own place → ⊥)
        → (after_slot own place call q.by (slice_get own.host.slots place)).story d ≡ Some s
    kept place call slot is apart =
        ap (λ z. (after_slot own place call q.by z).story d) is
        ∙ look_other own.story (present own place) (story_after (own.story (present own place)) slot.conn call q.by) d
        apart
        ∙ at

    by : (e : Deed) → IsOf q.packet e → IsDeed own.host e (host_made own.host (Comes q.packet now))
        → (t : Story) × ((after_deed own e q.by).story d ≡ Some t) × IsAsBefore s t
    by Nothing o k = (s, at, record { written = refl; read = refl; peer = refl })
    by (Does place (Deliver p moment)) o k =
        let c0 : Name = present own place in
        let next : Option Story = story_after (own.story c0) k.slot.conn (Deliver p moment) q.by in
        ⊎_elim
        (λ (same : d ≡ c0). (
          goes_on s (Deliver p moment) q.by,
          ap (λ z. (after_slot own place (Deliver p moment) q.by z).story d) k.there
              ∙ ap (with_story own.story c0 next) same
              ∙ look_own own.story c0 next
              ∙ ap (λ z. story_after z k.slot.conn (Deliver p moment) q.by) (ap own.story (sym same) ∙ at),
          as_before s p moment q.by (ap (λ (z : PacketView). carries_ack (kind_of z.op)) o ∙ bare),
        ))
        (λ (apart : d ≡ c0 → ⊥).
        (s, kept place (Deliver p moment) k.slot k.there apart, record { written = refl; read = refl; peer = refl }))
        (name_eq d c0)
    by (Does place (TakeRequest p me moment)) o k =
        let none = ((h x).station.slots place k.slot k.there).free k.fits.0 in (
          s,
          kept place (TakeRequest p me moment) k.slot k.there
              (λ same. let no : None ≡ Some s = sym none ∙ ap own.story (sym same) ∙ at in absurd (cc)),
          record { written = refl; read = refl; peer = refl },
        )
    by (Does place call) o k = absurd o
