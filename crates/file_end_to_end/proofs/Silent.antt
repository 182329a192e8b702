-- A connection that is asking, or was just asked for: its user wrote and read nothing.
use Rattle.std.proofs.Common.{◌≡◌, ◌==◌, ℕ, Bool, true, false, if◌then◌else◌, List, [], ◌∷◌, length, Option, Some, None, Ok, Err, refl, sym, ap, ◌∙◌, subst, inl, inr, arith}
use Rattle.std.specs.Prelude.{nat_le, nat_lt, slice_get, ◌-◌}
use Rattle.std.specs.Result.{result_ok}
use Rattle.std.proofs.lemmas.Bool.{false≢true}
use Rattle.std.proofs.lemmas.Option.{slice_get_within}
use Rattle.chaos_packet.specs.Item.{ItemView}
use Rattle.chaos_packet.specs.Opcode.{is_rfc, kind_of}
use Rattle.chaos_packet.specs.Packet.{item_of}
use Rattle.chaos_packet.specs.declared.limits.TheConstants.{MAX_DATA}
use Rattle.chaos_packet.specs.declared.opcode.Kind.{Kind}
use Rattle.chaos_packet.specs.declared.opcode.Kind.TheVariants as kind
use Rattle.chaos_conn.specs.Act.{Call}
use Rattle.chaos_conn.specs.Act.Call.{Request}
use Rattle.chaos_conn.specs.State.{is_live}
use Rattle.chaos_conn.specs.declared.state.State.{State}
use Rattle.chaos_conn.specs.declared.state.State.TheVariants as st
use Rattle.chaos_host.specs.Acted.{no_effect}
use Rattle.chaos_host.specs.Connect.{ConnectAnswer, connect_at, connect_slot, host_connect}
use Rattle.chaos_host.specs.Deeds.{Deed, HostEvent, HostMade, IsDeed, by_asking, by_lowest, deed_of, host_made}
use Rattle.chaos_host.specs.Deeds.Deed.{Nothing, Does}
use Rattle.chaos_host.specs.Deeds.HostEvent.{Connects}
use Rattle.chaos_host.specs.Slot.{free_place, index_of, is_free, named_slot, place_of}
use Rattle.chaos_host.specs.View.{look_slot, own_end}
use Rattle.chaos_host.specs.declared.fault.ConnectFault.TheVariants.{BadAddress, TooLong}
use Rattle.chaos_host.specs.declared.slot.Slot.{Slot}
use Rattle.chaos_host.proofs.Deeds.{has_deeds}
use Rattle.chaos_lab.specs.Laboratory.{LabView}
use Rattle.chaos_lab.specs.Tied.{HasMachine}
use Rattle.chaos_lab.specs.declared.side.Side.TheVariants.{A}
use Rattle.chaos_lab.proofs.Plays.{asking_waits, rfc_is_first}
use Rattle.chaos_net.specs.Net.{Name, Net, Reached, Station, Story, after_deed, after_slot, present, story_after}
use Rattle.chaos_net.specs.Net.NetEvent.{At}
use Rattle.chaos_net.specs.Played.{IsEnd, IsLinked, IsStation, HasRequest}
use Rattle.chaos_net.specs.Present.{named}
use Rattle.chaos_net.proofs.Lists.{some_eq}
use Rattle.chaos_net.proofs.Network.{reached_is_played}
use Rattle.chaos_net.proofs.Next.{look_own}
use Rattle.chaos_net.proofs.Present.{named_is_present}
use Rattle.file_client.specs.Caller.{CallerView, asked, has_asked, is_asking, is_late}
use Rattle.file_lab.specs.Bodies.{data_bodies, with_body}
use Rattle.file_net.specs.FileNet.{FileNet, Nets, file_happens}
use Rattle.file_end_to_end.proofs.Turning.{connects_turns}

-- ---- what the user of the engine's connection wrote and read

-- The connection was asked for. This is all that its user wrote and read.
pub record HasSaid (at : Station) (id : ℕ) (said heard : List (List ℕ)) : Type 0 where
  pub story : Story
  pub there : at.story (named at id) ≡ Some story
  pub asked : story.asked ≡ true
  pub said_so : data_bodies story.end.written ≡ said
  pub heard_so : data_bodies story.end.read ≡ heard

-- Without a connection it is nothing.
abbrev pub Tells : Option ℕ → Station → List (List ℕ) → List (List ℕ) → Type 0
Tells None at said heard = (said ≡ []) × (heard ≡ [])
Tells (Some id) at said heard = HasSaid at id said heard

-- ---- a connection that is asking said and heard nothing

asks_so : (s : State) → has_asked (Ok s) ≡ true → s ≡ st.RfcSent
asks_so st.RfcSent h = refl
asks_so st.Inactive h = absurd (false≢true h)
asks_so st.RfcReceived h = absurd (false≢true h)
asks_so st.Open h = absurd (false≢true h)
asks_so st.Answered h = absurd (false≢true h)
asks_so st.ClsReceived h = absurd (false≢true h)
asks_so st.LosReceived h = absurd (false≢true h)
asks_so st.HostDown h = absurd (false≢true h)
asks_so st.Forwarded h = absurd (false≢true h)

slot_asks : (o : Option Slot) → has_asked (look_slot (λ conn. conn.state) o) ≡ true
    → (slot : Slot) × (o ≡ Some slot) × (slot.conn.state ≡ st.RfcSent)
slot_asks None h = absurd (false≢true h)
slot_asks (Some slot) h = (slot, refl, asks_so slot.conn.state h)

-- an RFC is no data
rfc_bodiless : (k : Kind) (body : List ℕ) → is_rfc k ≡ true → with_body k body [] ≡ []
rfc_bodiless kind.Rfc body h = refl
rfc_bodiless kind.Opn body h = absurd (false≢true h)
rfc_bodiless kind.Cls body h = absurd (false≢true h)
rfc_bodiless kind.Fwd body h = absurd (false≢true h)
rfc_bodiless kind.Ans body h = absurd (false≢true h)
rfc_bodiless kind.Sns body h = absurd (false≢true h)
rfc_bodiless kind.Sts body h = absurd (false≢true h)
rfc_bodiless kind.Los body h = absurd (false≢true h)
rfc_bodiless kind.Lsn body h = absurd (false≢true h)
rfc_bodiless kind.Eof body h = absurd (false≢true h)
rfc_bodiless kind.Unc body h = absurd (false≢true h)
rfc_bodiless kind.Data body h = absurd (false≢true h)
rfc_bodiless kind.Other body h = absurd (false≢true h)

only_rfc : (items : List ItemView) (item : ItemView) → length items ≡ 1 → slice_get items 0 ≡ Some item
    → is_rfc (kind_of item.op) ≡ true → data_bodies items ≡ []
only_rfc [] item one first rfc = absurd (omega arith)
only_rfc (x ∷ []) item one first rfc =
    let same : x ≡ item = some_eq first in
    rfc_bodiless (kind_of x.op) x.body (ap (λ (z : ItemView). is_rfc (kind_of z.op)) same ∙ rfc)
only_rfc (x ∷ y ∷ items) item one first rfc = absurd (omega arith)

lab_is_silent : (s : Story) (l : LabView) → HasMachine l → HasRequest l → IsEnd A s.end l.a
    → s.end.conn.state ≡ st.RfcSent → (data_bodies s.end.written ≡ []) × (data_bodies s.end.read ≡ [])
lab_is_silent s l machine request (inr past) asks = absurd (false≢true (sym past.over.dead ∙ ap is_live asks))
lab_is_silent s l machine request (inl is) asks =
    let waits = asking_waits l machine (ap (λ e. e.conn.state) is ∙ asks) in
    let first = rfc_is_first l request.number request.copy machine request.there request.rfc in
    let written : l.a.written ≡ s.end.written = ap (λ e. e.written) is in
    let read : l.a.read ≡ s.end.read = ap (λ e. e.read) is in (
      ap data_bodies (sym written) ∙ only_rfc l.a.written (item_of request.copy.packet) waits.written first.item request.rfc,
      ap data_bodies (sym read ∙ waits.read),
    )

asking_is_silent : (n : Net) (a : Name) (s : Story) → Reached n → (n A).story a ≡ Some s → s.asked ≡ true
    → s.end.conn.state ≡ st.RfcSent → (data_bodies s.end.written ≡ []) × (data_bodies s.end.read ≡ [])
asking_is_silent n a s reached there asked asks = by s.peer refl
  where
    with_taker : (taker : Name) → IsLinked s.peer taker
        → (data_bodies s.end.written ≡ []) × (data_bodies s.end.read ≡ [])
    with_taker taker link =
        let pair = (reached_is_played n reached A).pairs a taker s there asked in
        lab_is_silent s pair.0 pair.1.machine pair.1.request (pair.1.linked link) asks

    by : (o : Option Name) → s.peer ≡ o → (data_bodies s.end.written ≡ []) × (data_bodies s.end.read ≡ [])
    by None is = with_taker a (subst (λ o. IsLinked o a) (sym is) tt)
    by (Some peer) is = with_taker peer (subst (λ o. IsLinked o peer) (sym is) refl)

-- so the engine that asks again said and heard nothing
pub late_is_silent : (n : Net) (c : CallerView) (now : ℕ) (said heard : List (List ℕ)) → Reached n → (n A).host ≡ c.host
    → is_late now c ≡ true → Tells c.id (n A) said heard → (said ≡ []) × (heard ≡ [])
late_is_silent n c now said heard reached host late tells = by c.id refl late tells
  where
    by : (o : Option ℕ) → c.id ≡ o → (if is_asking c.host o then nat_le c.wait (now - c.since) else false) ≡ true
        → Tells o (n A) said heard → (said ≡ []) × (heard ≡ [])
    by None is late tells = tells
    by (Some id) is late tells =
        let asks : is_asking c.host (Some id) ≡ true = asked_so (is_asking c.host (Some id)) late in
        let at = slot_asks (named_slot (n A).host.slots id) (ap (λ h. is_asking h (Some id)) host ∙ asks) in
        let p = named_is_present n A id at.0 reached at.1 in
        let same : p.story ≡ tells.story = some_eq (sym p.there ∙ tells.there) in
        let state : tells.story.end.conn.state ≡ st.RfcSent =
        ap (λ (z : Story). z.end.conn.state) (sym same) ∙ ap (λ v. v.state) p.conn ∙ at.2 in
        let none = asking_is_silent n (named (n A) id) tells.story reached tells.there tells.asked state in
        (sym tells.said_so ∙ none.0, sym tells.heard_so ∙ none.1)
      where
        asked_so : (b : Bool) → (if b then nat_le c.wait (now - c.since) else false) ≡ true → b ≡ true
        asked_so true h = refl
        asked_so false h = absurd (false≢true h)

-- ---- a connection that was just asked for said and heard nothing

module _ (own far : Station) (h : IsStation own far) (peer : ℕ) (contact : List ℕ) (start now : ℕ) where
  abbrev Told : ConnectAnswer → Deed → Type 0
  Told answer deed = ((p : ℕ) → (after_deed own deed None).turn p ≡ own.turn p)
      → Tells (result_ok answer) (after_deed own deed None) [] []

  begun_slot : (place : ℕ) (slot : Slot) (made : HostMade)
      → IsDeed own.host (Does place (Request (own_end own.host place slot) peer contact start now)) made
      → slice_get own.host.slots place ≡ Some slot
      → Told (Ok (index_of place slot)) (Does place (Request (own_end own.host place slot) peer contact start now))
  begun_slot place slot made deed there turns =
      let call : Call = Request (own_end own.host place slot) peer contact start now in
      let at : Station = after_deed own (Does place call) None in
      let id : ℕ = index_of place slot in
      let c : Name = present own place in
      let same : deed.slot ≡ slot = some_eq (sym deed.there ∙ there) in
      let free : is_free slot ≡ true = ap is_free (sym same) ∙ deed.fits.0 in
      let none : own.story c ≡ None = (h.slots place slot there).free free in
      let within = slice_get_within own.host.slots place slot there in
      let few = h.host.table.few in
      let place_is : place_of id ≡ place = omega (arith, within, few) in
      let name : named at id ≡ c = (λ j. record { place = place_is j; turn = (turns (place_of id) ∙ ap own.turn place_is) j }) in
      let stories : at.story c ≡ story_after None slot.conn call None =
      ap (λ o. (after_slot own place call None o).story c) there
      ∙ look_own own.story c (story_after (own.story c) slot.conn call None)
      ∙ ap (λ o. story_after o slot.conn call None) none in
      record {
        story = _;
        there = ap at.story name ∙ stories;
        asked = refl;
        said_so = refl;
        heard_so = refl;
      }

  begun_place : (o : Option ℕ) (made : HostMade) → IsDeed own.host (by_lowest own.host peer contact start now o) made
      → Told (connect_at own.host peer contact start now o).answer (by_lowest own.host peer contact start now o)
  begun_place None made deed turns = (refl, refl)
  begun_place (Some place) made deed turns =
      by_tests (nat_lt MAX_DATA (length contact)) (peer == 0) deed turns
    where
      by_slot : (o : Option Slot) → slice_get own.host.slots place ≡ o
          → IsDeed own.host (by_asking own.host place peer contact start now o) made
          → Told (connect_slot own.host place peer contact start now o).answer (by_asking own.host place peer contact start now o)
      by_slot None is deed turns = (refl, refl)
      by_slot (Some slot) is deed turns = begun_slot place slot made deed is turns

      by_tests : (long nobody : Bool)
          → IsDeed own.host (if long then Nothing else (if nobody then Nothing else by_asking own.host place peer contact start now (slice_get own.host.slots place))) made
          → Told (if long then no_effect own.host (Err TooLong) else (if nobody then no_effect own.host (Err BadAddress) else connect_slot own.host place peer contact start now (slice_get own.host.slots place))).answer
          (if long then Nothing else (if nobody then Nothing else by_asking own.host place peer contact start now (slice_get own.host.slots place)))
      by_tests true nobody deed turns = (refl, refl)
      by_tests false true deed turns = (refl, refl)
      by_tests false false deed turns = by_slot (slice_get own.host.slots place) refl deed turns

  pub begun_tells : Tells (result_ok (host_connect own.host peer contact start now).answer)
      (after_deed own (deed_of own.host (Connects peer contact start now)) None) [] []
  begun_tells =
      let event : HostEvent = Connects peer contact start now in
      begun_place (free_place own.host.slots) (host_made own.host event) (has_deeds own.host event h.host tt)
      (λ p. connects_turns own far h peer contact start now None p)

-- an event of A's, by its deed
pub event_tells : (f : FileNet) (event : HostEvent) (o : Option ℕ)
    → Tells o (after_deed (f.net A) (deed_of (f.net A).host event) None) [] []
    → Tells o ((file_happens f (Nets (At A event))).net A) [] []
event_tells f event None told = told
event_tells f event (Some id) told = record {
  story = told.story;
  there = told.there;
  asked = told.asked;
  said_so = told.said_so;
  heard_so = told.heard_so;
}
