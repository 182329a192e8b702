-- A connection that its host shows open, and that asked, is one that is served.
use Rattle.std.proofs.Common.{◌≡◌, inl, inr, ℕ, ◌≤◌, Bool, true, false, length, Option, Some, None, refl, sym, ap, ◌∙◌, arith}
use Rattle.std.proofs.lemmas.Bool.{false≢true}
use Rattle.chaos_conn.specs.State.{is_ended, is_live}
use Rattle.chaos_conn.specs.declared.state.State.TheVariants as st
use Rattle.chaos_file.specs.Store.{Files}
use Rattle.chaos_host.specs.Slot.{named_slot}
use Rattle.chaos_lab.specs.declared.side.Side.{Side}
use Rattle.chaos_lab.specs.declared.side.Side.TheVariants.{A, B}
use Rattle.chaos_lab.specs.Laboratory.{LabView, lab_end}
use Rattle.chaos_lab.specs.Machine.{Phase, PlainEnd as Plain, end_of}
use Rattle.chaos_lab.specs.Machine.Phase.{Inactive, RfcSent, RfcReceived, Open, Ended, Closed}
use Rattle.chaos_lab.specs.Shown.{Rest, is_a, shown_at}
use Rattle.chaos_lab.specs.Tied.{HasMachine}
use Rattle.chaos_lab.proofs.OnSide.{stands_at}
use Rattle.chaos_net.specs.Net.{Name, Story, Net, Reached}
use Rattle.chaos_net.specs.Played.{HasPeer, IsEnd}
use Rattle.chaos_net.specs.Present.{named}
use Rattle.chaos_net.proofs.Network.{reached_is_played}
use Rattle.chaos_net.proofs.Present.{named_is_present}
use Rattle.file_net.proofs.Served.{in_lab, opened}
use Rattle.file_end_to_end.specs.World.{ConnectionsOpen}

-- an open end of a laboratory asked where it is A
asked_by : (phase : Phase) (x : Side) (rest : Rest) (b b' : ℕ) (p e : Plain) → is_ended rest.ended ≡ true
    → (shown_at phase x rest b b' p e).state ≡ st.Open → (shown_at phase x rest b b' p e).asked ≡ is_a x
asked_by Inactive x rest b b' p e end h = let no_open : st.Inactive ≡ st.Open = h in absurd (cc)
asked_by RfcSent x rest b b' p e end h = refl
asked_by RfcReceived x rest b b' p e end h = refl
asked_by Open x rest b b' p e end h = refl
asked_by Ended x rest b b' p e end h = refl
asked_by Closed x rest b b' p e end h = let no_open : st.Inactive ≡ st.Open = h in absurd (cc)

lab_asked : (l : LabView) (x : Side) → HasMachine l → (lab_end l x).conn.state ≡ st.Open
    → (lab_end l x).conn.asked ≡ is_a x
lab_asked l A m h =
    let s = stands_at A m.plain l m.ties in
    ap (λ v. v.asked) s.2 ∙ asked_by (end_of m.plain A).phase A s.0 _ _ (end_of m.plain B) (end_of m.plain A) s.1
    (ap (λ v. v.state) (sym s.2) ∙ h)
lab_asked l B m h =
    let s = stands_at B m.plain l m.ties in
    ap (λ v. v.asked) s.2 ∙ asked_by (end_of m.plain B).phase B s.0 _ _ (end_of m.plain A) (end_of m.plain B) s.1
    (ap (λ v. v.state) (sym s.2) ∙ h)

-- one that is open and asked, as its host shows it, asked
open_asked : (n : Net) (name : Name) (s : Story) → Reached n → (n A).story name ≡ Some s → s.end.conn.state ≡ st.Open
    → s.end.conn.asked ≡ true → s.asked ≡ true
open_asked n name s reached there state asked =
    by s.peer s.asked refl refl ((reached_is_played n reached A).station.stories name s there).peer
  where
    as_b : (lab : LabView) → HasMachine lab → IsEnd B s.end lab.b → s.asked ≡ true
    as_b lab machine (inl is) =
        let no_asker = lab_asked lab B machine (ap (λ e. e.conn.state) is ∙ state) in
        absurd (false≢true (sym no_asker ∙ ap (λ e. e.conn.asked) is ∙ asked))
    as_b lab machine (inr past) = absurd (false≢true (sym past.over.dead ∙ ap is_live state))

    by : (peer : Option Name) (b : Bool) → s.peer ≡ peer → s.asked ≡ b → HasPeer (n B) name s peer b → s.asked ≡ true
    by None b peer is known = is ∙ known.0
    by (Some taker) true peer is known = is
    by (Some asker) false peer is known =
        let pair = (reached_is_played n reached B).pairs asker name known.0 known.1 known.2 in
        as_b pair.0 pair.1.machine (pair.1.taken s there (is, peer))

-- and has a peer, since it has read the OPN
open_peer : (n : Net) (name : Name) (s : Story) → Reached n → (n A).story name ≡ Some s → s.end.conn.state ≡ st.Open
    → (c : Name) × (s.peer ≡ Some c)
open_peer n name s reached there state =
    by s.peer s.asked refl ((reached_is_played n reached A).station.stories name s there).peer
  where
    some : 1 ≤ length s.end.read
    some = opened s (in_lab n A name s (reached_is_played n reached) there) state

    by : (peer : Option Name) (b : Bool) → s.peer ≡ peer → HasPeer (n B) name s peer b → (c : Name) × (s.peer ≡ Some c)
    by None b peer known = let zero_read : length s.end.read ≡ 0 = ap length known.1 in absurd (omega (arith, some, zero_read))
    by (Some c) b peer known = (c, peer)

pub connections_open : {S : Type 0} (contents : S → Option Files) (m : Files) → ConnectionsOpen contents m
connections_open contents m w f id slot stands has there shown asked =
    let n = f.net in
    let reached = stands.net.reached in
    let here : named_slot (n A).host.slots id ≡ Some slot = ap (λ h. named_slot h.slots id) (stands.net.hosts A) ∙ there in
    let p = named_is_present n A id slot reached here in
    let state : p.story.end.conn.state ≡ st.Open = ap (λ v. v.state) p.conn ∙ shown in
    let peer = open_peer n (named (n A) id) p.story reached p.there state in (
      named (n A) id,
      peer.0,
      record {
        id = id;
        has = has;
        named_so = refl;
        story = p.story;
        client = record {
          there = p.there;
          asked = open_asked n (named (n A) id) p.story reached p.there state (ap (λ v. v.asked) p.conn ∙ asked);
          peer = peer.1;
        };
      },
    )
