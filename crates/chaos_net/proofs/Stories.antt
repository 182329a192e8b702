-- How the story of a connection goes on.
use Rattle.std.proofs.Common.{◌≡◌, ℕ, ◌<◌, ◌==◌, ◌&&◌, List, length, Bool, true, false, if◌then◌else◌, nat_lt, Option, Some, None, option_map, refl, sym, ap, ◌∙◌, subst, inl, inr, ◌⊎◌, ⊎_elim, arith}
use Rattle.std.proofs.lemmas.Bool.{false≢true, cases_Bool, eqb-true}
use Rattle.chaos_packet.specs.Opcode.{op_ans, op_cls}
use Rattle.chaos_packet.specs.Packet.{PacketView}
use Rattle.chaos_packet.specs.declared.limits.TheConstants.{MAX_DATA}
use Rattle.chaos_conn.specs.State.{is_inactive, is_requested}
use Rattle.chaos_conn.specs.View.{ConnView}
use Rattle.chaos_conn.specs.Acted.{Acted}
use Rattle.chaos_conn.specs.Opening.{Outcome, turn_away}
use Rattle.chaos_conn.specs.Arriving.{act_deliver, is_between_hosts, is_between_indices, may_be_index}
use Rattle.chaos_conn.specs.Act.{Call, act}
use Rattle.chaos_conn.specs.Act.Call.{Request, TakeRequest, Accept, Answer, Reject, Deliver, Write, Unc, Read, FinishRead, Announce, Close, Tick}
use Rattle.chaos_conn.specs.Act.Reply.{Came}
use Rattle.chaos_conn.specs.Names.{KeepsNames, Opens, Stays, begins, ends, is_named}
use Rattle.chaos_conn.proofs.NamesStay.{names_stay, opens_or_stays}
use Rattle.chaos_host.specs.Law.{may_end}
use Rattle.chaos_host.proofs.InUse.{stays_in_use}
use Rattle.chaos_net.specs.Net.{Name, Story, index_of, Near, goes_on, peer_by, peer_after}
use Rattle.chaos_net.specs.Played.{IsNamed}

-- ---- indices

-- connections near one another with one index are one
pub same_index : (a b : Name) → a.place < 255 → b.place < 255 → index_of a ≡ index_of b → Near a b → a ≡ b
same_index a b pa pb same near =
    let place : a.place ≡ b.place = omega (arith, pa, pb, same) in
    let turn : a.turn ≡ b.turn = omega (arith, pa, pb, same, near.0, near.1) in
    λ j. record { place = place j; turn = turn j }

-- ---- the peer

-- an OPN opened it, and its peer is the sender
pub record Opening (s : Story) (call : Call) (from : Option Name) : Type 0 where
  pub packet : PacketView
  pub now : ℕ
  pub is : call ≡ Deliver packet now
  pub before : s.peer ≡ None
  pub opens : Opens s.end.conn packet (act_deliver s.end.conn packet now)
  pub peer : (goes_on s call from).peer ≡ from

pub kept_peer : (s : Story) (call : Call) (from : Option Name) (peer : Name) → s.peer ≡ Some peer
    → (goes_on s call from).peer ≡ s.peer
kept_peer s call from peer is = ap (λ o. peer_after o (act s.end.conn call).answer from) is ∙ sym is

no_peer : (s : Story) (call : Call) (from : Option Name) → s.peer ≡ None
    → peer_by (act s.end.conn call).answer from ≡ None → (goes_on s call from).peer ≡ s.peer
no_peer s call from is none = ap (λ o. peer_after o (act s.end.conn call).answer from) is ∙ none ∙ sym is

-- it stays, or the connection was opened
pub peer_cases : (s : Story) (call : Call) (from : Option Name)
    → ((goes_on s call from).peer ≡ s.peer) ⊎ Opening s call from
peer_cases s call from = by s.peer refl
  where
    without : (call : Call) → s.peer ≡ None → ((goes_on s call from).peer ≡ s.peer) ⊎ Opening s call from
    without (Deliver p now) is =
        ⊎_elim
        (λ (o : Opens s.end.conn p (act_deliver s.end.conn p now)). inr (record {
          packet = p;
          now = now;
          is = refl;
          before = is;
          opens = o;
          peer =
              ap (λ z. peer_after z (Came (act_deliver s.end.conn p now).answer) from) is
              ∙ ap (λ (b : Bool). if b then from else None) o.opened;
        }))
        (λ (k : Stays s.end.conn p (act_deliver s.end.conn p now)). inl
        (no_peer s (Deliver p now) from is (ap (λ (b : Bool). if b then from else None) k.opened)))
        (opens_or_stays s.end.conn p now)
    without (Request me peer contact start now) is = inl (no_peer s (Request me peer contact start now) from is refl)
    without (TakeRequest rfc me now) is = inl (no_peer s (TakeRequest rfc me now) from is refl)
    without (Accept start now) is = inl (no_peer s (Accept start now) from is refl)
    without (Answer bytes) is = inl (no_peer s (Answer bytes) from is refl)
    without (Reject text) is = inl (no_peer s (Reject text) from is refl)
    without (Write op bytes now) is = inl (no_peer s (Write op bytes now) from is refl)
    without (Unc bytes) is = inl (no_peer s (Unc bytes) from is refl)
    without Read is = inl (no_peer s Read from is refl)
    without FinishRead is = inl (no_peer s FinishRead from is refl)
    without (Announce window) is = inl (no_peer s (Announce window) from is refl)
    without (Close text) is = inl (no_peer s (Close text) from is refl)
    without (Tick now) is = inl (no_peer s (Tick now) from is refl)

    by : (o : Option Name) → s.peer ≡ o → ((goes_on s call from).peer ≡ s.peer) ⊎ Opening s call from
    by (Some peer) is = inl (kept_peer s call from peer is)
    by None is = without call is

-- ---- names

-- the calls that end a connection leave it inactive, or change nothing
abbrev IsClosed : ConnView → Acted Outcome → Type 0
IsClosed v acted = (is_inactive acted.view.state ≡ true) ⊎ (acted.view ≡ v)

either : (v : ConnView) (b : Bool) (x y : Acted Outcome) → IsClosed v x → IsClosed v y → IsClosed v (if b then x else y)
either v true x y p q = p
either v false x y p q = q

away_closed : (v : ConnView) (op : ℕ) (bytes : List ℕ) → IsClosed v (turn_away v op bytes)
away_closed v op bytes =
    either v (nat_lt MAX_DATA (length bytes)) _ _ (inr refl) (either v (is_requested v.state) _ _ (inl refl) (inr refl))

pub ends_closed : (v : ConnView) (call : Call) → ends call ≡ true
    → (is_inactive (act v call).view.state ≡ true) ⊎ ((act v call).view ≡ v)
ends_closed v (Answer bytes) e = away_closed v op_ans bytes
ends_closed v (Reject text) e = away_closed v op_cls text
ends_closed v (Close text) e = either v (nat_lt MAX_DATA (length text)) _ _ (inr refl) (inl refl)
ends_closed v (Request me peer contact start now) e = absurd (false≢true e)
ends_closed v (TakeRequest rfc me now) e = absurd (false≢true e)
ends_closed v (Accept start now) e = absurd (false≢true e)
ends_closed v (Deliver p now) e = absurd (false≢true e)
ends_closed v (Write op bytes now) e = absurd (false≢true e)
ends_closed v (Unc bytes) e = absurd (false≢true e)
ends_closed v Read e = absurd (false≢true e)
ends_closed v FinishRead e = absurd (false≢true e)
ends_closed v (Announce window) e = absurd (false≢true e)
ends_closed v (Tick now) e = absurd (false≢true e)

-- the view of a story after a call
pub view_of : (s : Story) (call : Call) (from : Option Name)
    → (goes_on s call from).end.conn ≡ (act s.end.conn call).view
view_of s (Request me peer contact start now) from = refl
view_of s (TakeRequest rfc me now) from = refl
view_of s (Accept start now) from = refl
view_of s (Answer bytes) from = refl
view_of s (Reject text) from = refl
view_of s (Deliver packet now) from = refl
view_of s (Write op bytes now) from = refl
view_of s (Unc bytes) from = refl
view_of s Read from = refl
view_of s FinishRead from = refl
view_of s (Announce window) from = refl
view_of s (Close text) from = refl
view_of s (Tick now) from = refl

-- names that were kept are the story's
with_names : (own : ℕ) (name : Name) (s f : Story) → KeepsNames s.end.conn f.end.conn → f.peer ≡ s.peer
    → IsNamed own name s → IsNamed own name f
with_names own name s f k peer n = record {
  me = k.0 ∙ n.me;
  peer_index = k.2 ∙ n.peer_index ∙ ap (option_map index_of) (sym peer);
}

-- a connection that stays in use keeps its names, and learns its peer's index by the OPN that opens it
pub named_on : (own : ℕ) (name : Name) (s : Story) (call : Call) (from : Option Name) → IsNamed own name s
    → begins call ≡ false
    → ((o : Opening s call from) → (c : Name) × (from ≡ Some c) × (o.packet.src_index ≡ index_of c))
    → ((p : PacketView) (now : ℕ) → call ≡ Deliver p now → Opens s.end.conn p (act_deliver s.end.conn p now)
    → s.peer ≡ None)
    → is_inactive (goes_on s call from).end.conn.state ≡ false → IsNamed own name (goes_on s call from)
named_on own name s call from n b sender unopened used =
    ⊎_elim
    (λ (o : Opening s call from).
    let c = sender o in
    let view : (goes_on s call from).end.conn ≡ (act_deliver s.end.conn o.packet o.now).view =
    view_of s call from ∙ ap (λ k. (act s.end.conn k).view) o.is in
    record {
      me = ap (λ v. v.me) view ∙ o.opens.me ∙ n.me;
      peer_index =
          ap (λ v. v.peer_index) view ∙ o.opens.peer_index ∙ ap Some c.2
          ∙ ap (option_map index_of) (sym (o.peer ∙ c.1));
    })
    (λ (same : (goes_on s call from).peer ≡ s.peer). kept same)
    (swap (peer_cases s call from))
  where
    swap : {X Y : Type 0} → X ⊎ Y → Y ⊎ X
    swap (inl x) = inr x
    swap (inr y) = inl y

    names : (call : Call) → begins call ≡ false → ends call ≡ false
        → ((p : PacketView) (now : ℕ) → call ≡ Deliver p now → Opens s.end.conn p (act_deliver s.end.conn p now) → ⊥)
        → KeepsNames s.end.conn (act s.end.conn call).view
    names (Deliver p now) b e shut =
        ⊎_elim (λ (o : Opens s.end.conn p (act_deliver s.end.conn p now)). absurd (shut p now refl o))
        (λ (k : Stays s.end.conn p (act_deliver s.end.conn p now)). k.names) (opens_or_stays s.end.conn p now)
    names (Request me peer contact start now) b e shut = absurd (false≢true (sym b))
    names (TakeRequest rfc me now) b e shut = absurd (false≢true (sym b))
    names (Accept start now) b e shut = names_stay s.end.conn (Accept start now) refl refl refl
    names (Answer bytes) b e shut = absurd (false≢true (sym e))
    names (Reject text) b e shut = absurd (false≢true (sym e))
    names (Write op bytes now) b e shut = names_stay s.end.conn (Write op bytes now) refl refl refl
    names (Unc bytes) b e shut = names_stay s.end.conn (Unc bytes) refl refl refl
    names Read b e shut = names_stay s.end.conn Read refl refl refl
    names FinishRead b e shut = names_stay s.end.conn FinishRead refl refl refl
    names (Announce window) b e shut = names_stay s.end.conn (Announce window) refl refl refl
    names (Close text) b e shut = absurd (false≢true (sym e))
    names (Tick now) b e shut = names_stay s.end.conn (Tick now) refl refl refl

    -- where the peer stays, nothing was opened: an opening needs one that had no peer, and gives it one
    kept : (goes_on s call from).peer ≡ s.peer → IsNamed own name (goes_on s call from)
    kept same =
        ⊎_elim
        (λ (ending : ends call ≡ true).
        ⊎_elim
        (λ (closed : is_inactive (act s.end.conn call).view.state ≡ true). absurd
        (false≢true (sym used ∙ ap (λ v. is_inactive v.state) (view_of s call from) ∙ closed)))
        (λ (still : (act s.end.conn call).view ≡ s.end.conn).
        with_names own name s (goes_on s call from) (keeps (view_of s call from ∙ still)) same n)
        (ends_closed s.end.conn call ending))
        (λ (goes : ends call ≡ false).
        with_names own name s (goes_on s call from)
        (subst (KeepsNames s.end.conn) (sym (view_of s call from))
        (names call b goes (λ p now is o. opened p now is o same)))
        same n)
        (cases_Bool (ends call))
      where
        keeps : {w : ConnView} → w ≡ s.end.conn → KeepsNames s.end.conn w
        keeps h = (ap (λ v. v.me) h, ap (λ v. v.peer) h, ap (λ v. v.peer_index) h)

        opened : (p : PacketView) (now : ℕ) → call ≡ Deliver p now → Opens s.end.conn p (act_deliver s.end.conn p now)
            → (goes_on s call from).peer ≡ s.peer → ⊥
        opened p now is o same =
            let none = unopened p now is o in
            let peer : (goes_on s call from).peer ≡ from =
            ap (λ k. (goes_on s k from).peer) is
            ∙ ap (λ z. peer_after z (Came (act_deliver s.end.conn p now).answer) from) none
            ∙ ap (λ (b : Bool). if b then from else None) o.opened in
            let c = sender (record { packet = p; now = now; is = is; before = none; opens = o; peer = peer }) in
            let no : Some c.0 ≡ None = sym c.1 ∙ sym peer ∙ same ∙ none in
            absurd (cc)

-- a connection in use stays so, but where its user ends it
pub may_end_is : (call : Call) → may_end call ≡ ends call
may_end_is (Request me peer contact start now) = refl
may_end_is (TakeRequest rfc me now) = refl
may_end_is (Accept start now) = refl
may_end_is (Answer bytes) = refl
may_end_is (Reject text) = refl
may_end_is (Deliver packet now) = refl
may_end_is (Write op bytes now) = refl
may_end_is (Unc bytes) = refl
may_end_is Read = refl
may_end_is FinishRead = refl
may_end_is (Announce window) = refl
may_end_is (Close text) = refl
may_end_is (Tick now) = refl

pub still_used : (s : Story) (call : Call) (from : Option Name) → ends call ≡ false
    → is_inactive s.end.conn.state ≡ false → is_inactive (goes_on s call from).end.conn.state ≡ false
still_used s call from goes used =
    ap (λ v. is_inactive v.state) (view_of s call from) ∙ stays_in_use s.end.conn call (may_end_is call ∙ goes) used

-- ---- what the names on a packet say

both : (a b : Bool) → (a && b) ≡ true → (a ≡ true) × (b ≡ true)
both true b h = (refl, h)
both false b h = absurd (false≢true h)

-- a packet under a connection's names is for its index
pub named_for : (own : ℕ) (name : Name) (s : Story) (p : PacketView) → IsNamed own name s → is_named s.end.conn p ≡ true
    → p.dst_index ≡ index_of name
named_for own name s p n h =
    let indices = (both (is_between_hosts s.end.conn p) (is_between_indices s.end.conn p) h).1 in
    eqb-true p.dst_index s.end.conn.me.index
    (both (p.dst_index == s.end.conn.me.index) (may_be_index s.end.conn.peer_index p.src_index) indices).0
    ∙ ap (λ e. e.index) n.me

-- and from its peer's, where that is known
pub named_from : (own : ℕ) (name peer : Name) (s : Story) (p : PacketView) → IsNamed own name s → s.peer ≡ Some peer
    → is_named s.end.conn p ≡ true → p.src_index ≡ index_of peer
named_from own name peer s p n is h =
    let indices = (both (is_between_hosts s.end.conn p) (is_between_indices s.end.conn p) h).1 in
    let may : may_be_index s.end.conn.peer_index p.src_index ≡ true =
    (both (p.dst_index == s.end.conn.me.index) (may_be_index s.end.conn.peer_index p.src_index) indices).1 in
    let known : s.end.conn.peer_index ≡ Some (index_of peer) = n.peer_index ∙ ap (option_map index_of) is in
    sym (eqb-true (index_of peer) p.src_index (sym (ap (λ o. may_be_index o p.src_index) known) ∙ may))
