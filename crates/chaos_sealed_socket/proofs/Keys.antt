-- The keys stay, and no counter sinks.
use Rattle.std.proofs.Common.{◌≡◌, ℕ, ◌+◌, ◌≤◌, Bool, true, false, if◌then◌else◌, not, ◌&&◌, nat_lt, List, Option, Some, None, is_some, option_map, refl, arith, ap, ap₂, sym, subst, ◌∙◌, inl, inr}
use Rattle.std.proofs.lemmas.Bool.{cases_eq}
use Rattle.chaos_seal.specs.Law.{key_of}
use Rattle.chaos_seal.specs.Opening.{Answers, Comes, Declines, Opens, after, heard}
use Rattle.chaos_seal.specs.Peers.{SealsView, has_key, is_heard_in_clear, peer_of, with_peer}
use Rattle.chaos_seal.specs.Sending.{sent_once}
use Rattle.chaos_seal.specs.Window.{nothing_heard}
use Rattle.chaos_seal.specs.declared.form.Head.{Head}
use Rattle.chaos_seal.specs.declared.fault.SealFault.{SealFault}
use Rattle.chaos_seal.specs.declared.fault.SealFault.TheVariants as faults
use Rattle.chaos_seal.specs.declared.opened.Opened.{Opened}
use Rattle.chaos_seal.specs.declared.opened.Opened.TheVariants as opened
use Rattle.chaos_seal.specs.declared.peer.SealPeer.{SealPeer}
use Rattle.chaos_seal.proofs.Table.{found_itself, found_other, its_address}
use Rattle.chaos_sealed_socket.specs.Law.{KeepsKeys, sent_by, sent_to}
use Rattle.chaos_sealed_socket.specs.Socket.{sealed_host, with_key, destination_of}

pub keeps_all : (v : SealsView) → KeepsKeys v v
keeps_all v = record { me = refl; session = refl; closed = refl; keys = λ host. refl; counters = λ host. omega arith }

pub keeps_both : (u v w : SealsView) → KeepsKeys u v → KeepsKeys v w → KeepsKeys u w
keeps_both u v w one two = record {
  me = two.me ∙ one.me;
  session = two.session ∙ one.session;
  closed = two.closed ∙ one.closed;
  keys = λ host. two.keys host ∙ one.keys host;
  counters = λ host. omega (arith, one.counters host, two.counters host);
}

-- ---- a peer that changed

module _ (v : SealsView) (p q : SealPeer) (known : peer_of q.address v.peers ≡ Some p) where
  abbrev changed : SealsView
  changed = record v { peers = with_peer q v.peers }

  pub counter_now : sent_to q.address changed ≡ q.sent
  counter_now = ap sent_by (found_itself q v.peers p known)

  pub peer_kept : q.key ≡ p.key → p.sent ≤ q.sent → KeepsKeys v changed
  peer_kept key counter = record {
    me = refl;
    session = refl;
    closed = refl;
    keys = λ host.
        elim (cases_eq q.address host) [
          | inl e ↦
              subst (λ (a : ℕ). key_of a changed ≡ key_of a v) e
              (ap (option_map (λ (x : SealPeer). x.key)) (found_itself q v.peers p known) ∙ ap Some key
              ∙ ap (option_map (λ (x : SealPeer). x.key)) (sym known))
          | inr ne ↦ ap (option_map (λ (x : SealPeer). x.key)) (found_other host q v.peers ne)
        ];
    counters = λ host.
        elim (cases_eq q.address host) [
          | inl e ↦
              subst (λ (a : ℕ). sent_to a v ≤ sent_to a changed) e
              (let before : sent_to q.address v ≡ p.sent = ap sent_by known in
              let now : sent_to q.address changed ≡ q.sent = counter_now in
              omega (arith, counter, before, now))
          | inr ne ↦
              let same : sent_to host changed ≡ sent_to host v = ap sent_by (found_other host q v.peers ne) in
              omega (arith, same)
        ];
  }

-- ---- a datagram that was opened

-- of the host nothing but what was heard changes
begun_so : (b : Bool) (p r : SealPeer) → r.address ≡ p.address → r.key ≡ p.key → r.sent ≡ p.sent
    → ((if b then r else p).address ≡ p.address) × ((if b then r else p).key ≡ p.key) × ((if b then r else p).sent ≡ p.sent)
begun_so true p r address key sent = (address, key, sent)
begun_so false p r address key sent = (refl, refl, refl)

after_keeps : (v : SealsView) (d : List ℕ) (p : SealPeer) (h : Head) (payload : List ℕ) → Comes v d p h payload
    → KeepsKeys v (after v p h)
after_keeps v d p h payload comes =
    let same = begun_so (nat_lt p.session h.session) p (record p { session = h.session; window = nothing_heard }) refl refl refl in
    peer_kept v p (heard p h.session h.counter)
    (ap (λ (a : ℕ). peer_of a v.peers) (same.0 ∙ its_address h.from v.peers p comes.known) ∙ comes.known)
    same.1 (omega (arith, same.2))

stays_so : (v w : SealsView) → w ≡ v → KeepsKeys v w
stays_so v w e = subst (KeepsKeys v) (sym e) (keeps_all v)

declined : (v : SealsView) (d : List ℕ) (p : SealPeer) (h : Head) (payload : List ℕ) (fault : SealFault) (w : SealsView)
    → Comes v d p h payload → Declines v p h payload fault w → KeepsKeys v w
declined v d p h payload faults.Stale w comes is = stays_so v w is.2
declined v d p h payload faults.OldSession w comes is = stays_so v w is.2
declined v d p h payload faults.OldCounter w comes is = stays_so v w is.2
declined v d p h payload faults.ForeignPacket w comes is =
    subst (KeepsKeys v) (sym is.3) (after_keeps v d p h payload comes)
declined v d p h payload faults.Short w comes is = absurd is
declined v d p h payload faults.BadVersion w comes is = absurd is
declined v d p h payload faults.OtherHost w comes is = absurd is
declined v d p h payload faults.NoKey w comes is = absurd is
declined v d p h payload faults.BadTag w comes is = absurd is
declined v d p h payload faults.Unsealed w comes is = absurd is

answered : (v : SealsView) (d : List ℕ) (p : SealPeer) (h : Head) (payload : List ℕ) (answer : Opened) (w : SealsView)
    → Comes v d p h payload → Answers v p h payload answer w → KeepsKeys v w
answered v d p h payload (opened.Payload count) w comes is =
    subst (KeepsKeys v) (sym is.4) (after_keeps v d p h payload comes)
answered v d p h payload (opened.Learned from) w comes is =
    subst (KeepsKeys v) (sym is.3) (after_keeps v d p h payload comes)
answered v d p h payload (opened.Hello to session) w comes is = stays_so v w is.4
answered v d p h payload (opened.Refused fault) w comes is = declined v d p h payload fault w comes is
answered v d p h payload opened.Plain w comes is = absurd is

-- opening a datagram
pub opened_keeps : (v w : SealsView) (came : List ℕ) (answer : Opened) → Opens v came answer w → KeepsKeys v w
opened_keeps v w came answer (inl plain) = stays_so v w plain.2
opened_keeps v w came answer (inr (inl refused)) = stays_so v w refused.4
opened_keeps v w came answer (inr (inr (p, h, payload, comes, is))) = answered v came p h payload answer w comes is

-- sealing a datagram
module _ (v : SealsView) (host : ℕ) (p : SealPeer) (known : peer_of host v.peers ≡ Some p) where
  abbrev its_own : peer_of (sent_once p).address v.peers ≡ Some p
  its_own = ap (λ (a : ℕ). peer_of a v.peers) (its_address host v.peers p known) ∙ known

  pub sealed_keeps : KeepsKeys v (record v { peers = with_peer (sent_once p) v.peers })
  sealed_keeps = peer_kept v p (sent_once p) its_own refl (omega arith)

  pub sealed_count : sent_to host (record v { peers = with_peer (sent_once p) v.peers }) ≡ p.sent + 1
  sealed_count =
      subst (λ (a : ℕ). sent_to a (record v { peers = with_peer (sent_once p) v.peers }) ≡ p.sent + 1)
      (its_address host v.peers p known) (counter_now v p (sent_once p) its_own)

-- ---- the host that a datagram is sealed for

some_key : (o : Option SealPeer) → is_some (option_map (λ (x : SealPeer). x.key) o) ≡ is_some o
some_key None = refl
some_key (Some p) = refl

pub same_keys : (v w : SealsView) → KeepsKeys v w → (host : ℕ) → has_key host w ≡ has_key host v
same_keys v w kept host =
    sym (some_key (peer_of host w.peers)) ∙ ap is_some (kept.keys host) ∙ some_key (peer_of host v.peers)

pub same_in_clear : (v w : SealsView) → KeepsKeys v w → (host : ℕ) → is_heard_in_clear host w ≡ is_heard_in_clear host v
same_in_clear v w kept host = ap₂ (λ (c k : Bool). not c && not k) kept.closed (same_keys v w kept host)

same_with : (v w : SealsView) → KeepsKeys v w → (o : Option ℕ) → with_key w o ≡ with_key v o
same_with v w kept None = refl
same_with v w kept (Some host) = ap (λ (b : Bool). if b then Some host else None) (same_keys v w kept host)

pub same_host : (v w : SealsView) → KeepsKeys v w → (bytes : List ℕ) → sealed_host w bytes ≡ sealed_host v bytes
same_host v w kept bytes = same_with v w kept (destination_of bytes)

known_by : (b : Bool) (to host : ℕ) → ◌≡◌ {A = Option ℕ} (if b then Some to else None) (Some host) → Some to ≡ Some host
known_by true to host e = e
known_by false to host e = absurd (cc)

destination_with : (v : SealsView) (o : Option ℕ) (host : ℕ) → with_key v o ≡ Some host → o ≡ Some host
destination_with v None host e = e
destination_with v (Some to) host e = known_by (has_key to v) to host e

pub its_destination : (v : SealsView) (bytes : List ℕ) (host : ℕ) → sealed_host v bytes ≡ Some host
    → destination_of bytes ≡ Some host
its_destination v bytes host e = destination_with v (destination_of bytes) host e
