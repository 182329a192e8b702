-- What opening changes.
use Rattle.std.proofs.Common.{◌≡◌, ◌≢◌, ◌⊎◌, ℕ, List, refl, ap, ◌∙◌, sym, inl, inr, nat_lt, cond, Bool, true, false, Some, option_map}
use Rattle.std.proofs.lemmas.Bool.{cases_eq}
use Rattle.chaos_seal.specs.Opening.{Answers, Comes, IsTimely, Opens, after, from_in, heard}
use Rattle.chaos_seal.specs.Peers.{KeepsSealing, SealsView, peer_of, sealing_of, with_peer}
use Rattle.chaos_seal.specs.Window.{nothing_heard}
use Rattle.chaos_seal.specs.declared.fault.SealFault.{SealFault}
use Rattle.chaos_seal.specs.declared.fault.SealFault.TheVariants as faults
use Rattle.chaos_seal.specs.declared.form.Head.{Head}
use Rattle.chaos_seal.specs.declared.opened.Opened.{Opened}
use Rattle.chaos_seal.specs.declared.opened.Opened.TheVariants as opened
use Rattle.chaos_seal.specs.declared.peer.SealPeer.{SealPeer}
use Rattle.chaos_seal.proofs.Answered.{heard_address}
use Rattle.chaos_seal.proofs.Parts.{from_is}
use Rattle.chaos_seal.proofs.Table.{found_itself, found_other, its_address}

-- ---- a host whose counter was heard

pub sealing_kept : (p : SealPeer) (s c : ℕ) → sealing_of (heard p s c) ≡ sealing_of p
sealing_kept p s c = by (nat_lt p.session s)
  where
    by : (b : Bool) → sealing_of (cond b (record p { session = s; window = nothing_heard }) p) ≡ sealing_of p
    by true = refl
    by false = refl

module _ (v : SealsView) (p : SealPeer) (h : Head) (known : peer_of h.from v.peers ≡ Some p) where
  abbrev changed : SealPeer
  changed = heard p h.session h.counter

  address_is : changed.address ≡ h.from
  address_is = heard_address p h.session h.counter ∙ its_address h.from v.peers p known

  pub found_here : peer_of h.from (after v p h).peers ≡ Some changed
  found_here =
      ap (λ a. peer_of a (with_peer changed v.peers)) (sym address_is)
      ∙ found_itself changed v.peers p (ap (λ a. peer_of a v.peers) address_is ∙ known)

  pub found_else : (a : ℕ) → h.from ≢ a → peer_of a (after v p h).peers ≡ peer_of a v.peers
  found_else a ne = found_other a changed v.peers (λ e. ne (sym address_is ∙ e))

  after_keeps : KeepsSealing v (after v p h)
  after_keeps = record {
    me = refl;
    session = refl;
    closed = refl;
    sealing = λ a.
        elim (cases_eq h.from a) [
          | inl e ↦
              let found : peer_of a (after v p h).peers ≡ Some changed = rw e at found_here in
              let was : peer_of a v.peers ≡ Some p = rw e at known in
              ap (option_map sealing_of) found ∙ ap Some (sealing_kept p h.session h.counter)
              ∙ sym (ap (option_map sealing_of) was)
          | inr ne ↦ ap (option_map sealing_of) (found_else a ne)
        ];
  }

-- ---- any datagram

-- The host that stands in the datagram sent it in time, and its counter is heard.
abbrev pub Heard : SealsView → List ℕ → SealsView → Type 0
Heard v d w = (p : SealPeer) × (h : Head) × (peer_of h.from v.peers ≡ Some p) × (from_in d ≡ h.from) × IsTimely v p h × (w ≡ after v p h)

declined : (v w : SealsView) (d : List ℕ) (p : SealPeer) (h : Head) (payload : List ℕ) (fault : SealFault) → Comes v d p h payload
    → Answers v p h payload (opened.Refused fault) w → (w ≡ v) ⊎ ((fault ≡ faults.ForeignPacket) × Heard v d w)
declined v w d p h payload faults.Stale c a = inl a.2
declined v w d p h payload faults.OldSession c a = inl a.2
declined v w d p h payload faults.OldCounter c a = inl a.2
declined v w d p h payload faults.ForeignPacket c a = inr (refl, (p, h, c.known, from_is c.sealed, a.0, a.3))
declined v w d p h payload faults.Short c a = absurd a
declined v w d p h payload faults.BadVersion c a = absurd a
declined v w d p h payload faults.OtherHost c a = absurd a
declined v w d p h payload faults.NoKey c a = absurd a
declined v w d p h payload faults.BadTag c a = absurd a
declined v w d p h payload faults.Unsealed c a = absurd a

answered : (v w : SealsView) (d : List ℕ) (p : SealPeer) (h : Head) (payload : List ℕ) (answer : Opened) → Comes v d p h payload
    → Answers v p h payload answer w → (w ≡ v) ⊎ Heard v d w
answered v w d p h payload (opened.Payload count) c a = inr (p, h, c.known, from_is c.sealed, a.0, a.4)
answered v w d p h payload (opened.Learned from) c a = inr (p, h, c.known, from_is c.sealed, a.0, a.3)
answered v w d p h payload (opened.Hello to session) c a = inl a.4
answered v w d p h payload (opened.Refused fault) c a =
    elim (declined v w d p h payload fault c a) [
      | inl same ↦ inl same
      | inr foreign ↦ inr foreign.1
    ]
answered v w d p h payload opened.Plain c a = absurd a

-- Nothing changes, or a counter of the host that stands in the datagram is heard.
pub changes : (v w : SealsView) (d : List ℕ) (answer : Opened) → Opens v d answer w → (w ≡ v) ⊎ Heard v d w
changes v w d answer (inl plain) = inl plain.2
changes v w d answer (inr (inl (is, fault, refuses, same, e))) = inl e
changes v w d answer (inr (inr (p, h, payload, c, a))) = answered v w d p h payload answer c a

pub refused_same : (v w : SealsView) (d : List ℕ) (fault : SealFault) → Opens v d (opened.Refused fault) w
    → fault ≢ faults.ForeignPacket → w ≡ v
refused_same v w d fault (inl plain) other = plain.2
refused_same v w d fault (inr (inl (is, why, refuses, same, e))) other = e
refused_same v w d fault (inr (inr (p, h, payload, c, a))) other =
    elim (declined v w d p h payload fault c a) [
      | inl same ↦ same
      | inr foreign ↦ absurd (other foreign.0)
    ]

pub others_same : (v w : SealsView) (d : List ℕ) (answer : Opened) (address : ℕ) → Opens v d answer w → address ≢ from_in d
    → peer_of address w.peers ≡ peer_of address v.peers
others_same v w d answer address opens ne =
    elim (changes v w d answer opens) [
      | inl same ↦ ap (λ (u : SealsView). peer_of address u.peers) same
      | inr (p, h, known, from, timely, e) ↦
          ap (λ (u : SealsView). peer_of address u.peers) e
          ∙ found_else v p h known address (λ there. ne (sym (from ∙ there)))
    ]

pub keeps_sealing : (v w : SealsView) (d : List ℕ) (answer : Opened) → Opens v d answer w → KeepsSealing v w
keeps_sealing v w d answer opens =
    elim (changes v w d answer opens) [
      | inl same ↦ rw same (record { me = refl; session = refl; closed = refl; sealing = λ a. refl })
      | inr (p, h, known, from, timely, e) ↦ rw e (after_keeps v p h known)
    ]
