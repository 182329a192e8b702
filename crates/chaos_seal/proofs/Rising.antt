-- A payload is handed up once, and its copy is refused.
use Rattle.std.proofs.Common.{◌≡◌, ◌≢◌, ℕ, Bool, ◌<◌, List, [], ◌∷◌, length, All, Contains, refl, inl, inr, arith, lit<, lit≤, subst}
use Rattle.std.proofs.lemmas.List.Elements.{All-cons, All-nil}
use Rattle.chaos_packet.specs.Packet.{PacketView}
use Rattle.chaos_packet.specs.Words.{spelling_of}
use Rattle.chaos_link.specs.Datagram.{datagram_of}
use Rattle.chaos_link.specs.Packets.{CarriesAll}
use Rattle.chaos_link.proofs.Either.{one_list}
use Rattle.chaos_seal.specs.Law.{HasRightTag, Up, head_for}
use Rattle.chaos_seal.specs.Opening.{Comes, Opens, after, heard}
use Rattle.chaos_seal.specs.Peers.{Keeps, SealsView, new_peer}
use Rattle.chaos_seal.specs.Rising.{RisesOnce, SomethingRises, first_datagram, first_head, first_payload, first_up, one_host, request}
use Rattle.chaos_seal.specs.Seal.{Seals}
use Rattle.chaos_seal.specs.Sources.{IsAllFrom}
use Rattle.chaos_seal.specs.Window.{nothing_heard}
use Rattle.chaos_seal.specs.declared.fault.SealFault.TheVariants as faults
use Rattle.chaos_seal.specs.declared.opened.Opened.TheVariants as opened
use Rattle.chaos_seal.specs.declared.peer.SealPeer.{SealPeer}
use Rattle.chaos_seal.proofs.Parts.{opens_once}

-- the host, before and after its datagram was heard
abbrev before : List ℕ → SealPeer
before key = new_peer 257 key

abbrev behind : List ℕ → SealPeer
behind key = heard (before key) 5 1

abbrev pub next : Bool → List ℕ → SealsView
next closed key = after (one_host closed key) (before key) first_head

sealed_so : (key payload : List ℕ) → Seals key first_head payload (first_datagram key payload)
sealed_so key payload = record {
  fits = record { to = lit< tt; from = lit< tt; session = lit< tt; peer = lit< tt; counter = lit< tt };
  bytes = refl;
}

-- no other payload has this tag
pub tagged : (closed : Bool) (key payload : List ℕ) (u : Up) → HasRightTag (one_host closed key) u (first_datagram key payload)
    → Contains (first_up payload ∷ []) u
tagged closed key payload u (k, known, sealed) =
    let once = opens_once key k first_head (head_for (one_host closed key) u) payload u.payload (first_datagram key payload) (sealed_so key payload) sealed in (
      0,
      lit< tt,
      λ j. record { from = (once.0 j).from; session = (once.0 j).session; counter = (once.0 j).counter; payload = once.1 j },
    )

kept : (v : SealsView) → Keeps v v
kept v = record { me = refl; session = refl; closed = refl; heard = λ address. refl }

-- it is handed up
pub first_opens : (closed : Bool) (key payload : List ℕ) → payload ≢ [] → IsAllFrom 257 payload
    → Opens (one_host closed key) (first_datagram key payload) (opened.Payload (length payload)) (next closed key)
first_opens closed key payload some all =
    let comes : Comes (one_host closed key) (first_datagram key payload) (before key) first_head payload =
    record { known = refl; me = refl; sealed = sealed_so key payload } in
    inr (inr (before key, first_head, payload, comes, ((refl, lit≤ tt, (lit< tt, lit< tt)), some, all, refl, refl)))

-- its copy is refused
pub then_refused : (closed : Bool) (key payload : List ℕ)
    → Opens (next closed key) (first_datagram key payload) (opened.Refused faults.OldCounter) (next closed key)
then_refused closed key payload =
    let comes : Comes (next closed key) (first_datagram key payload) (behind key) first_head payload =
    record { known = refl; me = refl; sealed = sealed_so key payload } in
    inr
    (inr (
      behind key,
      first_head,
      payload,
      comes,
      (refl, (lit≤ tt, λ fresh. let never : 1 < 1 = fresh.0 in absurd (omega (arith, never))), refl),
    ))

abbrev IsNew : SealPeer → Type 0
IsNew p = (p.session ≡ 0) × (p.window ≡ nothing_heard)

rises_once : (closed : Bool) (key payload : List ℕ) → payload ≢ [] → IsAllFrom 257 payload → RisesOnce closed key payload
rises_once closed key payload some all = record {
  unheard = All-cons IsNew (before key) [] (refl, refl) (All-nil IsNew);
  sealed = (tagged closed key payload, (tagged closed key payload, tt));
  hands_up = (
    opened.Payload (length payload),
    next closed key,
    next closed key,
    [],
    first_opens closed key payload some all,
    kept (next closed key),
    (
      opened.Refused faults.OldCounter,
      next closed key,
      next closed key,
      [],
      then_refused closed key payload,
      kept (next closed key),
      refl,
      refl,
    ),
    (first_up payload, (key, refl, sealed_so key payload), refl),
  );
}

-- ---- a request

pub request_carried : (from to : ℕ) → CarriesAll (request from to ∷ []) (datagram_of (request from to))
request_carried from to =
    inl (
      request from to,
      refl,
      (
        spelling_of (request from to),
        record {
          header = lit≤ tt;
          op = refl;
          count = refl;
          dst = refl;
          dst_index = refl;
          src = refl;
          src_index = refl;
          num = refl;
          ack = refl;
          small = lit≤ tt;
          body = record { size = refl; bytes = refl };
        },
        refl,
      ),
    )

-- its datagram carries no other packet
pub request_alone : (P : PacketView → Type 0) (from to : ℕ) (packets : List PacketView) → P (request from to)
    → CarriesAll packets (datagram_of (request from to)) → All P packets
request_alone P from to packets holds carried =
    subst (λ (ps : List PacketView). All P ps)
    (one_list (request from to ∷ []) packets (datagram_of (request from to)) (request_carried from to) carried)
    (All-cons P (request from to) [] holds (All-nil P))

pub all_from : IsAllFrom 257 first_payload
all_from packets carried = request_alone (λ packet. packet.src ≡ 257) 257 258 packets refl carried

pub something_rises : SomethingRises
something_rises = record {
  rises = rises_once;
  carried = request_carried 257 258;
  some = λ closed key. rises_once closed key first_payload (λ none. absurd (cc)) all_from;
}
