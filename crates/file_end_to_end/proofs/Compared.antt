-- Hosts, compared part by part, so that each comparison is by value.
use Rattle.std.proofs.Common.{◌≡◌, ℕ, List, [], ◌∷◌, length, Option, Some, refl, sym, arith, ◌∙◌}
use Rattle.std.specs.Prelude.{⊤, slice_get}
use Rattle.chaos_window.specs.Receive.{ReceiveView}
use Rattle.chaos_window.specs.Send.{SendView}
use Rattle.chaos_conn.specs.Config.{usual_config}
use Rattle.chaos_host.specs.View.{HostView}
use Rattle.chaos_host.specs.declared.slot.Slot.{Slot}

-- ---- lists, element by element

abbrev pub AreSame : {X : Type 0} → List X → List X → Type 0
AreSame [] [] = ⊤
AreSame (x ∷ xs) (y ∷ ys) = (x ≡ y) × AreSame xs ys
AreSame xs ys = ⊥

pub same_lists : {X : Type 0} (xs ys : List X) → AreSame xs ys → xs ≡ ys
same_lists [] [] same = refl
same_lists (x ∷ xs) (y ∷ ys) same = λ j. same.0 j ∷ same_lists xs ys same.1 j
same_lists [] (y ∷ ys) same = absurd same
same_lists (x ∷ xs) [] same = absurd same

abbrev IsSameSend : SendView → SendView → Type 0
IsSameSend u v =
    (u.cap ≡ v.cap) × (u.sent ≡ v.sent) × (u.receipted ≡ v.receipted) × (u.acknowledged ≡ v.acknowledged)
    × (u.window ≡ v.window) × AreSame u.kept v.kept

abbrev IsSameReceive : ReceiveView → ReceiveView → Type 0
IsSameReceive u v = (u.cap ≡ v.cap) × (u.window ≡ v.window) × (u.read ≡ v.read) × AreSame u.held v.held

-- two slots in parts, each of which is compared by itself
abbrev IsSamePart : (Slot → Slot → Type 0) → Option Slot → Option Slot → Type 0
IsSamePart Same (Some x) (Some y) = Same x y
IsSamePart Same x y = ⊥

abbrev IsSameEnd : Slot → Slot → Type 0
IsSameEnd x y =
    (x.generation ≡ y.generation) × (x.conn.state ≡ y.conn.state) × (x.conn.me ≡ y.conn.me) × (x.conn.peer ≡ y.conn.peer)
    × (x.conn.peer_index ≡ y.conn.peer_index) × (x.conn.asked ≡ y.conn.asked) × (x.conn.request ≡ y.conn.request)
    × (x.conn.config ≡ y.conn.config)

abbrev HasSameMoments : Slot → Slot → Type 0
HasSameMoments x y =
    (x.conn.last ≡ y.conn.last) × (x.conn.heard ≡ y.conn.heard) × (x.conn.resent ≡ y.conn.resent)
    × (x.conn.probed ≡ y.conn.probed) × (x.conn.untold ≡ y.conn.untold)

abbrev HasSameSend : Slot → Slot → Type 0
HasSameSend x y = IsSameSend x.conn.send y.conn.send

abbrev HasSameReceive : Slot → Slot → Type 0
HasSameReceive x y = IsSameReceive x.conn.recv y.conn.recv

abbrev IsSameSlot : Option Slot → Option Slot → Type 0
IsSameSlot x y =
    IsSamePart IsSameEnd x y × IsSamePart HasSameMoments x y × IsSamePart HasSameSend x y
    × IsSamePart HasSameReceive x y

-- both have this address and the usual configuration
abbrev pub IsSameHost : ℕ → HostView → HostView → Type 0
IsSameHost address h k =
    (h.address ≡ address) × (k.address ≡ address) × (h.config ≡ usual_config) × (k.config ≡ usual_config)
    × AreSame h.listeners k.listeners × (length h.slots ≡ 2) × (length k.slots ≡ 2)
    × IsSameSlot (slice_get h.slots 0) (slice_get k.slots 0) × IsSameSlot (slice_get h.slots 1) (slice_get k.slots 1)

same_send : (u v : SendView) → IsSameSend u v → u ≡ v
same_send u v same = λ j. record {
  cap = same.0 j;
  sent = same.1 j;
  receipted = same.2 j;
  acknowledged = same.3 j;
  window = same.4 j;
  kept = same_lists u.kept v.kept same.5 j;
}

same_receive : (u v : ReceiveView) → IsSameReceive u v → u ≡ v
same_receive u v same = λ j. record {
  cap = same.0 j;
  window = same.1 j;
  read = same.2 j;
  held = same_lists u.held v.held same.3 j;
}

same_slot : (x y : Slot) → IsSameSlot (Some x) (Some y) → x ≡ y
same_slot x y same =
    let sends = same_send x.conn.send y.conn.send same.2 in
    let receives = same_receive x.conn.recv y.conn.recv same.3 in
    λ j. record {
      generation = same.0.0 j;
      conn = record {
        state = same.0.1 j;
        me = same.0.2 j;
        peer = same.0.3 j;
        peer_index = same.0.4 j;
        asked = same.0.5 j;
        request = same.0.6 j;
        config = same.0.7 j;
        last = same.1.0 j;
        heard = same.1.1 j;
        resent = same.1.2 j;
        probed = same.1.3 j;
        untold = same.1.4 j;
        send = sends j;
        recv = receives j;
      };
    }

two_slots : (xs ys : List Slot) → length xs ≡ 2 → length ys ≡ 2 → IsSameSlot (slice_get xs 0) (slice_get ys 0)
    → IsSameSlot (slice_get xs 1) (slice_get ys 1) → xs ≡ ys
two_slots (a ∷ b ∷ []) (c ∷ d ∷ []) m n first second =
    λ j. same_slot a c first j ∷ same_slot b d second j ∷ []
two_slots [] ys m n first second = absurd (omega (arith, m))
two_slots (a ∷ []) ys m n first second = absurd (omega (arith, m))
two_slots (a ∷ b ∷ c ∷ xs) ys m n first second = absurd (omega (arith, m))
two_slots xs [] m n first second = absurd (omega (arith, n))
two_slots xs (a ∷ []) m n first second = absurd (omega (arith, n))
two_slots xs (a ∷ b ∷ c ∷ ys) m n first second = absurd (omega (arith, n))

pub same_host : (address : ℕ) (h k : HostView) → IsSameHost address h k → h ≡ k
same_host address h k same =
    let at : h.address ≡ k.address = same.0 ∙ sym same.1 in
    let with_config : h.config ≡ k.config = same.2 ∙ sym same.3 in
    λ j. record {
      address = at j;
      config = with_config j;
      listeners = same_lists h.listeners k.listeners same.4 j;
      slots = two_slots h.slots k.slots same.5 same.6 same.7 same.8 j;
    }
