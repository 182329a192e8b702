-- What is read of a CHUDP datagram is what it carries.
use Rattle.std.proofs.Common.{◌≡◌, ℕ, zero, suc, ◌+◌, ◌-◌, ◌*◌, ◌%◌, ◌<◌, ◌≤◌, Bool, true, false, List, [], ◌∷◌, ◌++◌, length, get_or, take, drop, refl, arith, ap, ap₂, ◌∙◌, sym, cond, not, eqb, nat_lt, ◌||◌, Option, Some, None, Ok, Err, Result, IfOk, All, length-drop, length-take, length-append, inl, inr, append_assoc}
use Rattle.std.proofs.lemmas.List.{take_all, take_at, drop_at, get_or-drop, get_or-take, get_or_past, drop-drop, take-append-drop}
use Rattle.std.proofs.lemmas.List.Elements.{All-append, All-cons, All-nil}
use Rattle.std.proofs.lemmas.Bool.{cases_lt}
use Rattle.std.proofs.lemmas.Bool.Decides.{nat_tests}
use Rattle.chaos_packet.specs.Packet.{PacketView}
use Rattle.chaos_packet.specs.Words.{HasZeroHalves, spelling_of, packet_at}
use Rattle.chaos_packet.proofs.Packing.{spelled_only}
use Rattle.chaos_link.specs.Datagram.{Canonical, Carries, wire, words_of, mark, fault_of, read_by, datagram_read}
use Rattle.chaos_link.specs.declared.fault.LinkFault.{LinkFault}
use Rattle.chaos_link.proofs.Words.{words_of-wire, wire-words_of, length-wire}
use Rattle.chaos_link.proofs.Bundled.{wire-append}
use Rattle.chaos_link.proofs.Carried as plain
use Rattle.chaos_chudp.specs.Sum.{checksum}
use Rattle.chaos_chudp.specs.Chudp.{DeliveryView, AtMostOneDelivery, CarriesChudp, IsCanonical, middle, word_in, sum_in, plain_of, fault_between, chudp_fault, read_with, chudp_read, closed, chudp_form, chudp_of}
use Rattle.chaos_chudp.specs.declared.fault.ChudpFault.{ChudpFault}
use Rattle.chaos_chudp.specs.declared.fault.ChudpFault.TheVariants.{BadSum}
use Rattle.chaos_chudp.proofs.Plain.{sound_here, sound_there}
use Rattle.chaos_chudp.proofs.Summed.{IsWord, words_small, self_checked}

-- ---- the parts of what carries a packet

module _ {p : PacketView} {to from : ℕ} {bs : List ℕ} (c : CarriesChudp p to from bs) where
  pub behind_head : drop 4 bs ≡ wire c.words ++ wire (to ∷ from ∷ c.check ∷ [])
  behind_head = ap (drop 4) c.bytes ∙ wire-append c.words (to ∷ from ∷ c.check ∷ [])

  pub long : length bs ≡ 10 + 2 * length c.words
  long =
      ap length c.bytes
      ∙ omega (arith, length-wire (c.words ++ to ∷ from ∷ c.check ∷ []), length-append c.words (to ∷ from ∷ c.check ∷ []))

  pub middle_is : middle bs ≡ wire c.words
  middle_is =
      ap (take (length bs - 10)) behind_head
      ∙ take_at (wire c.words) (wire (to ∷ from ∷ c.check ∷ [])) (length bs - 10)
      (omega (arith, long, length-wire c.words))

  pub tail_is : drop (4 + 2 * length c.words) bs ≡ wire (to ∷ from ∷ c.check ∷ [])
  tail_is =
      sym (drop-drop (2 * length c.words) 4 bs) ∙ ap (drop (2 * length c.words)) behind_head
      ∙ drop_at (wire c.words) (wire (to ∷ from ∷ c.check ∷ [])) (2 * length c.words) (length-wire c.words)

  -- what stands between head and sum
  pub body_is : take (length bs - 6) (drop 4 bs) ≡ wire c.words ++ wire (to ∷ from ∷ [])
  body_is =
      let front = wire c.words ++ wire (to ∷ from ∷ []) in
      let all : drop 4 bs ≡ front ++ wire (c.check ∷ []) =
      behind_head ∙ sym (append_assoc (wire c.words) (wire (to ∷ from ∷ [])) (wire (c.check ∷ []))) in
      ap (take (length bs - 6)) all
      ∙ take_at front (wire (c.check ∷ [])) (length bs - 6)
      (omega (arith, long, length-wire c.words, length-append (wire c.words) (wire (to ∷ from ∷ []))))

  -- a word of the trailer
  pub word_of_tail : (i w : ℕ) → w ≡ 256 * get_or (wire (to ∷ from ∷ c.check ∷ [])) i 0
      + get_or (wire (to ∷ from ∷ c.check ∷ [])) (i + 1) 0
      → word_in bs (4 + 2 * length c.words + i) ≡ w
  word_of_tail i w e =
      let n = 4 + 2 * length c.words in
      let high : get_or bs (n + i) 0 ≡ get_or (wire (to ∷ from ∷ c.check ∷ [])) i 0 =
      sym (get_or-drop n bs i 0) ∙ ap (λ l. get_or l i 0) tail_is in
      let low : get_or bs (n + (i + 1)) 0 ≡ get_or (wire (to ∷ from ∷ c.check ∷ [])) (i + 1) 0 =
      sym (get_or-drop n bs (i + 1) 0) ∙ ap (λ l. get_or l (i + 1) 0) tail_is in
      let place : n + i + 1 ≡ n + (i + 1) = omega arith in
      let low_too : get_or bs (n + i + 1) 0 ≡ get_or (wire (to ∷ from ∷ c.check ∷ [])) (i + 1) 0 =
      ap (λ j. get_or bs j 0) place ∙ low in
      omega (arith, high, low_too, e)

  pub to_is : word_in bs (length bs - 6) ≡ to
  to_is =
      let place : length bs - 6 ≡ 4 + 2 * length c.words + 0 = omega (arith, long) in
      ap (word_in bs) place ∙ word_of_tail 0 to (omega arith)

  pub from_is : word_in bs (length bs - 4) ≡ from
  from_is =
      let place : length bs - 4 ≡ 4 + 2 * length c.words + 2 = omega (arith, long) in
      ap (word_in bs) place ∙ word_of_tail 2 from (omega arith)

  pub check_is : word_in bs (length bs - 2) ≡ c.check
  check_is =
      let place : length bs - 2 ≡ 4 + 2 * length c.words + 4 = omega (arith, long) in
      ap (word_in bs) place ∙ word_of_tail 4 c.check (omega arith)

  -- the datagram of version 1 with its words
  pub plain_carries : Carries p (plain_of bs)
  plain_carries = (c.words, c.spelled, ap (λ ws. mark ++ ws) middle_is)

  pub sum_is : checksum (words_of (drop 4 bs)) ≡ 0
  sum_is = ap checksum (ap (λ l. words_of (drop 4 l)) c.bytes ∙ words_of-wire (c.words ++ to ∷ from ∷ c.check ∷ [])) ∙ c.checked

-- ---- whatever is carried is read

without_fault : (p : PacketView) (fault : Option LinkFault) (v : List ℕ) → read_by v fault ≡ Ok p
    → (fault ≡ None) × (packet_at (words_of (drop 4 v)) ≡ p)
without_fault p None v e = (refl, cc)
without_fault p (Some f) v e = cc

pub no_fault : {p : PacketView} {to from : ℕ} {bs : List ℕ} → CarriesChudp p to from bs → chudp_fault bs ≡ None
no_fault {p} {to} {from} {bs} c =
    let (plain_none, _) = without_fault p (fault_of (plain_of bs)) (plain_of bs) (plain.read_carried p (plain_of bs) (plain_carries c)) in
    let n = length bs in
    let words = c.spelled.header in
    let few : length c.words ≤ 252 =
    omega (arith, c.spelled.small, c.spelled.body.size, length-drop 8 c.words) in
    let room : nat_lt 2048 n ≡ false = grind (arith, nat_tests, long c) in
    let head : nat_lt n 4 ≡ false = grind (arith, nat_tests, long c) in
    let b0 : get_or bs 0 0 ≡ 1 = ap (λ l. get_or l 0 0) c.bytes in
    let b1 : get_or bs 1 0 ≡ 1 = ap (λ l. get_or l 1 0) c.bytes in
    let whole : nat_lt n 26 ≡ false = grind (arith, nat_tests, long c) in
    let even : n % 2 ≡ 0 = omega (arith, long c) in
    rw (room, head, b0, b1, whole, even, sum_is c) (sound_here (middle bs) plain_none)

pub read_carried : (p : PacketView) (to from : ℕ) (bs : List ℕ) → CarriesChudp p to from bs
    → chudp_read bs ≡ Ok (record { packet = p; to = to; from = from; sum = sum_in bs })
read_carried p to from bs c =
    let (_, packet) = without_fault p (fault_of (plain_of bs)) (plain_of bs) (plain.read_carried p (plain_of bs) (plain_carries c)) in
    rw (no_fault c, to_is c, from_is c) (ap (λ q. Ok (record { packet = q; to = to; from = from; sum = sum_in bs })) packet)

-- so that it is one
one_read : (a b : DeliveryView) → ◌≡◌ {A = Result DeliveryView ChudpFault} (Ok a) (Ok b) → a ≡ b
one_read a b h = cc

pub one_delivery : AtMostOneDelivery
one_delivery p q to from to_too from_too bs c d =
    let same = one_read _ _ (sym (read_carried p to from bs c) ∙ read_carried q to_too from_too bs d) in
    (ap (λ (v : DeliveryView). v.packet) same, ap (λ (v : DeliveryView). v.to) same, ap (λ (v : DeliveryView). v.from) same)

-- ---- and back

not_taken : {X : Type 0} (b : Bool) (x : X) (o : Option X) → cond b (Some x) o ≡ None → (b ≡ false) × (o ≡ None)
not_taken true x o h = cc
not_taken false x o h = (refl, h)

equal : (m n : ℕ) → not (eqb m n) ≡ false → m ≡ n
equal m n h = grind (arith, nat_tests)

-- bytes without a fault
pub record Sound (bs : List ℕ) : Type 0 where
  pub few : length bs ≤ 2048
  pub b0 : get_or bs 0 0 ≡ 1
  pub b1 : get_or bs 1 0 ≡ 1
  pub long : 26 ≤ length bs
  pub even : length bs % 2 ≡ 0
  pub sum : checksum (words_of (drop 4 bs)) ≡ 0
  pub plain_none : fault_of (plain_of bs) ≡ None

shape : (n : ℕ) → (nat_lt n 26 || eqb (n % 2) 1) ≡ false → (26 ≤ n) × (n % 2 ≡ 0)
shape n h = (grind (arith, nat_tests), grind (arith, nat_tests))

pub sound : (bs : List ℕ) → chudp_fault bs ≡ None → Sound bs
sound bs none =
    let (room, past_room) = not_taken _ _ _ none in
    let (head, past_head) = not_taken _ _ _ past_room in
    let (b0, past_b0) = not_taken _ _ _ past_head in
    let (b1, past_b1) = not_taken _ _ _ past_b0 in
    let (whole, past_whole) = not_taken _ _ _ past_b1 in
    let (sum, past_sum) = not_taken _ _ _ past_whole in
    let (le, even) = shape (length bs) whole in
    record {
      few = plain.at_least _ _ room;
      b0 = equal _ _ b0;
      b1 = equal _ _ b1;
      long = le;
      even = even;
      sum = equal _ _ sum;
      plain_none = sound_there (middle bs) past_sum;
    }

-- the bytes of three words
six : (l : List ℕ) → ((i : ℕ) → get_or l i 0 < 256) → length l ≡ 6
    → l ≡ wire ((256 * get_or l 0 0 + get_or l 1 0) ∷ (256 * get_or l 2 0 + get_or l 3 0) ∷ (256 * get_or l 4 0 + get_or l 5 0) ∷ [])
six (a ∷ b ∷ c ∷ d ∷ e ∷ f ∷ []) small h = sym (wire-words_of (a ∷ b ∷ c ∷ d ∷ e ∷ f ∷ []) small refl)
six [] small h = absurd (omega arith)
six (a ∷ []) small h = absurd (omega arith)
six (a ∷ b ∷ []) small h = absurd (omega arith)
six (a ∷ b ∷ c ∷ []) small h = absurd (omega arith)
six (a ∷ b ∷ c ∷ d ∷ []) small h = absurd (omega arith)
six (a ∷ b ∷ c ∷ d ∷ e ∷ []) small h = absurd (omega arith)
six (a ∷ b ∷ c ∷ d ∷ e ∷ f ∷ g ∷ l) small h = absurd (omega arith)

word_behind : (n i j : ℕ) (bs : List ℕ) → j ≡ n + i
    → 256 * get_or (drop n bs) i 0 + get_or (drop n bs) (i + 1) 0 ≡ word_in bs j
word_behind n i j bs e =
    let place : n + (i + 1) ≡ j + 1 = omega (arith, e) in
    let high : get_or (drop n bs) i 0 ≡ get_or bs j 0 = get_or-drop n bs i 0 ∙ ap (λ k. get_or bs k 0) (sym e) in
    let low : get_or (drop n bs) (i + 1) 0 ≡ get_or bs (j + 1) 0 =
    get_or-drop n bs (i + 1) 0 ∙ ap (λ k. get_or bs k 0) place in
    omega (arith, high, low)

pub carried_where_sound : (p : PacketView) (bs : List ℕ) → ((i : ℕ) → get_or bs i 0 < 256) → Sound bs
    → Carries p (plain_of bs) → CarriesChudp p (word_in bs (length bs - 6)) (word_in bs (length bs - 4)) bs
carried_where_sound p bs small s carried =
    let n = length bs in
    let ws = carried.0 in
    let t = word_in bs (n - 6) in
    let f = word_in bs (n - 4) in
    let k = word_in bs (n - 2) in
    let mid : middle bs ≡ wire ws = ap (drop 4) carried.2 in
    let last : drop (n - 10) (drop 4 bs) ≡ drop (n - 6) bs =
    drop-drop (n - 10) 4 bs ∙ ap (λ m. drop m bs) (omega (arith, s.long)) in
    let size : length (drop (n - 6) bs) ≡ 6 = omega (arith, length-drop (n - 6) bs, s.long) in
    let tail : drop (n - 6) bs ≡ wire (t ∷ f ∷ k ∷ []) =
    six (drop (n - 6) bs) (λ i. rw get_or-drop (small (n - 6 + i))) size
    ∙ rw (
      word_behind (n - 6) 0 (n - 6) bs (omega (arith, s.long)),
      word_behind (n - 6) 2 (n - 4) bs (omega (arith, s.long)),
      word_behind (n - 6) 4 (n - 2) bs (omega (arith, s.long)),
    ) refl in
    let behind : drop 4 bs ≡ wire (ws ++ t ∷ f ∷ k ∷ []) =
    sym (take-append-drop (n - 10) (drop 4 bs)) ∙ ap₂ (λ x y. x ++ y) mid (last ∙ tail)
    ∙ sym (wire-append ws (t ∷ f ∷ k ∷ [])) in
    record {
      words = ws;
      check = k;
      argument = get_or bs 2 0;
      argument_too = get_or bs 3 0;
      spelled = carried.1;
      bytes = plain.front_four bs (omega (arith, s.long)) ∙ cc (s.b0, s.b1, behind);
      checked = ap checksum (sym (words_of-wire (ws ++ t ∷ f ∷ k ∷ [])) ∙ ap words_of (sym behind)) ∙ s.sum;
    }

pub part_small : (n : ℕ) (l : List ℕ) → ((i : ℕ) → get_or l i 0 < 256) → (i : ℕ) → get_or (take n l) i 0 < 256
part_small n l small i =
    elim (cases_lt i n) [
      | inl inside ↦ rw (get_or-take n l i 0 inside) (small i)
      | inr past ↦ rw (get_or_past (take n l) i 0 (omega (arith, length-take n l))) (omega arith)
    ]

marked_small : (l : List ℕ) → ((i : ℕ) → get_or l i 0 < 256) → (i : ℕ) → get_or (mark ++ l) i 0 < 256
marked_small l small zero = omega arith
marked_small l small (suc zero) = omega arith
marked_small l small (suc (suc zero)) = omega arith
marked_small l small (suc (suc (suc zero))) = omega arith
marked_small l small (suc (suc (suc (suc i)))) = small i

plain_small : (bs : List ℕ) → ((i : ℕ) → get_or bs i 0 < 256) → (i : ℕ) → get_or (plain_of bs) i 0 < 256
plain_small bs small =
    marked_small (middle bs)
    (part_small (length bs - 10) (drop 4 bs) (λ i. rw get_or-drop (small (4 + i))))

pub carried_without_fault : (bs : List ℕ) → ((i : ℕ) → get_or bs i 0 < 256) → chudp_fault bs ≡ None
    → CarriesChudp (packet_at (words_of (middle bs))) (word_in bs (length bs - 6)) (word_in bs (length bs - 4)) bs
carried_without_fault bs small none =
    let s = sound bs none in
    let read : Ok (packet_at (words_of (middle bs))) ≡ datagram_read (plain_of bs) = sym (ap (read_by (plain_of bs)) s.plain_none) in
    carried_where_sound _ bs small s
    (plain.carried_read (Ok (packet_at (words_of (middle bs)))) (plain_of bs) (plain_small bs small) read)

carried_with : (bs : List ℕ) → ((i : ℕ) → get_or bs i 0 < 256) → (fault : Option ChudpFault) → chudp_fault bs ≡ fault
    → IfOk (read_with bs fault) (λ d. CarriesChudp d.packet d.to d.from bs)
carried_with bs small None e = carried_without_fault bs small e
carried_with bs small (Some f) e = tt

-- what is read is carried
pub carried_read : (r : Result DeliveryView ChudpFault) (bs : List ℕ) → ((i : ℕ) → get_or bs i 0 < 256)
    → r ≡ chudp_read bs → IfOk r (λ d. CarriesChudp d.packet d.to d.from bs)
carried_read r bs small e = rw e (carried_with bs small (chudp_fault bs) refl)

apart : (r : Result DeliveryView ChudpFault) (d : DeliveryView) (f : ChudpFault)
    → ◌≡◌ {A = Result DeliveryView ChudpFault} (Err f) (Ok d) → r ≡ Ok d
apart r d f h = cc

-- bytes with a fault carry none
pub none_carried : (r : Result DeliveryView ChudpFault) (p : PacketView) (to from : ℕ) (bs : List ℕ) (f : ChudpFault)
    → chudp_fault bs ≡ Some f → CarriesChudp p to from bs
    → r ≡ Ok (record { packet = p; to = to; from = from; sum = sum_in bs })
none_carried r p to from bs f e c = apart r _ f (ap (read_with bs) (sym e) ∙ read_carried p to from bs c)

-- ---- what is written

-- The CHUDP form of whatever carries a packet carries that packet.
pub form_carries : (p : PacketView) (to from : ℕ) (bs : List ℕ) → to < 65536 → from < 65536
    → ((i : ℕ) → get_or bs i 0 < 256) → Carries p bs → CarriesChudp p to from (chudp_form to from bs)
form_carries p to from bs t f small carried =
    let ws = carried.0 in
    let behind : drop 4 bs ≡ wire ws = ap (drop 4) carried.2 in
    let words : words_of (drop 4 bs) ≡ ws = ap words_of behind ∙ words_of-wire ws in
    let words_are : All IsWord (words_of (drop 4 bs)) = words_small (drop 4 bs) (λ i. rw get_or-drop (small (4 + i))) in
    let ws_small : All IsWord ws = rw words at words_are in
    let all : All IsWord (ws ++ to ∷ from ∷ []) =
    All-append IsWord ws (to ∷ from ∷ []) ws_small
    (All-cons IsWord to (from ∷ []) t (All-cons IsWord from [] f (All-nil IsWord))) in
    let body : drop 4 bs ++ wire (to ∷ from ∷ []) ≡ wire (ws ++ to ∷ from ∷ []) =
    ap (λ l. l ++ wire (to ∷ from ∷ [])) behind ∙ sym (wire-append ws (to ∷ from ∷ [])) in
    let sum : checksum (words_of (drop 4 bs ++ wire (to ∷ from ∷ []))) ≡ checksum (ws ++ to ∷ from ∷ []) =
    ap (λ l. checksum (words_of l)) body ∙ ap checksum (words_of-wire (ws ++ to ∷ from ∷ [])) in
    let k = checksum (ws ++ to ∷ from ∷ []) in
    let wired : (drop 4 bs ++ wire (to ∷ from ∷ [])) ++ wire (checksum (words_of (drop 4 bs ++ wire (to ∷ from ∷ []))) ∷ [])
    ≡ wire (ws ++ to ∷ from ∷ k ∷ []) =
    ap₂ (λ x y. x ++ wire (y ∷ [])) body sum ∙ sym (wire-append (ws ++ to ∷ from ∷ []) (k ∷ []))
    ∙ ap wire (append_assoc ws (to ∷ from ∷ []) (k ∷ [])) in
    record {
      words = ws;
      check = k;
      argument = 0;
      argument_too = 0;
      spelled = carried.1;
      bytes = ap (λ l. 1 ∷ 1 ∷ 0 ∷ 0 ∷ l) wired;
      checked = ap checksum (sym (append_assoc ws (to ∷ from ∷ []) (k ∷ []))) ∙ self_checked (ws ++ to ∷ from ∷ []) all;
    }

-- The canonical datagram of a packet is that
canonical_where : (p : PacketView) (to from : ℕ) (bs : List ℕ) (c : CarriesChudp p to from bs) → get_or bs 2 0 ≡ 0
    → get_or bs 3 0 ≡ 0 → HasZeroHalves c.words → c.check ≡ checksum (c.words ++ to ∷ from ∷ []) → IsCanonical bs
canonical_where p to from bs c a b zero_halves k = record {
  argument = a;
  argument_too = b;
  halves =
      let words : words_of (middle bs) ≡ c.words = ap words_of (middle_is c) ∙ words_of-wire c.words in
      rw words zero_halves;
  check =
      let body : words_of (take (length bs - 6) (drop 4 bs)) ≡ c.words ++ to ∷ from ∷ [] =
      ap words_of (body_is c ∙ sym (wire-append c.words (to ∷ from ∷ []))) ∙ words_of-wire (c.words ++ to ∷ from ∷ []) in
      check_is c ∙ k ∙ ap checksum (sym body);
}

pub form_canonical : (p : PacketView) (to from : ℕ) (bs : List ℕ) → to < 65536 → from < 65536
    → ((i : ℕ) → get_or bs i 0 < 256) → Carries p bs → Canonical bs → IsCanonical (chudp_form to from bs)
unfolding form_carries
form_canonical p to from bs t f small carried canonical =
    let words : words_of (drop 4 bs) ≡ carried.0 = ap (λ l. words_of (drop 4 l)) carried.2 ∙ words_of-wire carried.0 in
    let zero_halves : HasZeroHalves carried.0 = rw words at canonical in
    canonical_where p to from (chudp_form to from bs) (form_carries p to from bs t f small carried) refl refl zero_halves refl

-- The datagram of version 1 with the words of that form is the one that it was made of.
pub form_plain : (p : PacketView) (to from : ℕ) (bs : List ℕ) → to < 65536 → from < 65536
    → ((i : ℕ) → get_or bs i 0 < 256) → Carries p bs → plain_of (chudp_form to from bs) ≡ bs
unfolding form_carries
form_plain p to from bs t f small carried =
    ap (λ ws. mark ++ ws) (middle_is (form_carries p to from bs t f small carried)) ∙ sym carried.2

-- and no other is.
pub canonical_only : (p : PacketView) (to from : ℕ) (bs : List ℕ) → CarriesChudp p to from bs → IsCanonical bs
    → bs ≡ chudp_of p to from
canonical_only p to from bs c canonical =
    let words : words_of (middle bs) ≡ c.words = ap words_of (middle_is c) ∙ words_of-wire c.words in
    let zero_halves : HasZeroHalves c.words = rw words at canonical.halves in
    let spelled : c.words ≡ spelling_of p = spelled_only p c.words c.spelled zero_halves in
    let a : c.argument ≡ 0 = sym (ap (λ l. get_or l 2 0) c.bytes) ∙ canonical.argument in
    let b : c.argument_too ≡ 0 = sym (ap (λ l. get_or l 3 0) c.bytes) ∙ canonical.argument_too in
    let body = wire c.words ++ wire (to ∷ from ∷ []) in
    let k : c.check ≡ checksum (words_of body) =
    sym (check_is c) ∙ canonical.check ∙ ap (λ l. checksum (words_of l)) (body_is c) in
    let wired : wire (c.words ++ to ∷ from ∷ c.check ∷ []) ≡ body ++ wire (checksum (words_of body) ∷ []) =
    wire-append c.words (to ∷ from ∷ c.check ∷ [])
    ∙ sym (append_assoc (wire c.words) (wire (to ∷ from ∷ [])) (wire (c.check ∷ [])))
    ∙ ap (λ m. body ++ wire (m ∷ [])) k in
    c.bytes ∙ cc (a, b, wired) ∙ ap (λ ws. closed (wire ws ++ wire (to ∷ from ∷ []))) spelled

-- ---- the checks

-- All behind the head is what stands there.
behind : (bs : List ℕ) → 4 ≤ length bs → take (length bs - 4) (drop 4 bs) ≡ drop 4 bs
behind bs h = take_all (length bs - 4) (drop 4 bs) (omega (arith, length-drop 4 bs))

pub bad_sum : (bs : List ℕ) (sum : ℕ) → length bs ≤ 2048 → get_or bs 0 0 ≡ 1 → get_or bs 1 0 ≡ 1 → 26 ≤ length bs
    → (length bs % 2 ≡ 1 → ⊥) → sum ≡ checksum (words_of (take (length bs - 4) (drop 4 bs))) → (sum ≡ 0 → ⊥)
    → chudp_fault bs ≡ Some BadSum
bad_sum bs sum few b0 b1 le odd check wrong =
    let n = length bs in
    let s : sum ≡ checksum (words_of (drop 4 bs)) = check ∙ ap (λ l. checksum (words_of l)) (behind bs (omega (arith, le))) in
    let room : nat_lt 2048 n ≡ false = grind (arith, nat_tests, few) in
    let head : nat_lt n 4 ≡ false = grind (arith, nat_tests, le) in
    let whole : nat_lt n 26 ≡ false = grind (arith, nat_tests, le) in
    let even : eqb (n % 2) 1 ≡ false = grind (arith, nat_tests, odd) in
    let bad : eqb (checksum (words_of (drop 4 bs))) 0 ≡ false = grind (arith, nat_tests, s, wrong) in
    rw (room, head, b0, b1, whole, even, bad) refl

pub at_words : (bs : List ℕ) (sum : ℕ) (fault : Option ChudpFault) → length bs ≤ 2048 → get_or bs 0 0 ≡ 1
    → get_or bs 1 0 ≡ 1 → 26 ≤ length bs → (length bs % 2 ≡ 1 → ⊥)
    → sum ≡ checksum (words_of (take (length bs - 4) (drop 4 bs))) → sum ≡ 0
    → fault_between (take (length bs - 6 - 4) (drop 4 bs)) ≡ fault → chudp_fault bs ≡ fault
at_words bs sum fault few b0 b1 le odd check right words_fault =
    let n = length bs in
    let s : checksum (words_of (drop 4 bs)) ≡ 0 =
    sym (check ∙ ap (λ l. checksum (words_of l)) (behind bs (omega (arith, le)))) ∙ right in
    let room : nat_lt 2048 n ≡ false = grind (arith, nat_tests, few) in
    let head : nat_lt n 4 ≡ false = grind (arith, nat_tests, le) in
    let whole : nat_lt n 26 ≡ false = grind (arith, nat_tests, le) in
    let even : eqb (n % 2) 1 ≡ false = grind (arith, nat_tests, odd) in
    let place : n - 6 - 4 ≡ n - 10 = omega arith in
    let same : fault_between (middle bs) ≡ fault = ap (λ m. fault_between (take m (drop 4 bs))) (sym place) ∙ words_fault in
    rw (room, head, b0, b1, whole, even, s) same

-- ---- the answer

pub delivered : (bs v : List ℕ) (p : PacketView) (to from sum : ℕ) → chudp_fault bs ≡ None → v ≡ plain_of bs
    → Ok p ≡ datagram_read v → to ≡ word_in bs (length bs - 6) → from ≡ word_in bs (length bs - 6 + 2)
    → sum ≡ word_in bs (length bs - 6 + 4)
    → Ok (record { packet = p; to = to; from = from; sum = sum }) ≡ chudp_read bs
delivered bs v p to from sum none front read t f s =
    let le = (sound bs none).long in
    let place : length bs - 6 + 2 ≡ length bs - 4 = omega (arith, le) in
    let from_there : from ≡ word_in bs (length bs - 4) = f ∙ ap (word_in bs) place in
    let place_too : length bs - 6 + 4 ≡ length bs - 2 = omega (arith, le) in
    let sum_there : sum ≡ sum_in bs = s ∙ ap (word_in bs) place_too in
    let (_, packet) = without_fault p (fault_of (plain_of bs)) (plain_of bs) (sym (read ∙ ap datagram_read front)) in
    rw (none, t, from_there, sum_there)
    (ap (λ q. Ok (record { packet = q; to = word_in bs (length bs - 6); from = word_in bs (length bs - 4); sum = sum_in bs })) (sym packet))

-- What was checked isn't refused.
refused : (v : List ℕ) (fault : Option LinkFault) (f : LinkFault) → fault ≡ None → read_by v fault ≡ Err f → ⊥
refused v None f e h = cc
refused v (Some g) f e h = cc

pub not_refused : (bs v : List ℕ) (r : Result PacketView LinkFault) (f : LinkFault) → chudp_fault bs ≡ None → v ≡ plain_of bs
    → r ≡ datagram_read v → r ≡ Err f → ⊥
not_refused bs v r f none front read is =
    refused v (fault_of v) f (ap fault_of front ∙ (sound bs none).plain_none) (sym read ∙ is)
