-- What a line that is reported as a packet stands for.
use Rattle.std.proofs.Common.{◌≡◌, ℕ, ◌+◌, ◌*◌, ◌<◌, ◌≤◌, Bool, true, false, cond, ltb, List, [], ◌∷◌, length, All, refl, sym, ap, ◌∙◌, subst, arith, inl, inr}
use Rattle.std.specs.Prelude.{Option, None, Some, Result, Ok, Err}
use Rattle.std.specs.Io.BufRead.{strip_last}
use Rattle.std.proofs.lemmas.Bool.Decides.{nat_tests}
use Rattle.std.proofs.lemmas.List.Elements.{All-nil, All-cons}
use Rattle.chaos_packet.specs.Packet.{PacketView}
use Rattle.chaos_link.specs.declared.fault.LinkFault.{LinkFault}
use Rattle.chaos_link.specs.Datagram.{Carries, fault_of, read_by, datagram_read, IsDecidedByCarries}
use Rattle.chaos_link.specs.Packets.{Carries2, CarriesAll, is_two, fault_of_all, read_all_by, packets_read, IsDecidedByCarriesAll}
use Rattle.chaos_chudp.specs.declared.fault.ChudpFault.{ChudpFault}
use Rattle.chaos_chudp.specs.Chudp.{CarriesChudp, DeliveryView, IsDecidedByCarriesChudp, chudp_fault, chudp_read, packet_in, read_with, sum_in}
use Rattle.chaosd_show.specs.declared.format.Format.{Format}
use Rattle.chaosd_show.specs.declared.format.Format.TheVariants.{Own, Chudp}
use Rattle.chaosd_show.specs.declared.limits.TheConstants.{SHOW_LINE_LIMIT}
use Rattle.chaosd_show.specs.Hex.{is_blank, hex_value, with_pair, hex_bytes}
use Rattle.chaosd_show.proofs.Digits.{digit_within}
use Rattle.chaosd_show.proofs.Versions.{entry_by, fault_by, carried_one, carried_two, refused_at}
use Rattle.chaosd_show.specs.Entry.Entry.{Unreadable, Refused, Read, ReadSeveral, RefusedChudp, Delivered}
use Rattle.chaosd_show.specs.Entry.{Entry, entry_of, entry_of_bytes, entry_of_one, entry_of_several, entry_of_chudp, entry_of_datagram, Writes, IsReportedAsCarried, IsReportedAsCarried2, IsRefusedByFault, IsReportedAsDelivered, IsRefusedByChudpFault}

-- ---- what is written in hexadecimal is bytes

pair_within : (high low : Option ℕ) (rest : Option (List ℕ)) (bytes : List ℕ) → ((d : ℕ) → high ≡ Some d → d < 16)
    → ((d : ℕ) → low ≡ Some d → d < 16)
    → ((l : List ℕ) → rest ≡ Some l → All (λ b. b < 256) l) → with_pair high low rest ≡ Some bytes
    → All (λ b. b < 256) bytes
pair_within None low rest bytes p q r e = absurd (cc)
pair_within (Some h) None rest bytes p q r e = absurd (cc)
pair_within (Some h) (Some l) None bytes p q r e = absurd (cc)
pair_within (Some h) (Some l) (Some others) bytes p q r e =
    let high : h < 16 = p h refl in
    let low : l < 16 = q l refl in
    let same : (16 * h + l) ∷ others ≡ bytes = cc in
    subst (All (λ b. b < 256)) same (All-cons (λ b. b < 256) (16 * h + l) others (omega arith) (r others refl))

lone_within : (blank : Bool) (bytes : List ℕ) → cond blank (Some []) None ≡ Some bytes → All (λ b. b < 256) bytes
lone_within true bytes e = let none : [] ≡ bytes = cc in subst (All (λ b. b < 256)) none (All-nil (λ b. b < 256))
lone_within false bytes e = absurd (cc)

next_within : (blank : Bool) (a b : ℕ) (skipped rest : Option (List ℕ)) (bytes : List ℕ)
    → ((l : List ℕ) → skipped ≡ Some l → All (λ b. b < 256) l) → ((l : List ℕ) → rest ≡ Some l → All (λ b. b < 256) l)
    → cond blank skipped (with_pair (hex_value a) (hex_value b) rest) ≡ Some bytes → All (λ b. b < 256) bytes
next_within true a b skipped rest bytes p q e = p bytes e
next_within false a b skipped rest bytes p q e =
    pair_within (hex_value a) (hex_value b) rest bytes (digit_within a) (digit_within b) q e

bytes_within : (line bytes : List ℕ) → hex_bytes line ≡ Some bytes → All (λ b. b < 256) bytes
unfolding hex_bytes
bytes_within [] bytes e = let none : [] ≡ bytes = cc in subst (All (λ b. b < 256)) none (All-nil (λ b. b < 256))
bytes_within (a ∷ []) bytes e = lone_within (is_blank a) bytes e
bytes_within (a ∷ b ∷ bs) bytes e =
    next_within (is_blank a) a b (hex_bytes (b ∷ bs)) (hex_bytes bs) bytes (bytes_within (b ∷ bs)) (bytes_within bs) e

-- ---- what a line writes

bytes_from : (format : Format) (e : Entry) (P : List ℕ → Type 0) (text : List ℕ) → (Unreadable ≡ e → ⊥)
    → ((bytes : List ℕ) → All (λ b. b < 256) bytes → entry_of_datagram format bytes ≡ e → P bytes)
    → length text ≤ SHOW_LINE_LIMIT → (found : Option (List ℕ)) → hex_bytes text ≡ found → entry_of_bytes format found ≡ e
    → (bytes : List ℕ) × ((length text ≤ SHOW_LINE_LIMIT) × (hex_bytes text ≡ Some bytes)) × P bytes
bytes_from format e P text other p short None is h = absurd (other h)
bytes_from format e P text other p short (Some bytes) is h = (bytes, (short, is), p bytes (bytes_within text bytes is) h)

text_from : (format : Format) (e : Entry) (P : List ℕ → Type 0) (text : List ℕ) (long : Bool) → (Unreadable ≡ e → ⊥)
    → ((bytes : List ℕ) → All (λ b. b < 256) bytes → entry_of_datagram format bytes ≡ e → P bytes)
    → ltb SHOW_LINE_LIMIT (length text) ≡ long → cond long Unreadable (entry_of_bytes format (hex_bytes text)) ≡ e
    → (bytes : List ℕ) × ((length text ≤ SHOW_LINE_LIMIT) × (hex_bytes text ≡ Some bytes)) × P bytes
text_from format e P text true other p is h = absurd (other h)
text_from format e P text false other p is h = bytes_from format e P text other p (grind (arith, nat_tests)) (hex_bytes text) refl h

line_from : (format : Format) (e : Entry) (P : List ℕ → Type 0) (raw : List ℕ) → (Unreadable ≡ e → ⊥)
    → ((bytes : List ℕ) → All (λ b. b < 256) bytes → entry_of_datagram format bytes ≡ e → P bytes)
    → entry_of format raw ≡ e → (bytes : List ℕ) × Writes raw bytes × P bytes
unfolding entry_of
line_from format e P raw other p h =
    text_from format e P (strip_last 13 raw) (ltb SHOW_LINE_LIMIT (length (strip_last 13 raw))) other p refl h

line_back : (format : Format) (raw bytes : List ℕ) → Writes raw bytes → entry_of format raw ≡ entry_of_datagram format bytes
unfolding entry_of
line_back format raw bytes (short, is) =
    let text = strip_last 13 raw in
    let test : ltb SHOW_LINE_LIMIT (length text) ≡ false = grind (arith, nat_tests) in
    ap (λ b. cond b Unreadable (entry_of_bytes format (hex_bytes text))) test ∙ ap (entry_of_bytes format) is

written_within : (raw bytes : List ℕ) → Writes raw bytes → All (λ b. b < 256) bytes
written_within raw bytes (short, is) = bytes_within (strip_last 13 raw) bytes is

-- ---- by the version

one_read : (p : PacketView) (r : Result PacketView LinkFault) → entry_of_one r ≡ Read p → r ≡ Ok p
one_read p (Ok q) h = let same : q ≡ p = cc in ap Ok same
one_read p (Err f) h = absurd (cc)

several_read : (ps : List PacketView) (r : Result (List PacketView) LinkFault) → entry_of_several r ≡ ReadSeveral ps
    → r ≡ Ok ps
several_read ps (Ok qs) h = let same : qs ≡ ps = cc in ap Ok same
several_read ps (Err f) h = absurd (cc)

none_of_several : (p : PacketView) (r : Result (List PacketView) LinkFault) → entry_of_several r ≡ Read p → ⊥
none_of_several p (Ok qs) h = cc
none_of_several p (Err f) h = cc

several_of_one : (ps : List PacketView) (r : Result PacketView LinkFault) → entry_of_one r ≡ ReadSeveral ps → ⊥
several_of_one ps (Ok q) h = cc
several_of_one ps (Err f) h = cc

one_refused : (bs : List ℕ) (f : LinkFault) (o : Option LinkFault) → entry_of_one (read_by bs o) ≡ Refused f
    → o ≡ Some f
one_refused bs f (Some g) h = let same : g ≡ f = cc in ap Some same
one_refused bs f None h = absurd (cc)

several_refused : (bs : List ℕ) (f : LinkFault) (o : Option LinkFault) → entry_of_several (read_all_by bs o) ≡ Refused f
    → o ≡ Some f
several_refused bs f (Some g) h = let same : g ≡ f = cc in ap Some same
several_refused bs f None h = absurd (cc)

-- ---- a packet

carried_from : IsDecidedByCarries → (p : PacketView) (bs : List ℕ) → All (λ b. b < 256) bs → (two : Bool)
    → is_two bs ≡ two → entry_of_datagram Own bs ≡ Read p → Carries p bs
carried_from law p bs within true is e = absurd (none_of_several p (packets_read bs) (sym (entry_by bs true is) ∙ e))
carried_from law p bs within false is e =
    (law p bs within).0 (one_read p (datagram_read bs) (sym (entry_by bs false is) ∙ e))

-- a line is reported as a packet exactly where its bytes carry it
pub reported_as_carried : IsDecidedByCarries → IsReportedAsCarried
reported_as_carried law p raw = (
  λ e. line_from Own (Read p) (Carries p) raw (λ h. cc)
      (λ bytes within h. carried_from law p bytes within (is_two bytes) refl h) e,
  λ (bytes, writes, carried).
      line_back Own raw bytes writes ∙ entry_by bytes false (carried_one p bytes carried)
      ∙ ap entry_of_one ((law p bytes (written_within raw bytes writes)).1 carried),
)

-- ---- several

by_two : (ps : List PacketView) (bs : List ℕ) → is_two bs ≡ true → CarriesAll ps bs → Carries2 ps bs
by_two ps bs is (inl (p, same, carried)) = let one = carried_one p bs carried in absurd (let clash : true ≡ false = sym is ∙ one in cc)
by_two ps bs is (inr carried) = carried

carried_from2 : IsDecidedByCarriesAll → (ps : List PacketView) (bs : List ℕ) → All (λ b. b < 256) bs → (two : Bool)
    → is_two bs ≡ two → entry_of_datagram Own bs ≡ ReadSeveral ps → Carries2 ps bs
carried_from2 law ps bs within true is e =
    by_two ps bs is ((law ps bs within).0 (several_read ps (packets_read bs) (sym (entry_by bs true is) ∙ e)))
carried_from2 law ps bs within false is e =
    absurd (several_of_one ps (datagram_read bs) (sym (entry_by bs false is) ∙ e))

-- it is reported as several exactly where its bytes carry them by version 2
pub reported_as_carried2 : IsDecidedByCarriesAll → IsReportedAsCarried2
reported_as_carried2 law ps raw = (
  λ e. line_from Own (ReadSeveral ps) (Carries2 ps) raw (λ h. cc)
      (λ bytes within h. carried_from2 law ps bytes within (is_two bytes) refl h) e,
  λ (bytes, writes, carried).
      line_back Own raw bytes writes ∙ entry_by bytes true (carried_two ps bytes carried)
      ∙ ap entry_of_several ((law ps bytes (written_within raw bytes writes)).1 (inr carried)),
)

-- ---- a refusal

fault_from : (f : LinkFault) (bs : List ℕ) (two : Bool) → is_two bs ≡ two → entry_of_datagram Own bs ≡ Refused f
    → fault_of_all bs ≡ Some f
fault_from f bs true is e = several_refused bs f (fault_of_all bs) (sym (entry_by bs true is) ∙ e)
fault_from f bs false is e = fault_by bs false is ∙ one_refused bs f (fault_of bs) (sym (entry_by bs false is) ∙ e)

-- it is reported as refused exactly by the first fault of its bytes
pub refused_by_fault : IsRefusedByFault
refused_by_fault f raw = (
  λ e. line_from Own (Refused f) (λ bytes. fault_of_all bytes ≡ Some f) raw (λ h. cc)
      (λ bytes within h. fault_from f bytes (is_two bytes) refl h) e,
  λ (bytes, writes, fault). line_back Own raw bytes writes ∙ refused_at bytes f fault,
)

-- ---- by CHUDP

chudp_entry : (d : DeliveryView) (r : Result DeliveryView ChudpFault) → entry_of_chudp r ≡ Delivered d → r ≡ Ok d
chudp_entry d (Ok e) h = let same : e ≡ d = cc in ap Ok same
chudp_entry d (Err f) h = absurd (cc)

read_sum : (d : DeliveryView) (bs : List ℕ) (o : Option ChudpFault) → read_with bs o ≡ Ok d → sum_in bs ≡ d.sum
read_sum d bs None h = let same : packet_in bs ≡ d = cc in ap (λ e. e.sum) same
read_sum d bs (Some f) h = absurd (cc)

with_sum : (d : DeliveryView) (sum : ℕ) → sum ≡ d.sum
    → ◌≡◌ {A = DeliveryView} (record { packet = d.packet; to = d.to; from = d.from; sum = sum }) d
with_sum d sum same = rw same refl

delivered_from : IsDecidedByCarriesChudp → (d : DeliveryView) (bs : List ℕ) → All (λ b. b < 256) bs
    → entry_of_datagram Chudp bs ≡ Delivered d → CarriesChudp d.packet d.to d.from bs × (sum_in bs ≡ d.sum)
delivered_from law d bs within e =
    let read = chudp_entry d (chudp_read bs) e in
    let sum = read_sum d bs (chudp_fault bs) read in (
      (law d.packet d.to d.from bs within).0 (read ∙ ap Ok (sym (with_sum d (sum_in bs) sum))),
      sum,
    )

-- a line is reported as a packet with a trailer exactly where its bytes carry that packet with that trailer
pub reported_as_delivered : IsDecidedByCarriesChudp → IsReportedAsDelivered
reported_as_delivered law d raw = (
  λ e. line_from Chudp (Delivered d) (λ bytes. CarriesChudp d.packet d.to d.from bytes × (sum_in bytes ≡ d.sum)) raw (λ h. cc)
      (delivered_from law d) e,
  λ (bytes, writes, (carried, sum)).
      line_back Chudp raw bytes writes
      ∙ ap entry_of_chudp
      ((law d.packet d.to d.from bytes (written_within raw bytes writes)).1 carried ∙ ap Ok (with_sum d (sum_in bytes) sum)),
)

chudp_refused : (bs : List ℕ) (f : ChudpFault) (o : Option ChudpFault) → entry_of_chudp (read_with bs o) ≡ RefusedChudp f
    → o ≡ Some f
chudp_refused bs f (Some g) h = let same : g ≡ f = cc in ap Some same
chudp_refused bs f None h = absurd (cc)

-- it is reported as refused exactly by the first fault of its bytes
pub refused_by_chudp_fault : IsRefusedByChudpFault
refused_by_chudp_fault f raw = (
  λ e. line_from Chudp (RefusedChudp f) (λ bytes. chudp_fault bytes ≡ Some f) raw (λ h. cc)
      (λ bytes within h. chudp_refused bytes f (chudp_fault bytes) h) e,
  λ (bytes, writes, fault). line_back Chudp raw bytes writes ∙ ap (λ o. entry_of_chudp (read_with bytes o)) fault,
)
