-- What a datagram in the own format is by its version.
use Rattle.std.proofs.Common.{◌≡◌, ℕ, ◌+◌, Bool, true, false, cond, not, ◌&&◌, nat_lt, List, length, get_or, refl, sym, ap, ◌∙◌, arith}
use Rattle.std.specs.Prelude.{Some, ◌==◌}
use Rattle.std.proofs.lemmas.Bool.Decides.{nat_tests}
use Rattle.chaos_packet.specs.Packet.{PacketView}
use Rattle.chaos_link.specs.declared.fault.LinkFault.{LinkFault}
use Rattle.chaos_link.specs.Datagram.{Carries, wire, fault_of, read_by, datagram_read}
use Rattle.chaos_link.specs.Packets.{Carries2, is_two, fault_of_two, fault_of_all, read_all_by, packets_read}
use Rattle.chaosd_show.specs.declared.format.Format.TheVariants.{Own}
use Rattle.chaosd_show.specs.Entry.Entry.{Refused}
use Rattle.chaosd_show.specs.Entry.{entry_of_one, entry_of_several, entry_of_datagram}

pub entry_by : (bs : List ℕ) (two : Bool) → is_two bs ≡ two
    → entry_of_datagram Own bs ≡ cond two (entry_of_several (packets_read bs)) (entry_of_one (datagram_read bs))
entry_by bs two h = ap (λ b. cond b (entry_of_several (packets_read bs)) (entry_of_one (datagram_read bs))) h

pub fault_by : (bs : List ℕ) (two : Bool) → is_two bs ≡ two → fault_of_all bs ≡ cond two (fault_of_two bs) (fault_of bs)
fault_by bs two h = ap (λ b. cond b (fault_of_two bs) (fault_of bs)) h

-- ---- what is carried by one version isn't by the other

pub carried_one : (p : PacketView) (bs : List ℕ) → Carries p bs → is_two bs ≡ false
carried_one p bs carried = ap is_two carried.2

marked_two : (a b c : ℕ) (short : Bool) → a ≡ 0x43 → b ≡ 0x48 → c ≡ 2 → short ≡ false
    → (c == 2 && (a == 0x43 && b == 0x48)) && not short ≡ true
marked_two a b c short ea eb ec long = rw (ea, eb, ec, long) refl

pub carried_two : (ps : List PacketView) (bs : List ℕ) → Carries2 ps bs → is_two bs ≡ true
carried_two ps bs carried =
    let long : length bs ≡ 4 + length (wire carried.words) = ap length carried.bytes ∙ omega arith in
    let whole : nat_lt (length bs) 4 ≡ false = grind (arith, nat_tests) in
    marked_two (get_or bs 0 0) (get_or bs 1 0) (get_or bs 2 0) (nat_lt (length bs) 4)
    (ap (λ l. get_or l 0 0) carried.bytes) (ap (λ l. get_or l 1 0) carried.bytes) (ap (λ l. get_or l 2 0) carried.bytes)
    whole

-- ---- a fault

refused_by : (bs : List ℕ) (f : LinkFault) (two : Bool) → is_two bs ≡ two → fault_of_all bs ≡ Some f
    → entry_of_datagram Own bs ≡ Refused f
refused_by bs f true is e = entry_by bs true is ∙ ap (λ o. entry_of_several (read_all_by bs o)) e
refused_by bs f false is e =
    entry_by bs false is ∙ ap (λ o. entry_of_one (read_by bs o)) (sym (fault_by bs false is) ∙ e)

-- a datagram of either version is refused by its first fault
pub refused_at : (bs : List ℕ) (f : LinkFault) → fault_of_all bs ≡ Some f → entry_of_datagram Own bs ≡ Refused f
refused_at bs f e = refused_by bs f (is_two bs) refl e
