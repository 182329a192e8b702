-- What either version carries is what is read of it.
use Rattle.std.proofs.Common.{slice_get, append_assoc, append-nil, ◌≡◌, ℕ, ◌+◌, ◌*◌, ◌<◌, ◌≤◌, Bool, true, false, List, [], ◌∷◌, ◌++◌, length, get_or, drop, refl, arith, ap, ap₂, ◌∙◌, sym, subst, cond, not, ◌&&◌, nat_lt, Option, Some, None, Ok, Err, Result, IfOk, length-drop, inl, inr}
use Rattle.std.proofs.lemmas.List.{get_or-drop}
use Rattle.std.proofs.lemmas.Bool.Decides.{nat_tests}
use Rattle.std.specs.Prelude.{◌==◌}
use Rattle.chaos_packet.specs.Packet.{PacketView}
use Rattle.chaos_packet.specs.Words.{packet_at}
use Rattle.chaos_link.specs.Datagram.{wire, words_of, Carries, fault_of, read_by}
use Rattle.chaos_link.specs.Packets.{Carries2, CarriesAll, packets_at, packets_len, packets_fault, fault_behind, fault_of_two, is_two, fault_of_all, number_of, read_all_by, packets_read}
use Rattle.chaos_link.specs.declared.fault.LinkFault.{LinkFault}
use Rattle.chaos_link.specs.declared.fault.LinkFault.TheVariants.{Trailing, BadNumber, TooLong}
use Rattle.chaos_link.proofs.Carried.{read_carried, carried_read, at_least, front_four}
use Rattle.chaos_link.proofs.Several.{all_read, all_spelled, length_within, length-packets_at}
use Rattle.chaos_link.proofs.Words.{length-words_of, words_of-wire, wire-words_of, length-wire}

abbrev pub ok : List PacketView → Result (List PacketView) LinkFault
ok ps = Ok ps

-- ---- what the checks tell of the whole

fault_by_version : (bs : List ℕ) (two : Bool) → is_two bs ≡ two
    → fault_of_all bs ≡ cond two (fault_of_two bs) (fault_of bs)
fault_by_version bs two h = ap (λ b. cond b (fault_of_two bs) (fault_of bs)) h

number_by_version : (bs : List ℕ) (two : Bool) → is_two bs ≡ two → number_of bs ≡ cond two (get_or bs 3 0) 1
number_by_version bs two h = ap (λ b. cond b (get_or bs 3 0) 1) h

pub one_at_fault : (bs : List ℕ) (f : LinkFault) → is_two bs ≡ false → fault_of bs ≡ Some f → packets_read bs ≡ Err f
one_at_fault bs f one e = ap (read_all_by bs) (fault_by_version bs false one ∙ e)

pub two_at_fault : (bs : List ℕ) (f : LinkFault) → is_two bs ≡ true → fault_of_two bs ≡ Some f → packets_read bs ≡ Err f
two_at_fault bs f two e = ap (read_all_by bs) (fault_by_version bs true two ∙ e)

pub one_without_fault : (bs : List ℕ) → is_two bs ≡ false → fault_of bs ≡ None
    → packets_read bs ≡ Ok (packet_at (words_of (drop 4 bs)) ∷ [])
one_without_fault bs one none =
    ap (read_all_by bs) (fault_by_version bs false one ∙ none)
    ∙ ap (λ n. ok (packets_at n (words_of (drop 4 bs)))) (number_by_version bs false one)

pub two_without_fault : (bs : List ℕ) → is_two bs ≡ true → fault_of_two bs ≡ None
    → packets_read bs ≡ Ok (packets_at (get_or bs 3 0) (words_of (drop 4 bs)))
two_without_fault bs two none =
    ap (read_all_by bs) (fault_by_version bs true two ∙ none)
    ∙ ap (λ n. ok (packets_at n (words_of (drop 4 bs)))) (number_by_version bs true two)

-- ---- version 1

without_fault : (bs : List ℕ) (p : PacketView) (o : Option LinkFault) → read_by bs o ≡ Ok p
    → (o ≡ None) × (packet_at (words_of (drop 4 bs)) ≡ p)
without_fault bs p (Some f) h = cc
without_fault bs p None h = (refl, cc)

pub read_one : (p : PacketView) (bs : List ℕ) → Carries p bs → packets_read bs ≡ Ok (p ∷ [])
read_one p bs carried =
    let none = without_fault bs p (fault_of bs) (read_carried p bs carried) in
    one_without_fault bs (ap is_two carried.2) none.0 ∙ ap (λ q. ok (q ∷ [])) none.1

-- ---- version 2

marked_two : (a b c : ℕ) (short : Bool) → a ≡ 0x43 → b ≡ 0x48 → c ≡ 2 → short ≡ false
    → (c == 2 && (a == 0x43 && b == 0x48)) && not short ≡ true
marked_two a b c short ea eb ec long = rw (ea, eb, ec, long) refl

no_fault_two : (bs : List ℕ) → 1 ≤ get_or bs 3 0 → get_or bs 3 0 ≤ 8 → length bs ≤ 2020
    → packets_fault (get_or bs 3 0) 1 (words_of (drop 4 bs)) ≡ None
    → length bs ≤ 4 + 2 * packets_len (get_or bs 3 0) (words_of (drop 4 bs)) → fault_of_two bs ≡ None
no_fault_two bs some few fits none end =
    let n = get_or bs 3 0 in
    let number : not (nat_lt 0 n && nat_lt n 9) ≡ false = grind (arith, nat_tests) in
    let short : nat_lt 2020 (length bs) ≡ false = grind (arith, nat_tests) in
    let last : nat_lt (4 + 2 * packets_len n (words_of (drop 4 bs))) (length bs) ≡ false = grind (arith, nat_tests) in
    let behind = fault_behind bs n (packets_fault n 1 (words_of (drop 4 bs))) in
    ap (λ b. cond b (Some BadNumber) (cond (nat_lt 2020 (length bs)) (Some TooLong) behind)) number
    ∙ ap (λ b. cond b (Some TooLong) behind) short
    ∙ ap (fault_behind bs n) none ∙ ap (λ b. cond b (Some Trailing) None) last

pub read_two : (ps : List PacketView) (bs : List ℕ) → Carries2 ps bs → packets_read bs ≡ Ok ps
read_two ps bs carried =
    let ws = carried.words in
    let read = all_read ps 1 ws carried.spelled in
    let long : length bs ≡ 4 + length (wire ws) = ap length carried.bytes ∙ omega arith in
    let number : get_or bs 3 0 ≡ length ps = ap (λ l. get_or l 3 0) carried.bytes in
    let after : words_of (drop 4 bs) ≡ ws = ap (λ l. words_of (drop 4 l)) carried.bytes ∙ words_of-wire ws in
    let whole : nat_lt (length bs) 4 ≡ false = grind (arith, nat_tests) in
    let two : is_two bs ≡ true = marked_two (get_or bs 0 0) (get_or bs 1 0) (get_or bs 2 0) (nat_lt (length bs) 4)
    (ap (λ l. get_or l 0 0) carried.bytes) (ap (λ l. get_or l 1 0) carried.bytes) (ap (λ l. get_or l 2 0) carried.bytes)
    whole in
    let none : packets_fault (get_or bs 3 0) 1 (words_of (drop 4 bs)) ≡ None =
    ap₂ (λ n l. packets_fault n 1 l) number after ∙ read.none in
    let size : packets_len (get_or bs 3 0) (words_of (drop 4 bs)) ≡ length ws =
    ap₂ packets_len number after ∙ read.whole in
    let end : length bs ≤ 4 + 2 * packets_len (get_or bs 3 0) (words_of (drop 4 bs)) =
    omega (arith, long, size, length-wire ws) in
    let faultless =
    no_fault_two bs (omega (arith, number, carried.some)) (omega (arith, number, carried.few)) carried.fits none
    end in
    two_without_fault bs two faultless ∙ ap ok (ap₂ packets_at number after ∙ read.packets)

pub read_carried_all : (ps : List PacketView) (bs : List ℕ) → CarriesAll ps bs → packets_read bs ≡ Ok ps
read_carried_all ps bs (inl one) = rw one.1 (read_one one.0 bs one.2)
read_carried_all ps bs (inr two) = read_two ps bs two

-- ---- and back

-- a choice that comes to nothing wasn't taken, and what stands behind it comes to nothing
not_taken : {X : Type 0} (b : Bool) (x : X) (o : Option X) → cond b (Some x) o ≡ None → (b ≡ false) × (o ≡ None)
not_taken true x o h = cc
not_taken false x o h = (refl, h)

none_behind : (bs : List ℕ) (n : ℕ) (o : Option LinkFault) → fault_behind bs n o ≡ None
    → (o ≡ None) × (length bs ≤ 4 + 2 * packets_len n (words_of (drop 4 bs)))
none_behind bs n (Some f) h = cc
none_behind bs n None h = (refl, at_least _ _ (not_taken _ _ _ h).0)

pub record IsTwo (bs : List ℕ) : Type 0 where
  pub b0 : get_or bs 0 0 ≡ 0x43
  pub b1 : get_or bs 1 0 ≡ 0x48
  pub b2 : get_or bs 2 0 ≡ 2
  pub long : 4 ≤ length bs

two_is : (bs : List ℕ) → is_two bs ≡ true → IsTwo bs
two_is bs h =
    record { b0 = grind (arith, nat_tests); b1 = grind (arith, nat_tests); b2 = grind (arith, nat_tests); long = grind (arith, nat_tests) }

between : (n : ℕ) → not (nat_lt 0 n && nat_lt n 9) ≡ false → (1 ≤ n) × (n ≤ 8)
between n h = (grind (arith, nat_tests), grind (arith, nat_tests))

carried_two : (bs : List ℕ) → ((i : ℕ) → get_or bs i 0 < 256) → is_two bs ≡ true → fault_of_two bs ≡ None
    → Carries2 (packets_at (get_or bs 3 0) (words_of (drop 4 bs))) bs
carried_two bs small two none =
    let n = get_or bs 3 0 in
    let ws = words_of (drop 4 bs) in
    let mark = two_is bs two in
    let past_number =
    not_taken (not (nat_lt 0 n && nat_lt n 9)) (BadNumber)
    (cond (nat_lt 2020 (length bs)) (Some TooLong) (fault_behind bs n (packets_fault n 1 ws))) none in
    let past_length =
    not_taken (nat_lt 2020 (length bs)) TooLong (fault_behind bs n (packets_fault n 1 ws)) past_number.1 in
    let behind = none_behind bs n (packets_fault n 1 ws) past_length.1 in
    let faultless = behind.0 in
    let end = behind.1 in
    let some_few = between n past_number.0 in
    let words_len = length-words_of (drop 4 bs) in
    let bytes_len = length-drop 4 bs in
    let within = length_within n 1 ws faultless in
    let whole : packets_len n ws ≡ length ws = omega (arith, end, within, words_len, bytes_len, mark.long) in
    let even : length (drop 4 bs) ≡ 2 * length ws = omega (arith, end, within, words_len, bytes_len, mark.long) in
    let after : wire ws ≡ drop 4 bs = wire-words_of (drop 4 bs) (λ i. rw get_or-drop (small (4 + i))) even in
    let count = length-packets_at n ws in
    record {
      words = ws;
      spelled = all_spelled n 1 ws faultless whole;
      bytes = front_four bs mark.long ∙ cc (mark.b0, mark.b1, mark.b2, count, after);
      some = rw count some_few.0;
      few = rw count some_few.1;
      fits = at_least 2020 (length bs) past_length.0;
    }

carried_by_version : (bs : List ℕ) → ((i : ℕ) → get_or bs i 0 < 256) → (two : Bool) → is_two bs ≡ two
    → (o : Option LinkFault) → fault_of_all bs ≡ o → IfOk (read_all_by bs o) (λ ps. CarriesAll ps bs)
carried_by_version bs small two e (Some f) h = tt
carried_by_version bs small true e None h =
    let none : fault_of_two bs ≡ None = sym (fault_by_version bs true e) ∙ h in
    subst (λ n. CarriesAll (packets_at n (words_of (drop 4 bs))) bs) (sym (number_by_version bs true e))
    (inr (carried_two bs small e none))
carried_by_version bs small false e None h =
    let none : fault_of bs ≡ None = sym (fault_by_version bs false e) ∙ h in
    let one = carried_read (Ok (packet_at (words_of (drop 4 bs)))) bs small (sym (ap (read_by bs) none)) in
    subst (λ n. CarriesAll (packets_at n (words_of (drop 4 bs))) bs) (sym (number_by_version bs false e))
    (inl (packet_at (words_of (drop 4 bs)), refl, one))

pub carried_read_all : (r : Result (List PacketView) LinkFault) (bs : List ℕ) → ((i : ℕ) → get_or bs i 0 < 256)
    → r ≡ packets_read bs → IfOk r (λ ps. CarriesAll ps bs)
carried_read_all r bs small e = rw e (carried_by_version bs small (is_two bs) refl (fault_of_all bs) refl)

pub same_lists : (ps qs : List PacketView) → ◌≡◌ {A = Result (List PacketView) LinkFault} (Ok ps) (Ok qs) → ps ≡ qs
same_lists ps qs h = cc

pub one_list : (ps qs : List PacketView) (bs : List ℕ) → CarriesAll ps bs → CarriesAll qs bs → ps ≡ qs
one_list ps qs bs c d = same_lists ps qs (sym (read_carried_all ps bs c) ∙ read_carried_all qs bs d)

-- ---- a refusal

apart : (r : Result (List PacketView) LinkFault) (ps : List PacketView) (f : LinkFault)
    → ◌≡◌ {A = Result (List PacketView) LinkFault} (Err f) (Ok ps) → r ≡ Ok ps
apart r ps f h = cc

pub none_carried_all : (r : Result (List PacketView) LinkFault) (ps : List PacketView) (bs : List ℕ) (f : LinkFault)
    → packets_read bs ≡ Err f → CarriesAll ps bs → r ≡ Ok ps
none_carried_all r ps bs f e carried = apart r ps f (sym e ∙ read_carried_all ps bs carried)

-- ---- the packets that lie behind the mark

pub opened_one : (bs words : List ℕ) → is_two bs ≡ false → fault_of bs ≡ None → words ≡ drop 4 bs
    → Ok (packets_at 1 (words_of words)) ≡ packets_read bs
opened_one bs words one none behind =
    ap (λ l. ok (packets_at 1 (words_of l))) behind ∙ sym (one_without_fault bs one none)

pub opened_two : (bs words : List ℕ) (n : ℕ) → is_two bs ≡ true → fault_of_two bs ≡ None → n ≡ get_or bs 3 0
    → words ≡ drop 4 bs
    → Ok (packets_at n (words_of words)) ≡ packets_read bs
opened_two bs words n two none number behind =
    ap₂ (λ n l. ok (packets_at n (words_of l))) number behind ∙ sym (two_without_fault bs two none)

-- ---- taken one after the other

apart_as : {X : Type 0} (r : Result X LinkFault) (x : X) (ps : List PacketView) (f : LinkFault)
    → ◌≡◌ {A = Result (List PacketView) LinkFault} (Err f) (Ok ps) → r ≡ Ok x
apart_as r x ps f h = cc

pub none_carried_as : {X : Type 0} (r : Result X LinkFault) (x : X) (ps : List PacketView) (bs : List ℕ) (f : LinkFault)
    → packets_read bs ≡ Err f → CarriesAll ps bs → r ≡ Ok x
none_carried_as r x ps bs f e carried = apart_as r x ps f (sym e ∙ read_carried_all ps bs carried)

pub one_taken : (items left : List PacketView) (p : PacketView) → Some p ≡ slice_get left 0
    → items ++ left ≡ (items ++ p ∷ []) ++ drop 1 left
one_taken items [] p h = cc
one_taken items (q ∷ left) p h =
    let same : q ≡ p = cc in
    ap (λ x. items ++ x ∷ left) same ∙ sym (append_assoc items (p ∷ []) left)

pub none_taken : (left : List PacketView) → None ≡ slice_get left 0 → left ≡ drop 1 left
none_taken [] h = refl
none_taken (q ∷ left) h = cc

pub all_taken : (bs : List ℕ) (items left : List PacketView) → packets_read bs ≡ Ok (items ++ left) → length left ≤ 0
    → packets_read bs ≡ Ok items
all_taken bs items [] h end = h ∙ ap ok (append-nil items)
all_taken bs items (q ∷ left) h end = absurd (omega arith)
