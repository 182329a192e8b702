-- Packets put one behind the other.
use Rattle.std.proofs.Common.{◌≡◌, ℕ, zero, suc, ◌+◌, ◌*◌, ◌/◌, ◌%◌, ◌≤◌, ◌↔◌, Bool, true, List, [], ◌∷◌, ◌++◌, length, take, drop, refl, arith, ap, ◌∙◌, sym, Some, slice_get, append_assoc, append-nil, length-append, length-drop}
use Rattle.std.proofs.lemmas.List.{take_more, take_at, drop_at, take_all, length-take-le}
use Rattle.std.proofs.lemmas.Option.{slice_get_within, get_or_from_slice_get}
use Rattle.std.proofs.lemmas.Bool.Decides.{nat_tests}
use Rattle.chaos_packet.specs.Packet.{PacketView}
use Rattle.chaos_packet.specs.Words.{Spells, spelling_of, words_for}
use Rattle.chaos_packet.proofs.Packing.{length-packed}
use Rattle.chaos_link.specs.Datagram.{wire}
use Rattle.chaos_link.specs.Packets.{Carries2, SpellsAll}
use Rattle.chaos_link.specs.Bundle.{bytes_for, fit_together, fit_within, spelling_of_all, datagram_of_all}
use Rattle.chaos_link.specs.Loads.{EachSpelled}
use Rattle.chaos_link.proofs.Words.{length-wire}

-- ---- one packet more

pub wire-append : (ws vs : List ℕ) → wire (ws ++ vs) ≡ wire ws ++ wire vs
wire-append [] vs = refl
wire-append (w ∷ ws) vs = ap (λ bs. w / 256 ∷ w % 256 ∷ bs) (wire-append ws vs)

one_more : (ps : List PacketView) (i : ℕ) (p : PacketView) → slice_get ps i ≡ Some p
    → take (i + 1) ps ≡ take i ps ++ p ∷ []
one_more ps i p at =
    take_more ps i p (slice_get_within ps i p at) ∙ ap (λ q. take i ps ++ q ∷ []) (get_or_from_slice_get ps i p p at)

pub bytes_behind : (ps : List PacketView) (p : PacketView)
    → bytes_for (ps ++ p ∷ []) ≡ bytes_for ps + 2 * (8 + words_for (length p.body))
bytes_behind [] p = omega arith
bytes_behind (q ∷ ps) p = omega (arith, bytes_behind ps p)

pub spelling_behind : (ps : List PacketView) (p : PacketView)
    → spelling_of_all (ps ++ p ∷ []) ≡ spelling_of_all ps ++ spelling_of p
spelling_behind [] p = append-nil (spelling_of p)
spelling_behind (q ∷ ps) p =
    ap (λ ws. spelling_of q ++ ws) (spelling_behind ps p)
    ∙ sym (append_assoc (spelling_of q) (spelling_of_all ps) (spelling_of p))

pub each_behind : (ps : List PacketView) (p : PacketView) → EachSpelled ps → Spells p (spelling_of p)
    → EachSpelled (ps ++ p ∷ [])
each_behind [] p each spelled = (spelled, tt)
each_behind (q ∷ ps) p each spelled = (each.0, each_behind ps p each.1 spelled)

pub bytes_more : (ps : List PacketView) (i : ℕ) (p : PacketView) → slice_get ps i ≡ Some p
    → bytes_for (take (i + 1) ps) ≡ bytes_for (take i ps) + 2 * (8 + words_for (length p.body))
bytes_more ps i p at = ap bytes_for (one_more ps i p at) ∙ bytes_behind (take i ps) p

pub each_more : (ps : List PacketView) (i : ℕ) (p : PacketView) → slice_get ps i ≡ Some p → EachSpelled (take i ps)
    → Spells p (spelling_of p) → EachSpelled (take (i + 1) ps)
each_more ps i p at each spelled = rw (one_more ps i p at) (each_behind (take i ps) p each spelled)

pub wire_more : (front : List ℕ) (ps : List PacketView) (i : ℕ) (p : PacketView) → slice_get ps i ≡ Some p
    → (front ++ wire (spelling_of_all (take i ps))) ++ wire (spelling_of p)
    ≡ front ++ wire (spelling_of_all (take (i + 1) ps))
wire_more front ps i p at =
    append_assoc front (wire (spelling_of_all (take i ps))) (wire (spelling_of p))
    ∙ ap (λ bs. front ++ bs)
    (sym (wire-append (spelling_of_all (take i ps)) (spelling_of p)) ∙ ap wire (sym (spelling_behind (take i ps) p))
    ∙ ap (λ qs. wire (spelling_of_all qs)) (sym (one_more ps i p at)))

-- the first packets take no more bytes than all
pub bytes_within : (i : ℕ) (ps : List PacketView) → bytes_for (take i ps) ≤ bytes_for ps
bytes_within zero ps = omega arith
bytes_within (suc i) [] = omega arith
bytes_within (suc i) (p ∷ ps) = omega (arith, bytes_within i ps)

-- ---- their words

length_spelling : (ps : List PacketView) → 2 * length (spelling_of_all ps) ≡ bytes_for ps
length_spelling [] = refl
length_spelling (p ∷ ps) =
    omega (arith, length-append (spelling_of p) (spelling_of_all ps), length-packed p.body, length_spelling ps)

pub spelled_in_turn : (ps : List PacketView) → EachSpelled ps → SpellsAll ps (spelling_of_all ps)
spelled_in_turn [] each = refl
spelled_in_turn (p ∷ ps) each =
    let front : take (length (spelling_of p)) (spelling_of p ++ spelling_of_all ps) ≡ spelling_of p =
    take_at (spelling_of p) (spelling_of_all ps) (length (spelling_of p)) refl in
    let behind : drop (length (spelling_of p)) (spelling_of p ++ spelling_of_all ps) ≡ spelling_of_all ps =
    drop_at (spelling_of p) (spelling_of_all ps) (length (spelling_of p)) refl in
    let within : length (spelling_of p) ≤ length (spelling_of p ++ spelling_of_all ps) =
    omega (arith, length-append (spelling_of p) (spelling_of_all ps)) in
    (length (spelling_of p), within, rw front each.0, rw behind (spelled_in_turn ps each.1))

pub all_spelled_in_turn : (ps : List PacketView) (i : ℕ) → length ps ≤ i → EachSpelled (take i ps)
    → SpellsAll ps (spelling_of_all ps)
all_spelled_in_turn ps i end each = spelled_in_turn ps (rw (take_all i ps end) at each)

-- ---- packets that fit are carried, and no others

pub record Fit (most : ℕ) (ps : List PacketView) : Type 0 where
  pub some : 1 ≤ length ps
  pub few : length ps ≤ 8
  pub bytes : 4 + bytes_for ps ≤ most

pub fit : (most : ℕ) (ps : List PacketView) → fit_within most ps ≡ true → Fit most ps
fit most ps h = record { some = grind (arith, nat_tests); few = grind (arith, nat_tests); bytes = grind (arith, nat_tests) }

-- what may be sent may be carried
pub sent_fit : (ps : List PacketView) → fit_within 1472 ps ≡ true → fit_together ps ≡ true
sent_fit ps h =
    let parts = fit 1472 ps h in
    let bytes : 4 + bytes_for ps ≤ 2020 = omega (arith, parts.bytes) in
    grind (arith, nat_tests, parts.some, parts.few)

pub carried_together : (ps : List PacketView) → fit_together ps ≡ true → SpellsAll ps (spelling_of_all ps)
    → Carries2 ps (datagram_of_all ps)
carried_together ps h spelled =
    let parts = fit 2020 ps h in
    let size : length (datagram_of_all ps) ≡ 4 + length (wire (spelling_of_all ps)) = omega arith in
    record {
      words = spelling_of_all ps;
      spelled = spelled;
      bytes = refl;
      some = parts.some;
      few = parts.few;
      fits = omega (arith, size, length-wire (spelling_of_all ps), length_spelling ps, parts.bytes);
    }

spelled_len : (ps : List PacketView) (ws : List ℕ) → SpellsAll ps ws → 2 * length ws ≡ bytes_for ps
spelled_len [] ws s = omega (arith, ap length s)
spelled_len (p ∷ ps) ws s =
    let n = s.0 in
    let whole : length (take n ws) ≡ n = length-take-le n ws s.1 in
    let body = s.2.body.size in
    omega
    (arith, whole, s.1, s.2.header, body, length-drop 8 (take n ws), length-drop n ws, spelled_len ps (drop n ws) s.3)

pub carried_fit : (ps : List PacketView) (bs : List ℕ) → Carries2 ps bs → fit_together ps ≡ true
carried_fit ps bs carried =
    let size : length bs ≡ 4 + length (wire carried.words) = ap length carried.bytes ∙ omega arith in
    let bytes : 4 + bytes_for ps ≤ 2020 =
    omega (arith, size, length-wire carried.words, spelled_len ps carried.words carried.spelled, carried.fits) in
    grind (arith, nat_tests, carried.some, carried.few)

pub fit_where_carried : (ps : List PacketView) (b : Bool) → b ≡ fit_together ps
    → (fit_together ps ≡ true → SpellsAll ps (spelling_of_all ps))
    → (b ≡ true) ↔ ((bs : List ℕ) × Carries2 ps bs)
fit_where_carried ps b e spelled =
    (λ yes. (datagram_of_all ps, carried_together ps (sym e ∙ yes) (spelled (sym e ∙ yes))), λ carried. e ∙ carried_fit ps carried.0 carried.1)
