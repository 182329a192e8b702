-- What is told, against the send window.
use Rattle.std.proofs.Common.{◌≡◌, ℕ, ◌+◌, ◌-◌, ◌<◌, ◌≤◌, max, min, length, drop, refl, sym, ap, ◌∙◌, ⊎_elim, true, false, leb, [], ◌∷◌, ◌++◌, arith}
use Rattle.std.proofs.lemmas.Bool.{le-leb, lt-leb, cases_lt}
use Rattle.std.proofs.lemmas.List.{drop-drop, drop-append-le}
use Rattle.std.specs.FinSet.{contains}
use Rattle.chaos_lab.specs.Machine.{PlainEnd as Plain}
use Rattle.chaos_lab.specs.Machine.Told.{Acknowledges, Status}
use Rattle.chaos_lab.specs.Numbers.{told_num}
use Rattle.chaos_lab.specs.Machine.{hear}
use Rattle.chaos_lab.proofs.Directions.{Sound}
use Rattle.chaos_lab.proofs.Lists.{length-one_more}
use Rattle.chaos_lab.proofs.Copies.{ToldOk}
use Rattle.chaos_packet.specs.Number.{off, num}
use Rattle.chaos_packet.specs.Item.{ItemView}
use Rattle.chaos_window.specs.Send.{after_receipt, after_acknowledgement, after_window, after_push}
use Rattle.chaos_lab.specs.Shown.{send_view}

is_within_true : (b a c n : ℕ) → a ≤ c → c ≤ n → n < a + 65536
    → leb (off (told_num b c) (told_num b a)) (off (told_num b n) (told_num b a)) ≡ true
is_within_true b a c n h l m =
    le-leb (off (told_num b c) (told_num b a)) (off (told_num b n) (told_num b a)) (omega arith)

is_within_false : (b a c n : ℕ) → c < a → a ≤ n → n ≤ a + 64 → n < c + 32704
    → leb (off (told_num b c) (told_num b a)) (off (told_num b n) (told_num b a)) ≡ false
is_within_false b a c n h l m k =
    lt-leb (off (told_num b c) (told_num b a)) (off (told_num b n) (told_num b a)) (omega arith)

same_counts : (b : ℕ) (e : Plain) (a r a' r' : ℕ) → a ≡ a' → r ≡ r'
    → send_view b (record e { acknowledged = a; receipted = r })
    ≡ send_view b (record e { acknowledged = a'; receipted = r' })
same_counts b e a r a' r' p q = λ i. send_view b (record e { acknowledged = p i; receipted = q i })

-- the kept items from a later count on
kept_later : (b c : ℕ) (e : Plain) → e.receipted ≤ c → c < e.receipted + 65536
    → drop (off (told_num b c) (told_num b e.receipted)) (drop e.receipted e.written) ≡ drop c e.written
kept_later b c e h l =
    let far : off (told_num b c) (told_num b e.receipted) ≡ c - e.receipted = omega arith in
    let same : e.receipted + (c - e.receipted) ≡ c = omega arith in
    ap (λ n. drop n (drop e.receipted e.written)) far ∙ drop-drop (c - e.receipted) e.receipted e.written
    ∙ ap (λ n. drop n e.written) same

pub receipt_is : (b f : ℕ) (e : Plain) → e.receipted ≤ length e.written → length e.written ≤ e.receipted + 64
    → f ≤ length e.written → length e.written < f + 32704
    → after_receipt (send_view b e) (told_num b f) ≡ send_view b (record e { receipted = max e.receipted f })
receipt_is b f e last room within near =
    ⊎_elim behind ahead (cases_lt f e.receipted)
  where
    behind : f < e.receipted
        → after_receipt (send_view b e) (told_num b f) ≡ send_view b (record e { receipted = max e.receipted f })
    behind h =
        rw (is_within_false b e.receipted f (length e.written) h last room near)
        (same_counts b e e.acknowledged e.receipted e.acknowledged (max e.receipted f) refl (omega arith))

    ahead : e.receipted ≤ f
        → after_receipt (send_view b e) (told_num b f) ≡ send_view b (record e { receipted = max e.receipted f })
    ahead h =
        rw (is_within_true b e.receipted f (length e.written) h within (omega arith))
        ((λ i. record (send_view b e) { receipted = told_num b f; kept = kept_later b f e h (omega arith) i })
        ∙ same_counts b e e.acknowledged f e.acknowledged (max e.receipted f) refl (omega arith))

pub acknowledge_is : (b c : ℕ) (e : Plain) → e.acknowledged ≤ e.receipted → e.receipted ≤ length e.written
    → length e.written ≤ e.acknowledged + 64 → c ≤ length e.written → length e.written < c + 32704
    → after_acknowledgement (send_view b e) (told_num b c) ≡ send_view b (hear (Acknowledges c) e)
acknowledge_is b c e order last room within near =
    ⊎_elim behind ahead (cases_lt c e.acknowledged)
  where
    behind : c < e.acknowledged
        → after_acknowledgement (send_view b e) (told_num b c) ≡ send_view b (hear (Acknowledges c) e)
    behind h =
        rw (is_within_false b e.acknowledged c (length e.written) h (omega arith) room near)
        (same_counts b e e.acknowledged e.receipted (max e.acknowledged c) (max e.receipted c) (omega arith)
        (omega arith))

    ahead : e.acknowledged ≤ c
        → after_acknowledgement (send_view b e) (told_num b c) ≡ send_view b (hear (Acknowledges c) e)
    ahead h =
        rw (is_within_true b e.acknowledged c (length e.written) h within (omega arith))
        (receipt_is b c (record e { acknowledged = c }) last (omega arith) within near
        ∙ same_counts b e c (max e.receipted c) (max e.acknowledged c) (max e.receipted c) (omega arith) refl)

pub status_is : (b c f w : ℕ) (e : Plain) → e.acknowledged ≤ e.receipted → e.receipted ≤ length e.written → length e.written ≤ e.acknowledged + 64 → c ≤ length e.written → length e.written < c + 32704 → f ≤ length e.written → length e.written < f + 32704 → after_window (after_receipt (after_acknowledgement (send_view b e) (told_num b c)) (told_num b f)) w ≡ send_view b (hear (Status c f w) e)
status_is b c f w e order last room within near within' near' =
    let g : Plain = hear (Acknowledges c) e in
    let first : after_acknowledgement (send_view b e) (told_num b c) ≡ send_view b g = acknowledge_is b c e order last room within near in
    let second : after_receipt (send_view b g) (told_num b f) ≡ send_view b (record g { receipted = max g.receipted f }) =
    receipt_is b f g (omega arith) (omega arith) within' near' in
    let third : max (max e.receipted c) f ≡ max e.receipted (max c f) = omega arith in
    let window : min w e.send_cap ≡ min e.send_cap w = omega arith in
    ap (λ v. after_window (after_receipt v (told_num b f)) w) first
    ∙ ap (λ v. after_window v w) second
    ∙ (λ i. send_view b (record e { acknowledged = max e.acknowledged c; receipted = third i; window = window i }))

pub pushed_is : (b : ℕ) (item : ItemView) (e : Plain) → e.receipted ≤ length e.written
    → after_push (send_view b e) item.op item.body ≡ send_view b (record e { written = e.written ++ item ∷ [] })
pushed_is b item e last =
    let longer = length-one_more e.written item in
    let number : num (told_num b (length e.written)) 1 ≡ told_num b (length (e.written ++ item ∷ [])) = omega arith in
    let kept : drop e.receipted (e.written ++ item ∷ []) ≡ drop e.receipted e.written ++ item ∷ [] =
    drop-append-le e.receipted e.written (item ∷ []) last in
    λ i. record (send_view b e) { sent = number i; kept = sym kept i }

-- ---- what the ends of a reached world know

-- the end of what the writer wrote is not far past what was read
pub read_within : (e p : Plain) → Sound p e → length e.read ≤ length p.written
read_within e p d =
    ⊎_elim
    (λ (t : length p.written < length e.read). let h = d.within (length p.written)
    (d.front (length p.written) t) in absurd (omega arith))
    (λ (t : length e.read ≤ length p.written). t) (grind arith)

pub arrived_within : (e p : Plain) (n : ℕ) → Sound p e → ((i : ℕ) → i < n → contains e.arrived i ≡ true)
    → n ≤ length p.written
arrived_within e p n d all =
    ⊎_elim
    (λ (t : length p.written < n). let h = d.within (length p.written) (all (length p.written) t) in absurd
    (omega arith))
    (λ (t : n ≤ length p.written). t) (grind arith)

-- e hears its peer p tell what it read. len: how much e had written when the copy was sent
pub reads_is : (b read : ℕ) (e p : Plain) (len : ℕ) → Sound e p → e.send_cap ≤ 64 → ToldOk (Acknowledges read) p e len
    → length e.written < len + 32640
    → after_acknowledgement (send_view b e) (told_num b read) ≡ send_view b (hear (Acknowledges read) e)
reads_is b read e p len d most h fresh =
    let within = read_within p e d in
    let last = arrived_within p e e.receipted d d.receipted_arrived in
    acknowledge_is b read e d.in_order last (omega (arith, d.room)) (omega (arith, h.0)) (omega (arith, h.1))

pub counts_is : (b read arrived window : ℕ) (e p : Plain) (len : ℕ) → Sound e p → e.send_cap ≤ 64
    → ToldOk (Status read arrived window) p e len → length e.written < len + 32640
    → after_window (after_receipt (after_acknowledgement (send_view b e) (told_num b read)) (told_num b arrived)) window
    ≡ send_view b (hear (Status read arrived window) e)
counts_is b read arrived window e p len d most h fresh =
    let within = read_within p e d in
    let last = arrived_within p e e.receipted d d.receipted_arrived in
    let front = arrived_within p e arrived d h.2 in
    status_is b read arrived window e d.in_order last (omega (arith, d.room)) (omega (arith, h.0)) (omega (arith, h.1))
    front (omega (arith, h.3))
