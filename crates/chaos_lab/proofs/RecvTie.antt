-- What arrives and is read, against the receive window.
use Rattle.std.proofs.Common.{◌≡◌, ℕ, zero, suc, ◌+◌, ◌-◌, ◌<◌, ◌≤◌, length, drop, set, replicate, refl, sym, ap, ◌∙◌, subst, ⊎_elim, true, false, ◌&&◌, cond, leb, Option, Some, None, [], ◌∷◌, ◌++◌, arith, rules}
use Rattle.std.proofs.lemmas.Bool.{cond_both, cases_Bool, false_from_ne_true, false≢true, cond-true, cond-false, le-leb, lt-leb, lt-ltb, le-ltb, and_from, and_left, and_right, cases_lt, ne_eqb}
use Rattle.std.specs.Prelude.{slice_get, is_some, unwrap_or}
use Rattle.std.specs.List.{prefix_len}
use Rattle.std.specs.Ordering.{nat_cmp}
use Rattle.std.specs.Cmp.{nat_cmp_total}
use Rattle.std.specs.FinSet.{FinSet, contains, insert, same_set, nat_cmp-IsAntisymmetric, members}
use Rattle.chaos_lab.specs.Machine.{PlainEnd as Plain}
use Rattle.chaos_window.specs.declared.arrival.Arrived.{Arrived}
use Rattle.chaos_window.specs.declared.arrival.Arrived.TheVariants.{Took, Duplicate, Outside}
use Rattle.chaos_packet.specs.Number.{num, off}
use Rattle.chaos_lab.specs.Numbers.{told_num}
use Rattle.chaos_lab.specs.Machine.{take_in, FirstMissing}
use Rattle.chaos_lab.proofs.Directions.{Sound}
use Rattle.chaos_lab.proofs.Lists.{contains-insert_cases, contains-insert_keeps, contains-insert_same, length-one_more, member_at}
use Rattle.chaos_packet.specs.Item.{ItemView}
use Rattle.chaos_window.specs.Slots.{with_item_at}
use Rattle.chaos_window.specs.Receive.{ReceiveView, item_at, is_held, is_within, is_past, after_answer, after_arrival, after_advance, after_reading, receipt_of}
use Rattle.chaos_lab.specs.Shown.{recv_view, there_at, slots_from}

-- ---- the indices that arrived

pub joined_there : (i : ℕ) (g : FinSet nat_cmp) → contains g i ≡ true → insert g i ≡ g
joined_there i g h =
    same_set nat_cmp_total nat_cmp-IsAntisymmetric (insert g i) g
    (λ q. ⊎_elim
    (λ (t : contains (insert g i) q ≡ true).
    ⊎_elim (λ (u : q ≡ i). t ∙ sym (ap (contains g) u ∙ h)) (λ (u : contains g q ≡ true). t ∙ sym u)
    (contains-insert_cases i g q t))
    (λ (t : contains (insert g i) q ≡ false).
    t ∙ sym (false_from_ne_true (contains g q) (λ u. false≢true (sym t ∙ contains-insert_keeps i g q u))))
    (cases_Bool (contains (insert g i) q)))

pub not_joined : (i : ℕ) (g : FinSet nat_cmp) (q : ℕ) → (q ≡ i → ⊥) → contains g q ≡ contains (insert g i) q
not_joined i g q apart = grind (members, rules)

pub took_in_true : (i : ℕ) (e : Plain) → length e.read ≤ i → i < length e.read + e.announced
    → take_in i e ≡ record e { arrived = insert e.arrived i }
took_in_true i e h l =
    cond-true _ _ _ (and_from _ _ (le-leb (length e.read) i h) (lt-ltb i (length e.read + e.announced) l))

pub took_in_before : (i : ℕ) (e : Plain) → i < length e.read → take_in i e ≡ e
took_in_before i e h = cond-false _ _ _ (and_left _ _ (lt-leb (length e.read) i h))

pub took_in_past : (i : ℕ) (e : Plain) → length e.read + e.announced ≤ i → take_in i e ≡ e
took_in_past i e h = cond-false _ _ _ (and_right _ _ (le-ltb i (length e.read + e.announced) h))

-- ---- the slots

pub slots_at : (p e : Plain) (i n k : ℕ) → k < n → slice_get (slots_from p e i n) k ≡ Some (there_at p e (i + k))
slots_at p e i zero k h = absurd (omega arith)
slots_at p e i (suc n) zero h = ap (λ j. Some (there_at p e j)) (let s : i ≡ i + 0 = omega arith in s)
slots_at p e i (suc n) (suc k) h =
    slots_at p e (suc i) n k (omega arith)
    ∙ ap (λ j. Some (there_at p e j)) (let s : suc i + k ≡ i + suc k = omega arith in s)

pub same_slots : (p e q f : Plain) (i n : ℕ) → ((k : ℕ) → k < n → there_at p e (i + k) ≡ there_at q f (i + k))
    → slots_from p e i n ≡ slots_from q f i n
same_slots p e q f i zero h = refl
same_slots p e q f i (suc n) h =
    let here : i + 0 ≡ i = omega arith in
    let first : there_at p e i ≡ there_at q f i =
    subst (λ j. there_at p e j ≡ there_at q f j) here (h 0 (omega arith)) in
    let rest : slots_from p e (suc i) n ≡ slots_from q f (suc i) n =
    same_slots p e q f (suc i) n
    (λ k l. subst (λ j. there_at p e j ≡ there_at q f j) (let s : i + suc k ≡ suc i + k = omega arith in s)
    (h (suc k) (omega arith))) in
    λ j. first j ∷ rest j

pub no_slots : (p e : Plain) (i n : ℕ) → ((k : ℕ) → k < n → there_at p e (i + k) ≡ None)
    → slots_from p e i n ≡ replicate n None
no_slots p e i zero h = refl
no_slots p e i (suc n) h =
    let here : i + 0 ≡ i = omega arith in
    let first : there_at p e i ≡ None = subst (λ j. there_at p e j ≡ None) here (h 0 (omega arith)) in
    let rest : slots_from p e (suc i) n ≡ replicate n None =
    no_slots p e (suc i) n
    (λ k l. subst (λ j. there_at p e j ≡ None) (let s : i + suc k ≡ suc i + k = omega arith in s)
    (h (suc k) (omega arith))) in
    λ j. first j ∷ rest j

pub set_slots : (p e f : Plain) (i n k : ℕ) (x : Option ItemView) → k < n → there_at p f (i + k) ≡ x
    → ((j : ℕ) → (j ≡ i + k → ⊥) → there_at p e j ≡ there_at p f j) → set (slots_from p e i n) k x ≡ slots_from p f i n
set_slots p e f i zero k x h at others = absurd (omega arith)
set_slots p e f i (suc n) zero x h at others =
    let here : i + 0 ≡ i = omega arith in
    let first : x ≡ there_at p f i = sym at ∙ ap (there_at p f) here in
    let rest : slots_from p e (suc i) n ≡ slots_from p f (suc i) n =
    same_slots p e p f (suc i) n (λ k l. others (suc i + k) (λ u. omega arith)) in
    λ j. first j ∷ rest j
set_slots p e f i (suc n) (suc k) x h at others =
    let here : i + suc k ≡ suc i + k = omega arith in
    let first : there_at p e i ≡ there_at p f i = others i (λ u. omega arith) in
    let rest : set (slots_from p e (suc i) n) k x ≡ slots_from p f (suc i) n =
    set_slots p e f (suc i) n k x (omega arith) (sym (ap (there_at p f) here) ∙ at)
    (λ j apart. others j (λ u. apart (u ∙ here))) in
    λ j. first j ∷ rest j

slots_more : (p e : Plain) (i n : ℕ) → slots_from p e i n ++ there_at p e (i + n) ∷ [] ≡ slots_from p e i (suc n)
slots_more p e i zero = ap (λ j. there_at p e j ∷ []) (let s : i + 0 ≡ i = omega arith in s)
slots_more p e i (suc n) =
    ap (λ xs. there_at p e i ∷ xs)
    (ap (λ j. slots_from p e (suc i) n ++ there_at p e j ∷ []) (let s : i + suc n ≡ suc i + n = omega arith in s)
    ∙ slots_more p e (suc i) n)

pub drop_slots : (p e : Plain) (i n : ℕ) → 1 ≤ n → there_at p e (i + n) ≡ None
    → drop 1 (slots_from p e i n) ++ None ∷ [] ≡ slots_from p e (suc i) n
drop_slots p e i zero h none = absurd (omega arith)
drop_slots p e i (suc n) h none =
    ap (λ x. slots_from p e (suc i) n ++ x ∷ [])
    (sym none ∙ ap (there_at p e) (let s : i + suc n ≡ suc i + n = omega arith in s))
    ∙ slots_more p e (suc i) n

-- the unbroken front
pub front_slots : (p e : Plain) (i n f : ℕ) → i ≤ f → f ≤ i + n
    → ((j : ℕ) → i ≤ j → j < f → is_some (there_at p e j) ≡ true) → (f < i + n → is_some (there_at p e f) ≡ false)
    → prefix_len is_some (slots_from p e i n) ≡ f - i
front_slots p e i zero f h l all stop = omega arith
front_slots p e i (suc n) f h l all stop =
    ⊎_elim
    (λ (t : i < f).
    cond-true _ _ _ (all i (omega arith) t)
    ∙ ap (λ m. 1 + m)
    (front_slots p e (suc i) n f t (omega arith) (λ j u. all j (omega arith)) (λ u. stop (omega arith)))
    ∙ (let s : 1 + (f - suc i) ≡ f - i = omega arith in s))
    (λ (t : f ≤ i).
    let same : f ≡ i = omega arith in
    cond-false _ _ _ (ap (λ j. is_some (there_at p e j)) (sym same) ∙ stop (omega arith))
    ∙ (let s : 0 ≡ f - i = omega arith in s))
    (cases_lt i f)

-- ---- the window

pub item_is : (b : ℕ) (p e : Plain) (k : ℕ) → k < e.recv_cap
    → item_at (recv_view b p e) (suc k) ≡ there_at p e (length e.read + k)
item_is b p e k h =
    let less : suc k - 1 ≡ k = omega arith in
    cond-false _ _ _ (ne_eqb (suc k) 0 (λ u. omega arith))
    ∙ ap (λ j. unwrap_or (slice_get (slots_from p e (length e.read) e.recv_cap) j) None) less
    ∙ ap (λ o. unwrap_or o None) (slots_at p e (length e.read) e.recv_cap k h)

-- what becomes of an item that isn't held
abbrev unheld : ReceiveView → ℕ → Arrived
unheld v d = cond (is_within v d) Took (cond (is_past v d) Outside Duplicate)

arrived_out : (v : ReceiveView) (n : ℕ) (item : ItemView) → is_within v (off n v.read) ≡ false
    → after_arrival v n item ≡ v
arrived_out v n item out =
    let same : Arrived → Type 0 = λ a. after_answer a v (off n v.read) item ≡ v in
    cond_both (is_held v (off n v.read)) Duplicate (unheld v (off n v.read)) same
    (λ _. refl)
    (λ _. subst same
    (sym (cond-false (is_within v (off n v.read)) Took (cond (is_past v (off n v.read)) Outside Duplicate) out))
    (cond_both (is_past v (off n v.read)) Outside Duplicate same (λ _. refl) (λ _. refl)))

arrived_held : (v : ReceiveView) (n : ℕ) (item : ItemView) → is_held v (off n v.read) ≡ true
    → after_arrival v n item ≡ v
arrived_held v n item full =
    ap (λ a. after_answer a v (off n v.read) item)
    (cond-true (is_held v (off n v.read)) Duplicate (unheld v (off n v.read)) full)

arrived_took : (v : ReceiveView) (n : ℕ) (item : ItemView) → is_within v (off n v.read) ≡ true
    → is_held v (off n v.read) ≡ false
    → after_arrival v n item ≡ record v { held = with_item_at v.held (off n v.read) item }
arrived_took v n item inside free =
    ap (λ a. after_answer a v (off n v.read) item)
    (cond-false (is_held v (off n v.read)) Duplicate (unheld v (off n v.read)) free
    ∙ cond-true (is_within v (off n v.read)) Took (cond (is_past v (off n v.read)) Outside Duplicate) inside)

there_true : (p e : Plain) (i : ℕ) → contains e.arrived i ≡ true → there_at p e i ≡ slice_get p.written i
there_true p e i h = cond-true _ _ _ h

there_false : (p e : Plain) (i : ℕ) → contains e.arrived i ≡ false → there_at p e i ≡ None
there_false p e i h = cond-false _ _ _ h

pub arrived_is : (b i : ℕ) (item : ItemView) (p e : Plain) → slice_get p.written i ≡ Some item → i < length p.written
    → length p.written ≤ length e.read + 64 → length e.read ≤ length p.written → length p.written < i + 32704
    → e.recv_cap ≤ 64 → e.announced ≤ e.recv_cap
    → after_arrival (recv_view b p e) (num b i) item ≡ recv_view b p (take_in i e)
arrived_is b i item p e at within room order near most fits =
    ⊎_elim before from (cases_lt i (length e.read))
  where
    before : i < length e.read → after_arrival (recv_view b p e) (num b i) item ≡ recv_view b p (take_in i e)
    before h =
        arrived_out (recv_view b p e) (num b i) item
        (⊎_elim
        (λ (t : i + 1 ≡ length e.read). and_left _ _
        (lt-leb 1 (off (num b i) (told_num b (length e.read))) (omega arith)))
        (λ (t : i + 1 < length e.read). and_right _ _
        (lt-leb (off (num b i) (told_num b (length e.read))) e.announced (omega arith)))
        (grind arith))
        ∙ sym (ap (recv_view b p) (took_in_before i e h))

    from : length e.read ≤ i → after_arrival (recv_view b p e) (num b i) item ≡ recv_view b p (take_in i e)
    from h =
        let far : off (num b i) (told_num b (length e.read)) ≡ suc (i - length e.read) = omega arith in
        ⊎_elim
        (λ (t : i < length e.read + e.announced). inside t far)
        (λ (t : length e.read + e.announced ≤ i).
        arrived_out (recv_view b p e) (num b i) item
        (and_right _ _ (lt-leb (off (num b i) (told_num b (length e.read))) e.announced (omega arith)))
        ∙ sym (ap (recv_view b p) (took_in_past i e t)))
        (cases_lt i (length e.read + e.announced))
      where
        inside : i < length e.read + e.announced → off (num b i) (told_num b (length e.read)) ≡ suc (i - length e.read)
            → after_arrival (recv_view b p e) (num b i) item ≡ recv_view b p (take_in i e)
        inside t far =
            let test : (leb 1 (off (num b i) (told_num b (length e.read)))
            && leb (off (num b i) (told_num b (length e.read))) e.announced)
            ≡ true =
            and_from _ _ (le-leb 1 (off (num b i) (told_num b (length e.read))) (omega arith))
            (le-leb (off (num b i) (told_num b (length e.read))) e.announced (omega arith)) in
            let same : length e.read + (i - length e.read) ≡ i = omega arith in
            let less : off (num b i) (told_num b (length e.read)) - 1 ≡ i - length e.read = omega arith in
            let is : item_at (recv_view b p e) (off (num b i) (told_num b (length e.read))) ≡ there_at p e i =
            ap (item_at (recv_view b p e)) far ∙ item_is b p e (i - length e.read) (omega arith)
            ∙ ap (there_at p e) same in
            ⊎_elim
            (λ (u : contains e.arrived i ≡ true).
            arrived_held (recv_view b p e) (num b i) item (ap is_some (is ∙ there_true p e i u ∙ at))
            ∙ sym
            (ap (recv_view b p)
            (took_in_true i e h t ∙ (λ k. record e { arrived = joined_there i e.arrived u k }))))
            (λ (u : contains e.arrived i ≡ false).
            let f : Plain = record e { arrived = insert e.arrived i } in
            arrived_took (recv_view b p e) (num b i) item test (ap is_some (is ∙ there_false p e i u))
            ∙ (λ k. record (recv_view b p e)
            { held = set (slots_from p e (length e.read) e.recv_cap) (less k) (Some item) })
            ∙ (λ k. record (recv_view b p e) {
              held = set_slots p e f (length e.read) e.recv_cap (i - length e.read) (Some item) (omega arith)
                  (ap (there_at p f) same ∙ there_true p f i (contains-insert_same i e.arrived) ∙ at)
                  (λ j apart. ap (λ c. cond c (slice_get p.written j) None)
                  (not_joined i e.arrived j (λ z. apart (z ∙ sym same))))
                  k;
            })
            ∙ sym (ap (recv_view b p) (took_in_true i e h t)))
            (cases_Bool (contains e.arrived i))

pub advanced_is : (b : ℕ) (item : ItemView) (p e : Plain) → 1 ≤ e.recv_cap
    → ((i : ℕ) → contains e.arrived i ≡ true → i < length e.read + e.recv_cap)
    → there_at p e (length e.read) ≡ Some item
    → after_advance (recv_view b p e) ≡ recv_view b p (record e { read = e.read ++ item ∷ [] })
advanced_is b item p e one inside at =
    let longer = length-one_more e.read item in
    let number : num (told_num b (length e.read)) 1 ≡ told_num b (length (e.read ++ item ∷ [])) = omega arith in
    let here : length e.read + 0 ≡ length e.read = omega arith in
    let last : contains e.arrived (length e.read + e.recv_cap) ≡ false =
    false_from_ne_true _ (λ u. let h = inside (length e.read + e.recv_cap) u in omega arith) in
    ap (λ o. after_reading o (recv_view b p e)) (item_is b p e 0 one ∙ ap (there_at p e) here ∙ at)
    ∙ (λ k. record {
      cap = e.recv_cap;
      window = e.announced;
      read = number k;
      held = (drop_slots p e (length e.read) e.recv_cap one (there_false p e (length e.read + e.recv_cap) last)
          ∙ ap (λ n. slots_from p e n e.recv_cap) (sym longer)
          ∙ same_slots p e p (record e { read = e.read ++ item ∷ [] }) (length (e.read ++ item ∷ [])) e.recv_cap
          (λ j l. refl))
          k;
    })

pub front_is : (b : ℕ) (p e : Plain) → 1 ≤ e.recv_cap → item_at (recv_view b p e) 1 ≡ there_at p e (length e.read)
front_is b p e one =
    item_is b p e 0 one ∙ ap (there_at p e) (let here : length e.read + 0 ≡ length e.read = omega arith in here)

-- the receipt tells the least index that didn't arrive
pub receipt_is : (b f : ℕ) (p e : Plain) → Sound p e → FirstMissing e f → receipt_of (recv_view b p e) ≡ told_num b f
receipt_is b f p e d h =
    let low : length e.read ≤ f =
    ⊎_elim (λ (t : f < length e.read). absurd (false≢true (sym h.1 ∙ d.front f t))) (λ (t : length e.read ≤ f). t)
    (cases_lt f (length e.read)) in
    let high : f ≤ length e.read + e.recv_cap =
    ⊎_elim
    (λ (t : length e.read + e.recv_cap < f). let u = d.inside (length e.read + e.recv_cap)
    (h.0 (length e.read + e.recv_cap) t) in absurd (omega arith))
    (λ (t : f ≤ length e.read + e.recv_cap). t) (cases_lt (length e.read + e.recv_cap) f) in
    ap (num (told_num b (length e.read)))
    (front_slots p e (length e.read) e.recv_cap f low high
    (λ j u v. let first = member_at p.written j (d.within j (h.0 j v)) in ap is_some
    (there_true p e j (h.0 j v) ∙ first.1))
    (λ u. ap is_some (there_false p e f h.1)))
    ∙ (let s : num (told_num b (length e.read)) (f - length e.read) ≡ told_num b f = omega arith in s)
