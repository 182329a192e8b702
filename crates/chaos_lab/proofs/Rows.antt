-- Each row of the table of steps keeps what holds of an end.
use Rattle.std.proofs.Common.{◌≡◌, ◌≢◌, ℕ, zero, suc, ◌≤◌, List, [], ◌∷◌, ◌++◌, length, true, Some, refl, sym, ◌∙◌, subst, inl, inr, ◌⊎◌, ⊎_elim, arith}
use Rattle.std.specs.Ordering.{nat_cmp}
use Rattle.std.specs.FinSet.{FinSet, contains, insert}
use Rattle.chaos_lab.specs.declared.side.Side.{Side}
use Rattle.chaos_lab.specs.declared.side.Side.TheVariants.{A, B}
use Rattle.chaos_packet.specs.Item.{ItemView}
use Rattle.chaos_lab.specs.Machine.{PlainEnd, Phase, Told, Copy, hear, take_in, read_next, read_item, Row, Request, Accept, Opened, Write, Arrive, Control, Read, Resize, End, Close, Comes, Tick, OrNothing}
use Rattle.chaos_lab.specs.Machine.Phase.{Inactive, RfcSent, RfcReceived, Open, Ended, Closed}
use Rattle.chaos_lab.specs.Machine.Kind.{Nth}
use Rattle.chaos_lab.specs.Machine.Told.{Nothing, Acknowledges, Status}
use Rattle.chaos_lab.proofs.Lists.{contains-insert_cases, contains-insert_same, length-one_more, member_at}
use Rattle.chaos_lab.proofs.Directions.{sound_written, sound_arrived, sound_read}
use Rattle.chaos_lab.proofs.Grows.{grows_by, grows_same, grows_arrived, grows_read, grows_written}
use Rattle.chaos_lab.proofs.Copies.{KindOk, TellsMet, CopyOk, told_later}
use Rattle.chaos_lab.proofs.Ends.{IsNew, HasMet, IsNone, Fits, EndOk, EndHolds, EndStep, step_same, step_through, fits_at, announces_at, announced_fits, step_phase, step_announced, step_heard, hear_phase, step_took_in, step_read, step_written}

-- a row that keeps it does so too where it isn't allowed
pub or_nothing :
    (row : Row) (x : Side) (e p f : PlainEnd) → EndHolds x e p → (row p e f → EndStep x e p f) → OrNothing row p e f →
    EndStep x e p f
or_nothing row x e p f h keeps r =
    ⊎_elim keeps
    (λ (t : ((g : PlainEnd) → row p e g → ⊥) × (f ≡ e)). subst (EndStep x e p) (sym t.1) (step_same x e p h)) r

-- ---- the user's calls

pub row_write : (item : ItemView) (x : Side) (e p f : PlainEnd) → EndHolds x e p → Write item p e f → EndStep x e p f
row_write item x e p f h r =
    let met : HasMet e.written e.read = fits_at x e Open h.ok r.0 in
    let longer = length-one_more e.written item in
    subst (EndStep x e p) (sym r.2)
    (step_written x e p item h
    (subst (λ ph. Fits ph x (e.written ++ item ∷ []) e.read e.arrived) (sym r.0) (met.0, omega arith))
    (let w = h.writer.window_cap in omega arith))

fits_ended_read :
    (x : Side) (w r : List ItemView) (g : FinSet nat_cmp) (item : ItemView) → Fits Ended x w r g →
    Fits Ended x w (r ++ item ∷ []) g
fits_ended_read A w r g item (inl new) = let wrote = new.0.1 in inr (omega (arith, length-one_more r item), omega arith)
fits_ended_read A w r g item (inr met) = inr (omega (arith, length-one_more r item), met.1)
fits_ended_read B w r g item met = (omega (arith, length-one_more r item), met.1)

-- what fits an end that may read fits it with more read
fits_read :
    (x : Side) (e : PlainEnd) (item : ItemView) → EndOk x e → (e.phase ≡ Open) ⊎ (e.phase ≡ Ended) →
    Fits e.phase x e.written (e.read ++ item ∷ []) e.arrived
fits_read x e item o may =
    let longer = length-one_more e.read item in
    let P : Phase → Type 0 = λ ph. Fits ph x e.written (e.read ++ item ∷ []) e.arrived in
    ⊎_elim
    (λ (at : e.phase ≡ Open). let met : HasMet e.written e.read = fits_at x e Open o at in subst P (sym at)
    (omega arith, met.1))
    (λ (at : e.phase ≡ Ended). subst P (sym at)
    (fits_ended_read x e.written e.read e.arrived item (fits_at x e Ended o at)))
    may

pub row_read : (x : Side) (e p f : PlainEnd) → EndHolds x e p → Read p e f → EndStep x e p f
row_read x e p f h r =
    let next = member_at p.written (length e.read) (h.reader.within (length e.read) r.1) in
    subst (EndStep x e p) (sym r.2)
    (subst (λ n. EndStep x e p (read_item n e)) (sym next.1)
    (step_read x e p next.0 h (fits_read x e next.0 h.ok r.0) r.1 next.1))

pub row_accept : (opn : ItemView) (x : Side) (e p f : PlainEnd) → EndHolds x e p → Accept opn p e f → EndStep x e p f
row_accept opn A e p f h r = absurd (fits_at A e RfcReceived h.ok r.0)
row_accept opn B e p f h r =
    let was : Fits RfcReceived B e.written e.read e.arrived = fits_at B e RfcReceived h.ok r.0 in
    let here : contains e.arrived (length e.read) ≡ true = rw was.0.0 was.1 in
    let rfc = member_at p.written (length e.read) (h.reader.within (length e.read) here) in
    let more_written = length-one_more e.written opn in
    let more_read = length-one_more e.read rfc.0 in
    let g : PlainEnd = record (read_item (Some rfc.0) e) { phase = Open; written = e.written ++ opn ∷ [] } in
    subst (EndStep B e p) (sym r.1)
    (subst (λ n. EndStep B e p (record (read_item n e) { phase = Open; written = e.written ++ opn ∷ [] })) (sym rfc.1)
    (record {
      after = record {
        writer = sound_written e p opn h.writer (omega (arith, h.ok.caps.0, was.0.1));
        reader = sound_read p e rfc.0 h.reader here rfc.1;
        ok = record {
          fits = (omega arith, omega arith);
          answered = h.ok.answered;
          calm = λ t. absurd (omega (arith, more_written));
          announces = announced_fits B e h.ok;
          caps = h.ok.caps;
        };
      };
      grows =
          let w = grows_written e opn in let s = grows_read e rfc.0 in grows_by e g w.written s.read (λ i t. t) refl
          refl;
    }))

pub row_resize : (window : ℕ) (x : Side) (e p f : PlainEnd) → EndHolds x e p → Resize window p e f → EndStep x e p f
row_resize window x e p f h r = subst (EndStep x e p) (sym r.2) (step_announced x e p window h r.0 r.1)

fits_closed :
    (phase : Phase) (x : Side) (w r : List ItemView) (g : FinSet nat_cmp) → phase ≢ Inactive → Fits phase x w r g →
    Fits Closed x w r g
fits_closed Inactive x w r g asked h = absurd (asked refl)
fits_closed RfcSent A w r g asked h = inl h.0
fits_closed RfcSent B w r g asked h = absurd h
fits_closed RfcReceived A w r g asked h = absurd h
fits_closed RfcReceived B w r g asked h = inl h.0
fits_closed Open x w r g asked h = inr h
fits_closed Ended A w r g asked h = ⊎_elim (λ (t : IsNew A w r × IsNone g). inl t.0) (λ (t : HasMet w r). inr t) h
fits_closed Ended B w r g asked h = inr h
fits_closed Closed x w r g asked h = h

pub row_close : (x : Side) (e p f : PlainEnd) → EndHolds x e p → Close p e f → EndStep x e p f
row_close x e p f h r =
    subst (EndStep x e p) (sym r.1)
    (step_phase x e p Closed h (fits_closed e.phase x e.written e.read e.arrived r.0 h.ok.fits)
    (announced_fits x e h.ok))

-- ---- time

fits_ended :
    (x : Side) (w r : List ItemView) (g : FinSet nat_cmp) → Fits RfcSent x w r g ⊎ Fits Open x w r g
    → Fits Ended x w r g
fits_ended A w r g h = h
fits_ended B w r g h = ⊎_elim (λ (t : ⊥). absurd t) (λ (t : HasMet w r). t) h

pub row_end : (x : Side) (e p f : PlainEnd) → EndHolds x e p → End p e f → EndStep x e p f
row_end x e p f h r =
    subst (EndStep x e p) (sym r.1)
    (step_phase x e p Ended h
    (fits_ended x e.written e.read e.arrived
    (⊎_elim (λ (t : e.phase ≡ RfcSent). inl (fits_at x e RfcSent h.ok t))
    (λ (t : e.phase ≡ Open). inr (fits_at x e Open h.ok t)) r.0))
    (announced_fits x e h.ok))

pub row_tick : (x : Side) (e p f : PlainEnd) → EndHolds x e p → Tick p e f → EndStep x e p f
row_tick x e p f h r = ⊎_elim (row_end x e p f h) (λ (t : f ≡ e). subst (EndStep x e p) (sym t) (step_same x e p h)) r

-- ---- copies that come

row_request :
    (c : Copy) (x : Side) (e p f : PlainEnd) (len : ℕ) → EndHolds x e p → KindOk c.kind p len → Request c p e f →
    EndStep x e p f
row_request c A e p f len h k r = absurd (fits_at A e Inactive h.ok r.1)
row_request c B e p f len h k r =
    let new : IsNew B e.written e.read × IsNone e.arrived = fits_at B e Inactive h.ok r.1 in
    let rfc : KindOk (Nth 0) p len = subst (λ kind. KindOk kind p len) r.0 k in
    let g : PlainEnd = record e { phase = RfcReceived; arrived = insert e.arrived 0 } in
    subst (EndStep B e p) (sym r.2)
    (record {
      after = record {
        writer = h.writer;
        reader = sound_arrived p e 0 h.reader rfc.0 (omega (arith, h.ok.caps.2));
        ok = record {
          fits = (
            new.0,
            contains-insert_same 0 e.arrived,
            λ j t. ⊎_elim (λ (u : j ≡ 0). u) (λ u. absurd (new.1 j u)) (contains-insert_cases 0 e.arrived j t),
          );
          answered =
              λ j t. ⊎_elim (λ (u : suc j ≡ 0). absurd (omega arith)) (h.ok.answered j)
              (contains-insert_cases 0 e.arrived (suc j) t);
          calm = h.ok.calm;
          announces = announces_at B e Inactive h.ok r.1;
          caps = h.ok.caps;
        };
      };
      grows = let s = grows_arrived e 0 in grows_by e g s.written s.read s.arrived refl refl;
    })

-- A is open, before it hears what the OPN tells
step_opened :
    (e p : PlainEnd) (len : ℕ) → EndHolds A e p → e.phase ≡ RfcSent → KindOk (Nth 0) p len →
    EndStep A e p (read_next p (record e { phase = Open; arrived = insert e.arrived 0 }))
step_opened e p len h at k =
    let new : IsNew A e.written e.read × IsNone e.arrived = fits_at A e RfcSent h.ok at in
    let opn = member_at p.written (length e.read) (omega (arith, k.0)) in
    let f : PlainEnd = record e { phase = Open; arrived = insert e.arrived 0 } in
    let longer = length-one_more e.read opn.0 in
    let here : contains (insert e.arrived 0) (length e.read) ≡ true = rw new.0.0 (contains-insert_same 0 e.arrived) in
    subst (λ n. EndStep A e p (read_item n f)) (sym opn.1)
    (record {
      after = record {
        writer = h.writer;
        reader = sound_read p f opn.0 (sound_arrived p e 0 h.reader k.0 (omega (arith, h.ok.caps.2))) here opn.1;
        ok = record {
          fits = (omega arith, omega arith);
          answered =
              λ j t. ⊎_elim (λ (u : suc j ≡ 0). absurd (omega arith)) (h.ok.answered j)
              (contains-insert_cases 0 e.arrived (suc j) t);
          calm = h.ok.calm;
          announces = announced_fits A e h.ok;
          caps = h.ok.caps;
        };
      };
      grows =
          let s = grows_arrived e 0 in let t = grows_read e opn.0 in grows_by e (read_item (Some opn.0) f) s.written
          t.read s.arrived refl refl;
    })

row_opened :
    (c : Copy) (x : Side) (e p f : PlainEnd) (len_p len_e : ℕ) → EndHolds x e p → CopyOk c p e len_p len_e
    → Opened c p e f →
    EndStep x e p f
row_opened c B e p f len_p len_e h k r = absurd (fits_at B e RfcSent h.ok r.1)
row_opened c A e p f len_p len_e h k r =
    let new : IsNew A e.written e.read × IsNone e.arrived = fits_at A e RfcSent h.ok r.1 in
    let g : PlainEnd = read_next p (record e { phase = Open; arrived = insert e.arrived 0 }) in
    let s = step_opened e p len_p h r.1 (subst (λ kind. KindOk kind p len_p) r.0 k.kind_ok) in
    let wrote : 1 ≤ length g.written = omega (arith, s.grows.written_more, new.0.1) in
    subst (EndStep A e p) (sym r.2)
    (step_through A e p g (hear c.told g) s
    (step_heard c.told A g p len_e s.after (told_later c.told p p e g len_e (grows_same p) s.grows k.told_ok) wrote))

-- what comes after item 0 tells at least one, so it leaves a receipt
hear_met : (i : ℕ) (told : Told) (e : PlainEnd) → TellsMet (Nth i) told → 1 ≤ i → 1 ≤ (hear told e).receipted
hear_met zero told e m l = absurd (omega arith)
hear_met (suc i) Nothing e m l = absurd m
hear_met (suc i) (Acknowledges a) e m l = omega arith
hear_met (suc i) (Status a r w) e m l = absurd m

row_arrive :
    (c : Copy) (x : Side) (e p f : PlainEnd) (len_p len_e : ℕ) → EndHolds x e p → CopyOk c p e len_p len_e
    → Arrive c p e f →
    EndStep x e p f
row_arrive c x e p f len_p len_e h k r =
    let met : HasMet e.written e.read = fits_at x e Open h.ok r.0 in
    let item : KindOk (Nth r.1) p len_p = subst (λ kind. KindOk kind p len_p) r.2 k.kind_ok in
    let tells : TellsMet (Nth r.1) c.told = subst (λ kind. TellsMet kind c.told) r.2 k.met in
    let s = step_heard c.told x e p len_e h k.told_ok met.1 in
    subst (EndStep x e p) (sym r.3)
    (step_through x e p (hear c.told e) (take_in r.1 (hear c.told e)) s
    (step_took_in x (hear c.told e) p r.1 s.after (hear_phase c.told e ∙ r.0) item.0 (hear_met r.1 c.told e tells)))

row_control :
    (c : Copy) (x : Side) (e p f : PlainEnd) (len_p len_e : ℕ) → EndHolds x e p → CopyOk c p e len_p len_e
    → Control c p e f →
    EndStep x e p f
row_control c x e p f len_p len_e h k r =
    let met : HasMet e.written e.read = fits_at x e Open h.ok r.0 in
    subst (EndStep x e p) (sym r.2) (step_heard c.told x e p len_e h k.told_ok met.1)

pub row_comes :
    (c : Copy) (x : Side) (e p f : PlainEnd) (len_p len_e : ℕ) → EndHolds x e p → CopyOk c p e len_p len_e
    → Comes c p e f →
    EndStep x e p f
row_comes c x e p f len_p len_e h k (inl r) = row_request c x e p f len_p h k.kind_ok r
row_comes c x e p f len_p len_e h k (inr (inl r)) = row_opened c x e p f len_p len_e h k r
row_comes c x e p f len_p len_e h k (inr (inr (inl r))) = row_arrive c x e p f len_p len_e h k r
row_comes c x e p f len_p len_e h k (inr (inr (inr (inl r)))) = row_control c x e p f len_p len_e h k r
row_comes c x e p f len_p len_e h k (inr (inr (inr (inr r)))) = row_end x e p f h r.1
