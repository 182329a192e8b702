-- What holds of one end in every reached machine, and the changes of one end that keep it.
use Rattle.std.proofs.Common.{◌≡◌, ℕ, suc, ◌+◌, ◌<◌, ◌≤◌, List, [], ◌∷◌, ◌++◌, length, true, ◌&&◌, leb, ltb, Some, refl, sym, subst, ◌⊎◌, ⊎_elim, arith}
use Rattle.std.specs.Prelude.{slice_get}
use Rattle.std.proofs.lemmas.Bool.{cond_both, and_parts, ltb-true}
use Rattle.std.specs.Ordering.{nat_cmp}
use Rattle.std.specs.FinSet.{FinSet, contains, insert}
use Rattle.chaos_lab.specs.declared.side.Side.{Side}
use Rattle.chaos_lab.specs.declared.side.Side.TheVariants.{A, B}
use Rattle.chaos_packet.specs.Item.{ItemView}
use Rattle.chaos_lab.specs.Machine.{PlainEnd, Phase, Told, AreCaps, take_in, hear}
use Rattle.chaos_lab.specs.Machine.Told.{Nothing, Acknowledges, Status}
use Rattle.chaos_lab.specs.Machine.Phase.{Inactive, RfcSent, RfcReceived, Open, Ended, Closed}
use Rattle.chaos_lab.proofs.Lists.{contains-insert_cases, length-one_more}
use Rattle.chaos_lab.proofs.Directions.{Sound, sound_acknowledges, sound_status, sound_written, sound_arrived, sound_read}
use Rattle.chaos_lab.proofs.Grows.{Grows, grows_same, grows_through, grows_written, grows_read, grows_arrived, grows_heard, grows_by}
use Rattle.chaos_lab.proofs.Copies.{ToldOk}

-- ---- what fits each phase

-- it hasn't met the peer yet: A wrote its RFC, and B nothing
abbrev pub IsNew : Side → List ItemView → List ItemView → Type 0
IsNew A written read = (length read ≡ 0) × (length written ≡ 1)
IsNew B written read = (length read ≡ 0) × (length written ≡ 0)

-- it has met the peer
abbrev pub HasMet : List ItemView → List ItemView → Type 0
HasMet written read = (1 ≤ length read) × (1 ≤ length written)

-- nothing has arrived
abbrev pub IsNone : FinSet nat_cmp → Type 0
IsNone g = (i : ℕ) → contains g i ≡ true → ⊥

abbrev pub Fits : Phase → Side → List ItemView → List ItemView → FinSet nat_cmp → Type 0
Fits Inactive A w r g = ⊥
Fits Inactive B w r g = IsNew B w r × IsNone g
Fits RfcSent A w r g = IsNew A w r × IsNone g
Fits RfcSent B w r g = ⊥
Fits RfcReceived A w r g = ⊥
Fits RfcReceived B w r g = IsNew B w r × (contains g 0 ≡ true) × ((i : ℕ) → contains g i ≡ true → i ≡ 0)
Fits Open x w r g = HasMet w r
Fits Ended A w r g = (IsNew A w r × IsNone g) ⊎ HasMet w r
Fits Ended B w r g = HasMet w r
Fits Closed x w r g = IsNew x w r ⊎ HasMet w r

-- the window that it announces is the greatest one, until it is open
abbrev pub Announces : Phase → ℕ → ℕ → Type 0
Announces Inactive window cap = window ≡ cap
Announces RfcSent window cap = window ≡ cap
Announces RfcReceived window cap = window ≡ cap
Announces _ window cap = window ≤ cap

pub announces_most : (phase : Phase) (window cap : ℕ) → Announces phase window cap → window ≤ cap
announces_most Inactive window cap h = omega arith
announces_most RfcSent window cap h = omega arith
announces_most RfcReceived window cap h = omega arith
announces_most Open window cap h = h
announces_most Ended window cap h = h
announces_most Closed window cap h = h

pub record EndOk (x : Side) (e : PlainEnd) : Type 0 where
  pub fits : Fits e.phase x e.written e.read e.arrived
  -- what comes after item 0 tells that the peer has met this end
  pub answered : (i : ℕ) → contains e.arrived (suc i) ≡ true → 1 ≤ e.receipted
  -- before it writes, its window is as at the start
  pub calm : length e.written ≡ 0 → e.window ≡ e.send_cap
  pub announces : Announces e.phase e.announced e.recv_cap
  pub caps : AreCaps (record { send = e.send_cap; recv = e.recv_cap })

-- the end e at the side x, with its peer p
pub record EndHolds (x : Side) (e p : PlainEnd) : Type 0 where
  pub writer : Sound e p
  pub reader : Sound p e
  pub ok : EndOk x e

-- e goes on to f
pub record EndStep (x : Side) (e p f : PlainEnd) : Type 0 where
  pub after : EndHolds x f p
  pub grows : Grows e f

pub step_same : (x : Side) (e p : PlainEnd) → EndHolds x e p → EndStep x e p e
step_same x e p h = record { after = h; grows = grows_same e }

pub step_through : (x : Side) (e p f g : PlainEnd) → EndStep x e p f → EndStep x f p g → EndStep x e p g
step_through x e p f g s t = record { after = t.after; grows = grows_through e f g s.grows t.grows }

-- what fits an end in this phase
pub fits_at : (x : Side) (e : PlainEnd) (phase : Phase) → EndOk x e → e.phase ≡ phase
    → Fits phase x e.written e.read e.arrived
fits_at x e phase o at = subst (λ ph. Fits ph x e.written e.read e.arrived) at o.fits

-- the window that an end in this phase announces
pub announces_at : (x : Side) (e : PlainEnd) (phase : Phase) → EndOk x e → e.phase ≡ phase
    → Announces phase e.announced e.recv_cap
announces_at x e phase o at = subst (λ ph. Announces ph e.announced e.recv_cap) at o.announces

pub announced_fits : (x : Side) (e : PlainEnd) → EndOk x e → e.announced ≤ e.recv_cap
announced_fits x e o = announces_most e.phase e.announced e.recv_cap o.announces

-- ---- the phase alone changes

pub step_phase :
    (x : Side) (e p : PlainEnd) (phase : Phase) → EndHolds x e p → Fits phase x e.written e.read e.arrived →
    Announces phase e.announced e.recv_cap → EndStep x e p (record e { phase = phase })
step_phase x e p phase h fits announces =
    record {
      after = record {
        writer = h.writer;
        reader = h.reader;
        ok =
            record { fits = fits; answered = h.ok.answered; calm = h.ok.calm; announces = announces; caps = h.ok.caps };
      };
      grows = let g = grows_same e in grows_by e (record e { phase = phase }) g.written g.read (λ i t. t) refl refl;
    }

-- ---- the end hears what its peer tells

pub step_heard :
    (told : Told) (x : Side) (e p : PlainEnd) (len : ℕ) → EndHolds x e p → ToldOk told p e len → 1 ≤ length e.written →
    EndStep x e p (hear told e)
step_heard Nothing x e p len h t wrote = step_same x e p h
step_heard (Acknowledges a) x e p len h t wrote =
    record {
      after = record {
        writer = sound_acknowledges e p a h.writer t.0;
        reader = h.reader;
        ok = record {
          fits = h.ok.fits;
          answered = λ i u. let r = h.ok.answered i u in omega arith;
          calm = λ u. absurd (omega arith);
          announces = h.ok.announces;
          caps = h.ok.caps;
        };
      };
      grows = grows_heard (Acknowledges a) e;
    }
step_heard (Status a r w) x e p len h t wrote =
    record {
      after = record {
        writer = sound_status e p a r w h.writer t.0 t.2;
        reader = h.reader;
        ok = record {
          fits = h.ok.fits;
          answered = λ i u. let r = h.ok.answered i u in omega arith;
          calm = λ u. absurd (omega arith);
          announces = h.ok.announces;
          caps = h.ok.caps;
        };
      };
      grows = grows_heard (Status a r w) e;
    }

pub hear_phase : (told : Told) (e : PlainEnd) → (hear told e).phase ≡ e.phase
hear_phase Nothing e = refl
hear_phase (Acknowledges a) e = refl
hear_phase (Status a r w) e = refl

-- ---- an open end announces another window

pub step_announced :
    (x : Side) (e p : PlainEnd) (window : ℕ) → EndHolds x e p → e.phase ≡ Open → window ≤ e.recv_cap →
    EndStep x e p (record e { announced = window })
step_announced x e p window h is_open most =
    record {
      after = record {
        writer = h.writer;
        reader = h.reader;
        ok = record {
          fits = h.ok.fits;
          answered = h.ok.answered;
          calm = h.ok.calm;
          announces = subst (λ ph. Announces ph window e.recv_cap) (sym is_open) most;
          caps = h.ok.caps;
        };
      };
      grows =
          let g = grows_same e in grows_by e (record e { announced = window }) g.written g.read (λ i t. t) refl refl;
    }

-- ---- an item comes to an open end

pub step_took_in :
    (x : Side) (e p : PlainEnd) (i : ℕ) → EndHolds x e p → e.phase ≡ Open → i < length p.written
    → (1 ≤ i → 1 ≤ e.receipted) →
    EndStep x e p (take_in i e)
step_took_in x e p i h is_open within told =
    cond_both (leb (length e.read) i && ltb i (length e.read + e.announced)) (record e { arrived = insert e.arrived i })
    e (EndStep x e p)
    (λ t.
    let most = announced_fits x e h.ok in
    let inside : i < length e.read + e.announced =
    ltb-true i (length e.read + e.announced)
    (and_parts (leb (length e.read) i) (ltb i (length e.read + e.announced)) t).1 in
    record {
      after = record {
        writer = h.writer;
        reader = sound_arrived p e i h.reader within (omega arith);
        ok = record {
          fits =
              subst (λ ph. Fits ph x e.written e.read (insert e.arrived i)) (sym is_open)
              (fits_at x e Open h.ok is_open);
          answered =
              λ j t. ⊎_elim (λ (u : suc j ≡ i). told (omega arith)) (h.ok.answered j)
              (contains-insert_cases i e.arrived (suc j) t);
          calm = h.ok.calm;
          announces = h.ok.announces;
          caps = h.ok.caps;
        };
      };
      grows = grows_arrived e i;
    })
    (λ _. step_same x e p h)

-- ---- its user reads an item, or writes one

pub step_read :
    (x : Side) (e p : PlainEnd) (item : ItemView) → EndHolds x e p
    → Fits e.phase x e.written (e.read ++ item ∷ []) e.arrived →
    contains e.arrived (length e.read) ≡ true → slice_get p.written (length e.read) ≡ Some item →
    EndStep x e p (record e { read = e.read ++ item ∷ [] })
step_read x e p item h fits here is =
    record {
      after = record {
        writer = let d = h.writer in record {
          begins = d.begins;
          within = d.within;
          inside = d.inside;
          front = d.front;
          acked_read = d.acked_read;
          in_order = d.in_order;
          receipted_arrived = d.receipted_arrived;
          room = d.room;
          window_cap = d.window_cap;
        };
        reader = sound_read p e item h.reader here is;
        ok =
            record { fits = fits; answered = h.ok.answered; calm = h.ok.calm; announces = h.ok.announces; caps = h.ok.caps };
      };
      grows = grows_read e item;
    }

pub step_written :
    (x : Side) (e p : PlainEnd) (item : ItemView) → EndHolds x e p
    → Fits e.phase x (e.written ++ item ∷ []) e.read e.arrived →
    length e.written < e.acknowledged + e.send_cap → EndStep x e p (record e { written = e.written ++ item ∷ [] })
step_written x e p item h fits room =
    let longer = length-one_more e.written item in
    record {
      after = record {
        writer = sound_written e p item h.writer room;
        reader = h.reader;
        ok =
            record { fits = fits; answered = h.ok.answered; calm = λ t. absurd (omega arith); announces = h.ok.announces; caps = h.ok.caps };
      };
      grows = grows_written e item;
    }
