-- What is known where a fresh copy comes to an end.
use Rattle.std.proofs.Common.{◌≡◌, ℕ, ◌+◌, ◌<◌, ◌≤◌, length, ◌&&◌, leb, ltb, Some, refl, arith}
use Rattle.std.specs.Prelude.{slice_get, ⊤}
use Rattle.std.specs.FinSet.{insert}
use Rattle.std.proofs.lemmas.Bool.{cond_both}
use Rattle.chaos_lab.specs.declared.side.Side.{Side}
use Rattle.chaos_lab.specs.declared.side.Side.TheVariants.{A, B}
use Rattle.chaos_lab.specs.Machine.{PlainEnd as Plain}
use Rattle.chaos_lab.specs.Machine.Kind.{Nth, Cls}
use Rattle.chaos_lab.specs.Machine.Told.{Nothing, Acknowledges, Status}
use Rattle.chaos_lab.specs.Machine.{Kind, Told, other, hear, take_in}
use Rattle.chaos_lab.proofs.Directions.{Sound}
use Rattle.chaos_lab.proofs.Ends.{EndOk}
use Rattle.chaos_lab.proofs.Copies.{KindOk}
use Rattle.chaos_packet.specs.Item.{ItemView}
use Rattle.chaos_window.specs.Receive.{after_arrival}
use Rattle.chaos_packet.specs.Number.{num}
use Rattle.chaos_lab.specs.Shown.{recv_view, HasItems}
use Rattle.chaos_lab.proofs.SendTie.{read_within}
use Rattle.chaos_lab.proofs.RecvTie.{arrived_is, took_in_before}

-- a CLS that comes to B was sent by an open A, so B has written its OPN
abbrev pub ComesLate : Side → Kind → Plain → Type 0
ComesLate B Cls e = 1 ≤ length e.written
ComesLate x kind e = ⊤

-- x: the side that it comes to, whose end is e, with first number b; its peer p has first number b'
pub record Known (x : Side) (b b' : ℕ) (e p : Plain) (len_e len_p : ℕ) : Type 0 where
  pub writer : Sound e p
  pub reader : Sound p e
  pub ok : EndOk x e
  pub peer_most : p.send_cap ≤ 64
  pub fresh_e : length e.written < len_e + 32640
  pub fresh_p : length p.written < len_p + 32640
  pub items : HasItems (other x) b p

pub other_other : (x : Side) → other (other x) ≡ x
other_other A = refl
other_other B = refl

-- ---- what hearing keeps

pub took_phase : (i : ℕ) (e : Plain) → (take_in i e).phase ≡ e.phase
took_phase i e =
    cond_both (leb (length e.read) i && ltb i (length e.read + e.announced)) (record e { arrived = insert e.arrived i })
    e (λ (f : Plain). f.phase ≡ e.phase) (λ _. refl) (λ _. refl)

pub took_first : (told : Told) (e : Plain) → 1 ≤ length e.read → take_in 0 (hear told e) ≡ hear told e
took_first Nothing e h = took_in_before 0 e (omega arith)
took_first (Acknowledges r) e h = took_in_before 0 (hear (Acknowledges r) e) (omega arith)
took_first (Status r f w) e h = took_in_before 0 (hear (Status r f w) e) (omega arith)

-- ---- item i of the peer p comes to e, which has heard what it tells

pub item_arrives : (b i r : ℕ) (item : ItemView) (e p : Plain) (len : ℕ) → Sound p e → p.send_cap ≤ 64 → e.recv_cap ≤ 64
    → e.announced ≤ e.recv_cap → KindOk (Nth i) p len → length p.written < len + 32640
    → slice_get p.written i ≡ Some item
    → after_arrival (recv_view b p (hear (Acknowledges r) e)) (num b i) item
    ≡ recv_view b p (take_in i (hear (Acknowledges r) e))
item_arrives b i r item e p len d most cap fits h fresh at =
    let within = read_within e p d in
    arrived_is b i item p (hear (Acknowledges r) e) at h.0 (omega (arith, d.room, d.acked_read)) within
    (omega (arith, h.1)) cap fits
