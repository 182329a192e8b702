-- An open end's view, and the status that it sends.
use Rattle.std.proofs.Common.{◌≡◌, ℕ, ◌+◌, ◌*◌, ◌/◌, ◌%◌, ◌≤◌, [], ◌∷◌, length, true, ltb, Some, refl, sym, ap, ◌∙◌, subst, inr, arith}
use Rattle.std.proofs.lemmas.Bool.{cond-true, lt-ltb}
use Rattle.std.proofs.lemmas.List.Elements.{All-push, All-nil}
use Rattle.std.specs.FinSet.{contains}
use Rattle.chaos_lab.specs.declared.side.Side.{Side}
use Rattle.chaos_lab.specs.declared.side.Side.TheVariants.{A, B}
use Rattle.chaos_lab.specs.Machine.{PlainEnd as Plain}
use Rattle.chaos_lab.specs.Machine.Phase.{Open}
use Rattle.chaos_lab.specs.Machine.Kind.{Sts}
use Rattle.chaos_lab.specs.Machine.Told.{Status}
use Rattle.chaos_conn.specs.declared.state.State.{State}
use Rattle.chaos_conn.specs.declared.state.State.TheVariants as st
use Rattle.chaos_lab.specs.Machine.{Phase}
use Rattle.chaos_lab.proofs.Directions.{Sound, first_missing}
use Rattle.chaos_lab.proofs.Ends.{EndOk, Fits, HasMet}
use Rattle.chaos_packet.specs.Words.{halves}
use Rattle.chaos_packet.specs.Packet.{status_words}
use Rattle.chaos_window.specs.Send.{clear_send}
use Rattle.chaos_window.specs.Receive.{started_receive, receipt_of}
use Rattle.chaos_conn.specs.Acted.{quietly}
use Rattle.chaos_conn.specs.Sending.{with_sts, sts_of}
use Rattle.chaos_conn.specs.State.{is_ended}
use Rattle.chaos_lab.specs.Shown.{Rest, send_view, recv_view, index_of, shown_in, shown_at, shown, met_view, IsPut, Leaves}
use Rattle.chaos_lab.proofs.RecvTie.{receipt_is}

pub index_met : (x : Side) (e : Plain) → 1 ≤ length e.read → index_of x (length e.read) ≡ Some 1
index_met A e h = cond-true _ _ _ (lt-ltb 0 (length e.read) (omega arith))
index_met B e h = refl

pub in_met : (state : State) (x : Side) (rest : Rest) (b b' : ℕ) (p e : Plain) → HasMet e.written e.read
    → contains e.arrived 0 ≡ true → shown_in state x rest b b' p e ≡ met_view state x rest b b' p e
in_met state x rest b b' p e met here =
    let wrote : ltb 0 (length e.written) ≡ true = lt-ltb 0 (length e.written) (omega (arith, met.1)) in
    λ i. record (met_view state x rest b b' p e) {
      peer_index = index_met x e met.0 i;
      send = cond-true _ (send_view b e) (clear_send e.send_cap) wrote i;
      recv = cond-true _ (recv_view b' p e) (started_receive e.recv_cap 0) here i;
    }

-- what an open end knows
pub record IsOpen (p e : Plain) : Type 0 where
  pub phase : e.phase ≡ Open
  pub met : HasMet e.written e.read
  pub reader : Sound p e

pub is_open : (x : Side) (p e : Plain) → e.phase ≡ Open → EndOk x e → Sound p e → IsOpen p e
is_open x p e at o d =
    record { phase = at; met = subst (λ (ph : Phase). Fits ph x e.written e.read e.arrived) at o.fits; reader = d }

pub open_is : (x : Side) (rest : Rest) (b b' : ℕ) (p e : Plain) → IsOpen p e
    → shown x rest b b' p e ≡ met_view st.Open x rest b b' p e
open_is x rest b b' p e h =
    ap (λ ph. shown_at ph x rest b b' p e) h.phase ∙ in_met st.Open x rest b b' p e h.met (h.reader.front 0 h.met.0)

word_of_bytes : (w : ℕ) → w % 256 + 256 * (w / 256) ≡ w
word_of_bytes w = omega arith

pub status_of_words : (r w : ℕ) → status_words (halves (r ∷ w ∷ [])) ≡ Some (r, w)
status_of_words r w = λ i. Some (word_of_bytes r i, word_of_bytes w i)

pub sts_put : (state : State) (x : Side) (rest : Rest) (b b' : ℕ) (p e : Plain) → Sound p e → 1 ≤ length e.read
    → IsPut x b b' e (sts_of (met_view state x rest b b' p e))
sts_put state x rest b b' p e d read =
    let first = first_missing p e d in
    record {
      kind = Sts;
      told = Status (length e.read) first.0 e.announced;
      may = tt;
      met = λ _. inr read;
      tells = (first.0, first.1, refl);
      stands = record {
        header = record { dst = refl; dst_index = refl; src = refl; src_index = refl };
        what = (refl, refl);
        tells =
            (refl, status_of_words (receipt_of (recv_view b' p e)) e.announced ∙ (λ i. Some (receipt_is b' first.0 p e d first.1 i, e.announced)));
      };
    }

module _ {R : Type 0} where
  pub leaves_quiet : (answer : R) (x : Side) (rest : Rest) (b b' : ℕ) (p e : Plain) → is_ended rest.ended ≡ true
      → IsOpen p e → Leaves x b b' p e (quietly (met_view st.Open x rest b b' p e) answer)
  leaves_quiet answer x rest b b' p e end h =
      record { rest = rest; ended = end; view = sym (open_is x rest b b' p e h); packets = All-nil _ }

  pub leaves_sts : (answer : R) (x : Side) (rest : Rest) (b b' : ℕ) (p e : Plain) → is_ended rest.ended ≡ true
      → IsOpen p e → Leaves x b b' p e (with_sts (met_view st.Open x rest b b' p e) answer)
  leaves_sts answer x rest b b' p e end h =
      record {
        rest = record rest { untold = 0 };
        ended = end;
        view = sym (open_is x (record rest { untold = 0 }) b b' p e h);
        packets =
            All-push (IsPut x b b' e) [] (sts_of (met_view st.Open x rest b b' p e)) (All-nil _)
            (sts_put st.Open x rest b b' p e h.reader h.met.0);
      }
