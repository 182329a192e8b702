-- A call at either end keeps the tie of the laboratory.
use Rattle.std.proofs.Common.{◌≡◌, ℕ, List, ◌++◌, length, map, Option, Some, None, refl, sym, ap, ◌∙◌, subst, inl, inr, ◌⊎◌}
use Rattle.std.specs.List.{All}
use Rattle.chaos_packet.specs.Item.{ItemView}
use Rattle.chaos_conn.specs.declared.fault.ConnFault.{ConnFault}
use Rattle.chaos_conn.specs.View.{ConnView}
use Rattle.chaos_conn.specs.Acted.{Acted, map_answer}
use Rattle.chaos_conn.specs.Act.{Call, Reply, act}
use Rattle.chaos_lab.specs.declared.side.Side.{Side}
use Rattle.chaos_lab.specs.declared.side.Side.TheVariants.{A, B}
use Rattle.chaos_lab.specs.declared.fault.LabFault.{LabFault}
use Rattle.chaos_lab.specs.declared.fault.LabFault.TheVariants as fault
use Rattle.chaos_lab.specs.Machine.{PlainEnd as Plain, Copy, Machine, Event, other, end_of, with_end, IsSent, Step}
use Rattle.chaos_lab.specs.Shown.{Stands, HasItems, Leaves}
use Rattle.chaos_lab.specs.Laboratory.{LabView, Done, lab_end, stamp, after_call, call_effect, refusal, refusal_of, with_written, with_read, first_after, asked_after}
use Rattle.chaos_lab.specs.Tied.{Tied, Ties, AskedFits}
use Rattle.chaos_lab.proofs.Items.{SameNew}
use Rattle.chaos_lab.proofs.TiedOn.{on_a, on_b}

abbrev pub conn_at : LabView → Side → ConnView
conn_at l x = (lab_end l x).conn

abbrev pub first_at : LabView → Side → ℕ
first_at l x = (lab_end l x).first

-- ---- what is tied at either end

pub stands_at : (x : Side) (w : Machine) (l : LabView) → Ties w l
    → Stands x (first_at l x) (first_at l (other x)) (end_of w (other x)) (end_of w x) (conn_at l x)
stands_at A w l t = t.tied.a
stands_at B w l t = t.tied.b

pub items_at : (x : Side) (w : Machine) (l : LabView) → Ties w l → HasItems x (first_at l (other x)) (end_of w x)
items_at A w l t = t.tied.items_a
items_at B w l t = t.tied.items_b

pub written_at : (x : Side) (w : Machine) (l : LabView) → Ties w l → (lab_end l x).written ≡ (end_of w x).written
written_at A w l t = t.written_a
written_at B w l t = t.written_b

pub read_at : (x : Side) (w : Machine) (l : LabView) → Ties w l → (lab_end l x).read ≡ (end_of w x).read
read_at A w l t = t.read_a
read_at B w l t = t.read_b

pub asked_keeps : (x : Side) (w : Machine) (l : LabView) (f : Plain) → Ties w l → SameNew (end_of w x) f
    → AskedFits l.asked (end_of (with_end w x f) B).phase
asked_keeps A w l f t s = t.asked
asked_keeps B w l f t s = record { new = λ h. s.new (t.asked.new h); old = λ h i. t.asked.old h (s.old i) }

module _ {R : Type 0} where
  pub renamed : (named : R → Reply) (x : Side) (b b' : ℕ) (p e : Plain) (acted : Acted R) → Leaves x b b' p e acted
      → Leaves x b b' p e (map_answer named acted)
  renamed named x b b' p e acted k = record { rest = k.rest; ended = k.ended; view = k.view; packets = k.packets }

-- ---- a call

-- it leaves what stands for e, by a step of the plain machine, and both lists become those of e
pub record KeepsTie (x : Side) (w : Machine) (l : LabView) (call : Call) (event : Event) (e : Plain) : Type 0 where
  pub leaves : Leaves x (first_at l x) (first_at l (other x)) (end_of w (other x)) e (act (conn_at l x) call)
  pub step : (sent : List Copy) → All (IsSent (with_end w x e) x) sent
      → Step w event (record (with_end w x e) { copies = w.copies ++ sent })
  pub more : List ItemView
  pub longer : e.written ≡ (end_of w x).written ++ more
  pub items : HasItems x (first_at l (other x)) e
  pub wrote : with_written call (act (conn_at l x) call).packets (lab_end l x).written ≡ e.written
  pub got : with_read (conn_at l x) call (act (conn_at l x) call).answer (lab_end l x).read ≡ e.read
  pub first : first_after (first_at l x) call ≡ first_at l x
  pub asked : AskedFits (asked_after l.asked call) (end_of (with_end w x e) B).phase

-- the plain machine made this step, and the laboratory is tied to what it made
pub record Stepped (w : Machine) (event : Event) (l : LabView) : Type 0 where
  pub machine : Machine
  pub step : Step w event machine
  pub ties : Ties machine l

pub ties_on : (x : Side) (w : Machine) (l : LabView) (call : Call) (event : Event) (e : Plain) → Ties w l
    → KeepsTie x w l call event e → Stepped w event (after_call l x call)
ties_on A w l call event e t k =
    let acted = act l.a.conn call in
    let r =
    on_a l.a.first l.b.first w l.a.conn l.b.conn l.copies event e k.more acted t.tied k.leaves k.step k.longer
    k.items in
    record {
      machine = r.0;
      step = r.1;
      ties = record {
        tied =
            subst
            (λ (z : ℕ × ℕ × ℕ). Tied z.0 l.b.first r.0 acted.view l.b.conn
            (l.copies ++ map (stamp A z.1 z.2) acted.packets))
            (λ j. (sym k.first j, sym (ap length k.wrote) j, sym (ap length t.written_b) j)) r.2;
        written_a = k.wrote ∙ sym (ap (λ f. f.written) r.3);
        written_b = t.written_b ∙ sym (ap (λ f. f.written) r.4);
        read_a = k.got ∙ sym (ap (λ f. f.read) r.3);
        read_b = t.read_b ∙ sym (ap (λ f. f.read) r.4);
        asked = subst (AskedFits (asked_after l.asked call)) (sym (ap (λ f. f.phase) r.4)) k.asked;
      };
    }
ties_on B w l call event e t k =
    let acted = act l.b.conn call in
    let r =
    on_b l.a.first l.b.first w l.a.conn l.b.conn l.copies event e k.more acted t.tied k.leaves k.step k.longer
    k.items in
    record {
      machine = r.0;
      step = r.1;
      ties = record {
        tied =
            subst
            (λ (z : ℕ × ℕ × ℕ). Tied l.a.first z.0 r.0 l.a.conn acted.view
            (l.copies ++ map (stamp B z.1 z.2) acted.packets))
            (λ j. (sym k.first j, sym (ap length t.written_a) j, sym (ap length k.wrote) j)) r.2;
        written_a = t.written_a ∙ sym (ap (λ f. f.written) r.3);
        written_b = k.wrote ∙ sym (ap (λ f. f.written) r.4);
        read_a = t.read_a ∙ sym (ap (λ f. f.read) r.3);
        read_b = k.got ∙ sym (ap (λ f. f.read) r.4);
        asked = subst (AskedFits (asked_after l.asked call)) (sym (ap (λ f. f.phase) r.4)) k.asked;
      };
    }

-- ---- an event

-- it was refused and changed nothing, or the plain machine made its step
pub data Outcome (w : Machine) (event : Event) (l : LabView) (done : Done) : Type 0 where
  Refuses : (why : LabFault) → done ≡ refusal l why → Outcome w event l done
  Steps : Stepped w event done.lab → Outcome w event l done

-- why the call was refused, where it was
abbrev pub refusal_at : LabView → Side → Call → Option ConnFault
refusal_at l x call = refusal_of (act (conn_at l x) call).answer

settle_by : (o : Option ConnFault) (x : Side) (w : Machine) (l : LabView) (call : Call) (event : Event)
    → refusal_at l x call ≡ o
    → ((why : ConnFault) × (refusal_at l x call ≡ Some why)) ⊎ Stepped w event (after_call l x call)
    → Outcome w event l (call_effect l x call o)
settle_by (Some why) x w l call event is h = Refuses (fault.Refused why) refl
settle_by None x w l call event is (inl r) = let no : None ≡ Some r.0 = sym is ∙ r.1 in absurd (cc)
settle_by None x w l call event is (inr s) = Steps s

pub settle : (x : Side) (w : Machine) (l : LabView) (call : Call) (event : Event)
    → ((why : ConnFault) × (refusal_at l x call ≡ Some why)) ⊎ Stepped w event (after_call l x call)
    → Outcome w event l (call_effect l x call (refusal_at l x call))
settle x w l call event h = settle_by (refusal_at l x call) x w l call event refl h
