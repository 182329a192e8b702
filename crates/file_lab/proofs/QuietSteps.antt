-- An event that is none of B's server leaves what B's server read and wrote.
use Rattle.std.proofs.Common.{◌≡◌, ℕ, List, [], ◌∷◌, ◌++◌, length, false, Option, Some, None, Result, Ok, Err, IfOk, OnErr, refl, sym, ap, ◌∙◌, subst, inl, inr}
use Rattle.std.specs.Prelude.{slice_get}
use Rattle.std.proofs.lemmas.Bool.{cond_both, false≢true}
use Rattle.std.specs.Prelude.{nat_le, nat_lt, ◌&&◌, ◌+◌}
use Rattle.std.specs.FinSet.{insert}
use Rattle.std.proofs.lemmas.List.{append-nil}
use Rattle.chaos_packet.specs.Item.{ItemView}
use Rattle.chaos_packet.specs.Opcode.{kind_of}
use Rattle.chaos_lab.specs.declared.side.Side.{Side}
use Rattle.chaos_lab.specs.declared.side.Side.TheVariants.{A, B}
use Rattle.chaos_lab.specs.declared.event.Stepped.{Stepped}
use Rattle.chaos_lab.specs.declared.fault.LabFault.{LabFault}
use Rattle.chaos_lab.specs.Machine.{PlainEnd as Plain, Told, Copy, Machine, Row, other, Step, Moves, OrNothing, Reached, Accept, Write, Read, Comes, Tick, Resize, Close, End, hear, take_in, read_item, read_next}
use Rattle.chaos_lab.specs.Machine.Phase.{RfcSent, RfcReceived}
use Rattle.chaos_lab.specs.Machine.Told.{Nothing, Acknowledges, Status}
use Rattle.chaos_lab.specs.Laboratory.{LabView, Happening}
use Rattle.chaos_lab.specs.Laboratory.Happening.{WriteBy, ReadBy, AnnounceBy, TickOf, CloseBy, AcceptFrom, DeliverCopy}
use Rattle.chaos_lab.specs.Tied.{Ties, HasMachine, plain_event}
use Rattle.file_lab.specs.Bodies.{with_body, data_bodies}
use Rattle.file_lab.specs.Events.{is_by_server}
use Rattle.file_lab.proofs.BodyLists.{bodies_append}

-- what an end of the machine has written and read, by its phase
pub record PhaseLaws : Type 0 where
  pub answers : (m : Machine) → Reached m → m.b.phase ≡ RfcSent → ⊥
  pub asked : (m : Machine) → Reached m → m.b.phase ≡ RfcReceived → (m.b.written ≡ []) × (m.b.read ≡ [])

-- an end whose user's commands and replies stay
pub record Stays (e f : Plain) : Type 0 where
  pub written : f.written ≡ e.written
  pub read : f.read ≡ e.read

stays_same : (e f : Plain) → f ≡ e → Stays e f
stays_same e f is = record { written = ap (λ g. g.written) is; read = ap (λ g. g.read) is }

heard : (told : Told) (e : Plain) → Stays e (hear told e)
heard Nothing e = record { written = refl; read = refl }
heard (Acknowledges a) e = record { written = refl; read = refl }
heard (Status a r w) e = record { written = refl; read = refl }

taken : (i : ℕ) (e : Plain) → Stays e (take_in i e)
taken i e =
    cond_both (nat_le (length e.read) i && nat_lt i (length e.read + e.announced))
    (record e { arrived = insert e.arrived i }) e (Stays e)
    (λ _. record { written = refl; read = refl })
    (λ _. record { written = refl; read = refl })

through : (e f g : Plain) → Stays e f → Stays f g → Stays e g
through e f g s t = record { written = t.written ∙ s.written; read = t.read ∙ s.read }

stays_to : (e f g : Plain) → f ≡ g → Stays e g → Stays e f
stays_to e f g is s = subst (Stays e) (sym is) s

-- ---- the rows at B, which never asks

end_stays : (p e f : Plain) → End p e f → Stays e f
end_stays p e f h = stays_to e f _ h.1 (record { written = refl; read = refl })

comes_stays : (c : Copy) (p e f : Plain) → (e.phase ≡ RfcSent → ⊥) → Comes c p e f → Stays e f
comes_stays c p e f isnt (inl h) = stays_to e f _ h.2 (record { written = refl; read = refl })
comes_stays c p e f isnt (inr (inl h)) = absurd (isnt h.1)
comes_stays c p e f isnt (inr (inr (inl h))) =
    stays_to e f _ h.3 (through e (hear c.told e) _ (heard c.told e) (taken h.1 (hear c.told e)))
comes_stays c p e f isnt (inr (inr (inr (inl h)))) = stays_to e f _ h.2 (heard c.told e)
comes_stays c p e f isnt (inr (inr (inr (inr h)))) = end_stays p e f h.1

pub tick_stays : (p e f : Plain) → Tick p e f → Stays e f
tick_stays p e f (inl h) = end_stays p e f h
tick_stays p e f (inr h) = stays_same e f h

pub resize_stays : (window : ℕ) (p e f : Plain) → Resize window p e f → Stays e f
resize_stays window p e f h = stays_to e f _ h.2 (record { written = refl; read = refl })

close_stays : (p e f : Plain) → Close p e f → Stays e f
close_stays p e f h = stays_to e f _ h.1 (record { written = refl; read = refl })

or_stays : (row : Row) (p e f : Plain) → (row p e f → Stays e f) → OrNothing row p e f → Stays e f
or_stays row p e f by (inl h) = by h
or_stays row p e f by (inr h) = stays_same e f h.1

-- ---- the machine's step

pub at_b : (row : Row) (w v : Machine) → ((f : Plain) → row w.a w.b f → Stays w.b f) → Moves row w B v → Stays w.b v.b
at_b row w v by m =
    stays_to w.b v.b m.0 (ap (λ n. n.b) m.2.2) (or_stays row w.a w.b m.0 (by m.0) m.1)

pub at_a : (row : Row) (w v : Machine) → Moves row w A v → Stays w.b v.b
at_a row w v m = stays_same w.b v.b (ap (λ n. n.b) m.2.2)

pub comes_to : (x : Side) (c : Copy) (w v : Machine) → (w.b.phase ≡ RfcSent → ⊥) → Moves (Comes c) w (other x) v
    → Stays w.b v.b
comes_to A c w v isnt m = at_b (Comes c) w v (λ f. comes_stays c w.a w.b f isnt) m
comes_to B c w v isnt m = at_a (Comes c) w v m

-- ---- the acceptance: item 0 of both is no data

-- the bodies stay
pub record SameBodies (e f : List ItemView × List ItemView) : Type 0 where
  pub written : data_bodies f.0 ≡ data_bodies e.0
  pub read : data_bodies f.1 ≡ data_bodies e.1

stays_bodies : (e f : Plain) → Stays e f → SameBodies (e.written, e.read) (f.written, f.read)
stays_bodies e f s = record { written = ap data_bodies s.written; read = ap data_bodies s.read }

-- an item 0 that isn't data adds no body
first_read : (p e : Plain) (o : Option ItemView) → length e.read ≡ 0 → ((item : ItemView) → o ≡ Some item → item.op ≡ 1)
    → data_bodies (read_item o e).read ≡ data_bodies e.read
first_read p e None none first = refl
first_read p e (Some item) none first =
    bodies_append e.read (item ∷ [])
    ∙ ap (λ op. data_bodies e.read ++ with_body (kind_of op) item.body []) (first item refl)
    ∙ append-nil (data_bodies e.read)

accepted : PhaseLaws → (opn : ItemView) (w v : Machine) (l m : LabView) → Ties w l → Ties v m → Moves (Accept opn) w B v
    → SameBodies (w.b.written, w.b.read) (v.b.written, v.b.read)
accepted laws opn w v l m t u moved = by moved.1
  where
    to : v.b ≡ moved.0
    to = ap (λ n. n.b) moved.2.2

    by : OrNothing (Accept opn) w.a w.b moved.0 → SameBodies (w.b.written, w.b.read) (v.b.written, v.b.read)
    by (inr h) = stays_bodies w.b v.b (stays_same w.b v.b (to ∙ h.1))
    by (inl h) =
        let new = laws.asked w t.tied.reached h.0 in
        let nil : w.b.written ≡ [] = new.0 in
        let none : length w.b.read ≡ 0 = ap length new.1 in
        let wrote : v.b.written ≡ w.b.written ++ opn ∷ [] = ap (λ e. e.written) (to ∙ h.1) in
        let got : v.b.read ≡ (read_next w.a w.b).read = ap (λ e. e.read) (to ∙ h.1) in
        let one : v.b.written ≡ opn ∷ [] = wrote ∙ ap (λ ws. ws ++ opn ∷ []) nil in
        let op : opn.op ≡ 2 = (u.tied.items_b.first opn (ap (λ ws. slice_get ws 0) one)).0 in
        record {
          written = ap data_bodies one ∙ ap (λ o. with_body (kind_of o) opn.body []) op ∙ sym (ap data_bodies nil);
          read = ap data_bodies got ∙ first_read w.a w.b (slice_get w.a.written (length w.b.read)) none
              (λ item at. t.tied.items_a.first item (ap (slice_get w.a.written) (sym none) ∙ at));
        }

-- ---- any event

stepped : PhaseLaws → (event : Happening) (w v : Machine) (l m : LabView) → is_by_server event ≡ false → Ties w l
    → Ties v m → Step w (plain_event l event) v → SameBodies (w.b.written, w.b.read) (v.b.written, v.b.read)
stepped laws (WriteBy A op bytes) w v l m isnt t u s =
    stays_bodies w.b v.b (at_a (Write (record { op = op; body = bytes })) w v s)
stepped laws (WriteBy B op bytes) w v l m isnt t u s = absurd (false≢true (sym isnt))
stepped laws (ReadBy A) w v l m isnt t u s = stays_bodies w.b v.b (at_a Read w v s)
stepped laws (ReadBy B) w v l m isnt t u s = absurd (false≢true (sym isnt))
stepped laws (AnnounceBy A window) w v l m isnt t u s = stays_bodies w.b v.b (at_a (Resize window) w v s)
stepped laws (AnnounceBy B window) w v l m isnt t u s =
    stays_bodies w.b v.b (at_b (Resize window) w v (resize_stays window w.a w.b) s)
stepped laws (TickOf A now) w v l m isnt t u s = stays_bodies w.b v.b (at_a Tick w v s)
stepped laws (TickOf B now) w v l m isnt t u s = stays_bodies w.b v.b (at_b Tick w v (tick_stays w.a w.b) s)
stepped laws (CloseBy A text) w v l m isnt t u s = stays_bodies w.b v.b (at_a Close w v s)
stepped laws (CloseBy B text) w v l m isnt t u s = stays_bodies w.b v.b (at_b Close w v (close_stays w.a w.b) s)
stepped laws (AcceptFrom start) w v l m isnt t u s = accepted laws _ w v l m t u s
stepped laws (DeliverCopy n) w v l m isnt t u s =
    stays_bodies w.b v.b (comes_to s.0.sender s.0 w v (laws.answers w t.tied.reached) s.3)

-- what a step of the laboratory promises
abbrev pub StepOf : LabView → Happening → LabView → Result Stepped LabFault → Type 0
StepOf l event m r =
    OnErr r (m ≡ l) × IfOk r (λ _. (w : Machine) → Ties w l → (v : Machine) × Step w (plain_event l event) v × Ties v m)

pub quiet : PhaseLaws → (l m : LabView) (event : Happening) (r : Result Stepped LabFault) → HasMachine l
    → is_by_server event ≡ false → StepOf l event m r → SameBodies (l.b.written, l.b.read) (m.b.written, m.b.read)
quiet laws l m event (Err why) h isnt s =
    record { written = ap (λ k. data_bodies k.b.written) s.0; read = ap (λ k. data_bodies k.b.read) s.0 }
quiet laws l m event (Ok x) h isnt s =
    let v = s.1 h.plain h.ties in
    let b = stepped laws event h.plain v.0 l m isnt h.ties v.2 v.1 in
    record {
      written = ap data_bodies v.2.written_b ∙ b.written ∙ sym (ap data_bodies h.ties.written_b);
      read = ap data_bodies v.2.read_b ∙ b.read ∙ sym (ap data_bodies h.ties.read_b);
    }
