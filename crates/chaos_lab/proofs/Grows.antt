-- What each step of an end only adds to.
use Rattle.std.proofs.Common.{◌≡◌, ℕ, ◌≤◌, [], ◌∷◌, ◌++◌, length, true, Some, refl, ◌∙◌}
use Rattle.std.specs.Prelude.{slice_get}
use Rattle.std.specs.FinSet.{contains, insert}
use Rattle.chaos_packet.specs.Item.{ItemView}
use Rattle.chaos_packet.specs.Begins.{Begins}
use Rattle.chaos_lab.specs.Machine.{PlainEnd, Told, hear}
use Rattle.chaos_lab.specs.Machine.Told.{Nothing, Acknowledges, Status}
use Rattle.chaos_lab.proofs.Lists.{contains-insert_keeps, begins_itself, begins_longer, begins_through, begins_shorter, slice_get-begins}

-- what e wrote, read and took in is there in f too
pub record Grows (e f : PlainEnd) : Type 0 where
  pub written : Begins e.written f.written
  pub read : Begins e.read f.read
  pub arrived : (i : ℕ) → contains e.arrived i ≡ true → contains f.arrived i ≡ true
  pub send_cap : e.send_cap ≡ f.send_cap
  pub recv_cap : e.recv_cap ≡ f.recv_cap
  -- these two follow, and are what arithmetic wants
  pub written_more : length e.written ≤ length f.written
  pub read_more : length e.read ≤ length f.read

-- it follows from the lists, the set and the caps
pub grows_by :
    (e f : PlainEnd) → Begins e.written f.written → Begins e.read f.read →
    ((i : ℕ) → contains e.arrived i ≡ true → contains f.arrived i ≡ true) → e.send_cap ≡ f.send_cap
    → e.recv_cap ≡ f.recv_cap →
    Grows e f
grows_by e f written read arrived send recv =
    record {
      written = written;
      read = read;
      arrived = arrived;
      send_cap = send;
      recv_cap = recv;
      written_more = begins_shorter e.written f.written written;
      read_more = begins_shorter e.read f.read read;
    }

pub grows_same : (e : PlainEnd) → Grows e e
grows_same e = grows_by e e (begins_itself e.written) (begins_itself e.read) (λ i h. h) refl refl

pub grows_through : (e f g : PlainEnd) → Grows e f → Grows f g → Grows e g
grows_through e f g h k =
    grows_by e g
    (begins_through e.written f.written g.written h.written k.written)
    (begins_through e.read f.read g.read h.read k.read)
    (λ i t. k.arrived i (h.arrived i t))
    (h.send_cap ∙ k.send_cap) (h.recv_cap ∙ k.recv_cap)

pub item_stays :
    (e f : PlainEnd) (i : ℕ) (item : ItemView) → Grows e f → slice_get e.written i ≡ Some item →
    slice_get f.written i ≡ Some item
item_stays e f i item g h = slice_get-begins e.written f.written i item g.written h

pub grows_written : (e : PlainEnd) (item : ItemView) → Grows e (record e { written = e.written ++ item ∷ [] })
grows_written e item =
    let longer = begins_longer e.written e.written (item ∷ []) (begins_itself e.written) in
    grows_by e (record e { written = e.written ++ item ∷ [] }) longer (begins_itself e.read) (λ i h. h) refl refl

pub grows_read : (e : PlainEnd) (item : ItemView) → Grows e (record e { read = e.read ++ item ∷ [] })
grows_read e item =
    let longer = begins_longer e.read e.read (item ∷ []) (begins_itself e.read) in
    grows_by e (record e { read = e.read ++ item ∷ [] }) (begins_itself e.written) longer (λ i h. h) refl refl

pub grows_arrived : (e : PlainEnd) (i : ℕ) → Grows e (record e { arrived = insert e.arrived i })
grows_arrived e i =
    let f : PlainEnd = record e { arrived = insert e.arrived i } in
    grows_by e f (begins_itself e.written) (begins_itself e.read) (contains-insert_keeps i e.arrived) refl refl

pub grows_heard : (told : Told) (e : PlainEnd) → Grows e (hear told e)
grows_heard Nothing e = grows_same e
grows_heard (Acknowledges a) e =
    grows_by e (hear (Acknowledges a) e) (begins_itself e.written) (begins_itself e.read) (λ i h. h) refl refl
grows_heard (Status a r w) e =
    grows_by e (hear (Status a r w) e) (begins_itself e.written) (begins_itself e.read) (λ i h. h) refl refl
