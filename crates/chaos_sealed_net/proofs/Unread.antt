-- A connection has written at most 64 items more than its peer has read.
use Rattle.std.proofs.Common.{◌≡◌, ◌+◌, ◌≤◌, [], length, Bool, true, false, Option, Some, None, refl, sym, ap, ◌∙◌, subst, inl, inr, ◌⊎◌, arith}
use Rattle.std.proofs.lemmas.Bool.{false≢true}
use Rattle.chaos_lab.specs.declared.side.Side.{Side}
use Rattle.chaos_lab.specs.declared.side.Side.TheVariants.{A, B}
use Rattle.chaos_lab.specs.Machine.{other}
use Rattle.chaos_lab.specs.Laboratory.{LabView, EndView, lab_end}
use Rattle.chaos_lab.specs.Tied.{HasMachine}
use Rattle.chaos_lab.proofs.Lists.{begins_shorter}
use Rattle.chaos_lab.proofs.Machines.{end_holds, reached_holds}
use Rattle.chaos_lab.proofs.Plays.{unread_is_alone}
use Rattle.chaos_net.specs.Net.{Name, Story, Net, Reached, HoldsBy, length_of, lengths_of}
use Rattle.chaos_net.specs.Played.{IsEnd, IsLinked, HasPeer, ArePlayed}
use Rattle.chaos_net.proofs.Holding.{end_written, end_read, twice}
use Rattle.chaos_net.proofs.Network.{network}

-- ---- in a laboratory

pub most_unread : (l : LabView) (x : Side) → HasMachine l
    → length (lab_end l x).written ≤ length (lab_end l (other x)).read + 64
most_unread l A h =
    let w = h.plain in
    let t = h.ties in
    let e = end_holds w A (reached_holds w t.tied.reached) in
    let written = ap length t.written_a in
    let read = ap length t.read_b in
    let room = e.writer.room in
    let acked = e.writer.acked_read in
    let cap = e.ok.caps.1 in
    omega (arith, written, read, room, acked, cap)
most_unread l B h =
    let w = h.plain in
    let t = h.ties in
    let e = end_holds w B (reached_holds w t.tied.reached) in
    let written = ap length t.written_b in
    let read = ap length t.read_a in
    let room = e.writer.room in
    let acked = e.writer.acked_read in
    let cap = e.ok.caps.1 in
    omega (arith, written, read, room, acked, cap)

-- ---- one that was asked, and isn't known to the connection that asked

-- a laboratory plays it as B, whose A has read nothing
pub record IsLonely (e : EndView) : Type 0 where
  pub lab : LabView
  pub machine : HasMachine lab
  pub ends : IsEnd B e lab.b
  pub unread : lab.a.read ≡ []

-- the connection that asked was opened by this one
pub record IsOpener (n : Net) (x : Side) (c : Name) (s : Story) : Type 0 where
  pub name : Name
  pub story : Story
  pub peer : s.peer ≡ Some name
  pub there : (n (other x)).story name ≡ Some story
  pub to : story.peer ≡ Some c

-- So it is with each that was asked, or it is lonely.
abbrev pub AreOpeners : Net → Type 0
AreOpeners n = (x : Side) (c : Name) (s : Story) → (n x).story c ≡ Some s → s.asked ≡ false
    → IsOpener n x c s ⊎ IsLonely s.end

-- ---- in a net

-- The peer names it, and has read all that it wrote but 64 items.
pub record IsRead (n : Net) (x : Side) (c : Name) (s : Story) : Type 0 where
  pub name : Name
  pub story : Story
  pub there : (n (other x)).story name ≡ Some story
  pub to : story.peer ≡ Some c
  pub most : length s.end.written ≤ length story.end.read + 64

module _ (n : Net) (x : Side) (c : Name) (s : Story) where
  asker_unread : ArePlayed n → (n x).story c ≡ Some s → s.asked ≡ true → (peer : Option Name) → s.peer ≡ peer
      → HasPeer (n (other x)) c s peer true → (length s.end.written ≤ 64) ⊎ IsRead n x c s
  asker_unread h there asked None is k =
      let pair = (h x).pairs c c s there asked in
      let ends = pair.1.linked (subst (λ o. IsLinked o c) (sym is) tt) in
      let one = unread_is_alone pair.0 pair.1.machine (end_read A s.end pair.0.a ends ∙ k.1) in
      let same = ap length (end_written A s.end pair.0.a ends) in
      inl (omega (arith, one, same))
  asker_unread h there asked (Some taker) is k =
      let pair = (h x).pairs c taker s there asked in
      let ends = pair.1.linked (subst (λ o. IsLinked o taker) (sym is) refl) in
      let back = pair.1.taken k.0 k.1 (k.2, k.3) in
      let most = most_unread pair.0 A pair.1.machine in
      let written = ap length (end_written A s.end pair.0.a ends) in
      let read = ap length (end_read B k.0.end pair.0.b back) in
      inr
      (record { name = taker; story = k.0; there = k.1; to = k.3; most = omega (arith, most, written, read) })

  taker_unread : ArePlayed n → (n x).story c ≡ Some s → s.asked ≡ false → (peer : Option Name) → s.peer ≡ peer
      → HasPeer (n (other x)) c s peer false → IsOpener n x c s ⊎ IsLonely s.end
      → (length s.end.written ≤ 64) ⊎ IsRead n x c s
  taker_unread h there asked None is k o = absurd (false≢true (k.0))
  taker_unread h there asked (Some asker) is k (inr alone) =
      let most = most_unread alone.lab B alone.machine in
      let none = ap length alone.unread in
      let written = ap length (end_written B s.end alone.lab.b alone.ends) in
      inl (omega (arith, most, none, written))
  taker_unread h there asked (Some asker) is k (inl o) =
      let y = other x in
      let known : o.story ≡ k.0 = opener o in
      let to : k.0.peer ≡ Some c = ap (λ (z : Story). z.peer) (sym known) ∙ o.to in
      let pair = (h y).pairs asker c k.0 k.1 k.2 in
      let here : (n (other y)).story c ≡ Some s = ap (λ z. (n z).story c) (twice x) ∙ there in
      let ends = pair.1.linked (subst (λ o. IsLinked o c) (sym to) refl) in
      let back = pair.1.taken s here (asked, is) in
      let most = most_unread pair.0 B pair.1.machine in
      let written = ap length (end_written B s.end pair.0.b back) in
      let read = ap length (end_read A k.0.end pair.0.a ends) in
      inr
      (record { name = asker; story = k.0; there = k.1; to = to; most = omega (arith, most, written, read) })
    where
      opener : (o : IsOpener n x c s) → o.story ≡ k.0
      opener o =
          let name : Some o.name ≡ Some asker = sym o.peer ∙ is in
          let same : o.name ≡ asker = cc in
          let both : Some o.story ≡ Some k.0 = sym o.there ∙ ap (n (other x)).story same ∙ k.1 in
          cc

  by_asked : ArePlayed n → AreOpeners n → (n x).story c ≡ Some s → (asked : Bool) → s.asked ≡ asked
      → HasPeer (n (other x)) c s s.peer asked → (length s.end.written ≤ 64) ⊎ IsRead n x c s
  by_asked h o there true is k = asker_unread h there is s.peer refl k
  by_asked h o there false is k = taker_unread h there is s.peer refl k (o x c s there is)

  pub unread : ArePlayed n → AreOpeners n → (n x).story c ≡ Some s → (length s.end.written ≤ 64) ⊎ IsRead n x c s
  unread h o there = by_asked h o there s.asked refl ((h x).station.stories c s there).peer

-- ---- and what its peer has read, it has written

read_by : (n : Net) (x : Side) (name : Name) (s : Story) (c : Name) (peer : Option Name) → peer ≡ Some c
    → HoldsBy n x name s peer → length s.end.read ≤ lengths_of n (other x) c
read_by n x name s c None is h = let no : None ≡ Some c = is in absurd (cc)
read_by n x name s c (Some peer) is h =
    let same : peer ≡ c = cc in
    let there : (n (other x)).story c ≡ Some h.story = ap (n (other x)).story (sym same) ∙ h.there in
    let long = ap length_of there in
    let shorter = begins_shorter s.end.read h.story.end.written h.begins in
    omega (arith, long, shorter)

pub read_most : (n : Net) (x : Side) (name : Name) (s : Story) (c : Name) → Reached n → (n x).story name ≡ Some s
    → s.peer ≡ Some c → length s.end.read ≤ lengths_of n (other x) c
read_most n x name s c r there to = read_by n x name s c s.peer to (network n x name r s there)
