-- Events that help two open ends: a read, an announcement, a tick, and a copy that comes.
use Rattle.std.proofs.Common.{◌≡◌, ℕ, zero, suc, ◌+◌, ◌-◌, ◌<◌, ◌≤◌, max, List, [], ◌∷◌, ◌++◌, length, drop, map, true, false, Some, None, Ok, refl, sym, ap, ◌∙◌, subst, inl, inr, ⊎_elim, arith, length-drop, length-append}
use Rattle.std.specs.Prelude.{slice_get}
use Rattle.std.specs.List.{AllZip}
use Rattle.std.specs.FinSet.{contains}
use Rattle.std.specs.Option.{option_map}
use Rattle.std.proofs.lemmas.Bool.{cond_both, cond-true, cond-false, lt-ltb, le-ltb, le-leb, lt-leb, and_from, and_right, cases_lt}
use Rattle.std.proofs.lemmas.List.{length-map}
use Rattle.std.proofs.lemmas.Option.{slice_get_within, get_or_from_slice_get, slice_get-map}
use Rattle.chaos_packet.specs.Item.{ItemView}
use Rattle.chaos_packet.specs.Number.{num}
use Rattle.chaos_packet.specs.Opcode.{kind_of, is_rfc}
use Rattle.chaos_packet.specs.Packet.{PacketView, item_of}
use Rattle.chaos_packet.specs.declared.opcode.Kind.TheVariants as k
use Rattle.chaos_conn.specs.declared.state.State.TheVariants as st
use Rattle.chaos_conn.specs.declared.answers.Delivered.{Delivered}
use Rattle.chaos_conn.specs.declared.answers.Ticked.{Ticked}
use Rattle.chaos_conn.specs.declared.answers.Ticked.TheVariants as ti
use Rattle.chaos_conn.specs.State.{awaits_peer}
use Rattle.chaos_conn.specs.Arriving.{act_deliver, deliver_open, after_sts_telling}
use Rattle.chaos_conn.specs.View.{ConnView}
use Rattle.chaos_conn.specs.Acted.{Acted}
use Rattle.chaos_conn.specs.Act.{Call, act}
use Rattle.chaos_conn.specs.Act.Call.{Announce, Read, Tick, Deliver as DeliverPacket}
use Rattle.chaos_conn.specs.Act.Reply.{Did}
use Rattle.chaos_conn.specs.Calls.{act_announce}
use Rattle.chaos_conn.specs.Time.{is_down, is_resend_due, is_probe_due, at_moment, due_of, ticked_by, act_tick}
use Rattle.chaos_conn.specs.Sending.{with_sts, sts_of, sns_of, all_kept, packets_from, item_packet}
use Rattle.chaos_window.specs.Receive.{after_announcement}
use Rattle.chaos_lab.specs.declared.side.Side.{Side}
use Rattle.chaos_lab.specs.declared.side.Side.TheVariants.{A, B}
use Rattle.chaos_lab.specs.declared.stamped.Stamped.{Stamped as Sent}
use Rattle.chaos_lab.specs.declared.event.Stepped.{Stepped as Answer}
use Rattle.chaos_lab.specs.declared.event.Stepped.TheVariants as stepped
use Rattle.chaos_lab.specs.Machine.{PlainEnd as Plain, Kind, Told, Copy, Machine, other, end_of, with_end, IsSent, Tells, Becomes, Fresh, Step}
use Rattle.chaos_lab.specs.Machine.Phase.{Open}
use Rattle.chaos_lab.specs.Machine.Kind.{Nth, Sns, Sts, Cls}
use Rattle.chaos_lab.specs.Machine.Told.{Status}
use Rattle.chaos_lab.specs.Machine.Event.{ReadAt, ResizeAt, TickAt, Deliver}
use Rattle.chaos_lab.specs.Shown.{IsWhat, StandsFor, HasItems, Rest, met_view}
use Rattle.chaos_lab.specs.Laboratory.{LabView, Happening, Done, lab_end, with_lab_end, end_after, stamp, happen, call_effect, refusal_of, after_call, is_fresh}
use Rattle.chaos_lab.specs.Laboratory.Happening.{ReadBy, AnnounceBy, TickOf, DeliverCopy}
use Rattle.chaos_lab.specs.Tied.{Ties, StandsCopy, base_of}
use Rattle.chaos_lab.specs.Numbers.{told_num}
use Rattle.chaos_lab.proofs.Lists.{member_at}
use Rattle.chaos_lab.proofs.Copies.{KindOk, len_of}
use Rattle.chaos_lab.proofs.Machines.{reached_holds, end_holds, copy_at}
use Rattle.chaos_lab.proofs.Total.{received}
use Rattle.chaos_lab.proofs.Directions.{Sound}
use Rattle.chaos_lab.proofs.Known.{other_other}
use Rattle.chaos_lab.proofs.DeliverOpen.{to_open}
use Rattle.chaos_lab.proofs.OpenEnd.{is_open, open_is}
use Rattle.chaos_lab.proofs.OnSide.{Stepped, conn_at, first_at, stands_at, items_at, refusal_at}
use Rattle.chaos_lab.proofs.UserTies.{Refuses, read_ties, resize_ties, tick_ties}
use Rattle.chaos_lab.proofs.CopyTies.{copy_of}
use Rattle.chaos_lab.proofs.HeadlineLaw.{open_at, steps_open, taken, nth_of, item_kind}
use Rattle.chaos_lab.proofs.Keeps.{Keeps, CopyAt, Came, copy_keeps, read_goes, read_reads, resize_goes, resize_is, tick_goes, deliver_goes}

-- the event is taken
abbrev pub IsTaken : LabView → Happening → Type 0
IsTaken l event = (s : Answer) × ((happen l event).answer ≡ Ok s)

-- ---- a read

pub record Reads (y : Side) (w : Machine) (l : LabView) : Type 0 where
  pub machine : Machine
  pub ties : Ties machine (happen l (ReadBy y)).lab
  pub keeps : Keeps w machine
  pub reads : contains (end_of w y).arrived (length (end_of w y).read) ≡ true
      → length (end_of w y).read < length (end_of machine y).read
  pub taken : IsTaken l (ReadBy y)

pub read_event : (y : Side) (w : Machine) (l : LabView) → Ties w l → (end_of w y).phase ≡ Open → Reads y w l
read_event y w l t at =
    let s : Stepped w (ReadAt y) (after_call l y Read) = read_ties y w l t in
    record {
      machine = s.machine;
      ties = s.ties;
      keeps = read_goes y w s.machine s.step;
      reads = λ here. read_reads y w s.machine t.tied.reached at here s.step;
      taken = (_, refl);
    }

-- ---- a copy comes

module _ {X Y : Type 0} where
  pub stamped_of : (R : X → Y → Type 0) (xs : List X) (ys : List Y) (k : ℕ) (y : Y) → AllZip R xs ys
      → slice_get ys k ≡ Some y → (x : X) × (slice_get xs k ≡ Some x) × R x y
  stamped_of R [] [] k y h at = absurd (cc)
  stamped_of R [] (z ∷ ys) k y h at = absurd h
  stamped_of R (x ∷ xs) [] k y h at = absurd (cc)
  stamped_of R (x ∷ xs) (z ∷ ys) zero y h at = (x, refl, subst (R x) (let e : z ≡ y = cc in e) h.0)
  stamped_of R (x ∷ xs) (z ∷ ys) (suc k) y h at = stamped_of R xs ys k y h.1 at

  zip_length : (R : X → Y → Type 0) (xs : List X) (ys : List Y) → AllZip R xs ys → length xs ≡ length ys
  zip_length R [] [] h = refl
  zip_length R [] (y ∷ ys) h = absurd h
  zip_length R (x ∷ xs) [] h = absurd h
  zip_length R (x ∷ xs) (y ∷ ys) h = ap suc (zip_length R xs ys h.1)

pub same_count : (w : Machine) (l : LabView) → Ties w l → length l.copies ≡ length w.copies
same_count w l t = zip_length (StandsCopy l.a.first l.b.first w) l.copies w.copies t.tied.copies

pub fresh_is : (w : Machine) (l : LabView) (s : Sent) (c : Copy) → Ties w l → Fresh w c → s.len_a ≡ c.len_a
    → s.len_b ≡ c.len_b → is_fresh l.a l.b s ≡ true
fresh_is w l s c t fresh is_a is_b =
    let a : length l.a.written ≡ length w.a.written = ap length t.written_a in
    let b : length l.b.written ≡ length w.b.written = ap length t.written_b in
    and_from _ _ (lt-ltb (length l.a.written - s.len_a) 32640 (omega (arith, fresh.0, is_a, a)))
    (lt-ltb (length l.b.written - s.len_b) 32640 (omega (arith, fresh.1, is_b, b)))

pub record Delivers (x : Side) (w : Machine) (l : LabView) (n : ℕ) (c : Copy) : Type 0 where
  pub machine : Machine
  pub ties : Ties machine (happen l (DeliverCopy n)).lab
  pub came : Came w x c.kind c.told machine
  pub taken : IsTaken l (DeliverCopy n)
  pub sent : Sent
  pub side : sent.side ≡ x
  pub stands : StandsCopy l.a.first l.b.first w sent c
  pub lab : (happen l (DeliverCopy n)).lab ≡ after_call l (other sent.side) (DeliverPacket sent.packet l.clock)

pub copy_event : (x : Side) (w : Machine) (l : LabView) (n : ℕ) (c : Copy) → Ties w l → CopyAt w x n c
    → (end_of w (other x)).phase ≡ Open → (c.kind ≡ Cls → ⊥) → Delivers x w l n c
copy_event x w l n c t h at apart =
    let found = stamped_of (StandsCopy l.a.first l.b.first w) l.copies w.copies n c t.tied.copies h.there in
    let s : Sent = found.0 in
    let side : s.side ≡ x = found.2.side ∙ h.sender in
    let near : is_fresh l.a l.b s ≡ true = fresh_is w l s c t h.fresh found.2.len_a found.2.len_b in
    let is : (end_of w (other s.side)).phase ≡ Open =
    subst (λ (z : Side). (end_of w (other z)).phase ≡ Open) (sym side) at in
    let step : Stepped w (Deliver n) (happen l (DeliverCopy n)).lab = steps_open w l n s t found.1 near is in
    let took = taken w l n s t found.1 near is in
    record {
      machine = step.machine;
      ties = step.ties;
      came = deliver_goes x w step.machine n c h at apart step.step;
      taken = (_, ap (λ (d : Done). d.answer) took);
      sent = s;
      side = side;
      stands = found.2;
      lab = ap (λ (d : Done). d.lab) took;
    }

-- ---- what a call puts out

module _ {X : Type 0} where
  pub past_front : (xs ys : List X) (n j : ℕ) → n ≡ length xs + j → slice_get (xs ++ ys) n ≡ slice_get ys j
  past_front [] ys n j is = let same : n ≡ j = omega (arith, is) in ap (slice_get ys) same
  past_front (x ∷ xs) ys zero j is = absurd (omega (arith, is))
  past_front (x ∷ xs) ys (suc n) j is = past_front xs ys n j (omega (arith, is))

end_sent : (x : Side) (w : Machine) (f : Plain) (v : Machine) → Becomes w x f v → end_of (with_end w x f) x ≡ end_of v x
end_sent A w f v b = sym (ap (λ (m : Machine). m.a) b.2)
end_sent B w f v b = sym (ap (λ (m : Machine). m.b) b.2)

len_sent : (x : Side) (w v : Machine) (f : Plain) (c : Copy) → Becomes w x f v → IsSent (with_end w x f) x c
    → len_of c x ≡ length (end_of v x).written
len_sent A w v f c b s = s.len_a ∙ sym (ap (λ (m : Machine). length m.a.written) b.2)
len_sent B w v f c b s = s.len_b ∙ sym (ap (λ (m : Machine). length m.b.written) b.2)

-- the copy that a packet stands for, which the step from w to v sent at x
pub record SentAt (x : Side) (v : Machine) (m : LabView) (n : ℕ) (s : Sent) : Type 0 where
  pub copy : Copy
  pub at : CopyAt v x n copy
  pub stands : StandsCopy m.a.first m.b.first v s copy
  pub tells : Tells copy.kind x (end_of v x) copy.told
  pub len : len_of copy x ≡ length (end_of v x).written

pub sent_at : (x : Side) (w v : Machine) (f : Plain) (m : LabView) (n j : ℕ) (s : Sent) → Ties v m → Becomes w x f v
    → n ≡ length w.copies + j → slice_get m.copies n ≡ Some s → SentAt x v m n s
sent_at x w v f m n j s t b place at =
    let c = copy_of (StandsCopy m.a.first m.b.first v) m.copies v.copies n s t.tied.copies at in
    let all : v.copies ≡ w.copies ++ b.0 = ap (λ (u : Machine). u.copies) b.2 in
    let there : slice_get b.0 j ≡ Some c.0 =
    sym (past_front w.copies b.0 n j place) ∙ ap (λ cs. slice_get cs n) (sym all) ∙ c.1 in
    let sent : IsSent (with_end w x f) x c.0 =
    subst (IsSent (with_end w x f) x) (get_or_from_slice_get b.0 j c.0 c.0 there)
    (b.1 j c.0 (slice_get_within b.0 j c.0 there)) in
    let a : length v.a.written ≡ length (with_end w x f).a.written = ap (λ (u : Machine). length u.a.written) b.2 in
    let b' : length v.b.written ≡ length (with_end w x f).b.written = ap (λ (u : Machine). length u.b.written) b.2 in
    record {
      copy = c.0;
      at =
          record { there = c.1; sender = sent.sender; fresh = (omega (arith, a, sent.len_a), omega (arith, b', sent.len_b)) };
      stands = c.2;
      tells = subst (λ (e : Plain). Tells c.0.kind x e c.0.told) (end_sent x w f v b) sent.tells;
      len = len_sent x w v f c.0 b sent;
    }

-- what the laboratory's call puts out
abbrev pub stamp_after : LabView → Side → Call → PacketView → Sent
stamp_after l x call =
    stamp x (length (with_lab_end l x (end_after (lab_end l x) call)).a.written)
    (length (with_lab_end l x (end_after (lab_end l x) call)).b.written)

pub copies_after : (x : Side) (l : LabView) (call : Call)
    → (after_call l x call).copies ≡ l.copies ++ map (stamp_after l x call) (act (conn_at l x) call).packets
copies_after A l call = refl
copies_after B l call = refl

pub conn_after : (x : Side) (l : LabView) (call : Call)
    → conn_at (after_call l x call) x ≡ (act (conn_at l x) call).view
conn_after A l call = refl
conn_after B l call = refl

pub conn_stays : (x y : Side) (l : LabView) (call : Call) → other y ≡ x → conn_at (after_call l y call) x ≡ conn_at l x
conn_stays A A l call is = let no : B ≡ A = is in absurd (cc)
conn_stays A B l call is = refl
conn_stays B A l call is = refl
conn_stays B B l call is = let no : A ≡ B = is in absurd (cc)

pub put_at : (x : Side) (l : LabView) (call : Call) (n j : ℕ) (packet : PacketView) → n ≡ length l.copies + j
    → slice_get (act (conn_at l x) call).packets j ≡ Some packet
    → slice_get (after_call l x call).copies n ≡ Some (stamp_after l x call packet)
put_at x l call n j packet place at =
    ap (λ cs. slice_get cs n) (copies_after x l call)
    ∙ past_front l.copies (map (stamp_after l x call) (act (conn_at l x) call).packets) n j place
    ∙ slice_get-map (stamp_after l x call) (act (conn_at l x) call).packets j
    ∙ ap (option_map (stamp_after l x call)) at

-- ---- an open end's view

-- what an open end shows
pub record Shows (x : Side) (w : Machine) (l : LabView) : Type 0 where
  pub rest : Rest
  pub is : conn_at l x ≡ met_view st.Open x rest (first_at l x) (first_at l (other x)) (end_of w (other x)) (end_of w x)

pub shows : (x : Side) (w : Machine) (l : LabView) → Ties w l → (end_of w x).phase ≡ Open → Shows x w l
shows x w l t at =
    let z = stands_at x w l t in
    let h = end_holds w x (reached_holds w t.tied.reached) in
    record { rest = z.0; is = z.2 ∙ open_is x z.0 _ _ (end_of w (other x)) (end_of w x) (is_open x (end_of w (other x)) (end_of w x) at h.ok h.reader) }

what_at : (x z : Side) (v : Machine) (fa fb : ℕ) (pk : PacketView) (kind : Kind) → z ≡ x
    → IsWhat (base_of fa fb z) (end_of v z) pk kind → IsWhat (base_of fa fb x) (end_of v x) pk kind
what_at x z v fa fb pk kind is h = subst (λ (y : Side). IsWhat (base_of fa fb y) (end_of v y) pk kind) is h

base_at : (x : Side) (l : LabView) → base_of l.a.first l.b.first x ≡ first_at l x
base_at A l = refl
base_at B l = refl

pub sent_what : (x : Side) (v : Machine) (m : LabView) (n : ℕ) (s : Sent) → (c : SentAt x v m n s)
    → IsWhat (first_at m x) (end_of v x) s.packet c.copy.kind
sent_what x v m n s c =
    subst (λ b. IsWhat b (end_of v x) s.packet c.copy.kind) (base_at x m)
    (what_at x c.copy.sender v m.a.first m.b.first s.packet c.copy.kind c.at.sender c.stands.stands.what)

-- ---- an end announces its greatest window

announced_is : (y : Side) (rest : Rest) (b b' : ℕ) (p e : Plain)
    → act_announce (met_view st.Open y rest b b' p e) e.recv_cap
    ≡ with_sts
    (record (met_view st.Open y rest b b' p e)
    { recv = after_announcement (met_view st.Open y rest b b' p e).recv e.recv_cap })
    (Ok tt)
announced_is y rest b b' p e = cond-false _ _ _ (le-ltb e.recv_cap e.recv_cap (omega arith))

-- it is told by an STS
abbrev SendsSts : ConnView → ℕ → Type 0
SendsSts v window = act_announce v window ≡ with_sts (record v { recv = after_announcement v.recv window }) (Ok tt)

-- an STS stands for a status
pub sts_kind : (kind : Kind) (x : Side) (b b' : ℕ) (e : Plain) (pk : PacketView) → HasItems x b' e → IsWhat b e pk kind
    → pk.op ≡ 7 → kind ≡ Sts
sts_kind (Nth i) x b b' e pk its what is = absurd ((item_kind x b' i e (item_of pk) its what.0).1 (ap kind_of is))
sts_kind Sns x b b' e pk its what is = let no : 6 ≡ 7 = sym what.0 ∙ is in absurd (omega (arith, no))
sts_kind Sts x b b' e pk its what is = refl
sts_kind Cls x b b' e pk its what is = let no : 3 ≡ 7 = sym what.0 ∙ is in absurd (omega (arith, no))

pub told_status : (kind : Kind) (x : Side) (e : Plain) (told : Told) → kind ≡ Sts → Tells kind x e told
    → (f : ℕ) × (told ≡ Status (length e.read) f e.announced)
told_status kind x e told is h = let t : Tells Sts x e told = subst (λ (q : Kind). Tells q x e told) is h in (t.0, t.2)

-- what stays as it was of a connection
pub record SameTimes (u v : ConnView) : Type 0 where
  pub config : v.config ≡ u.config
  pub last : v.last ≡ u.last
  pub resent : v.resent ≡ u.resent

pub record Announces (y : Side) (w : Machine) (l : LabView) (window : ℕ) : Type 0 where
  pub machine : Machine
  pub ties : Ties machine (happen l (AnnounceBy y window)).lab
  pub keeps : Keeps w machine
  pub some : 1 ≤ (end_of machine y).announced
  pub copy : Copy
  pub at : CopyAt machine y (length l.copies) copy
  pub kind : copy.kind ≡ Sts
  pub told : (f : ℕ) × (copy.told ≡ Status (length (end_of machine y).read) f (end_of machine y).announced)
  pub own : SameTimes (conn_at l y) (conn_at (happen l (AnnounceBy y window)).lab y)
  pub peers : (x : Side) → other y ≡ x → conn_at (happen l (AnnounceBy y window)).lab x ≡ conn_at l x
  pub clock : (happen l (AnnounceBy y window)).lab.clock ≡ l.clock
  pub taken : IsTaken l (AnnounceBy y window)

not_refused : (y : Side) (w : Machine) (l : LabView) (window : ℕ) → refusal_at l y (Announce window) ≡ None
    → Refuses y w l (Announce window) (ResizeAt y window)
    → Stepped w (ResizeAt y window) (after_call l y (Announce window))
not_refused y w l window none (inl r) = let no : None ≡ Some r.0 = sym none ∙ r.1 in absurd (cc)
not_refused y w l window none (inr s) = s

pub announce_event : (y : Side) (w : Machine) (l : LabView) → Ties w l → (end_of w y).phase ≡ Open → Announces y w l (end_of w y).recv_cap
announce_event y w l t at =
    let e : Plain = end_of w y in
    let window : ℕ = e.recv_cap in
    let call : Call = Announce window in
    let v : ConnView = conn_at l y in
    let m : LabView = after_call l y call in
    let view = shows y w l t at in
    let acts : SendsSts v window = subst (λ (u : ConnView). SendsSts u window) (sym view.is) (announced_is y view.rest (first_at l y) (first_at l (other y)) (end_of w (other y)) e) in
    let none : refusal_at l y call ≡ None = ap (λ a. refusal_of (Did a.answer)) acts in
    let done : happen l (AnnounceBy y window) ≡ call_effect l y call None = ap (call_effect l y call) none in
    let lab : (happen l (AnnounceBy y window)).lab ≡ m = ap (λ (d : Done). d.lab) done in
    let s : Stepped w (ResizeAt y window) m = not_refused y w l window none (resize_ties y w l window t) in
    let caps = (end_holds w y (reached_holds w t.tied.reached)).ok.caps in
    let sts : PacketView = sts_of (record v { recv = after_announcement v.recv window }) in
    let first : slice_get (act v call).packets 0 ≡ Some sts = ap (λ a. slice_get a.packets 0) acts in
    let n : ℕ = length l.copies in
    let put : slice_get m.copies n ≡ Some (stamp_after l y call sts) = put_at y l call n 0 sts (omega arith) first in
    let count : length l.copies ≡ length w.copies = same_count w l t in
    let sent = sent_at y w s.machine s.step.0 m n 0 (stamp_after l y call sts) s.ties s.step.2 (omega (arith, count)) put in
    let kind : sent.copy.kind ≡ Sts = sts_kind sent.copy.kind y (first_at m y) (first_at m (other y)) (end_of s.machine y) sts (items_at y s.machine m s.ties) (sent_what y s.machine m n (stamp_after l y call sts) sent) refl in
    let now : conn_at m y ≡ record v { recv = after_announcement v.recv window; untold = 0 } = conn_after y l call ∙ ap (λ a. a.view) acts in
    record {
      machine = s.machine;
      ties = subst (Ties s.machine) (sym lab) s.ties;
      keeps = resize_goes y window w s.machine caps.2 s.step;
      some = let is = resize_is y window w s.machine at (omega arith) s.step in omega (arith, is, caps.2);
      copy = sent.copy;
      at = sent.at;
      kind = kind;
      told = told_status sent.copy.kind y (end_of s.machine y) sent.copy.told kind sent.tells;
      own = record {
        config = ap (λ (u : LabView). (conn_at u y).config) lab ∙ ap (λ (u : ConnView). u.config) now;
        last = ap (λ (u : LabView). (conn_at u y).last) lab ∙ ap (λ (u : ConnView). u.last) now;
        resent = ap (λ (u : LabView). (conn_at u y).resent) lab ∙ ap (λ (u : ConnView). u.resent) now;
      };
      peers = λ x is. ap (λ (u : LabView). conn_at u x) lab ∙ conn_stays x y l call is;
      clock = ap (λ (u : LabView). u.clock) lab;
      taken = (_, ap (λ (d : Done). d.answer) done);
    }

-- ---- the STS comes

-- what a status leaves of the times
pub record HeardNow (t : ℕ) (u v : ConnView) : Type 0 where
  pub config : v.config ≡ u.config
  pub heard : v.heard ≡ v.last
  pub last : v.last ≡ max u.last t
  pub resent : v.resent ≡ u.resent

heard_from : (x : Side) (rest : Rest) (b b' : ℕ) (p e : Plain) (pk : PacketView) (now r f w : ℕ)
    → StandsFor (other x) b' b p pk Sts (Status r f w)
    → HeardNow now (met_view st.Open x rest b b' p e) (act_deliver (met_view st.Open x rest b b' p e) pk now).view
heard_from x rest b b' p e pk now r f w s =
    let v : ConnView = met_view st.Open x rest b b' p e in
    let kind : kind_of pk.op ≡ k.Sts = ap kind_of s.what.0 in
    subst (λ (a : Acted Delivered). HeardNow now v a.view)
    (sym
    (to_open x rest b b' pk now p e Sts s.header s.header.dst_index (ap is_rfc kind)
    ∙ ap (deliver_open v pk now) kind ∙ ap (after_sts_telling v pk now) s.tells.1))
    (record { config = refl; heard = refl; last = refl; resent = refl })

-- the stamped packet of the end at y stands for it
pub stands_at_side : (y z : Side) (w : Machine) (fa fb : ℕ) (pk : PacketView) (kind : Kind) (told : Told) → z ≡ y
    → StandsFor z (base_of fa fb z) (base_of fa fb (other z)) (end_of w z) pk kind told
    → StandsFor y (base_of fa fb y) (base_of fa fb (other y)) (end_of w y) pk kind told
stands_at_side y z w fa fb pk kind told is h =
    subst (λ (q : Side). StandsFor q (base_of fa fb q) (base_of fa fb (other q)) (end_of w q) pk kind told) is h

pub record Hears (y x : Side) (w : Machine) (l : LabView) (n r window : ℕ) : Type 0 where
  pub machine : Machine
  pub ties : Ties machine (happen l (DeliverCopy n)).lab
  pub keeps : Keeps w machine
  pub heard : r ≤ (end_of machine x).acknowledged
  pub room : 1 ≤ window → 1 ≤ (end_of machine x).window
  pub own : HeardNow l.clock (conn_at l x) (conn_at (happen l (DeliverCopy n)).lab x)
  pub peers : conn_at (happen l (DeliverCopy n)).lab y ≡ conn_at l y
  pub clock : (happen l (DeliverCopy n)).lab.clock ≡ l.clock
  pub taken : IsTaken l (DeliverCopy n)

hears_status : (kind : Kind) (told : Told) (r f v : ℕ) (p e : Plain) → kind ≡ Sts → told ≡ Status r f v
    → r ≤ (received Open kind told p e).acknowledged
hears_status kind told r f v p e is says =
    subst (λ (q : Kind × Told). r ≤ (received Open q.0 q.1 p e).acknowledged) (λ j. (sym is j, sym says j))
    (omega arith)

hears_window : (kind : Kind) (told : Told) (r f v : ℕ) (p e : Plain) → kind ≡ Sts → told ≡ Status r f v → 1 ≤ e.send_cap
    → 1 ≤ v → 1 ≤ (received Open kind told p e).window
hears_window kind told r f v p e is says cap some =
    subst (λ (q : Kind × Told). 1 ≤ (received Open q.0 q.1 p e).window) (λ j. (sym is j, sym says j))
    (omega (arith, cap, some))

pub stands_to : (y : Side) (w : Machine) (l : LabView) (pk : PacketView) (kind : Kind) (told : Told)
    → StandsFor y (base_of l.a.first l.b.first y) (base_of l.a.first l.b.first (other y)) (end_of w y) pk kind told
    → StandsFor (other (other y)) (first_at l (other (other y))) (first_at l (other y)) (end_of w (other (other y))) pk
    kind told
stands_to A w l pk kind told s = s
stands_to B w l pk kind told s = s

-- the STS of the end at y comes to that at x
pub hears_at : (y : Side) (w : Machine) (l : LabView) (n r f v : ℕ) (c : Copy) → Ties w l → CopyAt w y n c
    → c.kind ≡ Sts → c.told ≡ Status r f v → (end_of w (other y)).phase ≡ Open → Hears y (other y) w l n r v
hears_at y w l n r f v c t h kind told at =
    let x : Side = other y in
    let d = copy_event y w l n c t h at (λ is. let no : Sts ≡ Cls = sym kind ∙ is in absurd (cc)) in
    let pk : PacketView = d.sent.packet in
    let call : Call = DeliverPacket pk l.clock in
    let m : LabView = after_call l x call in
    let lab : (happen l (DeliverCopy n)).lab ≡ m = d.lab ∙ ap (λ z. after_call l (other z) call) d.side in
    let view = shows x w l t at in
    let s0 = stands_at_side y c.sender w l.a.first l.b.first pk c.kind c.told h.sender d.stands.stands in
    let s1 : StandsFor y (base_of l.a.first l.b.first y) (base_of l.a.first l.b.first x) (end_of w y) pk Sts
    (Status r f v) =
    subst
    (λ (q : Kind × Told). StandsFor y (base_of l.a.first l.b.first y) (base_of l.a.first l.b.first x)
    (end_of w y) pk q.0 q.1)
    (λ j. (kind j, told j)) s0 in
    let s2 = stands_to y w l pk Sts (Status r f v) s1 in
    let hears : HeardNow l.clock (conn_at l x) (act_deliver (conn_at l x) pk l.clock).view =
    subst (λ (u : ConnView). HeardNow l.clock u (act_deliver u pk l.clock).view) (sym view.is)
    (heard_from x view.rest (first_at l x) (first_at l (other x)) (end_of w (other x)) (end_of w x) pk l.clock r
    f v s2) in
    let now : conn_at (happen l (DeliverCopy n)).lab x ≡ (act_deliver (conn_at l x) pk l.clock).view =
    ap (λ (u : LabView). conn_at u x) lab ∙ conn_after x l call in
    record {
      machine = d.machine;
      ties = d.ties;
      keeps = d.came.keeps;
      heard =
          subst (λ (e : Plain). r ≤ e.acknowledged) (sym d.came.is)
          (hears_status c.kind c.told r f v (end_of w (other x)) (end_of w x) kind told);
      room = λ some. subst (λ (e : Plain). 1 ≤ e.window) (sym d.came.is)
          (hears_window c.kind c.told r f v (end_of w (other x)) (end_of w x) kind told
          (end_holds w x (reached_holds w t.tied.reached)).ok.caps.0 some);
      own = subst (HeardNow l.clock (conn_at l x)) (sym now) hears;
      peers = ap (λ (u : LabView). conn_at u y) lab ∙ conn_stays y x l call (other_other y);
      clock = ap (λ (u : LabView). u.clock) lab;
      taken = d.taken;
    }

-- ---- a tick

-- an end that has just heard its peer, and sends again before that counts as down
pub record OnTime (v : ConnView) : Type 0 where
  pub heard : v.heard ≡ v.last
  pub again : v.config.retransmit < v.config.down
  pub resent : v.resent ≤ v.last

-- the moment when it sends again
abbrev pub next_moment : ConnView → ℕ
next_moment v = v.last + v.config.retransmit

not_down : (v : ConnView) → OnTime v → is_down (at_moment v (next_moment v)) ≡ false
not_down v h =
    and_right _ _ (lt-leb v.config.down (max v.last (next_moment v) - v.heard) (omega (arith, h.heard, h.again)))

due_open : (v : ConnView) → is_down v ≡ false → v.state ≡ st.Open → (ticked_by (due_of v) v).view.state ≡ st.Open
due_open v up at =
    subst (λ d. (ticked_by d v).view.state ≡ st.Open) (sym (cond-false _ _ _ up))
    (cond_both (is_resend_due v) _ _ (λ d. (ticked_by d v).view.state ≡ st.Open) (λ _. at)
    (λ _. cond_both (is_probe_due v) _ _ (λ d. (ticked_by d v).view.state ≡ st.Open) (λ _. at) (λ _. at)))

-- all kept items are sent
due_resend : (v : ConnView) → is_down v ≡ false → is_resend_due v ≡ true → (ticked_by (due_of v) v).packets ≡ all_kept v
due_resend v up due = ap (λ d. (ticked_by d v).packets) (cond-false _ _ _ up ∙ cond-true _ _ _ due)

is_due : (v : ConnView) → OnTime v → v.state ≡ st.Open → 0 < length v.send.kept
    → is_resend_due (at_moment v (next_moment v)) ≡ true
is_due v h at some =
    and_from _ _ (ap awaits_peer at)
    (and_from _ _ (lt-ltb 0 (length v.send.kept) some)
    (le-leb v.config.retransmit (max v.last (next_moment v) - v.resent) (omega (arith, h.resent))))

-- the packet of the j-th kept item
packet_at : (items : List ItemView) (v : ConnView) (b i n j : ℕ) (item : ItemView) → n ≡ num b i
    → slice_get items j ≡ Some item → slice_get (packets_from v n items) j ≡ Some (item_packet v (num b (i + j)) item)
packet_at [] v b i n j item is at = absurd (cc)
packet_at (x ∷ items) v b i n zero item is at =
    let same : x ≡ item = cc in
    let number : n ≡ num b (i + 0) = omega (arith, is) in
    λ q. Some (item_packet v (number q) (same q))
packet_at (x ∷ items) v b i n (suc j) item is at =
    let next : num n 1 ≡ num b (i + 1) = omega (arith, is) in
    let place : i + 1 + j ≡ i + suc j = omega arith in
    packet_at items v b (i + 1) (num n 1) j item next at ∙ ap (λ m. Some (item_packet v (num b m) item)) place

drop_at : {X : Type 0} → (r j : ℕ) (xs : List X) → slice_get (drop r xs) j ≡ slice_get xs (r + j)
drop_at zero j xs = let same : j ≡ 0 + j = omega arith in ap (slice_get xs) same
drop_at (suc r) j [] = refl
drop_at (suc r) j (x ∷ xs) =
    let same : suc (r + j) ≡ suc r + j = omega arith in drop_at r j xs ∙ ap (slice_get (x ∷ xs)) same

-- Copies of all items of the end at x from the r-th on, put out one after the other. What comes before has arrived.
pub record Burst (w : Machine) (x : Side) (n r : ℕ) : Type 0 where
  pub arrived : (i : ℕ) → i < r → contains (end_of w (other x)).arrived i ≡ true
  pub near : length (end_of w x).written ≤ r + 64
  pub copies : (j : ℕ) → r + j < length (end_of w x).written
      → (c : Copy) × CopyAt w x (n + j) c × (c.kind ≡ Nth (r + j))

pub burst_keeps : (w v : Machine) (x : Side) (n r : ℕ) → Keeps w v → Burst w x n r → Burst v x n r
burst_keeps w v x n r s h =
    let same : length (end_of v x).written ≡ length (end_of w x).written = ap length (s.ends x).written in
    record {
      arrived = λ i l. (s.ends (other x)).arrived i (h.arrived i l);
      near = omega (arith, same, h.near);
      copies = λ j l. let c = h.copies j (omega (arith, same, l)) in (c.0, copy_keeps w v x (n + j) c.0 s c.1, c.2);
    }

-- the copies from the n-th up to the last are of the end at x, are fresh, and none is a CLS
abbrev pub Copies : Machine → Side → ℕ → ℕ → Type 0
Copies w x first last = (n : ℕ) → first ≤ n → n < last → (c : Copy) × CopyAt w x n c × (c.kind ≡ Cls → ⊥)

pub copies_keep : (w v : Machine) (x : Side) (first last : ℕ) → Keeps w v → Copies w x first last
    → Copies v x first last
copies_keep w v x first last s all n from upto = let c = all n from upto in (c.0, copy_keeps w v x n c.0 s c.1, c.2)

pub record Sends (x : Side) (w : Machine) (l : LabView) (now : ℕ) : Type 0 where
  pub machine : Machine
  pub ties : Ties machine (happen l (TickOf x now)).lab
  pub keeps : Keeps w machine
  pub step : Step w (TickAt x) machine
  pub burst : Burst machine x (length l.copies) (end_of w x).receipted
  pub all : Copies machine x (length l.copies) (length (happen l (TickOf x now)).lab.copies)
  pub exact : 0 < length (conn_at l x).send.kept
      → length (happen l (TickOf x now)).lab.copies ≡ length l.copies + length (conn_at l x).send.kept
  pub peers : (y : Side) → other x ≡ y → conn_at (happen l (TickOf x now)).lab y ≡ conn_at l y
  pub taken : IsTaken l (TickOf x now)

first_ticked : (x : Side) (l : LabView) (now : ℕ) → first_at (after_call l x (Tick now)) x ≡ first_at l x
first_ticked A l now = refl
first_ticked B l now = refl

-- a receipt counts no more than was written
pub receipt_within : (e p : Plain) → Sound e p → e.receipted ≤ length e.written
receipt_within e p d =
    ⊎_elim
    (λ (u : length e.written < e.receipted). let no = d.within (length e.written)
    (d.receipted_arrived (length e.written) u) in absurd (omega (arith, no)))
    (λ (u : e.receipted ≤ length e.written). u)
    (cases_lt (length e.written) e.receipted)

-- a tick that leaves the end open, and sends all kept items where there are some
member_of : {X : Type 0} → (xs : List X) (i : ℕ) → i < length xs → (x : X) × (slice_get xs i ≡ Some x)
member_of [] i h = absurd (omega (arith, h))
member_of (y ∷ ys) zero h = (y, refl)
member_of (y ∷ ys) (suc i) h = member_of ys i (omega (arith, h))

-- none of these packets is a CLS
abbrev NoCls : List PacketView → Type 0
NoCls packets = (j : ℕ) (packet : PacketView) → slice_get packets j ≡ Some packet → kind_of packet.op ≡ k.Cls → ⊥

kept_no_cls : (items : List ItemView) (v : ConnView) (n : ℕ)
    → ((j : ℕ) (item : ItemView) → slice_get items j ≡ Some item → kind_of item.op ≡ k.Cls → ⊥)
    → NoCls (packets_from v n items)
kept_no_cls [] v n none j packet at is = absurd (cc)
kept_no_cls (item ∷ items) v n none zero packet at is =
    let same : item_packet v n item ≡ packet = cc in
    none 0 item refl (ap (λ p. kind_of p.op) same ∙ is)
kept_no_cls (item ∷ items) v n none (suc j) packet at is =
    kept_no_cls items v (num n 1) (λ i z h. none (suc i) z h) j packet at is

ticked_no_cls : (x : Side) (w : Machine) (l : LabView) (now : ℕ) → Ties w l → (end_of w x).phase ≡ Open
    → NoCls (act_tick (conn_at l x) now).packets
ticked_no_cls x w l now t at =
    let e : Plain = end_of w x in
    let v : ConnView = conn_at l x in
    let u : ConnView = at_moment v now in
    let kept : v.send.kept ≡ drop e.receipted e.written = ap (λ (c : ConnView). c.send.kept) (shows x w l t at).is in
    let its = items_at x w l t in
    let none : (j : ℕ) (item : ItemView) → slice_get v.send.kept j ≡ Some item → kind_of item.op ≡ k.Cls → ⊥ =
    λ j item h.
    (item_kind x (first_at l (other x)) (e.receipted + j) e item its
    (sym (ap (λ ks. slice_get ks j) kept ∙ drop_at e.receipted j e.written) ∙ h)).2 in
    cond_both (is_down u) _ _ (λ d. NoCls (ticked_by d u).packets) (λ _ j packet h is. absurd (cc))
    (λ _. cond_both (is_resend_due u) _ _ (λ d. NoCls (ticked_by d u).packets)
    (λ _. kept_no_cls v.send.kept u (num u.send.receipted 1) none)
    (λ _. cond_both (is_probe_due u) _ _ (λ d. NoCls (ticked_by d u).packets) (λ _. one_sns u)
    (λ _ j packet h is. absurd (cc))))
  where
    one_sns : (u : ConnView) → NoCls (sns_of u ∷ [])
    one_sns u zero packet h is =
        let same : sns_of u ≡ packet = cc in let no : k.Sns ≡ k.Cls = ap (λ p. kind_of p.op) same ∙ is in absurd (cc)
    one_sns u (suc j) packet h is = absurd (cc)

pub packets_count : (items : List ItemView) (v : ConnView) (n : ℕ) → length (packets_from v n items) ≡ length items
packets_count [] v n = refl
packets_count (item ∷ items) v n = ap suc (packets_count items v (num n 1))

not_cls : (kind : Kind) (b : ℕ) (e : Plain) (pk : PacketView) → IsWhat b e pk kind → (kind_of pk.op ≡ k.Cls → ⊥)
    → kind ≡ Cls → ⊥
not_cls kind b e pk what none is = let w : IsWhat b e pk Cls = subst (IsWhat b e pk) is what in none (ap kind_of w.0)

ticked_at : (x : Side) (w : Machine) (l : LabView) (now : ℕ) → Ties w l → (end_of w x).phase ≡ Open
    → (act_tick (conn_at l x) now).view.state ≡ st.Open
    → (0 < length (conn_at l x).send.kept
    → (act_tick (conn_at l x) now).packets ≡ all_kept (at_moment (conn_at l x) now))
    → Sends x w l now
ticked_at x w l now t at opens puts =
    let e : Plain = end_of w x in
    let v : ConnView = conn_at l x in
    let u : ConnView = at_moment v now in
    let call : Call = Tick now in
    let m : LabView = after_call l x call in
    let s : Stepped w (TickAt x) m = tick_ties x w l now t in
    let z : Machine = s.machine in
    let view = shows x w l t at in
    let stays : (conn_at m x).state ≡ st.Open = ap (λ (c : ConnView). c.state) (conn_after x l call) ∙ opens in
    let g = tick_goes x w z (open_at x z m s.ties stays) s.step in
    let h = end_holds w x (reached_holds w t.tied.reached) in
    let same : length (end_of z x).written ≡ length e.written = ap length (g.keeps.ends x).written in
    record {
      machine = z;
      ties = s.ties;
      keeps = g.keeps;
      step = s.step;
      burst = record {
        arrived = λ i l. (g.keeps.ends (other x)).arrived i (h.writer.receipted_arrived i l);
        near = omega (arith, same, h.writer.room, h.writer.in_order, h.ok.caps.1);
        copies = λ j within.
            let r : ℕ = e.receipted in
            let b : ℕ = first_at l x in
            let i : ℕ = r + j in
            let n : ℕ = length l.copies + j in
            let found = member_at e.written i (omega (arith, same, within)) in
            let kept : v.send.kept ≡ drop r e.written = ap (λ (c : ConnView). c.send.kept) view.is in
            let there : slice_get v.send.kept j ≡ Some found.0 =
            ap (λ ks. slice_get ks j) kept ∙ drop_at r j e.written ∙ found.1 in
            let some : 0 < length v.send.kept =
            let last = slice_get_within v.send.kept j found.0 there in omega arith in
            let told : v.send.receipted ≡ told_num b r = ap (λ (c : ConnView). c.send.receipted) view.is in
            let number : num v.send.receipted 1 ≡ num b r =
            ap (λ q. num q 1) told ∙ (let after : num (told_num b r) 1 ≡ num b r = omega arith in after) in
            let pk : PacketView = item_packet u (num b i) found.0 in
            let first : slice_get (act v call).packets j ≡ Some pk =
            ap (λ ps. slice_get ps j) (puts some)
            ∙ packet_at v.send.kept u b r (num v.send.receipted 1) j found.0 number there in
            let put : slice_get m.copies n ≡ Some (stamp_after l x call pk) = put_at x l call n j pk refl first in
            let count : length l.copies ≡ length w.copies = same_count w l t in
            let sent = sent_at x w z e m n j (stamp_after l x call pk) s.ties g.becomes (omega (arith, count)) put in
            let c : Copy = sent.copy in
            let holds = reached_holds z s.ties.tied.reached in
            let ok : KindOk c.kind (end_of z x) (len_of c x) =
            subst (λ (y : Side). KindOk c.kind (end_of z y) (len_of c y)) sent.at.sender
            (copy_at z n c holds sent.at.there).kind_ok in
            let cap : (end_of z x).send_cap ≤ 64 = (end_holds z x holds).ok.caps.1 in
            let near : length (end_of z x).written ≤ r + 64 =
            omega (arith, same, h.writer.room, h.writer.in_order, h.ok.caps.1) in (
              c,
              sent.at,
              nth_of c.kind x (first_at m x) (first_at m (other x)) i (len_of c x) (end_of z x) pk
                  (items_at x z m s.ties) (sent_what x z m n (stamp_after l x call pk) sent) ok cap
                  (omega (arith, sent.len)) (ap (λ ws. slice_get ws i) (g.keeps.ends x).written ∙ found.1)
                  (ap (λ q. num q i) (sym (first_ticked x l now))) within (omega (arith, sent.len, near)),
            );
      };
      all = λ n from upto.
          let j : ℕ = n - length l.copies in
          let packets = (act v call).packets in
          let long : length m.copies ≡ length l.copies + length packets =
          ap length (copies_after x l call) ∙ length-append l.copies (map (stamp_after l x call) packets)
          ∙ ap (λ z. length l.copies + z) (length-map packets (stamp_after l x call)) in
          let found = member_of packets j (omega (arith, from, upto, long)) in
          let pk : PacketView = found.0 in
          let place : n ≡ length l.copies + j = omega (arith, from) in
          let put : slice_get m.copies n ≡ Some (stamp_after l x call pk) = put_at x l call n j pk place found.1 in
          let count : length l.copies ≡ length w.copies = same_count w l t in
          let sent =
          sent_at x w z e m n j (stamp_after l x call pk) s.ties g.becomes (omega (arith, count, place)) put in
          (sent.copy, sent.at, not_cls sent.copy.kind (first_at m x) (end_of z x) pk (sent_what x z m n (stamp_after l x call pk) sent) (ticked_no_cls x w l now t at j pk found.1));
      exact = λ some.
          let packets = (act v call).packets in
          let long : length m.copies ≡ length l.copies + length packets =
          ap length (copies_after x l call) ∙ length-append l.copies (map (stamp_after l x call) packets)
          ∙ ap (λ z. length l.copies + z) (length-map packets (stamp_after l x call)) in
          let count : length packets ≡ length v.send.kept =
          ap length (puts some) ∙ packets_count v.send.kept u (num v.send.receipted 1) in
          omega (arith, long, count);
      peers = λ y is. conn_stays y x l call is;
      taken = (_, refl);
    }

pub tick_event : (x : Side) (w : Machine) (l : LabView) → Ties w l → (end_of w x).phase ≡ Open → OnTime (conn_at l x)
    → Sends x w l (next_moment (conn_at l x))
tick_event x w l t at time =
    let v : ConnView = conn_at l x in
    let now : ℕ = next_moment v in
    let u : ConnView = at_moment v now in
    let opened : v.state ≡ st.Open = ap (λ (c : ConnView). c.state) (shows x w l t at).is in
    ticked_at x w l now t at (due_open u (not_down v time) opened)
    (λ some. due_resend u (not_down v time) (is_due v time opened some))

-- a tick that answers that it sent so many again
record Resends (u : ConnView) (sent : ℕ) (acted : Acted Ticked) : Type 0 where
  opened : acted.view.state ≡ u.state
  packets : acted.packets ≡ all_kept u
  count : sent ≡ length u.send.kept

resends_by : (u : ConnView) (count : ℕ) → (ticked_by (due_of u) u).answer ≡ ti.Resent count
    → Resends u count (ticked_by (due_of u) u)
resends_by u count =
    cond_both (is_down u) _ _ (λ d. (ticked_by d u).answer ≡ ti.Resent count → Resends u count (ticked_by d u))
    (λ _ is. absurd (cc))
    (λ _. cond_both (is_resend_due u) _ _
    (λ d. (ticked_by d u).answer ≡ ti.Resent count → Resends u count (ticked_by d u))
    (λ _ is. record { opened = refl; packets = refl; count = let same : length u.send.kept ≡ count = cc in sym same })
    (λ _. cond_both (is_probe_due u) _ _
    (λ d. (ticked_by d u).answer ≡ ti.Resent count → Resends u count (ticked_by d u)) (λ _ is. absurd (cc))
    (λ _ is. absurd (cc))))

-- the laboratory's answer
resends_at : (x : Side) (l : LabView) (now count : ℕ)
    → (happen l (TickOf x now)).answer ≡ Ok (stepped.Ticked (ti.Resent count))
    → (act_tick (conn_at l x) now).answer ≡ ti.Resent count
resends_at x l now count is = let same : (act_tick (conn_at l x) now).answer ≡ ti.Resent count = cc in same

pub record SendsAgain (x : Side) (w : Machine) (l : LabView) (now sent : ℕ) : Type 0 where
  pub sends : Sends x w l now
  pub count : (end_of w x).receipted + sent ≡ length (end_of w x).written

pub resend_event : (x : Side) (w : Machine) (l : LabView) (now count : ℕ) → Ties w l → (end_of w x).phase ≡ Open
    → (happen l (TickOf x now)).answer ≡ Ok (stepped.Ticked (ti.Resent count)) → SendsAgain x w l now count
resend_event x w l now count t at is =
    let e : Plain = end_of w x in
    let v : ConnView = conn_at l x in
    let view = shows x w l t at in
    let opened : v.state ≡ st.Open = ap (λ (c : ConnView). c.state) view.is in
    let r = resends_by (at_moment v now) count (resends_at x l now count is) in
    let kept : length v.send.kept ≡ length (drop e.receipted e.written) =
    ap (λ (c : ConnView). length c.send.kept) view.is in
    let left = length-drop e.receipted e.written in
    let h = end_holds w x (reached_holds w t.tied.reached) in
    let within = receipt_within e (end_of w (other x)) h.writer in
    record { sends = ticked_at x w l now t at (r.opened ∙ opened) (λ _. r.packets); count = omega (arith, r.count, kept, left, within) }
