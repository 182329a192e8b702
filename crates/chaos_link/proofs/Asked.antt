-- What was asked, step by step.
use Rattle.std.proofs.Common.{◌≡◌, ℕ, ◌-◌, ◌==◌, Bool, true, false, if◌then◌else◌, List, [], ◌∷◌, ◌++◌, Option, refl, ap, sym, subst, ◌∙◌, append_assoc, arith}
use Rattle.std.proofs.lemmas.List.{append-nil}
use Rattle.std.proofs.lemmas.Bool.Decides.{nat_tests}
use Rattle.std.specs.declared.net.socket_addr.SocketAddrV4.{SocketAddrV4}
use Rattle.chaos_link.specs.Fuse.{FuseView, after_blow, after_pass, asked_behind, left_after, without_one}
use Rattle.chaos_link.specs.Keeper.{Becomes, Incoming, stays}
use Rattle.chaos_link.specs.Link.{Addressed, Ask, AskedSince, Asks, Receive, Send}
use Rattle.chaos_link.specs.Peers.{PeersView, socket_of}
use Rattle.chaos_link.specs.Udp.{AsksSocket, Outgoing, ReceiveOne, SendTo, SendsBy, SendsToFixedPeers, SocketAsk, UdpView, Wait, WaitAtMost, datagrams_in, outgoing_of, outgoing_to}

pub asks_none : {S A : Type 0} (a : AskedSince S A) → Asks a a []
asks_none {S} {A} a = record { goes = λ first before was. subst (λ (l : List A). a first l) (sym (append-nil before)) was }

pub asks_both : {S A : Type 0} (a b c : AskedSince S A) (xs ys : List A) → Asks a b xs → Asks b c ys → Asks a c (xs ++ ys)
asks_both {S} {A} a b c xs ys one two = record {
  goes = λ first before was.
      subst (λ (l : List A). c first l) (append_assoc before xs ys)
      (two.goes first (before ++ xs) (one.goes first before was));
}

-- ---- behind a fuse

without_more : (k : ℕ) (before : List Ask) (ask : Ask) → (left_after k before == 1) ≡ false
    → without_one k (before ++ ask ∷ []) ≡ without_one k before ++ ask ∷ []
without_more k [] ask e = ap (λ (t : Bool). if t then [] else ask ∷ []) e
without_more k (b ∷ bs) ask e =
    elim (k == 1) as (λ t. (if t then bs ++ ask ∷ [] else b ∷ without_one (k - 1) (bs ++ ask ∷ []))
    ≡ (if t then bs else b ∷ without_one (k - 1) bs) ++ ask ∷ [])
    [ true ↦ refl | false ↦ ap (λ (l : List Ask). b ∷ l) (without_more (k - 1) bs ask e) ]

left_zero : (asks : List Ask) → left_after 0 asks ≡ 0
left_zero [] = refl
left_zero (ask ∷ asks) = left_zero asks

none_before : (k : ℕ) (asks : List Ask) → (k == 1) ≡ true → (left_after (k - 1) asks == 1) ≡ true → false ≡ true
none_before k asks one e =
    let first : k ≡ 1 = grind (arith, nat_tests) in
    let here : k - 1 ≡ 0 = omega arith in
    ap (λ (n : ℕ). n == 1) (sym (left_zero asks)) ∙ ap (λ (n : ℕ). left_after n asks == 1) (sym here) ∙ e

without_blown : (k : ℕ) (before : List Ask) (ask : Ask) → (left_after k before == 1) ≡ true
    → without_one k (before ++ ask ∷ []) ≡ without_one k before
without_blown k [] ask e = ap (λ (t : Bool). if t then [] else ask ∷ []) e
without_blown k (b ∷ bs) ask e =
    elim (k == 1) as (λ t. (k == 1) ≡ t
    → (if t then bs ++ ask ∷ [] else b ∷ without_one (k - 1) (bs ++ ask ∷ []))
    ≡ (if t then bs else b ∷ without_one (k - 1) bs)) [
      | true ↦ λ one. absurd (let wrong : false ≡ true = none_before k bs one e in cc)
      | false ↦ λ one. ap (λ (l : List Ask). b ∷ l) (without_blown (k - 1) bs ask e)
    ]
    refl

left_more : (k : ℕ) (before : List Ask) (ask : Ask) → left_after k (before ++ ask ∷ []) ≡ left_after k before - 1
left_more k [] ask = refl
left_more k (b ∷ bs) ask = left_more (k - 1) bs ask

module _ {L : Type 0} (asked : L → L → List Ask → Type 0) (old : FuseView L) (ask : Ask) where
  -- a call that the link answers, which is this then; the fuse has counted the call before
  pub fuse_passes : (blown : Bool) (inside counted : FuseView L) (last : L) → blown ≡ (old.calls_left == 1)
      → blown ≡ false → counted ≡ (if blown then after_blow old else after_pass old.inner old) → inside ≡ counted
      → Asks (asked inside.inner) (asked last) (ask ∷ [])
      → Asks (asked_behind asked old) (asked_behind asked (record inside { inner = last })) (ask ∷ [])
  fuse_passes blown inside counted last told passes count same step =
      let e : inside ≡ after_pass old.inner old =
      same ∙ count ∙ ap (λ (t : Bool). if t then after_blow old else after_pass old.inner old) passes in
      record {
        goes = λ first before was. (
          subst (λ (l : List Ask). asked last first.inner l)
              (sym
              (without_more first.calls_left before ask
              (ap (λ (n : ℕ). n == 1) (sym was.1) ∙ sym told ∙ passes)))
              (step.goes first.inner (without_one first.calls_left before)
              (subst (λ (f : FuseView L). asked f.inner first.inner (without_one first.calls_left before)) (sym e) was.0)),
          ap (λ (f : FuseView L). f.calls_left) e ∙ ap (λ (n : ℕ). n - 1) was.1
              ∙ sym (left_more first.calls_left before ask),
        );
      }

  -- the call that fails
  pub fuse_blows : (new : FuseView L) → (old.calls_left == 1) ≡ true → new ≡ after_blow old
      → Asks (asked_behind asked old) (asked_behind asked new) (ask ∷ [])
  fuse_blows new last e =
      let one : old.calls_left ≡ 1 = grind (arith, nat_tests) in
      let none : old.calls_left - 1 ≡ 0 = omega arith in
      record {
        goes = λ first before was. (
          subst (λ (i : L). asked i first.inner (without_one first.calls_left (before ++ ask ∷ [])))
              (sym (ap (λ (f : FuseView L). f.inner) e))
              (subst (λ (l : List Ask). asked old.inner first.inner l)
              (sym (without_blown first.calls_left before ask (ap (λ (n : ℕ). n == 1) (sym was.1) ∙ last))) was.0),
          ap (λ (f : FuseView L). f.calls_left) e ∙ sym none ∙ ap (λ (n : ℕ). n - 1) was.1
              ∙ sym (left_more first.calls_left before ask),
        );
      }

-- ---- over a socket

pub datagrams_both : (xs ys : List SocketAsk) → datagrams_in (xs ++ ys) ≡ datagrams_in xs ++ datagrams_in ys
datagrams_both [] ys = refl
datagrams_both (SendTo datagram ∷ xs) ys = ap (λ (ds : List Outgoing). datagram ∷ ds) (datagrams_both xs ys)
datagrams_both (ReceiveOne ∷ xs) ys = datagrams_both xs ys
datagrams_both (WaitAtMost nanos ∷ xs) ys = datagrams_both xs ys
datagrams_both (Wait waits ∷ xs) ys = datagrams_both xs ys

module _ {K : Type 0} (becomes : Becomes K) where
  -- what is sent by some asks, and then by more
  sends_both : (k : K) (p : PeersView) (xs : List Ask) (l : K) (q : PeersView) (first : List Outgoing) (ys : List Ask) (m : K)
      (r : PeersView) (second : List Outgoing) → SendsBy becomes k p xs l q first → SendsBy becomes l q ys m r second
      → SendsBy becomes k p (xs ++ ys) m r (first ++ second)
  sends_both k p [] l q first ys m r second one two =
      subst (λ (k : K). SendsBy becomes k p ys m r (first ++ second)) one.0
      (subst (λ (p : PeersView). SendsBy becomes l p ys m r (first ++ second)) one.1
      (subst (λ (ds : List Outgoing). SendsBy becomes l q ys m r (ds ++ second)) (sym one.2) two))
  sends_both k p (Send datagram ∷ xs) l q first ys m r second one two = (
    one.0 ++ second,
    ap (λ (ds : List Outgoing). ds ++ second) one.1
        ∙ append_assoc (outgoing_to (socket_of datagram.to p) datagram.bytes) one.0 second,
    sends_both k p xs l q one.0 ys m r second one.2 two,
  )
  sends_both k p (Receive may_wait ∷ xs) l q first ys m r second one two =
      (one.0, one.1, one.2, one.3, sends_both one.1 one.2 xs l q first ys m r second one.4 two)

-- fixed peers stay, and each datagram goes to where they have it
pub fixed_sends : {K : Type 0} (k : K) (p : PeersView) (asks : List Ask) (l : K) (q : PeersView) (sent : List Outgoing)
    → SendsBy stays k p asks l q sent → (q ≡ p) × (sent ≡ outgoing_of p asks)
fixed_sends k p [] l q sent is = (is.1, is.2)
fixed_sends k p (Send datagram ∷ asks) l q sent is =
    let others = fixed_sends k p asks l q is.0 is.2 in (
      others.0,
      is.1 ∙ ap (λ (ds : List Outgoing). outgoing_to (socket_of datagram.to p) datagram.bytes ++ ds) others.1,
    )
fixed_sends k p (Receive may_wait ∷ asks) l q sent is =
    let others = fixed_sends is.1 is.2 asks l q sent is.4 in
    (others.0 ∙ is.3, others.1 ∙ ap (λ (ps : PeersView). outgoing_of ps asks) is.3)

pub fixed_asks : {S : Type 0} (asked : S → S → List SocketAsk → Type 0) → SendsToFixedPeers asked
fixed_asks asked now start asks is =
    let sends = fixed_sends start.keeper start.peers asks now.keeper now.peers (datagrams_in is.socket_asks) is.sends in
    (sends.0, is.socket_asks, is.socket_asked, sends.1)

module _ {S K : Type 0} (asked : S → S → List SocketAsk → Type 0) (becomes : Becomes K) (old new inside : UdpView S K)
    (view : inside ≡ old) where
  -- one call of the link
  one_call : (ask : Ask) (asks : List SocketAsk)
      → SendsBy becomes inside.keeper inside.peers (ask ∷ []) new.keeper new.peers (datagrams_in asks)
      → Asks (asked inside.socket) (asked new.socket) asks
      → Asks (AsksSocket asked becomes old) (AsksSocket asked becomes new) (ask ∷ [])
  one_call ask asks goes step =
      subst (λ (v : UdpView S K). Asks (AsksSocket asked becomes v) (AsksSocket asked becomes new) (ask ∷ [])) view
      (record {
        goes = λ first before was. record {
          socket_asks = was.socket_asks ++ asks;
          socket_asked = step.goes first.socket was.socket_asks was.socket_asked;
          sends =
              subst
              (λ (ds : List Outgoing). SendsBy becomes first.keeper first.peers (before ++ ask ∷ []) new.keeper new.peers ds)
              (sym (datagrams_both was.socket_asks asks))
              (sends_both becomes first.keeper first.peers before inside.keeper inside.peers (datagrams_in was.socket_asks)
              (ask ∷ []) new.keeper new.peers (datagrams_in asks) was.sends goes);
        };
      })

  -- a datagram, which goes out to where its peer is
  pub one_out : (datagram : Addressed) (there : Option SocketAddrV4) (asks : List SocketAsk)
      → there ≡ socket_of datagram.to inside.peers → datagrams_in asks ≡ outgoing_to there datagram.bytes
      → new.keeper ≡ inside.keeper → new.peers ≡ inside.peers → Asks (asked inside.socket) (asked new.socket) asks
      → Asks (AsksSocket asked becomes old) (AsksSocket asked becomes new) (Send datagram ∷ [])
  one_out datagram there asks known goes keeper peers step =
      one_call (Send datagram) asks (
        [],
        goes ∙ ap (λ (o : Option SocketAddrV4). outgoing_to o datagram.bytes) known
            ∙ sym (append-nil (outgoing_to (socket_of datagram.to inside.peers) datagram.bytes)),
        (keeper, peers, refl),
      )
      step

module _ {S K : Type 0} (asked : S → S → List SocketAsk → Type 0) (becomes : Becomes K) (old heard inside : UdpView S K)
    (view : inside ≡ heard) where
  -- a receive: the link has heard, and then the keeper changes the peers
  pub one_heard : (may_wait : Bool) (came : Option Incoming) (keeper : K) (peers : PeersView) → heard.keeper ≡ old.keeper
      → heard.peers ≡ old.peers → becomes inside.keeper inside.peers came keeper peers
      → (asks : List SocketAsk) × (datagrams_in asks ≡ []) × Asks (asked old.socket) (asked heard.socket) asks
      → Asks (AsksSocket asked becomes old) (AsksSocket asked becomes (record inside { keeper = keeper; peers = peers }))
      (Receive may_wait ∷ [])
  one_heard may_wait came keeper peers same_keeper same_peers change set =
      let change_of_old : becomes old.keeper old.peers came keeper peers =
      subst (λ (k : K). becomes k old.peers came keeper peers) (ap (λ (v : UdpView S K). v.keeper) view ∙ same_keeper)
      (subst (λ (p : PeersView). becomes inside.keeper p came keeper peers)
      (ap (λ (v : UdpView S K). v.peers) view ∙ same_peers) change) in
      let step : Asks (asked old.socket) (asked inside.socket) set.0 =
      subst (λ (v : UdpView S K). Asks (asked old.socket) (asked v.socket) set.0) (sym view) set.2 in
      one_call asked becomes old (record inside { keeper = keeper; peers = peers }) old refl (Receive may_wait) set.0
      (came, keeper, peers, change_of_old, (refl, refl, set.1)) step

-- a receive of a socket, behind asks that send nothing
pub then_receive : {S K : Type 0} (asked : S → S → List SocketAsk → Type 0) (old inside : UdpView S K) (mid last : S)
    → inside ≡ old → (asks : List SocketAsk) × (datagrams_in asks ≡ []) × Asks (asked inside.socket) (asked mid) asks
    → Asks (asked mid) (asked last) (ReceiveOne ∷ [])
    → (asks : List SocketAsk) × (datagrams_in asks ≡ []) × Asks (asked old.socket) (asked last) asks
then_receive {S} {K} asked old inside mid last view set step = (
  set.0 ++ ReceiveOne ∷ [],
  datagrams_both set.0 (ReceiveOne ∷ []) ∙ ap (λ (ds : List Outgoing). ds ++ []) set.1,
  subst (λ (v : UdpView S K). Asks (asked v.socket) (asked last) (set.0 ++ ReceiveOne ∷ [])) view
      (asks_both (asked inside.socket) (asked mid) (asked last) set.0 (ReceiveOne ∷ []) set.2 step),
)
