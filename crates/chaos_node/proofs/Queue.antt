-- Datagrams sent one after the other, into a queue or over any link.
use Rattle.std.proofs.Common.{◌≡◌, ℕ, Bool, true, false, not, if◌then◌else◌, ◌++◌, ◌<◌, List, [], ◌∷◌, length, drop, slice_get, Option, Some, None, is_some, IfSome, Bor, refl, arith, ap, sym, ◌∙◌, subst, append_assoc}
use Rattle.std.proofs.lemmas.List.{append-nil}
use Rattle.std.specs.Option.{option_copied}
use Rattle.chaos_packet.specs.Packet.{PacketView}
use Rattle.chaos_packet.specs.Outbox.{OutboxView, without_oldest}
use Rattle.chaos_link.specs.declared.carriage.Carriage.{Carriage}
use Rattle.chaos_link.specs.declared.carriage.Carriage.TheVariants.{One, Two}
use Rattle.chaos_link.specs.Datagram.{datagram_of}
use Rattle.chaos_link.specs.Link.{Addressed, Ask, AskedSince, Asks, QueueView, Receive, Send, SendsInto, to_send, with_datagram}
use Rattle.chaos_link.specs.declared.link.Sent.{Sent}
use Rattle.chaos_node.specs.Link.{Sends, SendsLots, datagram_for, datagrams_of, has_packets, read_all, sent_by, sent_into, singly, turn_asks}
use Rattle.chaos_link.specs.Loads.{packets_of}
use Rattle.chaos_link.proofs.Asked.{asks_both, asks_none}
use Rattle.chaos_node.proofs.Readback.{both_read}

sent_twice : (queue : QueueView) (xs ys : List Addressed)
    → sent_into (sent_into queue xs) ys ≡ sent_into queue (xs ++ ys)
sent_twice queue [] ys = refl
sent_twice queue (x ∷ xs) ys = sent_twice (with_datagram x queue) xs ys

singly_both : (xs ys : List PacketView) → datagrams_of One xs ++ datagrams_of One ys ≡ datagrams_of One (xs ++ ys)
singly_both [] ys = refl
singly_both (x ∷ xs) ys = ap (λ (ds : List Addressed). datagram_for x ∷ ds) (singly_both xs ys)

pub sends_one_by_one : (queue : QueueView) (xs ys : List PacketView)
    → sent_into (sent_into queue (datagrams_of One xs)) (datagrams_of One ys)
    ≡ sent_into queue (datagrams_of One (xs ++ ys))
sends_one_by_one queue xs ys =
    sent_twice queue (datagrams_of One xs) (datagrams_of One ys) ∙ ap (sent_into queue) (singly_both xs ys)

-- one datagram was sent
pub sends_one : (before after : Option QueueView) (to : ℕ) (bytes : List ℕ) (datagram : Addressed) (answer : Sent)
    → record { to = to; bytes = bytes } ≡ datagram → IfSome before (λ queue. SendsInto to bytes answer after queue)
    → Sends before (datagram ∷ []) after
sends_one None after to bytes datagram answer same sent = tt
sends_one (Some queue) after to bytes datagram answer same sent =
    sent.1 ∙ ap (λ (d : Addressed). Some (with_datagram d queue)) same

pub asks_one : {L : Type 0} (before after : AskedSince L Ask) (to : ℕ) (bytes : List ℕ) (datagram : Addressed)
    → record { to = to; bytes = bytes } ≡ datagram
    → Asks before after (Send (record { to = to; bytes = bytes }) ∷ []) → Asks before after (to_send (datagram ∷ []))
asks_one before after to bytes datagram same sent = subst (λ (d : Addressed). Asks before after (Send d ∷ [])) same sent

-- a packet's bytes to where it goes are its datagram
pub packet_there : (p : PacketView) (to : ℕ) (bytes : List ℕ) → to ≡ p.dst → bytes ≡ datagram_of p
    → record { to = to; bytes = bytes } ≡ datagram_for p
packet_there p to bytes there e =
    ap (λ (n : ℕ). record { to = n; bytes = bytes }) there
    ∙ ap (λ (bs : List ℕ). record { to = p.dst; bytes = bs }) e

-- what was sent before, and what was sent then
pub sends_after : (before mid after : Option QueueView) (xs ys : List Addressed) → Sends before xs mid
    → Sends mid ys after → Sends before (xs ++ ys) after
sends_after None mid after xs ys first others = tt
sends_after (Some queue) mid after xs ys first others =
    let rest : Sends (Some (sent_into queue xs)) ys after =
    subst (λ (o : Option QueueView). Sends o ys after) first others in
    rest ∙ ap (λ (q : QueueView). Some q) (sent_twice queue xs ys)

to_send_both : (xs ys : List Addressed) → to_send xs ++ to_send ys ≡ to_send (xs ++ ys)
to_send_both [] ys = refl
to_send_both (x ∷ xs) ys = ap (λ (asks : List Ask). Send x ∷ asks) (to_send_both xs ys)

asks_after : {L : Type 0} (before mid after : AskedSince L Ask) (xs ys : List Addressed)
    → Asks before mid (to_send xs) → Asks mid after (to_send ys) → Asks before after (to_send (xs ++ ys))
asks_after before mid after xs ys first others =
    subst (λ (asks : List Ask). Asks before after asks) (to_send_both xs ys)
    (asks_both before mid after (to_send xs) (to_send ys) first others)

-- ---- lots

lots_both : (carriage : Carriage) (xs ys : List (List PacketView))
    → sent_by carriage xs ++ sent_by carriage ys ≡ sent_by carriage (xs ++ ys)
lots_both carriage [] ys = refl
lots_both carriage (x ∷ xs) ys =
    append_assoc (datagrams_of carriage x) (sent_by carriage xs) (sent_by carriage ys)
    ∙ ap (λ (ds : List Addressed). datagrams_of carriage x ++ ds) (lots_both carriage xs ys)

pub one_lot : (carriage : Carriage) (lot : List PacketView) → sent_by carriage (lot ∷ []) ≡ datagrams_of carriage lot
one_lot carriage lot = append-nil (datagrams_of carriage lot)

packets_both : (xs ys : List (List PacketView)) → packets_of (xs ++ ys) ≡ packets_of xs ++ packets_of ys
packets_both [] ys = refl
packets_both (x ∷ xs) ys =
    ap (λ (ps : List PacketView). x ++ ps) (packets_both xs ys) ∙ sym (append_assoc x (packets_of xs) (packets_of ys))

-- what is read of lots and of others is read of both
pub lots_read : (carriage : Carriage) (xs ys : List (List PacketView))
    → read_all (sent_by carriage xs) ≡ packets_of xs → read_all (sent_by carriage ys) ≡ packets_of ys
    → read_all (sent_by carriage (xs ++ ys)) ≡ packets_of (xs ++ ys)
lots_read carriage xs ys first others =
    ap read_all (sym (lots_both carriage xs ys)) ∙ both_read (sent_by carriage xs) (sent_by carriage ys)
    ∙ ap (λ (ps : List PacketView). ps ++ read_all (sent_by carriage ys)) first
    ∙ ap (λ (ps : List PacketView). packets_of xs ++ ps) others ∙ sym (packets_both xs ys)

-- of one lot
pub lot_read_so : (carriage : Carriage) (lot : List PacketView) → read_all (datagrams_of carriage lot) ≡ lot
    → read_all (sent_by carriage (lot ∷ [])) ≡ packets_of (lot ∷ [])
lot_read_so carriage lot e = ap read_all (one_lot carriage lot) ∙ e ∙ sym (append-nil lot)

pub queue_both : (carriage : Carriage) (before mid after : Option QueueView) (xs ys : List (List PacketView))
    → Sends before (sent_by carriage xs) mid → Sends mid (sent_by carriage ys) after
    → Sends before (sent_by carriage (xs ++ ys)) after
queue_both carriage before mid after xs ys first others =
    subst (λ (ds : List Addressed). Sends before ds after) (lots_both carriage xs ys)
    (sends_after before mid after (sent_by carriage xs) (sent_by carriage ys) first others)

-- what was asked of the link in two parts of a turn
asks_lots : {L : Type 0} (a b c : AskedSince L Ask) (carriage : Carriage) (xs ys : List (List PacketView))
    → Asks a b (to_send (sent_by carriage xs)) → Asks b c (to_send (sent_by carriage ys))
    → Asks a c (to_send (sent_by carriage (xs ++ ys)))
asks_lots a b c carriage xs ys first others =
    subst (λ (ds : List Addressed). Asks a c (to_send ds)) (lots_both carriage xs ys)
    (asks_after a b c (sent_by carriage xs) (sent_by carriage ys) first others)

-- a turn, and lots that were sent behind it
pub turn_asks_more : {L : Type 0} (a b c : AskedSince L Ask) (carriage : Carriage) (may_wait : Bool)
    (waiting : List PacketView) (xs ys : List (List PacketView))
    → Asks a b (turn_asks carriage may_wait waiting xs) → Asks b c (to_send (sent_by carriage ys))
    → Asks a c (turn_asks carriage may_wait waiting (xs ++ ys))
turn_asks_more a b c carriage may_wait waiting xs ys first others =
    let front = to_send (datagrams_of carriage waiting) in
    subst (λ (asks : List Ask). Asks a c asks)
    (append_assoc front (Receive may_wait ∷ to_send (sent_by carriage xs)) (to_send (sent_by carriage ys))
    ∙ ap (λ (asks : List Ask). front ++ Receive may_wait ∷ asks)
    (to_send_both (sent_by carriage xs) (sent_by carriage ys)
    ∙ ap to_send (lots_both carriage xs ys)))
    (asks_both a b c (turn_asks carriage may_wait waiting xs) (to_send (sent_by carriage ys)) first others)

-- the lots that were sent before, and those that were sent then
pub sends_both : {L : Type 0} {a b c : AskedSince L Ask} (carriage : Carriage) (before mid after : Option QueueView)
    (xs ys : List (List PacketView))
    → SendsLots (Asks a b) carriage before xs mid → SendsLots (Asks b c) carriage mid ys after
    → SendsLots (Asks a c) carriage before (xs ++ ys) after
sends_both {L} {a} {b} {c} carriage before mid after xs ys first others = record {
  sends = queue_both carriage before mid after xs ys first.sends others.sends;
  asks = asks_lots a b c carriage xs ys first.asks others.asks;
  read = lots_read carriage xs ys first.read others.read;
}

pub or_false : (b : Bool) → (if b then true else false) ≡ b
or_false true = refl
or_false false = refl

or_true : (b : Bool) → (if b then true else true) ≡ true
or_true true = refl
or_true false = refl

pub has_both : (xs ys : List (List PacketView))
    → has_packets (xs ++ ys) ≡ (if has_packets ys then true else has_packets xs)
has_both [] ys = sym (or_false (has_packets ys))
has_both ([] ∷ xs) ys = has_both xs ys
has_both ((p ∷ ps) ∷ xs) ys = sym (or_true (has_packets ys))

pub sends_nothing : (queue : Option QueueView) → Sends queue [] queue
sends_nothing None = tt
sends_nothing (Some queue) = refl

-- no lot was sent
pub lots_nothing : {L : Type 0} {a : AskedSince L Ask} (carriage : Carriage) (queue : Option QueueView)
    → SendsLots (Asks a a) carriage queue [] queue
lots_nothing {L} {a} carriage queue = record { sends = sends_nothing queue; asks = asks_none a; read = refl }

-- ---- what a link tells of what is sent

pub record Told (L : Type 0) : Type 1 where
  pub queue : Option QueueView
  pub asked : AskedSince L Ask

abbrev pub told : {L : Type 0} → Option QueueView → AskedSince L Ask → Told L
told queue asked = record { queue = queue; asked = asked }

-- It took these datagrams, where it is a queue, and was asked to send them.
pub record Takes {L : Type 0} (before : Told L) (datagrams : List Addressed) (after : Told L) : Type 0 where
  pub sends : Sends before.queue datagrams after.queue
  pub asks : Asks before.asked after.asked (to_send datagrams)

pub takes_nothing : {L : Type 0} (link : Told L) → Takes link [] link
takes_nothing link = record { sends = sends_nothing link.queue; asks = asks_none link.asked }

pub takes_after : {L : Type 0} (before mid after : Told L) (xs ys : List Addressed) → Takes before xs mid → Takes mid ys after
    → Takes before (xs ++ ys) after
takes_after before mid after xs ys first others = record {
  sends = sends_after before.queue mid.queue after.queue xs ys first.sends others.sends;
  asks = asks_after before.asked mid.asked after.asked xs ys first.asks others.asks;
}

-- ---- packets of which each goes in a datagram of its own

-- by carriage 1 packets go so in any case
pub each_by_one : (ps : List PacketView) → sent_by One (singly ps) ≡ datagrams_of One ps
each_by_one [] = refl
each_by_one (p ∷ ps) = ap (λ (ds : List Addressed). datagram_for p ∷ ds) (each_by_one ps)

-- one packet more
each_more : (carriage : Carriage) (ps : List PacketView) (p : PacketView)
    → sent_by carriage (singly ps) ++ datagrams_of carriage (p ∷ []) ≡ sent_by carriage (singly (ps ++ p ∷ []))
each_more carriage [] p = sym (one_lot carriage (p ∷ []))
each_more carriage (x ∷ ps) p =
    append_assoc (datagrams_of carriage (x ∷ [])) (sent_by carriage (singly ps)) (datagrams_of carriage (p ∷ []))
    ∙ ap (λ (ds : List Addressed). datagrams_of carriage (x ∷ []) ++ ds) (each_more carriage ps p)

pub packets_of_each : (ps : List PacketView) → packets_of (singly ps) ≡ ps
packets_of_each [] = refl
packets_of_each (p ∷ ps) = ap (λ (qs : List PacketView). p ∷ qs) (packets_of_each ps)

-- packets that went out as one lot
pub lot_sent : {L : Type 0} {a b : AskedSince L Ask} (carriage : Carriage) (before after : Option QueueView) (ps : List PacketView)
    → Sends before (datagrams_of carriage ps) after → Asks a b (to_send (datagrams_of carriage ps))
    → read_all (datagrams_of carriage ps) ≡ ps → SendsLots (Asks a b) carriage before (ps ∷ []) after
lot_sent {L} {a} {b} carriage before after ps sends asks read = record {
  sends = subst (λ (ds : List Addressed). Sends before ds after) (sym (one_lot carriage ps)) sends;
  asks = subst (λ (ds : List Addressed). Asks a b (to_send ds)) (sym (one_lot carriage ps)) asks;
  read = lot_read_so carriage ps read;
}

-- by carriage 1 they are a lot too where each went alone
pub each_sent : {L : Type 0} {a b : AskedSince L Ask} (before after : Option QueueView) (ps : List PacketView)
    → Sends before (sent_by One (singly ps)) after → Asks a b (to_send (sent_by One (singly ps)))
    → read_all (sent_by One (singly ps)) ≡ ps → SendsLots (Asks a b) One before (ps ∷ []) after
each_sent {L} {a} {b} before after ps sends asks read =
    lot_sent One before after ps (subst (λ (ds : List Addressed). Sends before ds after) (each_by_one ps) sends)
    (subst (λ (ds : List Addressed). Asks a b (to_send ds)) (each_by_one ps) asks)
    (ap read_all (sym (each_by_one ps)) ∙ read)

-- ---- an outbox that is emptied packet by packet

-- A packet went out alone, and is read of what went out.
pub record SentAlone {L : Type 0} (carriage : Carriage) (before after : Told L) (p : PacketView) : Type 0 where
  pub takes : Takes before (datagrams_of carriage (p ∷ [])) after
  pub read : read_all (datagrams_of carriage (p ∷ [])) ≡ p ∷ []

-- Of the packets that waited these were sent, each alone, and the others wait still.
pub record SentSoFar {L : Type 0} (carriage : Carriage) (before after : Told L) (old out : OutboxView) : Type 0 where
  pub done : List PacketView
  pub all : done ++ out.packets ≡ old.packets
  pub cap : out.cap ≡ old.cap
  pub takes : Takes before (sent_by carriage (singly done)) after
  pub read : read_all (sent_by carriage (singly done)) ≡ done

pub none_sent : {L : Type 0} (carriage : Carriage) (link : Told L) (out : OutboxView) → SentSoFar carriage link link out out
none_sent carriage link out = record { done = []; all = refl; cap = refl; takes = takes_nothing link; read = refl }

pub first_and_rest : (ps : List PacketView) (p : PacketView) → slice_get ps 0 ≡ Some p → p ∷ drop 1 ps ≡ ps
first_and_rest [] p e = absurd (cc)
first_and_rest (x ∷ ps) p e = let same : x ≡ p = cc in ap (λ (y : PacketView). y ∷ ps) (sym same)

pub one_less : (ps : List PacketView) (p : PacketView) → slice_get ps 0 ≡ Some p → length (drop 1 ps) < length ps
one_less [] p e = absurd (cc)
one_less (x ∷ ps) p e = omega arith

pub one_more_sent : {L : Type 0} (carriage : Carriage) (before mid after : Told L) (old out rest : OutboxView) (p : PacketView)
    → SentSoFar carriage before mid old out → slice_get out.packets 0 ≡ Some p → rest ≡ without_oldest out
    → SentAlone carriage mid after p → SentSoFar carriage before after old rest
one_more_sent carriage before mid after old out rest p so first e alone =
    let more = each_more carriage so.done p in
    let here : SentSoFar carriage before after old (without_oldest out)
    = record {
      done = so.done ++ p ∷ [];
      all =
          append_assoc so.done (p ∷ []) (drop 1 out.packets)
          ∙ (ap (λ (ps : List PacketView). so.done ++ ps) (first_and_rest out.packets p first) ∙ so.all);
      cap = so.cap;
      takes =
          subst (λ (ds : List Addressed). Takes before ds after) more
          (takes_after before mid after (sent_by carriage (singly so.done)) (datagrams_of carriage (p ∷ [])) so.takes alone.takes);
      read =
          ap read_all (sym more)
          ∙ both_read (sent_by carriage (singly so.done)) (datagrams_of carriage (p ∷ []))
          ∙ ap (λ (ps : List PacketView). ps ++ read_all (datagrams_of carriage (p ∷ []))) so.read
          ∙ ap (λ (ps : List PacketView). so.done ++ ps) alone.read;
    } in
    subst (λ (o : OutboxView). SentSoFar carriage before after old o) (sym e) here

pub none_left : (ps : List PacketView) → slice_get ps 0 ≡ None → ps ≡ []
none_left [] e = refl
none_left (x ∷ ps) e = absurd (cc)

-- where none waits any more, all were sent
module _ {L : Type 0} (carriage : Carriage) (before after : Told L) (old out : OutboxView)
    (so : SentSoFar carriage before after old out) (none : slice_get out.packets 0 ≡ None) where
  all_done : so.done ≡ old.packets
  all_done =
      sym (append-nil so.done)
      ∙ (ap (λ (ps : List PacketView). so.done ++ ps) (sym (none_left out.packets none)) ∙ so.all)

  pub all_sent : Takes before (sent_by carriage (singly old.packets)) after
  all_sent = subst (λ (ps : List PacketView). Takes before (sent_by carriage (singly ps)) after) all_done so.takes

  pub all_read : read_all (sent_by carriage (singly old.packets)) ≡ old.packets
  all_read = subst (λ (ps : List PacketView). read_all (sent_by carriage (singly ps)) ≡ ps) all_done so.read

  pub all_empty : out ≡ record { packets = []; cap = old.cap }
  all_empty =
      ap (λ (ps : List PacketView). record { packets = ps; cap = out.cap }) (none_left out.packets none)
      ∙ ap (λ (n : ℕ). record { packets = []; cap = n }) so.cap

-- ---- an outbox in which none waits

pub none_lent : (lent : Option (Bor PacketView)) (told : Bool) → is_some lent ≡ not told → told ≡ true
    → option_copied lent ≡ None
none_lent None told e true-told = refl
none_lent (Some p) told e true-told = absurd (cc)

nothing_by : {L : Type 0} (carriage : Carriage) (link : Told L) → Takes link (sent_by carriage ([] ∷ [])) link
nothing_by One link = takes_nothing link
nothing_by Two link = takes_nothing link

nothing_read : (carriage : Carriage) → read_all (sent_by carriage ([] ∷ [])) ≡ packets_of ([] ∷ [])
nothing_read One = refl
nothing_read Two = refl

module _ (out : OutboxView) (none : slice_get out.packets 0 ≡ None) where
  pub none_read : (carriage : Carriage) → read_all (sent_by carriage (out.packets ∷ [])) ≡ packets_of (out.packets ∷ [])
  none_read carriage =
      subst (λ (ps : List PacketView). read_all (sent_by carriage (ps ∷ [])) ≡ packets_of (ps ∷ []))
      (sym (none_left out.packets none)) (nothing_read carriage)

  pub none_goes : {L : Type 0} (carriage : Carriage) (link : Told L) → Takes link (sent_by carriage (out.packets ∷ [])) link
  none_goes carriage link =
      subst (λ (ps : List PacketView). Takes link (sent_by carriage (ps ∷ [])) link)
      (sym (none_left out.packets none)) (nothing_by carriage link)

  -- likewise where each goes alone
  pub none_read_each : (carriage : Carriage) → read_all (sent_by carriage (singly out.packets)) ≡ packets_of (singly out.packets)
  none_read_each carriage =
      subst (λ (ps : List PacketView). read_all (sent_by carriage (singly ps)) ≡ packets_of (singly ps))
      (sym (none_left out.packets none)) refl

  pub none_goes_each : {L : Type 0} (carriage : Carriage) (link : Told L) → Takes link (sent_by carriage (singly out.packets)) link
  none_goes_each carriage link =
      subst (λ (ps : List PacketView). Takes link (sent_by carriage (singly ps)) link)
      (sym (none_left out.packets none)) (takes_nothing link)

  pub none_told_each : false ≡ has_packets (singly out.packets)
  none_told_each = ap (λ (ps : List PacketView). has_packets (singly ps)) (sym (none_left out.packets none))

  pub none_empty : out ≡ record { packets = []; cap = out.cap }
  none_empty = ap (λ (ps : List PacketView). record { packets = ps; cap = out.cap }) (none_left out.packets none)

pub some_told_each : (ps : List PacketView) (lent : Option (Bor PacketView)) (told : Bool) → is_some lent ≡ not told → told ≡ false
    → option_copied lent ≡ slice_get ps 0 → true ≡ has_packets (singly ps)
some_told_each (p ∷ ps) lent told e false-told first = refl
some_told_each [] None told e false-told first = absurd (cc)
some_told_each [] (Some p) told e false-told first = absurd (cc)
