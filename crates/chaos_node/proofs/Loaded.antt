-- An outbox that is emptied load by load.
use Rattle.std.proofs.Common.{◌≡◌, ◌≤◌, ℕ, Bool, true, false, if◌then◌else◌, ◌++◌, List, [], ◌∷◌, length, drop, map, slice_get, All, Option, Some, None, IfSome, arith, refl, ap, sym, ◌∙◌, subst, append_assoc, append-nil}
use Rattle.std.proofs.lemmas.List.Elements.{All-head}
use Rattle.chaos_packet.specs.Packet.{PacketView}
use Rattle.chaos_packet.specs.Outbox.{OutboxView, without_oldest}
use Rattle.chaos_link.specs.declared.carriage.Carriage.TheVariants.{Two}
use Rattle.chaos_link.specs.Bundle.{datagram_of_all}
use Rattle.chaos_link.specs.Link.{Addressed, Ask, AskedSince, Asks, QueueView, Send, SendsInto, to_send}
use Rattle.chaos_link.specs.declared.link.Sent.{Sent}
use Rattle.chaos_link.specs.Loads.{joined, joins, loads_from, loads_of}
use Rattle.chaos_node.specs.Link.{Sends, datagram_for_all, datagrams_of, destination_of, read_all}
use Rattle.chaos_node.proofs.Readback.{both_read}
use Rattle.chaos_node.proofs.Queue.{Takes, Told, asks_one, first_and_rest, none_left, sends_one, takes_after, takes_nothing}

-- These datagrams were sent; a load is begun, and the other packets wait still.
pub record LoadedSoFar {L : Type 0} (before after : Told L) (old out : OutboxView) (load : List PacketView) : Type 0 where
  pub done : List Addressed
  pub takes : Takes before done after
  pub whole : done ++ map datagram_for_all (loads_from load out.packets) ≡ datagrams_of Two old.packets
  pub cap : out.cap ≡ old.cap
  -- what is read of what was sent, and what is left, are all
  pub read : read_all done ++ (load ++ out.packets) ≡ old.packets

pub first_loaded : {L : Type 0} (link : Told L) (old out : OutboxView) (load : List PacketView) (p : PacketView)
    → slice_get old.packets 0 ≡ Some p → out ≡ without_oldest old → load ≡ p ∷ [] → LoadedSoFar link link old out load
first_loaded link old out load p first rest e =
    let here : LoadedSoFar link link old (without_oldest old) (p ∷ [])
    =
    record { done = []; takes = takes_nothing link; whole = ap (λ (ps : List PacketView). map datagram_for_all (loads_of ps)) (first_and_rest old.packets p first); cap = refl; read = first_and_rest old.packets p first } in
    subst (λ (o : OutboxView). LoadedSoFar link link old o load) (sym rest)
    (subst (λ (ps : List PacketView). LoadedSoFar link link old (without_oldest old) ps) (sym e) here)

-- a packet that joins
from_joined : (load ps : List PacketView) (p : PacketView) → joins load p ≡ true
    → loads_from (joined load p) ps ≡ loads_from load (p ∷ ps)
from_joined load ps p e =
    ap (λ (t : Bool). loads_from (if t then load ++ p ∷ [] else load) ps) e
    ∙ sym (ap (λ (t : Bool). if t then loads_from (load ++ p ∷ []) ps else load ∷ loads_from (p ∷ []) ps) e)

pub one_joined : {L : Type 0} (before mid : Told L) (old out rest : OutboxView) (load more : List PacketView)
    (p : PacketView)
    → LoadedSoFar before mid old out load → slice_get out.packets 0 ≡ Some p → rest ≡ without_oldest out
    → joins load p ≡ true → more ≡ joined load p
    → LoadedSoFar before mid old rest more
one_joined before mid old out rest load more p so first left joins e =
    let whole = ap (λ (loads : List (List PacketView)). so.done ++ map datagram_for_all loads)
    (from_joined load (drop 1 out.packets) p joins ∙ ap (loads_from load) (first_and_rest out.packets p first))
    ∙ so.whole in
    let here : LoadedSoFar before mid old (without_oldest out) (joined load p) =
    record {
      done = so.done;
      takes = so.takes;
      whole = whole;
      cap = so.cap;
      read =
          ap (λ (b : Bool). read_all so.done ++ ((if b then load ++ p ∷ [] else load) ++ drop 1 out.packets)) joins
          ∙ ap (λ (ps : List PacketView). read_all so.done ++ ps)
          (append_assoc load (p ∷ []) (drop 1 out.packets)
          ∙ ap (λ (ps : List PacketView). load ++ ps) (first_and_rest out.packets p first))
          ∙ so.read;
    } in
    subst (λ (o : OutboxView). LoadedSoFar before mid old o more) (sym left)
    (subst (λ (ps : List PacketView). LoadedSoFar before mid old (without_oldest out) ps) (sym e) here)

-- a packet that begins the next load
from_next : (load ps : List PacketView) (p : PacketView) → joins load p ≡ false
    → load ∷ loads_from (p ∷ []) ps ≡ loads_from load (p ∷ ps)
from_next load ps p e =
    sym (ap (λ (t : Bool). if t then loads_from (load ++ p ∷ []) ps else load ∷ loads_from (p ∷ []) ps) e)

kept_so : (load kept : List PacketView) (p : PacketView) → joins load p ≡ false → kept ≡ joined load p → kept ≡ load
kept_so load kept p e same = same ∙ ap (λ (t : Bool). if t then load ++ p ∷ [] else load) e

pub one_begun : {L : Type 0} (before mid after : Told L) (old out rest : OutboxView) (load kept next : List PacketView)
    (p : PacketView)
    → LoadedSoFar before mid old out load → slice_get out.packets 0 ≡ Some p → rest ≡ without_oldest out
    → joins load p ≡ false → kept ≡ joined load p
    → Takes mid (datagram_for_all kept ∷ []) after → read_all (datagram_for_all kept ∷ []) ≡ kept
    → next ≡ p ∷ [] → LoadedSoFar before after old rest next
one_begun before mid after old out rest load kept next p so first left joins same takes read e =
    let d = datagram_for_all load in
    let sent : Takes mid (d ∷ []) after =
    subst (λ (ps : List PacketView). Takes mid (datagram_for_all ps ∷ []) after) (kept_so load kept p joins same)
    takes in
    let whole = append_assoc so.done (d ∷ []) (map datagram_for_all (loads_from (p ∷ []) (drop 1 out.packets)))
    ∙ (ap (λ (loads : List (List PacketView)). so.done ++ map datagram_for_all loads)
    (from_next load (drop 1 out.packets) p joins ∙ ap (loads_from load) (first_and_rest out.packets p first))
    ∙ so.whole) in
    let here : LoadedSoFar before after old (without_oldest out) (p ∷ [])
    =
    record {
      done = so.done ++ d ∷ [];
      takes = takes_after before mid after so.done (d ∷ []) so.takes sent;
      whole = whole;
      cap = so.cap;
      read =
          ap (λ (ps : List PacketView). ps ++ p ∷ drop 1 out.packets) (both_read so.done (d ∷ []))
          ∙ append_assoc (read_all so.done) (read_all (d ∷ [])) (p ∷ drop 1 out.packets)
          ∙ ap (λ (ps : List PacketView). read_all so.done ++ (ps ++ p ∷ drop 1 out.packets))
          (subst (λ (ps : List PacketView). read_all (datagram_for_all ps ∷ []) ≡ ps) (kept_so load kept p joins same) read)
          ∙ ap (λ (ps : List PacketView). read_all so.done ++ (load ++ ps)) (first_and_rest out.packets p first)
          ∙ so.read;
    } in
    subst (λ (o : OutboxView). LoadedSoFar before after old o next) (sym left)
    (subst (λ (ps : List PacketView). LoadedSoFar before after old (without_oldest out) ps) (sym e) here)

-- where none waits any more, the load that is begun is the last
module _ {L : Type 0} (before mid after : Told L) (old out : OutboxView) (load : List PacketView)
    (so : LoadedSoFar before mid old out load) (none : slice_get out.packets 0 ≡ None) where
  pub all_loaded : Takes mid (datagram_for_all load ∷ []) after → Takes before (datagrams_of Two old.packets) after
  all_loaded takes =
      let whole =
      ap (λ (ps : List PacketView). so.done ++ map datagram_for_all (loads_from load ps))
      (sym (none_left out.packets none))
      ∙ so.whole in
      subst (λ (ds : List Addressed). Takes before ds after) whole
      (takes_after before mid after so.done (datagram_for_all load ∷ []) so.takes takes)

  pub loads_read_then : read_all (datagram_for_all load ∷ []) ≡ load
      → read_all (datagrams_of Two old.packets) ≡ old.packets
  loads_read_then read =
      ap read_all
      (sym so.whole
      ∙ ap (λ (ps : List PacketView). so.done ++ map datagram_for_all (loads_from load ps)) (none_left out.packets none))
      ∙ both_read so.done (datagram_for_all load ∷ [])
      ∙ ap (λ (ps : List PacketView). read_all so.done ++ ps) (read ∙ sym (append-nil load))
      ∙ ap (λ (ps : List PacketView). read_all so.done ++ (load ++ ps)) (sym (none_left out.packets none))
      ∙ so.read

  pub empty_then : out ≡ record { packets = []; cap = old.cap }
  empty_then =
      ap (λ (ps : List PacketView). record { packets = ps; cap = out.cap }) (none_left out.packets none)
      ∙ ap (λ (n : ℕ). record { packets = []; cap = n }) so.cap

-- ---- a load is sent where its packets go

goes_there : (load : List PacketView) (to : ℕ) → All (λ p. p.dst ≡ to) load → 1 ≤ length load → to ≡ destination_of load
goes_there [] to all some = absurd (omega (arith, some))
goes_there (p ∷ ps) to all some = sym (All-head (λ q. q.dst ≡ to) p ps all)

-- what was sent there is the load's datagram
load_there : (load : List PacketView) (to : ℕ) (bytes : List ℕ) → All (λ p. p.dst ≡ to) load → 1 ≤ length load
    → bytes ≡ datagram_of_all load → record { to = to; bytes = bytes } ≡ datagram_for_all load
load_there load to bytes all some e =
    ap (λ (n : ℕ). record { to = n; bytes = bytes }) (goes_there load to all some)
    ∙ ap (λ (bs : List ℕ). record { to = destination_of load; bytes = bs }) e

pub load_taken : (before after : Option QueueView) (load : List PacketView) (to : ℕ) (bytes : List ℕ) (answer : Sent)
    → All (λ p. p.dst ≡ to) load → 1 ≤ length load → bytes ≡ datagram_of_all load
    → IfSome before (λ queue. SendsInto to bytes answer after queue) → Sends before (datagram_for_all load ∷ []) after
load_taken before after load to bytes answer all some e sent =
    sends_one before after to bytes (datagram_for_all load) answer (load_there load to bytes all some e) sent

pub load_asked : {L : Type 0} (before after : AskedSince L Ask) (load : List PacketView) (to : ℕ) (bytes : List ℕ)
    → All (λ p. p.dst ≡ to) load → 1 ≤ length load → bytes ≡ datagram_of_all load
    → Asks before after (Send (record { to = to; bytes = bytes }) ∷ [])
    → Asks before after (to_send (datagram_for_all load ∷ []))
load_asked before after load to bytes all some e sent =
    asks_one before after to bytes (datagram_for_all load) (load_there load to bytes all some e) sent

-- none waited
module _ (old : OutboxView) (none : slice_get old.packets 0 ≡ None) where
  pub no_load_read : read_all (datagrams_of Two old.packets) ≡ old.packets
  no_load_read =
      subst (λ (ps : List PacketView). read_all (datagrams_of Two ps) ≡ ps) (sym (none_left old.packets none)) refl

  pub no_load_sent : {L : Type 0} (link : Told L) → Takes link (datagrams_of Two old.packets) link
  no_load_sent link =
      subst (λ (ps : List PacketView). Takes link (datagrams_of Two ps) link) (sym (none_left old.packets none))
      (takes_nothing link)
