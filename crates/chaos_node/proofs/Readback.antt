-- What is read of the datagrams that lots of packets go out in.
use Rattle.std.proofs.Common.{◌≡◌, true, List, [], ◌∷◌, ◌++◌, map, ℕ, Result, Ok, All, append-nil, refl, ap, sym, ◌∙◌, append_assoc}
use Rattle.std.proofs.lemmas.Bool.{cond_both}
use Rattle.std.proofs.lemmas.List.Elements.{All-head, All-tail}
use Rattle.chaos_packet.specs.Packet.{PacketView}
use Rattle.chaos_link.specs.declared.carriage.Carriage.{Carriage}
use Rattle.chaos_link.specs.declared.carriage.Carriage.TheVariants.{One, Two}
use Rattle.chaos_link.specs.declared.fault.LinkFault.{LinkFault}
use Rattle.chaos_link.specs.Bundle.{datagram_of_all, fit_within}
use Rattle.chaos_link.specs.Datagram.{Carries, datagram_of}
use Rattle.chaos_link.specs.Link.{Addressed}
use Rattle.chaos_link.specs.Loads.{EachSpelled, joins, loads_from, packets_of}
use Rattle.chaos_link.specs.Packets.{packets_read}
use Rattle.chaos_link.proofs.Built.{one_fits, together}
use Rattle.chaos_link.proofs.Bundled.{carried_together, each_behind, sent_fit, spelled_in_turn}
use Rattle.chaos_link.proofs.Canon.{carried_spelling}
use Rattle.chaos_link.proofs.Either.{read_one, read_two}
use Rattle.chaos_node.specs.Link.{datagram_for, datagram_for_all, datagrams_of, packets_in, read_all, sent_by}

singly : (ps : List PacketView) → EachSpelled ps → read_all (map datagram_for ps) ≡ ps
singly [] each = refl
singly (p ∷ ps) each =
    ap (λ (r : Result (List PacketView) LinkFault). packets_in r ++ read_all (map datagram_for ps))
    (read_one p (datagram_of p) (carried_spelling p each.0))
    ∙ ap (λ (qs : List PacketView). p ∷ qs) (singly ps each.1)

-- of a packet's datagram it is read
pub one_read : (p : PacketView) (bytes : List ℕ) → Carries p bytes → bytes ≡ datagram_of p
    → read_all (datagram_for p ∷ []) ≡ p ∷ []
one_read p bytes carried exact =
    ap (λ (r : Result (List PacketView) LinkFault). packets_in r ++ [])
    (ap packets_read (sym exact) ∙ read_one p bytes carried)

-- of a load's datagram its packets
pub load_read_so : (load : List PacketView) (bytes : List ℕ) → packets_read bytes ≡ Ok load → bytes ≡ datagram_of_all load
    → read_all (datagram_for_all load ∷ []) ≡ load
load_read_so load bytes read exact =
    ap (λ (r : Result (List PacketView) LinkFault). packets_in r ++ []) (ap packets_read (sym exact) ∙ read)
    ∙ append-nil load

-- of the datagram of a load its packets are read
module _ (load : List PacketView) (fits : fit_within 1472 load ≡ true) (each : EachSpelled load) (others : List Addressed)
  where
    load_read : read_all (datagram_for_all load ∷ others) ≡ load ++ read_all others
    load_read =
        ap (λ (r : Result (List PacketView) LinkFault). packets_in r ++ read_all others)
        (read_two load (datagram_of_all load) (carried_together load (sent_fit load fits) (spelled_in_turn load each)))

loads_read : (load ps : List PacketView) → fit_within 1472 load ≡ true → EachSpelled load → EachSpelled ps
    → read_all (map datagram_for_all (loads_from load ps)) ≡ load ++ ps
loads_read load [] fits each others = load_read load fits each []
loads_read load (p ∷ ps) fits each others =
    cond_both (joins load p) _ _ (λ loads. read_all (map datagram_for_all loads) ≡ load ++ p ∷ ps)
    (λ with_it. loads_read (load ++ p ∷ []) ps (together load p with_it) (each_behind load p each others.0) others.1
    ∙ append_assoc load (p ∷ []) ps)
    (λ apart. load_read load fits each (map datagram_for_all (loads_from (p ∷ []) ps))
    ∙ ap (λ (qs : List PacketView). load ++ qs)
    (loads_read (p ∷ []) ps (one_fits p others.0.small) (others.0, tt) others.1))

lot_read : (carriage : Carriage) (lot : List PacketView) → EachSpelled lot → read_all (datagrams_of carriage lot) ≡ lot
lot_read One lot each = singly lot each
lot_read Two [] each = refl
lot_read Two (p ∷ ps) each = loads_read (p ∷ []) ps (one_fits p each.0.small) (each.0, tt) each.1

pub both_read : (ds es : List Addressed) → read_all (ds ++ es) ≡ read_all ds ++ read_all es
both_read [] es = refl
both_read (d ∷ ds) es =
    ap (λ (ps : List PacketView). packets_in (packets_read d.bytes) ++ ps) (both_read ds es)
    ∙ sym (append_assoc (packets_in (packets_read d.bytes)) (read_all ds) (read_all es))

pub read_back : (carriage : Carriage) (lots : List (List PacketView)) → All EachSpelled lots
    → read_all (sent_by carriage lots) ≡ packets_of lots
read_back carriage [] each = refl
read_back carriage (lot ∷ lots) each =
    both_read (datagrams_of carriage lot) (sent_by carriage lots)
    ∙ (ap (λ (ps : List PacketView). ps ++ read_all (sent_by carriage lots))
    (lot_read carriage lot (All-head EachSpelled lot lots each))
    ∙ ap (λ (ps : List PacketView). lot ++ ps) (read_back carriage lots (All-tail EachSpelled lot lots each)))
