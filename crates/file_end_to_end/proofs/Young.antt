-- While no slot had 256 connections, and no host sent 32,640 packets, each packet that comes is fresh.
use Rattle.std.proofs.Common.{◌≡◌, ℕ, ◌≤◌, List, [], ◌∷◌, length, Bool, true, false, Option, Some, None, Ok, Err, subst, arith}
use Rattle.std.specs.Prelude.{⊤}
use Rattle.chaos_lab.specs.declared.side.Side.{Side}
use Rattle.chaos_lab.specs.Machine.{other}
use Rattle.chaos_net.specs.Come.{ComeFresh, Upon}
use Rattle.chaos_net.specs.Net.{Name, Story, Sent, Net, Reached, IsFresh, Near, length_of}
use Rattle.chaos_net.specs.Played.{ArePlayed, HasPeer}
use Rattle.chaos_net.proofs.Network.{reached_is_played}
use Rattle.chaos_node.specs.Arrive.{Arrival}
use Rattle.file_end_to_end.specs.Young.{IsYoung, YoungIsFresh}
use Rattle.file_end_to_end.proofs.Few.{AreFew, reached_few}

own_turn : (n : Net) (x : Side) (name : Name) (s : Story) → ArePlayed n → IsYoung n → (n x).story name ≡ Some s
    → name.turn ≤ 255
own_turn n x name s h young there =
    let last = ((h x).station.stories name s there).turn in
    let most = young.turns x name.place in
    omega (arith, last, most)

-- a peer is a connection of the other host
peer_turn : (n : Net) (x : Side) (name : Name) (s : Story) (peer : Name) → ArePlayed n → IsYoung n
    → (n x).story name ≡ Some s → s.peer ≡ Some peer → peer.turn ≤ 255
peer_turn n x name s peer h young there is = by s.peer s.asked is ((h x).station.stories name s there).peer
  where
    of : (t : Story) → (n (other x)).story peer ≡ Some t → peer.turn ≤ 255
    of t at =
        let last = ((h (other x)).station.stories peer t at).turn in
        let most = young.turns (other x) peer.place in
        omega (arith, last, most)

    by : (o : Option Name) (asked : Bool) → o ≡ Some peer → HasPeer (n (other x)) name s o asked → peer.turn ≤ 255
    by None asked is p = let no : None ≡ Some peer = is in absurd (cc)
    by (Some one) asked is p = at asked (subst (λ o. HasPeer (n (other x)) name s o asked) is p)
      where
        at : (asked : Bool) → HasPeer (n (other x)) name s (Some peer) asked → peer.turn ≤ 255
        at true p = of p.0 p.1
        at false p = of p.0 p.1

near : (a b : Name) → a.turn ≤ 255 → b.turn ≤ 255 → Near a b
near a b p q = (omega (arith, p, q), omega (arith, p, q))

young_is_fresh : (n : Net) (x : Side) (q : Sent) → ArePlayed n → AreFew n → IsYoung n → IsFresh n x q
young_is_fresh n x q h few young ack c d s t by from now at index =
    let of_c = own_turn n (other x) c s h young from in
    let of_d = own_turn n x d t h young at in
    let sent_c = young.sent (other x) in
    let sent_d = young.sent x in
    let wrote_c : length s.end.written ≤ length (n (other x)).sent =
    subst (λ (o : Option Story). length_of o ≤ length (n (other x)).sent) from (few (other x) c) in
    let wrote_d : length t.end.written ≤ length (n x).sent =
    subst (λ (o : Option Story). length_of o ≤ length (n x).sent) at (few x d) in
    record {
      meant = λ m is. near d m of_d (peer_turn n (other x) c s m h young from is);
      peer = λ e is. near c e of_c (peer_turn n x d t e h young at is);
      sender = omega (arith, wrote_c, sent_c);
      receiver = omega (arith, wrote_d, sent_d);
    }

pub young_arrives : YoungIsFresh
young_arrives n x number now reached young q there =
    young_is_fresh n x q (reached_is_played n reached) (reached_few n reached) young

-- one packet at most came
abbrev pub IsOne : Arrival → Type 0
IsOne (Some (Ok (p ∷ r ∷ ps))) = ⊥
IsOne _ = ⊤

pub young_comes : (upon : Upon) (n : Net) (x : Side) (now : ℕ) (numbers : List ℕ) (came : Arrival) → Reached n → IsYoung n
    → IsOne came → ComeFresh upon n x now numbers came
young_comes upon n x now numbers None reached young one = tt
young_comes upon n x now numbers (Some (Err fault)) reached young one = tt
young_comes upon n x now [] (Some (Ok [])) reached young one = tt
young_comes upon n x now (k ∷ ks) (Some (Ok [])) reached young one = tt
young_comes upon n x now [] (Some (Ok (p ∷ ps))) reached young one = tt
young_comes upon n x now (k ∷ []) (Some (Ok (p ∷ []))) reached young one = (young_arrives n x k now reached young, tt)
young_comes upon n x now (k ∷ j ∷ ks) (Some (Ok (p ∷ []))) reached young one =
    (young_arrives n x k now reached young, tt)
young_comes upon n x now (k ∷ ks) (Some (Ok (p ∷ r ∷ ps))) reached young one = absurd one
