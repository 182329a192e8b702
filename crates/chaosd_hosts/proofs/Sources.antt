-- The source of a good datagram's first packet stands at a fixed place, and a host that is where its entry says stays there.
use Rattle.std.proofs.Common.{◌≡◌, ◌∙◌, ◌+◌, ◌-◌, ◌*◌, ◌<◌, ◌==◌, ℕ, zero, suc, Bool, true, false, List, Option, Some, None, length, take, drop, get_or, set, cond, ap, arith, refl, sym, option_map, length-take, length-drop}
use Rattle.std.specs.Prelude.{if◌then◌else◌, slice_get, position, find}
use Rattle.std.specs.Option.{option_and_then}
use Rattle.std.specs.Result.{result_ok}
use Rattle.std.specs.List.{position_or_len}
use Rattle.std.specs.declared.net.socket_addr.SocketAddrV4.{SocketAddrV4}
use Rattle.std.proofs.lemmas.Bool.{eqb-true, lt-ltb}
use Rattle.std.proofs.lemmas.List.{get_or-drop, get_or-take, set-get_or}
use Rattle.std.proofs.lemmas.List.Folds.{find_at}
use Rattle.std.proofs.lemmas.List.Quantifiers.{position-Some}
use Rattle.std.proofs.lemmas.Option.{get_or_from_slice_get, same_Some, slice_get_within}
use Rattle.chaos_chudp.specs.Chudp.{chudp_fault, middle, read_with, word_in}
use Rattle.chaos_chudp.specs.declared.fault.ChudpFault.{ChudpFault}
use Rattle.chaos_link.specs.Datagram.{words_of}
use Rattle.chaos_link.specs.Packets.{fault_of_all, number_of, packets_at, read_all_by}
use Rattle.chaos_link.specs.Peers.{PeersView, entry_of, with_entry, with_entry_at}
use Rattle.chaos_link.specs.declared.fault.LinkFault.{LinkFault}
use Rattle.chaos_link.specs.declared.peers.Peer.{Peer}
use Rattle.chaos_link.proofs.Words.{word_at}
use Rattle.chaosd_hosts.specs.Following.{FollowedView, chudp_source, has_place, is_among, moved, own_source, source_in, with_place}
use Rattle.chaosd_hosts.specs.declared.following.DatagramForm.{DatagramForm}
use Rattle.chaosd_hosts.specs.declared.following.DatagramForm.TheVariants.{Own, Chudp}

-- ---- the source's place

own_word : (bytes : List ℕ) → 19 < length bytes → get_or (words_of (drop 4 bytes)) 4 0 ≡ word_in bytes 12
own_word bytes long =
    word_at (drop 4 bytes) 4 (omega (arith, length-drop 4 bytes))
    ∙ (λ i. 256 * get_or-drop 4 bytes 8 0 i + get_or-drop 4 bytes 9 0 i)

chudp_word : (bytes : List ℕ) → 19 < length bytes → get_or (words_of (middle bytes)) 4 0 ≡ word_in bytes 12
chudp_word bytes long =
    let rest = drop 4 bytes in
    let n : ℕ = length bytes - 10 in
    word_at (take n rest) 4 (omega (arith, length-drop 4 bytes, length-take n rest))
    ∙ (λ i. 256 * get_or-take n rest 8 0 (omega arith) i + get_or-take n rest 9 0 (omega arith) i)
    ∙ (λ i. 256 * get_or-drop 4 bytes 8 0 i + get_or-drop 4 bytes 9 0 i)

own_first : (number : ℕ) (bytes : List ℕ) (s : ℕ) → 19 < length bytes
    → option_map (λ packet. packet.src) (slice_get (packets_at number (words_of (drop 4 bytes))) 0) ≡ Some s → s ≡ word_in bytes 12
own_first zero bytes s long e = absurd cc
own_first (suc n) bytes s long e = sym (same_Some _ _ e) ∙ own_word bytes long

own_by : (fault : Option LinkFault) (bytes : List ℕ) (s : ℕ) → 19 < length bytes
    → option_and_then (λ packets. option_map (λ packet. packet.src) (slice_get packets 0)) (result_ok (read_all_by bytes fault)) ≡ Some s
    → s ≡ word_in bytes 12
own_by (Some f) bytes s long e = absurd cc
own_by None bytes s long e = own_first (number_of bytes) bytes s long e

chudp_by : (fault : Option ChudpFault) (bytes : List ℕ) (s : ℕ) → 19 < length bytes
    → option_map (λ delivery. delivery.packet.src) (result_ok (read_with bytes fault)) ≡ Some s → s ≡ word_in bytes 12
chudp_by (Some f) bytes s long e = absurd cc
chudp_by None bytes s long e = sym (same_Some _ _ e) ∙ chudp_word bytes long

source_word : (form : DatagramForm) (bytes : List ℕ) (s : ℕ) → 19 < length bytes → source_in form bytes ≡ Some s → s ≡ word_in bytes 12
unfolding own_source chudp_source
source_word Own bytes s long e = own_by (fault_of_all bytes) bytes s long e
source_word Chudp bytes s long e = chudp_by (chudp_fault bytes) bytes s long e

-- ---- an entry that says so already

kept_at : (hosts : List Peer) (address : ℕ) (socket : SocketAddrV4) (o : Option Peer)
    → find (λ host. host.address == address) hosts ≡ o → option_map (λ host. host.socket) o ≡ Some socket
    → with_entry (record { address = address; socket = socket }) hosts ≡ hosts
kept_at hosts address socket None is e = absurd cc
kept_at hosts address socket (Some host) is e =
    let p = λ (peer : Peer). peer.address == address in
    let i : ℕ = position_or_len p hosts in
    let here : slice_get hosts i ≡ Some host = sym (find_at p hosts) ∙ is in
    let within : i < length hosts = slice_get_within hosts i host here in
    let read : get_or hosts i host ≡ host = get_or_from_slice_get hosts i host host here in
    let found : position p hosts ≡ Some i = ap (λ b. cond b (Some i) None) (lt-ltb i (length hosts) within) in
    let test = (position-Some p hosts i host found).1 in
    let named : host.address ≡ address = ap (λ (h : Peer). h.address) (sym read) ∙ eqb-true _ address test in
    let same : host ≡ record { address = address; socket = socket } =
    (λ j. record { address = named j; socket = same_Some host.socket socket e j }) in
    ap (λ o. with_entry_at o (record { address = address; socket = socket }) hosts) found
    ∙ ap (set hosts i) (sym same ∙ sym read) ∙ set-get_or hosts i host

choose : (b : Bool) (x y : PeersView) → x ≡ y → x ≡ (if b then y else x)
choose true x y e = e
choose false x y e = refl

placed : (peers : PeersView) (address : ℕ) (socket : SocketAddrV4) → entry_of address peers.hosts ≡ Some socket
    → peers ≡ with_place (record { address = address; socket = socket }) peers
unfolding with_place
placed peers address socket e =
    choose (has_place address peers) peers _
    (λ i. record peers { hosts = sym (kept_at peers.hosts address socket (find (λ host. host.address == address) peers.hosts) refl e) i })

moved_nowhere : (followed : FollowedView) (peers : PeersView) (from : SocketAddrV4) (o : Option ℕ)
    → ((s : ℕ) → o ≡ Some s → entry_of s peers.hosts ≡ Some from) → peers ≡ moved followed peers from o
moved_nowhere followed peers from None h = refl
moved_nowhere followed peers from (Some s) h =
    choose (is_among s followed.hosts) peers _ (placed peers s from (h s refl))

-- a datagram from where its source's entry says moves nobody
pub stays_there : (followed : FollowedView) (peers : PeersView) (from : SocketAddrV4) (bytes : List ℕ) → 19 < length bytes
    → entry_of (word_in bytes 12) peers.hosts ≡ Some from → peers ≡ moved followed peers from (source_in followed.form bytes)
stays_there followed peers from bytes long e =
    moved_nowhere followed peers from (source_in followed.form bytes)
    (λ s is. ap (λ a. entry_of a peers.hosts) (source_word followed.form bytes s long is) ∙ e)
