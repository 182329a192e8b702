-- The premises of the laws, by computation.
use Rattle.std.proofs.Common.{◌≡◌, ◌≢◌, ℕ, ◌++◌, List, [], ◌∷◌, Contains, Some, None, false, true, refl, ap, inl, inr, lit<, arith, append_assoc, ◌∙◌, slice_index}
use Rattle.std.proofs.lemmas.List.Elements.{All-cons, All-nil}
use Rattle.std.specs.declared.net.socket_addr.SocketAddrV4.{SocketAddrV4}
use Rattle.chaos_packet.specs.Packet.{PacketView}
use Rattle.chaos_link.specs.Datagram.{datagram_of}
use Rattle.chaos_link.specs.Keeper.{stays}
use Rattle.chaos_link.specs.Link.{Asks}
use Rattle.chaos_link.specs.Udp.{SendTo, SocketAsk}
use Rattle.chaos_link.proofs.Asked.{one_out}
use Rattle.chaos_seal.specs.Law.{HasRightTag, Up}
use Rattle.chaos_seal.specs.Opening.{Comes, IsSealed, Opens, heard}
use Rattle.chaos_seal.specs.Peers.{is_heard_in_clear, new_peer, with_peer}
use Rattle.chaos_seal.specs.Rising.{first_head, first_payload, first_up, one_host, request}
use Rattle.chaos_seal.specs.Seal.{sealed_form}
use Rattle.chaos_seal.specs.Sending.{next_head, sent_once}
use Rattle.chaos_seal.specs.Window.{nothing_heard}
use Rattle.chaos_seal.specs.declared.opened.Opened.TheVariants as opening
use Rattle.chaos_seal.specs.declared.peer.SealPeer.{SealPeer}
use Rattle.chaos_seal.proofs.Rising.{all_from, first_opens, next, request_alone, request_carried, tagged, then_refused}
use Rattle.chaos_sealed_socket.specs.Beneath.{AsksBeneath, AsksFor}
use Rattle.chaos_sealed_socket.specs.SomeCalls.{CallsAreMade, HasOneDestination, LinkIsAsked, RequestsAreSent, SomethingIsAnswered, SomethingIsReceived, SomethingIsSent, link_over, lists_asks, over, request_to, sealing, sealing_after, stale_datagram, under_seal}
use Rattle.chaos_sealed_socket.specs.Socket.{Sealing, Sends, Turn, quiet}
use Rattle.chaos_sealed_socket.proofs.Asked.{one_call}

-- ---- what is received

abbrev IsNew : SealPeer → Type 0
IsNew p = (p.session ≡ 0) × (p.window ≡ nothing_heard)

not_sealed : IsSealed (datagram_of (request 259 258)) → ⊥
not_sealed is = let wrong : ◌≡◌ {A = ℕ} 1 3 = ap (λ (bs : List ℕ). slice_index bs 2) is in absurd (cc)

-- what comes in clear is passed up
passes : (key : List ℕ) → Opens (next false key) (datagram_of (request 259 258)) opening.Plain (next false key)
passes key =
    inl (
      not_sealed,
      inl
          (refl, λ packets carried. request_alone (λ packet. is_heard_in_clear packet.src (next false key) ≡ true) 259 258 packets refl carried),
      refl,
    )

-- and has no right tag
untagged : (key : List ℕ) (u : Up) → HasRightTag (one_host false key) u (datagram_of (request 259 258))
    → Contains (first_up first_payload ∷ []) u
untagged key u (k, known, sealed) = let wrong : ◌≡◌ {A = ℕ} 1 3 = ap (λ (bs : List ℕ). slice_index bs 2) sealed.bytes in absurd (cc)

some : first_payload ≢ []
some none = absurd (cc)

-- the host 257, once its datagram was heard; and the request to that host under seal
abbrev heard_host : List ℕ → SealPeer
heard_host key = heard (new_peer 257 key) 5 1

abbrev reply : List ℕ → List ℕ
reply key = sealed_form key (next_head (next false key) (heard_host key) 257 5) (datagram_of (request 258 257))

abbrev replied : List ℕ → SocketAddrV4 → Turn
replied key there = record {
  sealing = record {
    seals = record (next false key) { peers = with_peer (sent_once (heard_host key)) (next false key).peers };
    kept = Some (request_to there 257);
  };
  sent = record { to = there; bytes = reply key } ∷ [];
}

sends_reply : (key : List ℕ) (there : SocketAddrV4)
    → Sends (request_to there 257) (record { seals = next false key; kept = None }) (replied key there)
sends_reply key there =
    inl (
      reply key,
      (replied key there).sealing.seals,
      record {
        peer = heard_host key;
        known = refl;
        sealed = record {
          fits = record { to = lit< tt; from = lit< tt; session = lit< tt; peer = lit< tt; counter = lit< tt };
          bytes = refl;
        };
        next = refl;
      },
      refl,
    )

calls_are_made : (key : List ℕ) (there : SocketAddrV4) → CallsAreMade key there
calls_are_made key there =
    let heard_so : Sealing = record { seals = next false key; kept = None } in
    record {
      unheard = All-cons IsNew (new_peer 257 key) [] (refl, refl) (All-nil IsNew);
      makes = (
        next false key,
        quiet heard_so,
        first_opens false key first_payload some all_from,
        refl,
        (
          next false key,
          quiet heard_so,
          then_refused false key first_payload,
          refl,
          (
            next false key,
            quiet heard_so,
            passes key,
            refl,
            (
              replied key there,
              sends_reply key there,
              (record { sealing = (replied key there).sealing; sent = request_to there 259 ∷ [] }, refl, tt),
            ),
          ),
        ),
      );
      sealed = (tagged false key first_payload, (tagged false key first_payload, (untagged key, tt)));
    }

pub something_is_received : SomethingIsReceived
something_is_received = calls_are_made

-- ---- what is sent

sends_first : (key : List ℕ) (there : SocketAddrV4)
    → AsksFor (sealing key) (SendTo (request_to there 257)) (sealing_after key there) (SendTo (under_seal key there) ∷ [])
sends_first key there = (
  under_seal key there ∷ [],
  inl (
    (under_seal key there).bytes,
    (sealing_after key there).seals,
    record {
      peer = new_peer 257 key;
      known = refl;
      sealed = record {
        fits = record { to = lit< tt; from = lit< tt; session = lit< tt; peer = lit< tt; counter = lit< tt };
        bytes = refl;
      };
      next = refl;
    },
    refl,
  ),
  refl,
)

requests_are_sent : (key : List ℕ) (there : SocketAddrV4) → RequestsAreSent key there
requests_are_sent key there = record {
  beneath = record {
    beneath_asks = SendTo (under_seal key there) ∷ SendTo (request_to there 259) ∷ [];
    beneath_asked = refl;
    goes = (
      sealing_after key there,
      SendTo (under_seal key there) ∷ [],
      SendTo (request_to there 259) ∷ [],
      sends_first key there,
      (
        sealing_after key there,
        SendTo (request_to there 259) ∷ [],
        [],
        (request_to there 259 ∷ [], refl, refl),
        (refl, refl),
        refl,
      ),
      refl,
    );
  };
}

-- the list grows by what is asked
lists_more : (ask : SocketAsk) → Asks (lists_asks []) (lists_asks (ask ∷ [])) (ask ∷ [])
lists_more ask = record {
  goes = λ first before was. ap (λ (l : List SocketAsk). l ++ ask ∷ []) was ∙ append_assoc first before (ask ∷ []);
}

link_is_asked : (key : List ℕ) (there : SocketAddrV4) → LinkIsAsked key there
link_is_asked key there =
    let sent : List SocketAsk = SendTo (under_seal key there) ∷ [] in
    let old = link_over there [] (sealing key) in
    one_out (AsksBeneath lists_asks) stays old (link_over there sent (sealing_after key there)) old refl
    (record { to = 257; bytes = datagram_of (request 258 257) }) (Some there) (SendTo (request_to there 257) ∷ []) refl refl
    refl refl
    (one_call lists_asks (over [] (sealing key)) (over sent (sealing_after key there)) (SendTo (request_to there 257)) sent
    (sends_first key there) (lists_more (SendTo (under_seal key there))))

pub something_is_sent : SomethingIsSent
something_is_sent key there = (requests_are_sent key there, link_is_asked key there)

-- ---- what is answered

other_session : ◌≢◌ {A = ℕ} 8 9
other_session e = absurd (omega (arith, e))

hello_opens : (key : List ℕ) → Opens (sealing key).seals (stale_datagram key) (opening.Hello 257 5) (sealing key).seals
hello_opens key =
    let comes : Comes (sealing key).seals (stale_datagram key) (new_peer 257 key) (record first_head { peer = 8 }) first_payload =
    record {
      known = refl;
      me = refl;
      sealed = record {
        fits = record { to = lit< tt; from = lit< tt; session = lit< tt; peer = lit< tt; counter = lit< tt };
        bytes = refl;
      };
    } in
    inr
    (inr (new_peer 257 key, record first_head { peer = 8 }, first_payload, comes, (other_session, some, refl, refl, refl)))

abbrev hello : List ℕ → List ℕ
hello key = sealed_form key (next_head (sealing key).seals (new_peer 257 key) 257 5) []

abbrev greeted : List ℕ → SocketAddrV4 → Turn
greeted key there = record {
  sealing = record {
    seals = record (one_host false key) { peers = sent_once (new_peer 257 key) ∷ [] };
    kept = None;
  };
  sent = record { to = there; bytes = hello key } ∷ [];
}

pub something_is_answered : SomethingIsAnswered
something_is_answered key there = record {
  opens = hello_opens key;
  turn = greeted key there;
  replies =
      inl (
        hello key,
        (greeted key there).sealing.seals,
        record {
          peer = new_peer 257 key;
          known = refl;
          sealed = record {
            fits = record { to = lit< tt; from = lit< tt; session = lit< tt; peer = lit< tt; counter = lit< tt };
            bytes = refl;
          };
          next = refl;
        },
        refl,
      );
  sent = λ none. absurd (cc);
}

-- ---- where a datagram is to go

pub has_one_destination : HasOneDestination
has_one_destination = record {
  carried = request_carried 258 257;
  all = All-cons (λ (p : PacketView). p.dst ≡ 257) (request 258 257) [] refl (All-nil (λ (p : PacketView). p.dst ≡ 257));
}
