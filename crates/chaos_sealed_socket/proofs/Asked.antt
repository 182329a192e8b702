-- What the socket beneath was asked, step by step.
use Rattle.std.proofs.Common.{ℕ, List, [], ◌∷◌, ◌++◌, map, refl, ap, sym, subst, ◌∙◌, append_assoc, arith, inl, inr}
use Rattle.std.proofs.lemmas.List.{append-nil}
use Rattle.std.specs.declared.net.socket_addr.SocketAddr.{SocketAddr}
use Rattle.chaos_link.specs.Link.{Asks}
use Rattle.chaos_link.specs.Udp.{Outgoing, ReceiveOne, SendTo, SocketAsk}
use Rattle.chaos_link.proofs.Asked.{asks_both}
use Rattle.chaos_seal.specs.Opening.{Opens}
use Rattle.chaos_seal.specs.Peers.{SealsView}
use Rattle.chaos_seal.specs.declared.opened.Opened.{Opened}
use Rattle.chaos_sealed_socket.specs.Beneath.{AsksBeneath, AsksFor, AsksForAll, HeldBefore}
use Rattle.chaos_sealed_socket.specs.Calls.{SendsOver, TakesTurn, once_opened}
use Rattle.chaos_sealed_socket.specs.Notice.{HearsNotice}
use Rattle.chaos_sealed_socket.specs.Socket.{Replies, SealedView, Sealing}
use Rattle.chaos_sealed_socket.proofs.Sent.{one_reply}

-- what is asked for some asks, and then for more
all_both : (s : Sealing) (xs : List SocketAsk) (t : Sealing) (first : List SocketAsk) (ys : List SocketAsk) (u : Sealing)
    (second : List SocketAsk) → AsksForAll s xs t first → AsksForAll t ys u second → AsksForAll s (xs ++ ys) u (first ++ second)
all_both s [] t first ys u second one two =
    subst (λ (s : Sealing). AsksForAll s ys u (first ++ second)) one.0
    (subst (λ (l : List SocketAsk). AsksForAll t ys u (l ++ second)) (sym one.1) two)
all_both s (ask ∷ xs) t first ys u second one two = (
  one.0,
  one.1,
  one.2 ++ second,
  one.3,
  all_both one.0 xs t one.2 ys u second one.4 two,
  ap (λ (l : List SocketAsk). l ++ second) one.5 ∙ append_assoc one.1 one.2 second,
)

-- one call
pub one_call : {S O : Type 0} (asked : S → S → List SocketAsk → Type 0) (old new : SealedView S O) (ask : SocketAsk)
    (beneath : List SocketAsk) → AsksFor old.sealing ask new.sealing beneath
    → Asks (asked old.socket) (asked new.socket) beneath
    → Asks (AsksBeneath asked old) (AsksBeneath asked new) (ask ∷ [])
one_call asked old new ask beneath goes step = record {
  goes = λ first before was. record {
    beneath_asks = was.beneath_asks ++ beneath;
    beneath_asked = step.goes first.socket was.beneath_asks was.beneath_asked;
    goes =
        all_both first.sealing before old.sealing was.beneath_asks (ask ∷ []) new.sealing beneath was.goes
        (new.sealing, beneath, [], goes, (refl, refl), sym (append-nil beneath));
  };
}

-- a send
pub send_asked : {S O : Type 0} (asked : S → S → List SocketAsk → Type 0) (hears : HearsNotice O) (datagram : Outgoing)
    (old new : SealedView S O) → SendsOver asked hears datagram old new
    → Asks (AsksBeneath asked old) (AsksBeneath asked new) (SendTo datagram ∷ [])
send_asked asked hears datagram old new is =
    one_call asked old new (SendTo datagram) (map SendTo is.takes.sent) (is.takes.sent, is.takes.turn, refl) is.takes.asks

-- a receive by which nothing comes, or that opens nothing
pub receive_asked : {S O : Type 0} (asked : S → S → List SocketAsk → Type 0) (old : SealedView S O) (last : S)
    → Asks (asked old.socket) (asked last) (ReceiveOne ∷ [])
    → Asks (AsksBeneath asked old)
    (AsksBeneath asked (record { socket = last; sealing = old.sealing; observer = old.observer })) (ReceiveOne ∷ [])
receive_asked asked old last step =
    one_call asked old (record { socket = last; sealing = old.sealing; observer = old.observer }) ReceiveOne (ReceiveOne ∷ [])
    ([], inl refl, refl) step

-- a receive, and the reply to what came
pub reply_asked : {S O : Type 0} (asked : S → S → List SocketAsk → Type 0) (old new : SealedView S O) (beneath : S)
    (from : SocketAddr) (came : List ℕ) (opened : Opened) (seals : SealsView)
    → Asks (asked old.socket) (asked beneath) (ReceiveOne ∷ []) → Opens old.sealing.seals came opened seals
    → TakesTurn asked (Replies opened from) (once_opened seals beneath old) new
    → Asks (AsksBeneath asked old) (AsksBeneath asked new) (ReceiveOne ∷ [])
reply_asked asked old new beneath from came opened seals step opens takes =
    one_call asked old new ReceiveOne (ReceiveOne ∷ map SendTo takes.sent)
    (takes.sent, inr (from, came, opened, seals, opens, takes.turn), refl)
    (asks_both (asked old.socket) (asked beneath) (asked new.socket) (ReceiveOne ∷ []) (map SendTo takes.sent) step takes.asks)

-- what held of the socket beneath before the reply
pub held_before : {S O : Type 0} (asked : S → S → List SocketAsk → Type 0) (P : S → Type 0)
    → ((socket : S) → asked socket socket []) → (between new : SealedView S O) (from : SocketAddr) (opened : Opened)
    → TakesTurn asked (Replies opened from) between new → P between.socket → HeldBefore asked P new
held_before asked P began between new from opened takes held = (
  between.socket,
  takes.sent,
  one_reply opened from between.sealing (record { sealing = new.sealing; sent = takes.sent }) takes.turn,
  takes.asks.goes between.socket [] (began between.socket),
  held,
)

pub held_now : {S O : Type 0} (asked : S → S → List SocketAsk → Type 0) (P : S → Type 0)
    → ((socket : S) → asked socket socket []) → (new : SealedView S O) → P new.socket → HeldBefore asked P new
held_now asked P began new held = (new.socket, [], omega arith, began new.socket, held)

-- a call that asks for the same
pub passed_on : {S O : Type 0} (asked : S → S → List SocketAsk → Type 0) (old : SealedView S O) (last : S) (ask : SocketAsk)
    → ((s : Sealing) → AsksFor s ask s (ask ∷ [])) → Asks (asked old.socket) (asked last) (ask ∷ [])
    → Asks (AsksBeneath asked old)
    (AsksBeneath asked (record { socket = last; sealing = old.sealing; observer = old.observer })) (ask ∷ [])
passed_on asked old last ask same step =
    one_call asked old (record { socket = last; sealing = old.sealing; observer = old.observer }) ask (ask ∷ [])
    (same old.sealing) step
