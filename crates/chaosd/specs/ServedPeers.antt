-- How the peers of `serve` change.
use Rattle.std.specs.Prelude.{◌≡◌, ◌⊎◌, ℕ, true, List, Option, Some, None, Ok, option_map, string_bytes}
use Rattle.chaos_link.specs.Keeper.{Incoming}
use Rattle.chaos_link.specs.Peers.{PeersView}
use Rattle.chaos_link.specs.declared.peers.Peer.{Peer}
use Rattle.chaos_chudp.specs.Hops.{HopsView}
use Rattle.chaosd_call.specs.Hops.{hops_by}
use Rattle.chaosd_hosts.specs.Following.{FollowedView, peers_behind}
use Rattle.chaosd_hosts.specs.Kept.{peers_after}
use Rattle.chaosd_hosts.specs.Keys.{has_keys_of}
use Rattle.chaosd_hosts.specs.Table.{TableView, followed_of, table_of}
use Rattle.chaosd_hosts.specs.declared.following.DatagramForm.{DatagramForm}
use Rattle.chaosd_hosts.specs.declared.following.DatagramForm.TheVariants as form
use Rattle.chaosd_line.specs.declared.framing.Framing.{Framing}
use Rattle.chaosd_line.specs.declared.framing.Framing.TheVariants as framing
use Rattle.chaosd.specs.declared.table_watch.TableWatch.{TableWatch}

-- the form of the datagrams that a framing has
abbrev pub form_by : Framing → DatagramForm
form_by (framing.Own carriage) = form.Own
form_by (framing.Chudp bridge) = form.Chudp

-- the hops of a framing: in CHUDP those over its bridge, and else each host is its own
abbrev pub hops_in : Framing → List Peer → HopsView
hops_in (framing.Own carriage) hosts = hops_by hosts None
hops_in (framing.Chudp bridge) hosts = hops_by hosts bridge

-- The text of the table that was taken in last, if the peers come from a table.
abbrev pub text_taken : {R : Type 0} → Option (TableWatch R) → Option (List ℕ)
text_taken watch = option_map (λ w. string_bytes w.file.text) watch

-- A text writes a table. Each host has the same key file there and in this table, or no key in both, and both tables are sealed or
-- neither is.
abbrev pub HasKeysOf : List ℕ → TableView → Type 0
HasKeysOf text table = (taken : TableView) × (table_of text ≡ Ok taken) × (has_keys_of taken table ≡ true)

-- Another text was taken in. It writes a table, of which these are the peers and the hosts that are followed, for a server that had
-- those peers. The hosts have the same keys as in the table that was taken in before.
abbrev pub IsReadAgain : Option (List ℕ) → FollowedView → PeersView → Option (List ℕ) → FollowedView → PeersView → Type 0
IsReadAgain taken followed peers next_taken next_followed next = (before : List ℕ) × (text : List ℕ) × (table : TableView)
    × (taken ≡ Some before) × (next_taken ≡ Some text) × (table_of text ≡ Ok table) × HasKeysOf before table
    × (next ≡ peers_after table peers) × (next_followed ≡ record followed { hosts = followed_of table })

-- A datagram moves the host that sent it, if the host is followed. Behind no datagram the table may be read again. Nothing else changes.
abbrev pub ServesPeers : Option (List ℕ) → FollowedView → PeersView → Option Incoming
    → Option (List ℕ) → FollowedView → PeersView → Type 0
ServesPeers taken followed peers (Some came) next_taken next_followed next =
    (next_taken ≡ taken) × (next_followed ≡ followed) × (next ≡ peers_behind followed peers (Some came))
ServesPeers taken followed peers None next_taken next_followed next =
    ((next_taken ≡ taken) × (next_followed ≡ followed) × (next ≡ peers))
    ⊎ IsReadAgain taken followed peers next_taken next_followed next
