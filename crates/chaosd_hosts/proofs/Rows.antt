-- What is asked of hosts is asked of what contracts see of the hosts.
use Rattle.std.proofs.Common.{◌≡◌, ◌∙◌, ◌+◌, ◌<◌, ◌≤◌, ◌||◌, ◌∷◌, ◌++◌, ◌==◌, ℕ, Bool, true, false, List, [], Option, Some, None, length, map, refl, ap, cond, is_some, option_map, arith, sym}
use Rattle.std.specs.List.{cons_option, filter_map, find, list_any}
use Rattle.std.specs.Option.{option_or, option_to_list}
use Rattle.std.specs.declared.net.socket_addr.SocketAddrV4.{SocketAddrV4}
use Rattle.std.proofs.lemmas.Bool.{or_parts}
use Rattle.std.proofs.lemmas.List.{length-map, map-append}
use Rattle.chaos_link.specs.declared.limits.TheConstants.{MAX_PEERS}
use Rattle.chaos_link.specs.declared.peers.Peer.{Peer}
use Rattle.chaosd_hosts.specs.Table.{HostView, TableView, has_address, knows, peer_of_host}

found : {A B : Type 0} (view : A → B) (b : Bool) (x : A) (o : Option A)
    → option_map view (cond b (Some x) o) ≡ cond b (Some (view x)) (option_map view o)
found view true x o = refl
found view false x o = refl

pub find_viewed : {A B : Type 0} (view : A → B) (p : B → Bool) (xs : List A)
    → option_map view (find (λ x. p (view x)) xs) ≡ find p (map view xs)
find_viewed view p [] = refl
find_viewed view p (x ∷ xs) =
    found view (p (view x)) x (find (λ y. p (view y)) xs) ∙ ap (cond (p (view x)) (Some (view x))) (find_viewed view p xs)

pub any_viewed : {A B : Type 0} (view : A → B) (p : B → Bool) (xs : List A)
    → list_any (λ x. p (view x)) xs ≡ list_any p (map view xs)
any_viewed view p [] = refl
any_viewed view p (x ∷ xs) = ap (λ b. p (view x) || b) (any_viewed view p xs)

or_viewed : {A B : Type 0} (view : A → B) (o p : Option A)
    → option_map view (option_or o p) ≡ option_or (option_map view o) (option_map view p)
or_viewed view None p = refl
or_viewed view (Some x) p = refl

pub some_viewed : {A B : Type 0} (view : A → B) (o : Option A) (p : Option B) → option_map view o ≡ p → is_some o ≡ is_some p
some_viewed view None p e = ap is_some e
some_viewed view (Some x) p e = ap is_some e

-- the first of two lists
pub find_both : {A B : Type 0} (view : A → B) (p : B → Bool) (xs ys : List A) (o q : Option A) (us vs : List B)
    → o ≡ find (λ x. p (view x)) xs → q ≡ find (λ x. p (view x)) ys → map view xs ≡ us → map view ys ≡ vs
    → option_map view (option_or o q) ≡ option_or (find p us) (find p vs)
find_both view p xs ys o q us vs e f g h =
    or_viewed view o q
    ∙ (λ i. option_or (option_map view (e i)) (option_map view (f i)))
    ∙ (λ i. option_or (find_viewed view p xs i) (find_viewed view p ys i))
    ∙ (λ i. option_or (find p (g i)) (find p (h i)))

-- a test that the first list settles, or else the second
pub any_here : {A B : Type 0} (view : A → B) (p : B → Bool) (xs : List A) (us : List B) (r b : Bool)
    → r ≡ list_any (λ x. p (view x)) xs → map view xs ≡ us → r ≡ true → r ≡ (list_any p us || b)
any_here view p xs us r b e g t =
    t ∙ ap (λ c. c || b) (sym t ∙ e ∙ any_viewed view p xs ∙ ap (list_any p) g)

pub any_there : {A B : Type 0} (view : A → B) (p : B → Bool) (xs ys : List A) (us vs : List B) (r s : Bool)
    → r ≡ list_any (λ x. p (view x)) xs → map view xs ≡ us → r ≡ false
    → s ≡ list_any (λ x. p (view x)) ys → map view ys ≡ vs → s ≡ (list_any p us || list_any p vs)
any_there view p xs ys us vs r s e g f e' g' =
    e' ∙ any_viewed view p ys ∙ ap (list_any p) g'
    ∙ ap (λ c. c || list_any p vs) (sym f ∙ e ∙ any_viewed view p xs ∙ ap (list_any p) g)

-- ---- peers

abbrev peer_at : ℕ → SocketAddrV4 → Peer
peer_at address socket = record { address = address; socket = socket }

cons_few : {A : Type 0} (o : Option A) (xs : List A) (n : ℕ) → length xs ≤ n → length (cons_option o xs) ≤ n + 1
cons_few None xs n h = omega arith
cons_few (Some x) xs n h = omega arith

-- no more peers than hosts
pub peers_few : {A B : Type 0} (f : A → Option B) (xs : List A) → length (filter_map f xs) ≤ length xs
peers_few f [] = omega arith
peers_few f (x ∷ xs) = let h = cons_few (f x) (filter_map f xs) (length xs) (peers_few f xs) in omega arith

cons_behind : {A : Type 0} (o : Option A) (xs ys : List A) → cons_option o (xs ++ ys) ≡ cons_option o xs ++ ys
cons_behind None xs ys = refl
cons_behind (Some x) xs ys = refl

cons_last : {A : Type 0} (o : Option A) → cons_option o [] ≡ option_to_list o
cons_last None = refl
cons_last (Some x) = refl

-- one host more
pub filter_map_behind : {A B : Type 0} (f : A → Option B) (xs : List A) (x : A)
    → filter_map f (xs ++ x ∷ []) ≡ filter_map f xs ++ option_to_list (f x)
filter_map_behind f [] x = cons_last (f x)
filter_map_behind f (y ∷ xs) x =
    ap (cons_option (f y)) (filter_map_behind f xs x) ∙ cons_behind (f y) (filter_map f xs) (option_to_list (f x))

peers_fresh_at : (address at : ℕ) (udp : Option SocketAddrV4) (peers : List Peer) → (at == address) ≡ false
    → list_any (λ peer. peer.address == address) peers ≡ false
    → list_any (λ peer. peer.address == address) (cons_option (option_map (λ socket. peer_at at socket) udp) peers) ≡ false
peers_fresh_at address at None peers e f = f
peers_fresh_at address at (Some socket) peers e f =
    ap (λ b. b || list_any (λ peer. peer.address == address) peers) e ∙ f

-- an address that no host has is no peer's
pub peers_fresh : (address : ℕ) (hosts : List HostView) → list_any (has_address address) hosts ≡ false
    → list_any (λ peer. peer.address == address) (filter_map peer_of_host hosts) ≡ false
peers_fresh address [] e = refl
peers_fresh address (host ∷ hosts) e =
    let parts = or_parts (has_address address host) (list_any (has_address address) hosts) e in
    peers_fresh_at address host.address host.udp (filter_map peer_of_host hosts) parts.0 (peers_fresh address hosts parts.1)

pub peers_without : (peers : List Peer) (table : TableView) (hosts : List HostView) (address : ℕ)
    → peers ≡ filter_map peer_of_host hosts → hosts ≡ table.hosts → knows table address ≡ false
    → list_any (λ peer. peer.address == address) peers ≡ false
unfolding knows
peers_without peers table hosts address e f none =
    let parts = or_parts (list_any (has_address address) table.selves) (list_any (has_address address) table.hosts) none in
    ap (list_any (λ peer. peer.address == address)) e
    ∙ peers_fresh address hosts (ap (list_any (has_address address)) f ∙ parts.1)

pub peers_room : {A : Type 0} (view : A → HostView) (peers : List Peer) (items : List A)
    → peers ≡ filter_map peer_of_host (map view items) → length items < MAX_PEERS → length peers < MAX_PEERS
peers_room view peers items e lt =
    let few = peers_few peer_of_host (map view items) in
    omega (arith, few, ap length e, length-map items view, lt)

pub peers_pushed : {A : Type 0} (view : A → HostView) (peers more : List Peer) (items items' : List A) (host : A)
    → peers ≡ filter_map peer_of_host (map view items) → more ≡ peers ++ option_to_list (peer_of_host (view host))
    → items' ≡ items ++ host ∷ [] → more ≡ filter_map peer_of_host (map view items')
peers_pushed view peers more items items' host e f g =
    f ∙ ap (λ ps. ps ++ option_to_list (peer_of_host (view host))) e
    ∙ sym (filter_map_behind peer_of_host (map view items) (view host))
    ∙ ap (filter_map peer_of_host) (sym (ap (map view) g ∙ map-append view items (host ∷ [])))
