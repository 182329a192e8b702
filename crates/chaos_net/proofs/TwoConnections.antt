-- Ten events by computation. They are few, so each packet is fresh.
use Rattle.std.proofs.Common.{◌≡◌, ℕ, ◌+◌, List, [], ◌∷◌, ◌++◌, length, refl, ap, subst, arith, lit<, lit≤}
use Rattle.chaos_conn.specs.Config.{usual_config}
use Rattle.chaos_lab.specs.declared.side.Side.TheVariants.{A, B}
use Rattle.chaos_net.specs.Hello.{first_name}
use Rattle.chaos_net.specs.Net.{IsNew, Name, Net, NetEvent, Reached, after_events, happens}
use Rattle.chaos_net.specs.Net.NetEvent.{Arrives}
use Rattle.chaos_net.specs.TwoConnections.{CallsAreTaken, ItemComes, OtherIsThere, before_data, both_connect, four_slots, second_name, with_data}
use Rattle.chaos_net.proofs.Hello.{usual}
use Rattle.chaos_net.proofs.Lists.{some_eq}
use Rattle.chaos_net.proofs.Network.{reached_is_played}
use Rattle.chaos_net.proofs.Short.{AreWithin, can_happen, new_within, short_runs, step_within}

new_a : IsNew (four_slots A)
new_a = record { address = 257; conns = 2; config = usual_config; right = refl; sound = usual; is = refl }

new_b : IsNew (four_slots B)
new_b = record { address = 258; conns = 2; config = usual_config; right = refl; sound = usual; is = refl }

reached_before : Reached before_data
reached_before =
    short_runs four_slots both_connect new_a new_b (lit≤ tt)
    (tt, (lit< tt, (lit< tt, (tt, (tt, (refl, (refl, (tt, (tt, (refl, tt))))))))))

reached_with : Reached with_data
reached_with =
    short_runs four_slots (both_connect ++ Arrives B 4 6 ∷ [])
    new_a new_b (lit≤ tt) (tt, (lit< tt, (lit< tt, (tt, (tt, (refl, (refl, (tt, (tt, (refl, (tt, tt)))))))))))

within_start : AreWithin 0 four_slots
within_start A = new_within (four_slots A) new_a
within_start B = new_within (four_slots B) new_b

within_after : (events : List NetEvent) (k : ℕ) (n : Net) → AreWithin k n
    → AreWithin (k + length events) (after_events n events)
within_after [] k n w = let same : k ≡ k + 0 = omega arith in subst (λ j. AreWithin j n) same w
within_after (event ∷ events) k n w =
    let same : (k + 1) + length events ≡ k + length (event ∷ events) = omega arith in
    subst (λ j. AreWithin j (after_events n (event ∷ events))) same
    (within_after events (k + 1) (happens n event) (step_within k n event w))

pub item_comes : ItemComes
item_comes = record {
  reached = reached_before;
  played = reached_is_played before_data reached_before;
  from = _;
  to = _;
  comes = record {
    packet = _;
    sent = refl;
    of_item = record { by = refl; item = refl; number = refl; near = lit≤ tt; ack = refl };
    from = refl;
    to = refl;
    there = refl;
    present = refl;
    slot = _;
    held = refl;
    named = refl;
    fresh =
        can_happen before_data 10 (Arrives B 4 6) (reached_is_played before_data reached_before)
        (within_after both_connect 0 four_slots within_start) (lit< tt) tt _ refl;
    open_end = refl;
    inside = lit< tt;
  };
  reader = _;
  there = refl;
  unclosed = refl;
  next = refl;
}

pub other_is_there : OtherIsThere
other_is_there = record {
  sender = _;
  from = refl;
  apart = λ is. let same : first_name ≡ second_name = some_eq is in
      let wrong : ◌≡◌ {A = ℕ} 0 1 = ap (λ (name : Name). name.place) same in
      absurd (omega (arith, wrong));
  other = _;
  there = refl;
  request = _;
  sent = refl;
  bare = refl;
}

pub calls_are_taken : CallsAreTaken
calls_are_taken = record {
  reached = reached_with;
  slot = _;
  named = refl;
  item = _;
  reads = refl;
  shows = refl;
  finishes = refl;
  number = _;
  writes = refl;
}
