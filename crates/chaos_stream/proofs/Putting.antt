-- What comes of putting bytes.
use Rattle.std.proofs.Common.{◌≡◌, ℕ, zero, suc, ◌+◌, ◌<◌, ◌≤◌, Bool, true, false, ◌&&◌, nat_lt, List, [], ◌∷◌, ◌++◌, take, drop, length, map, refl, ap, sym, ◌∙◌, subst, arith, append_assoc}
use Rattle.std.specs.Prelude.{if◌then◌else◌}
use Rattle.std.proofs.Math.Nat.{add-zero, zero-add, add_assoc}
use Rattle.std.proofs.lemmas.List.{length-take, length-drop, append-nil, map-append}
use Rattle.std.proofs.lemmas.Bool.{false≢true}
use Rattle.std.proofs.lemmas.Bool.Decides.{nat_tests}
use Rattle.chaos_packet.specs.Opcode.{op_data}
use Rattle.chaos_packet.specs.Packet.{PacketView, item_of}
use Rattle.chaos_packet.specs.Outbox.{OutboxView, with_put, room_of}
use Rattle.chaos_packet.specs.declared.limits.TheConstants.{MAX_DATA}
use Rattle.chaos_conn.specs.State.{is_open}
use Rattle.chaos_conn.specs.View.{ConnView}
use Rattle.chaos_conn.specs.Calls.{can_write, has_window}
use Rattle.chaos_conn.specs.Act.{act, Write}
use Rattle.chaos_stream.specs.Writing.{first_cuts, data_item, data_items, can_put, Put, after_taking, put_cuts, put_of, Puts, SendsBytes}
use Rattle.chaos_stream.proofs.Cuts.{cuts_of-step, data_items-front, drop-cut, items_text-data_items}

-- nothing more was put
abbrev stopped : ConnView → OutboxView → Put
stopped v out = record { view = v; out = out; taken = 0 }

-- What holds of each way to put bytes.
pub record IsPut (v : ConnView) (out : OutboxView) (bs : List ℕ) (p : Put) : Type 0 where
  pub within : p.taken ≤ length bs
  pub short : p.taken < length bs → can_put p.view p.out ≡ false
  pub sent : SendsBytes v p.view out p.out (take p.taken bs)
  pub config : p.view.config ≡ v.config

-- ---- one packet

both : (a b : Bool) → (a && b) ≡ true → (a ≡ true) × (b ≡ true)
both true b e = (refl, e)
both false b e = absurd (false≢true e)

-- a cut was written: it went out, and is kept last
record WritesCut (v : ConnView) (cut : List ℕ) (new : ConnView) (packets : List PacketView) : Type 0 where
  pub sent : map item_of packets ≡ data_item cut ∷ []
  pub kept : new.send.kept ≡ v.send.kept ++ data_item cut ∷ []
  pub config : new.config ≡ v.config

writes_cut : (v : ConnView) (cut : List ℕ) (now : ℕ) → can_write v ≡ true → length cut ≤ MAX_DATA
    → WritesCut v cut (act v (Write op_data cut now)).view (act v (Write op_data cut now)).packets
writes_cut v cut now can fits =
    let window = (both (has_window v.send) (is_open v.state) can).0 in
    let open_end = (both (has_window v.send) (is_open v.state) can).1 in
    let short : nat_lt MAX_DATA (length cut) ≡ false = grind (arith, nat_tests) in
    record {
      sent = rw (open_end, short, window) refl;
      kept = rw (open_end, short, window) refl;
      config = rw (open_end, short, window) refl;
    }

-- ---- all of them

with_put-nil : (out : OutboxView) → with_put out [] ≡ out
with_put-nil out = ap (λ ps. record out { packets = ps }) (append-nil out.packets)

with_put-append : (out : OutboxView) (ps qs : List PacketView) → with_put (with_put out ps) qs ≡ with_put out (ps ++ qs)
with_put-append out ps qs = ap (λ all. record out { packets = all }) (append_assoc out.packets ps qs)

is_put_stopped : (v : ConnView) (out : OutboxView) (bs : List ℕ) → (0 < length bs → can_put v out ≡ false)
    → IsPut v out bs (stopped v out)
is_put_stopped v out bs h = record {
  within = omega arith;
  short = h;
  sent =
      record { packets = []; put_out = sym (with_put-nil out); sent = refl; kept = sym (append-nil v.send.kept); text = refl };
  config = refl;
}

-- a cut, and then what is put of the rest
is_put_more : (v : ConnView) (out : OutboxView) (bs : List ℕ) (new : ConnView) (packets : List PacketView) (rest : Put)
    → 0 < length bs
    → WritesCut v (take MAX_DATA bs) new packets → IsPut new (with_put out packets) (drop MAX_DATA bs) rest
    → IsPut v out bs (after_taking (length (take MAX_DATA bs)) rest)
is_put_more v out bs new packets rest some w p =
    let cut = take MAX_DATA bs in
    let front = data_items-front rest.taken bs some p.within in
    let others = data_items (take rest.taken (drop MAX_DATA bs)) in
    let cut_is = length-take MAX_DATA bs in
    let left = length-drop MAX_DATA bs in
    record {
      within = omega (arith, p.within, cut_is, left);
      short = λ less. p.short (omega (arith, less, cut_is, left));
      sent = record {
        packets = packets ++ p.sent.packets;
        put_out = p.sent.put_out ∙ with_put-append out packets p.sent.packets;
        sent =
            map-append item_of packets p.sent.packets ∙ ap (λ t. t ++ map item_of p.sent.packets) w.sent
            ∙ ap (λ t. data_item cut ∷ t) p.sent.sent ∙ sym front;
        kept =
            p.sent.kept ∙ ap (λ k. k ++ others) w.kept ∙ append_assoc v.send.kept (data_item cut ∷ []) others
            ∙ ap (λ t. v.send.kept ++ t) (sym front);
        text = items_text-data_items (take (length cut + rest.taken) bs);
      };
      config = p.config ∙ w.config;
    }

is_put_next : (c : Bool) (v : ConnView) (out : OutboxView) (bs : List ℕ) (now : ℕ) (rest : Put) → 0 < length bs
    → can_put v out ≡ c
    → IsPut (act v (Write op_data (take MAX_DATA bs) now)).view
    (with_put out (act v (Write op_data (take MAX_DATA bs) now)).packets) (drop MAX_DATA bs) rest
    → IsPut v out bs (if c then after_taking (length (take MAX_DATA bs)) rest else stopped v out)
is_put_next true v out bs now rest some e p =
    let can = (both (can_write v) (nat_lt 0 (room_of out)) e).0 in
    let fits : length (take MAX_DATA bs) ≤ MAX_DATA = omega (arith, length-take MAX_DATA bs) in
    is_put_more v out bs _ _ rest some (writes_cut v (take MAX_DATA bs) now can fits) p
is_put_next false v out bs now rest some e p = is_put_stopped v out bs (λ _. e)

is_put : (f : ℕ) (bs : List ℕ) (v : ConnView) (out : OutboxView) (now : ℕ) → length bs ≤ f
    → IsPut v out bs (put_cuts v out now (first_cuts f bs))
is_put zero [] v out now h = is_put_stopped v out [] (λ less. absurd (omega (arith, less)))
is_put zero (b ∷ bs) v out now h = absurd (omega arith)
is_put (suc f) [] v out now h = is_put_stopped v out [] (λ less. absurd (omega (arith, less)))
is_put (suc f) (b ∷ bs) v out now h =
    let new = act v (Write op_data (take MAX_DATA (b ∷ bs)) now) in
    is_put_next (can_put v out) v out (b ∷ bs) now _ (omega arith) refl
    (is_put f (drop MAX_DATA (b ∷ bs)) new.view (with_put out new.packets) now
    (omega (arith, length-drop MAX_DATA (b ∷ bs))))

-- ---- the loop

pub after_taking-zero : (p : Put) → after_taking 0 p ≡ p
after_taking-zero p = ap (λ n. record p { taken = n }) (zero-add p.taken)

put_of-step : (v : ConnView) (out : OutboxView) (bs : List ℕ) (now : ℕ) → 0 < length bs → can_put v out ≡ true
    → put_of v out bs now
    ≡ after_taking (length (take MAX_DATA bs))
    (put_of (act v (Write op_data (take MAX_DATA bs) now)).view
    (with_put out (act v (Write op_data (take MAX_DATA bs) now)).packets) (drop MAX_DATA bs) now)
put_of-step v out bs now some e = ap (λ cuts. put_cuts v out now cuts) (cuts_of-step bs some) ∙ rw e refl

-- one more cut leaves all that is put the same
put_cut : (v : ConnView) (out : OutboxView) (now taken : ℕ) (bs : List ℕ) (total : Put) → taken < length bs
    → can_put v out ≡ true
    → after_taking taken (put_of v out (drop taken bs) now) ≡ total
    → after_taking (taken + length (take MAX_DATA (drop taken bs)))
    (put_of (act v (Write op_data (take MAX_DATA (drop taken bs)) now)).view
    (with_put out (act v (Write op_data (take MAX_DATA (drop taken bs)) now)).packets)
    (drop (taken + length (take MAX_DATA (drop taken bs))) bs) now)
    ≡ total
put_cut v out now taken bs total less e h =
    let rest = drop taken bs in
    let count = length (take MAX_DATA rest) in
    let new = act v (Write op_data (take MAX_DATA rest) now) in
    let more = put_of new.view (with_put out new.packets) (drop MAX_DATA rest) now in
    ap (λ r. after_taking (taken + count) (put_of new.view (with_put out new.packets) r now)) (drop-cut taken bs)
    ∙ ap (λ n. record more { taken = n }) (add_assoc taken count more.taken)
    ∙ ap (after_taking taken) (sym (put_of-step v out rest now (omega (arith, length-drop taken bs)) e)) ∙ h

-- and so does a turn of the loop
pub put_turn : (v : ConnView) (out : OutboxView) (now taken : ℕ) (bs : List ℕ) (total : Put) (cut : List ℕ)
    (new : ConnView) (after : OutboxView)
    → cut ≡ take MAX_DATA (drop taken bs) → new ≡ (act v (Write op_data cut now)).view
    → after ≡ with_put out (act v (Write op_data cut now)).packets
    → taken < length bs → can_put v out ≡ true → after_taking taken (put_of v out (drop taken bs) now) ≡ total
    → after_taking (taken + length cut) (put_of new after (drop (taken + length cut) bs) now) ≡ total
put_turn v out now taken bs total cut new after cut_is view_is out_is less e h =
    rw (view_is, out_is, cut_is) (put_cut v out now taken bs total less e h)

-- where no byte is left, or no more can be put, nothing more is
put_of-stopped : (v : ConnView) (out : OutboxView) (bs : List ℕ) (now : ℕ) → (0 < length bs → can_put v out ≡ false)
    → put_of v out bs now ≡ stopped v out
put_of-stopped v out [] now h = refl
put_of-stopped v out (b ∷ bs) now h = let e = h (omega arith) in rw e refl

-- what the loop leaves is what is put
pub put_ended : (v : ConnView) (out : OutboxView) (now taken : ℕ) (bs : List ℕ) (total : Put)
    → (taken < length bs → can_put v out ≡ false)
    → after_taking taken (put_of v out (drop taken bs) now) ≡ total
    → ◌≡◌ {A = Put} (record { view = v; out = out; taken = taken }) total
put_ended v out now taken bs total last h =
    ap (λ n. record { view = v; out = out; taken = n }) (sym (add-zero taken))
    ∙ ap (after_taking taken)
    (sym (put_of-stopped v out (drop taken bs) now (λ some. last (omega (arith, some, length-drop taken bs)))))
    ∙ h

-- and then all that holds of putting bytes holds of it
pub is_put_ended : (old : ConnView) (before : OutboxView) (bs : List ℕ) (now : ℕ) (v : ConnView) (out : OutboxView)
    (taken : ℕ)
    → ◌≡◌ {A = Put} (record { view = v; out = out; taken = taken }) (put_of old before bs now)
    → IsPut old before bs (record { view = v; out = out; taken = taken })
is_put_ended old before bs now v out taken e =
    subst (λ p. IsPut old before bs p) (sym e) (is_put (length bs) bs old before now (omega arith))

pub puts_ended : (old : ConnView) (before : OutboxView) (bs : List ℕ) (now : ℕ) (v : ConnView) (out : OutboxView)
    (taken : ℕ)
    → ◌≡◌ {A = Put} (record { view = v; out = out; taken = taken }) (put_of old before bs now)
    → Puts old before bs now v out taken
puts_ended old before bs now v out taken e = record {
  view = ap (λ p. p.view) e;
  out = ap (λ p. p.out) e;
  taken_is = ap (λ p. p.taken) e;
  config = (is_put_ended old before bs now v out taken e).config;
}
