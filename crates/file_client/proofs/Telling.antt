-- What a call says and hears, step after step.
use Rattle.std.proofs.Common.{◌≡◌, ℕ, Bool, true, false, List, [], ◌∷◌, ◌++◌, sym, ap, ◌∙◌, subst, append-nil, inl, inr}
use Rattle.std.specs.Prelude.{map, Option, Some, None}
use Rattle.std.proofs.lemmas.List.{map_push}
use Rattle.chaos_link.specs.Link.{Ask, QueueView}
use Rattle.file_copy.specs.Talk.{Talked, received_in, sent_if, with_received, with_sent}
use Rattle.file_client.specs.Caller.{CallerView, Receives, Sends, TurnsOrStops, asked_again}
use Rattle.file_client.specs.Pace.{Pace}
use Rattle.file_client.specs.Talk.{Talker, Writes, Reads, Turns, Says, SaysAt, and_then, command_item, talker}
use Rattle.file_client.proofs.Asked.{asks_of}
use Rattle.file_client.proofs.Talking.{talks_step}

module _ (p : Pace) (first : Talker) where
  -- of a link of which that may have been asked, too
  says_by : (A B : List Ask → Type 0) → ((asks : List Ask) → A asks → B asks) → (last : Talker) (talk : Talked)
      → Says p A first talk last → Says p B first talk last
  says_by A B f last talk s =
      record { whole = s.whole; talks = s.talks; asked = f s.whole.asks s.asked; sent = s.sent; received = s.received }

  -- nothing more was said or heard
  says_still : (A : List Ask → Type 0) (last : Talker) (talk : Talked) → Says p A first talk last
      → Says p A first (with_received [] (with_sent [] talk)) last
  says_still A last talk s = record {
    whole = s.whole;
    talks = s.talks;
    asked = s.asked;
    sent = s.sent ∙ ap (map command_item) (sym (append-nil talk.sent));
    received = s.received ∙ sym (append-nil talk.received);
  }

  says_sent : (A : List Ask → Type 0) (a b : Talker) (talk : Talked) (command : List ℕ) (now : ℕ) (taken : Bool)
      → p.Shows now → Sends (command_item command) now taken a.caller b.caller → b.queue ≡ a.queue → Says p A first talk a
      → Says p A first (with_received [] (with_sent (sent_if taken command) talk)) b
  says_sent A a b talk command now true shown sends same s = record {
    whole = and_then s.whole (Writes (command_item command) now true);
    talks = talks_step p first a b s.whole (Writes (command_item command) now true) s.talks (shown, sends, same);
    asked = s.asked;
    sent = ap (λ l. l ++ command_item command ∷ []) s.sent ∙ sym (map_push command_item talk.sent command);
    received = s.received ∙ sym (append-nil talk.received);
  }
  says_sent A a b talk command now false shown sends same s = says_still A b talk (record {
    whole = s.whole;
    talks = talks_step p first a b s.whole (Writes (command_item command) now false) s.talks (shown, sends, same);
    asked = s.asked;
    sent = s.sent;
    received = s.received;
  })

  says_received : (A : List Ask → Type 0) (a b : Talker) (talk : Talked) (got : Option (List ℕ))
      → Receives got a.caller b.caller → b.queue ≡ a.queue → Says p A first talk a
      → Says p A first (with_received (received_in got) (with_sent [] talk)) b
  says_received A a b talk None receives same s = says_still A b talk (record {
    whole = s.whole;
    talks = talks_step p first a b s.whole (Reads None) s.talks (receives, same);
    asked = s.asked;
    sent = s.sent;
    received = s.received;
  })
  says_received A a b talk (Some bytes) receives same s = record {
    whole = and_then s.whole (Reads (Some bytes));
    talks = talks_step p first a b s.whole (Reads (Some bytes)) s.talks (receives, same);
    asked = s.asked;
    sent = s.sent ∙ ap (map command_item) (sym (append-nil talk.sent));
    received = ap (λ l. l ++ bytes ∷ []) s.received;
  }

  -- ---- a call's, over a link of which the one relation says what was asked before, and the other what was asked then

  module _ (A B : List Ask → Type 0) where
    pub says_sent_at : ((asks : List Ask) → A asks → B asks) → (a b : Talker) (talk : Talked) (command : List ℕ)
        (began was now : ℕ) (taken : Bool)
        → Sends (command_item command) was taken a.caller b.caller → b.queue ≡ a.queue → now ≡ was
        → SaysAt p A first began talk a was
        → SaysAt p B first began (with_received [] (with_sent (sent_if taken command) talk)) b now
    says_sent_at alike a b talk command began was now taken sends queue same said shown =
        let (is, says) = said shown in
        (subst p.Shows (sym same) is, says_by A B alike b _ (says_sent A a b talk command was taken is sends queue says))

    pub says_received_at : ((asks : List Ask) → A asks → B asks) → (a b : Talker) (talk : Talked) (got : Option (List ℕ))
        (began was now : ℕ)
        → Receives got a.caller b.caller → b.queue ≡ a.queue → now ≡ was → SaysAt p A first began talk a was
        → SaysAt p B first began (with_received (received_in got) (with_sent [] talk)) b now
    says_received_at alike a b talk got began was now receives queue same said shown =
        let (is, says) = said shown in
        (subst p.Shows (sym same) is, says_by A B alike b _ (says_received A a b talk got receives queue says))

    -- what is asked in the turn goes on what was asked before
    pub says_turn_at : (Asked : List Ask → Type 0) → ((asks more : List Ask) → A asks → Asked more → B (asks ++ more))
        → (c d : CallerView) (before after : Option QueueView) (talk : Talked) (began was now : ℕ)
        → TurnsOrStops p Asked was now before after c d → SaysAt p A first began talk (talker c before) was
        → SaysAt p B first began (with_received [] (with_sent [] talk)) (talker d after) now
    says_turn_at Asked on c d before after talk began was now (inl (at, (same, queue, nothing))) said shown =
        let (is, says) = said shown in
        let on_none : (asks : List Ask) → A asks → B asks =
        λ asks asked. subst B (append-nil asks) (on asks [] asked nothing) in (
          subst p.Shows (sym at) is,
          says_still B (talker d after) talk
              (subst (λ x. Says p B first talk (talker x after)) (sym same)
              (subst (λ q. Says p B first talk (talker c q)) (sym queue)
              (says_by A B on_none (talker c before) talk says))),
        )
    says_turn_at Asked on c d before after talk began was now (inr (at, turns)) said shown =
        let (is, says) = said shown in
        let (more, asked, exact) = asks_of Asked (p.Waits true) now before after (asked_again p now c) d turns in (
          at,
          says_still B (talker d after) talk (record {
            whole = and_then says.whole (Turns now more);
            talks =
                talks_step p first (talker c before) (talker d after) says.whole (Turns now more) says.talks (at, exact);
            asked = on says.whole.asks more says.asked asked;
            sent = says.sent;
            received = says.received;
          }),
        )
