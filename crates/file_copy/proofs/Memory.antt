-- A server in memory, one command after another.
use Rattle.std.proofs.Common.{◌≡◌, ℕ, ◌+◌, ◌<◌, ◌≤◌, List, [], ◌∷◌, ◌++◌, length, get_or, take, drop, Some, refl, ap, ◌∙◌, sym, subst, arith}
use Rattle.std.specs.Prelude.{map}
use Rattle.std.proofs.lemmas.List.{append_assoc, append-nil, drop-append-le, drop_more, get_or-map, length-map, map_push, take_more}
use Rattle.chaos_file.specs.Session.{SessionView}
use Rattle.chaos_file.specs.Store.{Files}
use Rattle.chaos_file.specs.Step.{file_step}
use Rattle.file_copy.specs.Copy.{Does}
use Rattle.file_copy.specs.Memory.{StepsOrStays}
use Rattle.file_copy.specs.Talk.{More, Next, Talked, with_received, with_sent}
use Rattle.file_copy.proofs.Runs.{runs_one, runs_append}

abbrev pub talk_of : List (List ℕ) → List (List ℕ) → Talked
talk_of sent received = record { sent = sent; received = received }

-- a reply more, since any earlier state
pub heard_more : (start talk now : Talked) (r : List ℕ)
    → now ≡ with_received talk.received (with_sent talk.sent start)
    → with_received (r ∷ []) now ≡ with_received (talk.received ++ r ∷ []) (with_sent (talk.sent ++ []) start)
heard_more start talk now r h =
    ap (with_received (r ∷ [])) h
    ∙ ap (λ (l : List (List ℕ)). talk_of (start.sent ++ talk.sent) l) (append_assoc start.received talk.received (r ∷ []))
    ∙ ap (λ (l : List (List ℕ)). talk_of (start.sent ++ l) (start.received ++ (talk.received ++ r ∷ [])))
    (sym (append-nil talk.sent))

-- ---- one more is received

module _ {X : Type 0} (f : X → List ℕ) (xs : List X) (i : ℕ) (x : X) (r : List ℕ) (below : i < length xs) (is : x ≡ get_or xs i x) (spelled : r ≡ f x) where
  at_place : get_or (map f xs) i r ≡ r
  at_place = get_or-map f xs i x r below ∙ ap f (sym is) ∙ sym spelled

  mapped : i < length (map f xs)
  mapped = omega (arith, length-map xs f)

  pub receives_next : (sent : List (List ℕ)) → talk_of sent (take (i + 1) (map f xs)) ≡ talk_of sent (take i (map f xs) ++ r ∷ [])
  receives_next sent = ap (talk_of sent) (take_more (map f xs) i r mapped ∙ ap (λ y. take i (map f xs) ++ y ∷ []) at_place)

  pub takes_first : Next (Some (drop i (map f xs))) (Some r) (Some (drop (i + 1) (map f xs)))
  takes_first = subst (λ d. Next (Some d) (Some r) (Some (drop (i + 1) (map f xs)))) (sym (drop_more (map f xs) i r mapped))
      (ap Some (sym at_place), refl)

-- ---- one more is sent

pub answers_one : {X : Type 0} (f : X → List ℕ) (xs all : List X) (x : X) (i : ℕ) → i ≤ length xs → all ≡ xs ++ x ∷ []
    → More (Some (drop i (map f xs))) (Some (drop i (map f all)))
answers_one f xs all x i within e = (
  f x ∷ [],
  ap (λ l. Some (drop i l)) (ap (map f) e ∙ map_push f xs x)
      ∙ ap Some (drop-append-le i (map f xs) (f x ∷ []) (omega (arith, length-map xs f))),
)

pub serves_next : {X : Type 0} (f : X → List ℕ) (m n o : Files) (s t u : SessionView) (sent all_sent replies more : List X)
    (c r : X) (command : List ℕ)
    → Does m s (map f sent) n t (map f replies) → all_sent ≡ sent ++ c ∷ [] → more ≡ replies ++ r ∷ [] → f c ≡ command
    → StepsOrStays (file_step n t command) n t o u (Some (f r)) → Does m s (map f all_sent) o u (map f more)
serves_next f m n o s t u sent all_sent replies more c r command h e g k p =
    let one = runs_append m s (map f sent) n t (map f replies) (command ∷ []) o u (f r ∷ []) h
    (runs_one n t command o u (f r) (record { files = sym p.0; session = sym p.1; reply_is = sym p.2 })) in
    let sent_is : map f all_sent ≡ map f sent ++ command ∷ [] =
    ap (map f) e ∙ map_push f sent c ∙ ap (λ x. map f sent ++ x ∷ []) k in
    let replies_are : map f more ≡ map f replies ++ f r ∷ [] = ap (map f) g ∙ map_push f replies r in
    subst (λ cs. Does m s cs o u (map f more)) (sym sent_is)
    (subst (λ rs. Does m s (map f sent ++ command ∷ []) o u rs) (sym replies_are) one)
