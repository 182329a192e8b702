-- A client that is idle: whatever happens meanwhile, the client is ready for an operation, and is idle again after the operation.
use Rattle.std.proofs.Common.{◌≡◌, ◌⊎◌, ℕ, List, [], ◌∷◌, ◌++◌, drop, length, Some, refl, sym, ap, ◌∙◌, inl, inr, ⊎_elim}
use Rattle.std.proofs.lemmas.List.{append-nil, append_cancel_left}
use Rattle.chaos_file.specs.Store.{Files}
use Rattle.chaos_lab.specs.declared.side.Side.TheVariants.{A}
use Rattle.chaos_net.specs.Net.{Name, Story}
use Rattle.chaos_net.specs.Present.{read_of, written_of}
use Rattle.file_copy.specs.Copy.{logged_in}
use Rattle.file_lab.specs.Bodies.{data_bodies}
use Rattle.file_net.specs.History.{Transaction, Service, new_service, after_all, commands_by}
use Rattle.file_net.specs.FileNet.{FileNet, FileEvent, FileRun, FileReached}
use Rattle.file_net.specs.Operations.{IsClient, IsReady}
use Rattle.file_lab.proofs.BodyLists.{begins_split}
use Rattle.file_net.proofs.Lists.{commands_append}
use Rattle.file_net.proofs.Clients.{answered_once}
use Rattle.file_net.proofs.Kept.{file_net, histories_grow}
use Rattle.file_net.proofs.Parts.{after_append, head_eq, silent, tail_eq}
use Rattle.file_end_to_end.specs.World.{IsIdle, heard_by, said_by}

-- ---- lists

-- of two prefixes of a list one is a prefix of the other
abbrev OneIsPrefix : {X : Type 0} → List X → List X → Type 0
OneIsPrefix {X} xs ys = ((more : List X) × (ys ≡ xs ++ more)) ⊎ ((more : List X) × (xs ≡ ys ++ more))

two_prefixes : {X : Type 0} (xs ys us vs : List X) → xs ++ us ≡ ys ++ vs → OneIsPrefix xs ys
two_prefixes [] ys us vs e = inl (ys, refl)
two_prefixes (x ∷ xs) [] us vs e = inr (x ∷ xs, refl)
two_prefixes {X} (x ∷ xs) (y ∷ ys) us vs e =
    ⊎_elim
    (λ (k : (more : List X) × (ys ≡ xs ++ more)). inl (k.0, (λ j. head_eq (sym e) j ∷ k.1 j)))
    (λ (k : (more : List X) × (xs ≡ ys ++ more)). inr (k.0, (λ j. head_eq e j ∷ k.1 j)))
    (two_prefixes xs ys us vs (tail_eq e))

-- ---- all that was said is served

module _ (m : Files) (f : FileNet) (a c : Name) (s : Story) (reached : FileReached m f) (client : IsClient f a s c) where
  -- if the user has read as many replies as the user wrote commands
  pub all_served : length (heard_by f a) ≡ length (said_by f a) → commands_by c f.history ≡ said_by f a
  all_served answered =
      let here : (f.net A).story a ≡ Some s = client.there in
      (answered_once m f a c s reached client
      (ap (λ o. length (data_bodies (read_of o))) (sym here) ∙ answered
      ∙ ap (λ o. length (data_bodies (written_of o))) here)).0
      ∙ ap (λ o. data_bodies (written_of o)) (sym here)

  session_is : f.service.session c ≡ (after_all (new_service m) f.history).session c
  session_is = ap (λ (v : Service). v.session c) (file_net m f reached).0.service

  -- ---- ready

  -- the client is ready for an operation, whatever happens meanwhile
  pub idle_is_ready : (g : FileNet) (events : List FileEvent) (user : List ℕ) → FileRun f events g → IsIdle f a c user
      → IsReady m g c (said_by f a) user
  idle_is_ready g events user run idle before later is said =
      let own : commands_by c f.history ≡ said_by f a = all_served idle.answered in
      let all : g.history ≡ f.history ++ drop (length f.history) g.history =
      begins_split f.history g.history (histories_grow f g events run) in
      let now : (after_all (new_service m) f.history).session c ≡ logged_in user = sym session_is ∙ idle.session in
      ⊎_elim
      (λ (k : (more : List Transaction) × (f.history ≡ before ++ more)).
      let none : commands_by c k.0 ≡ [] =
      append_cancel_left (commands_by c before) (commands_by c k.0) []
      (sym (commands_append c before k.0) ∙ ap (commands_by c) (sym k.1) ∙ own ∙ sym said
      ∙ sym (append-nil (commands_by c before))) in
      sym (silent c (after_all (new_service m) before) k.0 none)
      ∙ ap (λ (v : Service). v.session c) (sym (after_append (new_service m) before k.0))
      ∙ ap (λ h. (after_all (new_service m) h).session c) (sym k.1) ∙ now)
      (λ (k : (more : List Transaction) × (before ≡ f.history ++ more)).
      let none : commands_by c k.0 ≡ [] =
      append_cancel_left (commands_by c f.history) (commands_by c k.0) []
      (sym (commands_append c f.history k.0) ∙ ap (commands_by c) (sym k.1) ∙ said ∙ sym own
      ∙ sym (append-nil (commands_by c f.history))) in
      ap (λ h. (after_all (new_service m) h).session c) k.1
      ∙ ap (λ (v : Service). v.session c) (after_append (new_service m) f.history k.0)
      ∙ silent c (after_all (new_service m) f.history) k.0 none ∙ now)
      (two_prefixes before f.history later (drop (length f.history) g.history) (sym is ∙ all))

  -- ---- idle

  -- where all was answered, and the history shows it ready behind that
  pub ready_is_idle : (user : List ℕ) → length (heard_by f a) ≡ length (said_by f a)
      → IsReady m f c (said_by f a) user → IsIdle f a c user
  ready_is_idle user answered ready = record {
    answered = answered;
    session =
        session_is ∙ ready f.history [] (sym (append-nil f.history)) (all_served answered);
  }
