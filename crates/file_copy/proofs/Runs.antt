-- What lists of commands do, joined.
use Rattle.std.proofs.Common.{◌≡◌, ℕ, zero, suc, ◌<◌, List, [], ◌∷◌, ◌++◌, refl, ap, ◌∙◌, arith}
use Rattle.chaos_file.specs.Session.{SessionView}
use Rattle.chaos_file.specs.Store.{Files}
use Rattle.chaos_file.specs.Step.{file_step}
use Rattle.chaos_file.specs.Replies.{files_after, session_after, replies_from}
use Rattle.file_copy.specs.Copy.{upto, Does}

pub runs_none : (m : Files) (s : SessionView) → Does m s [] m s []
runs_none m s = record { files = refl; session = refl; replies_are = refl }

append_plain : (m : Files) (s : SessionView) (xs ys : List (List ℕ)) → Does m s (xs ++ ys)
    (files_after (files_after m s xs) (session_after m s xs) ys)
    (session_after (files_after m s xs) (session_after m s xs) ys)
    (replies_from m s xs ++ replies_from (files_after m s xs) (session_after m s xs) ys)
append_plain m s [] ys = record { files = refl; session = refl; replies_are = refl }
append_plain m s (c ∷ xs) ys =
    let rest = append_plain (file_step m s c).files (file_step m s c).session xs ys in
    record { files = rest.files; session = rest.session; replies_are = ap (λ rs. (file_step m s c).reply ∷ rs) rest.replies_are }

pub runs_append : (m : Files) (s : SessionView) (xs : List (List ℕ)) (n : Files) (t : SessionView) (rs : List (List ℕ))
    (ys : List (List ℕ)) (o : Files) (u : SessionView) (qs : List (List ℕ))
    → Does m s xs n t rs → Does n t ys o u qs → Does m s (xs ++ ys) o u (rs ++ qs)
runs_append m s xs n t rs ys o u qs h k =
    let both = append_plain m s xs ys in
    record {
      files =
          both.files ∙ ap (λ f. files_after f (session_after m s xs) ys) h.files
          ∙ ap (λ v. files_after n v ys) h.session ∙ k.files;
      session =
          both.session ∙ ap (λ f. session_after f (session_after m s xs) ys) h.files
          ∙ ap (λ v. session_after n v ys) h.session ∙ k.session;
      replies_are =
          both.replies_are ∙ ap (λ l. l ++ replies_from (files_after m s xs) (session_after m s xs) ys) h.replies_are
          ∙ ap (λ f. rs ++ replies_from f (session_after m s xs) ys) h.files
          ∙ ap (λ v. rs ++ replies_from n v ys) h.session ∙ ap (λ l. rs ++ l) k.replies_are;
    }

-- one command does this
pub record StepIs (m : Files) (s : SessionView) (command : List ℕ) (n : Files) (t : SessionView) (reply : List ℕ) : Type
    0 where
  pub files : (file_step m s command).files ≡ n
  pub session : (file_step m s command).session ≡ t
  pub reply_is : (file_step m s command).reply ≡ reply

pub runs_one : (m : Files) (s : SessionView) (c : List ℕ) (n : Files) (t : SessionView) (r : List ℕ)
    → StepIs m s c n t r → Does m s (c ∷ []) n t (r ∷ [])
runs_one m s c n t r h = record { files = h.files; session = h.session; replies_are = ap (λ x. x ∷ []) h.reply_is }

-- commands that take one session after another, over the same files
pub runs_upto : (m : Files) (s : ℕ → SessionView) (c r : ℕ → List ℕ) (k : ℕ)
    → ((i : ℕ) → i < k → StepIs m (s i) (c i) m (s (suc i)) (r i))
    → Does m (s zero) (upto c k) m (s k) (upto r k)
runs_upto m s c r zero h = runs_none m (s zero)
runs_upto m s c r (suc k) h =
    runs_append m (s zero) (upto c k) m (s k) (upto r k) (c k ∷ []) m (s (suc k)) (r k ∷ [])
    (runs_upto m s c r k (λ i l. h i (omega arith)))
    (runs_one m (s k) (c k) m (s (suc k)) (r k) (h k (omega arith)))
