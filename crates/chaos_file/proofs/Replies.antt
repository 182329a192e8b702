-- The replies to a list of commands.
use Rattle.std.proofs.Common.{◌≡◌, ℕ, List, [], ◌∷◌, ◌++◌, Some, IfSome, Err, length, refl, ap, subst, suc, arith, inl, inr}
use Rattle.chaos_file.specs.declared.error.FileError.TheVariants as e
use Rattle.chaos_file.specs.Grammar.{parse_of}
use Rattle.chaos_file.specs.Answer.{reply_to}
use Rattle.chaos_file.specs.Session.{SessionView}
use Rattle.chaos_packet.specs.Count.{Rose}
use Rattle.chaos_file.specs.Store.{Files, StoreChange}
use Rattle.chaos_file.specs.Step.{file_step}
use Rattle.chaos_file.specs.Apply.{Applies, IsStep, IsApplied}
use Rattle.chaos_file.specs.Replies.{files_after, session_after, replies_from, memory_change}

pub replies_append : (m : Files) (s : SessionView) (xs ys : List (List ℕ))
    → replies_from m s (xs ++ ys) ≡ replies_from m s xs ++ replies_from (files_after m s xs) (session_after m s xs) ys
replies_append m s [] ys = refl
replies_append m s (c ∷ xs) ys =
    ap (λ rs. (file_step m s c).reply ∷ rs) (replies_append (file_step m s c).files (file_step m s c).session xs ys)

pub replies_length : (m : Files) (s : SessionView) (commands : List (List ℕ))
    → length (replies_from m s commands) ≡ length commands
replies_length m s [] = refl
replies_length m s (c ∷ commands) = ap suc (replies_length (file_step m s c).files (file_step m s c).session commands)

never : Rose 0 0 → ⊥
never (inl h) = omega arith
never (inr h) = omega arith

by_step : (store : StoreChange) (m : Files) (s t : SessionView) (c reply : List ℕ) → (store.rose → ⊥)
    → (reply ≡ reply_to (parse_of c) (Err e.NoMemory) → ⊥) → Applies store m s t c reply
    → IsStep store (file_step m s c) reply t
by_step store m s t c reply still few (inl h) = h
by_step store m s t c reply still few (inr (inl h)) = absurd (still h.0)
by_step store m s t c reply still few (inr (inr h)) = absurd (few h.1)

pub honest_step : (store : StoreChange) (m : Files) (s t : SessionView) (c reply : List ℕ) → store.before ≡ Some m
    → (store.rose → ⊥) → IsApplied store s t c reply → (reply ≡ reply_to (parse_of c) (Err e.NoMemory) → ⊥)
    → IsStep store (file_step m s c) reply t
honest_step store m s t c reply before still h few =
    by_step store m s t c reply still few (subst (λ o. IfSome o (λ f. Applies store f s t c reply)) before h.honest)

pub memory_step : (m n : Files) (s t : SessionView) (c reply : List ℕ) → IsApplied (memory_change m n) s t c reply
    → (reply ≡ reply_to (parse_of c) (Err e.NoMemory) → ⊥) → IsStep (memory_change m n) (file_step m s c) reply t
memory_step m n s t c reply h few = by_step (memory_change m n) m s t c reply never few h.honest
