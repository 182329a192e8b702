-- Bodies of lists, and a transaction more in a history.
use Rattle.std.proofs.Common.{◌≡◌, ℕ, Bool, true, false, if◌then◌else◌, List, [], ◌∷◌, ◌++◌, refl, ap, ◌∙◌}
use Rattle.std.proofs.lemmas.List.{append-nil}
use Rattle.std.proofs.lemmas.Bool.{cond-true, cond-false}
use Rattle.chaos_packet.specs.Item.{ItemView}
use Rattle.chaos_packet.specs.Opcode.{kind_of, is_rfc}
use Rattle.chaos_packet.specs.declared.opcode.Kind.{Kind}
use Rattle.chaos_packet.specs.declared.opcode.Kind.TheVariants as kind
use Rattle.chaos_net.specs.Net.{Name, is_name}
use Rattle.chaos_net.proofs.Next.{same_name, other_name}
use Rattle.file_lab.specs.Bodies.{with_body, data_bodies}
use Rattle.file_lab.proofs.BodyLists.{bodies_append}
use Rattle.file_net.specs.History.{Transaction, Service, after_one, after_all, IsRight, AreRight, commands_by, replies_to}

-- ---- bodies

-- an item of another kind than data has none
pub no_body : (items : List ItemView) (item : ItemView)
    → ((body : List ℕ) → with_body (kind_of item.op) body [] ≡ [])
    → data_bodies (items ++ item ∷ []) ≡ data_bodies items
no_body items item none =
    bodies_append items (item ∷ []) ∙ ap (λ bodies. data_bodies items ++ bodies) (none item.body)
    ∙ append-nil (data_bodies items)

pub of_kind : (items : List ItemView) (item : ItemView) (k : Kind) → kind_of item.op ≡ k
    → ((body : List ℕ) → with_body k body [] ≡ [])
    → data_bodies (items ++ item ∷ []) ≡ data_bodies items
of_kind items item k is none = no_body items item (λ body. ap (λ z. with_body z body []) is ∙ none body)

pub rfc_kind : (k : Kind) → is_rfc k ≡ true → (body : List ℕ) → with_body k body [] ≡ []
rfc_kind kind.Rfc h body = refl
rfc_kind kind.Data h body = absurd (cc)
rfc_kind kind.Opn h body = refl
rfc_kind kind.Cls h body = refl
rfc_kind kind.Fwd h body = refl
rfc_kind kind.Ans h body = refl
rfc_kind kind.Sns h body = refl
rfc_kind kind.Sts h body = refl
rfc_kind kind.Los h body = refl
rfc_kind kind.Lsn h body = refl
rfc_kind kind.Eof h body = refl
rfc_kind kind.Unc h body = refl
rfc_kind kind.Other h body = refl

pub one_body : (items : List ItemView) (item : ItemView) → kind_of item.op ≡ kind.Data
    → data_bodies (items ++ item ∷ []) ≡ data_bodies items ++ item.body ∷ []
one_body items item is = bodies_append items (item ∷ []) ∙ ap (λ k. data_bodies items ++ with_body k item.body []) is

-- ---- a transaction more

pub after_more : (v : Service) (h : List Transaction) (t : Transaction)
    → after_all v (h ++ t ∷ []) ≡ after_one (after_all v h) t
after_more v [] t = refl
after_more v (x ∷ h) t = after_more (after_one v x) h t

pub right_more : (v : Service) (h : List Transaction) (t : Transaction) → AreRight v h → IsRight (after_all v h) t
    → AreRight v (h ++ t ∷ [])
right_more v [] t p r = (r, tt)
right_more v (x ∷ h) t p r = (p.0, right_more (after_one v x) h t p.1 r)

pick_append : {X : Type 0} (b : Bool) (x : X) (xs ys : List X)
    → (if b then x ∷ (xs ++ ys) else (xs ++ ys)) ≡ (if b then x ∷ xs else xs) ++ ys
pick_append true x xs ys = refl
pick_append false x xs ys = refl

pub commands_append : (c : Name) (h k : List Transaction)
    → commands_by c (h ++ k) ≡ commands_by c h ++ commands_by c k
commands_append c [] k = refl
commands_append c (x ∷ h) k =
    ap (λ zs. if is_name x.by c then x.command ∷ zs else zs) (commands_append c h k)
    ∙ pick_append (is_name x.by c) x.command (commands_by c h) (commands_by c k)

pub replies_append : (c : Name) (h k : List Transaction)
    → replies_to c (h ++ k) ≡ replies_to c h ++ replies_to c k
replies_append c [] k = refl
replies_append c (x ∷ h) k =
    ap (λ zs. if is_name x.by c then x.reply ∷ zs else zs) (replies_append c h k)
    ∙ pick_append (is_name x.by c) x.reply (replies_to c h) (replies_to c k)

-- of its own connection, and of any other
pub commands_own : (h : List Transaction) (t : Transaction)
    → commands_by t.by (h ++ t ∷ []) ≡ commands_by t.by h ++ t.command ∷ []
commands_own h t =
    commands_append t.by h (t ∷ [])
    ∙ ap (λ zs. commands_by t.by h ++ zs) (cond-true (is_name t.by t.by) (t.command ∷ []) [] (same_name t.by))

pub replies_own : (h : List Transaction) (t : Transaction)
    → replies_to t.by (h ++ t ∷ []) ≡ replies_to t.by h ++ t.reply ∷ []
replies_own h t =
    replies_append t.by h (t ∷ [])
    ∙ ap (λ zs. replies_to t.by h ++ zs) (cond-true (is_name t.by t.by) (t.reply ∷ []) [] (same_name t.by))

pub commands_other : (h : List Transaction) (t : Transaction) (d : Name) → (t.by ≡ d → ⊥)
    → commands_by d (h ++ t ∷ []) ≡ commands_by d h
commands_other h t d apart =
    commands_append d h (t ∷ [])
    ∙ ap (λ zs. commands_by d h ++ zs) (cond-false (is_name t.by d) (t.command ∷ []) [] (other_name t.by d apart))
    ∙ append-nil (commands_by d h)

pub replies_other : (h : List Transaction) (t : Transaction) (d : Name) → (t.by ≡ d → ⊥)
    → replies_to d (h ++ t ∷ []) ≡ replies_to d h
replies_other h t d apart =
    replies_append d h (t ∷ [])
    ∙ ap (λ zs. replies_to d h ++ zs) (cond-false (is_name t.by d) (t.reply ∷ []) [] (other_name t.by d apart))
    ∙ append-nil (replies_to d h)
