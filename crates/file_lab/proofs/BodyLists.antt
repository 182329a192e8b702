-- Bodies of lists.
use Rattle.std.proofs.Common.{◌≡◌, ℕ, zero, suc, ◌<◌, ◌-◌, Bool, true, false, List, [], ◌∷◌, ◌++◌, drop, length, Some, refl, sym, ap, ◌∙◌, subst, arith, length-append}
use Rattle.std.specs.Prelude.{◌||◌, ◌&&◌, slice_get}
use Rattle.std.specs.List.{list_any}
use Rattle.std.proofs.lemmas.List.{take-append-drop}
use Rattle.std.proofs.Math.Seq.{take-append_seam}
use Rattle.chaos_packet.specs.Begins.{Begins}
use Rattle.chaos_packet.specs.Item.{ItemView}
use Rattle.chaos_packet.specs.Opcode.{kind_of}
use Rattle.chaos_packet.specs.declared.opcode.Kind.{Kind}
use Rattle.chaos_packet.specs.declared.opcode.Kind.TheVariants as kind
use Rattle.chaos_file.specs.Want.{is_want}
use Rattle.file_lab.specs.Bodies.{with_body, data_bodies, is_data_kind, is_mem, some_mem, told_want}
use Rattle.chaos_file.specs.declared.served.Served.TheVariants as told

with_any : (k : Kind) (body : List ℕ) (bodies : List (List ℕ))
    → list_any is_want (with_body k body bodies) ≡ ((is_data_kind k && is_want body) || list_any is_want bodies)
with_any kind.Data body bodies = refl
with_any kind.Rfc body bodies = refl
with_any kind.Opn body bodies = refl
with_any kind.Cls body bodies = refl
with_any kind.Fwd body bodies = refl
with_any kind.Ans body bodies = refl
with_any kind.Sns body bodies = refl
with_any kind.Sts body bodies = refl
with_any kind.Los body bodies = refl
with_any kind.Lsn body bodies = refl
with_any kind.Eof body bodies = refl
with_any kind.Unc body bodies = refl
with_any kind.Other body bodies = refl

pub any_bodies : (items : List ItemView) → list_any is_want (data_bodies items) ≡ list_any is_mem items
any_bodies [] = refl
any_bodies (item ∷ items) =
    with_any (kind_of item.op) item.body (data_bodies items) ∙ ap (λ b. is_mem item || b) (any_bodies items)

with_append : (k : Kind) (body : List ℕ) (xs ys : List (List ℕ))
    → with_body k body xs ++ ys ≡ with_body k body (xs ++ ys)
with_append kind.Data body xs ys = refl
with_append kind.Rfc body xs ys = refl
with_append kind.Opn body xs ys = refl
with_append kind.Cls body xs ys = refl
with_append kind.Fwd body xs ys = refl
with_append kind.Ans body xs ys = refl
with_append kind.Sns body xs ys = refl
with_append kind.Sts body xs ys = refl
with_append kind.Los body xs ys = refl
with_append kind.Lsn body xs ys = refl
with_append kind.Eof body xs ys = refl
with_append kind.Unc body xs ys = refl
with_append kind.Other body xs ys = refl

pub bodies_append : (xs ys : List ItemView) → data_bodies (xs ++ ys) ≡ data_bodies xs ++ data_bodies ys
bodies_append [] ys = refl
bodies_append (x ∷ xs) ys =
    ap (with_body (kind_of x.op) x.body) (bodies_append xs ys)
    ∙ sym (with_append (kind_of x.op) x.body (data_bodies xs) (data_bodies ys))

-- ---- beginnings

pub begins_split : {X : Type 0} (xs ys : List X) → Begins xs ys → ys ≡ xs ++ drop (length xs) ys
begins_split xs ys h = sym (ap (λ t. t ++ drop (length xs) ys) (sym h) ∙ take-append-drop (length xs) ys)

pub begins_whole : {X : Type 0} (xs ys zs : List X) → ys ≡ xs ++ zs → Begins xs ys
begins_whole xs ys zs e = subst (λ l. Begins xs l) (sym e) (take-append_seam xs zs)

pub bodies_begin : (xs ys : List ItemView) → Begins xs ys → Begins (data_bodies xs) (data_bodies ys)
bodies_begin xs ys h =
    begins_whole (data_bodies xs) (data_bodies ys) (data_bodies (drop (length xs) ys))
    (ap data_bodies (begins_split xs ys h) ∙ bodies_append xs (drop (length xs) ys))

-- ---- items of a list

pub front_same : (xs ys : List ItemView) (i : ℕ) → i < length xs → slice_get xs i ≡ slice_get (xs ++ ys) i
front_same [] ys i h = absurd (omega arith)
front_same (x ∷ xs) ys zero h = refl
front_same (x ∷ xs) ys (suc i) h = front_same xs ys i (omega arith)

pub last_item : (xs : List ItemView) (x : ItemView) → slice_get (xs ++ x ∷ []) (length xs) ≡ Some x
last_item [] x = refl
last_item (y ∷ xs) x = last_item xs x

-- ---- a reply more

or_false : (b : Bool) → (b || false) ≡ b
or_false true = refl
or_false false = refl

or_more : (a b c : Bool) → ((a || b) || c) ≡ (a || (b || c))
or_more true b c = refl
or_more false b c = refl

any_more : (xs : List ItemView) (x : ItemView) → (list_any is_mem xs || is_mem x) ≡ list_any is_mem (xs ++ x ∷ [])
any_more [] x = sym (or_false (is_mem x))
any_more (y ∷ xs) x = or_more (is_mem y) (list_any is_mem xs) (is_mem x) ∙ ap (λ b. is_mem y || b) (any_more xs x)

-- nothing was written
pub want_same : (xs : List ItemView) (flag : Bool) → flag ≡ list_any is_want (data_bodies xs)
    → (flag || false) ≡ list_any is_want (data_bodies xs)
want_same xs flag is = or_false flag ∙ is

-- a reply was
pub want_more : (xs : List ItemView) (x : ItemView) (flag : Bool) → flag ≡ list_any is_want (data_bodies xs)
    → (flag || told_want told.Replied (xs ++ x ∷ [])) ≡ list_any is_want (data_bodies (xs ++ x ∷ []))
want_more xs x flag is =
    let last : length (xs ++ x ∷ []) - 1 ≡ length xs = omega (arith, length-append xs (x ∷ [])) in
    ap (λ b. b || told_want told.Replied (xs ++ x ∷ [])) (is ∙ any_bodies xs)
    ∙ ap (λ o. list_any is_mem xs || some_mem o) (ap (slice_get (xs ++ x ∷ [])) last ∙ last_item xs x)
    ∙ any_more xs x ∙ sym (any_bodies (xs ++ x ∷ []))
