-- The text of items that begin others.
use Rattle.std.proofs.Common.{◌≡◌, ℕ, ◌+◌, ◌<◌, zero, suc, List, [], ◌∷◌, ◌++◌, drop, take, length, slice_get, Some, refl, ap, sym, ◌∙◌, subst, arith, append_assoc}
use Rattle.std.proofs.lemmas.List.{take-append-drop, map-append, append-nil}
use Rattle.std.proofs.Math.Seq.{take-append_seam}
use native.Mathlib.Numerals.{unary_clauses}
use Rattle.chaos_packet.specs.Begins.{Begins}
use Rattle.chaos_packet.specs.Item.{ItemView}
use Rattle.chaos_packet.specs.Opcode.{kind_of}
use Rattle.chaos_packet.specs.declared.opcode.Kind.{Kind}
use Rattle.chaos_packet.specs.declared.opcode.Kind.TheVariants as kind
use Rattle.chaos_stream.specs.Text.{bytes_text, item_text, items_text, text_of, TextBegins, TextAndPartBegin}
use Rattle.chaos_stream.specs.Reading.{item_sight, sight_text, passed_text, LooksFollowText}

-- a list is its beginning, and the rest
begins_split : {X : Type 0} (xs ys : List X) → Begins xs ys → ys ≡ xs ++ drop (length xs) ys
begins_split xs ys h = sym (ap (λ t. t ++ drop (length xs) ys) (sym h) ∙ take-append-drop (length xs) ys)

-- what is at a place is followed by the rest
drop_from : {X : Type 0} (xs : List X) (i : ℕ) (x : X) → slice_get xs i ≡ Some x → drop i xs ≡ x ∷ drop (i + 1) xs
drop_from [] i x h = cc
drop_from (y ∷ ys) zero x h = cc
drop_from (y ∷ ys) (suc i) x h = let e = drop_from ys i x h in let f = simp unary_clauses at e in simp unary_clauses f

pub bytes_text-append : (xs ys : List ℕ) → bytes_text (xs ++ ys) ≡ bytes_text xs ++ bytes_text ys
bytes_text-append xs ys = map-append _ xs ys

pub items_text-append : (xs ys : List ItemView) → items_text (xs ++ ys) ≡ items_text xs ++ items_text ys
items_text-append [] ys = refl
items_text-append (x ∷ xs) ys =
    ap (λ t. item_text (kind_of x.op) x.body ++ t) (items_text-append xs ys)
    ∙ sym (append_assoc (item_text (kind_of x.op) x.body) (items_text xs) (items_text ys))

text_of-append : (x z : List ItemView) → 0 < length x → text_of (x ++ z) ≡ text_of x ++ items_text z
text_of-append [] z h = absurd (omega arith)
text_of-append (o ∷ xs) z h = items_text-append xs z

-- the text of all items is that of some that they begin with, and then that of the others
text_of-split : (x y : List ItemView) → 0 < length x → Begins x y
    → text_of y ≡ text_of x ++ items_text (drop (length x) y)
text_of-split x y some h = ap text_of (begins_split x y h) ∙ text_of-append x (drop (length x) y) some

-- what begins the parts of a list begins the list
begins_whole : {X : Type 0} (xs ys zs : List X) → ys ≡ xs ++ zs → Begins xs ys
begins_whole xs ys zs e = subst (λ l. Begins xs l) (sym e) (take-append_seam xs zs)

pub text_begins : TextBegins
text_begins x y some h =
    begins_whole (text_of x) (text_of y) (items_text (drop (length x) y)) (text_of-split x y some h)

pub text_and_part_begin : TextAndPartBegin
text_and_part_begin x y next part some h at is_data begins =
    let left = drop (length part) next.body in
    let others = items_text (drop (length x + 1) y) in
    let body : item_text (kind_of next.op) next.body ≡ bytes_text part ++ bytes_text left =
    ap (λ k. item_text k next.body) is_data ∙ ap bytes_text (begins_split part next.body begins)
    ∙ bytes_text-append part left in
    let rest : items_text (drop (length x) y) ≡ bytes_text part ++ (bytes_text left ++ others) =
    ap items_text (drop_from y (length x) next at) ∙ ap (λ t. t ++ others) body
    ∙ append_assoc (bytes_text part) (bytes_text left) others in
    begins_whole (text_of x ++ bytes_text part) (text_of y) (bytes_text left ++ others)
    (text_of-split x y some h ∙ ap (λ t. text_of x ++ t) rest
    ∙ sym (append_assoc (text_of x) (bytes_text part) (bytes_text left ++ others)))

-- an item's text, cut at a place
item_text-at : (k : Kind) (body : List ℕ) (place : ℕ)
    → item_text k body ++ [] ≡ passed_text k (take place body) ++ sight_text (item_sight k (drop place body))
item_text-at kind.Data body place =
    append-nil (bytes_text body) ∙ ap bytes_text (sym (take-append-drop place body))
    ∙ bytes_text-append (take place body) (drop place body)
item_text-at kind.Eof body place = refl
item_text-at _ body place = refl

pub looks_follow_text : LooksFollowText
looks_follow_text read front place some =
    let k = kind_of front.op in
    text_of-append read (front ∷ []) some ∙ ap (λ t. text_of read ++ t) (item_text-at k front.body place)
    ∙ sym
    (append_assoc (text_of read) (passed_text k (take place front.body))
    (sight_text (item_sight k (drop place front.body))))
