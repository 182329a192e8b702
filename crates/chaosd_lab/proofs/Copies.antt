-- The lines of copies from a place on.
use Rattle.std.proofs.Common.{◌≡◌, ℕ, ◌+◌, ◌<◌, ◌≤◌, List, [], ◌∷◌, ◌++◌, drop, length, get_or, append_assoc, append-nil, codes, ap, ◌∙◌, sym}
use Rattle.std.proofs.lemmas.List.{drop_more, drop_all}
use Rattle.chaos_lab.specs.declared.stamped.Stamped.{Stamped}
use Rattle.std.specs.Fmt.{decimal}
use Rattle.chaosd_lab.specs.Names.{side_name}
use Rattle.chaosd_lab.specs.Answers.{copy_line, copies_text, op_name}

-- parts that are put one behind the other
joined : (out copy place side space name word num ack count end : List ℕ)
    → out ++ copy ++ place ++ side ++ space ++ name ++ word ++ num ++ ack ++ count ++ end
    ≡ out ++ (copy ++ place ++ side ++ (space ++ name) ++ (word ++ num ++ ack ++ count ++ end))
joined out copy place side space name word num ack count end = simp append_assoc

-- the parts of a copy's line were put
pub line_put : (out o1 o2 o3 o4 : List ℕ) (place : ℕ) (copy : Stamped)
    → o1 ≡ out ++ codes "copy " → o2 ≡ o1 ++ decimal place → o3 ≡ o2 ++ 32 ∷ side_name copy.side ++ 32 ∷ []
    → o4 ≡ o3 ++ op_name copy.packet.op ++ codes " num "
    → o4 ++ decimal copy.packet.num ++ codes " ack " ++ decimal copy.packet.ack ++ 10 ∷ [] ≡ out ++ copy_line place copy
unfolding copy_line
line_put out o1 o2 o3 o4 place copy p q r s =
    ap (λ l. l ++ decimal copy.packet.num ++ codes " ack " ++ decimal copy.packet.ack ++ 10 ∷ [])
    (s
    ∙ ap (λ l. l ++ op_name copy.packet.op ++ codes " num ")
    (r ∙ ap (λ l. l ++ 32 ∷ side_name copy.side ++ 32 ∷ []) (q ∙ ap (λ l. l ++ decimal place) p)))
    ∙ joined out (codes "copy ") (decimal place) (32 ∷ side_name copy.side) (32 ∷ []) (op_name copy.packet.op)
    (codes " num ") (decimal copy.packet.num) (codes " ack ") (decimal copy.packet.ack) (10 ∷ [])

-- the last line was written
pub copies_end : (copies : List Stamped) (out whole : List ℕ) (place : ℕ) → length copies ≤ place
    → out ++ copies_text place (drop place copies) ≡ whole → out ≡ whole
unfolding copies_text
copies_end copies out whole place le e =
    sym (append-nil out) ∙ ap (λ l. out ++ l) (sym (ap (copies_text place) (drop_all place copies le))) ∙ e

-- one line more was written
pub one_copy : (copies : List Stamped) (out after whole : List ℕ) (place : ℕ) (copy : Stamped) → place < length copies
    → get_or copies place copy ≡ copy → after ≡ out ++ copy_line place copy
    → out ++ copies_text place (drop place copies) ≡ whole
    → after ++ copies_text (place + 1) (drop (place + 1) copies) ≡ whole
unfolding copies_text
one_copy copies out after whole place copy h is more e =
    ap (λ l. l ++ copies_text (place + 1) (drop (place + 1) copies)) more
    ∙ append_assoc out (copy_line place copy) _
    ∙ ap (λ l. out ++ l)
    (sym (ap (copies_text place) (drop_more copies place copy h ∙ ap (λ x. x ∷ drop (place + 1) copies) is)))
    ∙ e
