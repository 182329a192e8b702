-- A line that begins with a word and a space.
use Rattle.std.proofs.Common.{◌≡◌, ℕ, true, List, ◌++◌, length, take, drop, take-append-drop, ap, sym, ◌∙◌, refl, leb, arith}
use Rattle.std.specs.Prelude.{Some, codes, nat_eq}
use Rattle.std.proofs.lemmas.Bool.{le-leb}
use Rattle.std.specs.Cmp.Lexicographic.{pointwise, same_text}
use Rattle.chaosd_lab.specs.declared.bad_line.BadLine.TheVariants.{Form}
use Rattle.chaosd_lab.specs.declared.bad_line.LineForm.TheVariants as form
use Rattle.chaosd_lab.specs.Event.{event_of, event_parts, deliver_of, write_of, read_of}
use Rattle.chaosd_lab.specs.Fields.{cut}
use Rattle.chaosd_lab.specs.Wrong.{wrong_of, wrong_parts, wrong_write}

-- The rest of a line stands behind this front.
pub record Strips (front line prefix rest : List ℕ) : Type 0 where
  pub is : prefix ≡ front
  pub starts : pointwise nat_eq (take (length prefix) line) prefix ≡ true
  pub behind : rest ≡ drop (length prefix) line

whole : (front line prefix rest : List ℕ) → Strips front line prefix rest → line ≡ front ++ rest
whole front line prefix rest s =
    let n = length prefix in
    sym (take-append-drop n line) ∙ ap (λ l. l ++ drop n line) (same_text (take n line) prefix (sym s.starts) ∙ s.is)
    ∙ ap (λ l. front ++ l) (sym s.behind)

-- ---- such a line asks for the event of its word, or is wrong as a line of its word

deliver_cut : (rest : List ℕ) → cut (codes "deliver " ++ rest) ≡ Some (codes "deliver", rest)
deliver_cut rest =
    let longer : leb 8 (length (codes "deliver " ++ rest)) ≡ true = le-leb 8 _ (omega arith) in
    rw longer refl

pub deliver_event : (line prefix rest : List ℕ) → Strips (codes "deliver ") line prefix rest
    → event_of line ≡ deliver_of rest
unfolding event_of
deliver_event line prefix rest s = ap event_of (whole _ line prefix rest s) ∙ ap event_parts (deliver_cut rest)

pub deliver_wrong : (line prefix rest : List ℕ) → Strips (codes "deliver ") line prefix rest
    → wrong_of line ≡ Form form.Deliver
unfolding wrong_of
deliver_wrong line prefix rest s =
    ap (λ l. wrong_parts line (cut l)) (whole _ line prefix rest s) ∙ ap (wrong_parts line) (deliver_cut rest)

write_cut : (rest : List ℕ) → cut (codes "write " ++ rest) ≡ Some (codes "write", rest)
write_cut rest =
    let longer : leb 6 (length (codes "write " ++ rest)) ≡ true = le-leb 6 _ (omega arith) in
    rw longer refl

pub write_event : (line prefix rest : List ℕ) → Strips (codes "write ") line prefix rest
    → event_of line ≡ write_of rest
unfolding event_of
write_event line prefix rest s = ap event_of (whole _ line prefix rest s) ∙ ap event_parts (write_cut rest)

pub write_wrong : (line prefix rest : List ℕ) → Strips (codes "write ") line prefix rest
    → wrong_of line ≡ wrong_write line (cut rest)
unfolding wrong_of
write_wrong line prefix rest s =
    ap (λ l. wrong_parts line (cut l)) (whole _ line prefix rest s) ∙ ap (wrong_parts line) (write_cut rest)

read_cut : (rest : List ℕ) → cut (codes "read " ++ rest) ≡ Some (codes "read", rest)
read_cut rest =
    let longer : leb 5 (length (codes "read " ++ rest)) ≡ true = le-leb 5 _ (omega arith) in
    rw longer refl

pub read_event : (line prefix rest : List ℕ) → Strips (codes "read ") line prefix rest
    → event_of line ≡ read_of rest
unfolding event_of
read_event line prefix rest s = ap event_of (whole _ line prefix rest s) ∙ ap event_parts (read_cut rest)

pub read_wrong : (line prefix rest : List ℕ) → Strips (codes "read ") line prefix rest
    → wrong_of line ≡ Form form.Read
unfolding wrong_of
read_wrong line prefix rest s =
    ap (λ l. wrong_parts line (cut l)) (whole _ line prefix rest s) ∙ ap (wrong_parts line) (read_cut rest)
