-- A fault's text, put in parts.
use Rattle.std.proofs.Common.{◌≡◌, ℕ, List, [], ◌∷◌, ◌++◌, ap, ◌∙◌, sym, append_assoc}
use Rattle.std.specs.Prelude.{Result, Ok, Err, OnOk}
use Rattle.chaosd_io.specs.Texts.{line}

-- a line behind its front
pub behind_front : {A E : Type 0} (r : Result A E) (out mid new front text : List ℕ) → mid ≡ out ++ front
    → OnOk r (new ≡ mid ++ line text) → OnOk r (new ≡ out ++ line (front ++ text))
behind_front (Ok x) out mid new front text e h =
    h ∙ ap (λ l. l ++ line text) e ∙ append_assoc out front (line text)
    ∙ ap (λ l. out ++ l) (sym (append_assoc front text (10 ∷ [])))
behind_front (Err f) out mid new front text e h = tt

-- a line behind its front, a number and a space
pub behind_number : {A E : Type 0} (r : Result A E) (out first second third new front digits text : List ℕ)
    → first ≡ out ++ front → second ≡ first ++ digits → third ≡ second ++ 32 ∷ []
    → OnOk r (new ≡ third ++ line text) → OnOk r (new ≡ out ++ line (front ++ (digits ++ 32 ∷ text)))
behind_number (Ok x) out first second third new front digits text e f g h =
    h ∙ ap (λ l. l ++ line text) (g ∙ ap (λ l. l ++ 32 ∷ []) (f ∙ ap (λ l. l ++ digits) e))
    ∙ append_assoc ((out ++ front) ++ digits) (32 ∷ []) (line text)
    ∙ append_assoc (out ++ front) digits (32 ∷ line text) ∙ append_assoc out front (digits ++ 32 ∷ line text)
    ∙ ap (λ l. out ++ l)
    (sym
    (append_assoc front (digits ++ 32 ∷ text) (10 ∷ [])
    ∙ ap (λ l. front ++ l) (append_assoc digits (32 ∷ text) (10 ∷ []))))
behind_number (Err why) out first second third new front digits text e f g h = tt
