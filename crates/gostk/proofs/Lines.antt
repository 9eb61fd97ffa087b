-- Lines from their pieces.
use Rattle.std.proofs.Common.{◌≡◌, ◌∙◌, ap, sym, ℕ, ℤ, List, ◌++◌, Option, Result, OnOk, OnErr, Vec, subst, codes, decimal, append_assoc}
use Rattle.std.specs.Fmt.{signed_decimal}
use Rattle.std.specs.declared.alloc.Global.{Global}
use Rattle.outside.specs.Took.{Took, TookPrefix}
use Rattle.gostk.specs.Answer.{numbers_text, reason_text, panic_line}
use Rattle.gostk.specs.declared.answer.Reason.{Reason}
use Rattle.gostk.specs.declared.answer.Reason.TheVariants.{Text}
use Rattle.gostk.specs.Refusal.{stage_text, words_text, refusal_line}
use Rattle.gostk.specs.declared.refusal.Refusal.{Refusal}

-- a prefix of the pieces' text is one of the line
pub part_of_line : {T E : Type 0} (r : Result T E) (old new : Option (List ℕ)) (name file : List ℕ) (line col kind : ℕ) (stage tail : List ℕ) (x : Refusal)
    → name ≡ file → line ≡ x.pos.line → col ≡ x.pos.col → stage ≡ stage_text x.stage → kind ≡ x.kind → tail ≡ words_text x.words ++ codes "\n"
    → OnErr r (TookPrefix old new (name ++ (codes ":" ++ (decimal line ++ (codes ":" ++ (decimal col ++ (codes ": " ++ (stage ++ (codes " kind " ++ (decimal kind ++ tail))))))))))
    → OnErr r (TookPrefix old new (refusal_line file x))
part_of_line r old new name file line col kind stage tail x en el ec es ek et h =
    let e : name ++ (codes ":" ++ (decimal line ++ (codes ":" ++ (decimal col ++ (codes ": " ++ (stage ++ (codes " kind " ++ (decimal kind ++ tail)))))))) ≡ refusal_line file x = cc in
    subst (λ (t : List ℕ). OnErr r (TookPrefix old new t)) e h

-- likewise of a panic with the bytes of a string
pub part_of_panic : {T E : Type 0} (r : Result T E) (old new : Option (List ℕ)) (taken : List ℕ) (bytes : Vec ℕ Global) (reason : Reason) → taken ≡ bytes.items → reason ≡ Text bytes
    → OnErr r (TookPrefix old new (codes "panic: " ++ (taken ++ codes "\n"))) → OnErr r (TookPrefix old new (panic_line (reason_text reason)))
part_of_panic r old new taken bytes reason same is h =
    let e : codes "panic: " ++ (taken ++ codes "\n") ≡ panic_line (reason_text reason) =
    ap (λ (t : List ℕ). panic_line t) (same ∙ ap reason_text (sym is)) in
    subst (λ (t : List ℕ). OnErr r (TookPrefix old new t)) e h

-- the line of a panic that has a number, of the number as it was passed
pub number_passed : {T E : Type 0} (r : Result T E) (old new : Option (List ℕ)) (before : List ℕ) (passed n : ℤ) → passed ≡ n
    → OnOk r (Took old new (codes "panic: " ++ (before ++ (signed_decimal passed ++ codes "\n"))))
    → OnOk r (Took old new (codes "panic: " ++ (before ++ (signed_decimal n ++ codes "\n"))))
number_passed r old new before passed n same h = subst (λ (m : ℤ). OnOk r (Took old new (codes "panic: " ++ (before ++ (signed_decimal m ++ codes "\n"))))) same h

-- the line of a panic that has two numbers
pub numbers_line : (before : List ℕ) (first : ℤ) (between : List ℕ) (second : ℤ)
    → codes "panic: " ++ (before ++ (signed_decimal first ++ (between ++ (signed_decimal second ++ codes "\n")))) ≡ panic_line (numbers_text before first between second)
numbers_line before first between second =
    let i = signed_decimal first in let l = signed_decimal second in
    ap (λ t. codes "panic: " ++ t)
    (sym (append_assoc before (i ++ (between ++ l)) (codes "\n")
    ∙ ap (λ t. before ++ t) (append_assoc i (between ++ l) (codes "\n") ∙ ap (λ t. i ++ t) (append_assoc between l (codes "\n")))))
