-- The left sides that get the index and the element of a round over an array.
use Rattle.std.proofs.Common.{◌≡◌, ℕ, ◌+◌, List, [], ◌∷◌, ◌++◌, length, sym, ap, ◌∙◌, arith, length-append, append_assoc}
use Rattle.isa.specs.declared.instr.Instr.{Instr}
use Rattle.typed_syntax.specs.Syntax.{Left, Program}
use Rattle.program_code.specs.Code.{Slots, lefts_above, lefts_code, lefts_sized, ready_code}
use Rattle.program_code.proofs.Sizes.{length_ready}
use Rattle.codegen.specs.Frame.{left_code}
use Rattle.codegen.proofs.Above.{above_first}
use Rattle.codegen.proofs.Emitted.{left_alone, lefts_first, ready_first}

-- their operands are in temps from `first` on, and the index and the element, of w words, come from a temp on
pub pair_emitted : (p : Program) (s : Slots) (element : ℕ → List Instr) (w first : ℕ) (key value : Left) (old c1 c2 c3 c4 c5 : List Instr) (second v at : ℕ) → second ≡ lefts_above (key ∷ []) first → v ≡ lefts_above (value ∷ []) second → at ≡ v + 1 + w
    → c1 ≡ old ++ ready_code p s (key ∷ []) first (length old) → c2 ≡ c1 ++ ready_code p s (value ∷ []) second (length c1) → c3 ≡ c2 ++ element v
    → c4 ≡ c3 ++ left_code s key first at v → c5 ≡ c4 ++ left_code s value second at (v + 1)
    → c5 ≡ old ++ (let above = lefts_above (key ∷ value ∷ []) first in ready_code p s (key ∷ value ∷ []) first (length old) ++ (element above ++ lefts_code s (1 ∷ w ∷ []) (key ∷ value ∷ []) first (above + 1 + w) above))
pair_emitted p s element w first key value old c1 c2 c3 c4 c5 second v at es ev ea e1 e2 e3 e4 e5 =
    let own = lefts_above (key ∷ []) first in let above = lefts_above (key ∷ value ∷ []) first in let end = above + 1 + w in
    let v_is : v ≡ above = ev ∙ ap (lefts_above (value ∷ [])) es ∙ sym (above_first key (value ∷ []) first) in
    let at_is : at ≡ end = ea ∙ ap (λ k. k + 1 + w) v_is in
    let place = length old + lefts_sized p (key ∷ []) 0 in
    let key_ready = ready_code p s (key ∷ []) first (length old) in let value_ready = ready_code p s (value ∷ []) own place in
    let key_gets = left_code s key first end above in let value_gets = left_code s value own end (above + 1) in
    let n1 : length c1 ≡ place = omega (arith, ap length e1, length-append old key_ready, length_ready p s (key ∷ []) first (length old)) in
    let f2 : c2 ≡ c1 ++ value_ready = e2 ∙ ap (λ k. c1 ++ ready_code p s (value ∷ []) k (length c1)) es ∙ ap (λ k. c1 ++ ready_code p s (value ∷ []) own k) n1 in
    let f3 : c3 ≡ c2 ++ element above = e3 ∙ ap (λ k. c2 ++ element k) v_is in
    let f4 : c4 ≡ c3 ++ key_gets = e4 ∙ ap (λ k. c3 ++ left_code s key first k v) at_is ∙ ap (λ k. c3 ++ left_code s key first end k) v_is in
    let f5 : c5 ≡ c4 ++ value_gets =
    e5 ∙ ap (λ k. c4 ++ left_code s value k at (v + 1)) es ∙ ap (λ k. c4 ++ left_code s value own k (v + 1)) at_is ∙ ap (λ k. c4 ++ left_code s value own end (k + 1)) v_is in
    let all : c5 ≡ ((((old ++ key_ready) ++ value_ready) ++ element above) ++ key_gets) ++ value_gets = cc in
    let flat : c5 ≡ old ++ ((key_ready ++ value_ready) ++ (element above ++ (key_gets ++ value_gets))) = all ∙ simp append_assoc in
    let lefts : lefts_code s (1 ∷ w ∷ []) (key ∷ value ∷ []) first end above ≡ key_gets ++ value_gets =
    lefts_first s (1 ∷ w ∷ []) key (value ∷ []) first end above ∙ ap (λ y. key_gets ++ y) (left_alone s w value own end (above + 1)) in
    flat ∙ ap (λ y. old ++ (y ++ (element above ++ (key_gets ++ value_gets)))) (sym (ready_first p s key (value ∷ []) first (length old)))
    ∙ ap (λ y. old ++ (ready_code p s (key ∷ value ∷ []) first (length old) ++ (element above ++ y))) (sym lefts)
