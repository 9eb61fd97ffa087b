use Rattle.std.proofs.Common.{◌≡◌, ◌<◌, ◌≤◌, min, Bool, true, false, ltb, [], ◌∷◌, ◌⊎◌, inl, inr, ◌+◌, List, refl, drop, get_or, length, ap, subst, arith}
use Rattle.std.proofs.lemmas.Bool.{ltb-true, ltb-false}
use Rattle.base.specs.declared.value_type.ValueType.{ValueType}
use Rattle.base.specs.declared.value_type.ValueType.TheVariants.{Int}
use Rattle.syntax.specs.declared.expression.Expr.{Expr}
use Rattle.syntax.specs.FirstBytes.{first_pos}
use Rattle.syntax.specs.Expressions.{Exs, ex_of, exs_of, none, some}
use Rattle.type_faults.specs.declared.fault.Fault.{Fault}
use Rattle.type_faults.specs.Faults.{IsFault}
use Rattle.type_faults.proofs.Leasts.{Kept, kept_start, kept_more, kept_end, leaf}
use Rattle.type_faults.proofs.Lists.{from_there, from_one, nothing_left}
use Rattle.given_values.specs.declared.wants.Wanted.{Wanted}
use Rattle.given_values.specs.declared.wants.Wanted.TheVariants as wants
use Rattle.types_go.proofs.ranges.each_fault.Goals as goal
use Rattle.types_go.specs.RangeFaults.{given_fault, EachFails}

-- after the last type, place or left side no rule fails
none_fails : (ts : List ValueType) (ps : List Wanted) (es : Exs) (f : Fault) → (ts ≡ []) ⊎ ((ps ≡ []) ⊎ (es ≡ none)) → EachFails ts ps es f → ⊥
none_fails [] ps es f h k = k
none_fails (t ∷ ts) [] es f h k = k
none_fails (t ∷ ts) (p ∷ ps) none f h k = k
none_fails (t ∷ ts) (p ∷ ps) (some e es) f (inl i) k = cc i
none_fails (t ∷ ts) (p ∷ ps) (some e es) f (inr (inl i)) k = cc i
none_fails (t ∷ ts) (p ∷ ps) (some e es) f (inr (inr i)) k = cc i

pub loop-index-init : goal.loop-index-init
loop-index-init c = kept_start _

pub loop-index-preserved : goal.loop-index-preserved
loop-index-preserved c =
    let ts = c.args.types.now in
    let ps = c.args.wanted.now in
    let xs = c.args.es.now in
    let k = c.loop-index.index in
    let x : Expr = c.index-es-index.result in
    let t : ValueType = get_or ts k Int in
    let p : Wanted = get_or ps k wants.Own in
    let j : k < length ts = omega (arith, c.loop-index-test.true, c.min-index-end.ensures, c.min-first.ensures) in
    let l : k < length ps = omega (arith, c.loop-index-test.true, c.min-index-end.ensures, c.min-first.ensures) in
    let m : k < length xs = omega (arith, c.loop-index-test.true, c.min-index-end.ensures) in
    let first : drop k ts ≡ t ∷ drop (k + 1) ts = from_there ts k Int j in
    let here : drop k ps ≡ p ∷ drop (k + 1) ps = from_there ps k wants.Own l in
    let there : drop k xs ≡ x ∷ drop (k + 1) xs = from_one xs k x m c.index-es-index.is in
    let own = given_fault t p (first_pos (ex_of x)) in
    let rest = EachFails (drop (k + 1) ts) (drop (k + 1) ps) (exs_of (drop (k + 1) xs)) in
    let whole = EachFails ts ps (exs_of xs) in
    let kept0 = subst (λ (y : List ValueType). Kept whole (EachFails y (drop k ps) (exs_of (drop k xs))) c.loop-index.fault) first c.loop-index.invariant in
    let kept1 = subst (λ (z : List Wanted). Kept whole (EachFails (t ∷ drop (k + 1) ts) z (exs_of (drop k xs))) c.loop-index.fault) here kept0 in
    let kept2 = subst (λ (z : List Expr). Kept whole (EachFails (t ∷ drop (k + 1) ts) (p ∷ drop (k + 1) ps) (exs_of z)) c.loop-index.fault) there kept1 in
    rw (c.lesser-fault.ensures, c.given_fault-own.ensures, c.pos.ensures) (kept_more whole (IsFault own) rest c.loop-index.fault own kept2 (leaf own))

pub returns : goal.returns
returns c =
    let ts = c.args.types.now in
    let ps = c.args.wanted.now in
    let xs = c.args.es.now in
    let k = c.loop-index.index in
    let end : min (min (length ts) (length ps)) (length xs) ≤ k = omega (arith, c.loop-index-test.false, c.min-index-end.ensures, c.min-first.ensures) in
    kept_end (EachFails ts ps (exs_of xs)) (EachFails (drop k ts) (drop k ps) (exs_of (drop k xs))) c.loop-index.fault
    (λ f h. none_fails (drop k ts) (drop k ps) (exs_of (drop k xs)) f (by (ltb k (length ts)) refl (ltb k (length ps)) refl end) h) c.loop-index.invariant
  where
    by : (a : Bool) → ltb c.loop-index.index (length c.args.types.now) ≡ a → (b : Bool) → ltb c.loop-index.index (length c.args.wanted.now) ≡ b
        → min (min (length c.args.types.now) (length c.args.wanted.now)) (length c.args.es.now) ≤ c.loop-index.index
        → (drop c.loop-index.index c.args.types.now ≡ []) ⊎ ((drop c.loop-index.index c.args.wanted.now ≡ []) ⊎ (exs_of (drop c.loop-index.index c.args.es.now) ≡ none))
    by true is true js end =
        let k = c.loop-index.index in
        inr (inr (ap exs_of (nothing_left c.args.es.now k (λ m. absurd (omega (arith, m, end, ltb-true k (length c.args.types.now) is, ltb-true k (length c.args.wanted.now) js))))))
    by true is false js end = inr (inl (nothing_left c.args.wanted.now c.loop-index.index (λ l. absurd (omega (arith, l, ltb-false c.loop-index.index (length c.args.wanted.now) js)))))
    by false is b js end = inl (nothing_left c.args.types.now c.loop-index.index (λ l. absurd (omega (arith, l, ltb-false c.loop-index.index (length c.args.types.now) is))))
