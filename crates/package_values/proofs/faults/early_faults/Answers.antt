use Rattle.std.proofs.Common.{◌≡◌, ◌∙◌, ◌≤◌, ◌<◌, ◌+◌, ℕ, List, [], ◌∷◌, ◌⊎◌, inl, inr, min, drop, length, ltb, Bool, true, false, sym, ap, refl, subst, arith}
use Rattle.std.proofs.lemmas.Bool.{ltb-true, ltb-false}
use Rattle.std.specs.Option.{option_map}
use Rattle.syntax.specs.declared.expression.Expr.{Expr}
use Rattle.syntax.specs.Expressions.{Exs as TreeExs, ex_of, exs_of}
use Rattle.type_faults.specs.declared.fault.Fault.{Fault}
use Rattle.type_faults.specs.Faults.{IsFault}
use Rattle.type_faults.proofs.Leasts.{Kept, kept_start, kept_more, kept_end, leaf}
use Rattle.type_faults.proofs.Lists.{from_one, nothing_left}
use Rattle.given_values.specs.declared.gives.Item.{Item}
use Rattle.given_values.specs.Given.{operand_in}
use Rattle.given_values.specs.Passing.{gives_of, seens}
use Rattle.expression_types.specs.Typing.{call_in}
use Rattle.expression_types.specs.Faults.{early_fault}
use Rattle.package_values.specs.ValueFaults.{EarlyFail}
use Rattle.package_values.proofs.faults.early_faults.Goals as goal

-- nothing fails of what there is not
no_values : (xs : List Expr) (os : List Item) (f : Fault) → (xs ≡ []) ⊎ (os ≡ []) → EarlyFail (exs_of xs) (seens os) f → ⊥
no_values [] os f is h = h
no_values (x ∷ xs) [] f is h = h
no_values (x ∷ xs) (o ∷ os) f (inl e) h = cc e
no_values (x ∷ xs) (o ∷ os) f (inr e) h = cc e

pub loop-index-init : goal.loop-index-init
loop-index-init c = kept_start _

pub loop-index-preserved : goal.loop-index-preserved
loop-index-preserved c =
    let xs = c.args.values.now in
    let os = c.args.items.now in
    let k = c.loop-index.index in
    let e : Expr = c.index-values-index.result in
    let item : Item = c.index-items-index.result in
    let l : k < length xs = omega (arith, c.loop-index-test.true, c.min-index-end.ensures) in
    let m : k < length os = omega (arith, c.loop-index-test.true, c.min-index-end.ensures) in
    let own = early_fault (call_in (ex_of e)) (operand_in (option_map gives_of item.gives)) in
    let here : drop k xs ≡ e ∷ drop (k + 1) xs = from_one xs k e l c.index-values-index.is in
    let there : drop k os ≡ item ∷ drop (k + 1) os = from_one os k item m c.index-items-index.is in
    let all = EarlyFail (exs_of xs) (seens os) in
    let kept1 = subst (λ (z : List Expr). Kept all (EarlyFail (exs_of z) (seens (drop k os))) c.loop-index.fault) here c.loop-index.invariant in
    let kept2 = subst (λ (z : List Item). Kept all (EarlyFail (exs_of (e ∷ drop (k + 1) xs)) (seens z)) c.loop-index.fault) there kept1 in
    let found : c.early_value_fault.result ≡ own =
    c.early_value_fault.ensures ∙ ap (λ (x : Item). early_fault (call_in (ex_of e)) (operand_in (option_map gives_of x.gives))) (sym c.index-items-index.is) in
    rw (c.lesser-fault.ensures, found)
    (kept_more all (IsFault own) (EarlyFail (exs_of (drop (k + 1) xs)) (seens (drop (k + 1) os))) c.loop-index.fault own kept2 (leaf own))

pub returns : goal.returns
returns c =
    let xs = c.args.values.now in
    let os = c.args.items.now in
    let k = c.loop-index.index in
    let end : min (length xs) (length os) ≤ k = omega (arith, c.loop-index-test.false, c.min-index-end.ensures) in
    let none : (drop k xs ≡ []) ⊎ (drop k os ≡ []) = by xs os k end (ltb k (length xs)) refl in
    kept_end (EarlyFail (exs_of xs) (seens os)) (EarlyFail (exs_of (drop k xs)) (seens (drop k os))) c.loop-index.fault (λ f. no_values (drop k xs) (drop k os) f none) c.loop-index.invariant
  where
    by : (xs : List Expr) (os : List Item) (k : ℕ) → min (length xs) (length os) ≤ k → (b : Bool) → ltb k (length xs) ≡ b → (drop k xs ≡ []) ⊎ (drop k os ≡ [])
    by xs os k end true is = inr (nothing_left os k (λ l. absurd (omega (arith, end, l, ltb-true k (length xs) is))))
    by xs os k end false is = inl (nothing_left xs k (λ l. absurd (omega (arith, l, ltb-false k (length xs) is))))
