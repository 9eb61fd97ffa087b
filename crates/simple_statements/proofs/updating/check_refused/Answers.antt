use Rattle.std.proofs.Common.{◌≡◌, List, ap, ◌∙◌, subst}
use Rattle.syntax.specs.Expressions.{exs_of}
use Rattle.type_faults.specs.Least.{IsLeast}
use Rattle.type_faults.proofs.Leasts.{least_join, leaf}
use Rattle.names.specs.Scope.{scope_of}
use Rattle.given_values.specs.Given.{Seen, many}
use Rattle.expression_types.specs.Typing.{seen}
use Rattle.given_values.specs.GivenFaults.{ValuesFail}
use Rattle.given_values.specs.Passing.{seens}
use Rattle.simple_statements.proofs.updating.check_refused.Goals as goal
use Rattle.simple_statements.specs.SimpleFaults.{have_values, given_count}

pub returns-clause-fault : goal.returns-clause-fault
returns-clause-fault c =
    let text = c.args.text.now in
    let s = scope_of c.args.scope.now in
    let ls = exs_of c.args.lefts.now in
    let es = exs_of c.args.es.now in
    let os : seens c.deref.result.now ≡ seen text s es = ap seens c.deref.ensures.value ∙ c.in_ok-listed.ensures.seen in
    let os2 : seens c.deref-2.result.now ≡ seen text s es = ap seens c.deref-2.ensures.value ∙ c.in_ok-listed.ensures.seen in
    let values : IsLeast (ValuesFail (many (seen text s es)) (seen text s es)) c.values_fault.result = subst (λ (l : List Seen). IsLeast (ValuesFail (many l) l) c.values_fault.result) os c.values_fault.ensures in
    let counted : c.given_count-counted.result ≡ given_count (have_values text s ls) (seen text s es) =
    c.given_count-counted.ensures ∙ ap (λ (l : List Seen). given_count c.in_ok-sides.sides.known l) os2 ∙ ap (λ b. given_count b (seen text s es)) c.in_ok-sides.ensures.known in
    rw (c.lesser-2.ensures, c.lesser-before.ensures, c.lesser.ensures, c.refused_fault.ensures, counted, c.lefts_pos.ensures)
    (least_join _ _ _ _ (least_join _ _ _ c.values_fault.result (least_join _ _ c.in_ok-sides.sides.fault c.in_ok-listed.listed.fault c.in_ok-sides.ensures.fault c.in_ok-listed.ensures.fault) values) (leaf _))
