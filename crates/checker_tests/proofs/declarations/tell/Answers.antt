-- All fields have words.
use Rattle.std.proofs.Common.{length, get_or, ap, subst, arith}
use Rattle.typed.specs.Formed.{HasWords}
use Rattle.checker_tests.proofs.declarations.tell.Goals as goal

pub tell-requires-clause-fields : goal.tell-requires-clause-fields
tell-requires-clause-fields c =
    λ k d l. let e = c.deref-field-items.ensures.value in
    let n = ap length e in
    let t = c.loop-field-test.false in
    subst (λ fs. HasWords c.args.table.now (get_or fs k d)) e (c.loop-field.invariant k d (omega arith))
