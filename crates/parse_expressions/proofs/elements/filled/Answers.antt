use Rattle.std.proofs.Common.{◌≡◌, ◌∷◌, sym, ◌∙◌}
use Rattle.syntax.specs.Expressions.{ex_of, elements_of}
use Rattle.parse_expressions.specs.Containers.{container_of}
use Rattle.parse_expressions.specs.Stacks.{frame_of}
use Rattle.parse_expressions.specs.States.{frames_in}
use Rattle.parse_expressions.proofs.Begins.{filled_plain}
use Rattle.parse_expressions.proofs.elements.filled.Goals as goal

pub returns-in_ok-push-in_default-clause-is_open : goal.returns-in_ok-push-in_default-clause-is_open
returns-in_ok-push-in_default-clause-is_open c =
    let innermost : frames_in c.args.reading ≡ frame_of c.in-Some.frame ∷ frames_in c.pop-rest.result.0 = rw c.in-Some.is at c.pop-rest.ensures.frames in
    filled_plain c.in-Some.frame (frames_in c.args.reading) (frames_in c.pop-rest.result.0) (frames_in c.in_ok-push-in_default.field-0) (container_of c.args.braces.container) (elements_of c.args.braces.elements.items) (ex_of c.in_ok-part.part.expr) (sym c.is_typed-is_typed.ensures ∙ c.if-is_typed.false) c.in_default.not-Element innermost c.in_ok-push-in_default.ensures.frames c.in_ok-part.ensures
