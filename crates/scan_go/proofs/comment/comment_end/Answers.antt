use Rattle.std.proofs.Common.{arith, sym, ap, ◌∙◌, List, ℕ}
use Rattle.std.specs.Prelude.{nat_eq, codes}
use Rattle.std.specs.List.{starts_with}
use Rattle.std.proofs.lemmas.List.{take_rest}
use Rattle.scan_go.proofs.CommentEnd.{end_later}
use Rattle.scan_go.proofs.comment.comment_end.Goals as goal

pub loop-i-preserved : goal.loop-i-preserved
loop-i-preserved c = sym (end_later c.args.rest.now c.loop-i.i (omega arith) (ap (λ (r : List ℕ). starts_with nat_eq r (codes "*/")) (sym (take_rest c.args.rest.now c.loop-i.i)) ∙ sym c.starts_with.ensures.value ∙ c.if-starts_with.false)) ∙ c.loop-i.invariant
