use Rattle.std.proofs.Common.{sym, ◌∙◌}
use Rattle.deref_walk.proofs.Same.{same_is}
use Rattle.param_tags.proofs.walks.has_walk.Goals as goal

pub returns-then-is_same : goal.returns-then-is_same
returns-then-is_same c = λ h. (c.w-item.result, (c.loop-w.w-index, c.loop-w-test.true, sym c.w-item.is), same_is c.w-item.result.root c.args.root (sym c.is_same.ensures ∙ c.if-is_same.true))
