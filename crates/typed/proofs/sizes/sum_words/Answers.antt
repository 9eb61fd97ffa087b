-- A part of the fields has no more words than all of them.
use Rattle.std.proofs.Common.{sum_by, sym, arith}
use Rattle.std.proofs.lemmas.Grind.{common_steps}
use Rattle.std.proofs.lemmas.List.Sums.{sum_by_more_le}
use Rattle.typed.specs.Words.{known}
use Rattle.typed.proofs.Limits.{over_none}
use Rattle.typed.proofs.sizes.sum_words.Goals as goal

pub returns-then-sum-gt-MOST_WORDS : goal.returns-then-sum-gt-MOST_WORDS
returns-then-sum-gt-MOST_WORDS c = sym (over_none (sum_by (λ e. known c.args.words.now e.0) c.args.fields.now) (grind (arith, common_steps, sum_by_more_le)))
