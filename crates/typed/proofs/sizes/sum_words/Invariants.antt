-- The sum so far.
use Rattle.std.proofs.Common.{◌≡◌, ◌≤◌, take, sum_by}
use Rattle.typed.specs.Words.{known}
use Rattle.typed.proofs.sizes.sum_words.Given as goal

abbrev pub invariant-loop-field : goal.invariant-loop-field
invariant-loop-field l = (l.sum ≡ sum_by (λ e. known l.words e.0) (take l.field-index l.fields)) × (l.sum ≤ 65535)
