-- The fields so far have words.
use Rattle.std.proofs.Common.{ℕ, ◌<◌, get_or}
use Rattle.base.specs.declared.ids.TypeId.{TypeId}
use Rattle.typed.specs.Formed.{HasWords}
use Rattle.checker_tests.proofs.declarations.tell.Given as goal

abbrev pub invariant-loop-field : goal.invariant-loop-field
invariant-loop-field l = (k : ℕ) (d : TypeId) → k < l.field-index → HasWords l.table (get_or l.field-items k d)
