use Rattle.std.proofs.Common.{◌≡◌, drop}
use Rattle.std.specs.Prelude.{◌&&◌}
use Rattle.types_go.proofs.ranges.all_blank.Given as goal
use Rattle.types_go.specs.Ranges.{all_blank}

abbrev pub invariant-loop-name : goal.invariant-loop-name
invariant-loop-name l = all_blank l.text l.names ≡ (l.all && all_blank l.text (drop l.name-index l.names))
