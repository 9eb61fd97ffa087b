use Rattle.std.proofs.Common.{◌≡◌, ◌++◌, drop, map}
use Rattle.typed.specs.View.{left_of, site_numbers}
use Rattle.types_go.proofs.blocks.new_in.Given as goal
use Rattle.types_go.specs.Statements.{new_in}

abbrev pub invariant-loop-left : goal.invariant-loop-left
invariant-loop-left l = new_in (map left_of l.lefts) ≡ site_numbers l.sites.items ++ new_in (map left_of (drop l.left-index l.lefts))
