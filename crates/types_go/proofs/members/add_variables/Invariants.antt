use Rattle.std.proofs.Common.{◌≡◌, ◌++◌, drop}
use Rattle.package_values.specs.Passing.{item_views}
use Rattle.types_go.specs.Functions.{numbered}
use Rattle.types_go.specs.Passing.{member_views}
use Rattle.types_go.proofs.members.add_variables.Given as goal

abbrev pub invariant-loop-index : goal.invariant-loop-index
invariant-loop-index l = member_views l.fn.members.items ++ numbered l.from (item_views (drop l.from l.items)) ≡ member_views l.members.items ++ numbered l.index (item_views (drop l.index l.items))
