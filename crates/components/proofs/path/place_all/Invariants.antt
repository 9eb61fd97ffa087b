use Rattle.std.proofs.Common.{◌≡◌, take}
use Rattle.components.specs.declared.path.Place.TheVariants.{Placed}
use Rattle.components.specs.Search.{set_all}
use Rattle.components.proofs.path.place_all.Given as goal

abbrev pub invariant-loop-node : goal.invariant-loop-node
invariant-loop-node l = l.places ≡ set_all Placed l.fn.places (take l.node-index l.nodes)
