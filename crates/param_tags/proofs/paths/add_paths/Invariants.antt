use Rattle.std.proofs.Common.{◌≡◌, List, length, take}
use Rattle.deref_walk.specs.declared.graph.Edge.{Edge}
use Rattle.param_tags.specs.Walks.{AreHolds, AreWalked}
use Rattle.param_tags.specs.Paths.{AddsPaths}
use Rattle.param_tags.proofs.paths.add_paths.Given as goal

abbrev pub invariant-loop-hold : goal.invariant-loop-hold
invariant-loop-hold l = record {
  size : length l.paths ≡ length l.fn.paths;
  adds : (edges : List Edge) → AreWalked edges l.walks → AreHolds edges l.holds → AddsPaths edges l.placed (take l.hold-index l.holds) l.fn.paths l.paths;
}
