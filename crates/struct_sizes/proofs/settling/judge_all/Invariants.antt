use Rattle.std.proofs.Common.{◌≡◌, take, length, replicate}
use Rattle.struct_sizes.specs.declared.verdicts.Verdict.TheVariants.{Sized}
use Rattle.struct_sizes.specs.Filling.{judged_all}
use Rattle.components.specs.Graph.{rows}
use Rattle.components.specs.Components.{component_lists}
use Rattle.struct_sizes.proofs.settling.judge_all.Given as goal

abbrev pub invariant-loop-component : goal.invariant-loop-component
invariant-loop-component l = l.verdicts.items ≡ judged_all (rows l.mentions) l.flaws l.table (replicate (length l.mentions) (Sized 0)) (take l.component-index (component_lists l.components.components.items))
