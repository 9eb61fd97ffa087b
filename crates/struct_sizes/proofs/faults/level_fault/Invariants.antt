use Rattle.std.proofs.Common.{ℕ, ◌≤◌, drop, length}
use Rattle.struct_sizes.specs.declared.verdicts.SizeFault.{SizeFault}
use Rattle.struct_sizes.specs.Structs.{prefixed_of}
use Rattle.struct_sizes.specs.Words.{prefixed_words, base_words}
use Rattle.struct_sizes.specs.Faults.{FailsAt}
use Rattle.struct_sizes.specs.Kept.{Agree}
use Rattle.struct_sizes.proofs.faults.level_fault.Given as goal

abbrev pub invariant-loop-level : goal.invariant-loop-level
invariant-loop-level l = (l.level ≤ length l.t.prefixes.items)
    × Agree l.words (prefixed_words (drop l.level l.t.prefixes.items) (base_words l.table l.t.base))
    × ((level : ℕ) (fault : SizeFault) → l.level ≤ level → FailsAt l.table (prefixed_of l.t) level fault → ⊥)

abbrev pub decreases-loop-level : goal.decreases-loop-level
decreases-loop-level l = l.level
