-- Which numbers are limits of a run.
use Rattle.std.specs.Prelude.{ℕ, ◌<◌, ◌≤◌, ◌^◌, ◌⊎◌}
use Rattle.limits.specs.declared.limits.LimitFault.{LimitFault}
use Rattle.limits.specs.declared.limits.LimitFault.TheVariants.{StartTooSmall, StartOverMax, OverTop}

-- the words that the stack starts with, the most words of the stack and of the heap, and the most instructions
pub record Bounds : Type 0 where
  pub start : ℕ
  pub stack_max : ℕ
  pub heap_max : ℕ
  pub steps : ℕ

abbrev pub bounds : (start stack_max heap_max steps : ℕ) → Bounds
bounds start stack_max heap_max steps = record { start = start; stack_max = stack_max; heap_max = heap_max; steps = steps }

-- the fewest words that a stack starts with
abbrev pub least_start : ℕ
least_start = 16

-- the most words that a stack or a heap may be allowed
abbrev pub most_words : ℕ
most_words = 2 ^ 32

-- numbers within the ranges
pub record AreLimits (b : Bounds) : Type 0 where
  pub least : least_start ≤ b.start
  pub within : b.start ≤ b.stack_max
  pub stack : b.stack_max ≤ most_words
  pub heap : b.heap_max ≤ most_words

-- the first range that is left, in the order of the variants
abbrev pub IsFirstFault : Bounds → LimitFault → Type 0
IsFirstFault b StartTooSmall = b.start < least_start
IsFirstFault b StartOverMax = (least_start ≤ b.start) × (b.stack_max < b.start)
IsFirstFault b OverTop = (least_start ≤ b.start) × (b.start ≤ b.stack_max) × ((most_words < b.stack_max) ⊎ (most_words < b.heap_max))

abbrev pub fault_number : LimitFault → ℕ
fault_number StartTooSmall = 1
fault_number StartOverMax = 2
fault_number OverTop = 3
