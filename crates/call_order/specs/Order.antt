-- The order of a program's functions in batches, callees first.
use Rattle.std.specs.Prelude.{◌≡◌, ℕ, ◌<◌, ◌≤◌, ◌==◌, ◌↔◌, List, length, map, Some, slice_get}
use Rattle.std.specs.List.{Contains, count_by, sum_by}
use Rattle.std.specs.List.Sorted.{IsStrictlyIncreasing}
use Rattle.typed_syntax.specs.Syntax.{Program}
use Rattle.call_order.specs.declared.batches.Batch.{Batch}
use Rattle.call_order.specs.Calls.{Calls}

-- a function reaches another one by any number of calls, also none
pub data Reaches (p : Program) : ℕ → ℕ → Type 0 where
  itself : {f : ℕ} → Reaches p f f
  by_call : {f g h : ℕ} → Reaches p f g → Calls p g h → Reaches p f h

-- batches as lists of the numbers of their functions
abbrev pub numbers : Batch → List ℕ
numbers b = map (λ f. f.0) b.funcs.items

abbrev pub batch_lists : List Batch → List (List ℕ)
batch_lists bs = map numbers bs

-- a function stands in the batch at a place
abbrev pub Stands : List (List ℕ) → ℕ → ℕ → Type 0
Stands batches k f = (b : List ℕ) × (slice_get batches k ≡ Some b) × Contains b f

-- how often a function stands in batches
abbrev pub times : ℕ → List (List ℕ) → ℕ
times f batches = sum_by (λ b. count_by (λ g. g == f) b) batches

pub record IsCallOrder (p : Program) (batches : List (List ℕ)) : Type 0 where
  -- the batches hold each function of the program once, and nothing else
  pub once : (f : ℕ) → f < length p.funcs → times f batches ≡ 1
  pub only : (k f : ℕ) → Stands batches k f → f < length p.funcs
  -- those of a batch stand in the order of the text
  pub rising : (k : ℕ) (b : List ℕ) → slice_get batches k ≡ Some b → IsStrictlyIncreasing b
  -- two functions share a batch exactly where each reaches the other
  pub together : (f g : ℕ) → f < length p.funcs → g < length p.funcs → ((k : ℕ) × Stands batches k f × Stands batches k g) ↔ (Reaches p f g × Reaches p g f)
  -- a function that is called stands in its caller's batch or in an earlier one
  pub earlier : (k f g : ℕ) → Stands batches k f → Calls p f g → g < length p.funcs → (j : ℕ) × (j ≤ k) × Stands batches j g
