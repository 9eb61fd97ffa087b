-- Batches of functions that reach one another by calls.
use Rattle.std.specs.Prelude.{◌≡◌, ℕ, ◌<◌, ◌↔◌, List, length, map, Some, slice_get}
use Rattle.base.specs.declared.ids.FuncId.{FuncId}
use Rattle.value_flows.specs.Syntax.{Program}
use Rattle.escape_graph.specs.Edges.{numbers}
use Rattle.param_tags.specs.Order.{FuncCalls, Stands}

-- each function that is called is there
abbrev pub CallsAreThere : Program → Type 0
CallsAreThere p = (f g : ℕ) → FuncCalls p f g → g < length p.funcs

-- a function reaches another one by any number of calls, also none
pub data Reaches (p : Program) : ℕ → ℕ → Type 0 where
  itself : {f : ℕ} → Reaches p f f
  by_call : {f g h : ℕ} → FuncCalls p f g → Reaches p g h → Reaches p f h

-- each function stands in a batch
abbrev pub HaveAll : Program → List (List FuncId) → Type 0
HaveAll p batches = (f : ℕ) → f < length p.funcs → (k : ℕ) × Stands batches k f

-- no function stands twice in a batch
abbrev pub AreSingle : List (List FuncId) → Type 0
AreSingle batches = (k : ℕ) (b : List FuncId) → slice_get batches k ≡ Some b
    → (i j : ℕ) (f : FuncId) → slice_get b i ≡ Some f → slice_get b j ≡ Some f → i ≡ j

-- two functions stand in one batch
abbrev pub Share : List (List FuncId) → ℕ → ℕ → Type 0
Share batches f g = (k : ℕ) × Stands batches k f × Stands batches k g

-- two functions stand in one batch exactly where each reaches the other
abbrev pub AreTogether : Program → List (List FuncId) → Type 0
AreTogether p batches = (f g : ℕ) → f < length p.funcs → g < length p.funcs → Share batches f g ↔ (Reaches p f g × Reaches p g f)

-- the numbers of the functions of each batch
abbrev pub number_lists : List (List FuncId) → List (List ℕ)
number_lists batches = map numbers batches
