-- What is asked of programs and batches.
use Rattle.std.specs.Prelude.{◌≡◌, ◌⊎◌, ℕ, ◌<◌, true, List, length, Option, Some, None, slice_get}
use Rattle.std.specs.List.{Contains}
use Rattle.base.specs.declared.ids.FuncId.{FuncId}
use Rattle.deref_walk.specs.declared.loc.Loc.{Loc}
use Rattle.deref_walk.specs.declared.loc.Loc.TheVariants as loc
use Rattle.value_flows.specs.declared.program.Site.{Site}
use Rattle.value_flows.specs.declared.value.Target.{Target}
use Rattle.value_flows.specs.Syntax.{Val, Vals, Exs, variable, address, inside, behind, parts, beside, sent, call, none, more, each, results, Act, give, carry, Result, Func, Program}
use Rattle.escape_graph.specs.Edges.{numbers, is_own}

-- ---- calls

-- a value calls a function
abbrev mutual
  pub Calls : Val → ℕ → Type 0
  Calls (variable x) g = ⊥
  Calls (address x) g = ⊥
  Calls (inside has v) g = Calls v g
  Calls (behind v) g = Calls v g
  Calls (parts vs) g = AnyCalls vs g
  Calls (beside vs v) g = AnyCalls vs g ⊎ Calls v g
  Calls (sent t v) g = Calls v g
  Calls (call f es) g = (f ≡ g) ⊎ AllCall es g

  pub AnyCalls : Vals → ℕ → Type 0
  AnyCalls none g = ⊥
  AnyCalls (more v vs) g = Calls v g ⊎ AnyCalls vs g

  pub AllCall : Exs → ℕ → Type 0
  AllCall (each vs) g = AnyCalls vs g
  AllCall (results f es) g = (f ≡ g) ⊎ AllCall es g

abbrev pub ActCalls : Act → ℕ → Type 0
ActCalls (give es targets) g = AllCall es g
ActCalls (carry x) g = ⊥

abbrev pub FuncCalls : Program → ℕ → ℕ → Type 0
FuncCalls p f g = (func : Func) × (a : Act) × (slice_get p.funcs f ≡ Some func) × Contains func.body a × ActCalls a g

-- a function stands in the batch at a place
abbrev pub Stands : List (List FuncId) → ℕ → ℕ → Type 0
Stands batches k f = (b : List FuncId) × (slice_get batches k ≡ Some b) × (is_own (numbers b) f ≡ true)

-- each function stands in one batch, and what it calls in this one or in an earlier one
pub record AreOrdered (p : Program) (batches : List (List FuncId)) : Type 0 where
  pub once : (i j f : ℕ) → Stands batches i f → Stands batches j f → i ≡ j
  pub within : (k f : ℕ) → Stands batches k f → f < length p.funcs
  pub earlier : (k f g : ℕ) → Stands batches k f → FuncCalls p f g → Stands batches k g ⊎ ((j : ℕ) × (j < k) × Stands batches j g)

-- ---- form: a function's sites are its own

abbrev pub number_in : Option FuncId → Option ℕ
number_in None = None
number_in (Some f) = Some f.0

abbrev pub func_in : Option Site → Option ℕ
func_in None = None
func_in (Some s) = number_in s.func

-- the function of a site
abbrev pub func_at : Program → ℕ → Option ℕ
func_at p x = func_in (slice_get p.sites x)

module _ (p : Program) (f : ℕ) where
  -- a site is the function's
  abbrev pub IsOf : ℕ → Type 0
  IsOf x = func_at p x ≡ Some f

  abbrev pub MayBeOf : Option ℕ → Type 0
  MayBeOf None = Unit {0}
  MayBeOf (Some x) = IsOf x

  -- a location is the heap or the function's
  abbrev pub IsIn : Loc → Type 0
  IsIn (loc.Site x) = IsOf x.0
  IsIn (loc.Result g j) = g.0 ≡ f
  IsIn loc.Heap = Unit {0}
  IsIn (loc.Carry x) = IsOf x.0

  abbrev pub GoesIn : Option Target → Type 0
  GoesIn None = Unit {0}
  GoesIn (Some t) = IsIn t.to

  -- the sites of a value are the function's
  abbrev mutual
    pub Fits : Val → Type 0
    Fits (variable x) = IsOf x
    Fits (address x) = IsOf x
    Fits (inside has v) = Fits v
    Fits (behind v) = Fits v
    Fits (parts vs) = EachFits vs
    Fits (beside vs v) = EachFits vs × Fits v
    Fits (sent t v) = IsIn t.to × Fits v
    Fits (call g es) = AllFit es

    pub EachFits : Vals → Type 0
    EachFits none = Unit {0}
    EachFits (more v vs) = Fits v × EachFits vs

    pub AllFit : Exs → Type 0
    AllFit (each vs) = EachFits vs
    AllFit (results g es) = AllFit es

  abbrev pub ActFits : Act → Type 0
  ActFits (give es targets) = AllFit es × ((t : Option Target) → Contains targets t → GoesIn t)
  ActFits (carry x) = IsOf x

-- those of its parameters, its results and its acts are
pub record FuncFits (p : Program) (f : ℕ) (func : Func) : Type 0 where
  pub params : (o : Option ℕ) → Contains func.params o → MayBeOf p f o
  pub results : (r : Result) → Contains func.results r → MayBeOf p f r.site
  pub body : (a : Act) → Contains func.body a → ActFits p f a

abbrev pub IsFormed : Program → Type 0
IsFormed p = (f : ℕ) (func : Func) → slice_get p.funcs f ≡ Some func → FuncFits p f func

-- those of a batch's functions are, and these are there
abbrev pub BatchFits : Program → List FuncId → Type 0
BatchFits p b = (f : ℕ) → is_own (numbers b) f ≡ true → (func : Func) × (slice_get p.funcs f ≡ Some func) × FuncFits p f func
