-- What the graph of a whole program asks of it, beside form: a function's sites stand where it says, and what values go to is there.
use Rattle.std.specs.Prelude.{◌≡◌, ℕ, ◌+◌, ◌<◌, ◌≤◌, Bool, true, false, length, Option, Some, None, slice_get}
use Rattle.std.specs.List.{Contains}
use Rattle.deref_walk.specs.declared.loc.Loc.{Loc}
use Rattle.deref_walk.specs.declared.loc.Loc.TheVariants as loc
use Rattle.value_flows.specs.declared.program.Site.{Site}
use Rattle.value_flows.specs.declared.value.Target.{Target}
use Rattle.value_flows.specs.Syntax.{Val, Vals, Exs, variable, address, inside, behind, parts, beside, sent, call, none, more, each, results, Act, give, carry, Result, Func, Program}
use Rattle.escape_graph.specs.Edges.{results_of}
use Rattle.param_tags.specs.Order.{func_at}

-- ---- sites

-- a number is among those of a function's sites
abbrev pub IsAmong : ℕ → Func → Type 0
IsAmong x func = (func.first ≤ x) × (x < func.first + func.count)

-- ---- what values go to

-- a result is there, and has no name
abbrev pub IsUnnamed : Option Result → Type 0
IsUnnamed None = ⊥
IsUnnamed (Some r) = r.site ≡ None

-- a site is there, and a loop carries it
abbrev pub carried_in : Option Site → Bool
carried_in None = false
carried_in (Some s) = s.carried

module _ (p : Program) where
  abbrev pub IsCarried : ℕ → Type 0
  IsCarried x = carried_in (slice_get p.sites x) ≡ true

  -- a result or what a loop carries is there; of sites the form tells it
  abbrev pub Has : Loc → Type 0
  Has (loc.Site x) = Unit {0}
  Has (loc.Result g j) = IsUnnamed (slice_get (results_of p g.0) j)
  Has loc.Heap = Unit {0}
  Has (loc.Carry x) = IsCarried x.0

  abbrev pub GoesTo : Option Target → Type 0
  GoesTo None = Unit {0}
  GoesTo (Some t) = Has t.to

  -- so is what a value is sent to
  abbrev mutual
    pub Stands : Val → Type 0
    Stands (variable x) = Unit {0}
    Stands (address x) = Unit {0}
    Stands (inside has v) = Stands v
    Stands (behind v) = Stands v
    Stands (parts vs) = EachStands vs
    Stands (beside vs v) = EachStands vs × Stands v
    Stands (sent t v) = Has t.to × Stands v
    Stands (call g es) = AllStand es

    pub EachStands : Vals → Type 0
    EachStands none = Unit {0}
    EachStands (more v vs) = Stands v × EachStands vs

    pub AllStand : Exs → Type 0
    AllStand (each vs) = EachStands vs
    AllStand (results g es) = AllStand es

  abbrev pub ActStands : Act → Type 0
  ActStands (give es targets) = AllStand es × ((t : Option Target) → Contains targets t → GoesTo t)
  ActStands (carry x) = IsCarried x

-- ---- the whole

-- each site among a function's is its own, and what its values go to is there
pub record FuncStands (p : Program) (f : ℕ) (func : Func) : Type 0 where
  pub sites : (x : ℕ) → IsAmong x func → x < length p.sites → func_at p x ≡ Some f
  pub body : (a : Act) → Contains func.body a → ActStands p a

-- each function stands so, and a site that has a function is among this one's
pub record IsStanding (p : Program) : Type 0 where
  pub funcs : (f : ℕ) (func : Func) → slice_get p.funcs f ≡ Some func → FuncStands p f func
  pub sites : (x f : ℕ) → func_at p x ≡ Some f → (func : Func) × (slice_get p.funcs f ≡ Some func) × IsAmong x func
