-- The test of what the graph of a whole program asks of it.
use Rattle.std.specs.Prelude.{ℕ, suc, ◌+◌, nat_lt, Bool, true, false, ◌&&◌, List, [], ◌∷◌, take, drop, Option, Some, None, is_some, not, slice_get}
use Rattle.std.specs.List.{list_all}
use Rattle.deref_walk.specs.declared.loc.Loc.{Loc}
use Rattle.deref_walk.specs.declared.loc.Loc.TheVariants as loc
use Rattle.value_flows.specs.declared.program.Site.{Site}
use Rattle.value_flows.specs.declared.value.Target.{Target}
use Rattle.value_flows.specs.Syntax.{Val, Vals, Exs, variable, address, inside, behind, parts, beside, sent, call, none, more, each, results, Act, give, carry, Result, Func, Program}
use Rattle.escape_graph.specs.Edges.{results_of}
use Rattle.param_tags.specs.Order.{number_in}
use Rattle.flow_batches.specs.Form.{is_number}
use Rattle.flow_batches.specs.Standing.{carried_in}

-- a test holds of each of some things, from the number k on
abbrev pub all_from : {A : Type 0} → (ℕ → A → Bool) → ℕ → List A → Bool
all_from test k [] = true
all_from test k (x ∷ xs) = test k x && all_from test (suc k) xs

-- ---- sites

abbrev pub has_func : ℕ → Site → Bool
has_func f s = is_number f (number_in s.func)

abbrev pub is_among : ℕ → Option Func → Bool
is_among x None = false
is_among x (Some func) = not (nat_lt x func.first) && nat_lt x (func.first + func.count)

-- a site that has a function is among its sites
abbrev pub is_right_in : Program → ℕ → Option ℕ → Bool
is_right_in p x None = true
is_right_in p x (Some f) = is_among x (slice_get p.funcs f)

abbrev pub is_right : Program → ℕ → Site → Bool
is_right p x s = is_right_in p x (number_in s.func)

-- ---- what values go to

abbrev pub is_unnamed : Option Result → Bool
is_unnamed None = false
is_unnamed (Some r) = not (is_some r.site)

module _ (p : Program) where
  abbrev pub is_carried : ℕ → Bool
  is_carried x = carried_in (slice_get p.sites x)

  abbrev pub has : Loc → Bool
  has (loc.Site x) = true
  has (loc.Result g j) = is_unnamed (slice_get (results_of p g.0) j)
  has loc.Heap = true
  has (loc.Carry x) = is_carried x.0

  abbrev pub goes_to : Option Target → Bool
  goes_to None = true
  goes_to (Some t) = has t.to

  abbrev mutual
    pub stands : Val → Bool
    stands (variable x) = true
    stands (address x) = true
    stands (inside follows v) = stands v
    stands (behind v) = stands v
    stands (parts vs) = each_stands vs
    stands (beside vs v) = each_stands vs && stands v
    stands (sent t v) = has t.to && stands v
    stands (call g es) = all_stand es

    pub each_stands : Vals → Bool
    each_stands none = true
    each_stands (more v vs) = stands v && each_stands vs

    pub all_stand : Exs → Bool
    all_stand (each vs) = each_stands vs
    all_stand (results g es) = all_stand es

  abbrev pub act_stands : Act → Bool
  act_stands (give es targets) = all_stand es && list_all goes_to targets
  act_stands (carry x) = is_carried x

-- ---- the whole

abbrev pub func_stands : Program → ℕ → Func → Bool
func_stands p f func = list_all (has_func f) (take func.count (drop func.first p.sites)) && list_all (act_stands p) func.body

abbrev pub is_standing : Program → Bool
is_standing p = all_from (is_right p) 0 p.sites && all_from (func_stands p) 0 p.funcs
