-- The test of a program's form.
use Rattle.std.specs.Prelude.{ℕ, suc, ◌==◌, nat_lt, Bool, true, false, ◌&&◌, List, [], ◌∷◌, length, Option, Some, None}
use Rattle.std.specs.List.{list_all}
use Rattle.deref_walk.specs.declared.loc.Loc.{Loc}
use Rattle.deref_walk.specs.declared.loc.Loc.TheVariants as loc
use Rattle.value_flows.specs.declared.value.Target.{Target}
use Rattle.value_flows.specs.Syntax.{Val, Vals, Exs, variable, address, inside, behind, parts, beside, sent, call, none, more, each, results, Act, give, carry, Func, Program}
use Rattle.param_tags.specs.Order.{func_at}

abbrev pub is_number : ℕ → Option ℕ → Bool
is_number f None = false
is_number f (Some g) = g == f

module _ (p : Program) (f : ℕ) where
  -- a site is the function's
  abbrev pub is_of : ℕ → Bool
  is_of x = is_number f (func_at p x)

  abbrev pub may_be_of : Option ℕ → Bool
  may_be_of None = true
  may_be_of (Some x) = is_of x

  -- a location is the heap or the function's
  abbrev pub is_in : Loc → Bool
  is_in (loc.Site x) = is_of x.0
  is_in (loc.Result g j) = g.0 == f
  is_in loc.Heap = true
  is_in (loc.Carry x) = is_of x.0

  abbrev pub goes_in : Option Target → Bool
  goes_in None = true
  goes_in (Some t) = is_in t.to

  -- the sites of a value are the function's, and each function that it calls is there
  abbrev mutual
    pub fits : Val → Bool
    fits (variable x) = is_of x
    fits (address x) = is_of x
    fits (inside has v) = fits v
    fits (behind v) = fits v
    fits (parts vs) = each_fits vs
    fits (beside vs v) = each_fits vs && fits v
    fits (sent t v) = is_in t.to && fits v
    fits (call g es) = nat_lt g (length p.funcs) && all_fit es

    pub each_fits : Vals → Bool
    each_fits none = true
    each_fits (more v vs) = fits v && each_fits vs

    pub all_fit : Exs → Bool
    all_fit (each vs) = each_fits vs
    all_fit (results g es) = nat_lt g (length p.funcs) && all_fit es

  abbrev pub act_fits : Act → Bool
  act_fits (give es targets) = all_fit es && list_all goes_in targets
  act_fits (carry x) = is_of x

  abbrev pub func_fits : Func → Bool
  func_fits func =
      list_all may_be_of func.params && (list_all (λ r. may_be_of r.site) func.results && list_all act_fits func.body)

-- those of some functions, from the number f on
abbrev pub funcs_fit : Program → ℕ → List Func → Bool
funcs_fit p f [] = true
funcs_fit p f (func ∷ fs) = func_fits p f func && funcs_fit p (suc f) fs

abbrev pub is_formed : Program → Bool
is_formed p = funcs_fit p 0 p.funcs
