-- Where values go.
use Rattle.std.specs.Prelude.{ℕ, ◌+◌, ◌==◌, Bool, true, false, ◌&&◌, if◌then◌else◌, List, [], ◌∷◌, ◌++◌, map, filter, get_or, Option, Some, None}
use Rattle.std.specs.List.{list_any}
use Rattle.deref_walk.specs.declared.loc.Loc.{Loc}
use Rattle.deref_walk.specs.declared.loc.Loc.TheVariants as loc
use Rattle.deref_walk.specs.Locations.{same}
use Rattle.value_flows.specs.declared.value.Target.{Target}
use Rattle.value_flows.specs.declared.tags.ResultTag.{ResultTag}
use Rattle.value_flows.specs.Syntax.{Result, ParamTags}

-- the location of a site
abbrev pub site : ℕ → Loc
site x = loc.Site (record { 0 = x })

abbrev pub target : Loc → ℕ → Target
target to by = record { to = to; by = by }

-- what a value itself goes to, by some dereferences more
abbrev pub further : ℕ → List Target → List Target
further n ts = map (λ t. target t.to (t.by + n)) ts

-- what an address goes to: where no pointers lie at it, only where it is not followed
abbrev pub reached : Bool → List Target → List Target
reached true ts = ts
reached false ts = filter (λ t. t.by == 0) ts

-- ---- some targets more, each once

abbrev pub same_target : Target → Target → Bool
same_target t u = same t.to u.to && (t.by == u.by)

abbrev pub with_target : List Target → Target → List Target
with_target us t = if list_any (same_target t) us then us else us ++ t ∷ []

abbrev pub with_targets : List Target → List Target → List Target
with_targets us [] = us
with_targets us (t ∷ ts) = with_targets (with_target us t) ts

-- ---- calls

-- the location of a result of a function
abbrev pub result_at : ℕ → ℕ → Option ℕ → Loc
result_at f j None = loc.Result (record { 0 = f }) j
result_at f j (Some x) = site x

-- where the results of a call go: one without pointers goes nowhere
abbrev pub pointing : List Result → List (List Target) → List (List Target)
pointing (r ∷ rs) (ts ∷ tss) = (if r.pointers then ts else []) ∷ pointing rs tss
pointing rs tss = []

-- where an argument goes to whose parameter has these tags: to what each result goes to, by so many dereferences more
abbrev pub tagged : List Target → List ResultTag → List (List Target) → List Target
tagged us [] tss = us
tagged us (t ∷ tags) tss = tagged (with_targets us (further t.by (get_or tss t.result []))) tags tss

abbrev pub passed_on : List ParamTags → List (List Target) → List (List Target)
passed_on tags tss = map (λ t. tagged [] t.results tss) tags

-- where arguments go to in a call of the same batch, whatever becomes of the results: to the parameters with names
abbrev pub param_targets : Option ℕ → List Target
param_targets None = []
param_targets (Some x) = target (site x) 0 ∷ []

-- and in any other call: to the heap, by their tags
abbrev pub heap_targets : Option ℕ → List Target
heap_targets None = []
heap_targets (Some n) = target loc.Heap n ∷ []

-- where a value goes, as a list
abbrev pub target_list : Option Target → List Target
target_list None = []
target_list (Some t) = t ∷ []
