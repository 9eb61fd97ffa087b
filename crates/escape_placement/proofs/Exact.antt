-- Which variables are on the heap.
use Rattle.std.proofs.Common.{◌≡◌, ◌⊎◌, ◌↔◌, inl, inr, ℕ, zero, suc, negsuc, Bool, true, false, List, [], ◌∷◌, Option, Some, None, is_some, slice_get, refl, ap, ◌∙◌}
use Rattle.base.specs.declared.ids.FuncId.{FuncId}
use Rattle.deref_walk.specs.declared.loc.Loc.{Loc}
use Rattle.deref_walk.specs.Flow.{IsLeast}
use Rattle.value_flows.specs.declared.placed.Placed.{Placed}
use Rattle.value_flows.specs.declared.placed.Placed.TheVariants.{Stack, Known, Flow}
use Rattle.value_flows.specs.Syntax.{Program as FlowProgram, Tags}
use Rattle.typed_syntax.specs.Syntax.{Program}
use Rattle.typed.specs.declared.program.HeapReason.{HeapReason}
use Rattle.typed.specs.declared.program.HeapReason.TheVariants as reason
use Rattle.typed.specs.declared.program.Site.{Site}
use Rattle.escape_graph.specs.Targets.{site}
use Rattle.escape_graph.specs.Edges.{whole_edges}
use Rattle.param_tags.specs.Heap.{is_on, placed_at, heap_of, known, outlives}
use Rattle.param_tags.specs.Whole.{IsSolution}
use Rattle.typed_flows.specs.Flows.{flows_of, known_by}
use Rattle.escape_placement.specs.Laws.{ReasonsCount, PlacedExactly}

-- ---- reasons

known_some : (o : Option HeapReason) → is_some (known_by o) ≡ is_some o
known_some None = refl
known_some (Some reason.Package) = refl
known_some (Some reason.Size) = refl
known_some (Some reason.Unknown) = refl

known_there : (p : Program) (sites : List Site) (x : ℕ) (s : Site) → slice_get sites x ≡ Some s → known (flows_of p sites) x ≡ is_some s.known
known_there p [] x s at = let bad : None ≡ Some s = at in absurd cc
known_there p (t ∷ sites) zero s at = known_some t.known ∙ ap (λ (o : Option Site). some_in o) at
  where
    some_in : Option Site → Bool
    some_in None = false
    some_in (Some t) = is_some t.known
known_there p (t ∷ sites) (suc x) s at = known_there p sites x s at

pub reasons_count : ReasonsCount
reasons_count p sites K all x counted has some =
    all x (known_there p sites x has.0 has.1 ∙ ap is_some has.2 ∙ some has.0 has.1)

-- ---- what a solution puts on the heap

module _ (p : FlowProgram) (batches : List (List FuncId)) (tags : Tags) (placed : List Placed) (solution : IsSolution p batches tags placed) where
  abbrev Held : ℕ → Type 0
  Held x = (r : Loc) × (outlives p (heap_of placed) r x ≡ true) × IsLeast (whole_edges p tags batches) r (site x) (Some (negsuc 0))

  by_home : (x : ℕ) (home : Placed) → placed_at placed x ≡ home → is_on home ≡ true → (known p x ≡ true) ⊎ Held x
  by_home x Stack is on = absurd (let never : false ≡ true = on in cc)
  by_home x (Known why) is on = inl (ap is_some ((solution.knowns x why).0 is))
  by_home x (Flow r) is on = let why = solution.reasons x r is in inr (r, why.0, why.1)

  exactly : (x : ℕ) → (heap_of placed x ≡ true) ↔ ((known p x ≡ true) ⊎ Held x)
  exactly x = (
    (λ on. by_home x (placed_at placed x) refl on),
    (λ why. elim why [ inl is ↦ solution.set.closed.known x is | inr held ↦ solution.set.closed.closed held.0 x held.1 held.2 ]),
  )

pub placed_exactly : PlacedExactly
placed_exactly p batches tags placed solution x = exactly p batches tags placed solution x
