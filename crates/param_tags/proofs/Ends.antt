-- The first and the last edge of a flow.
use Rattle.std.proofs.Common.{◌≡◌, ◌⊎◌, inl, inr, ℤ, pos, List, refl, sym}
use Rattle.std.specs.List.{Contains}
use Rattle.deref_walk.specs.declared.loc.Loc.{Loc}
use Rattle.deref_walk.specs.declared.graph.Edge.{Edge}
use Rattle.deref_walk.specs.Flow.{Reaches, itself, along}

pub first_edge : (E : List Edge) (r l : Loc) (d : ℤ) → Reaches E r l d → ((r ≡ l) × (d ≡ pos 0)) ⊎ ((e : Edge) × Contains E e × (e.to ≡ r))
first_edge E r _ _ itself = inl (refl, refl)
first_edge E r _ _ (along {d = d} e among flow) = elim (first_edge E r e.to d flow) [ inl here ↦ inr (e, among, sym here.0) | inr there ↦ inr there ]

pub last_edge : (E : List Edge) (r l : Loc) (d : ℤ) → Reaches E r l d → ((r ≡ l) × (d ≡ pos 0)) ⊎ ((e : Edge) × Contains E e × (e.from ≡ l))
last_edge E r _ _ itself = inl (refl, refl)
last_edge E r _ _ (along e among flow) = inr (e, among, refl)
