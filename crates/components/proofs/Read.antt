-- What is read of a graph and of components.
use Rattle.std.proofs.Common.{◌≡◌, ℕ, ◌<◌, Bool, true, false, List, [], ◌∷◌, length, get_or, ◌⊎◌, inl, inr, refl, sym, ap, ◌∙◌}
use Rattle.std.specs.Prelude.{◌==◌, ◌||◌}
use Rattle.std.specs.List.{list_any}
use Rattle.std.specs.Option.{option_map}
use Rattle.std.specs.Global.{Vec}
use Rattle.std.proofs.lemmas.Bool.{eqb-true, eq-eqb, or_cases}
use Rattle.std.proofs.lemmas.Option.{slice_get-map, slice_get_read}
use Rattle.components.specs.declared.component.Component.{Component}
use Rattle.components.specs.Graph.{Among, row_in, row, rows}
use Rattle.components.specs.Components.{component_lists}
use Rattle.components.specs.Search.{At}

pub row_read : (vs : List (Vec ℕ)) (k : ℕ) (v : Vec ℕ) → k < length vs → v ≡ get_or vs k v → row (rows vs) k ≡ v.items
row_read vs k v within read = ap row_in (slice_get-map (λ (x : Vec ℕ). x.items) vs k ∙ ap (option_map (λ (x : Vec ℕ). x.items)) (slice_get_read vs (length vs) k v refl within read))

pub component_read : (cs : List Component) (c : ℕ) (x : Component) → c < length cs → x ≡ get_or cs c x → At (component_lists cs) c x.nodes.items
component_read cs c x within read = slice_get-map (λ (y : Component). y.nodes.items) cs c ∙ ap (option_map (λ (y : Component). y.nodes.items)) (slice_get_read cs (length cs) c x refl within read)

either_true : (b d : Bool) → (b ≡ true) ⊎ (d ≡ true) → (b || d) ≡ true
either_true true d h = refl
either_true false d (inl h) = let bad : false ≡ true = h in absurd cc
either_true false d (inr h) = h

pub any_among : (k : ℕ) (xs : List ℕ) → list_any (λ y. y == k) xs ≡ true → Among k xs
any_among k [] h = let bad : false ≡ true = h in absurd cc
any_among k (x ∷ xs) h = elim (or_cases (x == k) (list_any (λ y. y == k) xs) h) [ inl e ↦ inl (sym (eqb-true x k e)) | inr later ↦ inr (any_among k xs later) ]

pub among_any : (k : ℕ) (xs : List ℕ) → Among k xs → list_any (λ y. y == k) xs ≡ true
among_any k [] h = absurd h
among_any k (x ∷ xs) (inl e) = either_true (x == k) (list_any (λ y. y == k) xs) (inl (eq-eqb x k (sym e)))
among_any k (x ∷ xs) (inr h) = either_true (x == k) (list_any (λ y. y == k) xs) (inr (among_any k xs h))
