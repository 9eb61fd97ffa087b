-- The numbers of types, and the types by their numbers.
use Rattle.std.proofs.Common.{◌≡◌, ℕ, List, [], ◌∷◌, ◌++◌, map, refl, sym, ap, ◌∙◌, append_assoc}
use Rattle.std.proofs.lemmas.List.{map-append}
use Rattle.base.specs.declared.ids.TypeId.{TypeId}
use Rattle.typed.specs.Tables.{Table}
use Rattle.typed.specs.Trees.{tree_named}
use Rattle.signatures.specs.declared.slots.Slot.{Slot}
use Rattle.function_heads.specs.Heads.{slot_number, slot_tree}

pub number_more : (items : List TypeId) (t : TypeId) (n : ℕ) (rest : List ℕ) → t.0 ≡ n → map (λ (x : TypeId). x.0) items ++ (n ∷ rest) ≡ map (λ (x : TypeId). x.0) (items ++ t ∷ []) ++ rest
number_more items t n rest is =
    ap (λ k. map (λ (x : TypeId). x.0) items ++ (k ∷ rest)) (sym is) ∙ sym (append_assoc (map (λ (x : TypeId). x.0) items) (t.0 ∷ []) rest) ∙ ap (λ l. l ++ rest) (sym (map-append (λ (x : TypeId). x.0) items (t ∷ [])))

-- ---- types by their numbers

slot_trees : (T : Table) (ps : List Slot) → map (tree_named T) (map (slot_number T) ps) ≡ map (slot_tree T) ps
slot_trees T [] = refl
slot_trees T (p ∷ ps) = ap (λ l. slot_tree T p ∷ l) (slot_trees T ps)

types_of_numbers : (T : Table) (items : List TypeId) → map (λ (x : TypeId). tree_named T x.0) items ≡ map (tree_named T) (map (λ (x : TypeId). x.0) items)
types_of_numbers T [] = refl
types_of_numbers T (x ∷ items) = ap (λ l. tree_named T x.0 ∷ l) (types_of_numbers T items)

pub trees_of : (T : Table) (items : List TypeId) (ps : List Slot) → map (λ (x : TypeId). x.0) items ≡ map (slot_number T) ps → map (λ (x : TypeId). tree_named T x.0) items ≡ map (slot_tree T) ps
trees_of T items ps is = types_of_numbers T items ∙ ap (map (tree_named T)) is ∙ slot_trees T ps
