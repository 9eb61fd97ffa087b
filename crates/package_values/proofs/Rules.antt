-- The rules of declarations of constants and variables, one declaration after the other, and what needs what as a table.
use Rattle.std.proofs.Common.{◌≡◌, ℕ, zero, suc, ◌+◌, ◌<◌, ◌≤◌, ◌⊎◌, inl, inr, true, false, List, [], ◌∷◌, length, map, get_or, Option, Some, None, refl, sym, ap, ◌∙◌, subst, arith, eqb}
use Rattle.std.specs.Prelude.{slice_get, IsTrue, ◌↔◌, Bool}
use Rattle.std.proofs.lemmas.Bool.{cases_Bool, eqb-true, eqb-false}
use Rattle.base.specs.declared.pos.Pos.{Pos}
use Rattle.syntax.specs.Declarations.{Declaration, constants, variables, types, function}
use Rattle.type_faults.specs.declared.fault.Fault.{Fault}
use Rattle.type_faults.specs.declared.fault.FaultKind.TheVariants.{SelfReference}
use Rattle.type_faults.specs.Faults.{fault}
use Rattle.type_faults.specs.Least.{IsLeast}
use Rattle.type_faults.proofs.Leasts.{Covers, Kept, same_fault}
use Rattle.names.specs.Scope.{Scope}
use Rattle.package_values.specs.declared.items.Item.{Item as ItemData}
use Rattle.package_values.specs.Values.{Item}
use Rattle.package_values.specs.Needs.{needed, needed_in, Reaches, at_once, through}
use Rattle.package_values.specs.ValueFaults.{cycle_place, DeclarationsFail, Recurs}
use Rattle.package_values.specs.Passing.{DeclarationFails, item_of, item_views, RecursAt, recursion_fault, has_mark, is_marked}
use Rattle.components.specs.Components.{AreOnCycles}
use Rattle.components.specs.Graph.{Among, row, Leads}
use Rattle.components.specs.Graph as graph

-- the same faults are ahead
pub kept_as : (Whole A B : Fault → Type 0) (least : Option Fault) → ((g : Fault) → A g → B g) → ((g : Fault) → B g → A g) → Kept Whole A least → Kept Whole B least
kept_as Whole A B least into back k = record { sound = k.sound; covered = λ g h. covered g (k.covered g h); within = λ g h. k.within g (back g h) }
  where
    covered : (g : Fault) → Covers least g ⊎ A g → Covers least g ⊎ B g
    covered g (inl c) = inl c
    covered g (inr a) = inr (into g a)

marked_there : (marks : List Bool) (k : ℕ) → k < length marks → (b : Bool) × (slice_get marks k ≡ Some b)
marked_there [] k l = absurd (omega (arith, l))
marked_there (m ∷ ms) zero l = (m, refl)
marked_there (m ∷ ms) (suc k) l = marked_there ms k (omega (arith, l))

pub on_cycle : (t : List (List ℕ)) (marks : List Bool) → AreOnCycles t marks → (k : ℕ) → k < length t → IsTrue (is_marked marks k) ↔ Leads t k k
on_cycle t marks are k l =
    let size = are.size in
    let m = marked_there marks k (omega (arith, l, size)) in
    subst (λ (o : Option Bool). IsTrue (has_mark o) ↔ Leads t k k) (sym m.1) (are.is k m.0 m.1)

-- what is on a cycle has a fault of its own
pub recursion_least : (t : List (List ℕ)) (k : ℕ) (place : Pos) (b : Bool) → (IsTrue b ↔ Leads t k k) → IsLeast (RecursAt t k place) (recursion_fault b place)
recursion_least t k place true cycles = (record { leads = cycles.0 refl; at = refl }, λ g h. same_fault (fault SelfReference place) g h.at)
recursion_least t k place false cycles = λ f h. let bad : false ≡ true = cycles.1 h.leads in cc

abbrev pub place_of : Item → Pos
place_of i = cycle_place i.role i.name i.names

module _ (text : List ℕ) (s : Scope) where
  pub to_one : (d : Declaration) (ds : List Declaration) (f : Fault) → DeclarationsFail text s (d ∷ ds) f → DeclarationFails text s d f ⊎ DeclarationsFail text s ds f
  to_one (constants at specs) ds f h = h
  to_one (variables at specs) ds f h = h
  to_one (types at specs) ds f h = inr h
  to_one (function g) ds f h = inr h

  pub of_one : (d : Declaration) (ds : List Declaration) (f : Fault) → DeclarationFails text s d f ⊎ DeclarationsFail text s ds f → DeclarationsFail text s (d ∷ ds) f
  of_one (constants at specs) ds f h = h
  of_one (variables at specs) ds f h = h
  of_one (types at specs) ds f (inl h) = absurd h
  of_one (types at specs) ds f (inr h) = h
  of_one (function g) ds f (inl h) = absurd h
  of_one (function g) ds f (inr h) = h

  -- ---- needs

  rows : (is : List Item) (j : ℕ) → row (map (needed text s) is) j ≡ needed_in text s (slice_get is j)
  rows [] j = refl
  rows (i ∷ is) zero = refl
  rows (i ∷ is) (suc j) = rows is j

  pub leads_of : (is : List Item) (j k : ℕ) → Reaches text s is j k → Leads (map (needed text s) is) j k
  leads_of is j k (at_once h) = graph.at_once (subst (λ (l : List ℕ). Among k l) (sym (rows is j)) h)
  leads_of is j k (through {j = m} h way) = graph.through (subst (λ (l : List ℕ). Among m l) (sym (rows is j)) h) (leads_of is m k way)

  pub reaches_of : (is : List Item) (j k : ℕ) → Leads (map (needed text s) is) j k → Reaches text s is j k
  reaches_of is j k (graph.at_once h) = at_once (subst (λ (l : List ℕ). Among k l) (rows is j) h)
  reaches_of is j k (graph.through {j = m} h way) = through (subst (λ (l : List ℕ). Among m l) (rows is j) h) (reaches_of is m k way)

  -- those that need themselves from a number on
  pub record RecursFrom (is : List Item) (k : ℕ) (f : Fault) : Type 0 where
    pub recurs : Recurs text s is f
    pub from : k ≤ recurs.number

  pub recurs_all : (is : List Item) (f : Fault) → Recurs text s is f → RecursFrom is 0 f
  recurs_all is f h = record { recurs = h; from = omega arith }

  there : (is : List Item) (k : ℕ) (i : Item) → slice_get is k ≡ Some i → k < length is
  there [] k i e = let bad : None ≡ Some i = e in absurd cc
  there (x ∷ xs) zero i e = omega arith
  there (x ∷ xs) (suc k) i e = let l = there xs k i e in omega (arith, l)

  pub recurs_none : (is : List Item) (k : ℕ) (f : Fault) → length is ≤ k → RecursFrom is k f → ⊥
  recurs_none is k f le h = let l = there is h.recurs.number h.recurs.item h.recurs.has in let from = h.from in omega (arith, l, from, le)

  module _ (is : List Item) (t : List (List ℕ)) (k : ℕ) (i : Item) (t_is : t ≡ map (needed text s) is) (has : slice_get is k ≡ Some i) where
    pub recurs_here : (f : Fault) → RecursAt t k (place_of i) f → RecursFrom is k f
    recurs_here f h = record {
      recurs = record { number = k; item = i; has = has; reaches = reaches_of is k k (subst (λ (u : List (List ℕ)). Leads u k k) t_is h.leads); at = h.at };
      from = omega arith;
    }

    pub recurs_split : (f : Fault) → RecursFrom is k f → RecursAt t k (place_of i) f ⊎ RecursFrom is (k + 1) f
    recurs_split f h = by (cases_Bool (eqb h.recurs.number k))
      where
        same_item : h.recurs.number ≡ k → h.recurs.item ≡ i
        same_item e = let both : Some h.recurs.item ≡ Some i = sym h.recurs.has ∙ ap (λ (n : ℕ). slice_get is n) e ∙ has in cc both

        by : (eqb h.recurs.number k ≡ true) ⊎ (eqb h.recurs.number k ≡ false) → RecursAt t k (place_of i) f ⊎ RecursFrom is (k + 1) f
        by (inl e) =
            let n : h.recurs.number ≡ k = eqb-true _ _ e in
            inl (record {
              leads = subst (λ (u : List (List ℕ)). Leads u k k) (sym t_is) (subst (λ (m : ℕ). Leads (map (needed text s) is) m m) n (leads_of is h.recurs.number h.recurs.number h.recurs.reaches));
              at = h.recurs.at ∙ ap (λ (x : Item). fault SelfReference (place_of x)) (same_item n);
            })
        by (inr e) = let n = eqb-false h.recurs.number k e in let from = h.from in inr (record { recurs = h.recurs; from = omega (arith, n, from) })

    pub recurs_behind : (f : Fault) → RecursAt t k (place_of i) f ⊎ RecursFrom is (k + 1) f → RecursFrom is k f
    recurs_behind f (inl h) = recurs_here f h
    recurs_behind f (inr h) = let from = h.from in record { recurs = h.recurs; from = omega (arith, from) }

-- an item by its number
pub item_there : (xs : List ItemData) (k : ℕ) (x : ItemData) → k < length xs → x ≡ get_or xs k x → slice_get (item_views xs) k ≡ Some (item_of x)
item_there [] k x l is = absurd (omega (arith, l))
item_there (y ∷ ys) zero x l is = ap (λ (z : ItemData). Some (item_of z)) (sym is)
item_there (y ∷ ys) (suc k) x l is = item_there ys k x (omega (arith, l)) is
