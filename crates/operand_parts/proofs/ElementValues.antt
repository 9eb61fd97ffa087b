-- The values of elements: a part takes its value or a rule fails, and what a literal gives is in form.
use Rattle.std.proofs.Common.{◌≡◌, ◌⊎◌, ◌<◌, inl, inr, ℕ, Bool, true, false, cond, List, [], ◌∷◌, Option, Some, None, map, refl, sym, ap, ◌∙◌, subst}
use Rattle.std.specs.Prelude.{option_and_then}
use Rattle.std.specs.Option.{option_map}
use Rattle.base.specs.declared.pos.Pos.{Pos}
use Rattle.base.specs.declared.value_type.ValueType.{ValueType}
use Rattle.typed_syntax.specs.Types.{width, part_count, part_type}
use Rattle.typed_syntax.specs.Syntax.{Ex, Program, type_named}
use Rattle.typed_syntax.specs.Syntax as typed
use Rattle.typed_syntax.specs.Value.{int}
use Rattle.typed_syntax.specs.Form.{ExFits, ElementsFit}
use Rattle.typed.specs.declared.expr.Element.{Element}
use Rattle.typed.specs.declared.expr.Element.TheVariants.{For}
use Rattle.typed.specs.View.{ex_of, elements_of}
use Rattle.typed.specs.Tables.{Table}
use Rattle.typed.specs.Trees.{trees, tree_named}
use Rattle.typed.specs.Formed.{IsFormed}
use Rattle.type_faults.specs.declared.fault.Fault.{Fault}
use Rattle.type_faults.specs.declared.fault.FaultKind.TheVariants.{Mismatch, ConstRange}
use Rattle.type_faults.specs.Faults.{fault, IsFault}
use Rattle.type_faults.specs.Given.{allowed}
use Rattle.type_faults.proofs.Decided.{Decided, Tested, further, mapped}
use Rattle.type_faults.proofs.Options.{map_some, none_some}
use Rattle.constants.specs.declared.constant.Constant.{Constant}
use Rattle.constants.specs.declared.constant.Constant.TheVariants.{Number, Truth}
use Rattle.constants.specs.Constants.{is_int}
use Rattle.operators.specs.ConstantFaults.{constant_range_fault}
use Rattle.operators.specs.Operands.{Operand, constant, value, nil, is_assignable, as_value, constant_value}
use Rattle.names.specs.declared.fields.Part.{Part}
use Rattle.names.specs.Scope.{type_number, type_tree}
use Rattle.names.proofs.Trees.{solid}
use Rattle.names.proofs.Parts.{IsPart}
use Rattle.operand_parts.specs.Passing.{part_value_of}
use Rattle.operand_parts.specs.LiteralValues.{Placed, PartValue, part_value_with, taken_as, value_of_part, part_values, elements_with, literal_with, composed, held_fault, taking_fault, placed_fault, ElementsFail}

-- ---- where a part and its value are known

constant_decided : (at : Pos) (c : Constant) → Decided (constant_value c) (IsFault (constant_range_fault at c))
constant_decided at (Truth b) = λ f h. h
constant_decided at (Number z) = by (is_int z)
  where
    by : (b : Bool) → Decided (cond b (Some (typed.constant (int z))) None) (IsFault (cond b None (Some (fault ConstRange at))))
    by true = λ f h. h
    by false = (_, refl)

taken_by : (at : Pos) (b : Bool) (x : Operand) → (b ≡ true → Decided (as_value x) (IsFault (held_fault at x))) → Decided (allowed b (as_value x)) (IsFault (cond b (held_fault at x) (Some (fault Mismatch at))))
taken_by at true x d = d refl
taken_by at false x d = (_, refl)

assigned_decided : (at : Pos) (t : ValueType) (x : Operand) → Decided (allowed (is_assignable t x) (as_value x)) (IsFault (taking_fault at t x))
assigned_decided at t (constant f) = taken_by at (is_assignable t (constant f)) (constant f) (λ h. constant_decided at f.value)
assigned_decided at t (value u e) = taken_by at (is_assignable t (value u e)) (value u e) (λ h. λ f k. k)
assigned_decided at t nil = (_, refl)

pub taken_decided : (at : Pos) (p : Part) (x : Operand) → Decided (taken_as p x) (IsFault (taking_fault at p.value_type x))
taken_decided at p x = mapped (part_value_with p) (allowed (is_assignable p.value_type x) (as_value x)) (IsFault (taking_fault at p.value_type x)) (assigned_decided at p.value_type x)

-- an element whose part is known
pub element_decided : (q : Placed) (p : Part) (P : Fault → Type 0) → q.part ≡ Some p → Decided q.operand P → Decided (value_of_part q.part q.operand) (λ f. P f ⊎ IsFault (placed_fault q.at q.part q.operand) f)
element_decided q p P is d = subst (λ (o : Option Part). Decided (value_of_part o q.operand) (λ f. P f ⊎ IsFault (placed_fault q.at o q.operand) f)) (sym is) (by q.operand d)
  where
    by : (x : Option Operand) → Decided x P → Decided (value_of_part (Some p) x) (λ f. P f ⊎ IsFault (placed_fault q.at (Some p) x) f)
    by None d1 = (d1.0, inl d1.1)
    by (Some x) d1 = further P (IsFault (taking_fault q.at p.value_type x)) (taken_as p x) d1 (taken_decided q.at p x)

-- elements one after the other: P is what fails in them, and then what fails in their values
pub no_elements_decided : (P : Fault → Type 0) → ((f : Fault) → P f → ⊥) → Decided (part_values []) (λ f. P f ⊎ ElementsFail [] f)
no_elements_decided P none f h = elim h [ inl k ↦ none f k | inr k ↦ k ]

module _ (q : Placed) (qs : List Placed) (P Q : Fault → Type 0) where
  pub more_decided : Decided (value_of_part q.part q.operand) (λ f. P f ⊎ IsFault (placed_fault q.at q.part q.operand) f) → Decided (part_values qs) (λ f. Q f ⊎ ElementsFail qs f)
      → Decided (part_values (q ∷ qs)) (λ f. (P f ⊎ Q f) ⊎ ElementsFail (q ∷ qs) f)
  more_decided d e = by (value_of_part q.part q.operand) (part_values qs) d e
    where
      by : (v : Option PartValue) (vs : Option (List PartValue)) → Decided v (λ f. P f ⊎ IsFault (placed_fault q.at q.part q.operand) f) → Decided vs (λ f. Q f ⊎ ElementsFail qs f)
          → Decided (option_and_then (λ w. option_map (λ ws. w ∷ ws) vs) v) (λ f. (P f ⊎ Q f) ⊎ ElementsFail (q ∷ qs) f)
      by None vs d1 e1 = (d1.0, elim d1.1 [ inl k ↦ inl (inl k) | inr k ↦ inr (inl k) ])
      by (Some v) None d1 e1 = (e1.0, elim e1.1 [ inl k ↦ inl (inr k) | inr k ↦ inr (inr k) ])
      by (Some v) (Some vs) d1 e1 =
          λ f h. elim h [ inl k ↦ elim k [ inl l ↦ d1 f (inl l) | inr l ↦ e1 f (inl l) ] | inr k ↦ elim k [ inl l ↦ d1 f (inr l) | inr l ↦ e1 f (inr l) ] ]

-- a literal whose form fits or not
pub composed_decided : (T : Table) (t : ValueType) (fits : Bool) (qs : List Placed) (S P : Fault → Type 0) → Tested fits S → (fits ≡ true → Decided (part_values qs) P) → Decided (composed T t fits qs) (λ f. S f ⊎ P f)
composed_decided T t true qs S P s d = mapped (literal_with T t) (part_values qs) (λ f. S f ⊎ P f) (further S P (part_values qs) s (d refl))
composed_decided T t false qs S P s d = (s.0, inl s.1)

-- ---- in memory

pub elements_are : (es : List Element) → elements_of es ≡ elements_with (map part_value_of es)
elements_are [] = refl
elements_are (For i e ∷ es) = ap (typed.element i (ex_of e)) (elements_are es)

-- ---- what a literal gives is in form

module _ (p : Program) (scope : List ℕ) (T : Table) (formed : IsFormed T) (types : p.types ≡ trees T) (t : ValueType) where
  -- a value of a part of the type
  pub record ValueFits (v : PartValue) : Type 0 where
    pub within : v.number < part_count (type_tree T t)
    pub has_words : 0 < width (part_type (type_tree T t) v.number)
    pub fits : ExFits p scope (part_type (type_tree T t) v.number) v.value

  abbrev pub ValuesFit : List PartValue → Type 0
  ValuesFit [] = Unit {0}
  ValuesFit (v ∷ vs) = ValueFits v × ValuesFit vs

  pub value_fits : (f : Part) → IsPart T t f → (e : Ex) → ExFits p scope (type_tree T f.value_type) e → ValueFits (part_value_with f e)
  value_fits f is e fits =
      let owner : type_tree T t ≡ tree_named T f.owner.0 = ap (tree_named T) is.owner in
      let tree : part_type (type_tree T t) f.number ≡ type_tree T f.value_type = ap (λ x. part_type x f.number) owner ∙ is.tree in
      record {
        within = subst (λ x. f.number < part_count x) (sym owner) is.within;
        has_words = subst (λ x. 0 < width x) (sym tree) (solid T formed (type_number T f.value_type));
        fits = subst (λ x. ExFits p scope x e) (sym tree) fits;
      }

  elements_fit : (vs : List PartValue) → ValuesFit vs → ElementsFit p scope (type_tree T t) (elements_with vs)
  elements_fit [] all = tt
  elements_fit (v ∷ vs) all = (all.0.within, all.0.has_words, all.0.fits, elements_fit vs all.1)

  pub literal_fits : (vs : List PartValue) → ValuesFit vs → ExFits p scope (type_tree T t) (typed.literal (type_number T t) (elements_with vs))
  literal_fits vs all = (ap (λ ts. typed.type_in ts (type_number T t)) types, solid T formed (type_number T t), elements_fit vs all)

  -- where a literal is given, its form fits and each part has its value
  pub composed_given : (fits : Bool) (qs : List Placed) (x : Operand) → composed T t fits qs ≡ Some x → (fits ≡ true) × (vs : List PartValue) × (part_values qs ≡ Some vs) × (x ≡ literal_with T t vs)
  composed_given true qs x is = let r = map_some (literal_with T t) (part_values qs) x is in (refl, r.0, r.1, sym r.2)
  composed_given false qs x is = absurd (none_some is)

  pub part_value_given : (q : Placed) (v : PartValue) → value_of_part q.part q.operand ≡ Some v → (f : Part) × (y : Operand) × (e : Ex) × (q.part ≡ Some f) × (q.operand ≡ Some y) × (is_assignable f.value_type y ≡ true) × (as_value y ≡ Some e) × (v ≡ part_value_with f e)
  part_value_given q v is = by q.part q.operand refl refl is
    where
      assigned : (b : Bool) (o : Option Ex) (e : Ex) → allowed b o ≡ Some e → (b ≡ true) × (o ≡ Some e)
      assigned true o e h = (refl, h)
      assigned false o e h = absurd (none_some h)

      by : (o : Option Part) (x : Option Operand) → q.part ≡ o → q.operand ≡ x → value_of_part o x ≡ Some v
          → (f : Part) × (y : Operand) × (e : Ex) × (q.part ≡ Some f) × (q.operand ≡ Some y) × (is_assignable f.value_type y ≡ true) × (as_value y ≡ Some e) × (v ≡ part_value_with f e)
      by None x a b h = absurd (none_some h)
      by (Some f) None a b h = absurd (none_some h)
      by (Some f) (Some y) a b h =
          let r = map_some (part_value_with f) (allowed (is_assignable f.value_type y) (as_value y)) v h in
          let k = assigned (is_assignable f.value_type y) (as_value y) r.0 r.1 in (f, y, r.0, a, b, k.0, k.1, sym r.2)
