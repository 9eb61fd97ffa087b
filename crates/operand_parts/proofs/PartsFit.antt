-- Fields and elements are in form where what they are parts of is.
use Rattle.std.proofs.Common.{◌≡◌, ◌<◌, ◌*◌, ℕ, ℤ, pos, negsuc, zero, suc, Bool, true, false, cond, nat_lt, List, Option, Some, None, refl, sym, ap, ◌∙◌, subst, arith}
use Rattle.std.specs.Prelude.{option_and_then, ◌&&◌, ◌^◌}
use Rattle.std.specs.Option.{unwrap_or}
use Rattle.std.proofs.lemmas.Bool.{ltb-true}
use Rattle.base.specs.declared.pos.Pos.{Pos}
use Rattle.base.specs.declared.ids.TypeId.{TypeId}
use Rattle.base.specs.declared.value_type.ValueType.{ValueType}
use Rattle.base.specs.declared.value_type.ValueType.TheVariants.{Int, Bool as Truth, Struct, Array, Pointer, Slice}
use Rattle.syntax.specs.declared.expression.Name.{Name}
use Rattle.syntax.specs.Expressions.{spelled}
use Rattle.typed_syntax.specs.Syntax.{Ex, Pl, Steps, Program, read, local, global, here, inner, at_index, site_type, global_type, type_named}
use Rattle.typed_syntax.specs.Syntax as typed
use Rattle.typed_syntax.specs.Form.{PlFits, ExFits, StepsLead}
use Rattle.typed_syntax.specs.Types.{TypeTree, ints, array_of, width, part_count, part_type, nth_type, repeated, types_in}
use Rattle.typed.specs.Tables.{Table, type_at}
use Rattle.typed.specs.Trees.{trees, tree_named}
use Rattle.typed.specs.Formed.{IsFormed, tree_at}
use Rattle.typed.proofs.Nested.{made}
use Rattle.type_faults.specs.Given.{allowed}
use Rattle.type_faults.proofs.Options.{map_some, none_some, same_some}
use Rattle.constants.specs.declared.constant.Constant.{Constant}
use Rattle.constants.specs.declared.constant.Constant.TheVariants as const
use Rattle.operators.specs.Operands.{Operand, constant, value, nil}
use Rattle.names.specs.declared.fields.Part.{Part}
use Rattle.names.specs.Scope.{Scope, type_number, type_tree}
use Rattle.names.specs.Types.{is_known}
use Rattle.names.specs.Fields.{named_field}
use Rattle.names.proofs.Trees.{solid, named_tree, int_tree}
use Rattle.names.proofs.Parts.{IsPart, has_tree, part_is, named_is, tree_numbered}
use Rattle.operand_parts.specs.Parts.{steps_then, place_then, part_read, part_value, selected, array_parts, number_step, constant_step, value_step, index_step, element_of, indexed}
use Rattle.operand_parts.specs.Literals.{element_part}
use Rattle.operand_parts.proofs.Known.{knows, elements_have}

-- the part that an element stands for is one of its whole
pub element_fits : (text : List ℕ) (s : Scope) → IsFormed s.types → (t : ValueType) (n : ℕ) (key : Option Name) (f : Part) → element_part text s (Some t) n key ≡ Some f → IsPart s.types t f
element_fits text s formed t n None f is = (part_is s.types formed t n f is).0
element_fits text s formed t n (Some key) f is = named_is s formed t (spelled text key) f is

-- ---- steps

module _ (p : Program) (scope : List ℕ) where
  -- steps to a part, and more from there
  lead_on : (t u r : TypeTree) (steps more : Steps) → StepsLead p scope t steps u → StepsLead p scope u more r → StepsLead p scope t (steps_then steps more) r
  lead_on t u r here more a b = subst (λ v. StepsLead p scope v more r) (sym a) b
  lead_on t u r (inner i steps) more a b = (a.0, lead_on (part_type t i) u r steps more a.1 b)
  lead_on t u r (at_index at e m steps) more a b = (a.0, a.1, a.2, a.3, lead_on a.0 u r steps more a.4 b)

  pub place_on : (u r : TypeTree) (q : Pl) (more : Steps) → PlFits p scope u q → StepsLead p scope u more r → 0 < width r → PlFits p scope r (place_then q more)
  place_on u r (local site steps) more a b w = (a.0, lead_on (site_type p site) u r steps more a.1 b, w)
  place_on u r (global g steps) more a b w = (a.0, lead_on (global_type p g) u r steps more a.1 b, w)
  place_on u r (typed.indirect at e n steps) more a b w = (a.0, lead_on (type_named p n) u r steps more a.1 b, w)
  place_on u r (typed.slice_element at e i n steps) more a b w = (a.0, a.1, lead_on (type_named p n) u r steps more a.2 b, w)

-- ---- arrays

nth_repeated : (n : ℕ) (t : TypeTree) (i : ℕ) → i < n → nth_type (repeated n t) i ≡ t
nth_repeated zero t i l = absurd (omega (arith, l))
nth_repeated (suc n) t zero l = refl
nth_repeated (suc n) t (suc i) l = nth_repeated n t i (omega (arith, l))

types_repeated : (n : ℕ) (t : TypeTree) → types_in (repeated n t) ≡ n
types_repeated zero t = refl
types_repeated (suc n) t = ap suc (types_repeated n t)

factor : (m w : ℕ) → 0 < m * w → 0 < m
factor zero w l = absurd (let z : 0 < 0 * w = l in omega arith)
factor (suc m) w l = omega arith

module _ (T : Table) (formed : IsFormed T) (m : ℕ) (e : TypeId) (known : is_known T (Array m e) ≡ true) where
  -- an array that is known has the tree of an array
  pub array_tree : type_tree T (Array m e) ≡ array_of m (type_tree T (type_at T e.0))
  array_tree =
      let k = knows T (Array m e) known in
      let h = has_tree T (Array m e) k.number k.known in
      let x = map_some (array_of m) (tree_at T e.0) h.tree (sym (made T formed (Array m e)) ∙ h.is) in
      let whole : type_tree T (Array m e) ≡ array_of m x.0 = ap (λ o. tree_named T (unwrap_or o 0)) k.is ∙ h.there ∙ sym x.2 in
      let element : type_tree T (type_at T e.0) ≡ x.0 = tree_numbered T formed e.0 ∙ named_tree T T.types e.0 ∙ ap (λ o. unwrap_or o ints) x.1 in
      whole ∙ ap (array_of m) (sym element)

  -- and has elements
  pub array_long : 0 < m
  array_long = let w = elements_have T formed m e known in factor m w.words w.limits.0

-- ---- what fits

module _ (p : Program) (scope : List ℕ) where
  -- a value in form
  abbrev pub IsFitting : Table → Operand → Type 0
  IsFitting T y = (u : ValueType) × (x : Ex) × (y ≡ value u x) × ExFits p scope (type_tree T u) x

  -- what is in form if it is a value, and if it is an int that is worked out when the program runs
  abbrev pub FitsIfValue : Table → Operand → Type 0
  FitsIfValue T a = (t : ValueType) (x : Ex) → a ≡ value t x → ExFits p scope (type_tree T t) x

  abbrev pub FitsIfInt : Operand → Type 0
  FitsIfInt i = (x : Ex) → i ≡ value Int x → ExFits p scope ints x

module _ (p : Program) (scope : List ℕ) (T : Table) (formed : IsFormed T) (types : p.types ≡ trees T) where
  type_solid : (t : ValueType) → 0 < width (type_tree T t)
  type_solid t = solid T formed (type_number T t)

  module _ (t : ValueType) (f : Part) (is : IsPart T t f) where
    named : type_named p f.owner.0 ≡ tree_named T f.owner.0
    named = ap (λ ts. typed.type_in ts f.owner.0) types

    owner : type_tree T t ≡ tree_named T f.owner.0
    owner = ap (tree_named T) is.owner

    -- a part is one of its whole's tree
    pub part_within : (f.number < part_count (type_tree T t)) × (part_type (type_tree T t) f.number ≡ type_tree T f.value_type)
    part_within = (subst (λ v. f.number < part_count v) (sym owner) is.within, ap (λ v. part_type v f.number) owner ∙ is.tree)

    -- a part of a value that is no place
    of_value : (e : Ex) → ExFits p scope (type_tree T t) e → ExFits p scope (type_tree T f.value_type) (typed.part_of f.owner.0 f.number e)
    of_value e fits = (
      subst (λ v. f.number < part_count v) (sym named) is.within,
      ap (λ v. part_type v f.number) named ∙ is.tree,
      type_solid f.value_type,
      subst (λ v. ExFits p scope v e) (owner ∙ sym named) fits,
    )

    -- and of a place
    of_place : (q : Pl) → PlFits p scope (type_tree T t) q → PlFits p scope (type_tree T f.value_type) (place_then q (inner f.number here))
    of_place q fits =
        place_on p scope (type_tree T t) (type_tree T f.value_type) q (inner f.number here) fits part_within (type_solid f.value_type)

    pub part_fits : (e : Ex) → ExFits p scope (type_tree T t) e → ExFits p scope (type_tree T f.value_type) (part_read f.owner.0 f.number e)
    part_fits (read q) fits = of_place q fits
    part_fits e fits = of_value e fits

  module _ (bracket : Pos) (m : ℕ) (r : TypeTree) (long : 0 < m) where
    number_leads : (z : ℤ) (step : Steps) → number_step m z ≡ Some step → StepsLead p scope (array_of m r) step r
    number_leads (negsuc n) step is = absurd (none_some is)
    number_leads (pos n) step is = by (nat_lt n m) refl (nat_lt n (2 ^ 32)) is
      where
        by : (b : Bool) → nat_lt n m ≡ b → (c : Bool) → cond (b && c) (Some (inner n here)) None ≡ Some step → StepsLead p scope (array_of m r) step r
        by true less true is1 =
            let l : n < m = ltb-true n m less in
            let count = types_repeated m r in
            subst (λ w. StepsLead p scope (array_of m r) w r) (same_some is1) (omega (arith, l, count), nth_repeated m r n l)
        by true less false is1 = absurd (none_some is1)
        by false less c is1 = absurd (none_some is1)

    constant_leads : (c : Constant) (step : Steps) → constant_step m c ≡ Some step → StepsLead p scope (array_of m r) step r
    constant_leads (const.Number z) step is = number_leads z step is
    constant_leads (const.Truth b) step is = absurd (none_some is)

    value_leads : (t : ValueType) (x : Ex) (step : Steps) → FitsIfInt p scope (value t x) → value_step bracket m t x ≡ Some step → StepsLead p scope (array_of m r) step r
    value_leads Int x step fits is = subst (λ w. StepsLead p scope (array_of m r) w r) (same_some is) (r, refl, long, fits x refl, refl)
    value_leads Truth x step fits is = absurd (none_some is)
    value_leads (Struct k) x step fits is = absurd (none_some is)
    value_leads (Array n e) x step fits is = absurd (none_some is)
    value_leads (Pointer e) x step fits is = absurd (none_some is)
    value_leads (Slice e) x step fits is = absurd (none_some is)

    -- a step to an element leads there
    index_leads : (i : Operand) (step : Steps) → FitsIfInt p scope i → index_step bracket m i ≡ Some step → StepsLead p scope (array_of m r) step r
    index_leads (constant f) step fits is = constant_leads f.value step is
    index_leads (value t x) step fits is = value_leads t x step fits is
    index_leads nil step fits is = absurd (none_some is)

  array_fits : (bracket : Pos) (m : ℕ) (e : TypeId) (q : Pl) → PlFits p scope (type_tree T (Array m e)) q → (i : Operand) → FitsIfInt p scope i → (y : Operand)
      → option_and_then (element_of bracket q i) (array_parts T (Array m e)) ≡ Some y → IsFitting p scope T y
  array_fits bracket m e q place i fits y is = by (is_known T (Array m e)) refl is
    where
      by : (b : Bool) → is_known T (Array m e) ≡ b → option_and_then (element_of bracket q i) (allowed b (Some (record { length = m; element = type_at T e.0 }))) ≡ Some y → IsFitting p scope T y
      by false known is1 = absurd (none_some is1)
      by true known is1 =
          let u = type_at T e.0 in
          let s = map_some (λ step. value u (read (place_then q step))) (index_step bracket m i) y is1 in
          let whole : PlFits p scope (array_of m (type_tree T u)) q = subst (λ v. PlFits p scope v q) (array_tree T formed m e known) place in
          let leads = index_leads bracket m (type_tree T u) (array_long T formed m e known) i s.0 fits s.1 in
          (u, read (place_then q s.0), sym s.2, place_on p scope (array_of m (type_tree T u)) (type_tree T u) q s.0 whole leads (type_solid u))

  -- an element of an array
  pub indexed_fits : (bracket : Pos) (t : ValueType) (q : Pl) → PlFits p scope (type_tree T t) q → (i : Operand) → FitsIfInt p scope i → (y : Operand) → indexed T bracket (value t (read q)) i ≡ Some y → IsFitting p scope T y
  indexed_fits bracket Int q place i fits y is = absurd (none_some is)
  indexed_fits bracket Truth q place i fits y is = absurd (none_some is)
  indexed_fits bracket (Pointer e) q place i fits y is = absurd (none_some is)
  indexed_fits bracket (Slice e) q place i fits y is = absurd (none_some is)
  indexed_fits bracket (Struct k) q place i fits y is = absurd (none_some is)
  indexed_fits bracket (Array m e) q place i fits y is = array_fits bracket m e q place i fits y is

  -- of whatever stands before the bracket, by whatever stands inside
  pub operand_indexed_fits : (bracket : Pos) (a i y : Operand) → FitsIfValue p scope T a → FitsIfValue p scope T i → indexed T bracket a i ≡ Some y → IsFitting p scope T y
  operand_indexed_fits bracket (constant f) i y whole fits is = absurd (none_some is)
  operand_indexed_fits bracket nil i y whole fits is = absurd (none_some is)
  operand_indexed_fits bracket (value t (read q)) i y whole fits is =
      indexed_fits bracket t q (whole t (read q) refl) i (λ x same. subst (λ v. ExFits p scope v x) (int_tree T formed) (fits Int x same)) y is
  operand_indexed_fits bracket (value t e) i y whole fits is = absurd (none_some is)

-- a field of a value
pub selected_fits : (p : Program) (scope : List ℕ) (text : List ℕ) (s : Scope) (formed : IsFormed s.types) (types : p.types ≡ trees s.types) (n : Name) (t : ValueType) (e : Ex)
    → ExFits p scope (type_tree s.types t) e → (y : Operand) → selected text s n (value t e) ≡ Some y → IsFitting p scope s.types y
selected_fits p scope text s formed types n t e fits y is =
    let m = map_some (part_value e) (named_field s t (spelled text n)) y is in
    let f = m.0 in
    (f.value_type, part_read f.owner.0 f.number e, sym m.2, part_fits p scope s.types formed types t f (named_is s formed t (spelled text n) f m.1) e fits)
