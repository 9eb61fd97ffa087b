-- The typed header of a `range` is in form.
use Rattle.std.proofs.Common.{◌≡◌, ℕ, zero, suc, ◌+◌, ◌*◌, ◌<◌, ◌≤◌, Bool, true, false, cond, List, [], ◌∷◌, inr, map, Option, Some, None, refl, sym, ap, ◌∙◌, subst, arith, length, length-append}
use Rattle.std.specs.Prelude.{not, ◌&&◌, ◌^◌, nat_le}
use Rattle.std.specs.Option.{option_map}
use Rattle.std.proofs.Math.Nat.{mul-suc}
use Rattle.base.specs.declared.pos.Pos.{Pos}
use Rattle.base.specs.declared.value_type.ValueType.{ValueType}
use Rattle.base.specs.declared.value_type.ValueType.TheVariants.{Int, Bool as Truth, Struct, Array, Pointer, Slice}
use Rattle.base.specs.Types.{same_type}
use Rattle.base.proofs.Types.{same_is}
use Rattle.syntax.specs.declared.expression.Name.{Name}
use Rattle.syntax.specs.Expressions.{Ex as TreeEx, Exs as TreeExs, some}
use Rattle.syntax.specs.Expressions as expressions
use Rattle.syntax.specs.Statements.{Targets, no_targets, targets_assigned, targets_defined}
use Rattle.typed.specs.declared.program.Site.{Site}
use Rattle.typed.specs.Tables.{Table, type_at}
use Rattle.typed.specs.Formed.{IsFormed}
use Rattle.typed_syntax.specs.Syntax.{Ex, Left, Over, Sts, Program, blank, new, to, over_int, over_length, over_copy, over_slice, over_pointer, over_pointed, site_type, is_made}
use Rattle.typed_syntax.specs.Types.{TypeTree, ints, array_of}
use Rattle.typed_syntax.specs.Form.{LeftsFit, lefts_after, over_after, scope_behind, ExFits, StFits, StsFit}
use Rattle.value_laws.proofs.Ascending.{key_after, sts_wider}
use Rattle.type_faults.specs.Given.{allowed}
use Rattle.type_faults.proofs.Options.{and_then_some, map_some, none_some, same_some}
use Rattle.operators.specs.Operands.{type_of, as_value}
use Rattle.names.specs.declared.scope.Declared.{Declared}
use Rattle.names.specs.declared.scope.Declared.TheVariants as declared
use Rattle.names.specs.Scope.{Scope, type_number, type_tree, type_trees, site_at, of_copy, with_site, opened}
use Rattle.names.specs.Types.{is_known}
use Rattle.names.proofs.Trees.{int_tree, solid}
use Rattle.operand_calls.specs.Calls.{has_call}
use Rattle.operand_parts.specs.Parts.{ArrayType, array_parts}
use Rattle.operand_parts.proofs.Known.{elements_have}
use Rattle.operand_parts.proofs.PartsFit.{array_tree}
use Rattle.given_values.specs.declared.wants.Wanted.{Wanted}
use Rattle.given_values.specs.declared.wants.Wanted.TheVariants as wants
use Rattle.given_values.specs.Given.{operand_in}
use Rattle.expression_types.specs.Typing.{gives}
use Rattle.given_values.proofs.ValuesFit.{Agrees, AreAccepted, value_fits, operand_fits, maybe_fits}
use Rattle.expression_types.proofs.InForm.{gives_fit}
use Rattle.signatures.specs.declared.slots.Slot.{Slot}
use Rattle.signatures.specs.declared.entries.Role.TheVariants.{Parameter}
use Rattle.signatures.specs.Entries.{entry_left, slots_each, entries, behind_entries}
use Rattle.signatures.proofs.Growth.{Extends, package_of, extends_twice, grows_types, grows_entries}
use Rattle.signatures.proofs.Visible.{IsShown, new_site, new_unmade, Visible, shown_site, shown_number, visible_opened, visible_kept}
use Rattle.signatures.proofs.InFormEntries.{HasSites, site_shown, unmade_shown, SlotsHave, lefts_upto, left_scope, lefts_of_params, entries_fit}
use Rattle.simple_statements.specs.SimpleStatements.{left, lefts, wanted, all_wanted}
use Rattle.simple_statements.proofs.SettledValues.{allowed_is}
use Rattle.simple_statements.proofs.InFormSimple.{OldFit, known_all, lefts_fit}
use Rattle.types_go.specs.Ranges.{Ranged, numbers, array, ranged_type, ranged_of, given_by, given_types, each_accept, target_slots, key_count, Sides, sides_of, Range, ranging, range_with, copied, behind_copy, over, ranged, all_blank, target_lefts, target_count, behind_range, range_in}
use Rattle.types_go.specs.Statements.{range_stmt}
use Rattle.types_go.proofs.StatementGrowth.{keeps_copy}
use Rattle.types_go.proofs.SettledRanges.{RangeParts, range_parts, entries_long, sides_few, targets_counted}

-- ---- two left sides, one of which may be absent

sides_after : (m : ℕ) (l : List Left) (q : Sides) → sides_of l ≡ Some q → lefts_after m l ≡ lefts_after m (q.key ∷ q.value ∷ [])
sides_after m [] q is = ap (λ (k : Sides). lefts_after m (k.key ∷ k.value ∷ [])) (same_some is)
sides_after m (x ∷ []) q is = sym (key_after m x) ∙ ap (λ (k : Sides). lefts_after m (k.key ∷ k.value ∷ [])) (same_some is)
sides_after m (x ∷ y ∷ []) q is = ap (λ (k : Sides). lefts_after m (k.key ∷ k.value ∷ [])) (same_some is)
sides_after m (x ∷ y ∷ z ∷ l) q is = absurd (none_some is)

blank_scope : (wide : List ℕ) (x : Left) → scope_behind wide (x ∷ blank ∷ []) ≡ scope_behind wide (x ∷ [])
blank_scope wide blank = refl
blank_scope wide (new site) = refl
blank_scope wide (to q) = refl

sides_scope : (wide : List ℕ) (l : List Left) (q : Sides) → sides_of l ≡ Some q → scope_behind wide l ≡ scope_behind wide (q.key ∷ q.value ∷ [])
sides_scope wide [] q is = ap (λ (k : Sides). scope_behind wide (k.key ∷ k.value ∷ [])) (same_some is)
sides_scope wide (x ∷ []) q is = sym (blank_scope wide x) ∙ ap (λ (k : Sides). scope_behind wide (k.key ∷ k.value ∷ [])) (same_some is)
sides_scope wide (x ∷ y ∷ []) q is = ap (λ (k : Sides). scope_behind wide (k.key ∷ k.value ∷ [])) (same_some is)
sides_scope wide (x ∷ y ∷ z ∷ l) q is = absurd (none_some is)

-- a blank second one counts as absent, and no other does
blank_counted : (l : List Left) (key : Left) → sides_of l ≡ Some (record { key = key; value = blank }) → nat_le (key_count l) 1 ≡ true
blank_counted [] key is = refl
blank_counted (x ∷ []) key is = refl
blank_counted (x ∷ blank ∷ []) key is = refl
blank_counted (x ∷ new site ∷ []) key is = let k = ap (λ (q : Sides). q.value) (same_some is) in absurd cc
blank_counted (x ∷ to p ∷ []) key is = let k = ap (λ (q : Sides). q.value) (same_some is) in absurd cc
blank_counted (x ∷ y ∷ z ∷ l) key is = absurd (none_some is)

abbrev IsUsed : Left → Type 0
IsUsed blank = ⊥
IsUsed other = Unit {0}

used_counted : (l : List Left) (q : Sides) → IsUsed q.value → sides_of l ≡ Some q → nat_le (key_count l) 1 ≡ false
used_counted [] q used is = absurd (subst (λ (k : Sides). IsUsed k.value) (sym (same_some is)) used)
used_counted (x ∷ []) q used is = absurd (subst (λ (k : Sides). IsUsed k.value) (sym (same_some is)) used)
used_counted (x ∷ blank ∷ []) q used is = absurd (subst (λ (k : Sides). IsUsed k.value) (sym (same_some is)) used)
used_counted (x ∷ new site ∷ []) q used is = refl
used_counted (x ∷ to p ∷ []) q used is = refl
used_counted (x ∷ y ∷ z ∷ l) q used is = absurd (none_some is)

module _ (p : Program) (wide : List ℕ) (m n : ℕ) (a b : TypeTree) where
  abbrev Fit : Sides → Type 0
  Fit q = LeftsFit p wide m n (a ∷ b ∷ []) (q.key ∷ q.value ∷ [])

  one_padded : (x : Left) → LeftsFit p wide m n (a ∷ []) (x ∷ []) → Fit (record { key = x; value = blank })
  one_padded blank fit = tt
  one_padded (new site) fit = (fit.0, fit.1, tt)
  one_padded (to q) fit = (fit.0, tt)

  one_only : (x : Left) → Fit (record { key = x; value = blank }) → LeftsFit p wide m n (a ∷ []) (x ∷ [])
  one_only blank fit = tt
  one_only (new site) fit = (fit.0, fit.1, tt)
  one_only (to q) fit = (fit.0, tt)

  padded_none : (l : List Left) (q : Sides) → sides_of l ≡ Some q → LeftsFit p wide m n [] l → Fit q
  padded_none [] q is fit = subst Fit (same_some is) tt
  padded_none (x ∷ l) q is fit = absurd fit

  padded_one : (l : List Left) (q : Sides) → sides_of l ≡ Some q → LeftsFit p wide m n (a ∷ []) l → Fit q
  padded_one [] q is fit = absurd fit
  padded_one (x ∷ []) q is fit = subst Fit (same_some is) (one_padded x fit)
  padded_one (blank ∷ y ∷ l) q is fit = absurd fit
  padded_one (new site ∷ y ∷ l) q is fit = absurd fit.2
  padded_one (to q1 ∷ y ∷ l) q is fit = absurd fit.1

  padded_two : (l : List Left) (q : Sides) → sides_of l ≡ Some q → LeftsFit p wide m n (a ∷ b ∷ []) l → Fit q
  padded_two [] q is fit = absurd fit
  padded_two (blank ∷ []) q is fit = absurd fit
  padded_two (new site ∷ []) q is fit = absurd fit.2
  padded_two (to q1 ∷ []) q is fit = absurd fit.1
  padded_two (x ∷ y ∷ []) q is fit = subst Fit (same_some is) fit
  padded_two (x ∷ y ∷ z ∷ l) q is fit = absurd (none_some is)

accepted_each : (ts : List ValueType) (ps : List Wanted) → length ts ≡ length ps → each_accept ts ps ≡ true → AreAccepted ps ts
accepted_each [] [] long is = tt
accepted_each [] (p ∷ ps) long is = absurd (omega (arith, long))
accepted_each (t ∷ ts) [] long is = absurd (omega (arith, long))
accepted_each (t ∷ ts) (wants.Own ∷ ps) long is = accepted_each ts ps (omega (arith, long)) is
accepted_each (t ∷ ts) (wants.Unknown ∷ ps) long is = accepted_each ts ps (omega (arith, long)) is
accepted_each (t ∷ ts) (wants.Typed s ∷ ps) long is = by (λ is1. accepted_each ts ps (omega (arith, long)) is1) (same_type s t) refl is
  where
    by : (each_accept ts ps ≡ true → AreAccepted ps ts) → (b : Bool) → same_type s t ≡ b → (b && each_accept ts ps) ≡ true → (s ≡ t) × AreAccepted ps ts
    by later true same1 is1 = (same_is s t same1, later is1)
    by later false same1 is1 = cc is1

-- more variables in scope
wider_shown : (T : Table) (scope : List ℕ) (v : ℕ) (sites : List Site) (globals : List ℕ) (d : Declared) → IsShown T scope sites globals d → IsShown T (v ∷ scope) sites globals d
wider_shown T scope v sites globals (declared.Variable site t) h = (inr h.0, h.1)
wider_shown T scope v sites globals (declared.Global k g) h = h
wider_shown T scope v sites globals d h = tt

visible_wider : (s : Scope) (scope : List ℕ) (v : ℕ) → Visible s scope → Visible s (v ∷ scope)
visible_wider s scope v visible = record { bounded = visible.bounded; shown = λ name d is. wider_shown s.types scope v s.sites s.globals d (visible.shown name d is); held = visible.held; kinds = visible.kinds }

-- ---- arrays

factor_small : (n w : ℕ) → 0 < n * w → n * w ≤ 65535 → n < 2 ^ 63
factor_small n zero more le = absurd (let z : 0 < n * 0 = more in omega arith)
factor_small n (suc w) more le = let whole = mul-suc n w in omega (arith, le, whole)

record IsArray (T : Table) (u t : ValueType) (a : ArrayType) : Type 0 where
  same : u ≡ t
  tree : type_tree T t ≡ array_of a.length (type_tree T a.element)
  small : a.length < 2 ^ 63

array_is : (T : Table) → IsFormed T → (u t : ValueType) (a : ArrayType) → ranged_type T u ≡ Some (array t a) → IsArray T u t a
array_is T formed Int t a is = let k = same_some is in absurd cc
array_is T formed Truth t a is = absurd (none_some is)
array_is T formed (Struct k) t a is = absurd (none_some is)
array_is T formed (Pointer e) t a is = absurd (none_some is)
array_is T formed (Slice e) t a is = absurd (none_some is)
array_is T formed (Array n e) t a is = by (is_known T (Array n e)) refl is
  where
    by : (b : Bool) → is_known T (Array n e) ≡ b → option_map (array (Array n e)) (allowed b (Some (record { length = n; element = type_at T e.0 }))) ≡ Some (array t a) → IsArray T (Array n e) t a
    by false known is1 = absurd (none_some is1)
    by true known is1 =
        let same1 : array (Array n e) (record { length = n; element = type_at T e.0 }) ≡ array t a = same_some is1 in
        let t_is : Array n e ≡ t = cc in
        let a_is : record { length = n; element = type_at T e.0 } ≡ a = cc in
        let w = elements_have T formed n e known in
        record {
          same = t_is;
          tree = subst (λ (v : ValueType). type_tree T v ≡ array_of a.length (type_tree T a.element)) t_is (subst (λ (b : ArrayType). type_tree T (Array n e) ≡ array_of b.length (type_tree T b.element)) a_is (array_tree T formed n e known));
          small = subst (λ (b : ArrayType). b.length < 2 ^ 63) a_is (factor_small n w.words w.limits.0 w.limits.1);
        }

int_is : (T : Table) (u : ValueType) → ranged_type T u ≡ Some numbers → u ≡ Int
int_is T Int is = refl
int_is T Truth is = absurd (none_some is)
int_is T (Struct k) is = absurd (none_some is)
int_is T (Pointer e) is = absurd (none_some is)
int_is T (Slice e) is = absurd (none_some is)
int_is T (Array n e) is = let q = map_some (array (Array n e)) (array_parts T (Array n e)) numbers is in let bad = q.2 in absurd cc

nothing_copied : (n : Option ℕ) → copied (Some numbers) n ≡ None
nothing_copied None = refl
nothing_copied (Some n) = refl

-- ---- left sides

module _ (T : Table) (text : List ℕ) (p : Program) (all : List Site) (has : HasSites T p all) (s : Scope) (types_are : s.types ≡ T) where
  -- in a scope with these variables, for values of these types
  record SidesFit (wide : List ℕ) (h : Scope) (a b : ValueType) (q : Sides) : Type 0 where
    shows : Visible h (scope_behind wide (q.key ∷ q.value ∷ []))
    more : length s.sites ≤ length h.sites
    upto : lefts_after (length s.sites) (q.key ∷ q.value ∷ []) ≤ length h.sites
    fit : (n : ℕ) → length h.sites ≤ n → LeftsFit p wide (length s.sites) n (type_tree T a ∷ type_tree T b ∷ []) (q.key ∷ q.value ∷ [])

  module _ (wide : List ℕ) (visible : Visible s wide) (agrees : Agrees (opened s) p) (a b : ValueType) where
    abbrev Pads : List ValueType → List Left → Sides → Type 0
    Pads ts l q = (m n : ℕ) → LeftsFit p wide m n (type_trees T ts) l → LeftsFit p wide m n (type_tree T a ∷ type_tree T b ∷ []) (q.key ∷ q.value ∷ [])

    old_sides : (ts : List ValueType) (l : List Left) (q : Sides) → sides_of l ≡ Some q → Pads ts l q → OldFit T p wide ts l → SidesFit wide (opened s) a b q
    old_sides ts l q is pads old =
        let none : lefts_after (length s.sites) (q.key ∷ q.value ∷ []) ≡ length s.sites = sym (sides_after (length s.sites) l q is) ∙ old.sites (length s.sites) in
        record {
          shows = subst (λ (w : List ℕ). Visible (opened s) w) (sym (old.behind wide) ∙ sides_scope wide l q is) (visible_opened s wide visible);
          more = omega arith;
          upto = omega (arith, none);
          fit = λ n le. pads (length s.sites) n (old.fit (length s.sites) n);
        }

    -- three expressions are too many
    three_long : (e f g : TreeEx) (gs : TreeExs) (l : List Left) (q : Sides) → lefts text (opened s) (some e (some f (some g gs))) ≡ Some l → sides_of l ≡ Some q → ⊥
    three_long e f g gs l q found is =
        let r = opened s in
        let k1 = and_then_some (λ x. option_map (λ xs. x ∷ xs) (lefts text r (some f (some g gs)))) (left text r e) l found in
        let m1 = map_some (λ xs. k1.0 ∷ xs) (lefts text r (some f (some g gs))) l k1.2 in
        let k2 = and_then_some (λ x. option_map (λ xs. x ∷ xs) (lefts text r (some g gs))) (left text r f) m1.0 m1.1 in
        let m2 = map_some (λ xs. k2.0 ∷ xs) (lefts text r (some g gs)) m1.0 k2.2 in
        let k3 = and_then_some (λ x. option_map (λ xs. x ∷ xs) (lefts text r gs)) (left text r g) m2.0 m2.1 in
        let m3 = map_some (λ xs. k3.0 ∷ xs) (lefts text r gs) m2.0 k3.2 in
        let whole : k1.0 ∷ k2.0 ∷ k3.0 ∷ m3.0 ≡ l = ap (λ (y : List Left). k1.0 ∷ k2.0 ∷ y) m3.2 ∙ (ap (λ (y : List Left). k1.0 ∷ y) m2.2 ∙ m1.2) in
        none_some (ap sides_of whole ∙ is)

    assigned_fits : (ls : TreeExs) (l : List Left) (q : Sides) → lefts text (opened s) ls ≡ Some l → each_accept (a ∷ b ∷ []) (all_wanted text (opened s) ls) ≡ true → sides_of l ≡ Some q → SidesFit wide (opened s) a b q
    assigned_fits expressions.none l q found accept is =
        old_sides [] l q is (λ m n fit. padded_none p wide m n (type_tree T a) (type_tree T b) l q is fit) (lefts_fit T p text (opened s) wide (known_all T text p all has (opened s) wide (visible_opened s wide visible) types_are agrees) expressions.none [] l tt found)
    assigned_fits (some e expressions.none) l q found accept is =
        old_sides (a ∷ []) l q is (λ m n fit. padded_one p wide m n (type_tree T a) (type_tree T b) l q is fit)
        (lefts_fit T p text (opened s) wide (known_all T text p all has (opened s) wide (visible_opened s wide visible) types_are agrees) (some e expressions.none) (a ∷ []) l (accepted_each (a ∷ []) (wanted text (opened s) e ∷ []) refl accept) found)
    assigned_fits (some e (some f expressions.none)) l q found accept is =
        old_sides (a ∷ b ∷ []) l q is (λ m n fit. padded_two p wide m n (type_tree T a) (type_tree T b) l q is fit)
        (lefts_fit T p text (opened s) wide (known_all T text p all has (opened s) wide (visible_opened s wide visible) types_are agrees) (some e (some f expressions.none)) (a ∷ b ∷ []) l (accepted_each (a ∷ b ∷ []) (wanted text (opened s) e ∷ wanted text (opened s) f ∷ []) refl accept) found)
    assigned_fits (some e (some f (some g gs))) l q found accept is = absurd (three_long e f g gs l q found is)

    new_sides : (slots : List Slot) (ts : List ValueType) (es : List (Option ℕ)) (q : Sides) → SlotsHave slots ts → Extends (behind_entries text (opened s) slots).sites all → entries text Parameter (opened s) slots ≡ Some es → sides_of (map entry_left es) ≡ Some q
        → Pads ts (map entry_left es) q → SidesFit wide (behind_entries text (opened s) slots) a b q
    new_sides slots ts es q have ext found is pads =
        let h = behind_entries text (opened s) slots in
        let l = map entry_left es in
        let f = entries_fit T text p all has Parameter (opened s) wide slots ts es types_are (visible_opened s wide visible) have found ext in
        let upto = lefts_upto p (length s.sites) (type_trees T ts) es f.fit in
        record {
          shows = subst (λ (w : List ℕ). Visible h w) (sym (left_scope wide es) ∙ sides_scope wide l q is) f.visible;
          more = omega (arith, f.count);
          upto = subst (λ k. k ≤ length h.sites) (sides_after (length s.sites) l q is) (omega (arith, upto, f.count));
          fit = λ n le. pads (length s.sites) n (lefts_of_params p wide (length s.sites) n (type_trees T ts) es f.fit (omega (arith, le, f.count)));
        }

    defined_fits : (ns : List Name) (es : List (Option ℕ)) (q : Sides) → Extends (behind_entries text (opened s) (slots_each (Some (a ∷ b ∷ [])) ns)).sites all → entries text Parameter (opened s) (slots_each (Some (a ∷ b ∷ [])) ns) ≡ Some es
        → sides_of (map entry_left es) ≡ Some q → SidesFit wide (behind_entries text (opened s) (slots_each (Some (a ∷ b ∷ [])) ns)) a b q
    defined_fits [] es q ext found is = new_sides [] [] es q tt ext found is (λ m n fit. padded_none p wide m n (type_tree T a) (type_tree T b) (map entry_left es) q is fit)
    defined_fits (x ∷ []) es q ext found is =
        new_sides (slots_each (Some (a ∷ b ∷ [])) (x ∷ [])) (a ∷ []) es q (refl, tt) ext found is (λ m n fit. padded_one p wide m n (type_tree T a) (type_tree T b) (map entry_left es) q is fit)
    defined_fits (x ∷ y ∷ []) es q ext found is =
        new_sides (slots_each (Some (a ∷ b ∷ [])) (x ∷ y ∷ [])) (a ∷ b ∷ []) es q (refl, (refl, tt)) ext found is (λ m n fit. padded_two p wide m n (type_tree T a) (type_tree T b) (map entry_left es) q is fit)
    defined_fits (x ∷ y ∷ z ∷ ns) es q ext found is =
        let few = sides_few (map entry_left es) q is in
        let long = entries_long text (opened s) (Some (a ∷ b ∷ [])) (x ∷ y ∷ z ∷ ns) es found in
        absurd (omega (arith, few, long))

    sides_fit : (t : Targets) (l : List Left) (q : Sides) → Extends (behind_entries text (opened s) (target_slots (Some (a ∷ b ∷ [])) t)).sites all → target_lefts text (opened s) (Some (a ∷ b ∷ [])) t ≡ Some l → sides_of l ≡ Some q
        → SidesFit wide (behind_entries text (opened s) (target_slots (Some (a ∷ b ∷ [])) t)) a b q
    sides_fit no_targets l q ext found is =
        let empty : sides_of [] ≡ Some q = ap sides_of (same_some found) ∙ is in
        subst (λ (k : Sides). SidesFit wide (opened s) a b k) (same_some empty) (record { shows = visible_opened s wide visible; more = omega arith; upto = omega arith; fit = λ n le. tt })
    sides_fit (targets_assigned ls at) l q ext found is =
        let k = allowed_is (each_accept (a ∷ b ∷ []) (all_wanted text (opened s) ls)) (lefts text (opened s) ls) l found in
        assigned_fits ls l q k.1 k.0 is
    sides_fit (targets_defined ns at) l q ext found is =
        let slots = slots_each (Some (a ∷ b ∷ [])) ns in
        let k = allowed_is (not (all_blank text ns)) (option_map (map entry_left) (entries text Parameter (opened s) slots)) l found in
        let o = map_some (map entry_left) (entries text Parameter (opened s) slots) l k.1 in
        defined_fits ns o.0 q ext o.1 (ap sides_of o.2 ∙ is)

-- ---- the header

-- the scope of the body
abbrev pub over_scope : List ℕ → Over → (key value : Left) → List ℕ
over_scope scope (over_int e) key value = scope_behind scope (key ∷ [])
over_scope scope (over_length n) key value = scope_behind scope (key ∷ [])
over_scope scope (over_copy site e n) key value = scope_behind (site ∷ scope) (key ∷ value ∷ [])
over_scope scope (over_slice e n) key value = scope_behind scope (key ∷ value ∷ [])
over_scope scope (over_pointer at e x n) key value = scope_behind scope (key ∷ value ∷ [])
over_scope scope (over_pointed x) key value = scope_behind scope (key ∷ [])

abbrev pub range_scope : List ℕ → Range → List ℕ
range_scope scope r = over_scope scope r.over r.key r.value

module _ (T : Table) (text : List ℕ) (p : Program) (all : List Site) (has : HasSites T p all) (wanted1 : List TypeTree) (named : ℕ) where
  -- between the scope outside and that after the header
  pub record RangeFits (looped : Bool) (s : Scope) (scope : List ℕ) (h : Scope) (r : Range) : Type 0 where
    pub visible : Visible h (range_scope scope r)
    pub more : length s.sites ≤ length h.sites
    pub upto : over_after (lefts_after (length s.sites) (r.key ∷ r.value ∷ [])) r.over ≤ length h.sites
    pub fit : (n : ℕ) → length h.sites ≤ n → (y : Sts) → StsFit p wanted1 named true (range_scope scope r) (length h.sites) n y → StFits p wanted1 named looped scope (length s.sites) n (range_stmt r y)

  module _ (s : Scope) (scope : List ℕ) (visible : Visible s scope) (types_are : s.types ≡ T) (formed : IsFormed T) (agreed : (r : Scope) → package_of r ≡ package_of s → Extends r.sites all → Agrees r p) where
    -- what it goes over: a value of the type by which that is known
    record OverFits (k : Ranged) (x : Ex) : Type 0 where
      own : ValueType
      kind : ranged_type T own ≡ Some k
      fit : ExFits p scope (type_tree T own) x

    over_fits : (e : TreeEx) (k : Ranged) (x : Ex) → Extends s.sites all → ranged text s e ≡ Some k → over text s e ≡ Some x → OverFits k x
    over_fits e k x ext ranged_is value_is =
        let o = operand_in (gives text s e) in
        let y = and_then_some (ranged_of s.types) o k ranged_is in
        let z = and_then_some as_value o x value_is in
        let u = and_then_some (ranged_type s.types) (type_of y.0) k y.2 in
        let same1 : z.0 ≡ y.0 = same_some (sym z.1 ∙ y.1) in
        let value1 : as_value y.0 ≡ Some x = ap as_value (sym same1) ∙ z.2 in
        let agrees = agreed s refl ext in
        let fits = operand_fits s.types p scope (gives text s e) y.0 (maybe_fits s.types p scope (gives text s e) (λ g g_is. gives_fit p scope text s (shown_site s scope visible) (shown_number s scope visible) visible.held agrees e g g_is)) y.1 in
        record {
          own = u.0;
          kind = subst (λ (U : Table). ranged_type U u.0 ≡ Some k) types_are u.2;
          fit = subst (λ (U : Table). ExFits p scope (type_tree U u.0) x) types_are (value_fits s.types p scope agrees.formed y.0 u.0 x u.1 fits value1);
        }

    int_first : (wide : List ℕ) (m n : ℕ) (u : TypeTree) (ls : List Left) → LeftsFit p wide m n (type_tree T Int ∷ u ∷ []) ls → LeftsFit p wide m n (ints ∷ u ∷ []) ls
    int_first wide m n u ls fit = subst (λ (v : TypeTree). LeftsFit p wide m n (v ∷ u ∷ []) ls) (int_tree T formed) fit

    -- one left side
    record KeyFits (h : Scope) (key : Left) : Type 0 where
      shows : Visible h (scope_behind scope (key ∷ []))
      more : length s.sites ≤ length h.sites
      upto : lefts_after (length s.sites) (key ∷ blank ∷ []) ≤ length h.sites
      fit : (n : ℕ) → length h.sites ≤ n → LeftsFit p scope (length s.sites) n (ints ∷ []) (key ∷ [])
      later : (n : ℕ) (y : Sts) → StsFit p wanted1 named true (scope_behind scope (key ∷ [])) (length h.sites) n y → StsFit p wanted1 named true (scope_behind scope (key ∷ [])) (lefts_after (length s.sites) (key ∷ [])) n y

    key_fits : (h : Scope) (b : ValueType) (key : Left) → SidesFit T text p all has s types_are scope h Int b (record { key = key; value = blank }) → KeyFits h key
    key_fits h b key sides =
        let before = subst (λ k. k ≤ length h.sites) (key_after (length s.sites) key) sides.upto in
        record {
          shows = subst (λ (w : List ℕ). Visible h w) (blank_scope scope key) sides.shows;
          more = sides.more;
          upto = sides.upto;
          fit = λ n le. one_only p scope (length s.sites) n ints (type_tree T b) key (int_first scope (length s.sites) n (type_tree T b) (key ∷ blank ∷ []) (sides.fit n le));
          later = λ n y body. sts_wider p wanted1 named true (scope_behind scope (key ∷ [])) (length h.sites) (lefts_after (length s.sites) (key ∷ [])) n n before (omega arith) y body;
        }

    -- the numbers below an int
    numbers_fit : (looped : Bool) (h : Scope) (site : ℕ) (x : Ex) (q : Sides) (r : Range) → ExFits p scope ints x → SidesFit T text p all has s types_are scope h Int Int q → range_with site numbers x q ≡ Some r → RangeFits looped s scope h r
    numbers_fit looped h site x q r over1 sides is = by q.key q.value sides is
      where
        by : (k v : Left) → SidesFit T text p all has s types_are scope h Int Int (record { key = k; value = v }) → range_with site numbers x (record { key = k; value = v }) ≡ Some r → RangeFits looped s scope h r
        by k (new site1) fits is1 = absurd (none_some is1)
        by k (to q1) fits is1 = absurd (none_some is1)
        by k blank fits is1 =
            let f = key_fits h Int k fits in
            subst (λ (y : Range). RangeFits looped s scope h y) (same_some is1)
            (record {
              visible = f.shows;
              more = f.more;
              upto = f.upto;
              fit = λ n le y body. (over1, f.fit n le, f.later n y body);
            })

    -- the indices of an array
    indices_fit : (looped : Bool) (h : Scope) (site : ℕ) (t : ValueType) (a : ArrayType) (x : Ex) (key : Left) (r : Range) → a.length < 2 ^ 63 → KeyFits h key → range_with site (array t a) x (record { key = key; value = blank }) ≡ Some r → RangeFits looped s scope h r
    indices_fit looped h site t a x key r small f is = by (has_call x) is
      where
        by : (b : Bool) → option_map (ranging (record { key = key; value = blank })) (cond b None (Some (over_length a.length))) ≡ Some r → RangeFits looped s scope h r
        by true is1 = absurd (none_some is1)
        by false is1 =
            subst (λ (y : Range). RangeFits looped s scope h y) (same_some is1)
            (record {
              visible = f.shows;
              more = f.more;
              upto = f.upto;
              fit = λ n le y body. (small, f.fit n le, f.later n y body);
            })

    -- its elements: the copy comes behind the new variables
    elements_fit : (looped : Bool) (h : Scope) (at : Pos) (t : ValueType) (a : ArrayType) (x : Ex) (q : Sides) (r : Range) → IsUsed q.value → h.types ≡ T → Extends (with_site h (of_copy h.setting) [] t at).sites all → type_tree T t ≡ array_of a.length (type_tree T a.element) → a.length < 2 ^ 63
        → ExFits p scope (type_tree T t) x → SidesFit T text p all has s types_are (length h.sites ∷ scope) h Int a.element q → range_with (length h.sites) (array t a) x q ≡ Some r → RangeFits looped s scope (with_site h (of_copy h.setting) [] t at) r
    elements_fit looped h at t a x q r used h_types ext tree small over1 sides is = by q.key q.value used sides is
      where
        site : ℕ
        site = length h.sites

        after : Scope
        after = with_site h (of_copy h.setting) [] t at

        longer : length after.sites ≡ length h.sites + 1
        longer = length-append h.sites (site_at (of_copy h.setting) h.types (length h.site_names) [] t at ∷ [])

        copy_is : site_type p site ≡ array_of a.length (type_tree T a.element)
        copy_is = site_shown T p all has after h_types ext site t (new_site h (of_copy h.setting) [] t at) ∙ tree

        unmade : is_made p site ≡ false
        unmade = unmade_shown T p all has after ext site (new_unmade h (of_copy h.setting) [] t at refl)

        whole : ExFits p scope (array_of a.length (type_tree T a.element)) x
        whole = subst (λ (u : TypeTree). ExFits p scope u x) tree over1

        copied_fits : (k v : Left) → SidesFit T text p all has s types_are (site ∷ scope) h Int a.element (record { key = k; value = v }) → RangeFits looped s scope after (record { over = over_copy site x a.length; key = k; value = v })
        copied_fits k v f = record {
          visible = visible_kept h after (scope_behind (site ∷ scope) (k ∷ v ∷ [])) f.shows (keeps_copy h (Some t) at);
          more = omega (arith, f.more, longer);
          upto = omega (arith, longer);
          fit = λ n le y body. (
            type_tree T a.element,
            copy_is,
            solid T formed (type_number T a.element),
            small,
            (f.upto, omega (arith, le, longer), unmade),
            whole,
            int_first (site ∷ scope) (length s.sites) n (type_tree T a.element) (k ∷ v ∷ []) (f.fit n (omega (arith, le, longer))),
            subst (λ j. StsFit p wanted1 named true (scope_behind (site ∷ scope) (k ∷ v ∷ [])) j n y) (omega (arith, longer)) body,
          );
        }

        by : (k v : Left) → IsUsed v → SidesFit T text p all has s types_are (site ∷ scope) h Int a.element (record { key = k; value = v }) → range_with site (array t a) x (record { key = k; value = v }) ≡ Some r → RangeFits looped s scope after r
        by k blank used1 f is1 = absurd used1
        by k (new site1) used1 f is1 = subst (λ (y : Range). RangeFits looped s scope after y) (same_some is1) (copied_fits k (new site1) f)
        by k (to q1) used1 f is1 = subst (λ (y : Range). RangeFits looped s scope after y) (same_some is1) (copied_fits k (to q1) f)

    pub range_fits : (looped : Bool) (t : Targets) (at : Pos) (e : TreeEx) (r : Range) → range_in text s t e ≡ Some r → Extends (behind_range text s t at e).sites all → RangeFits looped s scope (behind_range text s t at e) r
    range_fits looped t at e r is ext =
        subst (λ (o : Option Ranged). RangeFits looped s scope (behind_copy (behind_entries text (opened s) (target_slots (given_types o) t)) (copied o (target_count text (opened s) t)) at) r) (sym c.ranged_is)
        (by c.kind c.ranged_is c.lefts_are c.range_is
        (subst (λ (o : Option Ranged). Extends (behind_copy (behind_entries text (opened s) (target_slots (given_types o) t)) (copied o (target_count text (opened s) t)) at).sites all) c.ranged_is ext))
      where
        c : RangeParts text s t e r
        c = range_parts text s t e r is

        -- the scopes after the new variables, and after the copy, by what it goes over
        targets_of : Ranged → Scope
        targets_of k = behind_entries text (opened s) (target_slots (Some (given_by k)) t)

        after_of : Ranged → Scope
        after_of k = behind_copy (targets_of k) (copied (Some k) (target_count text (opened s) t)) at

        outside : (k : Ranged) → Extends (targets_of k).sites all → Extends s.sites all
        outside k e1 = extends_twice s.sites (targets_of k).sites all (grows_entries text (opened s) (target_slots (Some (given_by k)) t)).sites e1

        open_agrees : (k : Ranged) → Extends (targets_of k).sites all → Agrees (opened s) p
        open_agrees k e1 = agreed (opened s) refl (outside k e1)

        counted : (k : Ranged) → target_lefts text (opened s) (Some (given_by k)) t ≡ Some c.lefts → target_count text (opened s) t ≡ Some (key_count c.lefts)
        counted k lefts_are = targets_counted text (opened s) (Some (given_by k)) t c.lefts lefts_are

        by : (k : Ranged) → ranged text s e ≡ Some k → target_lefts text (opened s) (given_types (Some k)) t ≡ Some c.lefts → range_with (length (targets_of k).sites) k c.value c.sides ≡ Some r → Extends (after_of k).sites all → RangeFits looped s scope (after_of k) r
        by numbers ranged_is lefts_are range_is ext1 =
            let h = targets_of numbers in
            let none : copied (Some numbers) (target_count text (opened s) t) ≡ None = nothing_copied (target_count text (opened s) t) in
            let ext2 : Extends h.sites all = subst (λ (o : Option ValueType). Extends (behind_copy h o at).sites all) none ext1 in
            let o = over_fits e numbers c.value (outside numbers ext2) ranged_is c.value_is in
            let fit1 : ExFits p scope ints c.value = subst (λ (u : TypeTree). ExFits p scope u c.value) (int_tree T formed) (subst (λ (u : ValueType). ExFits p scope (type_tree T u) c.value) (int_is T o.own o.kind) o.fit) in
            let sides = sides_fit T text p all has s types_are scope visible (open_agrees numbers ext2) Int Int t c.lefts c.sides ext2 lefts_are c.sides_are in
            subst (λ (o1 : Option ValueType). RangeFits looped s scope (behind_copy h o1 at) r) (sym none) (numbers_fit looped h (length h.sites) c.value c.sides r fit1 sides range_is)
        by (array u a) ranged_is lefts_are range_is ext1 = with_value c.sides.value c.sides_are range_is
          where
            h : Scope
            h = targets_of (array u a)

            with_count : target_count text (opened s) t ≡ Some (key_count c.lefts)
            with_count = counted (array u a) lefts_are

            h_types : h.types ≡ T
            h_types = grows_types (opened s) h (grows_entries text (opened s) (target_slots (Some (given_by (array u a))) t)) ∙ types_are

            used_value : (v : Left) → IsUsed v → sides_of c.lefts ≡ Some (record { key = c.sides.key; value = v }) → range_with (length h.sites) (array u a) c.value (record { key = c.sides.key; value = v }) ≡ Some r → RangeFits looped s scope (after_of (array u a)) r
            used_value v used sides_are range_is1 =
                let q : Sides = record { key = c.sides.key; value = v } in
                let some1 : copied (Some (array u a)) (target_count text (opened s) t) ≡ Some u = ap (copied (Some (array u a))) with_count ∙ ap (λ b. cond b None (Some u)) (used_counted c.lefts q used sides_are) in
                let ext2 : Extends (with_site h (of_copy h.setting) [] u at).sites all = subst (λ (o : Option ValueType). Extends (behind_copy h o at).sites all) some1 ext1 in
                let ext3 : Extends h.sites all = extends_twice h.sites (with_site h (of_copy h.setting) [] u at).sites all (_, refl) ext2 in
                let o = over_fits e (array u a) c.value (outside (array u a) ext3) ranged_is c.value_is in
                let array1 = array_is T formed o.own u a o.kind in
                let fit1 : ExFits p scope (type_tree T u) c.value = subst (λ (w : ValueType). ExFits p scope (type_tree T w) c.value) array1.same o.fit in
                let sides = sides_fit T text p all has s types_are (length h.sites ∷ scope) (visible_wider s scope (length h.sites) visible) (open_agrees (array u a) ext3) Int a.element t c.lefts q ext3 lefts_are sides_are in
                subst (λ (o1 : Option ValueType). RangeFits looped s scope (behind_copy h o1 at) r) (sym some1) (elements_fit looped h at u a c.value q r used h_types ext2 array1.tree array1.small fit1 sides range_is1)

            with_value : (v : Left) → sides_of c.lefts ≡ Some (record { key = c.sides.key; value = v }) → range_with (length h.sites) (array u a) c.value (record { key = c.sides.key; value = v }) ≡ Some r → RangeFits looped s scope (after_of (array u a)) r
            with_value blank sides_are range_is1 =
                let none : copied (Some (array u a)) (target_count text (opened s) t) ≡ None = ap (copied (Some (array u a))) with_count ∙ ap (λ b. cond b None (Some u)) (blank_counted c.lefts c.sides.key sides_are) in
                let ext2 : Extends h.sites all = subst (λ (o : Option ValueType). Extends (behind_copy h o at).sites all) none ext1 in
                let o = over_fits e (array u a) c.value (outside (array u a) ext2) ranged_is c.value_is in
                let array1 = array_is T formed o.own u a o.kind in
                let sides = sides_fit T text p all has s types_are scope visible (open_agrees (array u a) ext2) Int a.element t c.lefts (record { key = c.sides.key; value = blank }) ext2 lefts_are sides_are in
                subst (λ (o1 : Option ValueType). RangeFits looped s scope (behind_copy h o1 at) r) (sym none) (indices_fit looped h (length h.sites) u a c.value c.sides.key r array1.small (key_fits h a.element c.sides.key sides) range_is1)
            with_value (new site) sides_are range_is1 = used_value (new site) tt sides_are range_is1
            with_value (to q) sides_are range_is1 = used_value (to q) tt sides_are range_is1
