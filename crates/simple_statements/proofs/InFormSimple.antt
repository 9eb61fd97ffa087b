-- Typed simple statements are in form: sites are born in the order of the text, what is named is in scope, and each value has the type of
-- its place.
use Rattle.std.proofs.Common.{◌≡◌, ℕ, suc, ◌+◌, ◌≤◌, Bool, true, false, cond, List, [], ◌∷◌, ◌++◌, ◌⊎◌, inl, inr, Option, Some, None, refl, sym, ap, ◌∙◌, subst, arith, length, length-append}
use Rattle.std.specs.Prelude.{option_and_then, not, ◌&&◌}
use Rattle.std.specs.Option.{option_map}
use Rattle.base.specs.declared.pos.Pos.{Pos}
use Rattle.syntax.specs.declared.expression.Name.{Name}
use Rattle.syntax.specs.declared.operator.ArithmeticOp.{ArithmeticOp}
use Rattle.syntax.specs.declared.operator.ArithmeticOp.TheVariants as arithmetic
use Rattle.syntax.specs.declared.operator.BinOp.TheVariants.{Arithmetic}
use Rattle.syntax.specs.Expressions.{Ex as TreeEx, Exs as TreeExs, some, spelled}
use Rattle.syntax.specs.Expressions as expressions
use Rattle.syntax.specs.Statements.{Simple}
use Rattle.syntax.specs.Statements as tree
use Rattle.typed_syntax.specs.declared.operators.BinOp.{BinOp as TypedOp}
use Rattle.typed_syntax.specs.declared.operators.BinOp.TheVariants as op
use Rattle.typed.specs.declared.program.Site.{Site}
use Rattle.typed.specs.Positions.{position}
use Rattle.typed_syntax.specs.Syntax.{Exs, Left, Pl, St, Program, read, none, more, results, read_int as asked_two, blank, new, to, update, return_stmt}
use Rattle.typed_syntax.specs.Form.{IsArithmetic, IsStep, PlFits, LeftsFit, lefts_after, declared_after, scope_behind, scope_after, ExFits, ExsFit, PieceFits, PiecesFit, ReturnFits, StFits}
use Rattle.typed_syntax.specs.Types.{TypeTree, ints, bools}
use Rattle.base.specs.declared.value_type.ValueType.{ValueType}
use Rattle.base.specs.declared.value_type.ValueType.TheVariants.{Int, Bool as Truth, Struct, Array, Pointer, Slice}
use Rattle.typed.specs.Tables.{Table}
use Rattle.typed.specs.Formed.{IsFormed}
use Rattle.type_faults.specs.Given.{both}
use Rattle.type_faults.proofs.Options.{and_then_some, map_some, none_some, same_some}
use Rattle.operators.specs.Operands.{Operand, value, TypedPlace, place_of}
use Rattle.operators.specs.Operators.{arithmetic_of, combined}
use Rattle.names.specs.Universe.{is_blank}
use Rattle.names.specs.Scope.{Scope, type_tree, type_trees, is_here, with_variable, with_strings, site_at}
use Rattle.names.specs.Naming.{name_in}
use Rattle.names.proofs.Trees.{int_tree}
use Rattle.given_values.specs.declared.wants.Wanted.{Wanted}
use Rattle.given_values.specs.declared.wants.Wanted.TheVariants.{Own, Typed, Unknown}
use Rattle.given_values.specs.Given.{Part, said, valued, Gives, one, called, asking, quoted, printed, panicked, exited, operand_in, Seen, value_types, asked, taken, wanted_by}
use Rattle.expression_types.specs.Typing.{gives, seen}
use Rattle.given_values.proofs.ValuesFit.{Agrees, AreAccepted, PartFits, PartsFit, GivesFit, AllFit, OperandFits, CallFits, value_fits, operand_fits, taken_fits, asked_types, maybe_fits}
use Rattle.expression_types.proofs.InForm.{gives_fit, seen_fit}
use Rattle.signatures.specs.declared.slots.Slot.{Slot}
use Rattle.signatures.specs.Entries.{slot_with, slots_each}
use Rattle.signatures.proofs.Growth.{Extends, IsDeclaring, extends_twice, extends_length}
use Rattle.signatures.proofs.Visible.{new_site, new_unmade, Visible, shown_site, shown_number, visible_with, visible_strings}
use Rattle.signatures.proofs.InFormEntries.{HasSites, site_shown, unmade_shown, Within}
use Rattle.simple_statements.specs.SimpleStatements.{Returns, only, target, place_type, place_value, is_blank_name, place_in, left_of, wanted_of, new_left_of, new_wanted_of, declares, strings_of, piece_from, pieces_from, strings_in_call, strings_in, expressed, updated, stepped, returned, assignment, left, wanted, lefts, all_wanted, new_left, new_wanted, new_lefts, all_new_wanted, new_slots, with_variables, may_define, own_value, definition_types, behind_simple, update_one, update_statement, step_statement, simple_statement}
use Rattle.simple_statements.proofs.SettledSimple.{assignment_some, where_some, own_read, update_some}
use Rattle.simple_statements.proofs.Growth.{grows_variables}

-- what a `return` may give goes together with the results of a function, and the names for them
pub record ReturnsFit (T : Table) (r : Returns) (results1 : List TypeTree) (named : ℕ) : Type 0 where
  pub types : List ValueType
  pub wanted : r.wanted ≡ asked types
  pub trees : type_trees T types ≡ results1
  pub bare : r.may_be_bare ≡ true → length results1 ≡ named
  pub no_values : results1 ≡ [] → named ≡ 0

-- a typed form that is in form between two scopes, the second of which has all sites that it declares: the next may have this number
pub record Formed (s r : Scope) (after : ℕ) (Fits : ℕ → ℕ → Type 0) : Type 0 where
  pub more : length s.sites ≤ length r.sites
  pub upto : after ≤ length r.sites
  pub fit : (n : ℕ) → length r.sites ≤ n → Fits (length s.sites) n

-- no new variables
abbrev pub DeclaresNone : Simple → Type 0
DeclaresNone (tree.define ns at es) = ⊥
DeclaresNone other = Unit {0}

-- ---- places that accept values

accepted_head : (w : Wanted) (ps : List Wanted) (t : ValueType) (ts : List ValueType) → AreAccepted (w ∷ ps) (t ∷ ts) → ((u : ValueType) → w ≡ Typed u → u ≡ t) × AreAccepted ps ts
accepted_head Own ps t ts all = (λ u is. cc is, all)
accepted_head Unknown ps t ts all = (λ u is. cc is, all)
accepted_head (Typed s) ps t ts all = (λ u is. let same1 : s ≡ u = cc is in sym same1 ∙ all.0, all.1)

pub accepted_long : (ps : List Wanted) (ts : List ValueType) → AreAccepted ps ts → length ts ≡ length ps
accepted_long [] [] all = refl
accepted_long (Own ∷ ps) (t ∷ ts) all = ap suc (accepted_long ps ts all)
accepted_long (Unknown ∷ ps) (t ∷ ts) all = ap suc (accepted_long ps ts all)
accepted_long (Typed s ∷ ps) (t ∷ ts) all = ap suc (accepted_long ps ts all.1)
accepted_long [] (t ∷ ts) all = absurd all
accepted_long (Own ∷ ps) [] all = absurd all
accepted_long (Unknown ∷ ps) [] all = absurd all
accepted_long (Typed s ∷ ps) [] all = absurd all

arithmetic_is : (tree_op : ArithmeticOp) → IsArithmetic (arithmetic_of tree_op)
arithmetic_is arithmetic.Add = tt
arithmetic_is arithmetic.Sub = tt
arithmetic_is arithmetic.Mul = tt
arithmetic_is arithmetic.Div = tt
arithmetic_is arithmetic.Rem = tt
arithmetic_is arithmetic.And = tt
arithmetic_is arithmetic.Or = tt
arithmetic_is arithmetic.Xor = tt
arithmetic_is arithmetic.AndNot = tt
arithmetic_is arithmetic.ShiftLeft = tt
arithmetic_is arithmetic.ShiftRight = tt

module _ (T : Table) (p : Program) where
  -- all results of a call as values
  results_fit : (scope : List ℕ) (ts : List ValueType) (f : ℕ) (es : Exs) → CallFits T p scope ts f es → ExsFit p scope (type_trees T ts) (results f es)
  results_fit scope [] f es fits = fits
  results_fit scope (t ∷ ts) f es fits = fits

  -- ---- left sides

  -- a left side that is no new variable: blank, or a variable of the type that the value has
  abbrev IsOld : List ℕ → ValueType → Left → Type 0
  IsOld scope t l = (l ≡ blank) ⊎ ((q : Pl) × (l ≡ to q) × PlFits p scope (type_tree T t) q)

  abbrev Known : List ℕ → Option TypedPlace → Type 0
  Known scope o = (v : TypedPlace) → o ≡ Some v → PlFits p scope (type_tree T v.value_type) v.place

  target_old : (scope : List ℕ) (o : Option TypedPlace) (t : ValueType) (l : Left) → Known scope o → ((u : ValueType) → place_type o ≡ Some u → u ≡ t) → target o ≡ Some l → IsOld scope t l
  target_old scope None t l has wants is = absurd (none_some is)
  target_old scope (Some v) t l has wants is = inr (v.place, sym (same_some is), subst (λ (u : ValueType). PlFits p scope (type_tree T u) v.place) (wants v.value_type refl) (has v refl))

  left_old : (scope : List ℕ) (b : Bool) (o : Option TypedPlace) (t : ValueType) (l : Left) → Known scope o → ((u : ValueType) → wanted_of b o ≡ Typed u → u ≡ t) → left_of b o ≡ Some l → IsOld scope t l
  left_old scope true o t l has wants is = inl (sym (same_some is))
  left_old scope false o t l has wants is = target_old scope o t l has (λ u e. wants u (ap wanted_by e)) is

  -- left sides without new variables
  pub record OldFit (scope : List ℕ) (ts : List ValueType) (ls : List Left) : Type 0 where
    pub fit : (m n : ℕ) → LeftsFit p scope m n (type_trees T ts) ls
    pub sites : (m : ℕ) → lefts_after m ls ≡ m
    pub behind : (wide : List ℕ) → scope_behind wide ls ≡ wide

  old_more : (scope : List ℕ) (t : ValueType) (ts : List ValueType) (l : Left) (ls : List Left) → IsOld scope t l → OldFit scope ts ls → OldFit scope (t ∷ ts) (l ∷ ls)
  old_more scope t ts l ls (inl is) k = subst (λ (x : Left). OldFit scope (t ∷ ts) (x ∷ ls)) (sym is) (record { fit = k.fit; sites = k.sites; behind = k.behind })
  old_more scope t ts l ls (inr o) k = subst (λ (x : Left). OldFit scope (t ∷ ts) (x ∷ ls)) (sym o.1) (record { fit = λ m n. (o.2, k.fit m n); sites = k.sites; behind = k.behind })

  module _ (text : List ℕ) where
    -- what expressions give the values of are places of their types
    abbrev KnownAll : Scope → List ℕ → Type 0
    KnownAll s scope = (e : TreeEx) → Known scope (place_in text s e)

    side_old : (s : Scope) (scope : List ℕ) (known : KnownAll s scope) (e : TreeEx) (t : ValueType) (l : Left) → ((u : ValueType) → wanted text s e ≡ Typed u → u ≡ t) → left text s e ≡ Some l → IsOld scope t l
    side_old s scope known e t l wants is = left_old scope (is_blank_name text (name_in e)) (place_in text s e) t l (known e) wants is

    pub lefts_fit : (s : Scope) (scope : List ℕ) (known : KnownAll s scope) (es : TreeExs) (ts : List ValueType) (ls : List Left) → AreAccepted (all_wanted text s es) ts → lefts text s es ≡ Some ls → OldFit scope ts ls
    lefts_fit s scope known expressions.none [] ls accepted is = subst (λ (l : List Left). OldFit scope [] l) (same_some is) (record { fit = λ m n. tt; sites = λ m. refl; behind = λ wide. refl })
    lefts_fit s scope known expressions.none (t ∷ ts) ls accepted is = absurd accepted
    lefts_fit s scope known (some e es) [] ls accepted is = absurd (omega (arith, accepted_long (wanted text s e ∷ all_wanted text s es) [] accepted))
    lefts_fit s scope known (some e es) (t ∷ ts) ls accepted is =
        let a = accepted_head (wanted text s e) (all_wanted text s es) t ts accepted in
        let r = and_then_some (λ l. option_map (λ xs. l ∷ xs) (lefts text s es)) (left text s e) ls is in
        let q = map_some (λ xs. r.0 ∷ xs) (lefts text s es) ls r.2 in
        subst (λ (l : List Left). OldFit scope (t ∷ ts) l) q.2 (old_more scope t ts r.0 q.0 (side_old s scope known e t r.0 a.0 r.1) (lefts_fit s scope known es ts q.0 a.1 q.1))

    -- left sides in a scope, some of which are new variables, after others
    record NewFit (scope0 : List ℕ) (s : Scope) (scope : List ℕ) (vs : List Slot) (ts : List ValueType) (ls : List Left) (n : ℕ) : Type 0 where
      fit : LeftsFit p scope0 (length s.sites) n (type_trees T ts) ls
      visible : Visible (with_variables text s vs) (scope_behind scope ls)
      upto : lefts_after (length s.sites) ls ≤ length (with_variables text s vs).sites

    old_left : (scope0 : List ℕ) (s : Scope) (scope : List ℕ) (vs : List Slot) (t : ValueType) (ts : List ValueType) (l : Left) (ls : List Left) (n : ℕ) → IsOld scope0 t l → NewFit scope0 s scope vs ts ls n → NewFit scope0 s scope vs (t ∷ ts) (l ∷ ls) n
    old_left scope0 s scope vs t ts l ls n (inl is) k = subst (λ (x : Left). NewFit scope0 s scope vs (t ∷ ts) (x ∷ ls) n) (sym is) (record { fit = k.fit; visible = k.visible; upto = k.upto })
    old_left scope0 s scope vs t ts l ls n (inr o) k = subst (λ (x : Left). NewFit scope0 s scope vs (t ∷ ts) (x ∷ ls) n) (sym o.1) (record { fit = (o.2, k.fit); visible = k.visible; upto = k.upto })

    module _ (all : List Site) (has : HasSites T p all) where
      new_left_one : (scope0 : List ℕ) (s : Scope) (scope : List ℕ) (x : Name) (t : ValueType) (vs : List Slot) (ts : List ValueType) (ls : List Left) (n : ℕ) → s.types ≡ T → IsDeclaring s.setting → length (with_variables text (with_variable (Some t) s (spelled text x) x.pos) vs).sites ≤ n
          → Extends (with_variables text (with_variable (Some t) s (spelled text x) x.pos) vs).sites all
          → NewFit scope0 (with_variable (Some t) s (spelled text x) x.pos) (length s.sites ∷ scope) vs ts ls n → NewFit scope0 s scope (slot_with (Some t) x ∷ vs) (t ∷ ts) (new (length s.sites) ∷ ls) n
      new_left_one scope0 s scope x t vs ts ls n types_are kinds le ext k =
          let s1 = with_variable (Some t) s (spelled text x) x.pos in
          let site : Site = site_at s.setting s.types (length s.site_names) (spelled text x) t x.pos in
          let one1 : length s1.sites ≡ length s.sites + 1 = length-append s.sites (site ∷ []) in
          let next1 : length s1.sites ≡ suc (length s.sites) = omega (arith, one1) in
          let later : Extends s1.sites (with_variables text s1 vs).sites = (grows_variables text s1 vs).sites in
          let ext1 : Extends s1.sites all = extends_twice s1.sites (with_variables text s1 vs).sites all later ext in
          let type_is = site_shown T p all has s1 types_are ext1 (length s.sites) t (new_site s s.setting (spelled text x) t x.pos) in
          let unmade = unmade_shown T p all has s1 ext1 (length s.sites) (new_unmade s s.setting (spelled text x) t x.pos kinds) in
          let longer = extends_length s1.sites (with_variables text s1 vs).sites later in
          record {
            fit = ((omega arith, omega (arith, le, longer, one1), unmade), type_is, subst (λ j. LeftsFit p scope0 j n (type_trees T ts) ls) next1 k.fit);
            visible = k.visible;
            upto = subst (λ j. lefts_after j ls ≤ length (with_variables text s1 vs).sites) next1 k.upto;
          }

      new_lefts_fit : (s0 : Scope) (scope0 : List ℕ) (known0 : KnownAll s0 scope0) (n : ℕ) (ns : List Name) (ts : List ValueType) (s : Scope) (scope : List ℕ) (ls : List Left) → s.types ≡ T → Visible s scope → AreAccepted (all_new_wanted text s0 ns) ts
          → new_lefts text s0 (length s.sites) ns ≡ Some ls → length (with_variables text s (new_slots text s0 (slots_each (Some ts) ns))).sites ≤ n → Extends (with_variables text s (new_slots text s0 (slots_each (Some ts) ns))).sites all
          → NewFit scope0 s scope (new_slots text s0 (slots_each (Some ts) ns)) ts ls n
      new_lefts_fit s0 scope0 known0 n [] [] s scope ls types_are visible accepted is le ext =
          subst (λ (l : List Left). NewFit scope0 s scope [] [] l n) (same_some is) (record { fit = tt; visible = visible; upto = omega arith })
      new_lefts_fit s0 scope0 known0 n [] (t ∷ ts) s scope ls types_are visible accepted is le ext = absurd accepted
      new_lefts_fit s0 scope0 known0 n (x ∷ ns) [] s scope ls types_are visible accepted is le ext = absurd (omega (arith, accepted_long (new_wanted text s0 x ∷ all_new_wanted text s0 ns) [] accepted))
      new_lefts_fit s0 scope0 known0 n (x ∷ ns) (t ∷ ts) s scope ls types_are visible accepted is le ext =
          let bytes = spelled text x in
          let a = accepted_head (new_wanted text s0 x) (all_new_wanted text s0 ns) t ts accepted in
          let r = and_then_some (λ l. option_map (λ xs. l ∷ xs) (new_lefts text s0 (cond (declares s0 bytes) (1 + length s.sites) (length s.sites)) ns)) (new_left text s0 (length s.sites) x) ls is in
          let q = map_some (λ xs. r.0 ∷ xs) (new_lefts text s0 (cond (declares s0 bytes) (1 + length s.sites) (length s.sites)) ns) ls r.2 in
          subst (λ (l : List Left). NewFit scope0 s scope (new_slots text s0 (slots_each (Some (t ∷ ts)) (x ∷ ns))) (t ∷ ts) l n) q.2
          (by (is_blank bytes) (is_here s0 bytes) r.0 q.0 a.0 r.1 q.1 le ext (λ s2 scope2 ls2 t2 v i l e. new_lefts_fit s0 scope0 known0 n ns ts s2 scope2 ls2 t2 v a.1 i l e))
        where
          rest_slots : List Slot
          rest_slots = new_slots text s0 (slots_each (Some ts) ns)

          Later : Type 0
          Later = (s2 : Scope) (scope2 : List ℕ) (ls2 : List Left) → s2.types ≡ T → Visible s2 scope2 → new_lefts text s0 (length s2.sites) ns ≡ Some ls2 → length (with_variables text s2 rest_slots).sites ≤ n → Extends (with_variables text s2 rest_slots).sites all
              → NewFit scope0 s2 scope2 rest_slots ts ls2 n

          by : (b h : Bool) (l : Left) (rest : List Left) → ((u : ValueType) → new_wanted_of b h (place_in text s0 (expressions.name x)) ≡ Typed u → u ≡ t)
              → new_left_of b h (place_in text s0 (expressions.name x)) (length s.sites) ≡ Some l
              → new_lefts text s0 (cond (not b && not h) (1 + length s.sites) (length s.sites)) ns ≡ Some rest
              → length (with_variables text s (cond (not b && not h) (slot_with (Some t) x ∷ rest_slots) rest_slots)).sites ≤ n
              → Extends (with_variables text s (cond (not b && not h) (slot_with (Some t) x ∷ rest_slots) rest_slots)).sites all → Later
              → NewFit scope0 s scope (cond (not b && not h) (slot_with (Some t) x ∷ rest_slots) rest_slots) (t ∷ ts) (l ∷ rest) n
          by true h l rest wants l_is rest_is le1 ext1 later = old_left scope0 s scope rest_slots t ts l rest n (inl (sym (same_some l_is))) (later s scope rest types_are visible rest_is le1 ext1)
          by false true l rest wants l_is rest_is le1 ext1 later =
              old_left scope0 s scope rest_slots t ts l rest n (target_old scope0 (place_in text s0 (expressions.name x)) t l (known0 (expressions.name x)) (λ u e. wants u (ap wanted_by e)) l_is) (later s scope rest types_are visible rest_is le1 ext1)
          by false false l rest wants l_is rest_is le1 ext1 later =
              let s1 = with_variable (Some t) s (spelled text x) x.pos in
              let one1 : length s1.sites ≡ length s.sites + 1 = length-append s.sites (site_at s.setting s.types (length s.site_names) (spelled text x) t x.pos ∷ []) in
              let site : 1 + length s.sites ≡ length s1.sites = omega (arith, one1) in
              let found : new_lefts text s0 (length s1.sites) ns ≡ Some rest = ap (λ j. new_lefts text s0 j ns) (sym site) ∙ rest_is in
              subst (λ (y : Left). NewFit scope0 s scope (slot_with (Some t) x ∷ rest_slots) (t ∷ ts) (y ∷ rest) n) (same_some l_is)
              (new_left_one scope0 s scope x t rest_slots ts rest n types_are visible.kinds le1 ext1 (later s1 (length s.sites ∷ scope) rest types_are (visible_with s scope (spelled text x) t x.pos visible) found le1 ext1))

-- ---- statements

module _ (T : Table) (text : List ℕ) (p : Program) (all : List Site) (has : HasSites T p all) where
  -- what an expression gives the value of is a place of its type
  pub known_all : (s : Scope) (scope : List ℕ) → Visible s scope → s.types ≡ T → Agrees s p → (e : TreeEx) → Known T p scope (place_in text s e)
  known_all s scope visible types_are agrees e v is =
      let q = and_then_some place_of (operand_in (gives text s e)) v is in
      of_operand q.0 (operand_fits T p scope (gives text s e) q.0 (maybe_fits T p scope (gives text s e) fits) q.1) q.2
    where
      fits : (g : Gives) → gives text s e ≡ Some g → GivesFit T p scope g
      fits g g_is = subst (λ (U : Table). GivesFit U p scope g) types_are (gives_fit p scope text s (shown_site s scope visible) (shown_number s scope visible) visible.held agrees e g g_is)

      of_operand : (x : Operand) → OperandFits T p scope x → place_of x ≡ Some v → PlFits p scope (type_tree T v.value_type) v.place
      of_operand (value t (read q)) fit found = subst (λ (y : TypedPlace). PlFits p scope (type_tree T y.value_type) y.place) (same_some found) fit
      of_operand x fit found = absurd (none_some found)

  module _ (wanted1 : List TypeTree) (named : ℕ) where
    abbrev pub StFormed : (looped : Bool) → Scope → List ℕ → Scope → St → Type 0
    StFormed looped s scope after t = Formed s after (declared_after (length s.sites) t) (λ m n. StFits p wanted1 named looped scope m n t)

    -- what is in form wherever it stands, declares no site, and keeps the scope
    abbrev pub Still : (looped : Bool) → List ℕ → St → Type 0
    Still looped scope t = ((m : ℕ) → declared_after m t ≡ m) × ((m n : ℕ) → StFits p wanted1 named looped scope m n t) × (scope_after scope t ≡ scope)

    no_later : (m : ℕ) (t : St) → ((k : ℕ) → declared_after k t ≡ k) → declared_after m t ≤ m
    no_later m t none1 = let same1 = none1 m in omega (arith, same1)

    pub still_formed : (looped : Bool) (s : Scope) (scope : List ℕ) (t : St) → Visible s scope → Still looped scope t → StFormed looped s scope s t × Visible s (scope_after scope t)
    still_formed looped s scope t v f = (record { more = omega arith; upto = no_later (length s.sites) t f.0; fit = λ n le. f.1 (length s.sites) n }, subst (λ w. Visible s w) (sym f.2) v)

    return_still : (looped : Bool) (scope : List ℕ) (r : Returns) (goes : ReturnsFit T r wanted1 named) (formed : IsFormed T) (os : List Seen) (t : St) → AllFit T p scope os → returned r os ≡ Some t → Still looped scope t
    return_still looped scope r goes formed [] t fits is =
        let w = where_some r.may_be_bare (Some (return_stmt none)) t is in subst (λ (x : St). Still looped scope x) (same_some w.1) (λ m. refl, λ m n. goes.bare w.0, refl)
    return_still looped scope r goes formed (o ∷ os) t fits is =
        let q = map_some return_stmt (taken r.wanted (o ∷ os)) t is in
        let f = taken_fits T p scope formed r.wanted (o ∷ os) q.0 fits q.1 in
        let same1 = asked_types goes.types f.types (subst (λ (l : List Wanted). AreAccepted l f.types) goes.wanted f.accepted) in
        let whole : ExsFit p scope wanted1 q.0 = subst (λ (l : List TypeTree). ExsFit p scope l q.0) (ap (type_trees T) (sym same1) ∙ goes.trees) f.fit in
        subst (λ (x : St). Still looped scope x) q.2 (λ m. refl, λ m n. by wanted1 goes.no_values q.0 whole, refl)
      where
        by : (l : List TypeTree) → (l ≡ [] → named ≡ 0) → (es : Exs) → ExsFit p scope l es → ReturnFits p scope l named es
        by [] no_values none fit = sym (no_values refl)
        by (t1 ∷ ts) no_values none fit = absurd fit
        by l no_values (more e es) fit = fit
        by l no_values (results f es) fit = fit
        by l no_values asked_two fit = fit

    -- operands whose strings the program has
    piece_fits : (scope : List ℕ) (n : ℕ) (q : Part) → PartFits p scope q → n + length (strings_of (q ∷ [])) ≤ length p.strings → PieceFits p scope (piece_from n q)
    piece_fits scope n (said bytes) fits le = omega (arith, le)
    piece_fits scope n (valued t e) fits le = fits

    pieces_fit : (scope : List ℕ) (n : ℕ) (ps : List Part) → PartsFit p scope ps → n + length (strings_of ps) ≤ length p.strings → PiecesFit p scope (pieces_from n ps)
    pieces_fit scope n [] fits le = tt
    pieces_fit scope n (said bytes ∷ ps) fits le = (omega (arith, le), pieces_fit scope (1 + n) ps fits.1 (omega (arith, le)))
    pieces_fit scope n (valued t e ∷ ps) fits le = (fits.0, pieces_fit scope n ps fits.1 le)

    express_still : (looped : Bool) (scope : List ℕ) (k : ℕ) (g : Gives) (t : St) → GivesFit T p scope g → k + length (strings_in_call g) ≤ length p.strings → expressed k g ≡ Some t → Still looped scope t
    express_still looped scope k (one x) t fits le is = absurd (none_some is)
    express_still looped scope k (called at ts f es) t fits le is = subst (λ (x : St). Still looped scope x) (same_some is) (λ m. refl, λ m n. (type_trees T ts, results_fit T p scope ts f es fits), refl)
    express_still looped scope k (asking at) t fits le is = subst (λ (x : St). Still looped scope x) (same_some is) (λ m. refl, λ m n. (ints ∷ bools ∷ [], refl), refl)
    express_still looped scope k (quoted at bytes) t fits le is = absurd (none_some is)
    express_still looped scope k (printed at line ps) t fits le is = subst (λ (x : St). Still looped scope x) (same_some is) (λ m. refl, λ m n. pieces_fit scope k ps fits le, refl)
    express_still looped scope k (panicked at q) t fits le is = subst (λ (x : St). Still looped scope x) (same_some is) (λ m. refl, λ m n. piece_fits scope k q fits le, refl)
    express_still looped scope k (exited at e) t fits le is = subst (λ (x : St). Still looped scope x) (same_some is) (λ m. refl, λ m n. fits, refl)

    module _ (looped : Bool) (s : Scope) (scope : List ℕ) (visible : Visible s scope) (types_are : s.types ≡ T) (agrees : Agrees s p) where
      formed : IsFormed T
      formed = subst IsFormed types_are agrees.formed

      -- what expressions give is in form
      given_fits : (e : TreeEx) (g : Gives) → gives text s e ≡ Some g → GivesFit T p scope g
      given_fits e g is = subst (λ (U : Table). GivesFit U p scope g) types_are (gives_fit p scope text s (shown_site s scope visible) (shown_number s scope visible) visible.held agrees e g is)

      all_given : (es : TreeExs) → AllFit T p scope (seen text s es)
      all_given es = subst (λ (U : Table). AllFit U p scope (seen text s es)) types_are (seen_fit p scope text s (shown_site s scope visible) (shown_number s scope visible) visible.held agrees es)

      assign_still : (ls : TreeExs) (es : TreeExs) (t : St) → assignment (lefts text s ls) (taken (all_wanted text s ls) (seen text s es)) ≡ Some t → Still looped scope t
      assign_still ls es t is =
          let a = assignment_some (lefts text s ls) (taken (all_wanted text s ls) (seen text s es)) t is in
          let values = taken_fits T p scope formed (all_wanted text s ls) (seen text s es) a.1 (all_given es) a.3 in
          let left1 = lefts_fit T p text s scope (known_all s scope visible types_are agrees) ls values.types a.0 values.accepted a.2 in
          subst (λ (x : St). Still looped scope x) a.4 (left1.sites, λ m n. (type_trees T values.types, left1.fit m n, values.fit), left1.behind scope)

      define_formed : (ns : List Name) (at : Pos) (es : TreeExs) (t : St) → Extends (behind_simple text s (tree.define ns at es)).sites all → simple_statement text s (tree.define ns at es) ≡ Some t
          → StFormed looped s scope (behind_simple text s (tree.define ns at es)) t × Visible (behind_simple text s (tree.define ns at es)) (scope_after scope t)
      define_formed ns at es t ext is =
          let v = taken (all_new_wanted text s ns) (seen text s es) in
          let w = where_some (may_define text s ns) (assignment (new_lefts text s (length s.sites) ns) v) t is in
          let a = assignment_some (new_lefts text s (length s.sites) ns) v t w.1 in
          let values = taken_fits T p scope formed (all_new_wanted text s ns) (seen text s es) a.1 (all_given es) a.3 in
          let found : definition_types text s ns es ≡ Some values.types = ap (option_and_then (λ x. value_types (seen text s es))) a.3 ∙ values.found in
          let vs = new_slots text s (slots_each (Some values.types) ns) in
          let after = with_variables text s vs in
          let ext1 : Extends after.sites all = subst (λ (o : Option (List ValueType)). Extends (with_variables text s (new_slots text s (slots_each o ns))).sites all) found ext in
          let fits : (n : ℕ) → length after.sites ≤ n → NewFit T p text scope s scope vs values.types a.0 n =
          λ n le. new_lefts_fit T p text all has s scope (known_all s scope visible types_are agrees) n ns values.types s scope a.0 types_are visible values.accepted a.2 le ext1 in
          let whole = fits (length after.sites) (omega arith) in
          subst (λ (o : Option (List ValueType)). StFormed looped s scope (with_variables text s (new_slots text s (slots_each o ns))) t × Visible (with_variables text s (new_slots text s (slots_each o ns))) (scope_after scope t)) (sym found)
          (subst (λ (x : St). StFormed looped s scope after x × Visible after (scope_after scope x)) a.4
          (record { more = extends_length s.sites after.sites (grows_variables text s vs).sites; upto = whole.upto; fit = λ n le. (type_trees T values.types, (fits n le).fit, values.fit) }, whole.visible))

      -- the value of a left side is one of its type
      own_fits : (e : TreeEx) (t : ValueType) (q : Pl) → own_value text s e ≡ Some (value t (read q)) → PlFits p scope (type_tree T t) q
      own_fits e t q is = by (is_blank_name text (name_in e)) is
        where
          of_place : (o : Option TypedPlace) → Known T p scope o → place_value o ≡ Some (value t (read q)) → PlFits p scope (type_tree T t) q
          of_place None known is1 = absurd (none_some is1)
          of_place (Some v) known is1 =
              let read_is : value v.value_type (read v.place) ≡ value t (read q) = same_some is1 in
              let type_is : v.value_type ≡ t = cc in
              let place_is : v.place ≡ q = cc in
              subst (λ (u : ValueType). PlFits p scope (type_tree T u) q) type_is (subst (λ (l : Pl). PlFits p scope (type_tree T v.value_type) l) place_is (known v refl))

          by : (b : Bool) → cond b None (place_value (place_in text s e)) ≡ Some (value t (read q)) → PlFits p scope (type_tree T t) q
          by true is1 = absurd (none_some is1)
          by false is1 = of_place (place_in text s e) (known_all s scope visible types_are agrees e) is1

      update_one_still : (at : Pos) (tree_op : ArithmeticOp) (e v : TreeEx) (t : St) → update_one text s at tree_op e v ≡ Some t → Still looped scope t
      update_one_still at tree_op e v t is =
          let a = own_value text s e in
          let b = operand_in (gives text s v) in
          let q = and_then_some updated (both (combined at (Arithmetic tree_op)) a b) t is in
          let u = update_some at tree_op a b q.0 (λ x x_is. own_read text s e x x_is) q.1 in
          let form = u.5 in
          let place1 : PlFits p scope ints u.1 = subst (λ (x : TypeTree). PlFits p scope x u.1) (int_tree T formed) (subst (λ (k : ValueType). PlFits p scope (type_tree T k) u.1) form.2 (own_fits e u.0 u.1 u.3)) in
          let right : OperandFits T p scope u.2 = operand_fits T p scope (gives text s v) u.2 (maybe_fits T p scope (gives text s v) (λ g g_is. given_fits v g g_is)) u.4 in
          let right1 : ExFits p scope ints form.0 = subst (λ (x : TypeTree). ExFits p scope x form.0) (int_tree T formed) (value_fits T p scope formed u.2 Int form.0 form.1 right form.3) in
          let whole : update (position at) u.1 (arithmetic_of tree_op) form.0 ≡ t = same_some (ap updated (sym form.4) ∙ q.2) in
          subst (λ (x : St). Still looped scope x) whole (λ m. refl, λ m n. (arithmetic_is tree_op, place1, right1), refl)

      update_still : (at : Pos) (tree_op : ArithmeticOp) (e v : Option TreeEx) (t : St) → update_statement text s at tree_op e v ≡ Some t → Still looped scope t
      update_still at tree_op None v t is = absurd (none_some is)
      update_still at tree_op (Some e) None t is = absurd (none_some is)
      update_still at tree_op (Some e) (Some v) t is = update_one_still at tree_op e v t is

      step_still : (at : Pos) (typed_op : TypedOp) → IsStep typed_op → (e : TreeEx) (t : St) → step_statement text s at typed_op e ≡ Some t → Still looped scope t
      step_still at typed_op steps e t is =
          let q = and_then_some (stepped (position at) typed_op) (own_value text s e) t is in
          let x = own_read text s e q.0 q.1 in
          by x.0 x.1 (q.1 ∙ ap Some x.2) (ap (stepped (position at) typed_op) (sym x.2) ∙ q.2)
        where
          by : (u : ValueType) (l : Pl) → own_value text s e ≡ Some (value u (read l)) → stepped (position at) typed_op (value u (read l)) ≡ Some t → Still looped scope t
          by Truth l found is1 = absurd (none_some is1)
          by (Struct k) l found is1 = absurd (none_some is1)
          by (Array n u) l found is1 = absurd (none_some is1)
          by (Pointer u) l found is1 = absurd (none_some is1)
          by (Slice u) l found is1 = absurd (none_some is1)
          by Int l found is1 = subst (λ (y : St). Still looped scope y) (same_some is1) (λ m. refl, λ m n. (steps, subst (λ (x : TypeTree). PlFits p scope x l) (int_tree T formed) (own_fits e Int l found)), refl)

      call_still : (e : TreeEx) (t : St) → Within p all (with_strings s (strings_in (gives text s e))) → option_and_then (expressed (length s.strings)) (gives text s e) ≡ Some t → Still looped scope t
      call_still e t within is =
          let q = and_then_some (expressed (length s.strings)) (gives text s e) t is in
          let count1 : length (strings_in (gives text s e)) ≡ length (strings_in_call q.0) = ap (λ (o : Option Gives). length (strings_in o)) q.1 in
          let count2 = length-append s.strings (strings_in (gives text s e)) in
          express_still looped scope (length s.strings) q.0 t (given_fits e q.0 q.1) (omega (arith, within.1, count1, count2)) q.2

      pub simple_still : (m : Simple) (t : St) → DeclaresNone m → Within p all (behind_simple text s m) → simple_statement text s m ≡ Some t → Still looped scope t
      simple_still (tree.express e) t none1 within is = call_still e t within is
      simple_still (tree.assign ls at es) t none1 within is = assign_still ls es t is
      simple_still (tree.update ls at tree_op es) t none1 within is = update_still at tree_op (only ls) (only es) t is
      simple_still (tree.define ns at es) t none1 within is = absurd none1
      simple_still (tree.increment e at) t none1 within is = step_still at op.Add (inl refl) e t is
      simple_still (tree.decrement e at) t none1 within is = step_still at op.Sub (inr refl) e t is

      call_formed : (e : TreeEx) (t : St) → Still looped scope t → StFormed looped s scope (behind_simple text s (tree.express e)) t × Visible (behind_simple text s (tree.express e)) (scope_after scope t)
      call_formed e t f =
          let strings1 = strings_in (gives text s e) in (
            record { more = omega arith; upto = no_later (length s.sites) t f.0; fit = λ n le. f.1 (length s.sites) n },
            subst (λ (w : List ℕ). Visible (with_strings s strings1) w) (sym f.2) (visible_strings s scope strings1 visible),
          )

      pub simple_formed : (m : Simple) (t : St) → Within p all (behind_simple text s m) → simple_statement text s m ≡ Some t
          → StFormed looped s scope (behind_simple text s m) t × Visible (behind_simple text s m) (scope_after scope t)
      simple_formed (tree.express e) t within is = call_formed e t (call_still e t within is)
      simple_formed (tree.assign ls at es) t within is = still_formed looped s scope t visible (simple_still (tree.assign ls at es) t tt within is)
      simple_formed (tree.update ls at tree_op es) t within is = still_formed looped s scope t visible (simple_still (tree.update ls at tree_op es) t tt within is)
      simple_formed (tree.define ns at es) t within is = define_formed ns at es t within.0 is
      simple_formed (tree.increment e at) t within is = still_formed looped s scope t visible (simple_still (tree.increment e at) t tt within is)
      simple_formed (tree.decrement e at) t within is = still_formed looped s scope t visible (simple_still (tree.decrement e at) t tt within is)

      pub return_formed : (r : Returns) (goes : ReturnsFit T r wanted1 named) (es : TreeExs) (t : St) → returned r (seen text s es) ≡ Some t → StFormed looped s scope s t × Visible s (scope_after scope t)
      return_formed r goes es t is = still_formed looped s scope t visible (return_still looped scope r goes formed (seen text s es) t (all_given es) is)
