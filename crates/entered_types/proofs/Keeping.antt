-- Nothing but types enters, and no slice.
use Rattle.std.proofs.Common.{◌≡◌, ℕ, List, [], ◌∷◌, Option, Some, None, inl, inr, is_some, if◌then◌else◌, refl, ap, ◌∙◌}
use Rattle.std.specs.Prelude.{fold}
use Rattle.base.specs.declared.ids.TypeId.{TypeId}
use Rattle.base.specs.declared.value_type.ValueType.{ValueType}
use Rattle.base.specs.declared.value_type.ValueType.TheVariants.{Array, Slice}
use Rattle.syntax.specs.Expressions.{Ex as TreeEx, Exs as TreeExs, Bound as TreeBound, Elements as TreeElements, number, string, name, unary, binary, paren, call, selector, index, slice, array_type, slice_type, literal, elements, none, some, no_bound, bound_at, no_elements, element}
use Rattle.syntax.specs.Statements.{Simple, express, assign, update, define, increment, decrement, ValueSpec, Guard, Targets, no_targets, targets_assigned, targets_defined, Clause, forever, while_true, counting, ranging, Stm, Stms, Els, var_stmt, simple, block, if_stmt, for_stmt, break_stmt, continue_stmt, return_stmt, nil, cons, no_else, else_block, else_if}
use Rattle.syntax.specs.Declarations.{Field, Parameters, unnamed, named, TypeSpec, Body, Function, Declaration, constants, variables, types, function}
use Rattle.typed.specs.declared.fault.TableFault.{TableFault}
use Rattle.typed.specs.Tables.{Table, Holds, number_of, with_type}
use Rattle.typed.specs.Formed.{KeepsTrees, refusal}
use Rattle.typed.proofs.Lists.{get_grown}
use Rattle.typed.proofs.Growing.{keeps}
use Rattle.typed.proofs.Entered.{entered as longer, entered_grows, entered_deeper}
use Rattle.names.specs.Scope.{Scope}
use Rattle.entered_types.specs.Entered.{admitted, with_numbered, with_array, with_array_in, length_in, entered, stated_after, entered_each, entered_bound, entered_elements, entered_some, entered_spec, entered_specs, entered_simple, entered_simple_in, entered_guard, entered_targets, entered_clause, entered_statement, entered_else, entered_statements, entered_field, entered_fields, entered_parameters, entered_type_spec, entered_body, entered_function, entered_declaration, entered_all, OnlyEnters}

-- ---- tables

-- a slice of a table stands in another one too
abbrev HasSlices : Table → Table → Type 0
HasSlices T U = (i : ℕ) (e : TypeId) → Holds U i (Slice e) → Holds T i (Slice e)

-- a table has all of another one, and maybe more types, which are no slices
record Extends (T U : Table) : Type 0 where
  structs : U.structs ≡ T.structs
  numbers : (i : ℕ) (t : ValueType) → Holds T i t → Holds U i t
  trees : KeepsTrees T U
  slices : HasSlices T U

same_table : (T : Table) → Extends T T
same_table T = record { structs = refl; numbers = λ i t h. h; trees = λ t x h. h; slices = λ i e h. h }

-- with arrays
module _ (T : Table) (n : ℕ) (k : TypeId) where
  longer_slices : HasSlices T (longer T (Array n k))
  longer_slices i e h = elim (get_grown T.types (Array n k) i (Slice e) h) [
    | inl there ↦ there
    | inr last ↦ absurd cc last.1
  ]

  longer_extends : Extends T (longer T (Array n k))
  longer_extends = record {
    structs = refl;
    numbers = (entered_grows T (Array n k)).types;
    trees = keeps T (longer T (Array n k)) (entered_grows T (Array n k)) (entered_deeper T (Array n k));
    slices = longer_slices;
  }

  type_extends : Extends T (with_type T (Array n k))
  type_extends = by (number_of T (Array n k))
    where
      by : (o : Option ℕ) → Extends T (if is_some o then T else longer T (Array n k))
      by None = longer_extends
      by (Some i) = same_table T

  admitted_extends : Extends T (admitted T (Array n k))
  admitted_extends = by (refusal T (Array n k))
    where
      by : (o : Option TableFault) → Extends T (if is_some o then T else with_type T (Array n k))
      by None = type_extends
      by (Some e) = same_table T

numbered_extends : (T : Table) (n : ℕ) (o : Option ℕ) → Extends T (with_numbered T n o)
numbered_extends T n None = same_table T
numbered_extends T n (Some e) = admitted_extends T n (record { 0 = e })

array_extends : (T : Table) (n : Option ℕ) (t : Option ValueType) → Extends T (with_array T n t)
array_extends T None t = same_table T
array_extends T (Some n) None = same_table T
array_extends T (Some n) (Some t) = numbered_extends T n (number_of T t)

-- ---- scopes

record Enters (r s : Scope) : Type 0 where
  only : OnlyEnters r s
  slices : HasSlices r.types s.types

same_scope : (s : Scope) → Enters s s
same_scope s = record {
  only = record { others = refl; structs = refl; numbers = λ i t h. h; trees = λ t x h. h };
  slices = λ i e h. h;
}

onwards : (r s t : Scope) → Enters r s → Enters s t → Enters r t
onwards r s t a b = record {
  only = record {
    others = b.only.others ∙ ap (λ (q : Scope). record q { types = t.types }) a.only.others;
    structs = b.only.structs ∙ a.only.structs;
    numbers = λ i u h. b.only.numbers i u (a.only.numbers i u h);
    trees = λ u x h. b.only.trees u x (a.only.trees u x h);
  };
  slices = λ i e h. a.slices i e (b.slices i e h);
}

array_only : (s : Scope) (n : Option ℕ) (t : Option ValueType) → Enters s (with_array_in s n t)
array_only s n t =
    let e = array_extends s.types n t in
    record { only = record { others = refl; structs = e.structs; numbers = e.numbers; trees = e.trees }; slices = e.slices }

module _ (text : List ℕ) where
  mutual
    keeps_ex : (s : Scope) (e : TreeEx) → Enters s (entered text s e)
    keeps_ex s (number at n) = same_scope s
    keeps_ex s (string at behind) = same_scope s
    keeps_ex s (name n) = same_scope s
    keeps_ex s (unary at op e) = keeps_ex s e
    keeps_ex s (binary at op a b) = onwards s (entered text s a) _ (keeps_ex s a) (keeps_ex (entered text s a) b)
    keeps_ex s (paren at e) = keeps_ex s e
    keeps_ex s (call f es spread) = onwards s (entered text s f) _ (keeps_ex s f) (keeps_each (entered text s f) es)
    keeps_ex s (selector e at n) = keeps_ex s e
    keeps_ex s (index e at i) = onwards s (entered text s e) _ (keeps_ex s e) (keeps_ex (entered text s e) i)
    keeps_ex s (slice e at low high) =
        let r = entered text s e in
        let u = entered_bound text r low in
        onwards s r _ (keeps_ex s e) (onwards r u _ (keeps_bound r low) (keeps_bound u high))
    keeps_ex s (array_type at len e) =
        let r = entered text s len in
        let u = entered text r e in
        onwards s r _ (keeps_ex s len) (onwards r u _ (keeps_ex r e) (array_only u (length_in text r len) (stated_after text r e)))
    keeps_ex s (slice_type at e) = keeps_ex s e
    keeps_ex s (literal e es) = onwards s (entered text s e) _ (keeps_ex s e) (keeps_elements (entered text s e) es)
    keeps_ex s (elements at es) = keeps_elements s es

    keeps_each : (s : Scope) (es : TreeExs) → Enters s (entered_each text s es)
    keeps_each s none = same_scope s
    keeps_each s (some e es) = onwards s (entered text s e) _ (keeps_ex s e) (keeps_each (entered text s e) es)

    keeps_bound : (s : Scope) (b : TreeBound) → Enters s (entered_bound text s b)
    keeps_bound s no_bound = same_scope s
    keeps_bound s (bound_at e) = keeps_ex s e

    keeps_elements : (s : Scope) (es : TreeElements) → Enters s (entered_elements text s es)
    keeps_elements s no_elements = same_scope s
    keeps_elements s (element key e es) = onwards s (entered text s e) _ (keeps_ex s e) (keeps_elements (entered text s e) es)

  keeps_some : (s : Scope) (o : Option TreeEx) → Enters s (entered_some text s o)
  keeps_some s None = same_scope s
  keeps_some s (Some e) = keeps_ex s e

  keeps_fold : {A : Type 0} (f : Scope → A → Scope) → ((s : Scope) (x : A) → Enters s (f s x)) → (s : Scope) (xs : List A) → Enters s (fold f s xs)
  keeps_fold f each s [] = same_scope s
  keeps_fold f each s (x ∷ xs) = onwards s (f s x) _ (each s x) (keeps_fold f each (f s x) xs)

  -- ---- statements

  keeps_spec : (s : Scope) (v : ValueSpec) → Enters s (entered_spec text s v)
  keeps_spec s v = onwards s (entered_some text s v.type_expr) _ (keeps_some s v.type_expr) (keeps_each (entered_some text s v.type_expr) v.values)

  keeps_specs : (s : Scope) (vs : List ValueSpec) → Enters s (entered_specs text s vs)
  keeps_specs s vs = keeps_fold (entered_spec text) keeps_spec s vs

  keeps_simple : (s : Scope) (m : Simple) → Enters s (entered_simple text s m)
  keeps_simple s (express e) = keeps_ex s e
  keeps_simple s (assign places at es) = onwards s (entered_each text s places) _ (keeps_each s places) (keeps_each (entered_each text s places) es)
  keeps_simple s (update places at op es) = onwards s (entered_each text s places) _ (keeps_each s places) (keeps_each (entered_each text s places) es)
  keeps_simple s (define ns at es) = keeps_each s es
  keeps_simple s (increment e at) = keeps_ex s e
  keeps_simple s (decrement e at) = keeps_ex s e

  keeps_simple_in : (s : Scope) (o : Option Simple) → Enters s (entered_simple_in text s o)
  keeps_simple_in s None = same_scope s
  keeps_simple_in s (Some m) = keeps_simple s m

  keeps_guard : (s : Scope) (g : Guard) → Enters s (entered_guard text s g)
  keeps_guard s g = onwards s (entered_simple_in text s g.init) _ (keeps_simple_in s g.init) (keeps_ex (entered_simple_in text s g.init) g.condition)

  keeps_targets : (s : Scope) (ts : Targets) → Enters s (entered_targets text s ts)
  keeps_targets s no_targets = same_scope s
  keeps_targets s (targets_assigned es at) = keeps_each s es
  keeps_targets s (targets_defined ns at) = same_scope s

  keeps_clause : (s : Scope) (c : Clause) → Enters s (entered_clause text s c)
  keeps_clause s forever = same_scope s
  keeps_clause s (while_true e) = keeps_ex s e
  keeps_clause s (counting before e behind) =
      let r = entered_simple_in text s before in
      let u = entered_some text r e in
      onwards s r _ (keeps_simple_in s before) (onwards r u _ (keeps_some r e) (keeps_simple_in u behind))
  keeps_clause s (ranging ts at e) = onwards s (entered_targets text s ts) _ (keeps_targets s ts) (keeps_ex (entered_targets text s ts) e)

  mutual
    keeps_statement : (s : Scope) (m : Stm) → Enters s (entered_statement text s m)
    keeps_statement s (var_stmt at vs) = keeps_specs s vs
    keeps_statement s (simple m) = keeps_simple s m
    keeps_statement s (block ms) = keeps_statements s ms
    keeps_statement s (if_stmt at g ms rest) =
        let r = entered_guard text s g in
        let u = entered_statements text r ms in
        onwards s r _ (keeps_guard s g) (onwards r u _ (keeps_statements r ms) (keeps_else u rest))
    keeps_statement s (for_stmt at c ms) = onwards s (entered_clause text s c) _ (keeps_clause s c) (keeps_statements (entered_clause text s c) ms)
    keeps_statement s (break_stmt at) = same_scope s
    keeps_statement s (continue_stmt at) = same_scope s
    keeps_statement s (return_stmt at es) = keeps_each s es

    keeps_else : (s : Scope) (e : Els) → Enters s (entered_else text s e)
    keeps_else s no_else = same_scope s
    keeps_else s (else_block ms) = keeps_statements s ms
    keeps_else s (else_if at g ms rest) =
        let r = entered_guard text s g in
        let u = entered_statements text r ms in
        onwards s r _ (keeps_guard s g) (onwards r u _ (keeps_statements r ms) (keeps_else u rest))

    keeps_statements : (s : Scope) (ms : Stms) → Enters s (entered_statements text s ms)
    keeps_statements s nil = same_scope s
    keeps_statements s (cons m ms) = onwards s (entered_statement text s m) _ (keeps_statement s m) (keeps_statements (entered_statement text s m) ms)

  -- ---- declarations

  keeps_field : (s : Scope) (f : Field) → Enters s (entered_field text s f)
  keeps_field s f = keeps_ex s f.type_expr

  keeps_fields : (s : Scope) (fs : List Field) → Enters s (entered_fields text s fs)
  keeps_fields s fs = keeps_fold (entered_field text) keeps_field s fs

  keeps_parameters : (s : Scope) (p : Parameters) → Enters s (entered_parameters text s p)
  keeps_parameters s (unnamed es) = keeps_each s es
  keeps_parameters s (named fs) = keeps_fields s fs

  keeps_type_spec : (s : Scope) (t : TypeSpec) → Enters s (entered_type_spec text s t)
  keeps_type_spec s t = keeps_fields s t.fields

  keeps_body : (s : Scope) (o : Option Body) → Enters s (entered_body text s o)
  keeps_body s None = same_scope s
  keeps_body s (Some b) = keeps_statements s b.statements

  keeps_function : (s : Scope) (f : Function) → Enters s (entered_function text s f)
  keeps_function s f =
      let r = entered_parameters text s f.params in
      let u = entered_parameters text r f.results in
      onwards s r _ (keeps_parameters s f.params) (onwards r u _ (keeps_parameters r f.results) (keeps_body u f.body))

  keeps_declaration : (s : Scope) (d : Declaration) → Enters s (entered_declaration text s d)
  keeps_declaration s (constants at vs) = keeps_specs s vs
  keeps_declaration s (variables at vs) = keeps_specs s vs
  keeps_declaration s (types at ts) = keeps_fold (entered_type_spec text) keeps_type_spec s ts
  keeps_declaration s (function f) = keeps_function s f

  keeps_declarations : (s : Scope) (ds : List Declaration) → Enters s (entered_all text s ds)
  keeps_declarations s ds = keeps_fold (entered_declaration text) keeps_declaration s ds

  pub keeps_all : (s : Scope) (ds : List Declaration) → OnlyEnters s (entered_all text s ds)
  keeps_all s ds = (keeps_declarations s ds).only

  -- each slice type stood there before
  pub slices_before : (s : Scope) (ds : List Declaration) (i : ℕ) (e : TypeId) → Holds (entered_all text s ds).types i (Slice e) → Holds s.types i (Slice e)
  slices_before s ds = (keeps_declarations s ds).slices
