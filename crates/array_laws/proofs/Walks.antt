-- The walk over a text in which array types enter a scope. What holds of one of them where it has entered, and stays so as others
-- enter, holds of each that stands in the text.
use Rattle.std.proofs.Common.{◌≡◌, ◌⊎◌, inl, inr, ℕ, List, [], ◌∷◌, Option, Some, None, subst}
use Rattle.std.specs.Prelude.{fold}
use Rattle.base.specs.declared.pos.Pos.{Pos}
use Rattle.syntax.specs.Expressions.{Ex as TreeEx, Exs as TreeExs, Bound as TreeBound, Elements as TreeElements, number, string, name, unary, binary, paren, call, selector, index, slice, array_type, slice_type, literal, elements, none, some, no_bound, bound_at, no_elements, element}
use Rattle.syntax.specs.Statements.{Simple, express, assign, update, define, increment, decrement, ValueSpec, Guard, Targets, no_targets, targets_assigned, targets_defined, Clause, forever, while_true, counting, ranging, Stm, Stms, Els, var_stmt, simple, block, if_stmt, for_stmt, break_stmt, continue_stmt, return_stmt, nil, cons, no_else, else_block, else_if}
use Rattle.syntax.specs.Declarations.{Field, Parameters, unnamed, named, TypeSpec, Body, Function, Declaration, constants, variables, types, function}
use Rattle.names.specs.Scope.{Scope}
use Rattle.entered_types.specs.Entered.{length_in, entered, stated_after, entered_each, entered_bound, entered_elements, entered_some, entered_spec, entered_specs, entered_simple, entered_simple_in, entered_guard, entered_targets, entered_clause, entered_statement, entered_else, entered_statements, entered_field, entered_fields, entered_parameters, entered_type_spec, entered_body, entered_function, entered_declaration, entered_all}
use Rattle.array_laws.specs.Occurs.{InOne, InSome, StandsIn, StandsInEach, StandsInBound, StandsInElements, StandsInSpec, StandsInSpecs, StandsInSimple, StandsInGuard, StandsInTargets, StandsInClause, StandsInStatement, StandsInElse, StandsInStatements, StandsInField, StandsInFields, StandsInParameters, StandsInTypeSpec, StandsInBody, StandsInFunction, StandsInDeclaration, StandsInAll}
use Rattle.array_laws.proofs.Growth.{Leads, same_scope, onwards, array_leads}

-- a part of the walk, from one scope to another: what is sought holds where it stands in that part, if the part lies in the walk
-- from the first scope to the last
pub record Walk (first last : Scope) (Sought : Type 0) (s t : Scope) (Stands : Type 0) : Type 0 where
  pub leads : Leads s t
  pub found : Stands → Leads first s → Leads t last → Sought

module _ (text : List ℕ) (first last : Scope) (len e : TreeEx) (Sought : Type 0)
    (here : (s : Scope) (at : Pos) → Leads first s → Leads (entered text s (array_type at len e)) last → Sought) where
  abbrev Part : Scope → Scope → Type 0 → Type 0
  Part s t Stands = Walk first last Sought s t Stands

  still : (s : Scope) → Part s s ⊥
  still s = record { leads = same_scope s; found = λ o before behind. absurd o }

  both : (s t u : Scope) (A B : Type 0) → Part s t A → Part t u B → Part s u (A ⊎ B)
  both s t u A B a b = record {
    leads = onwards s t u a.leads b.leads;
    found = λ o before behind. elim o [
      | inl x ↦ a.found x before (onwards t u last b.leads behind)
      | inr y ↦ b.found y (onwards first s t before a.leads) behind
    ];
  }

  each : {X : Type 0} (f : Scope → X → Scope) (P : X → Type 0) → ((s : Scope) (x : X) → Part s (f s x) (P x))
      → (s : Scope) (xs : List X) → Part s (fold f s xs) (InOne P xs)
  each f P one s [] = still s
  each f P one s (x ∷ xs) = both s (f s x) _ (P x) _ (one s x) (each f P one (f s x) xs)

  -- ---- expressions and types

  -- an array type, where its parts have been walked
  array_walk : (s u : Scope) (at : Pos) (l x : TreeEx) (A : Type 0) → Part s u A → Leads u (entered text s (array_type at l x))
      → Part s (entered text s (array_type at l x)) (((l ≡ len) × (x ≡ e)) ⊎ A)
  array_walk s u at l x A parts last_step = record {
    leads = onwards s u (entered text s (array_type at l x)) parts.leads last_step;
    found = λ o before behind. elim o [
      | inl is ↦ here s at before
          (subst (λ (k : TreeEx). Leads (entered text s (array_type at k e)) last) is.0
          (subst (λ (y : TreeEx). Leads (entered text s (array_type at l y)) last) is.1 behind))
      | inr a ↦ parts.found a before (onwards u (entered text s (array_type at l x)) last last_step behind)
    ];
  }

  mutual
    pub walk_ex : (s : Scope) (x : TreeEx) → Part s (entered text s x) (StandsIn len e x)
    walk_ex s (number at n) = still s
    walk_ex s (string at behind) = still s
    walk_ex s (name n) = still s
    walk_ex s (unary at op x) = walk_ex s x
    walk_ex s (binary at op a b) = both s (entered text s a) _ _ _ (walk_ex s a) (walk_ex (entered text s a) b)
    walk_ex s (paren at x) = walk_ex s x
    walk_ex s (call f xs spread) = both s (entered text s f) _ _ _ (walk_ex s f) (walk_each (entered text s f) xs)
    walk_ex s (selector x at n) = walk_ex s x
    walk_ex s (index x at i) = both s (entered text s x) _ _ _ (walk_ex s x) (walk_ex (entered text s x) i)
    walk_ex s (slice x at low high) =
        let r = entered text s x in
        let u = entered_bound text r low in
        both s r _ _ _ (walk_ex s x) (both r u _ _ _ (walk_bound r low) (walk_bound u high))
    walk_ex s (array_type at l x) =
        let r = entered text s l in
        let u = entered text r x in
        array_walk s u at l x _ (both s r u _ _ (walk_ex s l) (walk_ex r x))
        (array_leads u (length_in text r l) (stated_after text r x))
    walk_ex s (slice_type at x) = walk_ex s x
    walk_ex s (literal x xs) = both s (entered text s x) _ _ _ (walk_ex s x) (walk_elements (entered text s x) xs)
    walk_ex s (elements at xs) = walk_elements s xs

    walk_each : (s : Scope) (xs : TreeExs) → Part s (entered_each text s xs) (StandsInEach len e xs)
    walk_each s none = still s
    walk_each s (some x xs) = both s (entered text s x) _ _ _ (walk_ex s x) (walk_each (entered text s x) xs)

    walk_bound : (s : Scope) (b : TreeBound) → Part s (entered_bound text s b) (StandsInBound len e b)
    walk_bound s no_bound = still s
    walk_bound s (bound_at x) = walk_ex s x

    walk_elements : (s : Scope) (xs : TreeElements) → Part s (entered_elements text s xs) (StandsInElements len e xs)
    walk_elements s no_elements = still s
    walk_elements s (element key x xs) = both s (entered text s x) _ _ _ (walk_ex s x) (walk_elements (entered text s x) xs)

  walk_some : (s : Scope) (o : Option TreeEx) → Part s (entered_some text s o) (InSome (StandsIn len e) o)
  walk_some s None = still s
  walk_some s (Some x) = walk_ex s x

  -- ---- statements

  walk_spec : (s : Scope) (v : ValueSpec) → Part s (entered_spec text s v) (StandsInSpec len e v)
  walk_spec s v =
      let r = entered_some text s v.type_expr in both s r _ _ _ (walk_some s v.type_expr) (walk_each r v.values)

  walk_specs : (s : Scope) (vs : List ValueSpec) → Part s (entered_specs text s vs) (StandsInSpecs len e vs)
  walk_specs s vs = each (entered_spec text) (StandsInSpec len e) walk_spec s vs

  walk_simple : (s : Scope) (m : Simple) → Part s (entered_simple text s m) (StandsInSimple len e m)
  walk_simple s (express x) = walk_ex s x
  walk_simple s (assign places at xs) =
      let r = entered_each text s places in both s r _ _ _ (walk_each s places) (walk_each r xs)
  walk_simple s (update places at op xs) =
      let r = entered_each text s places in both s r _ _ _ (walk_each s places) (walk_each r xs)
  walk_simple s (define ns at xs) = walk_each s xs
  walk_simple s (increment x at) = walk_ex s x
  walk_simple s (decrement x at) = walk_ex s x

  walk_simple_in : (s : Scope) (o : Option Simple) → Part s (entered_simple_in text s o) (InSome (StandsInSimple len e) o)
  walk_simple_in s None = still s
  walk_simple_in s (Some m) = walk_simple s m

  walk_guard : (s : Scope) (g : Guard) → Part s (entered_guard text s g) (StandsInGuard len e g)
  walk_guard s g =
      let r = entered_simple_in text s g.init in both s r _ _ _ (walk_simple_in s g.init) (walk_ex r g.condition)

  walk_targets : (s : Scope) (ts : Targets) → Part s (entered_targets text s ts) (StandsInTargets len e ts)
  walk_targets s no_targets = still s
  walk_targets s (targets_assigned xs at) = walk_each s xs
  walk_targets s (targets_defined ns at) = still s

  walk_clause : (s : Scope) (c : Clause) → Part s (entered_clause text s c) (StandsInClause len e c)
  walk_clause s forever = still s
  walk_clause s (while_true x) = walk_ex s x
  walk_clause s (counting before x behind) =
      let r = entered_simple_in text s before in
      let u = entered_some text r x in
      both s r _ _ _ (walk_simple_in s before) (both r u _ _ _ (walk_some r x) (walk_simple_in u behind))
  walk_clause s (ranging ts at x) =
      let r = entered_targets text s ts in both s r _ _ _ (walk_targets s ts) (walk_ex r x)

  mutual
    walk_statement : (s : Scope) (m : Stm) → Part s (entered_statement text s m) (StandsInStatement len e m)
    walk_statement s (var_stmt at vs) = walk_specs s vs
    walk_statement s (simple m) = walk_simple s m
    walk_statement s (block ms) = walk_statements s ms
    walk_statement s (if_stmt at g ms rest) =
        let r = entered_guard text s g in
        let u = entered_statements text r ms in
        both s r _ _ _ (walk_guard s g) (both r u _ _ _ (walk_statements r ms) (walk_else u rest))
    walk_statement s (for_stmt at c ms) =
        let r = entered_clause text s c in both s r _ _ _ (walk_clause s c) (walk_statements r ms)
    walk_statement s (break_stmt at) = still s
    walk_statement s (continue_stmt at) = still s
    walk_statement s (return_stmt at xs) = walk_each s xs

    walk_else : (s : Scope) (rest : Els) → Part s (entered_else text s rest) (StandsInElse len e rest)
    walk_else s no_else = still s
    walk_else s (else_block ms) = walk_statements s ms
    walk_else s (else_if at g ms rest) =
        let r = entered_guard text s g in
        let u = entered_statements text r ms in
        both s r _ _ _ (walk_guard s g) (both r u _ _ _ (walk_statements r ms) (walk_else u rest))

    walk_statements : (s : Scope) (ms : Stms) → Part s (entered_statements text s ms) (StandsInStatements len e ms)
    walk_statements s nil = still s
    walk_statements s (cons m ms) =
        let r = entered_statement text s m in both s r _ _ _ (walk_statement s m) (walk_statements r ms)

  -- ---- declarations

  walk_field : (s : Scope) (f : Field) → Part s (entered_field text s f) (StandsInField len e f)
  walk_field s f = walk_ex s f.type_expr

  walk_fields : (s : Scope) (fs : List Field) → Part s (entered_fields text s fs) (StandsInFields len e fs)
  walk_fields s fs = each (entered_field text) (StandsInField len e) walk_field s fs

  walk_parameters : (s : Scope) (p : Parameters) → Part s (entered_parameters text s p) (StandsInParameters len e p)
  walk_parameters s (unnamed xs) = walk_each s xs
  walk_parameters s (named fs) = walk_fields s fs

  walk_type_spec : (s : Scope) (t : TypeSpec) → Part s (entered_type_spec text s t) (StandsInTypeSpec len e t)
  walk_type_spec s t = walk_fields s t.fields

  walk_body : (s : Scope) (o : Option Body) → Part s (entered_body text s o) (InSome (StandsInBody len e) o)
  walk_body s None = still s
  walk_body s (Some b) = walk_statements s b.statements

  walk_function : (s : Scope) (f : Function) → Part s (entered_function text s f) (StandsInFunction len e f)
  walk_function s f =
      let r = entered_parameters text s f.params in
      let u = entered_parameters text r f.results in
      both s r _ _ _ (walk_parameters s f.params) (both r u _ _ _ (walk_parameters r f.results) (walk_body u f.body))

  walk_declaration : (s : Scope) (d : Declaration) → Part s (entered_declaration text s d) (StandsInDeclaration len e d)
  walk_declaration s (constants at vs) = walk_specs s vs
  walk_declaration s (variables at vs) = walk_specs s vs
  walk_declaration s (types at ts) = each (entered_type_spec text) (StandsInTypeSpec len e) walk_type_spec s ts
  walk_declaration s (function f) = walk_function s f

  pub walk_all : (s : Scope) (ds : List Declaration) → Part s (entered_all text s ds) (StandsInAll len e ds)
  walk_all s ds = each (entered_declaration text) (StandsInDeclaration len e) walk_declaration s ds

-- an expression, of no matter
zero_ex : TreeEx
zero_ex = number (record { offset = 0; line = 0; col = 0 }) 0

module _ (text : List ℕ) (s : Scope) where
  -- what enters, whatever is sought
  pub leads_ex : (x : TreeEx) → Leads s (entered text s x)
  leads_ex x = (walk_ex text s s zero_ex zero_ex (Unit {0}) (λ q at before behind. tt) s x).leads

  pub leads_all : (ds : List Declaration) → Leads s (entered_all text s ds)
  leads_all ds = (walk_all text s s zero_ex zero_ex (Unit {0}) (λ q at before behind. tt) s ds).leads
