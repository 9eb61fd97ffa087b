-- Where every variable has a type and every function a signature, a `var` has its typed forms, or a rule fails in it, and never both.
use Rattle.std.proofs.Common.{◌≡◌, ℕ, Bool, true, false, cond, List, [], ◌∷◌, ◌⊎◌, inl, inr, map, Option, Some, None, refl, sym, ◌∙◌, subst}
use Rattle.std.specs.Prelude.{is_some}
use Rattle.std.specs.Option.{option_map}
use Rattle.std.proofs.lemmas.List.{length-map}
use Rattle.base.specs.declared.pos.Pos.{Pos}
use Rattle.syntax.specs.declared.expression.Name.{Name}
use Rattle.syntax.specs.Expressions.{Ex as TreeEx}
use Rattle.syntax.specs.Statements.{ValueSpec}
use Rattle.typed_syntax.specs.Syntax.{Exs, Left, St, Sts, declare, next}
use Rattle.type_faults.specs.declared.fault.Fault.{Fault}
use Rattle.type_faults.specs.declared.fault.FaultKind.TheVariants.{WrongCount}
use Rattle.base.specs.declared.value_type.ValueType.{ValueType}
use Rattle.type_faults.specs.Given.{allowed}
use Rattle.type_faults.specs.Faults.{fault}
use Rattle.type_faults.proofs.Decided.{Decided, Tested, further, mapped, after}
use Rattle.type_faults.proofs.Options.{and_then_some, map_some}
use Rattle.names.specs.Scope.{Scope}
use Rattle.names.proofs.Settled.{IsSettled}
use Rattle.given_values.specs.Given.{taken}
use Rattle.expression_types.specs.Typing.{declared_wanted, spec_wanted, stated_type, seen}
use Rattle.expression_types.specs.Faults.{FailsInEach, FailsBefore}
use Rattle.given_values.proofs.DecidedValues.{take_decided}
use Rattle.expression_types.proofs.Settled.{seen_decided, stated_decided}
use Rattle.given_values.proofs.Places.{AllAsk}
use Rattle.expression_types.proofs.Places.{spec_asks}
use Rattle.signatures.specs.declared.entries.Role.TheVariants.{Parameter}
use Rattle.signatures.specs.Entries.{sites_of, entry_left, slot_with, slots_each}
use Rattle.signatures.specs.EntryFaults.{EntriesFail}
use Rattle.signatures.proofs.SettledEntries.{some_tested, settled_entries, AllTyped, with_typed, each_typed, entries_decided}
use Rattle.simple_statements.specs.SimpleStatements.{assignment, is_bare, spec_slots_of, spec_slots, behind_spec, spec_entries, is_known, spec_declared, spec_assigned, spec_statement, spec_statements, behind_specs, taken_types}
use Rattle.simple_statements.specs.SimpleFaults.{SpecTakeFails, SpecValuesFail, FailsInSpec, FailsInSpecs}
use Rattle.simple_statements.proofs.SettledValues.{allowed_is, taken_types_are}
use Rattle.simple_statements.proofs.SettledSimple.{assignment_some}

module _ (text : List ℕ) where
  known_tested : (s : Scope) (o : Option TreeEx) → IsSettled s → Tested (is_known text s o) (FailsBefore text s o)
  known_tested s None settled = λ f h. h
  known_tested s (Some e) settled = some_tested (stated_type text s e) (FailsBefore text s (Some e)) (stated_decided text s settled e)

  taking_decided : (es : Option (List Left)) (v : Option Exs) (V E : Fault → Type 0) → Decided v V → Decided es E → Decided (assignment es v) (λ f. V f ⊎ E f)
  taking_decided None None V E p q = (p.0, inl p.1)
  taking_decided None (Some v) V E p q = (q.0, inr q.1)
  taking_decided (Some l) None V E p q = (p.0, inl p.1)
  taking_decided (Some l) (Some v) V E p q = λ f h. elim h [ inl k ↦ p f k | inr k ↦ q f k ]

  -- a test of what stands before, and what is decided where it holds
  where_known : {A : Type 0} (P Q : Fault → Type 0) (b : Bool) (o : Option A) → Tested b P → (b ≡ true → Decided o Q) → Decided (allowed b o) (λ f. P f ⊎ Q f)
  where_known P Q false o t d = (t.0, inl t.1)
  where_known P Q true o t d = further P Q o t (d refl)

  -- where the type that stands there is known, so is what the names ask for
  names_ask : (s : Scope) (v : ValueSpec) → is_known text s v.type_expr ≡ true → AllAsk (spec_wanted text s v)
  names_ask s v known = spec_asks text s v.type_expr v.names (λ e e_is. subst (λ (o : Option TreeEx). is_known text s o ≡ true) e_is known)

  names_decided : (s : Scope) (at : Pos) (v : ValueSpec) → IsSettled s → is_known text s v.type_expr ≡ true → (b : Bool)
      → Decided (cond b (spec_declared text s v) (spec_assigned text s v)) (λ f. SpecValuesFail text b s at v f ⊎ EntriesFail text Parameter s (spec_slots text s v) f)
  names_decided s at v settled known true =
      further (λ f. ⊥) (EntriesFail text Parameter s (spec_slots text s v)) (spec_declared text s v) (λ f h. h)
      (mapped (λ es. declare (sites_of es)) (spec_entries text s v) (EntriesFail text Parameter s (spec_slots text s v)) (entries_decided text Parameter s (spec_slots text s v)))
  names_decided s at v settled known false =
      taking_decided (option_map (map entry_left) (spec_entries text s v)) (taken (spec_wanted text s v) (seen text s v.values)) (SpecTakeFails text s at v) (EntriesFail text Parameter s (spec_slots text s v))
      (take_decided (seen text s v.values) (FailsInEach text s v.values) (seen_decided text s settled v.values) (fault WrongCount at) (spec_wanted text s v) (names_ask s v known))
      (mapped (map entry_left) (spec_entries text s v) (EntriesFail text Parameter s (spec_slots text s v)) (entries_decided text Parameter s (spec_slots text s v)))

  spec_decided : (s : Scope) (at : Pos) (v : ValueSpec) → IsSettled s → Decided (spec_statement text s v) (FailsInSpec text s at v)
  spec_decided s at v settled =
      where_known (FailsBefore text s v.type_expr) (λ f. SpecValuesFail text (is_bare v.type_expr v.values) s at v f ⊎ EntriesFail text Parameter s (spec_slots text s v) f) (is_known text s v.type_expr)
      (cond (is_bare v.type_expr v.values) (spec_declared text s v) (spec_assigned text s v)) (known_tested s v.type_expr settled) (λ known. names_decided s at v settled known (is_bare v.type_expr v.values))

  -- where a declaration is typed, so are its names
  names_typed : (s : Scope) (v : ValueSpec) (t : St) (o : Option TreeEx) → v.type_expr ≡ o → is_known text s o ≡ true → cond (is_bare o v.values) (spec_declared text s v) (spec_assigned text s v) ≡ Some t → AllTyped (spec_slots text s v)
  names_typed s v t (Some e) o_is known is = by (stated_type text s e) refl known
    where
      by : (u : Option ValueType) → stated_type text s e ≡ u → is_some u ≡ true → AllTyped (spec_slots text s v)
      by None u_is known1 = cc known1
      by (Some u) u_is known1 =
          subst (λ (o : Option TreeEx). AllTyped (spec_slots_of text s o (taken_types (spec_wanted text s v) (seen text s v.values)) v.names)) (sym o_is)
          (subst (λ (w : Option ValueType). AllTyped (map (slot_with w) v.names)) (sym u_is) (with_typed u v.names))
  names_typed s v t None o_is known is =
      let a = assignment_some (option_map (map entry_left) (spec_entries text s v)) (taken (spec_wanted text s v) (seen text s v.values)) t is in
      let types = taken_types_are (spec_wanted text s v) (seen text s v.values) a.1 a.3 in
      subst (λ (o : Option TreeEx). AllTyped (spec_slots_of text s o (taken_types (spec_wanted text s v) (seen text s v.values)) v.names)) (sym o_is)
      (subst (λ (w : Option (List ValueType)). AllTyped (slots_each w v.names)) (sym types.1) (each_typed types.0 v.names (types.2 ∙ length-map v.names (λ (n : Name). declared_wanted text s v.type_expr))))

  settled_spec : (s : Scope) (v : ValueSpec) (t : St) → IsSettled s → spec_statement text s v ≡ Some t → IsSettled (behind_spec text s v)
  settled_spec s v t settled is =
      let a = allowed_is (is_known text s v.type_expr) (cond (is_bare v.type_expr v.values) (spec_declared text s v) (spec_assigned text s v)) t is in
      settled_entries text s (spec_slots text s v) (names_typed s v t v.type_expr refl a.0 a.1) settled

  pub specs_decided : (s : Scope) (at : Pos) (vs : List ValueSpec) → IsSettled s → Decided (spec_statements text s vs) (FailsInSpecs text s at vs)
  specs_decided s at [] settled = λ f h. h
  specs_decided s at (v ∷ vs) settled =
      after (spec_statement text s v) (λ t. option_map (next t) (spec_statements text (behind_spec text s v) vs)) (FailsInSpec text s at v) (FailsInSpecs text (behind_spec text s v) at vs) (spec_decided s at v settled)
      (λ t is. mapped (next t) (spec_statements text (behind_spec text s v) vs) (FailsInSpecs text (behind_spec text s v) at vs) (specs_decided (behind_spec text s v) at vs (settled_spec s v t settled is)))

  pub settled_specs : (s : Scope) (vs : List ValueSpec) (b : Sts) → IsSettled s → spec_statements text s vs ≡ Some b → IsSettled (behind_specs text s vs)
  settled_specs s [] b settled is = settled
  settled_specs s (v ∷ vs) b settled is =
      let q = and_then_some (λ t. option_map (next t) (spec_statements text (behind_spec text s v) vs)) (spec_statement text s v) b is in
      let p = map_some (next q.0) (spec_statements text (behind_spec text s v) vs) b q.2 in
      settled_specs (behind_spec text s v) vs p.0 (settled_spec s v q.0 settled q.1) p.1
