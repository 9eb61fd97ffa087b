-- What a simple statement and a `var` keep of a scope.
use Rattle.std.proofs.Common.{ℕ, List, [], ◌∷◌, Option, Some, None}
use Rattle.syntax.specs.declared.expression.Name.{Name}
use Rattle.syntax.specs.Expressions.{spelled}
use Rattle.syntax.specs.Statements.{Simple, ValueSpec}
use Rattle.syntax.specs.Statements as tree
use Rattle.base.specs.declared.value_type.ValueType.{ValueType}
use Rattle.names.specs.Scope.{Scope}
use Rattle.expression_types.specs.Typing.{gives}
use Rattle.signatures.specs.declared.slots.Slot.{Slot}
use Rattle.signatures.specs.Entries.{slots_each}
use Rattle.signatures.proofs.Growth.{Grows, grows_none, grows_twice, grows_strings, grows_variable, grows_entries}
use Rattle.simple_statements.specs.SimpleStatements.{new_slots, definition_types, with_slot, with_variables, strings_in, spec_slots, behind_spec, behind_specs, behind_simple}

module _ (text : List ℕ) where
  grows_slot : (t : Option ValueType) (s : Scope) (n : Option Name) → Grows s (with_slot text t s n)
  grows_slot t s None = grows_none s
  grows_slot t s (Some n) = grows_variable t s (spelled text n) n.pos

  pub grows_variables : (s : Scope) (vs : List Slot) → Grows s (with_variables text s vs)
  grows_variables s [] = grows_none s
  grows_variables s (v ∷ vs) =
      let s1 = with_slot text v.value_type s v.name in
      grows_twice s s1 (with_variables text s1 vs) (grows_slot v.value_type s v.name) (grows_variables s1 vs)

  pub grows_simple : (s : Scope) (m : Simple) → Grows s (behind_simple text s m)
  grows_simple s (tree.express e) = grows_strings s (strings_in (gives text s e))
  grows_simple s (tree.assign ls at es) = grows_none s
  grows_simple s (tree.update ls at op es) = grows_none s
  grows_simple s (tree.define ns at es) = grows_variables s (new_slots text s (slots_each (definition_types text s ns es) ns))
  grows_simple s (tree.increment e at) = grows_none s
  grows_simple s (tree.decrement e at) = grows_none s

  pub grows_specs : (s : Scope) (vs : List ValueSpec) → Grows s (behind_specs text s vs)
  grows_specs s [] = grows_none s
  grows_specs s (v ∷ vs) = grows_twice s (behind_spec text s v) (behind_specs text (behind_spec text s v) vs) (grows_entries text s (spec_slots text s v)) (grows_specs (behind_spec text s v) vs)
