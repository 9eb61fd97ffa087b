use Rattle.std.proofs.Common.{◌≡◌, [], ◌∷◌, List, ◌⊎◌, ap, ◌∙◌, subst}
use Rattle.std.specs.Prelude.{codes}
use Rattle.std.specs.Str.{bytes_eq}
use Rattle.syntax.specs.declared.expression.Name.{Name}
use Rattle.syntax.specs.declared.declaration.Field.{Field}
use Rattle.syntax.specs.Expressions.{spelled}
use Rattle.syntax.specs.Declarations.{fields_of, type_spec_of}
use Rattle.type_faults.specs.Least.{IsLeast}
use Rattle.type_faults.specs.Faults.{IsFault}
use Rattle.type_faults.proofs.Leasts.{least_join, leaf}
use Rattle.names.specs.Universe.{is_blank}
use Rattle.names.specs.Scope.{scope_of, declaration}
use Rattle.declared_structs.specs.Faults.{struct_name_fault, FieldNamesFail, field_names, FieldTypesFail}
use Rattle.declared_structs.proofs.rules.struct_fault.Goals as goal

pub returns : goal.returns
returns c =
    let text = c.args.text.now in
    let s = scope_of c.args.scope.now in
    let t = type_spec_of c.args.spec.now in
    let named = FieldNamesFail text ([] ∷ []) (field_names t.fields) in
    let typed = FieldTypesFail text s t.fields in
    let own = struct_name_fault c.args.number (is_blank (spelled text t.name)) (bytes_eq (spelled text t.name) (codes "init")) (declaration s (spelled text t.name)) t.name.pos in
    let names : c.deref-2.result.now ≡ field_names t.fields = c.deref-2.ensures.value ∙ c.in_ok-names.ensures ∙ ap (λ (l : List Field). field_names (fields_of l)) c.deref.ensures.value in
    let first : IsLeast named c.in_ok-named.named = subst (λ (l : List Name). IsLeast (FieldNamesFail text ([] ∷ []) l) c.in_ok-named.named) names c.in_ok-named.ensures in
    let second : IsLeast typed c.in_ok-typed.typed = subst (λ (l : List Field). IsLeast (FieldTypesFail text s (fields_of l)) c.in_ok-typed.typed) c.deref-3.ensures.value c.in_ok-typed.ensures in
    rw (c.lesser-2.ensures, c.lesser.ensures, c.name_fault-own.ensures)
    (least_join (IsFault own) (λ f. named f ⊎ typed f) _ _ (leaf own) (least_join named typed c.in_ok-named.named c.in_ok-typed.typed first second))
