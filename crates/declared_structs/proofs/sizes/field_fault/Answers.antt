use Rattle.std.proofs.Common.{◌≡◌, ◌==◌, ℕ, Bool, false, List, [], ◌∷◌, Option, length, ap, ◌∙◌, subst}
use Rattle.syntax.specs.declared.expression.Name.{Name}
use Rattle.syntax.specs.Declarations.{field_of}
use Rattle.type_faults.specs.declared.fault.Fault.{Fault}
use Rattle.type_faults.specs.Least.{IsLeast}
use Rattle.struct_sizes.specs.Structs.{Prefixed}
use Rattle.names.specs.Scope.{scope_of}
use Rattle.declared_structs.specs.Forms.{prefixed}
use Rattle.declared_structs.specs.Faults.{WhereNamed, LevelFails}
use Rattle.declared_structs.proofs.sizes.field_fault.Goals as goal

-- where there are names, what fails there is what fails
named_least : (P : Fault → Type 0) (r : Option Fault) (ns : List Name) (b : Bool) → b ≡ (length ns == 0) → b ≡ false → IsLeast P r → IsLeast (WhereNamed ns P) r
named_least P r [] b is none least = absurd cc (is, none)
named_least P r (n ∷ ns) b is none least = least

pub returns : goal.returns
returns c =
    let x = field_of c.args.field.now in
    let t = prefixed c.args.text.now (scope_of c.args.scope.now) x.type_expr in
    let words = c.args.words.now in
    let own : IsLeast (LevelFails words x.type_expr t) c.array_fault.result =
    subst (λ (o : Option Prefixed). IsLeast (LevelFails words x.type_expr o) c.array_fault.result) c.in_ok-value_type.ensures c.array_fault.ensures in
    named_least (LevelFails words x.type_expr t) c.array_fault.result x.names c.is_empty.result (c.is_empty.ensures ∙ ap (λ (n : ℕ). n == 0) c.args.field.now.names.ok.0) c.if-is_empty.false own
