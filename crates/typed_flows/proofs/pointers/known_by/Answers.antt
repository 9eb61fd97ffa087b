use Rattle.std.proofs.Common.{◌≡◌, [], Some, IfSome, rules, subst, sym}
use Rattle.std.specs.List.{list_any}
use Rattle.std.specs.Option.{unwrap_or}
use Rattle.base.specs.declared.value_type.ValueType.TheVariants.{Struct}
use Rattle.typed.specs.Trees.{tree_named}
use Rattle.typed_flows.specs.Pointers.{has_pointers}
use Rattle.typed_flows.specs.Known.{has_by}
use Rattle.typed_flows.proofs.pointers.known_by.Goals as goal

pub returns-in-Some : goal.returns-in-Some
returns-in-Some c =
    let T = c.args.table.now in
    let is : c.args.value_type ≡ Struct c.in-Struct.id = search rules in
    let given : IfSome c.any_known.result (λ b. b ≡ has_by T (Struct c.in-Struct.id)) = subst (λ o. IfSome c.any_known.result (λ b. b ≡ list_any (λ e. has_pointers (tree_named T e.0)) (unwrap_or o []))) c.in-Some.ensures c.any_known.ensures in
    subst (λ t. IfSome c.any_known.result (λ b. b ≡ has_by T t)) (sym is) given
