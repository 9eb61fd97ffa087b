use Rattle.std.proofs.Common.{◌≡◌, ◌∷◌, ◌+◌, ◌++◌, List, Option, drop, get_or, map, sym, ap, ◌∙◌}
use Rattle.std.specs.Option.{option_map}
use Rattle.syntax.specs.declared.expression.Name.{Name}
use Rattle.type_faults.proofs.Lists.{from_there}
use Rattle.names.proofs.Places.{no_name}
use Rattle.struct_sizes.specs.declared.forms.PrefixedType.{PrefixedType}
use Rattle.struct_sizes.specs.Structs.{Prefixed, prefixed_of}
use Rattle.declared_structs.specs.Passing.{views}
use Rattle.declared_structs.proofs.Lists.{one_more}
use Rattle.declared_structs.proofs.forms.add_each.Goals as goal

pub loop-preserved : goal.loop-preserved
loop-preserved c =
    let xs = c.args.names.now in
    let k = c.loop.index in
    let n : Name = get_or xs k no_name in
    let own : Option Prefixed = option_map prefixed_of c.args.value_type.now in
    let more : Option PrefixedType = c.in_ok-copied.field-0 in
    let so_far = c.loop.fields.items in
    let here : drop k xs ≡ n ∷ drop (k + 1) xs = from_there xs k no_name c.loop-test.true in
    let rest = map (λ (m : Name). own) (drop (k + 1) xs) in
    rw (c.in_ok-push.ensures.items)
    (c.loop.invariant ∙ ap (λ (l : List Name). views so_far ++ map (λ (m : Name). own) l) here
    ∙ ap (λ (o : Option Prefixed). views so_far ++ o ∷ rest) (sym c.in_ok-copied.ensures) ∙ one_more (option_map prefixed_of) so_far more rest)
