-- The fields in front are a part of all.
use Rattle.std.proofs.Common.{◌≡◌, ◌≤◌, take, sum_by, Some, is_some, sym, ap, subst, ◌∙◌}
use Rattle.base.specs.declared.value_type.ValueType.TheVariants.{Struct}
use Rattle.typed.specs.Words.{known}
use Rattle.typed.specs.Trees.{tree_of, offset_in}
use Rattle.typed.proofs.Limits.{within_some}
use Rattle.typed.proofs.Nested.{untold_tree}
use Rattle.typed.proofs.Offsets.{known_limit, front_is}
use Rattle.typed.proofs.table.TypeTable.field_offset.Goals as goal

pub sum_words-requires : goal.sum_words-requires
sum_words-requires c =
    let i = c.self.inside in
    λ k. subst (λ ws. known ws k ≤ 65535) (sym c.deref.ensures.value) (known_limit i.types.keys i.structs.items i.words.items c.self.invariant.0 c.self.invariant.1 k)

front : (c : goal.After-sum_words) → (sum_by (λ e. known c.deref.result.now e.0) (take c.min.result c.in-Some.fields.now) ≡ offset_in (tree_of c.args.self.now (Struct c.args.id)) c.args.index)
    × (sum_by (λ e. known c.deref.result.now e.0) (take c.min.result c.in-Some.fields.now) ≤ 65535)
front c =
    let i = c.self.inside in
    front_is i.types.keys i.structs.items i.words.items c.self.invariant.0 c.self.invariant.1 c.args.self.now c.self.view_is c.args.id c.in-Some.fields.now c.args.index c.min.result c.deref.result.now c.in-Some.ensures c.min.ensures c.deref.ensures.value

pub unwrap-requires : goal.unwrap-requires
unwrap-requires c = ap is_some (c.sum_words.ensures ∙ within_some _ (front c).1)

pub returns : goal.returns
returns c =
    let f = front c.before in
    let e : Some c.unwrap.result ≡ Some (sum_by (λ e. known c.deref.result.now e.0) (take c.min.result c.in-Some.fields.now)) = sym c.unwrap.ensures ∙ c.sum_words.ensures ∙ within_some _ f.1 in
    cc (e, f.0)

pub returns-in_default : goal.returns-in_default
returns-in_default c = sym (ap (λ o. offset_in o c.args.index) (untold_tree c.args.self.now c.args.id (sym c.in_default.ensures)))
