use Rattle.std.proofs.Common.{◌≡◌, ℕ, ◌+◌, ◌<◌, List, drop, length, get_or, sym, ap, ◌∙◌, arith}
use Rattle.base.specs.declared.value_type.ValueType.{ValueType}
use Rattle.base.specs.declared.value_type.ValueType.TheVariants.{Int}
use Rattle.typed_syntax.specs.Types.{width}
use Rattle.typed_syntax.specs.Syntax.{all_width}
use Rattle.typed.specs.Tables.{Table}
use Rattle.typed.specs.Trees.{tree_named}
use Rattle.type_faults.proofs.Lists.{from_there}
use Rattle.names.specs.Scope.{type_number, type_trees}
use Rattle.signatures.proofs.signatures.words_left.Goals as goal

-- the words from a type on are its own and those of the types after it
words_from : (T : Table) (ts : List ValueType) (k id words : ℕ) → k < length ts → id ≡ type_number T (get_or ts k Int) → words ≡ width (tree_named T id)
    → all_width (type_trees T (drop k ts)) ≡ words + all_width (type_trees T (drop (k + 1) ts))
words_from T ts k id words lt id_is words_are =
    ap (λ (l : List ValueType). all_width (type_trees T l)) (from_there ts k Int lt) ∙ ap (λ n. n + all_width (type_trees T (drop (k + 1) ts))) (sym (words_are ∙ ap (λ i. width (tree_named T i)) id_is))

pub returns-in_err-left : goal.returns-in_err-left
returns-in_err-left c =
    let T = c.args.types.now in
    let ts = c.args.value_types.now in
    let from = words_from T ts c.loop-value_type.value_type-index c.type_id.result.0 c.width-words.result c.loop-value_type-test.true c.type_id.ensures c.width-words.ensures in
    let more : c.args.room < all_width (type_trees T ts) = omega (arith, c.loop-value_type.invariant, from, c.in_err-left.ensures) in
    rw (c.from_residual.ensures) more

pub loop-value_type-preserved : goal.loop-value_type-preserved
loop-value_type-preserved c =
    let from = words_from c.args.types.now c.args.value_types.now c.loop-value_type.value_type-index c.type_id.result.0 c.width-words.result c.loop-value_type-test.true c.type_id.ensures c.width-words.ensures in
    omega (arith, c.loop-value_type.invariant, from, c.in_ok-left.ensures)
