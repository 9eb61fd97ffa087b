use Rattle.std.proofs.Common.{◌≡◌, ◌+◌, drop, map}
use Rattle.typed.specs.Trees.{trees}
use Rattle.typed_syntax.specs.Syntax.{all_width, type_in}
use Rattle.frame_layout.proofs.words.all_words.Given as goal

abbrev pub invariant-loop-type_id : goal.invariant-loop-type_id
invariant-loop-type_id l = l.words + all_width (map (λ t. type_in (trees l.program.types) t.0) (drop l.type_id-index l.types)) ≡ all_width (map (λ t. type_in (trees l.program.types) t.0) l.types)
