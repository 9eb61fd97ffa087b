use Rattle.std.proofs.Common.{drop, map}
use Rattle.struct_sizes.specs.Structs.{field_of}
use Rattle.struct_sizes.specs.Words.{added, sum_words}
use Rattle.struct_sizes.specs.Kept.{Agree}
use Rattle.struct_sizes.proofs.words.sum_words.Given as goal

abbrev pub invariant-loop-field : goal.invariant-loop-field
invariant-loop-field l = Agree (added l.sum (sum_words l.table (map field_of (drop l.field-index l.fields)))) (sum_words l.table (map field_of l.fields))
