-- What lies in memory of a statement that is being checked, as what the specifications speak of.
use Rattle.std.specs.Prelude.{List, ◌++◌, Option, Some, None}
use Rattle.std.specs.Option.{option_map}
use Rattle.typed.specs.View.{ex_of, left_of, test_of, st_of, sts_of}
use Rattle.types_go.specs.declared.heads.Choice.{Choice as ChoiceData}
use Rattle.types_go.specs.declared.heads.Head.{Head as HeadData}
use Rattle.types_go.specs.declared.heads.Head.TheVariants.{ForClause, RangeClause}
use Rattle.typed_syntax.specs.Syntax.{blank, over_int, over_length, over_copy}
use Rattle.types_go.specs.declared.ranges.Ranged.{Ranged as RangedData}
use Rattle.types_go.specs.declared.ranges.Ranged.TheVariants.{Numbers, Elements as ArrayElements}
use Rattle.types_go.specs.declared.ranges.Sides.{Sides as SidesData}
use Rattle.types_go.specs.declared.ranges.Range.{Range as RangeData}
use Rattle.types_go.specs.declared.ranges.Range.TheVariants.{Count, Indices, Elements}
use Rattle.types_go.specs.Ranges.{Ranged, numbers, array, Sides, Range}
use Rattle.types_go.specs.Statements.{Choice, Head, for_clause, range_clause}

-- what a `range` goes over
abbrev pub ranged_view : RangedData → Ranged
ranged_view Numbers = numbers
ranged_view (ArrayElements t n e) = array t (record { length = n; element = e })

abbrev pub sides_view : SidesData → Sides
sides_view q = record { key = left_of q.key; value = left_of q.value }

abbrev pub range_view : RangeData → Range
range_view (Count e key) = record { over = over_int (ex_of e); key = left_of key; value = blank }
range_view (Indices n key) = record { over = over_length n; key = left_of key; value = blank }
range_view (Elements site e n key value) = record { over = over_copy site.0 (ex_of e) n; key = left_of key; value = left_of value }

-- headers
abbrev pub choice_view : ChoiceData → Choice
choice_view h = record { init = option_map st_of h.init; condition = ex_of h.condition }

abbrev pub head_view : HeadData → Head
head_view (ForClause init test post) = for_clause (option_map st_of init) (test_of test) (sts_of post.items)
head_view (RangeClause r) = range_clause (range_view r)

-- more of some, where all are there
abbrev pub with_more : {A : Type 0} → Option (List A) → Option (List A) → Option (List A)
with_more (Some xs) (Some ys) = Some (xs ++ ys)
with_more (Some xs) None = None
with_more None ys = None
