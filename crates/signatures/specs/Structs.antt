-- The fields of a struct by their names (Go specification, "Struct types").
use Rattle.std.specs.Prelude.{ℕ, ◌||◌, List, [], ◌∷◌, is_some, if◌then◌else◌}
use Rattle.syntax.specs.declared.expression.Name.{Name}
use Rattle.syntax.specs.Expressions.{spelled}
use Rattle.syntax.specs.Declarations.{Field}
use Rattle.names.specs.Universe.{is_blank}
use Rattle.names.specs.Blocks.{Blocks, innermost, count, insert}

module _ (text : List ℕ) where
  -- one more field, with the next number; a blank one is not noted, and the first one of a name stays
  abbrev pub with_field_name : Blocks → Name → Blocks
  with_field_name b n = if is_blank (spelled text n) || is_some (innermost b (spelled text n)) then b else insert b (spelled text n) (count b)

  abbrev pub with_field_names : Blocks → List Name → Blocks
  with_field_names b [] = b
  with_field_names b (n ∷ ns) = with_field_names (with_field_name b n) ns

  abbrev pub with_fields : Blocks → List Field → Blocks
  with_fields b [] = b
  with_fields b (f ∷ fs) = with_fields (with_field_names b f.names) fs

  abbrev pub fields_of_struct : List Field → Blocks
  fields_of_struct fs = with_fields ([] ∷ []) fs
