use Rattle.std.proofs.Common.{◌≡◌, map, take, drop}
use Rattle.std.specs.List.{fold}
use Rattle.struct_sizes.specs.Structs.{field_of}
use Rattle.typed.specs.Formed.{IsFormed}
use Rattle.type_tables.specs.Told.{with_field}
use Rattle.type_tables.specs.Types.{AreNumbersOf}
use Rattle.type_tables.specs.Fits.{IsUntold}
use Rattle.type_tables.proofs.entering.enter_fields.Given as goal

abbrev pub invariant-loop-field : goal.invariant-loop-field
invariant-loop-field l = record {
  is : fold with_field l.table (drop l.field-index (map field_of l.fields)) ≡ fold with_field l.fn.table (map field_of l.fields);
  numbers : AreNumbersOf l.table (take l.field-index (map field_of l.fields)) l.ids.items;
  formed : IsFormed l.table;
  untold : IsUntold l.table;
}
