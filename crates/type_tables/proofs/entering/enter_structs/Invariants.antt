use Rattle.std.proofs.Common.{◌≡◌, take, drop}
use Rattle.std.specs.List.{fold}
use Rattle.struct_sizes.specs.Structs.{structs_of}
use Rattle.typed.specs.Tables.{lists_of}
use Rattle.typed.specs.Formed.{IsFormed}
use Rattle.type_tables.specs.Told.{with_struct, sized_structs}
use Rattle.type_tables.specs.Fits.{IsUntold, AreToldAs}
use Rattle.type_tables.proofs.entering.enter_structs.Given as goal

abbrev pub invariant-loop-index : goal.invariant-loop-index
invariant-loop-index l = record {
  is : fold with_struct l.table (drop l.index (sized_structs (structs_of l.structs) l.verdicts)) ≡ fold with_struct l.fn.table (sized_structs (structs_of l.structs) l.verdicts);
  told : AreToldAs l.table (take l.index (sized_structs (structs_of l.structs) l.verdicts)) (lists_of l.all.items);
  formed : IsFormed l.table;
  untold : IsUntold l.table;
}
