use Rattle.std.proofs.Common.{◌≡◌, ◌≤◌, drop, length}
use Rattle.typed.specs.Formed.{IsFormed}
use Rattle.type_tables.specs.Told.{with_prefixed}
use Rattle.type_tables.specs.Types.{IsTypeOf}
use Rattle.type_tables.proofs.entering.enter_type.Given as goal

abbrev pub invariant-loop-level : goal.invariant-loop-level
invariant-loop-level l = record {
  within : l.level ≤ length l.t.prefixes.items;
  is : l.table ≡ with_prefixed l.fn.table (drop l.level l.t.prefixes.items) l.t.base;
  number : IsTypeOf l.table (drop l.level l.t.prefixes.items) l.t.base l.id.0;
  formed : IsFormed l.table;
}

abbrev pub decreases-loop-level : goal.decreases-loop-level
decreases-loop-level l = l.level
