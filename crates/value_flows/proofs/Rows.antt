-- A row of values is the list of its vector's items.
use Rattle.std.proofs.Common.{◌≡◌, refl, ap}
use mathlib.Core.Former.{Count}
use Rattle.value_flows.specs.declared.value.Value.{Row_of-Value, end_of-Value, more_of-Value, items-the_row-Value}
use Rattle.value_flows.specs.declared.value.Value.TheViews.{the_lemmas as value_lemmas}
use Rattle.value_flows.specs.Syntax.{more}
use Rattle.value_flows.specs.View.{val_of, vals_of, vals_of_row}

pub value_items : (n : Count) (k : Row_of-Value n) → vals_of_row k ≡ vals_of (items-the_row-Value n k)
value_items n end_of-Value = refl
value_items n (more_of-Value v rest) = ap (more (val_of v)) (value_items _ rest)

-- for `using`: what the fields of a value are, with the rows as lists
pub ruleset value_rows = (value_lemmas, value_items)
