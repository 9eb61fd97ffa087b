-- The type with a number stands there.
use Rattle.std.proofs.Common.{◌≡◌, Some, sym, rules, arith}
use Rattle.std.proofs.lemmas.Grind.{common_steps}
use Rattle.typed.specs.Tables.{number_of}
use Rattle.typed.proofs.Numbers.{number_holds}
use Rattle.typed.proofs.table.TypeTable.find.Goals as goal

pub returns-clause-held : goal.returns-clause-held
returns-clause-held c =
    let n : Some c.in_ok-index.index ≡ number_of c.args.self.now c.args.value_type = first_of (search rules, grind (arith, common_steps)) in
    number_holds c.args.self.now c.args.value_type c.in_ok-index.index (sym n)
