use Rattle.std.proofs.Common.{◌∙◌, ap, length, arith}
use Rattle.heap_bump.specs.Words.{first_address}
use Rattle.expression_code.specs.Frame.{globals_in, sites_in}
use Rattle.expression_code.proofs.PackageVariables.{address_is, addresses_length}
use Rattle.expression_code.proofs.slots.Frame.of_global.Goals as goal

pub index-requires : goal.index-requires
index-requires c =
    let p = c.args.program.now in
    let count = ap length c.requires.frame.1.globals ∙ addresses_length (sites_in p) (globals_in p) first_address in omega (arith, count, c.requires.global)

pub returns : goal.returns
returns c = let p = c.args.program.now in address_is (sites_in p) (globals_in p) first_address c.args.number _ _ c.requires.frame.1.globals c.requires.global c.index.ensures
