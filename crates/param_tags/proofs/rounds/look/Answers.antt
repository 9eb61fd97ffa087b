use Rattle.std.proofs.Common.{◌≡◌, true, false, arith}
use Rattle.value_flows.specs.View.{program_of}
use Rattle.param_tags.specs.Heap.{heap_of, outlives}
use Rattle.param_tags.proofs.Joined.{joins_one}
use Rattle.param_tags.proofs.rounds.look.Goals as goal

pub returns-clause-joins : goal.returns-clause-joins
returns-clause-joins c =
    let h = c.args.hold.now in
    let out : outlives (program_of c.args.program.now) (heap_of c.args.placed.now) h.root h.site.0 ≡ true = grind (arith, c.is_outliving.ensures, c.if-not-is_outliving.false) in
    let off : heap_of c.args.placed.now h.site.0 ≡ false = grind (arith, c.is_on_heap.ensures, c.if-not-is_outliving.false) in
    joins_one (program_of c.args.program.now) h c.args.placed.now c.requires off out
