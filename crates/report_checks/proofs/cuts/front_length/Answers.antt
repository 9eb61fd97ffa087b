use Rattle.std.proofs.Common.{◌+◌, get_or, drop, arith}
use Rattle.std.proofs.lemmas.List.{at_drop_more}
use Rattle.report_checks.specs.Cuts.{front_length}
use Rattle.report_checks.proofs.Cutting.{front_here, front_on, front_end}
use Rattle.report_checks.proofs.cuts.front_length.Goals as goal

pub returns-then-byte-separator-clause-is : goal.returns-then-byte-separator-clause-is
returns-then-byte-separator-clause-is c =
    let s = c.args.separator in
    let t = c.args.text.now in
    let i = c.loop-byte.byte-index in
    let one = at_drop_more (front_length s) t i 0 c.loop-byte-test.true in
    let here = front_here s (get_or t i 0) (drop (i + 1) t) c.if-byte-separator.true in
    omega (arith, one, here)

pub loop-byte-preserved : goal.loop-byte-preserved
loop-byte-preserved c =
    let s = c.args.separator in
    let t = c.args.text.now in
    let i = c.loop-byte.byte-index in
    let one = at_drop_more (front_length s) t i 0 c.loop-byte-test.true in
    let on = front_on s (get_or t i 0) (drop (i + 1) t) c.if-byte-separator.false in
    record { counted = omega arith; left = omega (arith, one, on) }

pub returns-clause-is : goal.returns-clause-is
returns-clause-is c = let e = front_end c.args.separator c.args.text.now c.loop-byte.byte-index c.loop-byte-test.false in omega (arith, e)
