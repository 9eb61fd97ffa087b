use Rattle.std.proofs.Common.{◌≡◌, ◌++◌, ◌∙◌, ℕ, ℤ, List, OnOk, OnErr, ap₂, codes, subst}
use Rattle.std.proofs.Math.Facts.{to_z-of_z}
use Rattle.std.specs.Fmt.{signed_decimal}
use Rattle.outside.specs.Took.{Took, TookPrefix}
use Rattle.gostk.proofs.Lines.{numbers_line}
use Rattle.gostk.proofs.reporting.put_panic_numbers.Goals as goal

-- the pieces show the numbers as they were written
pub returns-clause-whole : goal.returns-clause-whole
returns-clause-whole g c =
    let before = c.args.before.now in let between = c.args.between.now in
    let read = ap₂ (λ (i l : ℤ). codes "panic: " ++ (before ++ (signed_decimal i ++ (between ++ (signed_decimal l ++ codes "\n"))))) (to_z-of_z c.ranges.first) (to_z-of_z c.ranges.second) in
    subst (λ (t : List ℕ). OnOk c.put_pieces.result (Took (g.E.Sink.taken c.args.err.now) (g.E.Sink.taken c.put_pieces.new.err) t)) (read ∙ numbers_line before c.args.first between c.args.second) c.put_pieces.ensures.whole

pub returns-clause-part : goal.returns-clause-part
returns-clause-part g c =
    let before = c.args.before.now in let between = c.args.between.now in
    let read = ap₂ (λ (i l : ℤ). codes "panic: " ++ (before ++ (signed_decimal i ++ (between ++ (signed_decimal l ++ codes "\n"))))) (to_z-of_z c.ranges.first) (to_z-of_z c.ranges.second) in
    subst (λ (t : List ℕ). OnErr c.put_pieces.result (TookPrefix (g.E.Sink.taken c.args.err.now) (g.E.Sink.taken c.put_pieces.new.err) t)) (read ∙ numbers_line before c.args.first between c.args.second) c.put_pieces.ensures.part
