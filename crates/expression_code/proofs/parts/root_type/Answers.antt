use Rattle.std.proofs.Common.{◌≡◌, ◌∙◌, ap, arith}
use Rattle.typed.proofs.Rows.{expr_rows}
use Rattle.typed_syntax.specs.Syntax.{global, site_type}
use Rattle.typed.specs.View.{place_of, program_of, steps_of}
use Rattle.expression_code.proofs.Reached.{global_root}
use Rattle.expression_code.proofs.parts.root_type.Goals as goal

pub returns-in-Global : goal.returns-in-Global
returns-in-Global c =
    let shape : place_of c.args.place.now ≡ global c.in-Global.number (steps_of c.in-Global.field-1.items) = grind (arith, expr_rows) in
    rw shape (c.site_type-in-Global.ensures ∙ ap (site_type (program_of c.args.program.now)) c.site_of_global.ensures ∙ global_root c.args.program.now c.args.frame.now c.in-Global.number)
