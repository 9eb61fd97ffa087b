use Rattle.std.proofs.Common.{◌∙◌, Option, ap, get_or, length, sym}
use Rattle.typed_syntax.specs.Types.{ints}
use Rattle.typed_syntax.specs.Words.{words_of}
use Rattle.typed.specs.declared.expr.Const.{Const}
use Rattle.typed.specs.View.{first_value}
use Rattle.expression_code.specs.Frame.{sites_in}
use Rattle.code_runs.proofs.Begun.{constant_long, zero_long}
use Rattle.code_runs.proofs.beginning.words_asked.Goals as goal

pub returns-in-None : goal.returns-in-None
returns-in-None c =
    let t = get_or (sites_in c.args.program.now) c.args.global.site.0 ints in
    c.site_words.ensures ∙ zero_long t ∙ ap (λ (o : Option Const). length (words_of (first_value t o))) (sym c.in-None.is)

pub returns-in-Some : goal.returns-in-Some
returns-in-Some c =
    let t = get_or (sites_in c.args.program.now) c.args.global.site.0 ints in
    constant_long c.in-Some.field-0 ∙ ap (λ (o : Option Const). length (words_of (first_value t o))) (sym c.in-Some.is)
