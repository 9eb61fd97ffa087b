use Rattle.std.proofs.Common.{◌∙◌, ap, List}
use Rattle.std.specs.Str.Parse.{ParsesUnsigned, ExplainsUnsignedError, HasUnsignedDigitsIfOk}
use Rattle.clap.specs.Words.{Row, found_of, one_of, rows_of, subcommand_rows_of}
use Rattle.clap.proofs.WalkLemmas.{one_text-rows}
use Rattle.gostk.specs.Words.{number_of}
use Rattle.gostk.proofs.Numbers.{rows_here, number_read}
use Rattle.gostk.proofs.words.number_in.Goals as goal

pub returns-in-Some : goal.returns-in-Some
returns-in-Some c =
    let below = c.in-Some.below.now in
    let same = rows_here (subcommand_rows_of c.args.matches.now) (rows_of (found_of below)) c.in-Some.ensures.rows in
    c.unwrap_or.ensures ∙ number_read (λ bs r. ParsesUnsigned 64 10 bs r × ExplainsUnsignedError 10 bs r × HasUnsignedDigitsIfOk bs r) (λ bs r h. h.0) c.args.default _ c.get_one.result c.get_one.ensures.none c.get_one.ensures.value
    ∙ ap (number_of c.args.default) (one_text-rows (found_of below) c.args.name.now)
    ∙ ap (λ (r : List Row). number_of c.args.default (one_of c.args.name.now r)) same
