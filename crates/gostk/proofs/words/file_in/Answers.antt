use Rattle.std.proofs.Common.{◌∙◌, ap, [], Option, codes}
use Rattle.std.specs.Option.{unwrap_or}
use Rattle.clap.specs.Words.{Text, found_of, rows_of, subcommand_rows_of}
use Rattle.clap.proofs.WalkLemmas.{first_value-rows}
use Rattle.gostk.specs.Words.{path_in}
use Rattle.gostk.proofs.Numbers.{rows_here, now_of}
use Rattle.gostk.proofs.words.file_in.Goals as goal

pub returns-in-Some : goal.returns-in-Some
returns-in-Some c =
    let below = c.in-Some.below.now in
    let same = rows_here (subcommand_rows_of c.args.matches.now) (rows_of (found_of below)) c.in-Some.ensures.rows in
    ap (λ s. s.now) c.unwrap_or.ensures ∙ now_of c.get_str.result _
    ∙ ap (λ (o : Option Text). unwrap_or o []) (c.get_str.ensures ∙ first_value-rows (found_of below) (codes "file"))
    ∙ ap path_in same
