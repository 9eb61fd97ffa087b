use Rattle.std.proofs.Common.{◌≡◌, ◌∙◌, ap, refl, sym, true, subst}
use Rattle.clap.specs.Words.{App, is_simple, is_simple_and_free, fault_of, subcommand_of}
use Rattle.clap.specs.Kinds.{HasKind}
use Rattle.clap.proofs.OnLiterals.{clap_on_literals}
use Rattle.gostk.specs.Command.{gostk_app}
use Rattle.gostk.specs.Words.{texts_of, refusals, arguments, rows_in}
use Rattle.gostk.proofs.words.matches_of.Goals as goal

is_free : is_simple_and_free gostk_app ≡ true
unfolding gostk_app clap_on_literals
is_free = refl

is_plain : is_simple gostk_app ≡ true
unfolding gostk_app clap_on_literals
is_plain = refl

pub returns-in-Ok-clause-taken : goal.returns-in-Ok-clause-taken
unfolding refusals
returns-in-Ok-clause-taken c =
    let same = c.in_ok-command.ensures in
    ap (λ (a : App). fault_of a (texts_of c.args.words.now)) (sym same) ∙ c.in-Ok.ensures.kinds (ap is_simple_and_free same ∙ is_free)

pub returns-in-Ok-clause-rows : goal.returns-in-Ok-clause-rows
unfolding arguments
returns-in-Ok-clause-rows c =
    let same = c.in_ok-command.ensures in
    ap rows_in ((c.in-Ok.ensures.matches (ap is_simple same ∙ is_plain)).1 ∙ ap (λ (a : App). subcommand_of a (texts_of c.args.words.now)) same)

pub returns-in-Err-clause-refused : goal.returns-in-Err-clause-refused
unfolding refusals
returns-in-Err-clause-refused c =
    let same = c.in_ok-command.ensures in
    let words = texts_of c.args.words.now in
    c.usage.ensures words
    (subst (λ (a : App). HasKind (fault_of a words) c.in-Err.error) same (c.in-Err.ensures.kinds (ap is_simple_and_free same ∙ is_free)))
