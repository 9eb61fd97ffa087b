-- The command line, as clap's meaning of simple commands reads it.
use Rattle.std.specs.Prelude.{◌-◌, ◌^◌, [], ◌∷◌, pos, true, codes, Some}
use Rattle.clap.specs.Words.{App, Rule, Text, new_app, new_rule, with_rule, with_subcommand}
use Rattle.clap.specs.declared.builder.value_parser.ValueParser.TheVariants as parser

-- an option with a number from 0 to 2^63 - 1, and its default
abbrev pub number_rule : Text → Text → Rule
number_rule name default = record (new_rule name) {
  long = Some name;
  value_names = 1;
  parser = Some (parser.Signed (pos 0) (pos (2 ^ 63 - 1)));
  defaults = default ∷ [];
}

abbrev pub file_rule : Rule
file_rule = record (new_rule (codes "file")) { value_names = 1; required = true }

-- a command with the four limits and a file
abbrev pub running : Text → App
running name =
    with_rule
    (with_rule
    (with_rule (with_rule (with_rule (new_app name) (number_rule (codes "stack") (codes "64"))) (number_rule (codes "max-stack") (codes "131072")))
    (number_rule (codes "heap") (codes "1048576")))
    (number_rule (codes "steps") (codes "1000000000"))) file_rule

-- one of its commands is required
abbrev pub wanting : App → App
wanting a = record a { top = record a.top { subcommand_required = true } }

unfoldable pub gostk_app : App
gostk_app = with_subcommand (wanting (new_app (codes "gostk"))) (running (codes "run")).top
