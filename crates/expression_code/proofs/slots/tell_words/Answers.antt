use Rattle.typed.specs.Trees.{trees}
use Rattle.expression_code.proofs.PackageVariables.{small_sites, small_types}
use Rattle.expression_code.proofs.slots.tell_words.Goals as goal

pub returns-clause-types : goal.returns-clause-types
returns-clause-types c = small_types c.args.program.now.types c.type_at.ensures.formed

pub returns-clause-sites : goal.returns-clause-sites
returns-clause-sites c = let types = c.args.program.now.types in small_sites (trees types) (small_types types c.type_at.ensures.formed) c.args.program.now.sites.items
