use Rattle.std.proofs.Common.{rules}
use Rattle.expression_code.proofs.slots.Frame.new.Goals as goal

pub returns-clause-laid : goal.returns-clause-laid
returns-clause-laid c = (search rules, record { types = c.tell_words.ensures.types; words = c.tell_words.ensures.sites; sites = search rules; globals = search rules })
