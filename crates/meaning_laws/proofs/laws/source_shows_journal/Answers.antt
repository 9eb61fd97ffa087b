use Rattle.meaning_laws.proofs.Runs.{source_shows_journal}
use Rattle.meaning_laws.proofs.laws.source_shows_journal.Goals as goal

pub returns : goal.returns
returns c = source_shows_journal
