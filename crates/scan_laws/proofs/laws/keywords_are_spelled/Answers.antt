use Rattle.scan_laws.proofs.Standing.{keywords}
use Rattle.scan_laws.proofs.laws.keywords_are_spelled.Goals as goal

pub returns : goal.returns
returns c = keywords
