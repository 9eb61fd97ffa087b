use Rattle.scan_laws.proofs.Standing.{only_spaces}
use Rattle.scan_laws.proofs.laws.only_spaces_and_comments_between.Goals as goal

pub returns : goal.returns
returns c = only_spaces
