use Rattle.scan_go.proofs.Scanned.{only_from}
use Rattle.scan_go.proofs.scanning.scan.Goals as goal

pub returns-clause-only : goal.returns-clause-only
returns-clause-only c = only_from c.args.text.now c.scan_text.result c.scan_text.ensures.exact
