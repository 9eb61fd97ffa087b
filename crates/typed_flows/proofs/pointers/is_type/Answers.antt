use Rattle.std.proofs.Common.{◌≡◌, None, subst}
use Rattle.typed.specs.Tables.{number_of}
use Rattle.typed_flows.proofs.Tables.{behind_none}
use Rattle.typed_flows.proofs.pointers.is_type.Goals as goal

pub returns-in-None : goal.returns-in-None
returns-in-None c e = behind_none c.args.table.now c.type_at.ensures.formed c.args.id (subst (λ t. None ≡ number_of c.args.table.now t) c.type_at.ensures.is c.in-None.ensures.number)
