use Rattle.std.proofs.Common.{◌≡◌, IfSome, ◌∙◌, ap, sym, subst}
use Rattle.typed_flows.specs.Known.{has_by}
use Rattle.typed_flows.proofs.Tables.{named_has}
use Rattle.typed_flows.proofs.pointers.known_of.Goals as goal

pub returns : goal.returns
returns c = subst (λ x. IfSome c.known_by.result (λ b. b ≡ x)) (ap (has_by c.args.table.now) c.type_at.ensures.is ∙ sym (named_has c.args.table.now c.type_at.ensures.formed c.args.id.0)) c.known_by.ensures
