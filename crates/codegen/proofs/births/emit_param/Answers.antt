use Rattle.std.proofs.Common.{◌≡◌, ◌++◌, ◌∷◌, [], OnOk, ap, subst, ◌∙◌, append_assoc}
use Rattle.isa.specs.declared.instr.Instr.TheVariants.{Incoming}
use Rattle.isa.specs.declared.instr.Direction.TheVariants.{ToSlots}
use Rattle.program_code.specs.Code.{born_code, fill, site_access}
use Rattle.expression_code.specs.Frame.{slots_in}
use Rattle.codegen.proofs.Parameters.{param_in_slots, param_by_address}
use Rattle.codegen.proofs.births.emit_param.Goals as goal

pub returns-in-InSlots : goal.returns-in-InSlots
returns-in-InSlots c =
    let s = slots_in c.args.program.now c.args.frame.now in let old = c.args.code.now.items in let site = c.args.site.0 in let taken = Incoming ToSlots c.in-InSlots.a c.args.word c.args.n in
    let begun : c.put.new.code.items ≡ old ++ born_code s site ∷ [] = c.in_ok-put.ensures ∙ ap (λ i. old ++ i ∷ []) c.born.ensures in
    subst (λ is. OnOk c.put-in-InSlots.result (c.put-in-InSlots.new.code.items ≡ is))
    (ap (λ is. is ++ taken ∷ []) begun ∙ append_assoc old (born_code s site ∷ []) (taken ∷ []) ∙ ap (λ is. old ++ is) (param_in_slots s site c.args.word c.args.n c.in-InSlots.a c.in-InSlots.ensures.is))
    c.put-in-InSlots.ensures

pub returns-in_ok-put-in-ByAddress : goal.returns-in_ok-put-in-ByAddress
returns-in_ok-put-in-ByAddress c =
    let s = slots_in c.args.program.now c.args.frame.now in let old = c.args.code.now.items in let site = c.args.site.0 in let taken = Incoming ToSlots c.temp-a.result c.args.word c.args.n in
    let begun : c.put.new.code.items ≡ old ++ born_code s site ∷ [] = c.in_ok-put.ensures ∙ ap (λ i. old ++ i ∷ []) c.born.ensures in
    let filled : c.fill.result ≡ fill (site_access s site) c.args.n c.temp-a.result = c.fill.ensures ∙ ap (λ x. fill x c.args.n c.temp-a.result) c.access_of-access.ensures.is in
    let through : c.put-in-ByAddress.new.code.items ≡ old ++ born_code s site ∷ taken ∷ [] = c.in_ok-put-in-ByAddress.ensures ∙ ap (λ is. is ++ taken ∷ []) begun ∙ append_assoc old (born_code s site ∷ []) (taken ∷ []) in
    subst (λ is. OnOk c.put-in-ByAddress-2.result (c.put-in-ByAddress-2.new.code.items ≡ is))
    (ap (λ is. is ++ c.fill.result ∷ []) through ∙ append_assoc old (born_code s site ∷ taken ∷ []) (c.fill.result ∷ []) ∙ ap (λ i. old ++ born_code s site ∷ taken ∷ i ∷ []) filled
    ∙ ap (λ a. old ++ born_code s site ∷ Incoming ToSlots a c.args.word c.args.n ∷ fill (site_access s site) c.args.n a ∷ []) c.temp-a.ensures
    ∙ ap (λ is. old ++ is) (param_by_address s site c.args.word c.args.n c.in-ByAddress.field-0 c.in-ByAddress.ensures.is))
    c.put-in-ByAddress-2.ensures
