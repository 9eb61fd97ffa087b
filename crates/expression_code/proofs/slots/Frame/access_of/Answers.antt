use Rattle.std.proofs.Common.{◌∙◌, sym, ap, length, arith}
use Rattle.placement.specs.Told.{placement_of}
use Rattle.expression_code.specs.Frame.{cells_in, made_in, sites_in, slots_in}
use Rattle.expression_code.proofs.InSlots.{by_cell, by_slots, slots_span, start_is, start_within, starts_length}
use Rattle.expression_code.proofs.slots.Frame.access_of.Goals as goal

pub index-start-requires : goal.index-start-requires
index-start-requires c =
    let f = c.args.self.now in let from = c.requires.site.0 in let to = c.requires.site.1 in
    let count = ap length c.requires.frame.1.sites ∙ starts_length (placement_of f.homes.placement) (made_in c.args.program.now) (sites_in c.args.program.now) f.first 0 (cells_in c.args.program.now f) f.sites in omega (arith, count, from, to)

pub overflow_add-slot-2 : goal.overflow_add-slot-2
overflow_add-slot-2 c =
    let s = slots_in c.args.program.now c.args.self.now in
    let within = start_within s c.args.site.0 c.requires.site _ (start_is s c.args.site.0 c.requires.site _ _ c.requires.frame.1.sites c.index-start.ensures) in omega (arith, within, c.requires.frame.0)

pub returns-then-is_on_heap-clause-is : goal.returns-then-is_on_heap-clause-is
returns-then-is_on_heap-clause-is c =
    let s = slots_in c.args.program.now c.args.self.now in
    by_cell s c.args.site.0 c.requires.site _ (start_is s c.args.site.0 c.requires.site _ _ c.requires.frame.1.sites c.index-start.ensures) (sym c.is_on_heap.ensures ∙ c.if-is_on_heap.true)

pub returns-else-is_on_heap-clause-is : goal.returns-else-is_on_heap-clause-is
returns-else-is_on_heap-clause-is c =
    let s = slots_in c.args.program.now c.args.self.now in
    by_slots s c.args.site.0 c.requires.site _ (start_is s c.args.site.0 c.requires.site _ _ c.requires.frame.1.sites c.index-start.ensures) (sym c.is_on_heap.ensures ∙ c.if-is_on_heap.false)

pub returns-else-is_on_heap-clause-spans : goal.returns-else-is_on_heap-clause-spans
returns-else-is_on_heap-clause-spans c =
    let s = slots_in c.args.program.now c.args.self.now in
    slots_span s c.args.site.0 c.requires.site _ (start_is s c.args.site.0 c.requires.site _ _ c.requires.frame.1.sites c.index-start.ensures) (sym c.is_on_heap.ensures ∙ c.if-is_on_heap.false) c.requires.frame.0
