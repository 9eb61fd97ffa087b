use Rattle.std.proofs.Common.{◌≡◌, ◌∙◌, ap, map, refl}
use Rattle.names.specs.Blocks.{names_of, outer_of, with_entry}
use Rattle.names.proofs.Tables.{entries_inserted}
use Rattle.names.proofs.LastInsert.{last_insert}
use Rattle.names.proofs.blocks.Blocks.insert.Goals as goal

pub returns-clause-inserted : goal.returns-clause-inserted
returns-clause-inserted c =
    let old = c.self.inside in
    let h : names_of c.insert.new.self ≡ with_entry (names_of old.innermost) c.in_ok-key.key.items c.args.entry =
    ap (map (λ e. (e.0.items, e.1))) c.in_ok-insert.ensures.entries ∙ entries_inserted old.innermost.entries c.in_ok-key.key c.args.entry in
    rw (h, c.in_ok-key.ensures.items, ← c.self.view_is) refl

pub returns-clause-last : goal.returns-clause-last
returns-clause-last c = λ other.
    let old = c.self.inside in
    let h : names_of c.insert.new.self ≡ with_entry (names_of old.innermost) c.in_ok-key.key.items c.args.entry =
    ap (map (λ e. (e.0.items, e.1))) c.in_ok-insert.ensures.entries ∙ entries_inserted old.innermost.entries c.in_ok-key.key c.args.entry in
    rw (h, c.in_ok-key.ensures.items, ← c.self.view_is) (last_insert (names_of old.innermost) (outer_of old.outer.items) c.args.name.now c.args.entry other)
