use Rattle.std.proofs.Common.{◌≡◌, Option, Some, length, map, slice_get, refl, sym, ap, subst, ◌∙◌}
use Rattle.std.specs.Option.{option_map}
use Rattle.std.proofs.lemmas.Option.{slice_get_read, slice_get-map}
use Rattle.struct_sizes.specs.Structs.{Prefixed, Fields, field_of}
use Rattle.type_tables.specs.Told.{with_field}
use Rattle.type_tables.proofs.Standing.{Keeps, field_keeps, field_structs}
use Rattle.type_tables.proofs.Steps.{untold_same, fold_at, numbers_more}
use Rattle.type_tables.proofs.entering.enter_fields.Goals as goal

pub enter_field-requires-clause-fits : goal.enter_field-requires-clause-fits
enter_field-requires-clause-fits c =
    let fields = c.args.fields.now in
    let i = c.loop-field.field-index in
    c.requires.fit i (field_of c.field-item.result)
    (slice_get-map field_of fields i ∙ ap (option_map field_of) (slice_get_read fields (length fields) i c.field-item.result refl c.loop-field-test.true c.field-item.is))

pub loop-field-preserved : goal.loop-field-preserved
loop-field-preserved c =
    let fields = c.args.fields.now in
    let i = c.loop-field.field-index in
    let f : Option Prefixed = field_of c.field-item.result in
    let fs : Fields = map field_of fields in
    let T = c.loop-field.table in
    let U = c.enter_field.new.table in
    let at : slice_get fs i ≡ Some f = slice_get-map field_of fields i ∙ ap (option_map field_of) (slice_get_read fields (length fields) i c.field-item.result refl c.loop-field-test.true c.field-item.is) in
    let entered : U ≡ with_field T f = c.in_ok-id.ensures.entered in
    let keeps : Keeps T U = subst (λ V. Keeps T V) (sym entered) (field_keeps T f) in
    record {
      is = fold_at with_field fs i f T _ U at entered c.loop-field.invariant.is;
      numbers = numbers_more T U keeps fs i f c.loop-field.ids.items c.push.new.self.items c.in_ok-id.id at c.loop-field.invariant.numbers c.in_ok-id.ensures.number c.in_ok-push.ensures.items;
      formed = c.in_ok-id.ensures.formed;
      untold = untold_same T U (ap (λ V. V.structs) entered ∙ field_structs T f) c.loop-field.invariant.untold;
    }
