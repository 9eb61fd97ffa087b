use Rattle.std.proofs.Common.{◌≡◌, List, [], Option, Some, length, slice_get, drop, refl, sym, ap, subst, ◌∙◌, arith}
use Rattle.std.specs.List.{fold}
use Rattle.std.specs.Option.{option_map}
use Rattle.std.proofs.lemmas.List.{drop_all, take_all, map-append, length-map}
use Rattle.std.proofs.lemmas.Option.{slice_get_read, slice_get-map, slice_get-get_or}
use Rattle.base.specs.declared.ids.TypeId.{TypeId}
use Rattle.struct_sizes.specs.declared.verdicts.Verdict.{Verdict}
use Rattle.struct_sizes.specs.declared.verdicts.Verdict.TheVariants.{Sized}
use Rattle.struct_sizes.specs.Structs.{Fields, fields_of, structs_of}
use Rattle.std.specs.Prelude.{slice_index_or}
use Rattle.typed.specs.Tables.{lists_of}
use Rattle.type_tables.specs.Told.{with_struct, sized_struct, sized_structs}
use Rattle.type_tables.specs.Fits.{AreToldAs}
use Rattle.type_tables.proofs.Standing.{Keeps, struct_keeps, struct_structs}
use Rattle.type_tables.proofs.Steps.{untold_same, fold_at, told_more, sized_at}
use Rattle.type_tables.proofs.Verdicts.{sized_length}
use Rattle.type_tables.proofs.entering.enter_structs.Goals as goal

pub enter_struct-requires-clause-fit : goal.enter_struct-requires-clause-fit
enter_struct-requires-clause-fit c =
    let structs = c.args.structs.now in
    let vs = c.args.verdicts.now in
    let i = c.loop-index.index in
    let fs : Fields = fields_of c.index-structs-index.result in
    let v : Verdict = slice_index_or vs i (Sized 0) in
    let l = c.loop-index-test.true in
    let z = c.requires.size in
    let here : slice_get (structs_of structs) i ≡ Some fs = slice_get-map fields_of structs i ∙ ap (option_map fields_of) (slice_get_read structs (length structs) i c.index-structs-index.result refl (omega (arith, l)) c.index-structs-index.is) in
    let at : slice_get vs i ≡ Some v = slice_get-get_or vs i (Sized 0) (omega (arith, l, z)) in
    c.requires.fit i (sized_struct v fs) (sized_at (structs_of structs) vs i fs v here at)

pub loop-index-preserved : goal.loop-index-preserved
loop-index-preserved c =
    let structs = c.args.structs.now in
    let vs = c.args.verdicts.now in
    let i = c.loop-index.index in
    let fs : Fields = fields_of c.index-structs-index.result in
    let v : Verdict = slice_index_or vs i (Sized 0) in
    let l = c.loop-index-test.true in
    let z = c.requires.size in
    let here : slice_get (structs_of structs) i ≡ Some fs = slice_get-map fields_of structs i ∙ ap (option_map fields_of) (slice_get_read structs (length structs) i c.index-structs-index.result refl (omega (arith, l)) c.index-structs-index.is) in
    let found : slice_get vs i ≡ Some v = slice_get-get_or vs i (Sized 0) (omega (arith, l, z)) in
    let ss : List (Option Fields) = sized_structs (structs_of structs) vs in
    let s : Option Fields = sized_struct v fs in
    let at : slice_get ss i ≡ Some s = sized_at (structs_of structs) vs i fs v here found in
    let T = c.loop-index.table in
    let U = c.enter_struct.new.table in
    let entered : U ≡ with_struct T s = c.in_ok-ids.ensures.entered in
    let keeps : Keeps T U = subst (λ V. Keeps T V) (sym entered) (struct_keeps T s) in
    let x : Option (List TypeId) = option_map (λ l. l.items) c.in_ok-ids.ids in
    record {
      is = fold_at with_struct ss i s T (fold with_struct c.args.table.now ss) U at entered c.loop-index.invariant.is;
      told = told_more T U keeps ss i s (lists_of c.loop-index.all.items) (lists_of c.push.new.self.items) x at c.loop-index.invariant.told c.in_ok-ids.ensures.told
          (ap lists_of c.in_ok-push.ensures.items ∙ map-append _ c.loop-index.all.items _);
      formed = c.in_ok-ids.ensures.formed;
      untold = untold_same T U (ap (λ V. V.structs) entered ∙ struct_structs T s) c.loop-index.invariant.untold;
    }

pub returns-clause-entered : goal.returns-clause-entered
returns-clause-entered c =
    let ss : List (Option Fields) = sized_structs (structs_of c.args.structs.now) c.args.verdicts.now in
    let long = sized_length (structs_of c.args.structs.now) c.args.verdicts.now in
    let same : length (structs_of c.args.structs.now) ≡ length c.args.structs.now = length-map c.args.structs.now _ in
    let l = c.loop-index-test.false in
    let all : drop c.loop-index.index ss ≡ [] = drop_all c.loop-index.index ss (omega (arith, long, same, l)) in
    sym (ap (fold with_struct c.loop-index.table) all) ∙ c.loop-index.invariant.is

pub returns-clause-told : goal.returns-clause-told
returns-clause-told c =
    let ss : List (Option Fields) = sized_structs (structs_of c.args.structs.now) c.args.verdicts.now in
    let long = sized_length (structs_of c.args.structs.now) c.args.verdicts.now in
    let same : length (structs_of c.args.structs.now) ≡ length c.args.structs.now = length-map c.args.structs.now _ in
    let l = c.loop-index-test.false in
    subst (λ (xs : List (Option Fields)). AreToldAs c.loop-index.table xs (lists_of c.loop-index.all.items)) (take_all c.loop-index.index ss (omega (arith, long, same, l))) c.loop-index.invariant.told
