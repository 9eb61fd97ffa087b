use Rattle.std.proofs.Common.{◌-◌, List, ◌∷◌, drop, ap, subst, ◌∙◌, arith}
use Rattle.struct_sizes.specs.declared.forms.Prefix.{Prefix}
use Rattle.struct_sizes.proofs.Steps.{at_level}
use Rattle.type_tables.specs.Fits.{IsUntold, AreInLimits}
use Rattle.type_tables.proofs.Standing.{prefixed_structs}
use Rattle.type_tables.proofs.Steps.{limits_drop, type_within, untold_same, array_fine, array_step}
use Rattle.type_tables.proofs.entering.enter_type.Goals as goal

pub array_length-length-requires : goal.array_length-length-requires
array_length-length-requires c =
    let ps = c.args.t.now.prefixes.items in
    let level = c.loop-level.level in
    let p = c.index.result.now in
    let w = c.requires.fits.0 in
    let here = at_level ps level p (omega arith) (omega arith) c.index.ensures in
    (subst (λ (qs : List Prefix). AreInLimits qs w) here (limits_drop (level - 1) ps w c.requires.fits.2)).0

pub enter-requires-in-loop-level-clause-stands : goal.enter-requires-in-loop-level-clause-stands
enter-requires-in-loop-level-clause-stands c =
    type_within c.loop-level.table (drop c.loop-level.level c.args.t.now.prefixes.items) c.args.t.now.base c.loop-level.id.0 c.loop-level.invariant.number

pub enter-requires-in-loop-level-clause-fine : goal.enter-requires-in-loop-level-clause-fine
enter-requires-in-loop-level-clause-fine c =
    let ps = c.args.t.now.prefixes.items in
    let b = c.args.t.now.base in
    let level = c.loop-level.level in
    let qs = drop level ps in
    let p = c.index.result.now in
    let w = c.requires.fits.0 in
    let T = c.loop-level.table in
    let here = at_level ps level p (omega arith) (omega arith) c.index.ensures ∙ ap (λ (q : Prefix). q ∷ qs) c.array_length-length.ensures in
    let none : IsUntold T = untold_same c.args.table.now T (ap (λ U. U.structs) c.loop-level.invariant.is ∙ prefixed_structs c.args.table.now qs b) c.requires.untold in
    array_fine T c.loop-level.invariant.formed none c.array_length-length.result qs b w c.loop-level.id c.requires.fits.1
    (subst (λ (xs : List Prefix). AreInLimits xs w) here (limits_drop (level - 1) ps w c.requires.fits.2)) c.loop-level.invariant.number

pub loop-level-preserved : goal.loop-level-preserved
loop-level-preserved c =
    let ps = c.args.t.now.prefixes.items in
    let level = c.loop-level.level in
    let p = c.index.result.now in
    let here = at_level ps level p (omega arith) (omega arith) c.index.ensures in
    let step =
    array_step c.args.table.now c.loop-level.table c.enter-in-loop-level.new.table (drop (level - 1) ps) (drop level ps) c.args.t.now.base p c.array_length-length.result c.loop-level.id c.in_ok-id-2.id here c.array_length-length.ensures
    c.loop-level.invariant.is c.loop-level.invariant.formed.once c.loop-level.invariant.number c.in_ok-id-2.ensures.entered c.in_ok-id-2.ensures.held in
    record {
      within = omega arith;
      is = step.0;
      number = step.1;
      formed = c.in_ok-id-2.ensures.formed;
    }
