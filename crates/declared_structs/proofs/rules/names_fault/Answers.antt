use Rattle.std.proofs.Common.{◌≡◌, [], ◌∷◌, ◌+◌, List, Option, drop, get_or, is_some, subst, arith}
use Rattle.syntax.specs.declared.expression.Name.{Name}
use Rattle.syntax.specs.Expressions.{spelled}
use Rattle.type_faults.specs.declared.fault.Fault.{Fault}
use Rattle.type_faults.specs.Faults.{IsFault}
use Rattle.type_faults.proofs.Leasts.{Kept, kept_start, kept_more, kept_end, leaf}
use Rattle.type_faults.proofs.Lists.{from_there, nothing_left}
use Rattle.names.specs.Blocks.{innermost}
use Rattle.names.specs.Universe.{is_blank}
use Rattle.names.proofs.Places.{no_name}
use Rattle.declared_structs.specs.Faults.{field_name_fault, noted, FieldNamesFail}
use Rattle.declared_structs.proofs.rules.names_fault.Goals as goal

pub loop-name-init : goal.loop-name-init
loop-name-init c = rw (c.new-noted.ensures) (kept_start _)

pub loop-name-preserved : goal.loop-name-preserved
loop-name-preserved c =
    let text = c.args.text.now in
    let xs = c.args.names.now in
    let k = c.loop-name.name-index in
    let n : Name = get_or xs k no_name in
    let rest = drop (k + 1) xs in
    let names = c.loop-name.noted in
    let here : drop k xs ≡ n ∷ rest = from_there xs k no_name c.loop-name-test.true in
    let own : Option Fault = field_name_fault (is_blank (spelled text n)) (is_some (innermost names (spelled text n))) n.pos in
    let kept = subst (λ (l : List Name). Kept (FieldNamesFail text ([] ∷ []) xs) (FieldNamesFail text names l) c.loop-name.fault) here c.loop-name.invariant in
    rw (c.in_ok-note.ensures, c.lesser-fault.ensures, c.field_name_fault.ensures, c.is_blank.ensures, c.is_some-is_noted.ensures, c.innermost.ensures, c.spelled-bytes.ensures)
    (kept_more (FieldNamesFail text ([] ∷ []) xs) (IsFault own) (FieldNamesFail text (noted names (spelled text n)) rest) c.loop-name.fault _ kept (leaf own))

pub returns : goal.returns
returns c =
    let text = c.args.text.now in
    let xs = c.args.names.now in
    let k = c.loop-name.name-index in
    let none : drop k xs ≡ [] = nothing_left xs k (λ l. absurd (omega (arith, l, c.loop-name-test.false))) in
    kept_end (FieldNamesFail text ([] ∷ []) xs) (FieldNamesFail text c.loop-name.noted (drop k xs)) c.loop-name.fault (λ g h. subst (λ (l : List Name). FieldNamesFail text c.loop-name.noted l g) none h) c.loop-name.invariant
