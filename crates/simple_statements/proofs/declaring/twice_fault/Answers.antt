use Rattle.std.proofs.Common.{◌≡◌, [], ◌∷◌, ◌+◌, List, drop, get_or, subst, arith}
use Rattle.syntax.specs.declared.expression.Name.{Name}
use Rattle.syntax.specs.Expressions.{spelled}
use Rattle.type_faults.specs.declared.fault.FaultKind.TheVariants.{Redeclared}
use Rattle.type_faults.specs.Faults.{fault, IsFault}
use Rattle.type_faults.proofs.Leasts.{Kept, kept_start, kept_more, kept_end, leaf}
use Rattle.type_faults.proofs.Lists.{from_there, nothing_left}
use Rattle.names.proofs.Places.{no_name}
use Rattle.simple_statements.proofs.declaring.twice_fault.Goals as goal
use Rattle.signatures.specs.Failing.{fault_where}
use Rattle.simple_statements.specs.SimpleStatements.{noted, is_noted}
use Rattle.simple_statements.specs.SimpleFaults.{TwiceFails}

pub loop-name-init : goal.loop-name-init
loop-name-init c = rw (c.new-noted.ensures) (kept_start _)

pub loop-name-preserved : goal.loop-name-preserved
loop-name-preserved c =
    let text = c.args.text.now in
    let xs = c.args.names.now in
    let k = c.loop-name.name-index in
    let n : Name = get_or xs k no_name in
    let rest = drop (k + 1) xs in
    let names = c.loop-name.noted in
    let here : drop k xs ≡ n ∷ rest = from_there xs k no_name c.loop-name-test.true in
    let kept = subst (λ (l : List Name). Kept (TwiceFails text ([] ∷ []) xs) (TwiceFails text names l) c.loop-name.fault) here c.loop-name.invariant in
    rw (c.in_ok-note.ensures, c.lesser-fault.ensures, c.fault_where.ensures, c.is_noted.ensures, c.spelled-bytes.ensures)
    (kept_more (TwiceFails text ([] ∷ []) xs) (IsFault (fault_where (is_noted names (spelled text n)) (fault Redeclared n.pos))) (TwiceFails text (noted names (spelled text n)) rest) c.loop-name.fault _ kept (leaf (fault_where (is_noted names (spelled text n)) (fault Redeclared n.pos))))

pub returns : goal.returns
returns c =
    let text = c.args.text.now in
    let xs = c.args.names.now in
    let k = c.loop-name.name-index in
    let none : drop k xs ≡ [] = nothing_left xs k (λ l. absurd (omega (arith, l, c.loop-name-test.false))) in
    kept_end (TwiceFails text ([] ∷ []) xs) (TwiceFails text c.loop-name.noted (drop k xs)) c.loop-name.fault (λ g h. subst (λ (l : List Name). TwiceFails text c.loop-name.noted l g) none h) c.loop-name.invariant
