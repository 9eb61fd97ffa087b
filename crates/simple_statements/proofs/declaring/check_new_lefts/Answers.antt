use Rattle.std.proofs.Common.{◌≡◌, [], ◌∷◌, ◌+◌, List, cond, drop, map, get_or, sym, ap, ◌∙◌, subst, arith, length}
use Rattle.std.specs.Option.{option_map}
use Rattle.syntax.specs.declared.expression.Name.{Name}
use Rattle.syntax.specs.Expressions.{spelled}
use Rattle.typed.specs.View.{left_of as left_view}
use Rattle.type_faults.specs.Faults.{IsFault}
use Rattle.type_faults.proofs.Leasts.{Kept, kept_start, kept_more, kept_end}
use Rattle.names.specs.Universe.{is_blank}
use Rattle.names.specs.Scope.{scope_of, declaration, is_here}
use Rattle.type_faults.specs.Given.{with_last}
use Rattle.type_faults.proofs.Lists.{from_there, nothing_left, joined, joined_start, joined_more, joined_none}
use Rattle.names.proofs.Places.{no_name}
use Rattle.simple_statements.proofs.declaring.check_new_lefts.Goals as goal
use Rattle.simple_statements.specs.SimpleStatements.{declares, new_left, new_lefts}
use Rattle.simple_statements.specs.SimpleFaults.{new_name_fault, NewNamesFail}
use Rattle.simple_statements.proofs.Names.{next_site}

pub loop-name-init : goal.loop-name-init
loop-name-init c =
    let text = c.args.text.now in
    let s = scope_of c.args.scope.now in
    let xs = c.args.names.now in
    let start : length s.sites + 0 ≡ length s.sites = omega arith in
    (rw (c.new.ensures.items) (sym (joined_start (new_lefts text s (length s.sites + 0) xs) ∙ ap (λ k. new_lefts text s k xs) start)), kept_start _)

pub loop-name-preserved : goal.loop-name-preserved
loop-name-preserved c =
    let text = c.args.text.now in
    let s = scope_of c.args.scope.now in
    let xs = c.args.names.now in
    let k = c.loop-name.name-index in
    let n : Name = get_or xs k no_name in
    let rest = drop (k + 1) xs in
    let bytes = spelled text n in
    let so_far = option_map (λ v. map left_view v.items) c.loop-name.lefts in
    let site = length s.sites + c.loop-name.count in
    let b = declares s bytes in
    let here : drop k xs ≡ n ∷ rest = from_there xs k no_name c.loop-name-test.true in
    let counted : c.in_ok-count.count ≡ cond b (1 + c.loop-name.count) c.loop-name.count = c.in_ok-count.ensures ∙ ap (λ d. cond d (1 + c.loop-name.count) c.loop-name.count) c.declares.ensures in
    let front = c.loop-name.invariant.0 ∙ ap (λ (l : List Name). joined so_far (new_lefts text s site l)) here in
    let kept = subst (λ (l : List Name). Kept (NewNamesFail text s xs) (NewNamesFail text s l) c.loop-name.fault) here c.loop-name.invariant.1 in
    let site_is : cond b (1 + site) site ≡ length s.sites + c.in_ok-count.count = next_site b (length s.sites) c.loop-name.count c.in_ok-count.count counted in (
      rw (c.in_ok-lefts.ensures, c.in_ok-left.ensures) (front ∙ joined_more so_far (new_left text s site n) (new_lefts text s (cond b (1 + site) site) rest) ∙ ap (λ j. joined (with_last so_far (new_left text s site n)) (new_lefts text s j rest)) site_is),
      rw (c.lesser-fault.ensures)
          (kept_more (NewNamesFail text s xs) (IsFault (new_name_fault (is_blank bytes) (is_here s bytes) (declaration s bytes) n.pos)) (NewNamesFail text s rest) c.loop-name.fault c.new_name_fault.result kept c.new_name_fault.ensures),
    )

pub returns-clause-lefts : goal.returns-clause-lefts
returns-clause-lefts c =
    let text = c.args.text.now in
    let s = scope_of c.args.scope.now in
    let xs = c.args.names.now in
    let k = c.loop-name.name-index in
    let so_far = option_map (λ v. map left_view v.items) c.loop-name.lefts in
    let none : drop k xs ≡ [] = nothing_left xs k (λ l. absurd (omega (arith, l, c.loop-name-test.false))) in
    sym (c.loop-name.invariant.0 ∙ ap (λ (l : List Name). joined so_far (new_lefts text s (length s.sites + c.loop-name.count) l)) none ∙ joined_none so_far)

pub returns-clause-fault : goal.returns-clause-fault
returns-clause-fault c =
    let text = c.args.text.now in
    let s = scope_of c.args.scope.now in
    let xs = c.args.names.now in
    let k = c.loop-name.name-index in
    let none : drop k xs ≡ [] = nothing_left xs k (λ l. absurd (omega (arith, l, c.loop-name-test.false))) in
    kept_end (NewNamesFail text s xs) (NewNamesFail text s (drop k xs)) c.loop-name.fault (λ g h. subst (λ (l : List Name). NewNamesFail text s l g) none h) c.loop-name.invariant.1
