use Rattle.std.proofs.Common.{◌≡◌, ◌∙◌, ℕ, List, Err, ap, sym, subst}
use Rattle.syntax.specs.Declarations.{Syntax, syntax_of}
use Rattle.typed.specs.View.{program_of}
use Rattle.frames.specs.Placement.{Placement, IsPlaced, coarse}
use Rattle.placement.specs.Told.{placement_of}
use Rattle.frame_layout.specs.Layout.{first_too_large, IsTooLarge, layouts}
use Rattle.program_code.specs.Code.{code_of}
use Rattle.program_code.proofs.Sites.{coarse_placed}
use Rattle.parse_go.specs.Grammar.{IsText}
use Rattle.parse_go.specs.Faults.{GivesTree}
use Rattle.compile.specs.Faults.{of_scan, of_parse, of_typing, of_layout}
use Rattle.compile.proofs.Stages.{only_err, refused_err, has_tree, scan_only, parse_only, type_only, program_only, layout_only, type_refuses, layout_refuses, fits_all}
use Rattle.compile.proofs.compiling.compile.Goals as goal

pub returns-in_err-tokens-clause-only : goal.returns-in_err-tokens-clause-only
returns-in_err-tokens-clause-only c =
    let text = c.args.text.now in
    let f = c.in_err-tokens.field-0.0 in
    λ p a. only_err c.from_residual.result (of_scan f) c.from_residual.ensures.1 p (scan_only text f c.in_err-tokens.ensures.only p a)

pub returns-in_err-tree-clause-only : goal.returns-in_err-tree-clause-only
returns-in_err-tree-clause-only c =
    let text = c.args.text.now in
    let tokens = c.in_ok-tokens.tokens in
    let f = c.in_err-tree.field-0.0 in
    let only : (tree : Syntax) → IsText text tokens.list tree → GivesTree (Err f) tree =
    subst (λ (t : List ℕ). (tree : Syntax) → IsText t tokens.list tree → GivesTree (Err f) tree) c.in_ok-tokens.ensures.text c.in_err-tree.ensures.only in
    λ p a. only_err c.from_residual-in_err-tree.result (of_parse f) c.from_residual-in_err-tree.ensures.1 p (parse_only text tokens.list c.in_ok-tokens.ensures.only f only p a)

pub returns-in_err-program-clause-refused : goal.returns-in_err-program-clause-refused
returns-in_err-program-clause-refused c =
    let text = c.args.text.now in
    let tree = syntax_of c.in_ok-tree.tree in
    let f = c.in_err-program.field-0.0 in
    refused_err text _ (of_typing f) c.from_residual-in_err-program.ensures.1 (type_refuses text tree f (has_tree text c.in_ok-tokens.tokens tree c.in_ok-tokens.ensures.exact c.in_ok-tokens.ensures.text c.in_ok-tree.ensures.found) c.in_err-program.ensures.fault)

pub returns-in_err-program-clause-only : goal.returns-in_err-program-clause-only
returns-in_err-program-clause-only c =
    let text = c.args.text.now in
    let tokens = c.in_ok-tokens.tokens in
    let tree = syntax_of c.in_ok-tree.tree in
    let f = c.in_err-program.field-0.0 in
    let one : (other : Syntax) → IsText text tokens.list other → tree ≡ other =
    subst (λ (t : List ℕ). (other : Syntax) → IsText t tokens.list other → tree ≡ other) c.in_ok-tokens.ensures.text c.in_ok-tree.ensures.only in
    λ p a. only_err c.from_residual-in_err-program.result (of_typing f) c.from_residual-in_err-program.ensures.1 p (type_only text tokens.list c.in_ok-tokens.ensures.only tree one f c.in_err-program.ensures.only p a)

pub returns-in_err-layouts-clause-refused : goal.returns-in_err-layouts-clause-refused
returns-in_err-layouts-clause-refused c =
    let text = c.args.text.now in
    let tree = syntax_of c.in_ok-tree.tree in
    let q = c.in_ok-program.program in
    let f = c.in_err-layouts.field-0.0 in
    let large : IsTooLarge (first_too_large (program_of q) (coarse (program_of q)) q.funcs.items) f =
    subst (λ (l : Placement). IsTooLarge (first_too_large (program_of q) l q.funcs.items) f) c.in_ok-placement.ensures c.in_err-layouts.ensures.fault in
    refused_err text _ (of_layout f) c.from_residual-in_err-layouts.ensures.1
    (layout_refuses text tree q f (has_tree text c.in_ok-tokens.tokens tree c.in_ok-tokens.ensures.exact c.in_ok-tokens.ensures.text c.in_ok-tree.ensures.found) c.in_ok-program.ensures.typed c.in_ok-program.ensures.places large)

pub returns-in_err-layouts-clause-only : goal.returns-in_err-layouts-clause-only
returns-in_err-layouts-clause-only c =
    let text = c.args.text.now in
    let tokens = c.in_ok-tokens.tokens in
    let tree = syntax_of c.in_ok-tree.tree in
    let q = c.in_ok-program.program in
    let f = c.in_err-layouts.field-0.0 in
    let large : IsTooLarge (first_too_large (program_of q) (coarse (program_of q)) q.funcs.items) f =
    subst (λ (l : Placement). IsTooLarge (first_too_large (program_of q) l q.funcs.items) f) c.in_ok-placement.ensures c.in_err-layouts.ensures.fault in
    let one : (other : Syntax) → IsText text tokens.list other → tree ≡ other =
    subst (λ (t : List ℕ). (other : Syntax) → IsText t tokens.list other → tree ≡ other) c.in_ok-tokens.ensures.text c.in_ok-tree.ensures.only in
    λ p a. only_err c.from_residual-in_err-layouts.result (of_layout f) c.from_residual-in_err-layouts.ensures.1 p (layout_only text tokens.list c.in_ok-tokens.ensures.only tree one q f c.in_ok-program.ensures.only large p a)

pub returns-clause-only : goal.returns-clause-only
returns-clause-only c =
    let text = c.args.text.now in
    let tokens = c.in_ok-tokens.tokens in
    let tree = syntax_of c.in_ok-tree.tree in
    let q = c.in_ok-program.program in
    let one : (other : Syntax) → IsText text tokens.list other → tree ≡ other =
    subst (λ (t : List ℕ). (other : Syntax) → IsText t tokens.list other → tree ≡ other) c.in_ok-tokens.ensures.text c.in_ok-tree.ensures.only in
    λ p a. program_only text tokens.list c.in_ok-tokens.ensures.only tree one q c.in_ok-program.ensures.only p a

pub emit-requires-clause-placed : goal.emit-requires-clause-placed
emit-requires-clause-placed c =
    let p = program_of c.in_ok-program.program in subst (λ (l : Placement). IsPlaced p l) (sym c.in_ok-placement.ensures) (coarse_placed p)

pub returns-clause-does : goal.returns-clause-does
returns-clause-does c =
    let p = program_of c.in_ok-program.program in let placed = c.in_ok-placement.ensures in let is = c.in_ok-code.ensures.is ∙ ap (code_of p) placed in record {
      layouts = c.in_ok-layouts.ensures.layouts ∙ ap (layouts p) placed;
      strings = ap (λ code. code.strings) is;
      form = c.in_ok-program.ensures.in_form;
      code = is;
      main = c.in_ok-code.ensures.main;
      small = c.in_ok-code.ensures.small;
    }

pub returns-clause-accepted : goal.returns-clause-accepted
returns-clause-accepted c =
    let text = c.args.text.now in
    let tree = syntax_of c.in_ok-tree.tree in
    let q = c.in_ok-program.program in
    record {
      program = record {
        tree = tree;
        has = has_tree text c.in_ok-tokens.tokens tree c.in_ok-tokens.ensures.exact c.in_ok-tokens.ensures.text c.in_ok-tree.ensures.found;
        types = c.in_ok-program.ensures.typed;
      };
      fits = fits_all (program_of q) (coarse (program_of q)) q.funcs.items (ap (λ (l : Placement). first_too_large (program_of q) l q.funcs.items) (sym c.in_ok-placement.ensures) ∙ c.in_ok-layouts.ensures.small);
    }
