use Rattle.std.proofs.Common.{◌≡◌, ℕ, ◌+◌, [], ◌∷◌, ◌++◌, List, refl, rules, sym, ap, ◌∙◌, map, length, arith, append-nil, length-append}
use Rattle.std.specs.Vec.Iter.{into_iter_items}
use Rattle.typed_syntax.specs.Syntax.{Piece}
use Rattle.typed.specs.View.{piece_of}
use Rattle.typed.specs.declared.stmt.Piece.{Piece as PieceData}
use Rattle.names.specs.Scope.{Scope, scope_of, with_strings}
use Rattle.given_values.specs.declared.gives.Part.{Part}
use Rattle.given_values.specs.Given.{Part as PartView}
use Rattle.given_values.specs.Passing.{part_view}
use Rattle.type_faults.proofs.Lists.{no_items}
use Rattle.simple_statements.proofs.operands.pieces.Goals as goal
use Rattle.simple_statements.specs.SimpleStatements.{strings_of, piece_from, pieces_from}
use Rattle.simple_statements.proofs.Strings.{no_strings, strings_twice, strings_first, pieces_first, piece_more}

pub loop-part-init : goal.loop-part-init
loop-part-init c =
    let began = c.into_iter-part-iterator.ensures.into_iter_gives in
    let same : into_iter_items c.into_iter-part-iterator.result ≡ c.args.parts.items = search rules in
    (rw (c.new-pieces.ensures.items, same) refl, rw (same) refl, search (rules, began))

pub loop-part-preserved : goal.loop-part-preserved
loop-part-preserved c =
    let old = into_iter_items c.loop-part.part-iterator in
    let rest = into_iter_items c.next.new.self in
    let part : Part = c.in-Some.part in
    let p : PartView = part_view part in
    let ps : List PartView = map part_view rest in
    let s : Scope = scope_of c.loop-part.scope in
    let n : ℕ = length s.strings in
    let q : PieceData = c.in_ok-piece.piece in
    let so_far : List PieceData = c.loop-part.pieces.items in
    let step = c.in-Some.ensures.steps in
    let front : old ≡ part ∷ rest = step.0 in
    let behind : scope_of c.numbered.new.scope ≡ with_strings s (strings_of (p ∷ [])) = c.in_ok-piece.ensures.scope in
    let longer : length (with_strings s (strings_of (p ∷ []))).strings ≡ n + length (strings_of (p ∷ [])) = length-append s.strings (strings_of (p ∷ [])) in
    let counted : length (scope_of c.numbered.new.scope).strings ≡ length (strings_of (p ∷ [])) + n = ap (λ (v : Scope). length v.strings) behind ∙ omega (arith, longer) in
    let numbered : piece_of q ≡ piece_from n p = c.in_ok-piece.ensures.piece in (
      c.loop-part.invariant.0 ∙ ap (λ (l : List Part). map piece_of so_far ++ pieces_from n (map part_view l)) front ∙ ap (λ (l : List Piece). map piece_of so_far ++ l) (pieces_first n p ps)
          ∙ ap (λ (x : Piece). map piece_of so_far ++ (x ∷ pieces_from (length (strings_of (p ∷ [])) + n) ps)) (sym numbered) ∙ sym (piece_more so_far q (pieces_from (length (strings_of (p ∷ [])) + n) ps))
          ∙ ap (λ (l : List PieceData). map piece_of l ++ pieces_from (length (strings_of (p ∷ [])) + n) ps) (sym c.in_ok-push.ensures.items) ∙ ap (λ (k : ℕ). map piece_of c.push.new.self.items ++ pieces_from k ps) (sym counted),
      c.loop-part.invariant.1 ∙ ap (λ (l : List Part). with_strings s (strings_of (map part_view l))) front ∙ ap (λ (l : List (List ℕ)). with_strings s l) (sym (strings_first p ps))
          ∙ sym (strings_twice s (strings_of (p ∷ [])) (strings_of ps)) ∙ ap (λ (v : Scope). with_strings v (strings_of ps)) (sym behind),
      omega (arith, step.1, c.loop-part.invariant.2, ap length front),
    )

pub returns-clause-pieces : goal.returns-clause-pieces
returns-clause-pieces c =
    let old = into_iter_items c.loop-part.part-iterator in
    let n : ℕ = length (scope_of c.loop-part.scope).strings in
    let so_far : List PieceData = c.loop-part.pieces.items in
    let empty : old ≡ [] = no_items old (omega (arith, c.in-None.ensures.steps.0, c.loop-part.invariant.2)) in
    sym (c.loop-part.invariant.0 ∙ ap (λ (l : List Part). map piece_of so_far ++ pieces_from n (map part_view l)) empty ∙ append-nil (map piece_of so_far))

pub returns-clause-scope : goal.returns-clause-scope
returns-clause-scope c =
    let old = into_iter_items c.loop-part.part-iterator in
    let s : Scope = scope_of c.loop-part.scope in
    let empty : old ≡ [] = no_items old (omega (arith, c.in-None.ensures.steps.0, c.loop-part.invariant.2)) in
    sym (c.loop-part.invariant.1 ∙ ap (λ (l : List Part). with_strings s (strings_of (map part_view l))) empty ∙ no_strings s)
