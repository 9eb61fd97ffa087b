-- Where calls stand is the same in scopes whose names stand for the same.
use Rattle.std.proofs.Common.{◌≡◌, ℕ, List, Option, Some, None, refl, ap, ap₂}
use Rattle.std.specs.Option.{unwrap_or}
use Rattle.base.specs.declared.pos.Pos.{Pos}
use Rattle.syntax.specs.declared.expression.Name.{Name}
use Rattle.syntax.specs.FirstBytes.{first_pos}
use Rattle.syntax.specs.Expressions.{Ex as TreeEx, Exs as TreeExs, Bound, Elements as TreeElements, spelled}
use Rattle.syntax.specs.Expressions as tree
use Rattle.names.specs.Scope.{Scope, declaration}
use Rattle.names.specs.Naming.{name_in}
use Rattle.operand_calls.specs.Calls.{first_of, counts, call_at, counts_named, first_call, first_call_at, first_call_in, first_call_among, call_pos}

module _ (text : List ℕ) (r s : Scope) (same : (word : List ℕ) → declaration r word ≡ declaration s word) where
  counts_alike : (o : Option Name) → counts_named text r o ≡ counts_named text s o
  counts_alike None = refl
  counts_alike (Some n) = ap counts (same (spelled text n))

  mutual
    pub first_alike : (e : TreeEx) → first_call text r e ≡ first_call text s e
    first_alike (tree.number pos n) = refl
    first_alike (tree.string pos end) = refl
    first_alike (tree.name n) = refl
    first_alike (tree.unary pos op e) = first_alike e
    first_alike (tree.binary pos op a b) = ap₂ first_of (first_alike a) (first_alike b)
    first_alike (tree.paren pos e) = first_alike e
    first_alike (tree.call f es spread) = ap₂ (λ b inner. call_at b (first_pos f) inner) (counts_alike (name_in f)) (each_alike es)
    first_alike (tree.selector e pos n) = first_alike e
    first_alike (tree.index e pos i) = ap₂ first_of (first_alike e) (first_alike i)
    first_alike (tree.slice e pos low high) = ap₂ first_of (first_alike e) (ap₂ first_of (bound_alike low) (bound_alike high))
    first_alike (tree.array_type pos len e) = refl
    first_alike (tree.slice_type pos e) = refl
    first_alike (tree.literal t es) = among_alike es
    first_alike (tree.elements pos es) = among_alike es

    bound_alike : (b : Bound) → first_call_at text r b ≡ first_call_at text s b
    bound_alike tree.no_bound = refl
    bound_alike (tree.bound_at e) = first_alike e

    each_alike : (es : TreeExs) → first_call_in text r es ≡ first_call_in text s es
    each_alike tree.none = refl
    each_alike (tree.some e es) = ap₂ first_of (first_alike e) (each_alike es)

    among_alike : (es : TreeElements) → first_call_among text r es ≡ first_call_among text s es
    among_alike tree.no_elements = refl
    among_alike (tree.element key e es) = ap₂ first_of (first_alike e) (among_alike es)

  -- and so is where a call is reported
  pub call_pos_alike : (e : TreeEx) → call_pos text r e ≡ call_pos text s e
  call_pos_alike e = ap (λ (o : Option Pos). unwrap_or o (first_pos e)) (first_alike e)
