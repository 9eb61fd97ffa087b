-- How deep a chain of else-ifs is.
use Rattle.std.proofs.Common.{◌≡◌, ℕ, ◌+◌, List, [], ◌∷◌, ◌++◌, length, ap, ◌∙◌, arith}
use Rattle.std.specs.Prelude.{map, reverse}
use Rattle.std.proofs.lemmas.List.{length-map, length-reverse, map-append, reverse-append}
use Rattle.parse_statements.specs.declared.outer.Branch.{Branch as CodeBranch}
use Rattle.parse_statements.specs.declared.outer.Outer.{Outer as CodeOuter}
use Rattle.parse_statements.specs.Outer.{Branch, chain_depth}
use Rattle.parse_statements.specs.Outers.{branch_of, branches_of, outer_of, outers_of}

chain_depth_is : (bs : List Branch) (d : ℕ) → chain_depth bs d ≡ d + length bs
chain_depth_is [] d = omega arith
chain_depth_is (b ∷ bs) d = omega (arith, chain_depth_is bs d)

pub code_chain_depth : (bs : List CodeBranch) (d : ℕ) → chain_depth (branches_of bs) d ≡ d + length bs
code_chain_depth bs d = chain_depth_is (branches_of bs) d ∙ ap (λ (n : ℕ). d + n) (length-reverse (map branch_of bs) ∙ length-map bs branch_of)

-- the innermost block is taken away
pub popped : (all others : List CodeOuter) (x : CodeOuter) → all ≡ others ++ x ∷ [] → outers_of all ≡ outer_of x ∷ outers_of others
popped all others x is = ap outers_of is ∙ ap reverse (map-append outer_of others (x ∷ [])) ∙ reverse-append (map outer_of others) (outer_of x ∷ [])
