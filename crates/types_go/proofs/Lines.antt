-- The parts of a function.
use Rattle.std.proofs.Common.{◌≡◌, ℕ, List, Option, Some, ap, ◌∙◌, length}
use Rattle.syntax.specs.Declarations.{Body, Function as TreeFunction}
use Rattle.typed_syntax.specs.Syntax.{Sts}
use Rattle.names.specs.Scope.{Scope}
use Rattle.signatures.specs.declared.slots.Slot.{Slot}
use Rattle.function_heads.specs.HeadTypes.{slots_of}
use Rattle.types_go.specs.Functions.{param_entries, result_entries, behind_body, body_of, parts}
use Rattle.function_heads.specs.Assembled.{assembled}

-- a function of its parts
pub parts_of : (text : List ℕ) (heads s : Scope) (g : TreeFunction) (b : Body) (params results : List Slot) (first behind : ℕ) (ps rs : Option (List (Option ℕ))) (body : Option Sts)
    → params ≡ slots_of text heads g.params → results ≡ slots_of text heads g.results → first ≡ length s.sites → behind ≡ length (behind_body text heads s g (Some b)).sites → ps ≡ param_entries text heads s g → rs ≡ result_entries text heads s g → body ≡ body_of text heads s g b
    → assembled heads.types params results first behind ps rs body ≡ parts text heads s g b
parts_of text heads s g b params results first behind ps rs body j i a c d e h =
    let all = slots_of text heads g.results in
    let before1 = slots_of text heads g.params in
    let last1 = length (behind_body text heads s g (Some b)).sites in
    ap (λ (l : List Slot). assembled heads.types l results first behind ps rs body) j ∙ ap (λ (l : List Slot). assembled heads.types before1 l first behind ps rs body) i ∙ ap (λ x. assembled heads.types before1 all x behind ps rs body) a
    ∙ ap (λ x. assembled heads.types before1 all (length s.sites) x ps rs body) c ∙ ap (λ x. assembled heads.types before1 all (length s.sites) last1 x rs body) d ∙ ap (λ x. assembled heads.types before1 all (length s.sites) last1 (param_entries text heads s g) x body) e
    ∙ ap (λ x. assembled heads.types before1 all (length s.sites) last1 (param_entries text heads s g) (result_entries text heads s g) x) h
