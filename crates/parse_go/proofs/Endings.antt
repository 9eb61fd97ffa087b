-- A text ends only where a declaration may begin.
use Rattle.std.proofs.Common.{◌≡◌, List, [], ◌∷◌, ◌++◌, Option, Some, None, refl, sym, ap, subst, ◌∙◌}
use Rattle.std.proofs.lemmas.List.{append-nil}
use Rattle.syntax.specs.Declarations.{Parameters, unnamed, Body, Declaration, constants, variables, types, function, File}
use Rattle.syntax.specs.Expressions.{none, some}
use Rattle.parse_expressions.specs.Grammar.{Mark}
use Rattle.parse_expressions.proofs.TextEnds.{unfinished as expression_unfinished}
use Rattle.parse_simple_statements.proofs.ValueSpecsBegins.{unfinished as values_unfinished}
use Rattle.parse_statements.proofs.BodiesBegins.{unfinished as bodies_unfinished}
use Rattle.parse_go.specs.Grammar.{AreResults, no_results, one_result, results, ReadsBody, AreDeclarations}
use Rattle.parse_go.specs.Machine.{Named, Signature, State, at_package, at_package_name, at_package_end, at_declaration, in_values, in_types, at_function, at_opening, in_params, at_results, in_result, in_results, at_body, in_body, at_end, with_declaration, with_results, with_function, values_declared, result_context}
use Rattle.parse_go.proofs.Types.{OneType, type_some}
use Rattle.parse_go.proofs.TypeSpecsBegins.{unfinished as types_unfinished}
use Rattle.parse_go.proofs.ParametersBegins.{unfinished as parameters_unfinished}
use Rattle.parse_go.proofs.Following.{FromDeclarations, FromEnd, FromBody, FromResults, ValuesDeclared, TypesDeclared, ResultRead, ResultsRead, BodyRead, Rest}

end_more : (f tree : File) → FromEnd f tree [] → ⊥
end_more f tree h = cc (h.mark)

pub body_more : (s : Signature) (tree : File) → FromBody s tree [] → ⊥
body_more s tree h = to h.body h.reads h.follows
  where
    to : (b : Option Body) → ReadsBody b [] h.rest → FromEnd (with_function s b) tree h.rest → ⊥
    to None r k = end_more (with_function s None) tree (subst (FromEnd (with_function s None) tree) (sym r) k)
    to (Some b) r k = cc (r.2)

results_more : (n : Named) (ps : Parameters) (tree : File) → FromResults n ps tree [] → ⊥
results_more n ps tree h = to [] refl h.results h.rest h.reads h.follows
  where
    to : (ts : List Mark) → ts ≡ [] → (rs : Parameters) (m : List Mark) → AreResults rs ts m → FromBody (with_results n ps rs) tree m → ⊥
    to ts is _ _ no_results k = body_more (with_results n ps (unnamed none)) tree (subst (FromBody (with_results n ps (unnamed none)) tree) is k)
    to ts is _ m (one_result {t = t} bare r) k = type_some 0 (λ e rest. Unit {0}) (subst (OneType 0 (λ e rest. Unit {0})) is (record { whole = t; rest = m; reads = r; follows = tt }))
    to _ is _ _ (results a) k = cc (is)

declarations_more : (f tree : File) → FromDeclarations f tree [] → tree ≡ f
declarations_more f tree h = to h.others h.reads h.whole
  where
    to : (ds : List Declaration) → AreDeclarations ds [] → tree ≡ record { package_name = f.package_name; declarations = f.declarations ++ ds } → tree ≡ f
    to [] r is = is ∙ ap (λ (l : List Declaration). record { package_name = f.package_name; declarations = l }) (append-nil f.declarations)
    to (constants q specs ∷ ds) r is = let d = r.1 in absurd (cc (d.1))
    to (variables q specs ∷ ds) r is = let d = r.1 in absurd (cc (d.1))
    to (types q specs ∷ ds) r is = let d = r.1 in absurd (cc (d.1))
    to (function g ∷ ds) r is = let d = r.1 in absurd (cc (d.4))

pub unfinished : (s : State) (tree : File) → Rest s tree [] → (f : File) × (s ≡ at_declaration f) × (tree ≡ f)
unfinished at_package tree h = absurd (cc (h.mark))
unfinished at_package_name tree h = let n = h.follows in absurd (cc (n.mark))
unfinished (at_package_end x) tree h = absurd (cc (h.mark))
unfinished (at_declaration f) tree h = (f, refl, declarations_more f tree h)
unfinished (in_values f k pos s) tree h =
    let i = values_unfinished k 0 (ValuesDeclared f k pos tree) s h in
    absurd (end_more (with_declaration f (values_declared k pos i.0)) tree i.1)
unfinished (in_types f pos s) tree h =
    let i = types_unfinished (TypesDeclared f pos tree) s h in
    absurd (end_more (with_declaration f (types pos i.0)) tree i.1)
unfinished (at_function f pos) tree h = let n = h.follows in absurd (cc (n.mark))
unfinished (at_opening n) tree h = absurd (cc (h.mark))
unfinished (in_params n p) tree h = absurd (parameters_unfinished (λ ps. FromResults n ps tree) p h)
unfinished (at_results n ps) tree h = absurd (results_more n ps tree h)
unfinished (in_result n ps o) tree h =
    let i = expression_unfinished result_context (ResultRead n ps tree) o h in
    absurd (body_more (with_results n ps (unnamed (some i.0 none))) tree i.1)
unfinished (in_results n ps p) tree h = absurd (parameters_unfinished (ResultsRead n ps tree) p h)
unfinished (at_body s) tree h = absurd (body_more s tree h)
unfinished (in_body s b) tree h = absurd (bodies_unfinished (BodyRead s tree) b h)
unfinished (at_end f) tree h = absurd (end_more f tree h)
