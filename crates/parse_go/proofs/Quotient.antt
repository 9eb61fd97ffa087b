-- A terminal of a text divides the texts by it from the left.
use Rattle.std.proofs.Common.{◌≡◌, ℕ, List, [], ◌∷◌, subst}
use Rattle.base.specs.declared.pos.Pos.{Pos}
use Rattle.syntax.specs.declared.expression.Name.{Name}
use Rattle.syntax.specs.Declarations.{Parameters, types, File}
use Rattle.parse_expressions.specs.declared.terminal.Terminal.{Terminal}
use Rattle.parse_expressions.specs.declared.terminal.Terminal.TheVariants.{Identifier, Package, Semicolon, LeftParen}
use Rattle.parse_expressions.specs.Grammar.{Mark, inside}
use Rattle.parse_expressions.specs.Machine as expression
use Rattle.parse_expressions.proofs.Following.{Iff}
use Rattle.parse_expressions.proofs.Quotient.{quotient as expression_quotient}
use Rattle.parse_simple_statements.specs.Grammar.{Declares}
use Rattle.parse_simple_statements.specs.ValueSpecs.{Specs}
use Rattle.parse_simple_statements.specs.ValueSpecs as value_specs
use Rattle.parse_statements.specs.Bodies as bodies
use Rattle.parse_simple_statements.proofs.Marks.{next_read, next_other, next_at_read, next_at_other, iff_same, iff_trans}
use Rattle.parse_simple_statements.proofs.ValueSpecsFollowing as values_following
use Rattle.parse_statements.proofs.BodiesFollowing as bodies_following
use Rattle.parse_simple_statements.proofs.ValueSpecsQuotient.{quotient as values_quotient}
use Rattle.parse_statements.proofs.BodiesQuotient.{quotient as bodies_quotient}
use Rattle.parse_go.specs.TypeSpecs.{Types}
use Rattle.parse_go.specs.TypeSpecs as type_specs
use Rattle.parse_go.specs.Parameters.{at_name_or_type}
use Rattle.parse_go.specs.Parameters as parameters
use Rattle.parse_go.specs.Machine.{Named, Signature, State, at_package, at_package_name, at_package_end, at_declaration, in_values, in_types, at_function, at_opening, in_params, at_results, in_result, in_results, at_body, in_body, at_end, with_declaration, values_declared, after_values, after_types, after_params, result_context, after_results, after_body, step, nesting_values, nesting_types, nesting}
use Rattle.parse_go.proofs.Types.{type_apart}
use Rattle.parse_go.proofs.TypeSpecsFollowing as types_following
use Rattle.parse_go.proofs.TypeSpecsQuotient.{quotient as types_quotient}
use Rattle.parse_go.proofs.ParametersFollowing as parameters_following
use Rattle.parse_go.proofs.ParametersQuotient.{quotient as parameters_quotient}
use Rattle.parse_go.proofs.Following.{NextName, FromDeclarations, FromResults, FromOpening, FromPackageEnd, FromPackageName, ValuesDeclared, TypesDeclared, ResultRead, ResultsRead, BodyRead, Rest, Follows, ValidState}
use Rattle.parse_go.proofs.DeclarationSteps.{declaration_step, end_step, end_first}
use Rattle.parse_go.proofs.FunctionSteps.{body_step, after_result_step, results_step}

name_read : (Then : Name → List Mark → Type 0) (x : Name) (j : ℕ) (w : List Mark) → Iff (NextName Then (inside (Identifier x) j ∷ w)) ((j ≡ 0) × Then x w)
name_read Then x j w = (
  λ h.
      let n = h.follows in
      let same_w : n.rest ≡ w = cc (n.mark) in
      let same_x : h.name ≡ x = cc (n.mark) in
      (cc (n.mark), subst (λ (y : Name). Then y w) same_x (subst (Then h.name) same_w n.follows)),
  λ h. record { name = x; follows = (next_read (Identifier x) 0 (Then x) j w).1 h },
)

no_name : (Then : Name → List Mark → Type 0) (t : Terminal) (j : ℕ) (w : List Mark) → ((x : Name) → t ≡ Identifier x → ⊥) → NextName Then (inside t j ∷ w) → ⊥
no_name Then t j w other h = next_other (Identifier h.name) 0 (Then h.name) t j w (λ e. other h.name e) h.follows

module _ (tree : File) where
  -- ---- the name of the package, and the head of a function

  package_step : (t : Terminal) (j : ℕ) (w : List Mark) → Iff (Rest at_package tree (inside t j ∷ w)) ((j ≡ 0) × Follows (step at_package t) tree w)
  package_step Package j w = next_read Package 0 (FromPackageName tree) j w
  package_step t j w = (λ h. absurd (next_other Package 0 (FromPackageName tree) t j w (λ e. cc (e)) h), λ h. absurd h.1)

  package_name_step : (t : Terminal) (j : ℕ) (w : List Mark) → Iff (FromPackageName tree (inside t j ∷ w)) ((j ≡ 0) × Follows (step at_package_name t) tree w)
  package_name_step (Identifier x) j w = name_read (λ y. FromPackageEnd y tree) x j w
  package_name_step t j w = (λ h. absurd (no_name (λ y. FromPackageEnd y tree) t j w (λ x e. cc (e)) h), λ h. absurd h.1)

  package_end_step : (x : Name) (t : Terminal) (j : ℕ) (w : List Mark) → Iff (FromPackageEnd x tree (inside t j ∷ w)) ((j ≡ 0) × Follows (step (at_package_end x) t) tree w)
  package_end_step x Semicolon j w = next_read Semicolon 0 (FromDeclarations (record { package_name = x; declarations = [] }) tree) j w
  package_end_step x t j w = (λ h. absurd (next_other Semicolon 0 (FromDeclarations (record { package_name = x; declarations = [] }) tree) t j w (λ e. cc (e)) h), λ h. absurd h.1)

  function_step : (f : File) (pos : Pos) (t : Terminal) (j : ℕ) (w : List Mark) → Iff (Rest (at_function f pos) tree (inside t j ∷ w)) ((j ≡ 0) × Follows (step (at_function f pos) t) tree w)
  function_step f pos (Identifier x) j w = name_read (λ y. FromOpening (record { file = f; pos = pos; name = y }) tree) x j w
  function_step f pos t j w = (λ h. absurd (no_name (λ y. FromOpening (record { file = f; pos = pos; name = y }) tree) t j w (λ x e. cc (e)) h), λ h. absurd h.1)

  opening_step : (n : Named) (t : Terminal) (j : ℕ) (w : List Mark) → Iff (FromOpening n tree (inside t j ∷ w)) ((j ≡ 0) × Follows (step (at_opening n) t) tree w)
  opening_step n (LeftParen q) j w = next_at_read LeftParen 0 (λ p. parameters_following.Rest (λ ps. FromResults n ps tree) (at_name_or_type [])) q j w (λ p e. cc (e))
  opening_step n t j w = (λ h. absurd (next_at_other LeftParen 0 (λ p. parameters_following.Rest (λ ps. FromResults n ps tree) (at_name_or_type [])) t j w (λ p e. cc (e)) h), λ h. absurd h.1)

  -- ---- the machines of the parts

  pub values_apart : (f : File) (k : Declares) (pos : Pos) → values_following.Apart (ValuesDeclared f k pos tree)
  values_apart f k pos = record { never = λ specs t j w on h. subst values_following.GoesOn (end_first tree (with_declaration f (values_declared k pos specs)) t j w h) on }

  after_values_step : (f : File) (k : Declares) (pos : Pos) (s : Specs) (t : Terminal) (j : ℕ) (w : List Mark) (p : value_specs.Progress) → Iff (values_following.After k 0 (ValuesDeclared f k pos tree) p (value_specs.nesting 0 s t) t j w) ((j ≡ nesting_values s t p) × Follows (after_values f k pos t p) tree w)
  after_values_step f k pos s t j w value_specs.fails = (λ h. absurd h, λ h. h.1)
  after_values_step f k pos s t j w (value_specs.goes n) = iff_same _
  after_values_step f k pos s t j w (value_specs.ends specs) = end_step tree (with_declaration f (values_declared k pos specs)) t j w

  after_types_step : (f : File) (pos : Pos) (s : Types) (t : Terminal) (j : ℕ) (w : List Mark) (p : type_specs.Progress) → Iff (types_following.After (TypesDeclared f pos tree) p (type_specs.nesting s t) t j w) ((j ≡ nesting_types s t p) × Follows (after_types f pos t p) tree w)
  after_types_step f pos s t j w type_specs.fails = (λ h. absurd h, λ h. h.1)
  after_types_step f pos s t j w (type_specs.goes n) = iff_same _
  after_types_step f pos s t j w (type_specs.ends specs) = end_step tree (with_declaration f (types pos specs)) t j w

  after_params_step : (n : Named) (i j : ℕ) (w : List Mark) (p : parameters.Progress) → Iff (parameters_following.After (λ ps. FromResults n ps tree) p i j w) ((j ≡ i) × Follows (after_params n p) tree w)
  after_params_step n i j w parameters.fails = (λ h. absurd h, λ h. h.1)
  after_params_step n i j w (parameters.goes p) = iff_same _
  after_params_step n i j w (parameters.ends ps) = iff_same _

  after_results_step : (n : Named) (ps : Parameters) (i j : ℕ) (w : List Mark) (p : parameters.Progress) → Iff (parameters_following.After (ResultsRead n ps tree) p i j w) ((j ≡ i) × Follows (after_results n ps p) tree w)
  after_results_step n ps i j w parameters.fails = (λ h. absurd h, λ h. h.1)
  after_results_step n ps i j w (parameters.goes p) = iff_same _
  after_results_step n ps i j w (parameters.ends rs) = iff_same _

  after_body_step : (s : Signature) (i j : ℕ) (w : List Mark) (p : bodies.Progress) → Iff (bodies_following.After (BodyRead s tree) p i j w) ((j ≡ i) × Follows (after_body s p) tree w)
  after_body_step s i j w bodies.fails = (λ h. absurd h, λ h. h.1)
  after_body_step s i j w (bodies.goes b) = iff_same _
  after_body_step s i j w (bodies.ends ss end) = iff_same _

  pub quotient : (s : State) (t : Terminal) (j : ℕ) (w : List Mark) → ValidState s → Iff (Rest s tree (inside t j ∷ w)) ((j ≡ nesting s t) × Follows (step s t) tree w)
  quotient at_package t j w valid = package_step t j w
  quotient at_package_name t j w valid = package_name_step t j w
  quotient (at_package_end x) t j w valid = package_end_step x t j w
  quotient (at_declaration f) t j w valid = declaration_step tree f t j w
  quotient (in_values f k pos s) t j w valid = iff_trans _ _ _ (values_quotient k 0 (ValuesDeclared f k pos tree) s t j w valid (values_apart f k pos)) (after_values_step f k pos s t j w (value_specs.step k 0 s t))
  quotient (in_types f pos s) t j w valid = iff_trans _ _ _ (types_quotient (TypesDeclared f pos tree) s t j w valid) (after_types_step f pos s t j w (type_specs.step s t))
  quotient (at_function f pos) t j w valid = function_step f pos t j w
  quotient (at_opening n) t j w valid = opening_step n t j w
  quotient (in_params n p) t j w valid = iff_trans _ _ _ (parameters_quotient (λ ps. FromResults n ps tree) p t j w valid) (after_params_step n (parameters.nesting p t) j w (parameters.step p t))
  quotient (at_results n ps) t j w valid = results_step tree n ps t j w
  quotient (in_result n ps o) t j w valid = iff_trans _ _ _ (expression_quotient result_context (ResultRead n ps tree) o t j w valid (type_apart 0 (ResultRead n ps tree))) (after_result_step tree n ps o t j w (expression.step result_context o t))
  quotient (in_results n ps p) t j w valid = iff_trans _ _ _ (parameters_quotient (ResultsRead n ps tree) p t j w valid) (after_results_step n ps (parameters.nesting p t) j w (parameters.step p t))
  quotient (at_body s) t j w valid = body_step tree s t j w
  quotient (in_body s b) t j w valid = iff_trans _ _ _ (bodies_quotient (BodyRead s tree) b t j w valid) (after_body_step s (bodies.nesting b t) j w (bodies.step b t))
  quotient (at_end f) t j w valid = end_step tree f t j w
