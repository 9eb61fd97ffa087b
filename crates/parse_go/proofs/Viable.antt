-- What each state keeps, and that some text follows in each of them.
use Rattle.std.proofs.Common.{◌≡◌, List, [], ◌∷◌, ◌++◌, Some, None, refl, sym, ap}
use Rattle.std.proofs.lemmas.List.{append-nil}
use Rattle.base.specs.declared.pos.Pos.{Pos}
use Rattle.syntax.specs.declared.expression.Name.{Name}
use Rattle.syntax.specs.Expressions.{Ex, none, some}
use Rattle.syntax.specs.Statements.{ValueSpec, Stms}
use Rattle.syntax.specs.Declarations.{Parameters, unnamed, TypeSpec, Declaration, types, File}
use Rattle.parse_expressions.specs.declared.terminal.Terminal.{Terminal}
use Rattle.parse_expressions.specs.declared.terminal.Terminal.TheVariants.{Identifier, Package, Const, Var, «Type» as type_word, Func, Semicolon, LeftParen, LeftBrace}
use Rattle.parse_expressions.specs.Grammar.{Mark, inside}
use Rattle.parse_expressions.specs.Machine.{Open, at_type_operand}
use Rattle.parse_expressions.specs.Machine as expression
use Rattle.parse_expressions.proofs.Following as expressions
use Rattle.parse_expressions.proofs.Viable.{valid_next as expression_valid, viable as expression_viable}
use Rattle.parse_simple_statements.specs.Grammar.{Declares}
use Rattle.parse_simple_statements.specs.ValueSpecs.{Specs}
use Rattle.parse_simple_statements.specs.ValueSpecs as value_specs
use Rattle.parse_statements.specs.Bodies as bodies
use Rattle.parse_simple_statements.proofs.ValueSpecsFollowing as values_following
use Rattle.parse_statements.proofs.BodiesFollowing as bodies_following
use Rattle.parse_simple_statements.proofs.ValueSpecsViable.{valid_next as values_valid_next, viable as values_viable}
use Rattle.parse_statements.proofs.BodiesViable.{valid_next as bodies_valid_next, viable as bodies_viable}
use Rattle.parse_go.specs.Grammar.{no_results}
use Rattle.parse_go.specs.TypeSpecs.{Types}
use Rattle.parse_go.specs.TypeSpecs as type_specs
use Rattle.parse_go.specs.Parameters.{Params, at_name_or_type}
use Rattle.parse_go.specs.Parameters as parameters
use Rattle.parse_go.specs.Machine.{Named, Signature, State, at_package, at_package_name, at_package_end, at_declaration, in_values, in_types, at_function, at_opening, in_params, at_results, in_result, in_results, at_body, in_body, at_end, with_declaration, with_results, with_function, values_declared, ends_declaration, after_values, after_types, after_params, behind_results, result_context, after_result, after_results, after_body, step}
use Rattle.parse_go.proofs.Types.{type_valid}
use Rattle.parse_go.proofs.TypeSpecsFollowing as types_following
use Rattle.parse_go.proofs.TypeSpecsViable.{origin, some_word, valid_next as types_valid_next, viable as types_viable}
use Rattle.parse_go.proofs.ParametersFollowing as parameters_following
use Rattle.parse_go.proofs.ParametersViable.{valid_next as parameters_valid_next, viable as parameters_viable}
use Rattle.parse_go.proofs.Following.{FromDeclarations, FromEnd, FromBody, FromResults, FromOpening, FromPackageEnd, FromPackageName, ValuesDeclared, TypesDeclared, ResultRead, ResultsRead, BodyRead, Rest, ValidState, ValidNext}
use Rattle.parse_go.proofs.Quotient.{values_apart}
use Rattle.parse_go.proofs.Endings.{body_more}
use Rattle.parse_go.proofs.Choices.{ForSome, ForSomeBody, choose_type, choose_values, choose_types, choose_parameters, choose_body}

-- ---- what each state keeps

ends_valid : (f : File) (t : Terminal) → ValidNext (ends_declaration f t)
ends_valid f Semicolon = tt
ends_valid f t = tt

after_values_valid : (f : File) (k : Declares) (pos : Pos) (t : Terminal) (p : value_specs.Progress) → values_following.ValidNext 0 p → ValidNext (after_values f k pos t p)
after_values_valid f k pos t value_specs.fails valid = tt
after_values_valid f k pos t (value_specs.goes s) valid = valid
after_values_valid f k pos t (value_specs.ends specs) valid = ends_valid (with_declaration f (values_declared k pos specs)) t

after_types_valid : (f : File) (pos : Pos) (t : Terminal) (p : type_specs.Progress) → types_following.ValidNext p → ValidNext (after_types f pos t p)
after_types_valid f pos t type_specs.fails valid = tt
after_types_valid f pos t (type_specs.goes s) valid = valid
after_types_valid f pos t (type_specs.ends specs) valid = ends_valid (with_declaration f (types pos specs)) t

after_params_valid : (n : Named) (p : parameters.Progress) → parameters_following.ValidNext p → ValidNext (after_params n p)
after_params_valid n parameters.fails valid = tt
after_params_valid n (parameters.goes p) valid = valid
after_params_valid n (parameters.ends ps) valid = tt

results_valid : (s : Signature) (t : Terminal) → ValidNext (behind_results s t)
results_valid s (LeftBrace q) = tt
results_valid s t = ends_valid (with_function s None) t

after_result_valid : (n : Named) (ps : Parameters) (t : Terminal) (p : expression.Progress) → expressions.ValidNext result_context p → ValidNext (after_result n ps t p)
after_result_valid n ps t expression.fails valid = tt
after_result_valid n ps t (expression.goes o) valid = valid
after_result_valid n ps t (expression.ends e) valid = results_valid (with_results n ps (unnamed (some e none))) t

after_results_valid : (n : Named) (ps : Parameters) (p : parameters.Progress) → parameters_following.ValidNext p → ValidNext (after_results n ps p)
after_results_valid n ps parameters.fails valid = tt
after_results_valid n ps (parameters.goes p) valid = valid
after_results_valid n ps (parameters.ends rs) valid = tt

after_body_valid : (s : Signature) (p : bodies.Progress) → bodies_following.ValidNext p → ValidNext (after_body s p)
after_body_valid s bodies.fails valid = tt
after_body_valid s (bodies.goes b) valid = valid
after_body_valid s (bodies.ends ss end) valid = tt

package_valid : (t : Terminal) → ValidNext (step at_package t)
package_valid Package = tt
package_valid t = tt

package_name_valid : (t : Terminal) → ValidNext (step at_package_name t)
package_name_valid (Identifier x) = tt
package_name_valid t = tt

package_end_valid : (x : Name) (t : Terminal) → ValidNext (step (at_package_end x) t)
package_end_valid x Semicolon = tt
package_end_valid x t = tt

declaration_valid : (f : File) (t : Terminal) → ValidNext (step (at_declaration f) t)
declaration_valid f (Const q) = tt
declaration_valid f (Var q) = tt
declaration_valid f (type_word q) = tt
declaration_valid f (Func q) = tt
declaration_valid f t = tt

function_valid : (f : File) (pos : Pos) (t : Terminal) → ValidNext (step (at_function f pos) t)
function_valid f pos (Identifier x) = tt
function_valid f pos t = tt

opening_valid : (n : Named) (t : Terminal) → ValidNext (step (at_opening n) t)
opening_valid n (LeftParen q) = tt
opening_valid n t = tt

at_results_valid : (n : Named) (ps : Parameters) (t : Terminal) → ValidNext (step (at_results n ps) t)
at_results_valid n ps (LeftParen q) = tt
at_results_valid n ps (LeftBrace q) = tt
at_results_valid n ps Semicolon = tt
at_results_valid n ps t = after_result_valid n ps t (expression.step result_context (at_type_operand []) t) (expression_valid result_context (at_type_operand []) t (type_valid 0))

pub valid_step : (s : State) (t : Terminal) → ValidState s → ValidNext (step s t)
valid_step at_package t valid = package_valid t
valid_step at_package_name t valid = package_name_valid t
valid_step (at_package_end x) t valid = package_end_valid x t
valid_step (at_declaration f) t valid = declaration_valid f t
valid_step (in_values f k pos s) t valid = after_values_valid f k pos t (value_specs.step k 0 s t) (values_valid_next k 0 s t valid)
valid_step (in_types f pos s) t valid = after_types_valid f pos t (type_specs.step s t) (types_valid_next s t valid)
valid_step (at_function f pos) t valid = function_valid f pos t
valid_step (at_opening n) t valid = opening_valid n t
valid_step (in_params n p) t valid = after_params_valid n (parameters.step p t) (parameters_valid_next p t valid)
valid_step (at_results n ps) t valid = at_results_valid n ps t
valid_step (in_result n ps o) t valid = after_result_valid n ps t (expression.step result_context o t) (expression_valid result_context o t valid)
valid_step (in_results n ps p) t valid = after_results_valid n ps (parameters.step p t) (parameters_valid_next p t valid)
valid_step (at_body s) t valid = results_valid s t
valid_step (in_body s b) t valid = after_body_valid s (bodies.step b t) (bodies_valid_next b t valid)
valid_step (at_end f) t valid = ends_valid f t

-- ---- some text follows

-- after a file no declaration follows
whole_again : (f : File) → f ≡ record { package_name = f.package_name; declarations = f.declarations ++ [] }
whole_again f = ap (λ (ds : List Declaration). record { package_name = f.package_name; declarations = ds }) (sym (append-nil f.declarations))

pub nothing_more : (f : File) → FromDeclarations f f []
nothing_more f = record { others = []; reads = refl; whole = whole_again f }

abbrev no_more : List Mark
no_more = inside Semicolon 0 ∷ []

end_some : (f : File) → FromEnd f f no_more
end_some f = record { rest = []; mark = refl; follows = nothing_more f }

body_some : (s : Signature) → FromBody s (with_function s None) no_more
body_some s = record { body = None; rest = no_more; reads = refl; follows = end_some (with_function s None) }

-- the function has neither results nor a body
abbrev shortest : Named → Parameters → File
shortest n ps = with_function (with_results n ps (unnamed none)) None

results_some : (n : Named) (ps : Parameters) → FromResults n ps (shortest n ps) no_more
results_some n ps = record { results = unnamed none; rest = no_more; reads = no_results; follows = body_some (with_results n ps (unnamed none)) }

-- in the parts
params_some : (n : Named) (p : Params) → parameters_following.Valid p → (w : List Mark) × (tree : File) × Rest (in_params n p) tree w
params_some n p valid =
    let v = parameters_viable (ForSome File Parameters (λ tree ps. FromResults n ps tree)) (λ ps. (no_more, (shortest n ps, results_some n ps))) p valid in
    let c = choose_parameters File (λ tree ps. FromResults n ps tree) v.0 p valid v.1 in
    (v.0, c.0, c.1)

in_results_some : (n : Named) (ps : Parameters) (p : Params) → parameters_following.Valid p → (w : List Mark) × (tree : File) × Rest (in_results n ps p) tree w
in_results_some n ps p valid =
    let v = parameters_viable (ForSome File Parameters (λ tree rs. ResultsRead n ps tree rs)) (λ rs. (no_more, (with_function (with_results n ps rs) None, body_some (with_results n ps rs)))) p valid in
    let c = choose_parameters File (λ tree rs. ResultsRead n ps tree rs) v.0 p valid v.1 in
    (v.0, c.0, c.1)

result_some : (n : Named) (ps : Parameters) (o : Open) → expressions.ValidOpen result_context o → (w : List Mark) × (tree : File) × Rest (in_result n ps o) tree w
result_some n ps o valid =
    let signature = λ (e : Ex). with_results n ps (unnamed (some e none)) in
    let v = expression_viable result_context (ForSome File Ex (λ tree e. ResultRead n ps tree e)) o valid (λ e is. (no_more, (with_function (signature e) None, body_some (signature e)))) in
    let c = choose_type File 0 (λ tree e. ResultRead n ps tree e) (λ tree e h. body_more (signature e) tree h) v.0 o valid v.1 in
    (v.0, c.0, c.1)

values_some : (f : File) (k : Declares) (pos : Pos) (s : Specs) → values_following.Valid 0 s → (w : List Mark) × (tree : File) × Rest (in_values f k pos s) tree w
values_some f k pos s valid =
    let v = values_viable k 0 (ForSome File (List ValueSpec) (λ tree specs. ValuesDeclared f k pos tree specs)) s valid (λ specs. (no_more, (with_declaration f (values_declared k pos specs), end_some (with_declaration f (values_declared k pos specs))))) in
    let c = choose_values File k 0 (λ tree specs. ValuesDeclared f k pos tree specs) (λ tree specs h. cc (h.mark)) (λ tree. values_apart tree f k pos) v.0 s valid v.1 in
    (v.0, c.0, c.1)

types_some : (f : File) (pos : Pos) (s : Types) → types_following.Valid s → (w : List Mark) × (tree : File) × Rest (in_types f pos s) tree w
types_some f pos s valid =
    let v = types_viable (ForSome File (List TypeSpec) (λ tree specs. TypesDeclared f pos tree specs)) (λ specs. (no_more, (with_declaration f (types pos specs), end_some (with_declaration f (types pos specs))))) s valid in
    let c = choose_types File (λ tree specs. TypesDeclared f pos tree specs) (λ tree specs h. cc (h.mark)) v.0 s valid v.1 in
    (v.0, c.0, c.1)

in_body_some : (s : Signature) (b : bodies.State) → bodies_following.Valid b → (w : List Mark) × (tree : File) × Rest (in_body s b) tree w
in_body_some s b valid =
    let ended = λ (ss : Stms) (end : Pos). with_function s (Some (record { statements = ss; end = end })) in
    let v = bodies_viable (ForSomeBody File (λ tree ss end. BodyRead s tree ss end)) b valid (λ ss end. (no_more, (ended ss end, end_some (ended ss end)))) in
    let c = choose_body File (λ tree ss end. BodyRead s tree ss end) v.0 b valid v.1 in
    (v.0, c.0, c.1)

-- a whole list of parameters
opening_some : (n : Named) → (w : List Mark) × (tree : File) × FromOpening n tree w
opening_some n =
    let p = params_some n (at_name_or_type []) tt in
    (inside (LeftParen origin) 0 ∷ p.0, p.1, record { pos = origin; rest = p.0; mark = refl; follows = p.2 })

abbrev file_of : Name → File
file_of x = record { package_name = x; declarations = [] }

package_end_some : (x : Name) → FromPackageEnd x (file_of x) no_more
package_end_some x = record { rest = []; mark = refl; follows = nothing_more (file_of x) }

package_name_some : FromPackageName (file_of some_word) (inside (Identifier some_word) 0 ∷ no_more)
package_name_some = record { name = some_word; follows = record { rest = no_more; mark = refl; follows = package_end_some some_word } }

pub viable : (s : State) → ValidState s → (w : List Mark) × (tree : File) × Rest s tree w
viable at_package valid = (inside Package 0 ∷ inside (Identifier some_word) 0 ∷ no_more, file_of some_word, record { rest = inside (Identifier some_word) 0 ∷ no_more; mark = refl; follows = package_name_some })
viable at_package_name valid = (inside (Identifier some_word) 0 ∷ no_more, file_of some_word, package_name_some)
viable (at_package_end x) valid = (no_more, file_of x, package_end_some x)
viable (at_declaration f) valid = ([], f, nothing_more f)
viable (in_values f k pos s) valid = values_some f k pos s valid
viable (in_types f pos s) valid = types_some f pos s valid
viable (at_function f pos) valid =
    let o = opening_some (record { file = f; pos = pos; name = some_word }) in
    (inside (Identifier some_word) 0 ∷ o.0, o.1, record { name = some_word; follows = record { rest = o.0; mark = refl; follows = o.2 } })
viable (at_opening n) valid = opening_some n
viable (in_params n p) valid = params_some n p valid
viable (at_results n ps) valid = (no_more, shortest n ps, results_some n ps)
viable (in_result n ps o) valid = result_some n ps o valid
viable (in_results n ps p) valid = in_results_some n ps p valid
viable (at_body s) valid = (no_more, with_function s None, body_some s)
viable (in_body s b) valid = in_body_some s b valid
viable (at_end f) valid = (no_more, f, end_some f)
