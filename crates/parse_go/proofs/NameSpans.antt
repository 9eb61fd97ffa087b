-- The names and strings of a tree stand where tokens of the text stand.
use Rattle.std.proofs.Common.{◌≡◌, ℕ, suc, ◌≤◌, true, false, List, [], ◌∷◌, Option, Some, None, sym, subst}
use Rattle.std.specs.Prelude.{All}
use Rattle.std.specs.List.{AllByRecursion}
use Rattle.base.specs.declared.pos.Pos.{Pos}
use Rattle.std.proofs.lemmas.List.Elements.{All-head, All-tail}
use Rattle.scan_go.specs.Lines.{IsSpan}
use Rattle.scan_go.specs.declared.spelling.Keyword.TheVariants as keyword
use Rattle.scan_go.specs.declared.spelling.Op.TheVariants as op
use Rattle.scan_go.specs.declared.token.Kind.{Kind}
use Rattle.scan_go.specs.declared.token.Kind.TheVariants as kind
use Rattle.scan_go.specs.declared.token.Token.{Token}
use Rattle.syntax.specs.Expressions.{Exs, none, some}
use Rattle.syntax.specs.Declarations.{Field, Parameters, TypeSpec, Body, Function, Declaration, constants, variables, types, function, File}
use Rattle.syntax.specs.Spans.{ExsSpans, FieldSpans, ParametersSpans, TypeSpecSpans, BodySpans, FunctionSpans, DeclarationSpans, FileSpans}
use Rattle.parse_expressions.specs.declared.terminal.Terminal.TheVariants.{Comma, Semicolon, RightBrace}
use Rattle.parse_expressions.specs.Terminals.{terminal_at, terminal_of, terminals_of}
use Rattle.parse_expressions.specs.Grammar.{Mark, inside, terminals_in, ClosesArguments, closing, comma_closing}
use Rattle.parse_expressions.proofs.NameSpans.{HasSpan, HaveSpans, type_spans}
use Rattle.parse_simple_statements.specs.Grammar.{of_constants, of_variables}
use Rattle.parse_simple_statements.proofs.NameSpans.{names_spans, group_spans, value_specs_spans}
use Rattle.parse_statements.proofs.NameSpans.{body_spans}
use Rattle.parse_go.specs.Grammar.{ReadsField, AreFields, fields_end, last_field, next_field, ReadsTypeSpec, ReadsMoreTypes, ReadsTypes, AreNamed, last_named, next_named, AreParameters, no_parameters, unnamed_parameters, named_parameters, AreResults, no_results, one_result, results, ReadsBody, IsFunction, IsDeclaration, AreDeclarations, IsMarked, IsProgram}

module _ (n : ℕ) where
  -- ---- fields and types

  field_spans : (d : ℕ) (f : Field) (ts rest : List Mark) → ReadsField d f ts rest → HaveSpans n ts → FieldSpans n f × HaveSpans n rest
  field_spans d f ts rest r a =
      let i = names_spans n d f.names ts r.0 r.1 a in
      let k = type_spans n true d f.type_expr r.0 rest r.2 i.1 in
      ((i.0, k.0), k.1)

  fields_spans : {d : ℕ} {fs : List Field} {ts rest : List Mark} → AreFields d fs ts rest → HaveSpans n ts → AllByRecursion (FieldSpans n) fs × HaveSpans n rest
  fields_spans fields_end a = (tt, a.1)
  fields_spans (last_field {d = d} {f = f} {ts = ts} {rest = rest} q r) a =
      let i = field_spans (suc d) f ts (inside (RightBrace q) d ∷ rest) r a in
      ((i.0, tt), i.1.1)
  fields_spans (next_field {d = d} {f = f} {ts = ts} {m = m} r g) a =
      let i = field_spans (suc d) f ts (inside Semicolon (suc d) ∷ m) r a in
      let k = fields_spans g i.1.1 in
      ((i.0, k.0), k.1)

  type_spec_spans : (d : ℕ) (s : TypeSpec) (ts rest : List Mark) → ReadsTypeSpec d s ts rest → HaveSpans n ts → TypeSpecSpans n s × HaveSpans n rest
  type_spec_spans d s ts rest r a =
      let b = subst (HaveSpans n) r.2 a in
      let i = fields_spans r.3 b.1.1.1 in
      ((b.0, i.0), i.1)

  -- ---- functions

  list_end_spans : {ts rest : List Mark} → ClosesArguments 0 false ts rest → HaveSpans n ts → HaveSpans n rest
  list_end_spans closing a = a.1
  list_end_spans comma_closing a = a.1.1

  more_types_spans : (d : ℕ) (es : Exs) (ts rest : List Mark) → ReadsMoreTypes d es ts rest → HaveSpans n ts → ExsSpans n es × HaveSpans n rest
  more_types_spans d none ts rest r a = (tt, subst (HaveSpans n) r a)
  more_types_spans d (some e es) ts rest r a =
      let i = type_spans n true d e r.0 r.1 r.3 (subst (HaveSpans n) r.2 a).1 in
      let k = more_types_spans d es r.1 rest r.4 i.1 in
      ((i.0, k.0), k.1)

  types_spans : (d : ℕ) (es : Exs) (ts rest : List Mark) → ReadsTypes d es ts rest → HaveSpans n ts → ExsSpans n es × HaveSpans n rest
  types_spans d none ts rest r a = absurd r
  types_spans d (some e es) ts rest r a =
      let i = type_spans n true d e ts r.0 r.1 a in
      let k = more_types_spans d es r.0 rest r.2 i.1 in
      ((i.0, k.0), k.1)

  named_spans : {fs : List Field} {ts rest : List Mark} → AreNamed fs ts rest → HaveSpans n ts → AllByRecursion (FieldSpans n) fs × HaveSpans n rest
  named_spans (last_named {f = f} {ts = ts} {m = m} r c) a =
      let i = field_spans 1 f ts m r a in
      ((i.0, tt), list_end_spans c i.1)
  named_spans (next_named {f = f} {ts = ts} {m = m} r g) a =
      let i = field_spans 1 f ts (inside Comma 1 ∷ m) r a in
      let k = named_spans g i.1.1 in
      ((i.0, k.0), k.1)

  parameters_spans : {ps : Parameters} {ts rest : List Mark} → AreParameters ps ts rest → HaveSpans n ts → ParametersSpans n ps × HaveSpans n rest
  parameters_spans no_parameters a = (tt, a.1)
  parameters_spans (unnamed_parameters {es = es} {ts = ts} {m = m} r c) a =
      let i = types_spans 1 es ts m r a in
      (i.0, list_end_spans c i.1)
  parameters_spans (named_parameters g) a = named_spans g a

  results_spans : {ps : Parameters} {ts rest : List Mark} → AreResults ps ts rest → HaveSpans n ts → ParametersSpans n ps × HaveSpans n rest
  results_spans no_results a = (tt, a)
  results_spans (one_result {t = t} {ts = ts} {rest = rest} bare r) a = let i = type_spans n true 0 t ts rest r a in ((i.0, tt), i.1)
  results_spans (results g) a = parameters_spans g a.1

  optional_body_spans : (b : Option Body) (ts rest : List Mark) → ReadsBody b ts rest → HaveSpans n ts → BodySpans n b × HaveSpans n rest
  optional_body_spans None ts rest r a = (tt, subst (HaveSpans n) r a)
  optional_body_spans (Some b) ts rest r a = body_spans n r.3 (subst (HaveSpans n) r.2 a).1

  function_spans : (f : Function) (ts rest : List Mark) → IsFunction f ts rest → HaveSpans n ts → FunctionSpans n f × HaveSpans n rest
  function_spans f ts rest h a =
      let b = (subst (HaveSpans n) h.4 a).1 in
      let i = parameters_spans h.5 b.1.1 in
      let k = results_spans h.6 i.1 in
      let l = optional_body_spans f.body h.3 rest h.7 k.1 in
      ((b.0, i.0, k.0, l.0), l.1)

  -- ---- whole texts

  declaration_spans : (d : Declaration) (ts rest : List Mark) → IsDeclaration d ts rest → HaveSpans n ts → DeclarationSpans n d × HaveSpans n rest
  declaration_spans (constants pos specs) ts rest r a = value_specs_spans n of_constants r.2 (subst (HaveSpans n) r.1 a).1
  declaration_spans (variables pos specs) ts rest r a = value_specs_spans n of_variables r.2 (subst (HaveSpans n) r.1 a).1
  declaration_spans (types pos specs) ts rest r a = group_spans n ReadsTypeSpec (TypeSpecSpans n) type_spec_spans r.2 (subst (HaveSpans n) r.1 a).1
  declaration_spans (function f) ts rest r a = function_spans f ts rest r a

  declarations_spans : (ds : List Declaration) (ts : List Mark) → AreDeclarations ds ts → HaveSpans n ts → AllByRecursion (DeclarationSpans n) ds
  declarations_spans [] ts h a = tt
  declarations_spans (d ∷ ds) ts h a =
      let i = declaration_spans d ts (inside Semicolon 0 ∷ h.0) h.1 a in
      (i.0, declarations_spans ds h.0 h.2 i.1.1)

  file_spans : (ms : List Mark) (file : File) → IsMarked ms file → HaveSpans n ms → FileSpans n file
  file_spans ms file h a =
      let b = (subst (HaveSpans n) h.1 a).1 in
      (b.0, declarations_spans file.declarations h.0 h.2 b.1.1)

  kind_span : (k : Kind) (pos : Pos) (behind : ℕ) → pos.offset ≤ behind → behind ≤ n → HasSpan n (terminal_at k pos behind)
  kind_span kind.Name pos behind le within = (le, within)
  kind_span (kind.Number i) pos behind le within = tt
  kind_span kind.String pos behind le within = (le, within)
  kind_span (kind.Keyword keyword.Package) pos behind le within = tt
  kind_span (kind.Keyword k) pos behind le within = tt
  kind_span (kind.Op op.Define) pos behind le within = tt
  kind_span (kind.Op o) pos behind le within = tt

  token_spans : (ms : List Mark) (tokens : List Token) → terminals_in ms ≡ terminals_of tokens → All (IsSpan n) tokens → HaveSpans n ms
  token_spans [] tokens is all = tt
  token_spans (inside t d ∷ ms) [] is all = absurd cc
  token_spans (inside t d ∷ ms) (token ∷ tokens) is all =
      let same_t : terminal_of token ≡ t = cc in
      let others : terminals_in ms ≡ terminals_of tokens = cc in
      let span = All-head (IsSpan n) token tokens all in
      (subst (HasSpan n) same_t (kind_span token.kind token.pos token.end span.0 span.1), token_spans ms tokens others (All-tail (IsSpan n) token tokens all))

  program_spans : (tokens : List Token) (file : File) → IsProgram (terminals_of tokens) file → All (IsSpan n) tokens → FileSpans n file
  program_spans tokens file h all = file_spans h.0 file h.2 (token_spans h.0 tokens h.1 all)

-- the same where the tokens were handed in by another name
pub answer_spans : (n : ℕ) (list tokens : List Token) (file : File) → list ≡ tokens → IsProgram (terminals_of list) file → All (IsSpan n) tokens → FileSpans n file
answer_spans n list tokens file is_tokens h all = program_spans n list file h (subst (λ (x : List Token). All (IsSpan n) x) (sym is_tokens) all)
