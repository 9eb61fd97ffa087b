-- A terminal where a declaration begins or ends divides the texts by it from the left.
use Rattle.std.proofs.Common.{◌≡◌, ℕ, List, [], ◌∷◌, ◌++◌, refl, sym, ap, subst, ◌∙◌, append_assoc}
use Rattle.base.specs.declared.pos.Pos.{Pos}
use Rattle.syntax.specs.Declarations.{Declaration, constants, variables, types, function, File}
use Rattle.parse_expressions.specs.declared.terminal.Terminal.{Terminal}
use Rattle.parse_expressions.specs.declared.terminal.Terminal.TheVariants.{Identifier, Const, Var, «Type» as type_word, Func, Semicolon, LeftParen}
use Rattle.parse_expressions.specs.Grammar.{Mark, inside}
use Rattle.parse_expressions.proofs.Following.{Iff}
use Rattle.parse_simple_statements.specs.Grammar.{of_constants, of_variables}
use Rattle.parse_simple_statements.specs.ValueSpecs as value_specs
use Rattle.parse_simple_statements.proofs.Marks.{next_read, next_other, iff_trans}
use Rattle.parse_simple_statements.proofs.ValueSpecsFollowing as values_following
use Rattle.parse_go.specs.Grammar.{IsDeclaration, AreDeclarations}
use Rattle.parse_go.specs.TypeSpecs as type_specs
use Rattle.parse_go.specs.Machine.{at_declaration, with_declaration, ends_declaration, step}
use Rattle.parse_go.proofs.TypeSpecsFollowing as types_following
use Rattle.parse_go.proofs.ParametersBegins as parameters_begin
use Rattle.parse_go.proofs.Following.{FromDeclarations, FromEnd, FromResults, FromOpening, FromFunction, ValuesDeclared, TypesDeclared, Follows}

-- one declaration, and then what may follow it
pub record OneDeclaration (f : File) (tree : File) (w : List Mark) : Type 0 where
  pub whole : Declaration
  pub rest : List Mark
  pub reads : IsDeclaration whole w rest
  pub follows : FromEnd (with_declaration f whole) tree rest

-- a file with these declarations
abbrev with_all : File → List Declaration → File
with_all f ds = record { package_name = f.package_name; declarations = ds }

module _ (tree : File) where
  declaration_item : (f : File) (t : Terminal) (j : ℕ) (w : List Mark) → Iff (FromDeclarations f tree (inside t j ∷ w)) (OneDeclaration f tree (inside t j ∷ w))
  declaration_item f t j w = (
    λ h. to h.others h.reads h.whole,
    λ o.
        let n = o.follows in
        let d = n.follows in
        record { others = o.whole ∷ d.others; reads = (n.rest, subst (IsDeclaration o.whole (inside t j ∷ w)) n.mark o.reads, d.reads); whole = d.whole ∙ same o.whole d.others },
  )
    where
      same : (d : Declaration) (ds : List Declaration) → with_all f ((f.declarations ++ d ∷ []) ++ ds) ≡ with_all f (f.declarations ++ d ∷ ds)
      same d ds = ap (with_all f) (append_assoc f.declarations (d ∷ []) ds)

      to : (others : List Declaration) → AreDeclarations others (inside t j ∷ w) → tree ≡ with_all f (f.declarations ++ others) → OneDeclaration f tree (inside t j ∷ w)
      to [] r is = absurd (cc (r))
      to (d ∷ ds) r is = record { whole = d; rest = inside Semicolon 0 ∷ r.0; reads = r.1; follows = record { rest = r.0; mark = refl; follows = record { others = ds; reads = r.2; whole = is ∙ sym (same d ds) } } }

  -- ---- the words of declarations

  const_begins : (f : File) (pos : Pos) (j : ℕ) (w : List Mark) → Iff (OneDeclaration f tree (inside (Const pos) j ∷ w)) ((j ≡ 0) × values_following.Rest of_constants 0 (ValuesDeclared f of_constants pos tree) value_specs.at_first w)
  const_begins f pos j w = (
    λ o. to o.whole o.rest o.reads o.follows,
    λ h. let d = h.1 in record { whole = constants pos d.whole; rest = d.rest; reads = (w, ap (λ (i : ℕ). inside (Const pos) i ∷ w) h.0, d.reads); follows = d.follows },
  )
    where
      to : (d : Declaration) (rest : List Mark) → IsDeclaration d (inside (Const pos) j ∷ w) rest → FromEnd (with_declaration f d) tree rest → (j ≡ 0) × values_following.Rest of_constants 0 (ValuesDeclared f of_constants pos tree) value_specs.at_first w
      to (constants q specs) rest r k =
          let same_w : r.0 ≡ w = cc (r.1) in
          let same_q : q ≡ pos = cc (r.1) in
          (cc (r.1), subst (values_following.Rest of_constants 0 (ValuesDeclared f of_constants pos tree) value_specs.at_first) same_w (record { whole = specs; rest = rest; reads = r.2; follows = subst (λ (p : Pos). FromEnd (with_declaration f (constants p specs)) tree rest) same_q k }))
      to (variables q specs) rest r k = absurd (cc (r.1))
      to (types q specs) rest r k = absurd (cc (r.1))
      to (function g) rest r k = absurd (cc (r.4))

  var_begins : (f : File) (pos : Pos) (j : ℕ) (w : List Mark) → Iff (OneDeclaration f tree (inside (Var pos) j ∷ w)) ((j ≡ 0) × values_following.Rest of_variables 0 (ValuesDeclared f of_variables pos tree) value_specs.at_first w)
  var_begins f pos j w = (
    λ o. to o.whole o.rest o.reads o.follows,
    λ h. let d = h.1 in record { whole = variables pos d.whole; rest = d.rest; reads = (w, ap (λ (i : ℕ). inside (Var pos) i ∷ w) h.0, d.reads); follows = d.follows },
  )
    where
      to : (d : Declaration) (rest : List Mark) → IsDeclaration d (inside (Var pos) j ∷ w) rest → FromEnd (with_declaration f d) tree rest → (j ≡ 0) × values_following.Rest of_variables 0 (ValuesDeclared f of_variables pos tree) value_specs.at_first w
      to (constants q specs) rest r k = absurd (cc (r.1))
      to (variables q specs) rest r k =
          let same_w : r.0 ≡ w = cc (r.1) in
          let same_q : q ≡ pos = cc (r.1) in
          (cc (r.1), subst (values_following.Rest of_variables 0 (ValuesDeclared f of_variables pos tree) value_specs.at_first) same_w (record { whole = specs; rest = rest; reads = r.2; follows = subst (λ (p : Pos). FromEnd (with_declaration f (variables p specs)) tree rest) same_q k }))
      to (types q specs) rest r k = absurd (cc (r.1))
      to (function g) rest r k = absurd (cc (r.4))

  type_begins : (f : File) (pos : Pos) (j : ℕ) (w : List Mark) → Iff (OneDeclaration f tree (inside (type_word pos) j ∷ w)) ((j ≡ 0) × types_following.Rest (TypesDeclared f pos tree) type_specs.at_first w)
  type_begins f pos j w = (
    λ o. to o.whole o.rest o.reads o.follows,
    λ h. let d = h.1 in record { whole = types pos d.specs; rest = d.rest; reads = (w, ap (λ (i : ℕ). inside (type_word pos) i ∷ w) h.0, d.reads); follows = d.follows },
  )
    where
      to : (d : Declaration) (rest : List Mark) → IsDeclaration d (inside (type_word pos) j ∷ w) rest → FromEnd (with_declaration f d) tree rest → (j ≡ 0) × types_following.Rest (TypesDeclared f pos tree) type_specs.at_first w
      to (constants q specs) rest r k = absurd (cc (r.1))
      to (variables q specs) rest r k = absurd (cc (r.1))
      to (types q specs) rest r k =
          let same_w : r.0 ≡ w = cc (r.1) in
          let same_q : q ≡ pos = cc (r.1) in
          (cc (r.1), subst (types_following.Rest (TypesDeclared f pos tree) type_specs.at_first) same_w (record { specs = specs; rest = rest; reads = r.2; follows = subst (λ (p : Pos). FromEnd (with_declaration f (types p specs)) tree rest) same_q k }))
      to (function g) rest r k = absurd (cc (r.4))

  func_begins : (f : File) (pos : Pos) (j : ℕ) (w : List Mark) → Iff (OneDeclaration f tree (inside (Func pos) j ∷ w)) ((j ≡ 0) × FromFunction f pos tree w)
  func_begins f pos j w = (
    λ o. to o.whole o.rest o.reads o.follows,
    λ h. back h.0 h.1,
  )
    where
      to : (d : Declaration) (rest : List Mark) → IsDeclaration d (inside (Func pos) j ∷ w) rest → FromEnd (with_declaration f d) tree rest → (j ≡ 0) × FromFunction f pos tree w
      to (constants q specs) rest r k = absurd (cc (r.1))
      to (variables q specs) rest r k = absurd (cc (r.1))
      to (types q specs) rest r k = absurd (cc (r.1))
      to (function g) rest r k =
          let same_pos : g.pos ≡ pos = cc (r.4) in
          let same_w : w ≡ inside (Identifier g.name) 0 ∷ inside (LeftParen r.0) 0 ∷ r.1 = cc (r.4) in
          let behind : FromResults (record { file = f; pos = g.pos; name = g.name }) g.params tree r.2 = record { results = g.results; rest = r.3; reads = r.6; follows = record { body = g.body; rest = rest; reads = r.7; follows = k } } in
          let params = (parameters_begin.begins (λ ps. FromResults (record { file = f; pos = g.pos; name = g.name }) ps tree) r.1).0 (g.params, r.2, r.5, behind) in
          let opening : FromOpening (record { file = f; pos = g.pos; name = g.name }) tree (inside (LeftParen r.0) 0 ∷ r.1) = record { pos = r.0; rest = r.1; mark = refl; follows = params } in
          let named : FromFunction f g.pos tree w = record { name = g.name; follows = record { rest = inside (LeftParen r.0) 0 ∷ r.1; mark = same_w; follows = opening } } in
          (cc (r.4), subst (λ (q : Pos). FromFunction f q tree w) same_pos named)

      back : j ≡ 0 → FromFunction f pos tree w → OneDeclaration f tree (inside (Func pos) j ∷ w)
      back is h =
          let n = h.follows in
          let o = n.follows in
          let p = (parameters_begin.begins (λ ps. FromResults (record { file = f; pos = pos; name = h.name }) ps tree) o.rest).1 o.follows in
          let r = p.3 in
          let b = r.follows in
          let marks : inside (Func pos) j ∷ w ≡ inside (Func pos) 0 ∷ inside (Identifier h.name) 0 ∷ inside (LeftParen o.pos) 0 ∷ o.rest = cc (is, n.mark, o.mark) in
          record { whole = function (record { pos = pos; name = h.name; params = p.0; results = r.results; body = b.body }); rest = b.rest; reads = (o.pos, o.rest, p.1, r.rest, marks, p.2, r.reads, b.reads); follows = b.follows }

  no_declaration : (f : File) (t : Terminal) (j : ℕ) (w : List Mark) → ((q : Pos) → t ≡ Const q → ⊥) → ((q : Pos) → t ≡ Var q → ⊥) → ((q : Pos) → t ≡ type_word q → ⊥) → ((q : Pos) → t ≡ Func q → ⊥) → OneDeclaration f tree (inside t j ∷ w) → ⊥
  no_declaration f t j w not_const not_var not_type not_func o = to o.whole o.rest o.reads
    where
      to : (d : Declaration) (rest : List Mark) → IsDeclaration d (inside t j ∷ w) rest → ⊥
      to (constants q specs) rest r = not_const q (cc (r.1))
      to (variables q specs) rest r = not_var q (cc (r.1))
      to (types q specs) rest r = not_type q (cc (r.1))
      to (function g) rest r = not_func g.pos (cc (r.4))

  word_step : (f : File) (t : Terminal) (j : ℕ) (w : List Mark) → Iff (OneDeclaration f tree (inside t j ∷ w)) ((j ≡ 0) × Follows (step (at_declaration f) t) tree w)
  word_step f (Const pos) j w = const_begins f pos j w
  word_step f (Var pos) j w = var_begins f pos j w
  word_step f (type_word pos) j w = type_begins f pos j w
  word_step f (Func pos) j w = func_begins f pos j w
  word_step f t j w = (λ o. absurd (no_declaration f t j w (λ q e. cc (e)) (λ q e. cc (e)) (λ q e. cc (e)) (λ q e. cc (e)) o), λ h. absurd h.1)

  pub declaration_step : (f : File) (t : Terminal) (j : ℕ) (w : List Mark) → Iff (FromDeclarations f tree (inside t j ∷ w)) ((j ≡ 0) × Follows (step (at_declaration f) t) tree w)
  declaration_step f t j w = iff_trans _ _ _ (declaration_item f t j w) (word_step f t j w)

  -- the semicolon after a declaration
  pub end_step : (f : File) (t : Terminal) (j : ℕ) (w : List Mark) → Iff (FromEnd f tree (inside t j ∷ w)) ((j ≡ 0) × Follows (ends_declaration f t) tree w)
  end_step f Semicolon j w = next_read Semicolon 0 (FromDeclarations f tree) j w
  end_step f t j w = (λ h. absurd (next_other Semicolon 0 (FromDeclarations f tree) t j w (λ e. cc (e)) h), λ h. absurd h.1)

  pub end_first : (f : File) (t : Terminal) (j : ℕ) (w : List Mark) → FromEnd f tree (inside t j ∷ w) → t ≡ Semicolon
  end_first f t j w h = cc (h.mark)
