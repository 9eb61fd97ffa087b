-- Where what follows a part holds for some tree, which may depend on the part, the tree may be chosen before the part is read.
use Rattle.std.proofs.Common.{ℕ, List, [], ◌∷◌}
use Rattle.base.specs.declared.pos.Pos.{Pos}
use Rattle.syntax.specs.Expressions.{Ex}
use Rattle.syntax.specs.Statements.{ValueSpec, Stms}
use Rattle.syntax.specs.Declarations.{Parameters, TypeSpec}
use Rattle.parse_expressions.specs.declared.terminal.Terminal.{Terminal}
use Rattle.parse_expressions.specs.Grammar.{Mark, inside}
use Rattle.parse_expressions.specs.Machine.{Open}
use Rattle.parse_expressions.specs.Machine as expression
use Rattle.parse_expressions.proofs.Following as expressions
use Rattle.parse_expressions.proofs.Quotient.{quotient as expression_quotient}
use Rattle.parse_expressions.proofs.Viable.{valid_next as expression_valid}
use Rattle.parse_expressions.proofs.TextEnds.{unfinished as expression_unfinished}
use Rattle.parse_simple_statements.specs.Grammar.{Declares}
use Rattle.parse_simple_statements.specs.ValueSpecs.{Specs}
use Rattle.parse_simple_statements.specs.ValueSpecs as value_specs
use Rattle.parse_statements.specs.Bodies as bodies
use Rattle.parse_simple_statements.proofs.ValueSpecsFollowing as values_following
use Rattle.parse_statements.proofs.BodiesFollowing as bodies_following
use Rattle.parse_simple_statements.proofs.ValueSpecsQuotient.{quotient as values_quotient}
use Rattle.parse_simple_statements.proofs.ValueSpecsViable.{valid_next as values_valid_next}
use Rattle.parse_simple_statements.proofs.ValueSpecsBegins.{unfinished as values_unfinished}
use Rattle.parse_statements.proofs.BodiesQuotient.{quotient as bodies_quotient}
use Rattle.parse_statements.proofs.BodiesViable.{valid_next as bodies_valid_next}
use Rattle.parse_statements.proofs.BodiesBegins.{unfinished as bodies_unfinished}
use Rattle.parse_go.specs.TypeSpecs.{Types}
use Rattle.parse_go.specs.TypeSpecs as type_specs
use Rattle.parse_go.specs.Parameters.{Params}
use Rattle.parse_go.specs.Parameters as parameters
use Rattle.parse_go.proofs.Types.{type_at, type_apart}
use Rattle.parse_go.proofs.TypeSpecsFollowing as types_following
use Rattle.parse_go.proofs.TypeSpecsQuotient.{quotient as types_quotient}
use Rattle.parse_go.proofs.TypeSpecsBegins.{unfinished as types_unfinished}
use Rattle.parse_go.proofs.TypeSpecsViable.{valid_next as types_valid_next}
use Rattle.parse_go.proofs.ParametersFollowing as parameters_following
use Rattle.parse_go.proofs.ParametersQuotient.{quotient as parameters_quotient}
use Rattle.parse_go.proofs.ParametersBegins.{unfinished as parameters_unfinished}
use Rattle.parse_go.proofs.ParametersViable.{valid_next as parameters_valid_next}

-- for some x
abbrev pub ForSome : (T A : Type 0) → (T → A → List Mark → Type 0) → A → List Mark → Type 0
ForSome T A K a m = (x : T) × K x a m

module _ (T : Type 0) (d : ℕ) (K : T → Ex → List Mark → Type 0) where
  pick_type : (n : ℕ) (t : Terminal) (j : ℕ) (w : List Mark) → ((o : Open) → expressions.ValidOpen (type_at d) o → expressions.Rest (type_at d) (ForSome T Ex K) o w → (x : T) × expressions.Rest (type_at d) (K x) o w) → (p : expression.Progress) → expressions.ValidNext (type_at d) p → expressions.After (type_at d) (ForSome T Ex K) p n t j w → (x : T) × expressions.After (type_at d) (K x) p n t j w
  pick_type n t j w again expression.fails valid a = absurd a
  pick_type n t j w again (expression.goes o) valid a = let r = again o valid a.1 in (r.0, (a.0, r.1))
  pick_type n t j w again (expression.ends e) valid a = let k = a.1 in (k.0, (a.0, k.1))

  pub choose_type : ((x : T) (e : Ex) → K x e [] → ⊥) → (w : List Mark) (o : Open) → expressions.ValidOpen (type_at d) o → expressions.Rest (type_at d) (ForSome T Ex K) o w → (x : T) × expressions.Rest (type_at d) (K x) o w
  choose_type more [] o valid h =
      let i = expression_unfinished (type_at d) (ForSome T Ex K) o h in
      let k = i.1 in
      absurd (more k.0 i.0 k.1)
  choose_type more (inside t j ∷ w) o valid h =
      let a = (expression_quotient (type_at d) (ForSome T Ex K) o t j w valid (type_apart d (ForSome T Ex K))).0 h in
      let c = pick_type (expression.nesting (type_at d) o t) t j w (λ s v r. choose_type more w s v r) (expression.step (type_at d) o t) (expression_valid (type_at d) o t valid) a in
      (c.0, (expression_quotient (type_at d) (K c.0) o t j w valid (type_apart d (K c.0))).1 c.1)

module _ (T : Type 0) (k : Declares) (d : ℕ) (K : T → List ValueSpec → List Mark → Type 0) where
  pick_values : (n : ℕ) (t : Terminal) (j : ℕ) (w : List Mark) → ((s : Specs) → values_following.Valid d s → values_following.Rest k d (ForSome T (List ValueSpec) K) s w → (x : T) × values_following.Rest k d (K x) s w) → (p : value_specs.Progress) → values_following.ValidNext d p → values_following.After k d (ForSome T (List ValueSpec) K) p n t j w → (x : T) × values_following.After k d (K x) p n t j w
  pick_values n t j w again value_specs.fails valid a = absurd a
  pick_values n t j w again (value_specs.goes s) valid a = let r = again s valid a.1 in (r.0, (a.0, r.1))
  pick_values n t j w again (value_specs.ends specs) valid a = a

  pub choose_values : ((x : T) (specs : List ValueSpec) → K x specs [] → ⊥) → ((x : T) → values_following.Apart (K x)) → (w : List Mark) (s : Specs) → values_following.Valid d s → values_following.Rest k d (ForSome T (List ValueSpec) K) s w → (x : T) × values_following.Rest k d (K x) s w
  choose_values more apart [] s valid h =
      let i = values_unfinished k d (ForSome T (List ValueSpec) K) s h in
      let f = i.1 in
      absurd (more f.0 i.0 f.1)
  choose_values more apart (inside t j ∷ w) s valid h =
      let some_apart : values_following.Apart (ForSome T (List ValueSpec) K) = record { never = λ specs u i v on f. (apart f.0).never specs u i v on f.1 } in
      let a = (values_quotient k d (ForSome T (List ValueSpec) K) s t j w valid some_apart).0 h in
      let c = pick_values (value_specs.nesting d s t) t j w (λ n v r. choose_values more apart w n v r) (value_specs.step k d s t) (values_valid_next k d s t valid) a in
      (c.0, (values_quotient k d (K c.0) s t j w valid (apart c.0)).1 c.1)

module _ (T : Type 0) (K : T → List TypeSpec → List Mark → Type 0) where
  pick_types : (n : ℕ) (t : Terminal) (j : ℕ) (w : List Mark) → ((s : Types) → types_following.Valid s → types_following.Rest (ForSome T (List TypeSpec) K) s w → (x : T) × types_following.Rest (K x) s w) → (p : type_specs.Progress) → types_following.ValidNext p → types_following.After (ForSome T (List TypeSpec) K) p n t j w → (x : T) × types_following.After (K x) p n t j w
  pick_types n t j w again type_specs.fails valid a = absurd a
  pick_types n t j w again (type_specs.goes s) valid a = let r = again s valid a.1 in (r.0, (a.0, r.1))
  pick_types n t j w again (type_specs.ends specs) valid a = a

  pub choose_types : ((x : T) (specs : List TypeSpec) → K x specs [] → ⊥) → (w : List Mark) (s : Types) → types_following.Valid s → types_following.Rest (ForSome T (List TypeSpec) K) s w → (x : T) × types_following.Rest (K x) s w
  choose_types more [] s valid h =
      let i = types_unfinished (ForSome T (List TypeSpec) K) s h in
      let f = i.1 in
      absurd (more f.0 i.0 f.1)
  choose_types more (inside t j ∷ w) s valid h =
      let a = (types_quotient (ForSome T (List TypeSpec) K) s t j w valid).0 h in
      let c = pick_types (type_specs.nesting s t) t j w (λ n v r. choose_types more w n v r) (type_specs.step s t) (types_valid_next s t valid) a in
      (c.0, (types_quotient (K c.0) s t j w valid).1 c.1)

module _ (T : Type 0) (K : T → Parameters → List Mark → Type 0) where
  pick_parameters : (n j : ℕ) (w : List Mark) → ((p : Params) → parameters_following.Valid p → parameters_following.Rest (ForSome T Parameters K) p w → (x : T) × parameters_following.Rest (K x) p w) → (p : parameters.Progress) → parameters_following.ValidNext p → parameters_following.After (ForSome T Parameters K) p n j w → (x : T) × parameters_following.After (K x) p n j w
  pick_parameters n j w again parameters.fails valid a = absurd a
  pick_parameters n j w again (parameters.goes p) valid a = let r = again p valid a.1 in (r.0, (a.0, r.1))
  pick_parameters n j w again (parameters.ends ps) valid a = let f = a.1 in (f.0, (a.0, f.1))

  pub choose_parameters : (w : List Mark) (p : Params) → parameters_following.Valid p → parameters_following.Rest (ForSome T Parameters K) p w → (x : T) × parameters_following.Rest (K x) p w
  choose_parameters [] p valid h = absurd (parameters_unfinished (ForSome T Parameters K) p h)
  choose_parameters (inside t j ∷ w) p valid h =
      let a = (parameters_quotient (ForSome T Parameters K) p t j w valid).0 h in
      let c = pick_parameters (parameters.nesting p t) j w (λ n v r. choose_parameters w n v r) (parameters.step p t) (parameters_valid_next p t valid) a in
      (c.0, (parameters_quotient (K c.0) p t j w valid).1 c.1)

-- of a body, with the position of its end
abbrev pub ForSomeBody : (T : Type 0) → (T → Stms → Pos → List Mark → Type 0) → Stms → Pos → List Mark → Type 0
ForSomeBody T K ss end m = (x : T) × K x ss end m

module _ (T : Type 0) (K : T → Stms → Pos → List Mark → Type 0) where
  pick_body : (n j : ℕ) (w : List Mark) → ((b : bodies.State) → bodies_following.Valid b → bodies_following.Rest (ForSomeBody T K) b w → (x : T) × bodies_following.Rest (K x) b w) → (p : bodies.Progress) → bodies_following.ValidNext p → bodies_following.After (ForSomeBody T K) p n j w → (x : T) × bodies_following.After (K x) p n j w
  pick_body n j w again bodies.fails valid a = absurd a
  pick_body n j w again (bodies.goes b) valid a = let r = again b valid a.1 in (r.0, (a.0, r.1))
  pick_body n j w again (bodies.ends ss end) valid a = let f = a.1 in (f.0, (a.0, f.1))

  pub choose_body : (w : List Mark) (b : bodies.State) → bodies_following.Valid b → bodies_following.Rest (ForSomeBody T K) b w → (x : T) × bodies_following.Rest (K x) b w
  choose_body [] b valid h = absurd (bodies_unfinished (ForSomeBody T K) b h)
  choose_body (inside t j ∷ w) b valid h =
      let a = (bodies_quotient (ForSomeBody T K) b t j w valid).0 h in
      let c = pick_body (bodies.nesting b t) j w (λ n v r. choose_body w n v r) (bodies.step b t) (bodies_valid_next b t valid) a in
      (c.0, (bodies_quotient (K c.0) b t j w valid).1 c.1)
