-- What a function keeps of a scope.
use Rattle.std.proofs.Common.{ℕ, Bool, true, false, cond, List, [], ◌∷◌, Option, Some, None, refl, sym, arith, append-nil}
use Rattle.base.specs.declared.pos.Pos.{Pos}
use Rattle.syntax.specs.Declarations.{Body, Function as TreeFunction}
use Rattle.syntax.specs.Expressions.{spelled}
use Rattle.base.specs.declared.value_type.ValueType.{ValueType}
use Rattle.names.specs.Universe.{is_blank}
use Rattle.names.specs.declared.settings.Setting.{Setting}
use Rattle.names.specs.Scope.{Scope, known, declaring, after_function, with_site, with_setting, opened, closed}
use Rattle.package_values.specs.Values.{Item}
use Rattle.signatures.specs.declared.slots.Slot.{Slot}
use Rattle.signatures.specs.Entries.{behind_entries}
use Rattle.function_heads.specs.HeadTypes.{slots_of}
use Rattle.typed.specs.declared.program.SiteKind.TheVariants as kind
use Rattle.signatures.proofs.Growth.{IsDeclaring, Grows, Keeps, grows_twice, keeps_twice, keeps_none, keeps_grows, keeps_set, keeps_inner, grows_entries}
use Rattle.types_go.specs.Statements.{behind_all}
use Rattle.types_go.proofs.StatementGrowth.{grows_all}
use Rattle.types_go.specs.Functions.{Member, of_function, of_variable, type_or_int, behind_variable, declares, params_opened, behind_params, body_scope, behind_body, behind_function, behind_members}

module _ (text : List ℕ) (heads : Scope) where
  -- what parameters or results keep, and the setting behind them
  pub grows_declared : (r : Scope) (ps : List Slot) (x : Setting) → IsDeclaring x → Grows r (with_setting (behind_entries text r ps) x)
  grows_declared r ps x kinds =
      let after = behind_entries text r ps in grows_twice r after (with_setting after x) (grows_entries text r ps) (keeps_grows after (with_setting after x) (keeps_set after x (λ k. kinds)))

  pub grows_params : (s : Scope) (g : TreeFunction) → Grows (params_opened s) (behind_params text heads s g)
  grows_params s g =
      let after = behind_entries text (params_opened s) (slots_of text heads g.params) in
      grows_declared (params_opened s) (slots_of text heads g.params) (declaring kind.Result after.setting) refl

  pub grows_results : (s : Scope) (g : TreeFunction) → Grows (behind_params text heads s g) (body_scope text heads s g)
  grows_results s g =
      let after = behind_entries text (behind_params text heads s g) (slots_of text heads g.results) in
      grows_declared (behind_params text heads s g) (slots_of text heads g.results) (declaring kind.Variable after.setting) refl

  pub grows_body : (s : Scope) (g : TreeFunction) → Grows (params_opened s) (body_scope text heads s g)
  grows_body s g = grows_twice (params_opened s) (behind_params text heads s g) (body_scope text heads s g) (grows_params s g) (grows_results s g)

  pub keeps_body : (s : Scope) (g : TreeFunction) (b : Option Body) → Keeps s (behind_body text heads s g b)
  keeps_body s g None = keeps_none s
  keeps_body s g (Some b) =
      let last1 = behind_all text (body_scope text heads s g) b.statements in
      let inside = declares kind.Parameter s in
      let whole = grows_twice (opened inside) (body_scope text heads s g) last1 (grows_body s g) (grows_all text (body_scope text heads s g) b.statements) in
      keeps_twice s inside (behind_body text heads s g (Some b)) (keeps_set s (declaring kind.Parameter s.setting) (λ k. refl))
      (keeps_twice inside (closed last1) (behind_body text heads s g (Some b)) (keeps_inner inside last1 whole) (keeps_set (closed last1) (after_function s.setting) (λ k. refl)))

  pub keeps_function : (s : Scope) (g : TreeFunction) → Keeps s (behind_function text heads s g)
  keeps_function s g = keeps_body s g g.body

  -- a package variable adds a site at most
  keeps_named : (s : Scope) (x : Setting) (name : List ℕ) (t : ValueType) (at : Pos) (blank : Bool) → Keeps s (cond blank s (with_site s x name t at))
  keeps_named s x name t at true = keeps_none s
  keeps_named s x name t at false = record { blocks = refl; declared = ([], sym (append-nil s.declared), tt); sites = (_, refl); kept = refl; strings = omega arith; kinds = λ k. k }

  pub keeps_variable : (s : Scope) (k : ℕ) (i : Item) → Keeps s (behind_variable text s k i)
  keeps_variable s k i = keeps_named s s.setting (spelled text i.name) (type_or_int (known s k)) i.name.pos (is_blank (spelled text i.name))

  pub keeps_members : (s : Scope) (ms : List Member) → Keeps s (behind_members text heads s ms)
  keeps_members s [] = keeps_none s
  keeps_members s (of_function g ∷ ms) = keeps_twice s (behind_function text heads s g) (behind_members text heads (behind_function text heads s g) ms) (keeps_function s g) (keeps_members (behind_function text heads s g) ms)
  keeps_members s (of_variable k i ∷ ms) = keeps_twice s (behind_variable text s k i) (behind_members text heads (behind_variable text s k i) ms) (keeps_variable s k i) (keeps_members (behind_variable text s k i) ms)
