-- The fold over the lines, one line on.
use Rattle.std.proofs.Common.{◌≡◌, ℕ, ◌+◌, List, [], ◌∷◌, Option, Some, None, sym, ap, ◌∙◌}
use Rattle.base.specs.declared.ids.SiteId.{SiteId}
use Rattle.deref_walk.specs.declared.graph.Edge.{Edge}
use Rattle.deref_walk.specs.declared.graph.Location.{Location}
use Rattle.std.specs.Prelude.{Bool}
use Rattle.report_checks.specs.declared.line.Line.{Line}
use Rattle.report_checks.specs.declared.fault.ReportFault.{ReportFault}
use Rattle.report_checks.specs.declared.state.State.{State}
use Rattle.report_checks.specs.declared.state.Next.{Next}
use Rattle.report_checks.specs.Verdict.{fault_of, first_fault, state_after, next_of, or_else}

module _ (edges : List Edge) (locations : List Location) (heap : SiteId → Bool) where
  pub at_line : (state : State) (n : ℕ) (o : Option Line) (read all : List (Option Line)) (next : Next) → all ≡ o ∷ read → next ≡ next_of read
      → first_fault edges locations heap state n all ≡ or_else (fault_of edges locations heap state n o next) (first_fault edges locations heap (state_after state o next) (n + 1) read)
  unfolding first_fault
  at_line state n o read all next e k =
      ap (first_fault edges locations heap state n) e ∙ ap (λ (x : Next). or_else (fault_of edges locations heap state n o x) (first_fault edges locations heap (state_after state o x) (n + 1) read)) (sym k)

  pub at_fault : (state : State) (n : ℕ) (o : Option Line) (read all : List (Option Line)) (next : Next) (fault : ReportFault) → all ≡ o ∷ read → next ≡ next_of read
      → Some fault ≡ fault_of edges locations heap state n o next → first_fault edges locations heap state n all ≡ Some fault
  at_fault state n o read all next fault e k f =
      at_line state n o read all next e k ∙ ap (λ (x : Option ReportFault). or_else x (first_fault edges locations heap (state_after state o next) (n + 1) read)) (sym f)

  pub at_none : (state : State) (n : ℕ) (o : Option Line) (read all : List (Option Line)) (next : Next) → all ≡ o ∷ read → next ≡ next_of read
      → None ≡ fault_of edges locations heap state n o next → first_fault edges locations heap state n all ≡ first_fault edges locations heap (state_after state o next) (n + 1) read
  at_none state n o read all next e k f =
      at_line state n o read all next e k ∙ ap (λ (x : Option ReportFault). or_else x (first_fault edges locations heap (state_after state o next) (n + 1) read)) (sym f)

  pub at_end : (state : State) (n : ℕ) (all : List (Option Line)) → all ≡ [] → first_fault edges locations heap state n all ≡ None
  unfolding first_fault
  at_end state n all e = ap (first_fault edges locations heap state n) e
