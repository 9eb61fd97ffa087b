-- A tree has one scope of the names of its package, and so one answer of the rules with these.
use Rattle.std.proofs.Common.{◌≡◌, Option, Some, None, sym, ap, ◌∙◌, subst}
use Rattle.type_faults.specs.declared.fault.Fault.{Fault}
use Rattle.type_faults.specs.Least.{IsLeast}
use Rattle.syntax.specs.Declarations.{Syntax}
use Rattle.struct_sizes.specs.declared.verdicts.Verdict.{Verdict}
use Rattle.struct_sizes.proofs.Settled.{one_answer}
use Rattle.typed.specs.Tables.{Table}
use Rattle.type_tables.specs.Told.{sized_structs, program_table}
use Rattle.declared_structs.specs.Tables.{with_structs, IsTableOf}
use Rattle.names.specs.Scope.{Scope}
use Rattle.std.specs.Prelude.{List, length}
use Rattle.types_go.specs.Functions.{structs_of, heads_with, IsHeads}
use Rattle.types_go.specs.FunctionFaults.{FailsWithHeads, FailsIn}

module _ (t : Syntax) where
  one_table : (T U : Table) → IsTableOf (structs_of t) T → IsTableOf (structs_of t) U → T ≡ U
  one_table T U a b =
      a.2 ∙ ap (λ (vs : List Verdict). with_structs (program_table (sized_structs (structs_of t) vs)) (length (structs_of t))) (one_answer (structs_of t) a.0 b.0 a.1 b.1)
      ∙ sym b.2

  pub one_heads : (h r : Scope) → IsHeads t h → IsHeads t r → h ≡ r
  one_heads h r a b = a.is ∙ ap (heads_with t) (one_table a.table b.table a.is_table b.is_table) ∙ sym b.is

  -- the least of the faults with these names is that of the tree
  pub least_of_tree : (h : Scope) (b : Option Fault) → IsHeads t h → IsLeast (FailsWithHeads t h) b → IsLeast (FailsIn t) b
  least_of_tree h None is least = λ f k. least f (subst (λ (r : Scope). FailsWithHeads t r f) (one_heads k.heads h k.is_heads is) k.fails)
  least_of_tree h (Some f) is least = (
    record { heads = h; is_heads = is; fails = least.0 },
    λ g k. least.1 g (subst (λ (r : Scope). FailsWithHeads t r g) (one_heads k.heads h k.is_heads is) k.fails),
  )
