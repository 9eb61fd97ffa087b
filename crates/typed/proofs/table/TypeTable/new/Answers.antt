-- The table of the basic types is formed.
use Rattle.std.proofs.Common.{◌≡◌, rules, ℕ, Option, None, Some, List, [], ◌∷◌, replicate, map, zero, suc, subst, ap, ap₂, ◌∙◌, refl, sym, arith}
use Rattle.typed.specs.declared.told.Told.{Told}
use Rattle.base.specs.declared.value_type.ValueType.{ValueType}
use Rattle.typed.specs.Formed.{IsFormed}
use Rattle.typed.specs.Memory.{fields_in, table_of, IsCounted}
use Rattle.typed.proofs.Beginning.{basic, formed_basic, counted_basic}
use Rattle.typed.proofs.PartTrees.{basic_trees}
use Rattle.typed.proofs.table.TypeTable.new.Goals as goal

basic_at : (types : List ValueType) (told : List (Option Told)) (words : List (Option ℕ)) (n : ℕ) → types ≡ basic → told ≡ replicate n None → words ≡ Some 1 ∷ Some 1 ∷ [] → IsFormed (table_of types told) × IsCounted (table_of types told) words told
basic_at types told words n a b c =
    subst (λ ts. IsFormed (table_of ts told) × IsCounted (table_of ts told) words told) (sym a)
    (subst (λ ss. IsFormed (table_of basic ss) × IsCounted (table_of basic ss) words ss) (sym b)
    (subst (λ ws. IsFormed (table_of basic (replicate n None)) × IsCounted (table_of basic (replicate n None)) ws (replicate n None)) (sym c) (formed_basic n, counted_basic n)))

pub invariant_of-result : goal.invariant_of-result
invariant_of-result c =
    basic_at c.insert-2.new.self.keys c.loop.untold.items c.in_ok-words.words.items c.loop.counter (search rules) c.loop.invariant (search rules)

map_none : (n : ℕ) → map fields_in (replicate n None) ≡ replicate n None
map_none zero = refl
map_none (suc n) = ap (λ ss. None ∷ ss) (map_none n)

told_none : (told : List (Option Told)) (n m : ℕ) → told ≡ replicate n None → n ≡ m → map fields_in told ≡ replicate m None
told_none told n m p q = ap (map fields_in) (p ∙ ap (λ k. replicate k None) q) ∙ map_none m

pub returns-clause-basic : goal.returns-clause-basic
returns-clause-basic c = ap₂ (λ ts ss. record { types = ts; structs = ss }) (search rules) (told_none c.loop.untold.items c.loop.counter c.args.structs c.loop.invariant (omega arith))

pub returns-clause-formed : goal.returns-clause-formed
returns-clause-formed c = (invariant_of-result c).0

pub returns-clause-trees : goal.returns-clause-trees
returns-clause-trees c = basic_trees _ (returns-clause-formed c) (ap (λ T. T.types) (returns-clause-basic c))
