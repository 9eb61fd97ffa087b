-- What is given: something where a rule holds, what two parts give together, and what some give one after the other.
use Rattle.std.specs.Prelude.{Bool, List, [], ◌∷◌, ◌++◌, Option, Some, None, option_and_then, if◌then◌else◌}

-- where a rule holds, and else nothing
abbrev pub allowed : {A : Type 0} → Bool → Option A → Option A
allowed b o = if b then o else None

-- what two operands give together, where both give something
abbrev pub both : {A B C : Type 0} → (A → B → Option C) → Option A → Option B → Option C
both k a b = option_and_then (λ x. option_and_then (k x) b) a

-- one more, where all are some
abbrev pub with_last : {A : Type 0} → Option (List A) → Option A → Option (List A)
with_last (Some xs) (Some x) = Some (xs ++ x ∷ [])
with_last (Some xs) None = None
with_last None x = None
