-- A home more of a placement.
use Rattle.std.proofs.Common.{◌≡◌, ℕ, ◌+◌, ◌≤◌, Bool, true, false, ◌&&◌, ◌||◌, ◌==◌, nat_lt, List, length, get_or, sym, ap, subst, ◌∙◌, inl, inr, arith}
use Rattle.std.proofs.lemmas.Bool.{cases_eq, cases_lt}
use Rattle.std.proofs.lemmas.Bool.Decides.{nat_tests}
use Rattle.std.proofs.lemmas.List.{get_or_past}
use Rattle.value_flows.specs.declared.placed.Placed.{Placed}
use Rattle.value_flows.specs.declared.placed.Placed.TheVariants.{Stack}
use Rattle.param_tags.specs.Heap.{is_on, heap_of}

-- a site below n whose home is on the heap
abbrev pub told_below : ℕ → List Placed → ℕ → Bool
told_below n placed site = nat_lt site n && heap_of placed site

pub none_below : (placed : List Placed) (site : ℕ) → false ≡ told_below 0 placed site
none_below placed site = grind (arith, nat_tests)

on_by : (placed : List Placed) (n : ℕ) (home : Placed) → home ≡ get_or placed n Stack → heap_of placed n ≡ is_on home
on_by placed n home is = ap is_on (sym is)

-- that home is one of the heap
pub told_on : (placed : List Placed) (n site : ℕ) (home : Placed) (before : Bool) → home ≡ get_or placed n Stack → is_on home ≡ true → before ≡ told_below n placed site
    → (n == site) || before ≡ told_below (n + 1) placed site
told_on placed n site home before is on old =
    let here : heap_of placed n ≡ true = on_by placed n home is ∙ on in
    elim (cases_eq n site) [
      | inl same ↦ (let h : heap_of placed site ≡ true = subst (λ (k : ℕ). heap_of placed k ≡ true) same here in grind (arith, nat_tests))
      | inr other ↦ grind (arith, nat_tests)
    ]

-- it is none
pub told_off : (placed : List Placed) (n site : ℕ) (home : Placed) (before : Bool) → home ≡ get_or placed n Stack → is_on home ≡ false → before ≡ told_below n placed site
    → before ≡ told_below (n + 1) placed site
told_off placed n site home before is off old =
    let here : heap_of placed n ≡ false = on_by placed n home is ∙ off in
    elim (cases_eq n site) [
      | inl same ↦ (let h : heap_of placed site ≡ false = subst (λ (k : ℕ). heap_of placed k ≡ false) same here in grind (arith, nat_tests))
      | inr other ↦ grind (arith, nat_tests)
    ]

past_off : (placed : List Placed) (site : ℕ) → length placed ≤ site → heap_of placed site ≡ false
past_off placed site past = ap is_on (get_or_past placed site Stack past)

-- past the last home all live in frames
pub told_all : (placed : List Placed) (n site : ℕ) → length placed ≤ n → told_below n placed site ≡ heap_of placed site
told_all placed n site past = elim (cases_lt site n) [
  | inl below ↦ grind (arith, nat_tests)
  | inr above ↦ (let off = past_off placed site (omega arith) in grind (arith, nat_tests))
]
