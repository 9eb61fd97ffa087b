-- The least number of a flow, and tags.
use Rattle.std.proofs.Common.{◌≡◌, ℕ, ◌≤◌, ℤ, pos, negsuc, ◌≤ℤ◌, Bool, true, List, Option, Some, None, length, refl, sym, subst, arith}
use Rattle.std.specs.List.{Contains}
use Rattle.std.specs.Int.{int_max}
use Rattle.std.proofs.lemmas.Int.{ints, clamps}
use Rattle.std.proofs.lemmas.Option.{slice_get_read}
use Rattle.deref_walk.specs.declared.loc.Loc.{Loc}
use Rattle.deref_walk.specs.declared.graph.Edge.{Edge}
use Rattle.deref_walk.specs.Weights.{AreWeights}
use Rattle.deref_walk.specs.Flow.{number_after, Reaches, itself, along, IsLeast}
use Rattle.param_tags.specs.Heap.{IsAtMost, IsFlow, IsTag}
use Rattle.param_tags.proofs.Finer.{IsFiner, IsLess, finer_flow}

after_low : (d w : ℤ) → negsuc 0 ≤ℤ w → negsuc 0 ≤ℤ number_after d w
after_low d w h = omega (arith, ints, clamps)

weight_of : (E : List Edge) → AreWeights E → (e : Edge) → Contains E e → negsuc 0 ≤ℤ e.weight
weight_of E w e among = w among.0 e (slice_get_read E (length E) among.0 e refl among.1 (sym among.2))

pub never_lower : (E : List Edge) → AreWeights E → (r l : Loc) (d : ℤ) → Reaches E r l d → negsuc 0 ≤ℤ d
never_lower E w r _ _ itself = omega (arith, ints)
never_lower E w r _ _ (along {d = d} e among flow) = after_low d e.weight (weight_of E w e among)

one_number : (c : ℤ) → c ≤ℤ negsuc 0 → negsuc 0 ≤ℤ c → c ≡ negsuc 0
one_number c h g = omega (arith, ints)

pub least_by : (E : List Edge) → AreWeights E → (r l : Loc) → Reaches E r l (negsuc 0) → IsLeast E r l (Some (negsuc 0))
least_by E w r l flow = (flow, λ d other. never_lower E w r l d other)

-- what may be held by some edges is held by finer ones
pub least_finer : (E F : List Edge) → AreWeights F → IsFiner E F → (r l : Loc) → IsLeast E r l (Some (negsuc 0)) → IsLeast F r l (Some (negsuc 0))
least_finer E F w finer r l least =
    let flow = finer_flow E F finer r l (negsuc 0) least.0 in
    least_by F w r l (subst (λ (d : ℤ). Reaches F r l d) (one_number flow.0 flow.2 (never_lower F w r l flow.0 flow.1)) flow.1)

-- ---- tags

no_flow : (d : ℤ) (o : Option ℕ) (n : ℕ) → int_max d (pos 0) ≡ pos n → (c : ℤ) → c ≤ℤ d → IsAtMost o c → (m : ℕ) × (o ≡ Some m) × (pos m ≤ℤ pos n)
no_flow d None n is c below most = absurd most
no_flow d (Some m) n is c below most = (m, refl, omega (arith, ints, clamps))

int_to_nat : (m n : ℕ) → pos m ≤ℤ pos n → m ≤ n
int_to_nat m n h = omega (arith, ints)

pub tag_less : (R S : Loc → Bool) (E F : List Edge) (l : Loc) (t u : Option ℕ) → IsTag R E l t → IsTag S F l u → IsFiner E F → ((r : Loc) → R r ≡ true → S r ≡ true) → IsLess t u
tag_less R S E F l None u a b finer roots x is = absurd (cc)
tag_less R S E F l (Some n) u a b finer roots x is =
    let flow = a.flow in
    let better = finer_flow E F finer flow.0 l flow.1 flow.3 in
    let found = no_flow flow.1 u n flow.4 better.0 better.2 (b.least flow.0 better.0 (roots flow.0 flow.2) better.1) in
    let same : n ≡ x = cc in
    (found.0, found.1, subst (λ (y : ℕ). found.0 ≤ y) same (int_to_nat found.0 n found.2))

flow_roots : (R S : Loc → Bool) (E : List Edge) (l : Loc) (o : Option ℕ) → ((r : Loc) → R r ≡ true → S r ≡ true) → IsFlow R E l o → IsFlow S E l o
flow_roots R S E l None h f = tt
flow_roots R S E l (Some n) h f = (f.0, f.1, h f.0 f.2, f.3, f.4)

-- a tag stays, where only roots join to which nothing flows
pub tag_roots : (R S : Loc → Bool) (E : List Edge) (l : Loc) (o : Option ℕ) → IsTag R E l o → ((r : Loc) → R r ≡ true → S r ≡ true) → ((r : Loc) (d : ℤ) → S r ≡ true → Reaches E r l d → R r ≡ true) → IsTag S E l o
tag_roots R S E l o tag more back = record { flow = flow_roots R S E l o more tag.flow; least = λ r d root flow. tag.least r d (back r d root flow) flow }
