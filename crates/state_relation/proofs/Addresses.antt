-- Addresses of parts, of elements and of slices, from others.
use Rattle.std.proofs.Common.{◌≡◌, ℕ, zero, suc, ◌+◌, ◌*◌, ◌<◌, ◌≤◌, List, [], ◌∷◌, ◌++◌, Option, refl, ap, arith, suc-mul}
use Rattle.typed_syntax.specs.Types.{TypeTree, array_of, width}
use Rattle.typed_syntax.specs.Paths.{Leads, offset}
use Rattle.value_laws.proofs.Parts.{element, joined_types}
use Rattle.meaning.specs.Trace.{World}
use Rattle.state_relation.specs.Views.{Place}
use Rattle.state_relation.specs.Relation.{Reaches, ReachesInto}

pub times_sum : (a b n : ℕ) → (a + b) * n ≡ a * n + b * n
times_sum zero b n = let e : 0 + b ≡ b = omega arith in let q = ap (λ k. k * n) e in omega arith
times_sum (suc a) b n = let e : suc a + b ≡ suc (a + b) = omega arith in let q = ap (λ k. k * n) e in omega (arith, q, times_sum a b n, suc-mul a n, suc-mul (a + b) n)

module _ (homes : ℕ → Option Place) (hi : ℕ) (w : World) where
  -- a part of what an address leads to, which lacks its offset there, or has it added
  pub part_lacks : (t s : TypeTree) (x : ℕ) (path way : List ℕ) (lacks u : ℕ) → Leads t way s → Reaches homes hi w t x path lacks u → Reaches homes hi w s x (path ++ way) (lacks + offset t way) u
  part_lacks t s x path way lacks u leads r =
      let j = joined_types r.cell.type t s path way r.leads in let off = j.offset in let less = r.less in
      record { cell = r.cell; there = r.there; leads = j.leads leads; less = omega (arith, off); some = r.some; at = λ q e. (let a = r.at q e in omega (arith, a, off)) }

  pub part_reached : (t s : TypeTree) (x : ℕ) (path way : List ℕ) (lacks u : ℕ) → Leads t way s → Reaches homes hi w t x path lacks u → Reaches homes hi w s x (path ++ way) lacks (u + offset t way)
  part_reached t s x path way lacks u leads r =
      let j = joined_types r.cell.type t s path way r.leads in let off = j.offset in let less = r.less in let some = r.some in
      record { cell = r.cell; there = r.there; leads = j.leads leads; less = omega (arith, off); some = omega arith; at = λ q e. (let a = r.at q e in omega (arith, a, off)) }

  -- a slice of a whole array
  pub array_sliced : (n : ℕ) (t : TypeTree) (x : ℕ) (path : List ℕ) (u : ℕ) → Reaches homes hi w (array_of n t) x path 0 u → ReachesInto homes hi w t x path 0 n u
  array_sliced n t x path u r =
      record { cell = r.cell; there = r.there; count = n; leads = r.leads; within = omega arith; some = r.some; at = λ q e. (let a = r.at q e in omega (arith, a)) }

  -- a slice of a slice, which may begin behind its last element
  pub slice_sliced : (t : TypeTree) (x : ℕ) (path : List ℕ) (first room low less u : ℕ) → low + less ≤ room → ReachesInto homes hi w t x path first room u → ReachesInto homes hi w t x path (first + low) less (u + low * width t)
  slice_sliced t x path first room low less u le r =
      let within = r.within in let some = r.some in let sum = times_sum first low (width t) in
      record { cell = r.cell; there = r.there; count = r.count; leads = r.leads; within = omega arith; some = omega arith; at = λ q e. (let a = r.at q e in omega (arith, a, sum)) }

  -- an element of a slice
  pub element_reached : (t : TypeTree) (x : ℕ) (path : List ℕ) (first room i u : ℕ) → i < room → ReachesInto homes hi w t x path first room u → Reaches homes hi w t x (path ++ (first + i) ∷ []) 0 (u + i * width t)
  element_reached t x path first room i u lt r =
      let within = r.within in let some = r.some in let sum = times_sum first i (width t) in
      let one = element r.count t t (first + i) [] (omega arith) in
      let j = joined_types r.cell.type (array_of r.count t) t path ((first + i) ∷ []) r.leads in
      let off : offset r.cell.type (path ++ (first + i) ∷ []) ≡ offset r.cell.type path + (first + i) * width t = omega (arith, j.offset, one.offset) in
      record { cell = r.cell; there = r.there; leads = j.leads (one.leads refl); less = omega arith; some = omega arith; at = λ q e. (let a = r.at q e in omega (arith, a, off, sum)) }
