-- Two words that stand for contents of one type are equal exactly where these are, if the variables that addresses lead to have homes.
use Rattle.std.proofs.Common.{◌≡◌, ℕ, zero, suc, ◌+◌, ◌*◌, ◌-◌, ◌^◌, ◌<◌, ◌≤◌, ℤ, Bool, true, false, ◌&&◌, List, [], ◌∷◌, ◌++◌, drop, Option, Some, refl, sym, ap, ap₂, ◌∙◌, subst, inl, inr, arith}
use Rattle.std.specs.Prelude.{◌↔◌, Decides, slice_get}
use Rattle.std.specs.Int.{w64, cast_signed, cast_unsigned}
use Rattle.std.proofs.Math.Nat.{mul-le-mul_right}
use Rattle.std.proofs.lemmas.Int.{of_z-to_z}
use Rattle.std.proofs.lemmas.Bool.{cases_eq}
use Rattle.std.proofs.lemmas.Bool.Decides.{same_from_decides}
use Rattle.typed_syntax.specs.Types.{TypeTree, PartTypes, ints, bools, struct_of, array_of, pointer_to, slice_of, no_types, more_types, width, repeated, types_in, nth_type, part_count, part_type}
use Rattle.typed_syntax.specs.Value.{Value, Values, int, bool, composite, nil_pointer, pointer, nil_slice, slice_in, no_values, more_values, IsOf, same}
use Rattle.typed_syntax.specs.Paths.{Leads, offset}
use Rattle.typed_syntax.specs.Words.{Content, number, truth, no_address, part_address, array_address, contents, contents_in, all_equal}
use Rattle.typed_syntax.specs.Syntax.{type_named}
use Rattle.value_laws.specs.Laws.{HasNoSlices, HaveNoSlices, IsNoElement}
use Rattle.value_laws.proofs.Equal.{same_decides, by_contents}
use Rattle.value_laws.proofs.Parts.{within, lie_apart}
use Rattle.meaning.specs.Trace.{World, Cell}
use Rattle.isa.specs.Bin.{bit_of}
use Rattle.state_relation.specs.Leaves.{leaves}
use Rattle.state_relation.specs.Views.{Place, on_stack, on_heap, View}
use Rattle.state_relation.specs.Relation.{Memory, Frame, address_in, behind, nothing, Leading, to_none, to_heap, to_any, MayLead, Reaches, StandsFor, Stand, Good}
use Rattle.state_relation.proofs.Lists.{some_same}
use Rattle.state_relation.proofs.Relation.{site_within}
use Rattle.state_relation.proofs.Words.{FitLeaves, value_fits}
use Rattle.state_relation.proofs.Built.{Built}
use Rattle.state_relation.proofs.Touches.{address_small}

-- ---- one path leads to a part of a type at an offset

abbrev mutual
  nodes : TypeTree → ℕ
  nodes ints = 1
  nodes bools = 1
  nodes (struct_of ts) = suc (nodes_in ts)
  nodes (array_of n t) = suc (nodes t)
  nodes (pointer_to n) = 1
  nodes (slice_of n) = 1

  nodes_in : PartTypes → ℕ
  nodes_in no_types = 0
  nodes_in (more_types t ts) = nodes t + nodes_in ts

nth_nodes : (ts : PartTypes) (i : ℕ) → i < types_in ts → nodes (nth_type ts i) ≤ nodes_in ts
nth_nodes no_types i l = absurd (omega arith)
nth_nodes (more_types t ts) zero l = omega arith
nth_nodes (more_types t ts) (suc i) l = let r = nth_nodes ts i (omega arith) in omega arith

element_nodes : (n : ℕ) (t : TypeTree) (i : ℕ) → i < types_in (repeated n t) → nodes (nth_type (repeated n t) i) ≤ nodes t
element_nodes zero t i l = absurd (omega arith)
element_nodes (suc n) t zero l = omega arith
element_nodes (suc n) t (suc i) l = element_nodes n t i (omega arith)

part_nodes : (t : TypeTree) (i : ℕ) → i < part_count t → nodes (part_type t i) < nodes t
part_nodes ints i l = absurd (omega arith)
part_nodes bools i l = absurd (omega arith)
part_nodes (struct_of ts) i l = let r = nth_nodes ts i l in omega arith
part_nodes (array_of n t) i l = let r = element_nodes n t i l in omega arith
part_nodes (pointer_to n) i l = absurd (omega arith)
part_nodes (slice_of n) i l = absurd (omega arith)

path_nodes : (t s : TypeTree) (path : List ℕ) → Leads t path s → nodes s ≤ nodes t
path_nodes t s [] e = let q = ap nodes e in omega arith
path_nodes t s (i ∷ path) l = let a = part_nodes t i l.0 in let b = path_nodes (part_type t i) s path l.1 in omega arith

-- no part of a type is one of the type
no_way_back : (t : TypeTree) (i : ℕ) (path : List ℕ) → Leads t (i ∷ path) t → ⊥
no_way_back t i path l = let a = part_nodes t i l.0 in let b = path_nodes (part_type t i) t path l.1 in omega arith

pub one_path : (t s : TypeTree) (p q : List ℕ) → Leads t p s → Leads t q s → 0 < width s → offset t p ≡ offset t q → p ≡ q
one_path t s [] [] lp lq some e = refl
one_path t s [] (j ∷ q) lp lq some e = absurd (no_way_back t j q (subst (λ u. Leads t (j ∷ q) u) (sym lp) lq))
one_path t s (i ∷ p) [] lp lq some e = absurd (no_way_back t i p (subst (λ u. Leads t (i ∷ p) u) (sym lq) lp))
one_path t s (i ∷ p) (j ∷ q) lp lq some e = elim (cases_eq i j) [
  | inl k ↦
      let lq1 : Leads t (i ∷ q) s = subst (λ n. Leads t (n ∷ q) s) (sym k) lq in
      let e1 : offset t (i ∷ p) ≡ offset t (i ∷ q) = e ∙ ap (λ n. offset t (n ∷ q)) (sym k) in
      ap₂ (λ n r. n ∷ r) k (one_path (part_type t i) s p q lp.1 lq1.1 some (omega (arith, e1)))
  | inr ne ↦ absurd (elim (lie_apart t s s (i ∷ p) (j ∷ q) (inl ne) lp lq) [ inl l ↦ omega (arith, l, e) | inr l ↦ omega (arith, l, e) ])
]

-- what may be led to has a home, but where any variable may
pub led_home : (led : Leading) (homes : ℕ → Option Place) (x : ℕ) → (led ≡ to_any → ⊥) → MayLead led homes x → (q : Place) × (homes x ≡ Some q)
led_home to_none homes x some m = absurd m
led_home to_heap homes x some m = (on_heap m.0, m.1)
led_home to_any homes x some m = absurd (some refl)

abbrev variable_in : Content → ℕ
variable_in (part_address x path) = x
variable_in c = 0

abbrev path_in : Content → List ℕ
path_in (part_address x path) = path
path_in c = []

abbrev number_in : Content → ℤ
number_in (number z) = z
number_in c = ℤ.pos 0

abbrev truth_in : Content → Bool
truth_in (truth b) = b
truth_in c = false

abbrev leads_in : Content → Bool
leads_in (part_address x path) = true
leads_in (array_address x path first room) = true
leads_in c = false

bits_tell : (a b : Bool) → bit_of a ≡ bit_of b → a ≡ b
bits_tell true true e = refl
bits_tell true false e = absurd (omega arith)
bits_tell false true e = absurd (omega arith)
bits_tell false false e = refl

false_true : false ≡ true → ⊥
false_true e = cc

both_true : (a b : Bool) → (a && b) ≡ true → (a ≡ true) × (b ≡ true)
both_true true b e = (refl, e)
both_true false b e = absurd (false_true e)

and_true : (a b : Bool) → a ≡ true → b ≡ true → (a && b) ≡ true
and_true true b ea eb = eb
and_true false b ea eb = absurd (false_true ea)

abbrev first_of : List Content → Content
first_of [] = nothing
first_of (c ∷ cs) = c

-- ---- a value without slices that lead anywhere

abbrev pub NoElements : List Content → Type 0
NoElements [] = Unit {0}
NoElements (c ∷ cs) = IsNoElement c × NoElements cs

none_joined : (cs ds : List Content) → NoElements cs → NoElements ds → NoElements (cs ++ ds)
none_joined [] ds a b = b
none_joined (c ∷ cs) ds a b = (a.0, none_joined cs ds a.1 b)

mutual
  no_elements : (v : Value) → HasNoSlices v → NoElements (contents v)
  no_elements (int z) none = (tt, tt)
  no_elements (bool b) none = (tt, tt)
  no_elements (composite vs) none = all_no_elements vs none
  no_elements nil_pointer none = (tt, tt)
  no_elements (pointer x path) none = (tt, tt)
  no_elements nil_slice none = (tt, (tt, (tt, tt)))
  no_elements (slice_in x path first count room) none = absurd none

  all_no_elements : (vs : Values) → HaveNoSlices vs → NoElements (contents_in vs)
  all_no_elements no_values none = tt
  all_no_elements (more_values v vs) none = none_joined (contents v) (contents_in vs) (no_elements v none.0) (all_no_elements vs none.1)

module _ (m : Built) (v : View) (w : World) (calls : List Frame) (s : Memory) (g : Good m.program m.placement m.max m.leading v w calls s) where
  -- a word of two homes is one word
  same_place : (x y a b : ℕ) (c d : Cell) (q r : Place) → slice_get w.store x ≡ Some c → slice_get w.store y ≡ Some d → v.homes x ≡ Some q → v.homes y ≡ Some r → a < width c.type → b < width d.type → address_in s.hi q + a ≡ address_in s.hi r + b → behind q a ≡ behind r b
  same_place x y a b c d (on_stack j) (on_stack k) hx hy ex ey la lb e =
      let i = site_within m.program m.placement calls j c.type (g.homed.stacked x j c hx ex) in let o = site_within m.program m.placement calls k d.type (g.homed.stacked y k d hy ey) in let z = g.sized in
      let f : j - a ≡ k - b = omega (arith, e, i.0, i.1, o.0, o.1, z.fits, z.low) in ap on_stack f
  same_place x y a b c d (on_heap j) (on_heap k) hx hy ex ey la lb e = let f : j + a ≡ k + b = omega (arith, e) in ap on_heap f
  same_place x y a b c d (on_stack j) (on_heap k) hx hy ex ey la lb e =
      let i = site_within m.program m.placement calls j c.type (g.homed.stacked x j c hx ex) in let o = g.homed.heaped y k d hy ey in let z = g.sized in
      absurd (omega (arith, e, i.0, i.1, o, z.fits, z.low, z.small))
  same_place x y a b c d (on_heap j) (on_stack k) hx hy ex ey la lb e =
      let i = site_within m.program m.placement calls k d.type (g.homed.stacked y k d hy ey) in let o = g.homed.heaped x j c hx ex in let z = g.sized in
      absurd (omega (arith, e, i.0, i.1, o, z.fits, z.low, z.small))

  -- equal words lead to one part
  same_part : (t : TypeTree) (x y u : ℕ) (p q : List ℕ) (a b : Place) → v.homes x ≡ Some a → v.homes y ≡ Some b → 0 < width t → Reaches v.homes s.hi w t x p 0 u → Reaches v.homes s.hi w t y q 0 u → (x ≡ y) × (p ≡ q)
  same_part t x y u p q a b hx hy some r o =
      let ends_r = within r.cell.type t p r.leads in let ends_o = within o.cell.type t q o.leads in
      let at_r = r.at a hx in let at_o = o.at b hy in
      let place = same_place x y (offset r.cell.type p) (offset o.cell.type q) r.cell o.cell a b r.there o.there hx hy (omega arith) (omega arith) (omega (arith, at_r, at_o)) in
      let one = g.homed.sole x y (offset r.cell.type p) (offset o.cell.type q) r.cell o.cell a b r.there o.there hx hy (omega arith) (omega arith) place in
      let cells : r.cell ≡ o.cell = some_same (sym r.there ∙ ap (slice_get w.store) one.0 ∙ o.there) in
      let types : o.cell.type ≡ r.cell.type = ap (λ (c : Cell). c.type) (sym cells) in
      (one.0, one_path r.cell.type t p q r.leads (subst (λ n. Leads n q t) types o.leads) some (one.1 ∙ ap (λ n. offset n q) types))

  -- one part has one address
  same_word : (t : TypeTree) (x y u z : ℕ) (p q : List ℕ) (a : Place) → v.homes x ≡ Some a → x ≡ y → p ≡ q → Reaches v.homes s.hi w t x p 0 u → Reaches v.homes s.hi w t y q 0 z → u ≡ z
  same_word t x y u z p q a hx ex ep r o =
      let cells : r.cell ≡ o.cell = some_same (sym r.there ∙ ap (slice_get w.store) ex ∙ o.there) in
      let off : offset r.cell.type p ≡ offset o.cell.type q = ap₂ (λ (c : Cell) l. offset c.type l) cells ep in
      let at_r = r.at a hx in let at_o = o.at a (ap v.homes (sym ex) ∙ hx) in omega (arith, at_r, at_o, off)

  behind_first : (l : TypeTree) (ls : List TypeTree) (c : Content) (cs : List Content) (x : ℕ) (xs : List ℕ) → Stand m.program m.leading v.homes s.hi w (l ∷ ls) (c ∷ cs) (x ∷ xs) → Stand m.program m.leading v.homes s.hi w ls cs xs
  behind_first l ls c cs x xs st = record { long = (let n = st.long in omega arith); each = λ j lt. st.each (suc j) (omega arith) }

  module _ (some_home : m.leading ≡ to_any → ⊥) where
    home_of : (x : ℕ) → MayLead m.leading v.homes x → (q : Place) × (v.homes x ≡ Some q)
    home_of x may = led_home m.leading v.homes x some_home may

    pub word_small : (t : TypeTree) (c : Content) (x : ℕ) → StandsFor m.program m.leading v.homes s.hi w t c x → x < 2 ^ 64
    word_small ints (number z) x st = st.1
    word_small bools (truth true) x st = omega (arith, st)
    word_small bools (truth false) x st = omega (arith, st)
    word_small (pointer_to n) no_address x st = omega (arith, st)
    word_small (pointer_to n) (part_address y path) x st =
        let r = st.2 in let h = home_of y st.0 in let ends = within r.cell.type (type_named m.program n) path r.leads in let at = r.at h.0 h.1 in
        let top = address_small m v w calls s g y r.cell h.0 (offset r.cell.type path) r.there h.1 (omega arith) in omega (arith, at, top)
    word_small (slice_of n) no_address x st = omega (arith, st)
    word_small (slice_of n) (array_address y path first room) x st =
        let r = st.1 in let t = type_named m.program n in let h = home_of y st.0 in let ends = within r.cell.type (array_of r.count t) path r.leads in let at = r.at h.0 h.1 in
        let few = r.within in let less = mul-le-mul_right {m = first} {n = r.count} (width t) (omega arith) in
        let top = address_small m v w calls s g y r.cell h.0 (offset r.cell.type path + first * width t) r.there h.1 (omega arith) in omega (arith, at, top)
    word_small (struct_of ts) c x st = absurd st
    word_small (array_of n t) c x st = absurd st
    word_small t c x st = absurd st

    words_tell : (t : TypeTree) (c d : Content) (x y : ℕ) → IsNoElement c → StandsFor m.program m.leading v.homes s.hi w t c x → StandsFor m.program m.leading v.homes s.hi w t d y → (x ≡ y) ↔ (c ≡ d)
    words_tell ints (number a) (number b) x y none sx sy = (
      λ e. ap number (sym sx.0 ∙ ap (cast_signed w64) e ∙ sy.0),
      λ e. sym (of_z-to_z w64 x sx.1) ∙ ap (cast_unsigned w64) (sx.0 ∙ ap number_in e ∙ sym sy.0) ∙ of_z-to_z w64 y sy.1,
    )
    words_tell bools (truth a) (truth b) x y none sx sy = (λ e. ap truth (bits_tell a b (sym sx ∙ e ∙ sy)), λ e. sx ∙ ap (λ c. bit_of (truth_in c)) e ∙ sym sy)
    words_tell (pointer_to n) no_address no_address x y none sx sy = (λ e. refl, λ e. sx ∙ sym sy)
    words_tell (pointer_to n) no_address (part_address z path) x y none sx sy = (λ e. absurd (let some = sy.2.some in omega (arith, sx, e)), λ e. absurd (false_true (ap leads_in e)))
    words_tell (pointer_to n) (part_address z path) no_address x y none sx sy = (λ e. absurd (let some = sx.2.some in omega (arith, sy, e)), λ e. absurd (false_true (sym (ap leads_in e))))
    words_tell (pointer_to n) (part_address z p) (part_address k q) x y none sx sy = let hz = home_of z sx.0 in let hk = home_of k sy.0 in let t = type_named m.program n in (
      λ e. let one = same_part t z k y p q hz.0 hk.0 hz.1 hk.1 sx.1 (subst (λ u. Reaches v.homes s.hi w t z p 0 u) e sx.2) sy.2 in ap₂ part_address one.0 one.1,
      λ e. same_word t z k x y p q hz.0 hz.1 (ap variable_in e) (ap path_in e) sx.2 sy.2,
    )
    words_tell (slice_of n) no_address no_address x y none sx sy = (λ e. refl, λ e. sx ∙ sym sy)
    words_tell (slice_of n) no_address (array_address z path first room) x y none sx sy = (λ e. absurd (let some = sy.1.some in omega (arith, sx, e)), λ e. absurd (false_true (ap leads_in e)))
    words_tell (slice_of n) (array_address z path first room) d x y none sx sy = absurd none
    words_tell (struct_of ts) c d x y none sx sy = absurd sx
    words_tell (array_of n t) c d x y none sx sy = absurd sx
    words_tell ints (number a) d x y none sx sy = absurd sy
    words_tell bools (truth a) d x y none sx sy = absurd sy
    words_tell (pointer_to n) no_address d x y none sx sy = absurd sy
    words_tell (pointer_to n) (part_address z path) d x y none sx sy = absurd sy
    words_tell (slice_of n) no_address d x y none sx sy = absurd sy
    words_tell t c d x y none sx sy = absurd sx

    -- a way to compare words of 64 bits compares values by them
    module _ (equal : ℕ → ℕ → Bool) (decides : (x y : ℕ) → x < 2 ^ 64 → y < 2 ^ 64 → Decides (equal x y) (x ≡ y)) where
      all_tell : (ls : List TypeTree) (cs ds : List Content) (xs ys : List ℕ) → FitLeaves ls cs → FitLeaves ls ds → NoElements cs → Stand m.program m.leading v.homes s.hi w ls cs xs → Stand m.program m.leading v.homes s.hi w ls ds ys → Decides (all_equal equal xs ys) (cs ≡ ds)
      all_tell [] [] [] [] [] fc fd none sx sy = (λ e. refl, λ e. refl)
      all_tell (l ∷ ls) (c ∷ cs) (d ∷ ds) (x ∷ xs) (y ∷ ys) fc fd none sx sy =
          let here = decides x y (word_small l c x (sx.each 0 (omega arith))) (word_small l d y (sy.each 0 (omega arith))) in
          let word = words_tell l c d x y none.0 (sx.each 0 (omega arith)) (sy.each 0 (omega arith)) in
          let rest = all_tell ls cs ds xs ys fc.1 fd.1 none.1 (behind_first l ls c cs x xs sx) (behind_first l ls d ds y ys sy) in (
            λ e. (let b = both_true (equal x y) (all_equal equal xs ys) e in ap₂ (λ k ks. k ∷ ks) (word.0 (here.0 b.0)) (rest.0 b.1)),
            λ e. and_true (equal x y) (all_equal equal xs ys) (here.1 (word.1 (ap first_of e))) (rest.1 (ap (drop 1) e)),
          )
      all_tell [] (c ∷ cs) ds xs ys fc fd none sx sy = absurd fc
      all_tell [] [] (d ∷ ds) xs ys fc fd none sx sy = absurd fd
      all_tell [] [] [] (x ∷ xs) ys fc fd none sx sy = absurd (let n = sx.long in omega arith)
      all_tell [] [] [] [] (y ∷ ys) fc fd none sx sy = absurd (let n = sy.long in omega arith)
      all_tell (l ∷ ls) [] ds xs ys fc fd none sx sy = absurd fc
      all_tell (l ∷ ls) (c ∷ cs) [] xs ys fc fd none sx sy = absurd fd
      all_tell (l ∷ ls) (c ∷ cs) (d ∷ ds) [] ys fc fd none sx sy = absurd (let n = sx.long in omega arith)
      all_tell (l ∷ ls) (c ∷ cs) (d ∷ ds) (x ∷ xs) [] fc fd none sx sy = absurd (let n = sy.long in omega arith)

      pub values_tell : (t : TypeTree) (a b : Value) (xs ys : List ℕ) → IsOf t a → IsOf t b → HasNoSlices a → Stand m.program m.leading v.homes s.hi w (leaves t) (contents a) xs → Stand m.program m.leading v.homes s.hi w (leaves t) (contents b) ys → all_equal equal xs ys ≡ same a b
      values_tell t a b xs ys ia ib none sx sy =
          let words = all_tell (leaves t) (contents a) (contents b) xs ys (value_fits t a ia) (value_fits t b ib) (no_elements a none) sx sy in let values = same_decides a b none in
          same_from_decides (all_equal equal xs ys) (same a b) (λ e. by_contents t a b ia ib (words.0 e), λ e. words.1 (ap contents e)) values
