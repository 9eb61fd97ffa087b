-- The code of slices that is put together from pieces.
use Rattle.std.proofs.Common.{◌≡◌, ℕ, zero, suc, ◌+◌, ◌*◌, ◌<◌, ◌≤◌, List, [], ◌∷◌, ◌++◌, length, refl, ap, ◌∙◌, arith, length-append, append_assoc, suc-mul}
use Rattle.isa.specs.declared.instr.Instr.{Instr}
use Rattle.isa.specs.declared.instr.Instr.TheVariants.{Make}
use Rattle.typed_syntax.specs.Syntax.{Ex, Pl, Bound, Program, Steps, absent, bound, array_slicing, make, slice_element, slicing, type_named, value_widths}
use Rattle.typed_syntax.specs.Positions.{Position}
use Rattle.typed_syntax.specs.Types.{width}
use Rattle.typed.specs.declared.expr.Expr.{Expr}
use Rattle.typed.specs.View.{exs_of}
use Rattle.program_code.specs.Code.{Slots, address_size, bound_code, bound_end, cut_code, element_words, ex_code, place_above, place_code, place_size, pointing_code, room_code, site_words, size, steps_code, temp, whole_code}
use Rattle.program_code.proofs.Sizes.{length_code, length_place, length_pointing, place_sum}
use Rattle.expression_code.proofs.Expressions.{next_emitted}

-- expressions have a value each
pub row_length : (p : Program) (es : List Expr) → length (value_widths p (exs_of es)) ≡ length es
row_length p [] = refl
row_length p (e ∷ es) = ap suc (row_length p es)

-- what has words each is no more than its words
pub some_each : (n w : ℕ) → 0 < w → n ≤ n * w
some_each zero w some = omega arith
some_each (suc n) w some = let l = some_each n w some in omega (arith, l, some, suc-mul n w)

-- one code after another
pub last_emitted : (c1 c2 c3 a b : List Instr) → c2 ≡ c1 ++ a → c3 ≡ c2 ++ b → c3 ≡ c1 ++ (a ++ b)
last_emitted c1 c2 c3 a b e1 e2 = e2 ∙ ap (λ c. c ++ b) e1 ∙ append_assoc c1 a b

module _ (p : Program) (s : Slots) where
  bound_ends : (b : Bound) (h pc : ℕ) → pc + length (bound_code p s b h pc) ≡ bound_end p b pc
  bound_ends absent h pc = omega arith
  bound_ends (bound e) h pc = let l = length_code p s e h pc in omega (arith, l)

  -- two operands side by side, and what is done with them
  pub both_operands : (old c1 c2 c3 last : List Instr) (a b : Ex) (h g : ℕ) → c1 ≡ old ++ ex_code p s a h (length old) → c2 ≡ c1 ++ ex_code p s b g (length c1) → c3 ≡ c2 ++ last
      → c3 ≡ old ++ (ex_code p s a h (length old) ++ (ex_code p s b g (length old + size p a) ++ last))
  both_operands old c1 c2 c3 last a b h g e1 e2 e3 =
      next_emitted old c1 c3 (ex_code p s a h (length old)) (λ pc. ex_code p s b g pc ++ last) (size p a) e1 (length_code p s a h (length old)) (last_emitted c1 c2 c3 (ex_code p s b g (length c1)) last e2 e3)

  pub make_emitted : (old c1 c2 c3 c4 : List Instr) (at : Position) (site : ℕ) (count : Ex) (room : Bound) (h : ℕ) → c1 ≡ old ++ ex_code p s count (h + 1) (length old) → c2 ≡ c1 ++ bound_code p s room (h + 2) (length c1)
      → c3 ≡ c2 ++ room_code s room h → c4 ≡ c3 ++ Make (temp s h) (site_words s site) site ∷ [] → c4 ≡ old ++ ex_code p s (make at site count room) h (length old)
  make_emitted old c1 c2 c3 c4 at site count room h e1 e2 e3 e4 =
      let own = Make (temp s h) (site_words s site) site ∷ [] in
      next_emitted old c1 c4 (ex_code p s count (h + 1) (length old)) (λ pc. bound_code p s room (h + 2) pc ++ (room_code s room h ++ own)) (size p count) e1 (length_code p s count (h + 1) (length old))
      (last_emitted c1 c2 c4 (bound_code p s room (h + 2) (length c1)) (room_code s room h ++ own) e2 (last_emitted c2 c3 c4 (room_code s room h) own e3 e4))

  -- two bounds, and what comes after them
  bounds_emitted : (c1 c2 c3 c4 last : List Instr) (low high : Bound) (h g : ℕ) → c2 ≡ c1 ++ bound_code p s low h (length c1) → c3 ≡ c2 ++ bound_code p s high g (length c2) → c4 ≡ c3 ++ last
      → c4 ≡ c1 ++ (bound_code p s low h (length c1) ++ (bound_code p s high g (bound_end p low (length c1)) ++ last))
  bounds_emitted c1 c2 c3 c4 last low high h g e2 e3 e4 =
      let first = bound_code p s low h (length c1) in
      next_emitted c1 c2 c4 first (λ pc. bound_code p s high g pc ++ last) (length first) e2 refl (last_emitted c2 c3 c4 (bound_code p s high g (length c2)) last e3 e4)
      ∙ ap (λ pc. c1 ++ (first ++ (bound_code p s high g pc ++ last))) (bound_ends low h (length c1))

  pub slicing_emitted : (old c1 c2 c3 c4 : List Instr) (at : Position) (n : ℕ) (e : Ex) (low high : Bound) (w h : ℕ) → w ≡ width (type_named p n) → c1 ≡ old ++ ex_code p s e h (length old) → c2 ≡ c1 ++ bound_code p s low (h + 3) (length c1)
      → c3 ≡ c2 ++ bound_code p s high (h + 4) (length c2) → c4 ≡ c3 ++ cut_code s low high w h → c4 ≡ old ++ ex_code p s (slicing at n e low high) h (length old)
  slicing_emitted old c1 c2 c3 c4 at n e low high w h ew e1 e2 e3 e4 =
      let cut = cut_code s low high (width (type_named p n)) h in
      next_emitted old c1 c4 (ex_code p s e h (length old)) (λ pc. bound_code p s low (h + 3) pc ++ (bound_code p s high (h + 4) (bound_end p low pc) ++ cut)) (size p e) e1 (length_code p s e h (length old))
      (bounds_emitted c1 c2 c3 c4 cut low high (h + 3) (h + 4) e2 e3 (e4 ∙ ap (λ k. c3 ++ cut_code s low high k h) ew))

  pub array_slicing_emitted : (old c1 c2 c3 c4 c5 c6 : List Instr) (at : Position) (q : Pl) (x : ℕ) (low high : Bound) (above w h : ℕ) → above ≡ place_above q h → w ≡ element_words s q → c1 ≡ old ++ place_code p s q h (length old)
      → c2 ≡ c1 ++ pointing_code s q above h → c3 ≡ c2 ++ bound_code p s low (h + 3) (length c2) → c4 ≡ c3 ++ bound_code p s high (h + 4) (length c3) → c5 ≡ c4 ++ whole_code s x h → c6 ≡ c5 ++ cut_code s low high w h
      → c6 ≡ old ++ ex_code p s (array_slicing at q x low high) h (length old)
  array_slicing_emitted old c1 c2 c3 c4 c5 c6 at q x low high above w h ea ew e1 e2 e3 e4 e5 e6 =
      let cut = cut_code s low high (element_words s q) h in let place = place_code p s q h (length old) in let point = pointing_code s q (place_above q h) h in
      let behind : ℕ → List Instr = λ pc. bound_code p s low (h + 3) pc ++ (bound_code p s high (h + 4) (bound_end p low pc) ++ (whole_code s x h ++ cut)) in
      let pointed : c2 ≡ old ++ (place ++ point) = last_emitted old c1 c2 place point e1 (e2 ∙ ap (λ k. c1 ++ pointing_code s q k h) ea) in
      let long : length (place ++ point) ≡ place_size p q (address_size q + 1) =
      omega (arith, length-append place point, length_place p s q h (length old), length_pointing s q (place_above q h) h, place_sum p q (address_size q + 1)) in
      next_emitted old c2 c6 (place ++ point) behind (place_size p q (address_size q + 1)) pointed long
      (bounds_emitted c2 c3 c4 c6 (whole_code s x h ++ cut) low high (h + 3) (h + 4) e3 e4 (last_emitted c4 c5 c6 (whole_code s x h) cut e5 (e6 ∙ ap (λ k. c5 ++ cut_code s low high k h) ew)))
      ∙ ap (λ c. old ++ c) (append_assoc place point (behind (length old + place_size p q (address_size q + 1))))

  -- a slice and an index, and the indices of a part of its element
  pub element_emitted : (old c1 c2 c3 : List Instr) (at : Position) (n : ℕ) (e i : Ex) (steps : Steps) (h : ℕ) → c1 ≡ old ++ ex_code p s e h (length old) → c2 ≡ c1 ++ ex_code p s i (h + 3) (length c1)
      → c3 ≡ c2 ++ steps_code p s steps (h + 4) (length c2) → c3 ≡ old ++ place_code p s (slice_element at e i n steps) h (length old)
  element_emitted old c1 c2 c3 at n e i steps h e1 e2 e3 =
      next_emitted old c1 c3 (ex_code p s e h (length old)) (λ pc. ex_code p s i (h + 3) pc ++ steps_code p s steps (h + 4) (pc + size p i)) (size p e) e1 (length_code p s e h (length old))
      (next_emitted c1 c2 c3 (ex_code p s i (h + 3) (length c1)) (λ pc. steps_code p s steps (h + 4) pc) (size p i) e2 (length_code p s i (h + 3) (length c1)) e3)
