-- Code that is put together from pieces.
use Rattle.std.proofs.Common.{◌≡◌, ℕ, zero, suc, ◌+◌, ◌<◌, ◌≤◌, List, [], ◌∷◌, ◌++◌, length, get_or, drop, map, refl, sym, ap, ◌∙◌, subst, arith, length-append, append_assoc}
use Rattle.std.specs.Prelude.{Option, Some, None, slice_index}
use Rattle.std.proofs.Math.Seq.{drop-cons}
use Rattle.std.proofs.lemmas.List.{append-nil}
use Rattle.isa.specs.declared.instr.Instr.{Instr}
use Rattle.isa.specs.declared.instr.Instr.TheVariants.{Const, Bin, Jump, JumpZero}
use Rattle.isa.specs.declared.instr.BinOp.TheVariants as Word
use Rattle.typed_syntax.specs.declared.operators.BinOp.{BinOp}
use Rattle.base.specs.declared.ids.SiteId.{SiteId}
use Rattle.typed.specs.declared.stmt.Left.{Left as LeftData}
use Rattle.typed.specs.declared.stmt.Piece.{Piece as PieceData}
use Rattle.typed.specs.declared.stmt.Stmt.{Stmt}
use Rattle.frames.specs.Frames.{far}
use Rattle.typed_syntax.specs.Positions.{Position}
use Rattle.typed_syntax.specs.Types.{width}
use Rattle.typed_syntax.specs.Syntax.{Ex, Exs, Pl, Left, Piece, Sts, Program, blank, new, to, text, shown, over_int, over_length, over_copy, over_slice, over_pointer, over_pointed, if_stmt, for_stmt, range, next, type_named, wide, all_wide, value_widths}
use Rattle.typed.specs.View.{left_of, piece_of, site_in, site_numbers, st_of, sts_of}
use Rattle.codegen.specs.Frame.{assign_code, bump_code, key_code, left_code, param_code, temp_behind, turn_code, update_code}
use Rattle.codegen.specs.Temps.{LeftFits, LeftsFitIn, MovesFit, ParamFits, ParamsFitIn, PiecesFitIn, ReadyFitIn, StFitsIn, StsFitIn, left_words}
use Rattle.program_code.specs.Code.{Slots, birth_code, above_address, address_code, address_size, array_code, element_round_code, element_round_size, ex_code, exs_code, fetch_code, first_width, index_round_code, index_round_size, land_code, lefts_above, lefts_code, lefts_end, lefts_size, lefts_sized, operation, other_widths, params_code, piece_size, pieces_code, place_above, place_code, place_end, place_size, pointed_round_code, pointed_round_size, ready_code, renew_code, renew_size, size, slice_round_code, slice_round_size, st_code, st_size, sts_code, sts_size, temp, test_code, test_size}
use Rattle.program_code.proofs.Sizes.{length_address, length_code, length_element_round, length_index_round, length_last, length_lefts, length_pieces, length_place, length_pointed_round, length_ready, length_renew, length_slice_round, length_st, length_sts, length_test, lefts_ends, lefts_sum, place_ends}
use Rattle.expression_code.proofs.ByWidth.{first_drop, other_drop}

split : (ss : List Stmt) (i : ℕ) (x : Stmt) → i < length ss → x ≡ get_or ss i x → sts_of (drop i ss) ≡ next (st_of x) (sts_of (drop (i + 1) ss))
split ss i x l is =
    let one : suc i ≡ i + 1 = omega arith in
    ap sts_of (drop-cons ss i x l) ∙ ap (λ y. next (st_of y) (sts_of (drop (suc i) ss))) (sym is) ∙ ap (λ j. next (st_of x) (sts_of (drop j ss))) one

split_pieces : (ps : List PieceData) (i : ℕ) (x : PieceData) → i < length ps → x ≡ get_or ps i x → map piece_of (drop i ps) ≡ piece_of x ∷ map piece_of (drop (i + 1) ps)
split_pieces ps i x l is =
    let one : suc i ≡ i + 1 = omega arith in
    ap (map piece_of) (drop-cons ps i x l) ∙ ap (λ y. piece_of y ∷ map piece_of (drop (suc i) ps)) (sym is) ∙ ap (λ j. piece_of x ∷ map piece_of (drop j ps)) one

pub split_lefts : (ls : List LeftData) (i : ℕ) (x : LeftData) → i < length ls → x ≡ get_or ls i x → map left_of (drop i ls) ≡ left_of x ∷ map left_of (drop (i + 1) ls)
split_lefts ls i x l is =
    let one : suc i ≡ i + 1 = omega arith in
    ap (map left_of) (drop-cons ls i x l) ∙ ap (λ (y : LeftData). left_of y ∷ map left_of (drop (suc i) ls)) (sym is) ∙ ap (λ j. left_of x ∷ map left_of (drop j ls)) one

split_params : (ps : List (Option SiteId)) (i : ℕ) (none : Option SiteId) → i < length ps → map site_in (drop i ps) ≡ site_in (get_or ps i none) ∷ map site_in (drop (i + 1) ps)
split_params ps i none l = let one : suc i ≡ i + 1 = omega arith in ap (map site_in) (drop-cons ps i none l) ∙ ap (λ j. site_in (get_or ps i none) ∷ map site_in (drop j ps)) one

-- what is moved through temps has some
pub moves_room : (s : Slots) (h : ℕ) (sites : List SiteId) (i : ℕ) → i < length sites → MovesFit s h (site_numbers (drop i sites)) → h ≤ s.temps
moves_room s h [] i l f = absurd (omega (arith, l))
moves_room s h (site ∷ sites) zero l f = let k = f.0 in omega (arith, k)
moves_room s h (site ∷ sites) (suc i) l f = moves_room s h sites i (omega (arith, l)) f

-- left sides and parameters, which go by widths
module _ (s : Slots) where
  -- one, and the others
  pub lefts_first : (ns : List ℕ) (l : Left) (ls : List Left) (first at h : ℕ)
      → lefts_code s ns (l ∷ ls) first at h ≡ left_code s l first at h ++ lefts_code s (other_widths ns) ls (lefts_above (l ∷ []) first) at (h + first_width ns)
  lefts_first ns blank ls first at h = refl
  lefts_first ns (new site) ls first at h = refl
  lefts_first ns (to q) ls first at h = refl

  -- one alone
  pub left_alone : (n : ℕ) (l : Left) (first at h : ℕ) → lefts_code s (n ∷ []) (l ∷ []) first at h ≡ left_code s l first at h
  left_alone n l first at h = lefts_first (n ∷ []) l [] first at h ∙ append-nil (left_code s l first at h)

  pub length_left : (l : Left) (first at h : ℕ) → length (left_code s l first at h) ≡ lefts_size (l ∷ [])
  length_left l first at h = ap length (sym (left_alone 0 l first at h)) ∙ length_lefts s (0 ∷ []) (l ∷ []) first at h

  pub left_emitted : (whole code behind : List Instr) (ns : List ℕ) (ls : List LeftData) (i : ℕ) (x : LeftData) (first above at h after : ℕ) → i < length ls → x ≡ get_or ls i x → after ≡ h + slice_index ns i → above ≡ lefts_above (left_of x ∷ []) first
      → whole ≡ code ++ lefts_code s (drop i ns) (map left_of (drop i ls)) first at h → behind ≡ code ++ left_code s (left_of x) first at h
      → whole ≡ behind ++ lefts_code s (drop (i + 1) ns) (map left_of (drop (i + 1) ls)) above at after
  left_emitted whole code behind ns ls i x first above at h after l is e0 en e1 e2 =
      let rest = map left_of (drop (i + 1) ls) in let c = left_code s (left_of x) first at h in let own = lefts_above (left_of x ∷ []) first in
      e1 ∙ ap (λ y. code ++ lefts_code s (drop i ns) y first at h) (split_lefts ls i x l is) ∙ ap (λ y. code ++ y) (lefts_first (drop i ns) (left_of x) rest first at h)
      ∙ sym (append_assoc code c (lefts_code s (other_widths (drop i ns)) rest own at (h + first_width (drop i ns))))
      ∙ ap (λ y. y ++ lefts_code s (other_widths (drop i ns)) rest own at (h + first_width (drop i ns))) (sym e2)
      ∙ ap (λ y. behind ++ lefts_code s y rest own at (h + first_width (drop i ns))) (other_drop ns i)
      ∙ ap (λ w. behind ++ lefts_code s (drop (i + 1) ns) rest own at (h + w)) (first_drop ns i)
      ∙ ap (λ k. behind ++ lefts_code s (drop (i + 1) ns) rest own at k) (sym e0)
      ∙ ap (λ k. behind ++ lefts_code s (drop (i + 1) ns) rest k at after) (sym en)

  pub lefts_split : (n at h : ℕ) (ns : List ℕ) (ls : List LeftData) (i : ℕ) (x : LeftData) → i < length ls → x ≡ get_or ls i x → LeftsFitIn s n at h (drop i ns) (map left_of (drop i ls))
      → (h + slice_index ns i ≤ s.temps) × LeftFits s n at (left_of x) × LeftsFitIn s n at (h + slice_index ns i) (drop (i + 1) ns) (map left_of (drop (i + 1) ls))
  lefts_split n at h ns ls i x l is f =
      let g = subst (λ y. LeftsFitIn s n at h (drop i ns) y) (split_lefts ls i x l is) f in
      let rest = map left_of (drop (i + 1) ls) in (
        subst (λ w. h + w ≤ s.temps) (first_drop ns i) g.0,
        g.1,
        subst (λ w. LeftsFitIn s n at (h + w) (drop (i + 1) ns) rest) (first_drop ns i) (subst (λ y. LeftsFitIn s n at (h + first_width (drop i ns)) y rest) (other_drop ns i) g.3),
      )

  params_first : (ns : List ℕ) (q : Option ℕ) (ps : List (Option ℕ)) (word : ℕ) → params_code s ns (q ∷ ps) word ≡ param_code s q (first_width ns) word ++ params_code s (other_widths ns) ps (word + first_width ns)
  params_first ns None ps word = refl
  params_first ns (Some site) ps word = refl

  pub param_emitted : (whole code behind : List Instr) (ns : List ℕ) (ps : List (Option SiteId)) (i : ℕ) (none : Option SiteId) (word wide after : ℕ) → i < length ps → wide ≡ slice_index ns i → after ≡ word + wide
      → whole ≡ code ++ params_code s (drop i ns) (map site_in (drop i ps)) word → behind ≡ code ++ param_code s (site_in (get_or ps i none)) wide word → whole ≡ behind ++ params_code s (drop (i + 1) ns) (map site_in (drop (i + 1) ps)) after
  param_emitted whole code behind ns ps i none word wide after l w e0 e1 e2 =
      let rest = map site_in (drop (i + 1) ps) in
      let same : first_width (drop i ns) ≡ wide = first_drop ns i ∙ sym w in
      e1 ∙ ap (λ y. code ++ params_code s (drop i ns) y word) (split_params ps i none l) ∙ ap (λ y. code ++ y) (params_first (drop i ns) (site_in (get_or ps i none)) rest word)
      ∙ ap (λ n. code ++ (param_code s (site_in (get_or ps i none)) n word ++ params_code s (other_widths (drop i ns)) rest (word + n))) same
      ∙ sym (append_assoc code (param_code s (site_in (get_or ps i none)) wide word) (params_code s (other_widths (drop i ns)) rest (word + wide)))
      ∙ ap (λ y. y ++ params_code s (other_widths (drop i ns)) rest (word + wide)) (sym e2)
      ∙ ap (λ y. behind ++ params_code s y rest (word + wide)) (other_drop ns i)
      ∙ ap (λ k. behind ++ params_code s (drop (i + 1) ns) rest k) (sym e0)

  pub params_split : (n : ℕ) (ns : List ℕ) (ps : List (Option SiteId)) (i : ℕ) (none : Option SiteId) → i < length ps → ParamsFitIn s n (drop i ns) (map site_in (drop i ps))
      → ParamFits s n (site_in (get_or ps i none)) × ParamsFitIn s n (drop (i + 1) ns) (map site_in (drop (i + 1) ps))
  params_split n ns ps i none l f =
      let g = subst (λ y. ParamsFitIn s n (drop i ns) y) (split_params ps i none l) f in
      (g.0, subst (λ y. ParamsFitIn s n y (map site_in (drop (i + 1) ps))) (other_drop ns i) g.2)

module _ (p : Program) (s : Slots) where
  -- an operand of a line, and the others
  operands_first : (q : Piece) (ps : List Piece) (h pc : ℕ) → pieces_code p s (q ∷ ps) h pc ≡ pieces_code p s (q ∷ []) h pc ++ pieces_code p s ps (temp_behind q h) (pc + piece_size p q)
  operands_first (text number) ps h pc = let z : pc ≡ pc + 0 = omega arith in ap (λ place. pieces_code p s ps h place) z
  operands_first (shown t e) ps h pc = ap (λ is. is ++ pieces_code p s ps (h + 1) (pc + size p e)) (sym (append-nil (ex_code p s e h pc)))

  pub operand_emitted : (whole code behind : List Instr) (ps : List PieceData) (i : ℕ) (x : PieceData) (h after : ℕ) → i < length ps → x ≡ get_or ps i x → after ≡ temp_behind (piece_of x) h
      → whole ≡ code ++ pieces_code p s (map piece_of (drop i ps)) h (length code) → behind ≡ code ++ pieces_code p s (piece_of x ∷ []) h (length code)
      → whole ≡ behind ++ pieces_code p s (map piece_of (drop (i + 1) ps)) after (length behind)
  operand_emitted whole code behind ps i x h after l is e0 e1 e2 =
      let q = piece_of x in let rest = map piece_of (drop (i + 1) ps) in let cx = pieces_code p s (q ∷ []) h (length code) in
      let n : length code + piece_size p q ≡ length behind = omega (arith, length-append code cx, length_pieces p s (q ∷ []) h (length code), ap length e2) in
      e1 ∙ ap (λ y. code ++ pieces_code p s y h (length code)) (split_pieces ps i x l is) ∙ ap (λ y. code ++ y) (operands_first q rest h (length code))
      ∙ sym (append_assoc code cx (pieces_code p s rest (temp_behind q h) (length code + piece_size p q)))
      ∙ ap (λ place. (code ++ cx) ++ pieces_code p s rest (temp_behind q h) place) n ∙ ap (λ l. l ++ pieces_code p s rest (temp_behind q h) (length behind)) (sym e2)
      ∙ ap (λ k. behind ++ pieces_code p s rest k (length behind)) (sym e0)

  pub operand_fits : (n : ℕ) (ps : List PieceData) (i : ℕ) (x : PieceData) (h : ℕ) → i < length ps → x ≡ get_or ps i x → PiecesFitIn p s n h (map piece_of (drop i ps)) → PiecesFitIn p s n h (piece_of x ∷ [])
  operand_fits n ps i x h l is f = by (piece_of x) (subst (λ y. PiecesFitIn p s n h y) (split_pieces ps i x l is) f)
    where
      by : (q : Piece) → PiecesFitIn p s n h (q ∷ map piece_of (drop (i + 1) ps)) → PiecesFitIn p s n h (q ∷ [])
      by (text number) g = tt
      by (shown t e) g = (g.0, g.1, tt)

  pub others_fit : (n : ℕ) (ps : List PieceData) (i : ℕ) (x : PieceData) (h after : ℕ) → i < length ps → x ≡ get_or ps i x → after ≡ temp_behind (piece_of x) h → PiecesFitIn p s n h (map piece_of (drop i ps))
      → PiecesFitIn p s n after (map piece_of (drop (i + 1) ps))
  others_fit n ps i x h after l is e f =
      subst (λ k. PiecesFitIn p s n k (map piece_of (drop (i + 1) ps))) (sym e) (by (piece_of x) (subst (λ y. PiecesFitIn p s n h y) (split_pieces ps i x l is) f))
    where
      by : (q : Piece) → PiecesFitIn p s n h (q ∷ map piece_of (drop (i + 1) ps)) → PiecesFitIn p s n (temp_behind q h) (map piece_of (drop (i + 1) ps))
      by (text number) g = g
      by (shown t e) g = g.2

  -- the operands of left sides, those of one and those of the others
  pub ready_first : (l : Left) (ls : List Left) (h pc : ℕ) → ready_code p s (l ∷ ls) h pc ≡ ready_code p s (l ∷ []) h pc ++ ready_code p s ls (lefts_above (l ∷ []) h) (pc + lefts_sized p (l ∷ []) 0)
  ready_first blank ls h pc = let z : pc ≡ pc + 0 = omega arith in ap (ready_code p s ls h) z
  ready_first (new site) ls h pc = let z : pc ≡ pc + 0 = omega arith in ap (ready_code p s ls h) z
  ready_first (to q) ls h pc =
      ap (λ place. place_code p s q h pc ++ ready_code p s ls (place_above q h) place) (place_ends p q pc) ∙ ap (λ is. is ++ ready_code p s ls (place_above q h) (pc + place_size p q 0)) (sym (append-nil (place_code p s q h pc)))

  pub left_ready : (whole code behind : List Instr) (ls : List LeftData) (i : ℕ) (x : LeftData) (h after : ℕ) → i < length ls → x ≡ get_or ls i x → after ≡ lefts_above (left_of x ∷ []) h
      → whole ≡ code ++ ready_code p s (map left_of (drop i ls)) h (length code) → behind ≡ code ++ ready_code p s (left_of x ∷ []) h (length code)
      → whole ≡ behind ++ ready_code p s (map left_of (drop (i + 1) ls)) after (length behind)
  left_ready whole code behind ls i x h after l is e0 e1 e2 =
      let q = left_of x in let rest = map left_of (drop (i + 1) ls) in let cx = ready_code p s (q ∷ []) h (length code) in
      let n : length code + lefts_sized p (q ∷ []) 0 ≡ length behind = omega (arith, length-append code cx, length_ready p s (q ∷ []) h (length code), ap length e2) in
      e1 ∙ ap (λ y. code ++ ready_code p s y h (length code)) (split_lefts ls i x l is) ∙ ap (λ y. code ++ y) (ready_first q rest h (length code))
      ∙ sym (append_assoc code cx (ready_code p s rest (lefts_above (q ∷ []) h) (length code + lefts_sized p (q ∷ []) 0)))
      ∙ ap (λ place. (code ++ cx) ++ ready_code p s rest (lefts_above (q ∷ []) h) place) n ∙ ap (λ l. l ++ ready_code p s rest (lefts_above (q ∷ []) h) (length behind)) (sym e2)
      ∙ ap (λ k. behind ++ ready_code p s rest k (length behind)) (sym e0)

  pub ready_split : (n : ℕ) (ls : List LeftData) (i : ℕ) (x : LeftData) (h after : ℕ) → i < length ls → x ≡ get_or ls i x → after ≡ lefts_above (left_of x ∷ []) h → ReadyFitIn p s n h (map left_of (drop i ls))
      → ReadyFitIn p s n h (left_of x ∷ []) × ReadyFitIn p s n after (map left_of (drop (i + 1) ls))
  ready_split n ls i x h after l is e f =
      let g = by (left_of x) (subst (λ y. ReadyFitIn p s n h y) (split_lefts ls i x l is) f) in (g.0, subst (λ k. ReadyFitIn p s n k (map left_of (drop (i + 1) ls))) (sym e) g.1)
    where
      by : (q : Left) → ReadyFitIn p s n h (q ∷ map left_of (drop (i + 1) ls)) → ReadyFitIn p s n h (q ∷ []) × ReadyFitIn p s n (lefts_above (q ∷ []) h) (map left_of (drop (i + 1) ls))
      by blank g = (tt, g)
      by (new site) g = (tt, g)
      by (to q) g = ((g.0, tt), g.1)

  pub assign_emitted : (old c0 c1 c2 : List Instr) (ls : List Left) (es : Exs) (h first behind : ℕ) → first ≡ lefts_above ls h → behind ≡ first + all_wide p es → c0 ≡ old ++ ready_code p s ls h (length old)
      → c1 ≡ c0 ++ exs_code p s es first (length c0) → c2 ≡ c1 ++ lefts_code s (value_widths p es) ls h behind first → c2 ≡ old ++ assign_code p s ls es h (length old)
  assign_emitted old c0 c1 c2 ls es h first behind ef eb e0 e1 e2 =
      let ns = value_widths p es in let above = lefts_above ls h in let end = lefts_end p ls (length old) in let ready = ready_code p s ls h (length old) in
      let n0 : length c0 ≡ end = ap length e0 ∙ omega (arith, length-append old ready, length_ready p s ls h (length old), lefts_ends p ls (length old)) in
      let room : behind ≡ above + all_wide p es = omega (arith, ef, eb) in
      let f1 : c1 ≡ c0 ++ exs_code p s es above end = e1 ∙ ap (λ place. c0 ++ exs_code p s es first place) n0 ∙ ap (λ k. c0 ++ exs_code p s es k end) ef in
      let f2 : c2 ≡ c1 ++ lefts_code s ns ls h (above + all_wide p es) above = e2 ∙ ap (λ k. c1 ++ lefts_code s ns ls h k first) room ∙ ap (λ k. c1 ++ lefts_code s ns ls h (above + all_wide p es) k) ef in
      let all : c2 ≡ ((old ++ ready) ++ exs_code p s es above end) ++ lefts_code s ns ls h (above + all_wide p es) above = cc in
      all ∙ simp append_assoc

  -- what stands before the operand of an assignment with an operator: the operands of the place, its address and its value
  module _ (old c0 c1 c2 : List Instr) (q : Pl) (h at v : ℕ) (ea : at ≡ place_above q h) (ev : v ≡ above_address (far q) at) (e0 : c0 ≡ old ++ place_code p s q h (length old)) (e1 : c1 ≡ c0 ++ address_code s q h at)
      (e2 : c2 ≡ c1 ++ fetch_code s q h at v ∷ []) where
    abbrev at_is : ℕ
    at_is = place_above q h

    abbrev v_is : ℕ
    v_is = above_address (far q) at_is

    same_value : v ≡ v_is
    same_value = ev ∙ ap (above_address (far q)) ea

    reached_place : length c2 ≡ place_end p q (length old) + (address_size q + 1)
    reached_place =
        ap length e2 ∙ omega (
          arith,
          length_last c1 (fetch_code s q h at v),
          ap length e1,
          length-append c0 (address_code s q h at),
          length_address s q h at,
          ap length e0,
          length-append old (place_code p s q h (length old)),
          length_place p s q h (length old),
          place_ends p q (length old),
        )

    begun : c2 ≡ ((old ++ place_code p s q h (length old)) ++ address_code s q h at_is) ++ fetch_code s q h at_is v_is ∷ []
    begun =
        e2 ∙ ap (λ k. c1 ++ fetch_code s q h at k ∷ []) same_value ∙ ap (λ k. c1 ++ fetch_code s q h k v_is ∷ []) ea
        ∙ ap (λ c. c ++ fetch_code s q h at_is v_is ∷ []) (e1 ∙ ap (λ k. c0 ++ address_code s q h k) ea ∙ ap (λ c. c ++ address_code s q h at_is) e0)

    pub update_emitted : (c3 c4 c5 : List Instr) (o : BinOp) (e : Ex) → c3 ≡ c2 ++ ex_code p s e (v + 1) (length c2) → c4 ≡ c3 ++ Bin (operation o) (temp s v) (temp s v) (temp s (v + 1)) ∷ []
        → c5 ≡ c4 ++ land_code s q h at v ∷ [] → c5 ≡ old ++ update_code p s q o e h (length old)
    update_emitted c3 c4 c5 o e e3 e4 e5 =
        let pe = place_end p q (length old) + (address_size q + 1) in let w = v_is in
        let f3 : c3 ≡ c2 ++ ex_code p s e (w + 1) pe = e3 ∙ ap (λ place. c2 ++ ex_code p s e (v + 1) place) reached_place ∙ ap (λ k. c2 ++ ex_code p s e (k + 1) pe) same_value in
        let f4 : c4 ≡ c3 ++ Bin (operation o) (temp s w) (temp s w) (temp s (w + 1)) ∷ [] = e4 ∙ ap (λ k. c3 ++ Bin (operation o) (temp s k) (temp s k) (temp s (k + 1)) ∷ []) same_value in
        let f5 : c5 ≡ c4 ++ land_code s q h at_is w ∷ [] = e5 ∙ ap (λ k. c4 ++ land_code s q h at k ∷ []) same_value ∙ ap (λ k. c4 ++ land_code s q h k w ∷ []) ea in
        let b = begun in
        let all : c5 ≡ (((((old ++ place_code p s q h (length old)) ++ address_code s q h at_is) ++ fetch_code s q h at_is w ∷ []) ++ ex_code p s e (w + 1) pe) ++ Bin (operation o) (temp s w) (temp s w) (temp s (w + 1)) ∷ []) ++ land_code s q h at_is w ∷ [] = cc in
        all ∙ simp append_assoc

    pub bump_emitted : (c3 c4 c5 : List Instr) (o : BinOp) → c3 ≡ c2 ++ Const (temp s (v + 1)) 1 ∷ [] → c4 ≡ c3 ++ Bin (operation o) (temp s v) (temp s v) (temp s (v + 1)) ∷ []
        → c5 ≡ c4 ++ land_code s q h at v ∷ [] → c5 ≡ old ++ bump_code p s q o h (length old)
    bump_emitted c3 c4 c5 o e3 e4 e5 =
        let w = v_is in
        let f3 : c3 ≡ c2 ++ Const (temp s (w + 1)) 1 ∷ [] = e3 ∙ ap (λ k. c2 ++ Const (temp s (k + 1)) 1 ∷ []) same_value in
        let f4 : c4 ≡ c3 ++ Bin (operation o) (temp s w) (temp s w) (temp s (w + 1)) ∷ [] = e4 ∙ ap (λ k. c3 ++ Bin (operation o) (temp s k) (temp s k) (temp s (k + 1)) ∷ []) same_value in
        let f5 : c5 ≡ c4 ++ land_code s q h at_is w ∷ [] = e5 ∙ ap (λ k. c4 ++ land_code s q h at k ∷ []) same_value ∙ ap (λ k. c4 ++ land_code s q h k w ∷ []) ea in
        let b = begun in
        let all : c5 ≡ (((((old ++ place_code p s q h (length old)) ++ address_code s q h at_is) ++ fetch_code s q h at_is w ∷ []) ++ Const (temp s (w + 1)) 1 ∷ []) ++ Bin (operation o) (temp s w) (temp s w) (temp s (w + 1)) ∷ []) ++ land_code s q h at_is w ∷ [] = cc in
        all ∙ simp append_assoc

module _ (p : Program) (arguments : ℕ) (named : List ℕ) (s : Slots) where
  abbrev code_at : Sts → (h out again pc : ℕ) → List Instr
  code_at ss h out again pc = sts_code p arguments named s ss h out again pc

  abbrev long : Sts → ℕ
  long ss = sts_size p arguments named ss

  pub next_emitted : (whole code behind : List Instr) (ss : List Stmt) (i : ℕ) (x : Stmt) (h out again : ℕ) → i < length ss → x ≡ get_or ss i x → whole ≡ code ++ code_at (sts_of (drop i ss)) h out again (length code)
      → behind ≡ code ++ st_code p arguments named s (st_of x) h out again (length code) → whole ≡ behind ++ code_at (sts_of (drop (i + 1) ss)) h out again (length behind)
  next_emitted whole code behind ss i x h out again l is e1 e2 =
      let cs = st_code p arguments named s (st_of x) h out again (length code) in let rest = sts_of (drop (i + 1) ss) in
      let n : length code + st_size p arguments named (st_of x) ≡ length behind = omega (arith, length-append code cs, length_st p arguments named s (st_of x) h out again (length code), ap length e2) in
      e1 ∙ ap (λ y. code ++ code_at y h out again (length code)) (split ss i x l is) ∙ sym (append_assoc code cs (code_at rest h out again (length code + st_size p arguments named (st_of x))))
      ∙ ap (λ place. (code ++ cs) ++ code_at rest h out again place) n ∙ ap (λ l. l ++ code_at rest h out again (length behind)) (sym e2)

  pub next_fits : (n wanted h : ℕ) (ss : List Stmt) (i : ℕ) (x : Stmt) → i < length ss → x ≡ get_or ss i x → StsFitIn p s n wanted named h (sts_of (drop i ss)) → StsFitIn p s n wanted named h (sts_of (drop (i + 1) ss))
  next_fits n wanted h ss i x l is f = (subst (λ y. StsFitIn p s n wanted named h y) (split ss i x l is) f).1

  pub if_emitted : (old c1 c2 c3 c4 c5 : List Instr) (e : Ex) (a b : Sts) (m n h out again : ℕ) → m ≡ long a → n ≡ long b → c1 ≡ old ++ ex_code p s e h (length old) → c2 ≡ c1 ++ JumpZero (temp s h) (length c1 + m + 2) ∷ []
      → c3 ≡ c2 ++ code_at a h out again (length c2) → c4 ≡ c3 ++ Jump (length c3 + n + 1) ∷ [] → c5 ≡ c4 ++ code_at b h out again (length c4) → c5 ≡ old ++ st_code p arguments named s (if_stmt e a b) h out again (length old)
  if_emitted old c1 c2 c3 c4 c5 e a b m n h out again em en e1 e2 e3 e4 e5 =
      let pa = length old + size p e + 1 in let pb = pa + long a + 1 in
      let n1 : length c1 ≡ length old + size p e = ap length e1 ∙ omega (arith, length-append old (ex_code p s e h (length old)), length_code p s e h (length old)) in
      let z : length c1 + m + 2 ≡ pb = omega (arith, n1, em) in
      let n2 : length c2 ≡ pa = ap length e2 ∙ omega (arith, n1, length_last c1 (JumpZero (temp s h) (length c1 + m + 2))) in
      let n3 : length c3 ≡ pa + long a = ap length e3 ∙ omega (arith, n2, length-append c2 (code_at a h out again (length c2)), length_sts p arguments named s a h out again (length c2)) in
      let j : length c3 + n + 1 ≡ pb + long b = omega (arith, n3, en) in
      let n4 : length c4 ≡ pb = ap length e4 ∙ omega (arith, n3, length_last c3 (Jump (length c3 + n + 1))) in
      let f2 : c2 ≡ c1 ++ JumpZero (temp s h) pb ∷ [] = e2 ∙ ap (λ place. c1 ++ JumpZero (temp s h) place ∷ []) z in
      let f3 : c3 ≡ c2 ++ code_at a h out again pa = e3 ∙ ap (λ place. c2 ++ code_at a h out again place) n2 in
      let f4 : c4 ≡ c3 ++ Jump (pb + long b) ∷ [] = e4 ∙ ap (λ place. c3 ++ Jump place ∷ []) j in
      let f5 : c5 ≡ c4 ++ code_at b h out again pb = e5 ∙ ap (λ place. c4 ++ code_at b h out again place) n4 in
      let all : c5 ≡ ((((old ++ ex_code p s e h (length old)) ++ JumpZero (temp s h) pb ∷ []) ++ code_at a h out again pa) ++ Jump (pb + long b) ∷ []) ++ code_at b h out again pb = cc in
      all ∙ simp append_assoc

  pub loop_emitted : (old c1 c2 c3 c4 c5 : List Instr) (sites : List ℕ) (test : Option Ex) (post body : Sts) (start turn behind h out again : ℕ) → start ≡ length old → turn ≡ start + test_size p test + long body
      → behind ≡ turn + renew_size sites + long post + 1 → c1 ≡ old ++ test_code p s test h (length old) behind → c2 ≡ c1 ++ code_at body h behind turn (length c1) → c3 ≡ c2 ++ renew_code s sites h
      → c4 ≡ c3 ++ code_at post h behind turn (length c3) → c5 ≡ c4 ++ Jump start ∷ [] → c5 ≡ old ++ st_code p arguments named s (for_stmt sites test post body) h out again (length old)
  loop_emitted old c1 c2 c3 c4 c5 sites test post body start turn behind h out again es et eb e1 e2 e3 e4 e5 =
      let pc = length old in
      let pi = pc + test_size p test in let pt = pi + long body in let pp = pt + renew_size sites in let pb = pp + long post + 1 in
      let t : turn ≡ pt = omega (arith, es, et) in
      let b : behind ≡ pb = omega (arith, t, eb) in
      let n1 : length c1 ≡ pi = ap length e1 ∙ omega (arith, length-append old (test_code p s test h pc behind), length_test p s test h pc behind) in
      let n2 : length c2 ≡ pt = ap length e2 ∙ omega (arith, n1, length-append c1 (code_at body h behind turn (length c1)), length_sts p arguments named s body h behind turn (length c1)) in
      let n3 : length c3 ≡ pp = ap length e3 ∙ omega (arith, n2, length-append c2 (renew_code s sites h), length_renew s sites h) in
      let f1 : c1 ≡ old ++ test_code p s test h pc pb = e1 ∙ ap (λ place. old ++ test_code p s test h pc place) b in
      let f2 : c2 ≡ c1 ++ code_at body h pb pt pi = e2 ∙ ap (λ place. c1 ++ code_at body h behind turn place) n1 ∙ ap (λ place. c1 ++ code_at body h place turn pi) b ∙ ap (λ place. c1 ++ code_at body h pb place pi) t in
      let f4 : c4 ≡ c3 ++ code_at post h pb pt pp = e4 ∙ ap (λ place. c3 ++ code_at post h behind turn place) n3 ∙ ap (λ place. c3 ++ code_at post h place turn pp) b ∙ ap (λ place. c3 ++ code_at post h pb place pp) t in
      let f5 : c5 ≡ c4 ++ Jump pc ∷ [] = e5 ∙ ap (λ place. c4 ++ Jump place ∷ []) es in
      let all : c5 ≡ ((((old ++ test_code p s test h pc pb) ++ code_at body h pb pt pi) ++ renew_code s sites h) ++ code_at post h pb pt pp) ++ Jump pc ∷ [] = cc in
      all ∙ simp append_assoc

  -- a left side that gets an index, after its operands
  key_is : (key : Left) (first v pc : ℕ) → key_code p s key first v pc ≡ ready_code p s (key ∷ []) first pc ++ lefts_code s (1 ∷ []) (key ∷ []) first (lefts_above (key ∷ []) first) v
  key_is key first v pc = ap (λ is. ready_code p s (key ∷ []) first pc ++ is) (sym (left_alone s 1 key first (lefts_above (key ∷ []) first) v))

  length_key : (key : Left) (first v pc : ℕ) → length (key_code p s key first v pc) ≡ lefts_sized p (key ∷ []) (lefts_size (key ∷ []))
  length_key key first v pc =
      omega (
        arith,
        length-append (ready_code p s (key ∷ []) first pc) (left_code s key first (lefts_above (key ∷ []) first) v),
        length_ready p s (key ∷ []) first pc,
        length_left s key first (lefts_above (key ∷ []) first) v,
        lefts_sum p (key ∷ []) (lefts_size (key ∷ [])),
      )

  pub count_emitted : (old c1 c2 c3 c4 c5 : List Instr) (e : Ex) (key value : Left) (body : Sts) (start test turn behind h out again : ℕ) → start ≡ length old → test ≡ start + size p e + 1
      → turn ≡ test + 2 + index_round_size p key + long body → behind ≡ turn + 3 → c1 ≡ old ++ (ex_code p s e h (length old) ++ Const (temp s (h + 1)) 0 ∷ [])
      → c2 ≡ c1 ++ Bin Word.Less (temp s (h + 2)) (temp s (h + 1)) (temp s h) ∷ JumpZero (temp s (h + 2)) behind ∷ [] → c3 ≡ c2 ++ key_code p s key (h + 2) (h + 1) (length c2) → c4 ≡ c3 ++ code_at body (h + 2) behind turn (length c3)
      → c5 ≡ c4 ++ turn_code s (h + 1) test
      → c5 ≡ old ++ st_code p arguments named s (range (over_int e) key value body) h out again (length old)
  count_emitted old c1 c2 c3 c4 c5 e key value body start test turn behind h out again es et eu eb e1 e2 e3 e4 e5 =
      let pc = length old in
      let sized = lefts_sized p (key ∷ []) (lefts_size (key ∷ [])) in
      let pt = pc + size p e + 1 in let pi = pt + 2 + sized in let pu = pi + long body in let pb = pu + 3 in
      let less = Bin Word.Less (temp s (h + 2)) (temp s (h + 1)) (temp s h) in
      let zero = Const (temp s (h + 1)) 0 in
      let round = key_code p s key (h + 2) (h + 1) (pt + 2) in
      let one = Const (temp s (h + 2)) 1 in let sum = Bin Word.Add (temp s (h + 1)) (temp s (h + 1)) (temp s (h + 2)) in
      let t : test ≡ pt = omega (arith, es, et) in
      let u : turn ≡ pu = omega (arith, t, eu) in
      let b : behind ≡ pb = omega (arith, u, eb) in
      let n1 : length c1 ≡ pt = ap length e1 ∙ omega (arith, length-append old (ex_code p s e h pc ++ zero ∷ []), length_last (ex_code p s e h pc) zero, length_code p s e h pc) in
      let two : length (less ∷ JumpZero (temp s (h + 2)) behind ∷ []) ≡ 2 = refl in
      let n2 : length c2 ≡ pt + 2 = ap length e2 ∙ omega (arith, n1, two, length-append c1 (less ∷ JumpZero (temp s (h + 2)) behind ∷ [])) in
      let f2 : c2 ≡ c1 ++ less ∷ JumpZero (temp s (h + 2)) pb ∷ [] = e2 ∙ ap (λ place. c1 ++ less ∷ JumpZero (temp s (h + 2)) place ∷ []) b in
      let f3 : c3 ≡ c2 ++ round = e3 ∙ ap (λ place. c2 ++ key_code p s key (h + 2) (h + 1) place) n2 in
      let n3 : length c3 ≡ pi = ap length f3 ∙ omega (arith, n2, length-append c2 round, length_key key (h + 2) (h + 1) (pt + 2)) in
      let f4 : c4 ≡ c3 ++ code_at body (h + 2) pb pu pi = e4 ∙ ap (λ place. c3 ++ code_at body (h + 2) behind turn place) n3 ∙ ap (λ place. c3 ++ code_at body (h + 2) place turn pi) b ∙ ap (λ place. c3 ++ code_at body (h + 2) pb place pi) u in
      let above : h + 1 + 1 ≡ h + 2 = omega arith in
      let f5 : c5 ≡ c4 ++ one ∷ sum ∷ Jump pt ∷ [] =
      e5 ∙ ap (λ k. c4 ++ Const (temp s k) 1 ∷ Bin Word.Add (temp s (h + 1)) (temp s (h + 1)) (temp s k) ∷ Jump test ∷ []) above ∙ ap (λ place. c4 ++ one ∷ sum ∷ Jump place ∷ []) t in
      let all : c5 ≡ ((((old ++ (ex_code p s e h pc ++ zero ∷ [])) ++ less ∷ JumpZero (temp s (h + 2)) pb ∷ []) ++ round) ++ code_at body (h + 2) pb pu pi) ++ one ∷ sum ∷ Jump pt ∷ [] = cc in
      let flat : c5 ≡ old ++ (ex_code p s e h pc ++ (zero ∷ less ∷ JumpZero (temp s (h + 2)) pb ∷ (round ++ (code_at body (h + 2) pb pu pi ++ one ∷ sum ∷ Jump pt ∷ [])))) = all ∙ simp append_assoc in
      flat ∙ ap (λ l. old ++ (ex_code p s e h pc ++ (zero ∷ less ∷ JumpZero (temp s (h + 2)) pb ∷ (l ++ (code_at body (h + 2) pb pu pi ++ one ∷ sum ∷ Jump pt ∷ []))))) (key_is key (h + 2) (h + 1) (pt + 2))

  -- The rounds of `range` over an array, after what stands before them: the start, a round's left sides, the body and the turn.
  rounds_emitted : (old c1 c2 c3 c4 round : List Instr) (body : Sts) (x wide begin test turn behind h : ℕ) → begin ≡ length old → test ≡ begin + 1 → turn ≡ begin + 4 + wide + long body → behind ≡ turn + 3
      → c1 ≡ old ++ Const (temp s h) 0 ∷ Const (temp s (h + 1)) x ∷ Bin Word.Less (temp s (h + 1)) (temp s h) (temp s (h + 1)) ∷ JumpZero (temp s (h + 1)) behind ∷ []
      → length round ≡ wide → c2 ≡ c1 ++ round → c3 ≡ c2 ++ code_at body (h + 1) behind turn (length c2)
      → c4 ≡ c3 ++ turn_code s h test
      → c4 ≡ old ++ (let inside = length old + 4 + wide in let pu = inside + long body in array_code s x h (length old + 1) (pu + 3) round (code_at body (h + 1) (pu + 3) pu inside))
  rounds_emitted old c1 c2 c3 c4 round body x wide begin test turn behind h eb et eu ebe e1 er e2 e3 e4 =
      let pc = length old in let pi = pc + 4 + wide in let pu = pi + long body in let pb = pu + 3 in
      let t : test ≡ pc + 1 = omega (arith, eb, et) in
      let u : turn ≡ pu = omega (arith, eb, eu) in
      let b : behind ≡ pb = omega (arith, u, ebe) in
      let head : List Instr = Const (temp s h) 0 ∷ Const (temp s (h + 1)) x ∷ Bin Word.Less (temp s (h + 1)) (temp s h) (temp s (h + 1)) ∷ JumpZero (temp s (h + 1)) pb ∷ [] in
      let last : List Instr = Const (temp s (h + 1)) 1 ∷ Bin Word.Add (temp s h) (temp s h) (temp s (h + 1)) ∷ Jump (pc + 1) ∷ [] in
      let f1 : c1 ≡ old ++ head = e1 ∙ ap (λ place. old ++ Const (temp s h) 0 ∷ Const (temp s (h + 1)) x ∷ Bin Word.Less (temp s (h + 1)) (temp s h) (temp s (h + 1)) ∷ JumpZero (temp s (h + 1)) place ∷ []) b in
      let four : length head ≡ 4 = refl in
      let n2 : length c2 ≡ pi = ap length e2 ∙ omega (arith, length-append c1 round, ap length f1, length-append old head, four, er) in
      let f3 : c3 ≡ c2 ++ code_at body (h + 1) pb pu pi = e3 ∙ ap (λ place. c2 ++ code_at body (h + 1) behind turn place) n2 ∙ ap (λ place. c2 ++ code_at body (h + 1) place turn pi) b ∙ ap (λ place. c2 ++ code_at body (h + 1) pb place pi) u in
      let f4 : c4 ≡ c3 ++ last = e4 ∙ ap (λ place. c3 ++ Const (temp s (h + 1)) 1 ∷ Bin Word.Add (temp s h) (temp s h) (temp s (h + 1)) ∷ Jump place ∷ []) t in
      let all : c4 ≡ (((old ++ head) ++ round) ++ code_at body (h + 1) pb pu pi) ++ last = cc in
      all ∙ simp append_assoc

  pub indices_emitted : (old c1 c2 c3 c4 : List Instr) (key value : Left) (body : Sts) (x begin test turn behind h out again : ℕ) → begin ≡ length old → test ≡ begin + 1 → turn ≡ begin + 4 + index_round_size p key + long body → behind ≡ turn + 3
      → c1 ≡ old ++ Const (temp s h) 0 ∷ Const (temp s (h + 1)) x ∷ Bin Word.Less (temp s (h + 1)) (temp s h) (temp s (h + 1)) ∷ JumpZero (temp s (h + 1)) behind ∷ []
      → c2 ≡ c1 ++ key_code p s key (h + 1) h (length c1) → c3 ≡ c2 ++ code_at body (h + 1) behind turn (length c2)
      → c4 ≡ c3 ++ turn_code s h test
      → c4 ≡ old ++ st_code p arguments named s (range (over_length x) key value body) h out again (length old)
  indices_emitted old c1 c2 c3 c4 key value body x begin test turn behind h out again eb et eu ebe e1 e2 e3 e4 =
      let pc = length old in
      let head : List Instr = Const (temp s h) 0 ∷ Const (temp s (h + 1)) x ∷ Bin Word.Less (temp s (h + 1)) (temp s h) (temp s (h + 1)) ∷ JumpZero (temp s (h + 1)) behind ∷ [] in
      let four : length head ≡ 4 = refl in
      let n1 : length c1 ≡ pc + 4 = ap length e1 ∙ omega (arith, length-append old head, four) in
      let round = index_round_code p s key h (pc + 4) in
      let same : key_code p s key (h + 1) h (length c1) ≡ round = ap (key_code p s key (h + 1) h) n1 ∙ key_is key (h + 1) h (pc + 4) in
      rounds_emitted old c1 c2 c3 c4 round body x (index_round_size p key) begin test turn behind h eb et eu ebe e1 (length_index_round p s key h (pc + 4)) (e2 ∙ ap (λ is. c1 ++ is) same) e3 e4

  pub elements_emitted : (old c0 c1 c2 c3 c4 : List Instr) (site : ℕ) (e : Ex) (key value : Left) (body : Sts) (x start begin test turn behind h out again : ℕ) → start ≡ length old → begin ≡ start + size p e + 2 → test ≡ begin + 1
      → turn ≡ begin + 4 + element_round_size p key value + long body → behind ≡ turn + 3
      → c0 ≡ old ++ (ex_code p s e h (length old) ++ birth_code s site h)
      → c1 ≡ c0 ++ Const (temp s h) 0 ∷ Const (temp s (h + 1)) x ∷ Bin Word.Less (temp s (h + 1)) (temp s h) (temp s (h + 1)) ∷ JumpZero (temp s (h + 1)) behind ∷ []
      → c2 ≡ c1 ++ element_round_code p s site x key value h (length c1) → c3 ≡ c2 ++ code_at body (h + 1) behind turn (length c2)
      → c4 ≡ c3 ++ turn_code s h test
      → c4 ≡ old ++ st_code p arguments named s (range (over_copy site e x) key value body) h out again (length old)
  elements_emitted old c0 c1 c2 c3 c4 site e key value body x start begin test turn behind h out again es eb et eu ebe e0 e1 e2 e3 e4 =
      let pc = length old in let copy = ex_code p s e h pc in let birth = birth_code s site h in let pb = pc + size p e + 2 in
      let two : length birth ≡ 2 = refl in
      let n0 : length c0 ≡ pb = ap length e0 ∙ omega (arith, two, length-append old (copy ++ birth), length-append copy birth, length_code p s e h pc) in
      let head : List Instr = Const (temp s h) 0 ∷ Const (temp s (h + 1)) x ∷ Bin Word.Less (temp s (h + 1)) (temp s h) (temp s (h + 1)) ∷ JumpZero (temp s (h + 1)) behind ∷ [] in
      let four : length head ≡ 4 = refl in
      let n1 : length c1 ≡ length c0 + 4 = ap length e1 ∙ omega (arith, length-append c0 head, four) in
      let wide = element_round_size p key value in
      let round = element_round_code p s site x key value h (length c0 + 4) in
      let rounds : (k : ℕ) → List Instr = λ k. (let inside = k + 4 + wide in let pu = inside + long body in array_code s x h (k + 1) (pu + 3) (element_round_code p s site x key value h (k + 4)) (code_at body (h + 1) (pu + 3) pu inside)) in
      let all : c4 ≡ c0 ++ rounds (length c0) =
      rounds_emitted c0 c1 c2 c3 c4 round body x wide begin test turn behind h (omega (arith, eb, es, n0)) et eu ebe e1 (length_element_round p s site x key value h (length c0 + 4)) (e2 ∙ ap (λ place. c1 ++ element_round_code p s site x key value h place) n1) e3 e4 in
      let placed : c4 ≡ c0 ++ rounds pb = all ∙ ap (λ k. c0 ++ rounds k) n0 in
      placed ∙ ap (λ c. c ++ rounds pb) e0 ∙ append_assoc old (copy ++ birth) (rounds pb) ∙ ap (λ is. old ++ is) (append_assoc copy birth (rounds pb))

  pub pointed_emitted : (old c0 c1 c2 c3 c4 : List Instr) (at : Position) (e : Ex) (key value : Left) (body : Sts) (x t start begin test turn behind h out again : ℕ) → start ≡ length old → begin ≡ start + size p e → test ≡ begin + 1
      → turn ≡ begin + 4 + pointed_round_size p key value + long body → behind ≡ turn + 3
      → c0 ≡ old ++ ex_code p s e h (length old)
      → c1 ≡ c0 ++ Const (temp s (h + 1)) 0 ∷ Const (temp s (h + 1 + 1)) x ∷ Bin Word.Less (temp s (h + 1 + 1)) (temp s (h + 1)) (temp s (h + 1 + 1)) ∷ JumpZero (temp s (h + 1 + 1)) behind ∷ []
      → c2 ≡ c1 ++ pointed_round_code p s x (width (type_named p t)) key value h (length c1) → c3 ≡ c2 ++ code_at body (h + 2) behind turn (length c2)
      → c4 ≡ c3 ++ turn_code s (h + 1) test
      → c4 ≡ old ++ st_code p arguments named s (range (over_pointer at e x t) key value body) h out again (length old)
  pointed_emitted old c0 c1 c2 c3 c4 at e key value body x t start begin test turn behind h out again es eb et eu ebe e0 e1 e2 e3 e4 =
      let pc = length old in let pointer = ex_code p s e h pc in let pb = pc + size p e in let w = width (type_named p t) in
      let same : h + 2 ≡ h + 1 + 1 = omega arith in
      let n0 : length c0 ≡ pb = ap length e0 ∙ omega (arith, length-append old pointer, length_code p s e h pc) in
      let head : List Instr = Const (temp s (h + 1)) 0 ∷ Const (temp s (h + 1 + 1)) x ∷ Bin Word.Less (temp s (h + 1 + 1)) (temp s (h + 1)) (temp s (h + 1 + 1)) ∷ JumpZero (temp s (h + 1 + 1)) behind ∷ [] in
      let four : length head ≡ 4 = refl in
      let n1 : length c1 ≡ length c0 + 4 = ap length e1 ∙ omega (arith, length-append c0 head, four) in
      let wide = pointed_round_size p key value in
      let round = pointed_round_code p s x w key value h (length c0 + 4) in
      let rounds : (k above : ℕ) → List Instr = λ k above. (let inside = k + 4 + wide in let pu = inside + long body in array_code s x (h + 1) (k + 1) (pu + 3) (pointed_round_code p s x w key value h (k + 4)) (code_at body above (pu + 3) pu inside)) in
      let all : c4 ≡ c0 ++ rounds (length c0) (h + 1 + 1) =
      rounds_emitted c0 c1 c2 c3 c4 round body x wide begin test turn behind (h + 1) (omega (arith, eb, es, n0)) et eu ebe e1 (length_pointed_round p s x w key value h (length c0 + 4)) (e2 ∙ ap (λ place. c1 ++ pointed_round_code p s x w key value h place) n1)
      (e3 ∙ ap (λ above. c2 ++ code_at body above behind turn (length c2)) same) e4 in
      let placed : c4 ≡ c0 ++ rounds pb (h + 2) = all ∙ ap (λ above. c0 ++ rounds (length c0) above) (sym same) ∙ ap (λ k. c0 ++ rounds k (h + 2)) n0 in
      placed ∙ ap (λ c. c ++ rounds pb (h + 2)) e0 ∙ append_assoc old pointer (rounds pb (h + 2))

  pub slices_emitted : (old c1 c2 c3 c4 c5 : List Instr) (e : Ex) (key value : Left) (body : Sts) (t start test turn behind h out again : ℕ) → start ≡ length old → test ≡ start + size p e + 1
      → turn ≡ test + 2 + slice_round_size p key value + long body → behind ≡ turn + 3 → c1 ≡ old ++ (ex_code p s e h (length old) ++ Const (temp s (h + 3)) 0 ∷ [])
      → c2 ≡ c1 ++ Bin Word.Less (temp s (h + 4)) (temp s (h + 3)) (temp s (h + 1)) ∷ JumpZero (temp s (h + 4)) behind ∷ [] → c3 ≡ c2 ++ slice_round_code p s (width (type_named p t)) key value h (length c2)
      → c4 ≡ c3 ++ code_at body (h + 4) behind turn (length c3) → c5 ≡ c4 ++ turn_code s (h + 3) test
      → c5 ≡ old ++ st_code p arguments named s (range (over_slice e t) key value body) h out again (length old)
  slices_emitted old c1 c2 c3 c4 c5 e key value body t start test turn behind h out again es et eu eb e1 e2 e3 e4 e5 =
      let pc = length old in let w = width (type_named p t) in
      let pt = pc + size p e + 1 in let pi = pt + 2 + slice_round_size p key value in let pu = pi + long body in let pb = pu + 3 in
      let less = Bin Word.Less (temp s (h + 4)) (temp s (h + 3)) (temp s (h + 1)) in
      let zero = Const (temp s (h + 3)) 0 in
      let round = slice_round_code p s w key value h (pt + 2) in
      let one = Const (temp s (h + 4)) 1 in let sum = Bin Word.Add (temp s (h + 3)) (temp s (h + 3)) (temp s (h + 4)) in
      let same_test : test ≡ pt = omega (arith, es, et) in
      let u : turn ≡ pu = omega (arith, same_test, eu) in
      let b : behind ≡ pb = omega (arith, u, eb) in
      let n1 : length c1 ≡ pt = ap length e1 ∙ omega (arith, length-append old (ex_code p s e h pc ++ zero ∷ []), length_last (ex_code p s e h pc) zero, length_code p s e h pc) in
      let two : length (less ∷ JumpZero (temp s (h + 4)) behind ∷ []) ≡ 2 = refl in
      let n2 : length c2 ≡ pt + 2 = ap length e2 ∙ omega (arith, n1, two, length-append c1 (less ∷ JumpZero (temp s (h + 4)) behind ∷ [])) in
      let f2 : c2 ≡ c1 ++ less ∷ JumpZero (temp s (h + 4)) pb ∷ [] = e2 ∙ ap (λ place. c1 ++ less ∷ JumpZero (temp s (h + 4)) place ∷ []) b in
      let f3 : c3 ≡ c2 ++ round = e3 ∙ ap (λ place. c2 ++ slice_round_code p s w key value h place) n2 in
      let n3 : length c3 ≡ pi = ap length f3 ∙ omega (arith, n2, length-append c2 round, length_slice_round p s w key value h (pt + 2)) in
      let f4 : c4 ≡ c3 ++ code_at body (h + 4) pb pu pi = e4 ∙ ap (λ place. c3 ++ code_at body (h + 4) behind turn place) n3 ∙ ap (λ place. c3 ++ code_at body (h + 4) place turn pi) b ∙ ap (λ place. c3 ++ code_at body (h + 4) pb place pi) u in
      let above : h + 3 + 1 ≡ h + 4 = omega arith in
      let f5 : c5 ≡ c4 ++ one ∷ sum ∷ Jump pt ∷ [] =
      e5 ∙ ap (λ k. c4 ++ Const (temp s k) 1 ∷ Bin Word.Add (temp s (h + 3)) (temp s (h + 3)) (temp s k) ∷ Jump test ∷ []) above ∙ ap (λ place. c4 ++ one ∷ sum ∷ Jump place ∷ []) same_test in
      let all : c5 ≡ ((((old ++ (ex_code p s e h pc ++ zero ∷ [])) ++ less ∷ JumpZero (temp s (h + 4)) pb ∷ []) ++ round) ++ code_at body (h + 4) pb pu pi) ++ one ∷ sum ∷ Jump pt ∷ [] = cc in
      all ∙ simp append_assoc

  -- the rounds over indices are those over an array's, one temp higher
  pub pointed_indices : (key value : Left) (body : Sts) (x h out again pc : ℕ) → st_code p arguments named s (range (over_length x) key value body) (h + 1) out again pc ≡ st_code p arguments named s (range (over_pointed x) key value body) h out again pc
  pointed_indices key value body x h out again pc =
      let same : h + 1 + 1 ≡ h + 2 = omega arith in
      let inside = pc + 4 + index_round_size p key in let turn = inside + long body in
      ap (λ above. array_code s x (h + 1) (pc + 1) (turn + 3) (index_round_code p s key (h + 1) (pc + 4)) (code_at body above (turn + 3) turn inside)) same

  pub pointed_fits : (n wanted h x : ℕ) (key value : Left) (body : Sts) → StFitsIn p s n wanted named h (range (over_pointed x) key value body) → StFitsIn p s n wanted named (h + 1) (range (over_length x) key value body)
  pointed_fits n wanted h x key value body f =
      let same : h + 2 ≡ h + 1 + 1 = omega arith in
      subst (λ k. (k < s.temps) × ReadyFitIn p s n k (key ∷ []) × LeftFits s n (lefts_above (key ∷ []) k) key × (left_words s key ≤ 1) × StsFitIn p s n wanted named k body) same f
