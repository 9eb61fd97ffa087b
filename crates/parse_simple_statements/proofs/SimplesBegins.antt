-- What may follow where a simple statement begins, and where it may end.
use Rattle.std.proofs.Common.{◌≡◌, Bool, true, false, List, [], ◌∷◌, ◌⊎◌, inl, inr, refl, sym, subst}
use Rattle.base.specs.declared.pos.Pos.{Pos}
use Rattle.syntax.specs.declared.expression.Name.{Name}
use Rattle.syntax.specs.Expressions.{Ex, Exs, none, some}
use Rattle.syntax.specs.Statements.{Simple, express, assign, update, define, increment, decrement, Targets, no_targets, targets_assigned, targets_defined}
use Rattle.syntax.specs.Lists.{with_ex}
use Rattle.parse_expressions.specs.declared.terminal.Terminal.TheVariants.{Range, Assign, Update, Define, Increment, Decrement}
use Rattle.parse_expressions.specs.Grammar.{Mark, inside, ReadsExs}
use Rattle.parse_expressions.specs.Machine.{at_operand}
use Rattle.parse_expressions.proofs.Following.{Iff}
use Rattle.parse_simple_statements.specs.Grammar.{ReadsSimple, IsPost}
use Rattle.parse_simple_statements.specs.Simples.{Context, expression_context, Listed, listed_simple, Simples, in_left, at_value, in_value, at_end, beginning}
use Rattle.parse_expressions.proofs.Relations.{changed}
use Rattle.parse_expressions.proofs.TextEnds.{unfinished as open_unfinished}
use Rattle.parse_simple_statements.proofs.Marks.{next_at_some}
use Rattle.parse_simple_statements.proofs.ValueLists.{MoreValues, value_begins, values_begin, values_end, value_valid}
use Rattle.parse_simple_statements.proofs.SimplesNames.{named, names_in_named, read_named, read_names}
use Rattle.parse_simple_statements.specs.Laws.{IsAllowed, ReadsTarget}
use Rattle.parse_simple_statements.proofs.SimplesFollowing.{OneSimple, Ranged, RangeOver, Operated, assigned, updated, defined, Single, expressed, incremented, decremented, Alone, BehindLeft, BehindValue, Rest, Valid}

post_allowed : (flag : Bool) (s : Simple) → IsPost s → IsAllowed flag s
post_allowed true s post = tt
post_allowed false s post = post

may_define : (flag : Bool) (xs : List Name) (q : Pos) (es : Exs) → IsAllowed flag (define xs q es) → flag ≡ true
may_define true xs q es allowed = refl
may_define false xs q es allowed = absurd allowed

defining : (flag : Bool) (s : Simple) → flag ≡ true → IsAllowed flag s
defining flag s is = subst (λ (f : Bool). IsAllowed f s) (sym is) tt

module _ (p : Context) (K : Simple → List Mark → Type 0) (R : Targets → Pos → List Mark → Type 0) where
  -- ---- from the grammar

  left_begins : (ls : Exs) (w n : List Mark) → ReadsExs p.literals p.depth ls w n → Operated p K R ls n → Rest p K R beginning w
  left_begins ls w n r o =
      changed (expression_context p) (MoreValues p.literals p.depth (Operated p K R) none) (BehindLeft p K R none) (at_operand []) w (λ e m h. inl h)
      ((values_begin p.literals p.depth (Operated p K R) w).0 (record { whole = ls; rest = n; reads = r; follows = o }))

  simple_begins : (s : Simple) (w m : List Mark) → IsAllowed p.defines s → ReadsSimple p.literals p.depth s w m → K s m → Rest p K R beginning w
  simple_begins (express e) w m allowed r f = (value_begins p.literals p.depth (BehindLeft p K R none) w).0 (record { whole = e; rest = m; reads = r; follows = inr (expressed f) })
  simple_begins (assign ls q es) w m allowed r f = left_begins ls w (inside (Assign q) p.depth ∷ r.0) r.1 (assigned (inl (record { whole = es; rest = m; reads = r.2; follows = f })))
  simple_begins (update ls q op es) w m allowed r f = left_begins ls w (inside (Update q op) p.depth ∷ r.0) r.1 (updated (inl (record { whole = es; rest = m; reads = r.2; follows = f })))
  simple_begins (define xs q es) w m allowed r f =
      left_begins (named xs) w (inside (Define q) p.depth ∷ r.0) (read_named p.literals p.depth xs w (inside (Define q) p.depth ∷ r.0) r.1)
      (defined (may_define p.defines xs q es allowed) (names_in_named xs) (inl (record { whole = es; rest = m; reads = r.2; follows = f })))
  simple_begins (increment e q) w m allowed r f = (value_begins p.literals p.depth (BehindLeft p K R none) w).0 (record { whole = e; rest = inside (Increment q) p.depth ∷ m; reads = r; follows = inr (incremented f) })
  simple_begins (decrement e q) w m allowed r f = (value_begins p.literals p.depth (BehindLeft p K R none) w).0 (record { whole = e; rest = inside (Decrement q) p.depth ∷ m; reads = r; follows = inr (decremented f) })

  range_begins : (may : p.ranges ≡ true) (t : Targets) (at : Pos) (w m : List Mark) → ReadsTarget p t w (inside (Range at) p.depth ∷ m) → R t at m → Rest p K R beginning w
  range_begins may no_targets at w m r f = absurd r
  range_begins may (targets_assigned ls q) at w m r f = left_begins ls w (inside (Assign q) p.depth ∷ inside (Range at) p.depth ∷ m) r (assigned (inr (may, record { pos = at; rest = m; mark = refl; follows = f })))
  range_begins may (targets_defined xs q) at w m r f =
      let n = inside (Define q) p.depth ∷ inside (Range at) p.depth ∷ m in
      left_begins (named xs) w n (read_named p.literals p.depth xs w n r.1) (defined r.0 (names_in_named xs) (inr (may, record { pos = at; rest = m; mark = refl; follows = f })))

  -- ---- and back

  from_operated : (ls : Exs) (w n : List Mark) → ReadsExs p.literals p.depth ls w n → Operated p K R ls n → OneSimple p K w ⊎ Ranged p R w
  from_operated ls w _ r (assigned {q = q} {w = m} h) = elim h [
    | inl v ↦ inl (record { whole = assign ls q v.whole; rest = v.rest; allowed = post_allowed p.defines (assign ls q v.whole) tt; reads = (m, r, v.reads); follows = v.follows })
    | inr v ↦
        let n = v.1 in
        inr (record { may = v.0; targets = targets_assigned ls q; pos = n.pos; rest = n.rest; reads = subst (λ (ts : List Mark). ReadsExs p.literals p.depth ls w (inside (Assign q) p.depth ∷ ts)) n.mark r; follows = n.follows })
  ]
  from_operated ls w _ r (updated {q = q} {op = op} {w = m} h) = elim h [
    | inl v ↦ inl (record { whole = update ls q op v.whole; rest = v.rest; allowed = post_allowed p.defines (update ls q op v.whole) tt; reads = (m, r, v.reads); follows = v.follows })
    | inr v ↦ let n = v.1 in absurd n.follows
  ]
  from_operated ls w _ r (defined {q = q} {xs = xs} {w = m} may is h) =
      let names = read_names p.literals p.depth ls xs w (inside (Define q) p.depth ∷ m) is r in
      elim h [
        | inl v ↦ inl (record { whole = define xs q v.whole; rest = v.rest; allowed = defining p.defines (define xs q v.whole) may; reads = (m, names, v.reads); follows = v.follows })
        | inr v ↦
            let n = v.1 in
            let r = read_names p.literals p.depth ls xs w (inside (Define q) p.depth ∷ inside (Range n.pos) p.depth ∷ n.rest) is (subst (λ (ts : List Mark). ReadsExs p.literals p.depth ls w (inside (Define q) p.depth ∷ ts)) n.mark r) in
            inr (record { may = v.0; targets = targets_defined xs q; pos = n.pos; rest = n.rest; reads = (may, r); follows = n.follows })
      ]

  from_single : (e : Ex) (w n : List Mark) → ReadsSimple p.literals p.depth (express e) w n → Single p K e n → OneSimple p K w
  from_single e w n r (expressed f) = record { whole = express e; rest = n; allowed = post_allowed p.defines (express e) tt; reads = r; follows = f }
  from_single e w _ r (incremented {q = q} {w = m} f) = record { whole = increment e q; rest = m; allowed = post_allowed p.defines (increment e q) tt; reads = r; follows = f }
  from_single e w _ r (decremented {q = q} {w = m} f) = record { whole = decrement e q; rest = m; allowed = post_allowed p.defines (decrement e q) tt; reads = r; follows = f }

  pub begins : (w : List Mark) → Iff (OneSimple p K w ⊎ Ranged p R w) (Rest p K R beginning w)
  begins w = (
    λ h. elim h [ inl s ↦ simple_begins s.whole w s.rest s.allowed s.reads s.follows | inr r ↦ range_begins r.may r.targets r.pos w r.rest r.reads r.follows ],
    λ h.
        let v = (value_begins p.literals p.depth (BehindLeft p K R none) w).1 h in
        elim v.follows [
          | inl f ↦ from_operated (some v.whole f.others) w f.rest ((v.reads.0, f.values), v.rest, v.reads.1, f.reads) f.follows
          | inr f ↦ inl (from_single v.whole w v.rest v.reads f)
        ],
  )

  -- ---- where it may end

  alone_end : (es : Exs) (e : Ex) → Alone p K es e [] → (x : Simple) × K x []
  alone_end none e h = single_end _ refl h
    where
      single_end : (n : List Mark) → n ≡ [] → Single p K e n → (x : Simple) × K x []
      single_end n is (expressed f) = (express e, subst (λ (ts : List Mark). K (express e) ts) is f)
      single_end _ is (incremented f) = absurd (cc is)
      single_end _ is (decremented f) = absurd (cc is)
  alone_end (some a es) e h = absurd h

  operated_some : (ls : Exs) → Operated p K R ls [] → ⊥
  operated_some ls h = elim h [ ]

  value_end : (l : Listed) (es : Exs) (e : Ex) → BehindValue p K l es e [] → (x : Simple) × K x []
  value_end l es e h = (listed_simple l (with_ex es e), values_end p.literals p.depth (λ all_of m. K (listed_simple l all_of) m) es e h)

  pub unfinished : (s : Simples) → Rest p K R s [] → (x : Simple) × K x []
  unfinished (in_left es o) h =
      let i = open_unfinished (expression_context p) (BehindLeft p K R es) o h in
      elim i.1 [
        | inl f ↦ absurd (operated_some (with_ex es i.0) (values_end p.literals p.depth (Operated p K R) es i.0 f))
        | inr f ↦ alone_end es i.0 f
      ]
  unfinished (at_value l) h = elim h [
    | inl v ↦
        let i = open_unfinished (expression_context p) (BehindValue p K l none) (at_operand []) ((values_begin p.literals p.depth (λ all_of m. K (listed_simple l all_of) m) []).0 v) in
        value_end l none i.0 i.1
    | inr v ↦ absurd (next_at_some Range p.depth (RangeOver R l) v.1)
  ]
  unfinished (in_value l es o) h = let i = open_unfinished (expression_context p) (BehindValue p K l es) o h in value_end l es i.0 i.1
  unfinished (at_end s) h = (s, h)

pub begins_valid : (p : Context) → Valid p beginning
begins_valid p = value_valid p.literals p.depth
