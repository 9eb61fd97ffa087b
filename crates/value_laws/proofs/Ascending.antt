-- Numbers of sites that ascend. What is in form from a number up to another is so from any lower one up to any higher one, and what it
-- declares lies between the two.
use Rattle.std.proofs.Common.{◌≡◌, ℕ, suc, ◌≤◌, Bool, true, false, List, [], ◌∷◌, refl, sym, subst, arith}
use Rattle.typed_syntax.specs.Types.{TypeTree, ints}
use Rattle.typed_syntax.specs.Syntax.{Left, Over, St, Sts, Program, type_named, blank, new, to, over_int, over_length, over_copy, over_slice, over_pointer, over_pointed, declare, assign, update, bump, discard, block, if_stmt, for_stmt, range, break_stmt, continue_stmt, return_stmt, print, panic, exit, done, next}
use Rattle.typed_syntax.specs.Form.{sites_after, lefts_after, over_after, declared_after, all_sites_after, IsNext, SitesNext, LeftsFit, StFits, StsFit}

-- ---- the least next number rises with the one before

pub sites_ordered : (m k : ℕ) → m ≤ k → (sites : List ℕ) → sites_after m sites ≤ sites_after k sites
sites_ordered m k le [] = le
sites_ordered m k le (site ∷ sites) = omega arith

pub lefts_ordered : (m k : ℕ) → m ≤ k → (ls : List Left) → lefts_after m ls ≤ lefts_after k ls
lefts_ordered m k le [] = le
lefts_ordered m k le (blank ∷ ls) = lefts_ordered m k le ls
lefts_ordered m k le (new site ∷ ls) = omega arith
lefts_ordered m k le (to q ∷ ls) = lefts_ordered m k le ls

pub over_ordered : (m k : ℕ) → m ≤ k → (o : Over) → over_after m o ≤ over_after k o
over_ordered m k le (over_int e) = le
over_ordered m k le (over_length x) = le
over_ordered m k le (over_copy site e x) = omega arith
over_ordered m k le (over_slice e t) = le
over_ordered m k le (over_pointer at e x t) = le
over_ordered m k le (over_pointed x) = le

mutual
  pub declared_ordered : (m k : ℕ) → m ≤ k → (s : St) → declared_after m s ≤ declared_after k s
  declared_ordered m k le (declare sites) = sites_ordered m k le sites
  declared_ordered m k le (assign ls es) = lefts_ordered m k le ls
  declared_ordered m k le (update at q op e) = le
  declared_ordered m k le (bump at q op) = le
  declared_ordered m k le (discard es) = le
  declared_ordered m k le (block ss) = all_ordered m k le ss
  declared_ordered m k le (if_stmt e a b) = all_ordered (all_sites_after m a) (all_sites_after k a) (all_ordered m k le a) b
  declared_ordered m k le (for_stmt sites test post body) = all_ordered (all_sites_after m post) (all_sites_after k post) (all_ordered m k le post) body
  declared_ordered m k le (range over key value body) =
      let ls = key ∷ value ∷ [] in
      all_ordered (over_after (lefts_after m ls) over) (over_after (lefts_after k ls) over) (over_ordered (lefts_after m ls) (lefts_after k ls) (lefts_ordered m k le ls) over) body
  declared_ordered m k le break_stmt = le
  declared_ordered m k le continue_stmt = le
  declared_ordered m k le (return_stmt es) = le
  declared_ordered m k le (print line ps) = le
  declared_ordered m k le (panic at q) = le
  declared_ordered m k le (exit at e) = le

  pub all_ordered : (m k : ℕ) → m ≤ k → (ss : Sts) → all_sites_after m ss ≤ all_sites_after k ss
  all_ordered m k le done = le
  all_ordered m k le (next s ss) = all_ordered (declared_after m s) (declared_after k s) (declared_ordered m k le s) ss

-- a blank second left side declares nothing
pub key_after : (m : ℕ) (key : Left) → lefts_after m (key ∷ blank ∷ []) ≡ lefts_after m (key ∷ [])
key_after m blank = refl
key_after m (new site) = refl
key_after m (to q) = refl

-- the body of a `range` begins at k, which is j
range_rises : (m k j : ℕ) (body : Sts) → k ≡ j → m ≤ k → k ≤ all_sites_after k body → m ≤ all_sites_after j body
range_rises m k j body same le later = subst (λ i. m ≤ all_sites_after i body) same (omega (arith, le, later))

range_below : (k j n : ℕ) (body : Sts) → k ≡ j → all_sites_after k body ≤ n → all_sites_after j body ≤ n
range_below k j n body same le = subst (λ i. all_sites_after i body ≤ n) same le

module _ (p : Program) where
  -- ---- between wider numbers

  pub next_wider : (m low n high site : ℕ) → low ≤ m → n ≤ high → IsNext p m n site → IsNext p low high site
  next_wider m low n high site lower higher h = (omega (arith, lower, h.0), omega (arith, higher, h.1), h.2)

  pub sites_wider : (m low n high : ℕ) → low ≤ m → n ≤ high → (sites : List ℕ) → SitesNext p m n sites → SitesNext p low high sites
  sites_wider m low n high lower higher [] h = tt
  sites_wider m low n high lower higher (site ∷ sites) h = (next_wider m low n high site lower higher h.0, sites_wider (suc site) (suc site) n high (omega arith) higher sites h.1)

  pub lefts_wider : (scope : List ℕ) (m low n high : ℕ) → low ≤ m → n ≤ high → (ts : List TypeTree) (ls : List Left) → LeftsFit p scope m n ts ls → LeftsFit p scope low high ts ls
  lefts_wider scope m low n high lower higher [] [] h = tt
  lefts_wider scope m low n high lower higher (t ∷ ts) (blank ∷ ls) h = lefts_wider scope m low n high lower higher ts ls h
  lefts_wider scope m low n high lower higher (t ∷ ts) (new site ∷ ls) h =
      (next_wider m low n high site lower higher h.0, h.1, lefts_wider scope (suc site) (suc site) n high (omega arith) higher ts ls h.2)
  lefts_wider scope m low n high lower higher (t ∷ ts) (to q ∷ ls) h = (h.0, lefts_wider scope m low n high lower higher ts ls h.1)
  lefts_wider scope m low n high lower higher [] (l ∷ ls) h = absurd h
  lefts_wider scope m low n high lower higher (t ∷ ts) [] h = absurd h

  -- ---- what sites and left sides declare

  pub sites_rise : (m n : ℕ) (sites : List ℕ) → SitesNext p m n sites → m ≤ sites_after m sites
  sites_rise m n [] h = omega arith
  sites_rise m n (site ∷ sites) h = let later = sites_rise (suc site) n sites h.1 in omega (arith, later, h.0.0)

  pub sites_below : (m n : ℕ) (sites : List ℕ) → m ≤ n → SitesNext p m n sites → sites_after m sites ≤ n
  sites_below m n [] le h = le
  sites_below m n (site ∷ sites) le h = sites_below (suc site) n sites (omega (arith, h.0.1)) h.1

  pub lefts_rise : (scope : List ℕ) (m n : ℕ) (ts : List TypeTree) (ls : List Left) → LeftsFit p scope m n ts ls → m ≤ lefts_after m ls
  lefts_rise scope m n [] [] h = omega arith
  lefts_rise scope m n (t ∷ ts) (blank ∷ ls) h = lefts_rise scope m n ts ls h
  lefts_rise scope m n (t ∷ ts) (new site ∷ ls) h = let later = lefts_rise scope (suc site) n ts ls h.2 in omega (arith, later, h.0.0)
  lefts_rise scope m n (t ∷ ts) (to q ∷ ls) h = lefts_rise scope m n ts ls h.1
  lefts_rise scope m n [] (l ∷ ls) h = absurd h
  lefts_rise scope m n (t ∷ ts) [] h = absurd h

  pub lefts_below : (scope : List ℕ) (m n : ℕ) (ts : List TypeTree) (ls : List Left) → m ≤ n → LeftsFit p scope m n ts ls → lefts_after m ls ≤ n
  lefts_below scope m n [] [] le h = le
  lefts_below scope m n (t ∷ ts) (blank ∷ ls) le h = lefts_below scope m n ts ls le h
  lefts_below scope m n (t ∷ ts) (new site ∷ ls) le h = lefts_below scope (suc site) n ts ls (omega (arith, h.0.1)) h.2
  lefts_below scope m n (t ∷ ts) (to q ∷ ls) le h = lefts_below scope m n ts ls le h.1
  lefts_below scope m n [] (l ∷ ls) le h = absurd h
  lefts_below scope m n (t ∷ ts) [] le h = absurd h

  -- ---- statements, of a function with these results and `named` names for them

  module _ (wanted : List TypeTree) (named : ℕ) where
    mutual
      pub st_wider : (looped : Bool) (scope : List ℕ) (m low n high : ℕ) → low ≤ m → n ≤ high → (s : St) → StFits p wanted named looped scope m n s → StFits p wanted named looped scope low high s
      st_wider looped scope m low n high lower higher (declare sites) h = sites_wider m low n high lower higher sites h
      st_wider looped scope m low n high lower higher (assign ls es) h = (h.0, lefts_wider scope m low n high lower higher h.0 ls h.1, h.2)
      st_wider looped scope m low n high lower higher (update at q op e) h = h
      st_wider looped scope m low n high lower higher (bump at q op) h = h
      st_wider looped scope m low n high lower higher (discard es) h = h
      st_wider looped scope m low n high lower higher (block ss) h = sts_wider looped scope m low n high lower higher ss h
      st_wider looped scope m low n high lower higher (if_stmt e a b) h = (
        h.0,
        sts_wider looped scope m low n high lower higher a h.1,
        sts_wider looped scope (all_sites_after m a) (all_sites_after low a) n high (all_ordered low m lower a) higher b h.2,
      )
      st_wider looped scope m low n high lower higher (for_stmt sites test post body) h = (
        h.0,
        h.1,
        sts_wider false scope m low n high lower higher post h.2,
        sts_wider true scope (all_sites_after m post) (all_sites_after low post) n high (all_ordered low m lower post) higher body h.3,
      )
      st_wider looped scope m low n high lower higher (range (over_int e) key blank body) h = (
        h.0,
        lefts_wider scope m low n high lower higher (ints ∷ []) (key ∷ []) h.1,
        sts_wider true _ (lefts_after m (key ∷ [])) (lefts_after low (key ∷ [])) n high (lefts_ordered low m lower (key ∷ [])) higher body h.2,
      )
      st_wider looped scope m low n high lower higher (range (over_int e) key (new site) body) h = absurd h
      st_wider looped scope m low n high lower higher (range (over_int e) key (to q) body) h = absurd h
      st_wider looped scope m low n high lower higher (range (over_length x) key blank body) h = (
        h.0,
        lefts_wider scope m low n high lower higher (ints ∷ []) (key ∷ []) h.1,
        sts_wider true _ (lefts_after m (key ∷ [])) (lefts_after low (key ∷ [])) n high (lefts_ordered low m lower (key ∷ [])) higher body h.2,
      )
      st_wider looped scope m low n high lower higher (range (over_length x) key (new site) body) h = absurd h
      st_wider looped scope m low n high lower higher (range (over_length x) key (to q) body) h = absurd h
      st_wider looped scope m low n high lower higher (range (over_copy site e x) key value body) h = (
        h.0,
        h.1,
        h.2,
        h.3,
        next_wider (lefts_after m (key ∷ value ∷ [])) (lefts_after low (key ∷ value ∷ [])) n high site (lefts_ordered low m lower (key ∷ value ∷ [])) higher h.4,
        h.5,
        lefts_wider (site ∷ scope) m low n high lower higher (ints ∷ h.0 ∷ []) (key ∷ value ∷ []) h.6,
        sts_wider true _ (suc site) (suc site) n high (omega arith) higher body h.7,
      )
      st_wider looped scope m low n high lower higher (range (over_slice e t) key value body) h = (
        h.0,
        h.1,
        lefts_wider scope m low n high lower higher (ints ∷ type_named p t ∷ []) (key ∷ value ∷ []) h.2,
        sts_wider true _ (lefts_after m (key ∷ value ∷ [])) (lefts_after low (key ∷ value ∷ [])) n high (lefts_ordered low m lower (key ∷ value ∷ [])) higher body h.3,
      )
      st_wider looped scope m low n high lower higher (range (over_pointer at e x t) key value body) h = (
        h.0,
        h.1,
        h.2,
        h.3,
        h.4,
        h.5,
        lefts_wider scope m low n high lower higher (ints ∷ type_named p t ∷ []) (key ∷ value ∷ []) h.6,
        sts_wider true _ (lefts_after m (key ∷ value ∷ [])) (lefts_after low (key ∷ value ∷ [])) n high (lefts_ordered low m lower (key ∷ value ∷ [])) higher body h.7,
      )
      st_wider looped scope m low n high lower higher (range (over_pointed x) key blank body) h = (
        h.0,
        lefts_wider scope m low n high lower higher (ints ∷ []) (key ∷ []) h.1,
        sts_wider true _ (lefts_after m (key ∷ [])) (lefts_after low (key ∷ [])) n high (lefts_ordered low m lower (key ∷ [])) higher body h.2,
      )
      st_wider looped scope m low n high lower higher (range (over_pointed x) key (new site) body) h = absurd h
      st_wider looped scope m low n high lower higher (range (over_pointed x) key (to q) body) h = absurd h
      st_wider looped scope m low n high lower higher break_stmt h = h
      st_wider looped scope m low n high lower higher continue_stmt h = h
      st_wider looped scope m low n high lower higher (return_stmt es) h = h
      st_wider looped scope m low n high lower higher (print line ps) h = h
      st_wider looped scope m low n high lower higher (panic at q) h = h
      st_wider looped scope m low n high lower higher (exit at e) h = h

      pub sts_wider : (looped : Bool) (scope : List ℕ) (m low n high : ℕ) → low ≤ m → n ≤ high → (ss : Sts) → StsFit p wanted named looped scope m n ss → StsFit p wanted named looped scope low high ss
      sts_wider looped scope m low n high lower higher done h = tt
      sts_wider looped scope m low n high lower higher (next s ss) h = (
        st_wider looped scope m low n high lower higher s h.0,
        sts_wider looped _ (declared_after m s) (declared_after low s) n high (declared_ordered low m lower s) higher ss h.1,
      )

    mutual
      -- what statements declare is not below the number they begin at
      pub declared_rises : (looped : Bool) (scope : List ℕ) (m n : ℕ) (s : St) → StFits p wanted named looped scope m n s → m ≤ declared_after m s
      declared_rises looped scope m n (declare sites) h = sites_rise m n sites h
      declared_rises looped scope m n (assign ls es) h = lefts_rise scope m n h.0 ls h.1
      declared_rises looped scope m n (update at q op e) h = omega arith
      declared_rises looped scope m n (bump at q op) h = omega arith
      declared_rises looped scope m n (discard es) h = omega arith
      declared_rises looped scope m n (block ss) h = all_rise looped scope m n ss h
      declared_rises looped scope m n (if_stmt e a b) h =
          let first = all_rise looped scope m n a h.1 in
          let second = all_rise looped scope (all_sites_after m a) n b h.2 in
          omega (arith, first, second)
      declared_rises looped scope m n (for_stmt sites test post body) h =
          let first = all_rise false scope m n post h.2 in
          let second = all_rise true scope (all_sites_after m post) n body h.3 in
          omega (arith, first, second)
      declared_rises looped scope m n (range (over_int e) key blank body) h = range_rises m (lefts_after m (key ∷ [])) (lefts_after m (key ∷ blank ∷ [])) body (sym (key_after m key)) (lefts_rise scope m n (ints ∷ []) (key ∷ []) h.1) (all_rise true _ (lefts_after m (key ∷ [])) n body h.2)
      declared_rises looped scope m n (range (over_int e) key (new site) body) h = absurd h
      declared_rises looped scope m n (range (over_int e) key (to q) body) h = absurd h
      declared_rises looped scope m n (range (over_length x) key blank body) h = range_rises m (lefts_after m (key ∷ [])) (lefts_after m (key ∷ blank ∷ [])) body (sym (key_after m key)) (lefts_rise scope m n (ints ∷ []) (key ∷ []) h.1) (all_rise true _ (lefts_after m (key ∷ [])) n body h.2)
      declared_rises looped scope m n (range (over_length x) key (new site) body) h = absurd h
      declared_rises looped scope m n (range (over_length x) key (to q) body) h = absurd h
      declared_rises looped scope m n (range (over_copy site e x) key value body) h =
          let first = lefts_rise (site ∷ scope) m n (ints ∷ h.0 ∷ []) (key ∷ value ∷ []) h.6 in
          range_rises m (suc site) (suc site) body refl (omega (arith, first, h.4.0)) (all_rise true _ (suc site) n body h.7)
      declared_rises looped scope m n (range (over_slice e t) key value body) h =
          range_rises m (lefts_after m (key ∷ value ∷ [])) (lefts_after m (key ∷ value ∷ [])) body refl (lefts_rise scope m n (ints ∷ type_named p t ∷ []) (key ∷ value ∷ []) h.2) (all_rise true _ (lefts_after m (key ∷ value ∷ [])) n body h.3)
      declared_rises looped scope m n (range (over_pointer at e x t) key value body) h =
          range_rises m (lefts_after m (key ∷ value ∷ [])) (lefts_after m (key ∷ value ∷ [])) body refl (lefts_rise scope m n (ints ∷ type_named p t ∷ []) (key ∷ value ∷ []) h.6) (all_rise true _ (lefts_after m (key ∷ value ∷ [])) n body h.7)
      declared_rises looped scope m n (range (over_pointed x) key blank body) h = range_rises m (lefts_after m (key ∷ [])) (lefts_after m (key ∷ blank ∷ [])) body (sym (key_after m key)) (lefts_rise scope m n (ints ∷ []) (key ∷ []) h.1) (all_rise true _ (lefts_after m (key ∷ [])) n body h.2)
      declared_rises looped scope m n (range (over_pointed x) key (new site) body) h = absurd h
      declared_rises looped scope m n (range (over_pointed x) key (to q) body) h = absurd h
      declared_rises looped scope m n break_stmt h = omega arith
      declared_rises looped scope m n continue_stmt h = omega arith
      declared_rises looped scope m n (return_stmt es) h = omega arith
      declared_rises looped scope m n (print line ps) h = omega arith
      declared_rises looped scope m n (panic at q) h = omega arith
      declared_rises looped scope m n (exit at e) h = omega arith

      pub all_rise : (looped : Bool) (scope : List ℕ) (m n : ℕ) (ss : Sts) → StsFit p wanted named looped scope m n ss → m ≤ all_sites_after m ss
      all_rise looped scope m n done h = omega arith
      all_rise looped scope m n (next s ss) h =
          let first = declared_rises looped scope m n s h.0 in
          let later = all_rise looped _ (declared_after m s) n ss h.1 in
          omega (arith, first, later)

    mutual
      -- nor above the number that they end before
      pub declared_below : (looped : Bool) (scope : List ℕ) (m n : ℕ) (s : St) → m ≤ n → StFits p wanted named looped scope m n s → declared_after m s ≤ n
      declared_below looped scope m n (declare sites) le h = sites_below m n sites le h
      declared_below looped scope m n (assign ls es) le h = lefts_below scope m n h.0 ls le h.1
      declared_below looped scope m n (update at q op e) le h = le
      declared_below looped scope m n (bump at q op) le h = le
      declared_below looped scope m n (discard es) le h = le
      declared_below looped scope m n (block ss) le h = all_below looped scope m n ss le h
      declared_below looped scope m n (if_stmt e a b) le h = all_below looped scope (all_sites_after m a) n b (all_below looped scope m n a le h.1) h.2
      declared_below looped scope m n (for_stmt sites test post body) le h = all_below true scope (all_sites_after m post) n body (all_below false scope m n post le h.2) h.3
      declared_below looped scope m n (range (over_int e) key blank body) le h = range_below (lefts_after m (key ∷ [])) (lefts_after m (key ∷ blank ∷ [])) n body (sym (key_after m key)) (all_below true _ (lefts_after m (key ∷ [])) n body (lefts_below scope m n (ints ∷ []) (key ∷ []) le h.1) h.2)
      declared_below looped scope m n (range (over_int e) key (new site) body) le h = absurd h
      declared_below looped scope m n (range (over_int e) key (to q) body) le h = absurd h
      declared_below looped scope m n (range (over_length x) key blank body) le h = range_below (lefts_after m (key ∷ [])) (lefts_after m (key ∷ blank ∷ [])) n body (sym (key_after m key)) (all_below true _ (lefts_after m (key ∷ [])) n body (lefts_below scope m n (ints ∷ []) (key ∷ []) le h.1) h.2)
      declared_below looped scope m n (range (over_length x) key (new site) body) le h = absurd h
      declared_below looped scope m n (range (over_length x) key (to q) body) le h = absurd h
      declared_below looped scope m n (range (over_copy site e x) key value body) le h = all_below true _ (suc site) n body (omega (arith, h.4.1)) h.7
      declared_below looped scope m n (range (over_slice e t) key value body) le h =
          all_below true _ (lefts_after m (key ∷ value ∷ [])) n body (lefts_below scope m n (ints ∷ type_named p t ∷ []) (key ∷ value ∷ []) le h.2) h.3
      declared_below looped scope m n (range (over_pointer at e x t) key value body) le h =
          all_below true _ (lefts_after m (key ∷ value ∷ [])) n body (lefts_below scope m n (ints ∷ type_named p t ∷ []) (key ∷ value ∷ []) le h.6) h.7
      declared_below looped scope m n (range (over_pointed x) key blank body) le h = range_below (lefts_after m (key ∷ [])) (lefts_after m (key ∷ blank ∷ [])) n body (sym (key_after m key)) (all_below true _ (lefts_after m (key ∷ [])) n body (lefts_below scope m n (ints ∷ []) (key ∷ []) le h.1) h.2)
      declared_below looped scope m n (range (over_pointed x) key (new site) body) le h = absurd h
      declared_below looped scope m n (range (over_pointed x) key (to q) body) le h = absurd h
      declared_below looped scope m n break_stmt le h = le
      declared_below looped scope m n continue_stmt le h = le
      declared_below looped scope m n (return_stmt es) le h = le
      declared_below looped scope m n (print line ps) le h = le
      declared_below looped scope m n (panic at q) le h = le
      declared_below looped scope m n (exit at e) le h = le

      pub all_below : (looped : Bool) (scope : List ℕ) (m n : ℕ) (ss : Sts) → m ≤ n → StsFit p wanted named looped scope m n ss → all_sites_after m ss ≤ n
      all_below looped scope m n done le h = le
      all_below looped scope m n (next s ss) le h = all_below looped _ (declared_after m s) n ss (declared_below looped scope m n s le h.0) h.1
