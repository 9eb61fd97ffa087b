-- A list cut in three, and its middle.
use Rattle.std.proofs.Common.{◌≡◌, ℕ, suc, ◌+◌, ◌-◌, ◌<◌, ◌≤◌, List, [], ◌∷◌, ◌++◌, length, take, drop, map, get_or, refl, sym, ap, ◌∙◌, subst, arith, append_assoc, length-append, take_at, drop_at, get_or-append-add}
use Rattle.std.proofs.lemmas.List.{get_or_append_left, get_or-append_right, take-map, drop-map, map-append, length-map}
use Rattle.typed_syntax.specs.Words.{Content, Hold, slice, with_slice}

module _ (A : Type 0) where
  pub middle : (a c b : List A) (k n : ℕ) → length a ≡ k → length c ≡ n → slice (a ++ (c ++ b)) k n ≡ c
  middle a c b k n ea ec = ap (take n) (drop_at a (c ++ b) k ea) ∙ take_at c b n ec

  -- the middle replaced by as many
  pub middle_new : (a c b y : List A) (k : ℕ) → length a ≡ k → length c ≡ length y → with_slice (a ++ (c ++ b)) k y ≡ a ++ (y ++ b)
  middle_new a c b y k ea ec =
      let long : length (a ++ c) ≡ k + length y = omega (arith, length-append a c, ea, ec) in
      let behind : drop (k + length y) (a ++ (c ++ b)) ≡ b = ap (drop (k + length y)) (sym (append_assoc a c b)) ∙ drop_at (a ++ c) b (k + length y) long in
      ap (λ l. l ++ (y ++ drop (k + length y) (a ++ (c ++ b)))) (take_at a (c ++ b) k ea) ∙ ap (λ l. a ++ (y ++ l)) behind

  pub in_middle : (a c b : List A) (k j : ℕ) (d : A) → length a ≡ k → j < length c → get_or (a ++ (c ++ b)) (k + j) d ≡ get_or c j d
  in_middle a c b k j d ea l =
      ap (λ n. get_or (a ++ (c ++ b)) (n + j) d) (sym ea) ∙ get_or-append-add a (c ++ b) j d ∙ get_or_append_left c b d j l

  pub before_middle : (a c b : List A) (k j : ℕ) (d : A) → length a ≡ k → j < k → get_or (a ++ (c ++ b)) j d ≡ get_or a j d
  before_middle a c b k j d ea l = get_or_append_left a (c ++ b) d j (omega arith)

  pub behind_middle : (a c b : List A) (k n j : ℕ) (d : A) → length a ≡ k → length c ≡ n → k + n ≤ j → get_or (a ++ (c ++ b)) j d ≡ get_or b (j - (k + n)) d
  behind_middle a c b k n j d ea ec l =
      let long : length (a ++ c) ≡ k + n = omega (arith, length-append a c, ea, ec) in
      ap (λ xs. get_or xs j d) (sym (append_assoc a c b)) ∙ get_or-append_right (a ++ c) b (k + n) j d long l

module _ (A B : Type 0) (f : A → B) where
  pub map_slice : (xs : List A) (k n : ℕ) → map f (slice xs k n) ≡ slice (map f xs) k n
  map_slice xs k n = sym (take-map f n (drop k xs)) ∙ ap (take n) (sym (drop-map f k xs))

  pub map_with_slice : (xs ys : List A) (k : ℕ) → map f (with_slice xs k ys) ≡ with_slice (map f xs) k (map f ys)
  map_with_slice xs ys k =
      map-append f (take k xs) (ys ++ drop (k + length ys) xs)
      ∙ ap (λ l. l ++ map f (ys ++ drop (k + length ys) xs)) (sym (take-map f k xs))
      ∙ ap (λ l. take k (map f xs) ++ l) (map-append f ys (drop (k + length ys) xs))
      ∙ ap (λ l. take k (map f xs) ++ (map f ys ++ l)) (sym (drop-map f (k + length ys) xs))
      ∙ ap (λ n. take k (map f xs) ++ (map f ys ++ drop (k + n) (map f xs))) (sym (length-map ys f))

-- words that hold these contents, cut and joined
module _ (Holds : Content → ℕ → Type 0) where
  pub held_long : (cs : List Content) (ws : List ℕ) → Hold Holds cs ws → length ws ≡ length cs
  held_long [] [] h = refl
  held_long (c ∷ cs) (w ∷ ws) h = ap suc (held_long cs ws h.1)
  held_long [] (w ∷ ws) h = absurd h
  held_long (c ∷ cs) [] h = absurd h

  pub held_front : (fs cs : List Content) (ws : List ℕ) → Hold Holds (fs ++ cs) ws → Hold Holds fs (take (length fs) ws)
  held_front [] cs ws h = tt
  held_front (f ∷ fs) cs (w ∷ ws) h = (h.0, held_front fs cs ws h.1)
  held_front (f ∷ fs) cs [] h = absurd h

  pub held_back : (fs cs : List Content) (ws : List ℕ) → Hold Holds (fs ++ cs) ws → Hold Holds cs (drop (length fs) ws)
  held_back [] cs ws h = h
  held_back (f ∷ fs) cs (w ∷ ws) h = held_back fs cs ws h.1
  held_back (f ∷ fs) cs [] h = absurd h

  pub held_joined : (fs cs : List Content) (xs ys : List ℕ) → Hold Holds fs xs → Hold Holds cs ys → Hold Holds (fs ++ cs) (xs ++ ys)
  held_joined [] cs [] ys h g = g
  held_joined (f ∷ fs) cs (x ∷ xs) ys h g = (h.0, held_joined fs cs xs ys h.1 g)
  held_joined [] cs (x ∷ xs) ys h g = absurd h
  held_joined (f ∷ fs) cs [] ys h g = absurd h

  pub held_middle : (fs cs bs : List Content) (ws : List ℕ) → Hold Holds (fs ++ (cs ++ bs)) ws → Hold Holds cs (slice ws (length fs) (length cs))
  held_middle fs cs bs ws h = held_front cs bs (drop (length fs) ws) (held_back fs (cs ++ bs) ws h)

  pub held_new : (fs cs bs ys : List Content) (ws xs : List ℕ) → length cs ≡ length ys → Hold Holds (fs ++ (cs ++ bs)) ws → Hold Holds ys xs → Hold Holds (fs ++ (ys ++ bs)) (with_slice ws (length fs) xs)
  held_new fs cs bs ys ws xs e h g =
      let q : length fs + length xs ≡ length (fs ++ cs) = omega (arith, length-append fs cs, e, held_long ys xs g) in
      let r = held_back (fs ++ cs) bs ws (subst (λ l. Hold Holds l ws) (sym (append_assoc fs cs bs)) h) in
      held_joined fs (ys ++ bs) (take (length fs) ws) (xs ++ drop (length fs + length xs) ws) (held_front fs (cs ++ bs) ws h)
      (held_joined ys bs xs (drop (length fs + length xs) ws) g (subst (λ n. Hold Holds bs (drop n ws)) (sym q) r))
