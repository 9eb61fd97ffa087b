-- Lists of names from left to right: what may follow names that were read.
use Rattle.std.proofs.Common.{◌≡◌, ℕ, List, [], ◌∷◌, ◌++◌, ◌⊎◌, inl, inr, refl, sym, ap, subst, ◌∙◌, append_assoc}
use Rattle.std.proofs.lemmas.List.{append-nil}
use Rattle.syntax.specs.declared.expression.Name.{Name}
use Rattle.parse_expressions.specs.declared.terminal.Terminal.{Terminal}
use Rattle.parse_expressions.specs.declared.terminal.Terminal.TheVariants.{Identifier, Comma}
use Rattle.parse_expressions.specs.Grammar.{Mark, inside}
use Rattle.parse_simple_statements.specs.Grammar.{ReadsMoreNames, ReadsNames}
use Rattle.parse_expressions.proofs.Following.{Iff}

-- what may follow after the last of the names xs, to which others may join; K follows the whole list
abbrev pub NamesThen : (List Name → List Mark → Type 0) → ℕ → List Name → List Mark → Type 0
NamesThen K d xs w = (ys : List Name) × (m : List Mark) × ReadsMoreNames d ys w m × K (xs ++ ys) m

-- what may follow where one more name is wanted
abbrev pub NameWanted : (List Name → List Mark → Type 0) → ℕ → List Name → List Mark → Type 0
NameWanted K d xs w = (x : Name) × (ys : List Name) × (n m : List Mark) × (w ≡ inside (Identifier x) d ∷ n) × ReadsMoreNames d ys n m × K (xs ++ x ∷ ys) m

abbrev pub WholeNames : (List Name → List Mark → Type 0) → ℕ → List Mark → Type 0
WholeNames K d w = (xs : List Name) × (m : List Mark) × ReadsNames d xs w m × K xs m

module _ (K : List Name → List Mark → Type 0) (d : ℕ) where
  pub names_comma : (xs : List Name) (j : ℕ) (w : List Mark) → Iff (NamesThen K d xs (inside Comma j ∷ w)) (((j ≡ d) × NameWanted K d xs w) ⊎ K xs (inside Comma j ∷ w))
  names_comma xs j w = (
    λ h. to h.0 h.1 h.2 h.3,
    λ h. elim h [
      | inl a ↦
          let v = a.1 in
          (v.0 ∷ v.1, v.3, (v.2, ap (λ (i : ℕ). inside Comma i ∷ w) a.0 ∙ ap (λ (ts : List Mark). inside Comma d ∷ ts) v.4, v.5), v.6)
      | inr k ↦ ([], inside Comma j ∷ w, refl, subst (λ (zs : List Name). K zs (inside Comma j ∷ w)) (sym (append-nil xs)) k)
    ],
  )
    where
      to : (ys : List Name) (m : List Mark) → ReadsMoreNames d ys (inside Comma j ∷ w) m → K (xs ++ ys) m → ((j ≡ d) × NameWanted K d xs w) ⊎ K xs (inside Comma j ∷ w)
      to [] m r k = inr (subst (λ (zs : List Name). K zs (inside Comma j ∷ w)) (append-nil xs) (subst (λ (ts : List Mark). K (xs ++ []) ts) (sym r) k))
      to (y ∷ ys) m r k = inl (cc (r.1), (y, ys, r.0, m, cc (r.1), r.2, k))

  -- no name joins the list
  pub names_other : (xs : List Name) (t : Terminal) (j : ℕ) (w : List Mark) → (t ≡ Comma → ⊥) → Iff (NamesThen K d xs (inside t j ∷ w)) (K xs (inside t j ∷ w))
  names_other xs t j w other = (λ h. to h.0 h.1 h.2 h.3, λ k. ([], inside t j ∷ w, refl, subst (λ (zs : List Name). K zs (inside t j ∷ w)) (sym (append-nil xs)) k))
    where
      to : (ys : List Name) (m : List Mark) → ReadsMoreNames d ys (inside t j ∷ w) m → K (xs ++ ys) m → K xs (inside t j ∷ w)
      to [] m r k = subst (λ (zs : List Name). K zs (inside t j ∷ w)) (append-nil xs) (subst (λ (ts : List Mark). K (xs ++ []) ts) (sym r) k)
      to (y ∷ ys) m r k = absurd (other (cc (r.1)))

  -- the text ends after a name
  pub names_end : (xs : List Name) → NamesThen K d xs [] → K xs []
  names_end xs h = to h.0 h.1 h.2 h.3
    where
      to : (ys : List Name) (m : List Mark) → ReadsMoreNames d ys [] m → K (xs ++ ys) m → K xs []
      to [] m r k = subst (λ (zs : List Name). K zs []) (append-nil xs) (subst (λ (ts : List Mark). K (xs ++ []) ts) (sym r) k)
      to (y ∷ ys) m r k = absurd (cc (r.1))

  pub name_joins : (xs : List Name) (x : Name) (j : ℕ) (w : List Mark) → Iff (NameWanted K d xs (inside (Identifier x) j ∷ w)) ((j ≡ d) × NamesThen K d (xs ++ x ∷ []) w)
  name_joins xs x j w = (
    λ h.
        let same_x : h.0 ≡ x = cc (h.4) in
        let same_w : h.2 ≡ w = cc (h.4) in
        let grouped : xs ++ h.0 ∷ h.1 ≡ (xs ++ x ∷ []) ++ h.1 = ap (λ (y : Name). xs ++ y ∷ h.1) same_x ∙ sym (append_assoc xs (x ∷ []) h.1) in
        (cc (h.4), (h.1, h.3, subst (λ (ts : List Mark). ReadsMoreNames d h.1 ts h.3) same_w h.5, subst (λ (zs : List Name). K zs h.3) grouped h.6)),
    λ h.
        let v = h.1 in
        (x, v.0, w, v.1, ap (λ (i : ℕ). inside (Identifier x) i ∷ w) h.0, v.2, subst (λ (zs : List Name). K zs v.1) (append_assoc xs (x ∷ []) v.0) v.3),
  )

  pub wanted_first : (xs : List Name) (t : Terminal) (j : ℕ) (w : List Mark) → ((x : Name) → t ≡ Identifier x → ⊥) → NameWanted K d xs (inside t j ∷ w) → ⊥
  wanted_first xs t j w other h = other h.0 (cc (h.4))

  pub whole_names : (w : List Mark) → Iff (WholeNames K d w) (NameWanted K d [] w)
  whole_names w = (λ h. to h.0 h.1 h.2 h.3, λ h. (h.0 ∷ h.1, h.3, (h.2, h.4, h.5), h.6))
    where
      to : (xs : List Name) (m : List Mark) → ReadsNames d xs w m → K xs m → NameWanted K d [] w
      to [] m r k = absurd r
      to (x ∷ xs) m r k = (x, xs, r.0, m, r.1, r.2, k)

-- a list of names begins with a name
pub names_some : (d : ℕ) (xs : List Name) (m : List Mark) → ReadsNames d xs [] m → ⊥
names_some d [] m r = r
names_some d (x ∷ xs) m r = cc (r.1)

pub names_first : (d : ℕ) (xs : List Name) (t : Terminal) (j : ℕ) (w m : List Mark) → ReadsNames d xs (inside t j ∷ w) m → (x : Name) × (t ≡ Identifier x)
names_first d [] t j w m r = absurd r
names_first d (x ∷ xs) t j w m r = (x, cc (r.1))
