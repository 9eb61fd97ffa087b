-- No variable dies or moves: the sites of the variables only gain at their end.
use Rattle.std.proofs.Common.{◌≡◌, ℕ, zero, suc, List, [], ◌∷◌, ◌++◌, refl, ap, ◌∙◌}
use Rattle.std.specs.Prelude.{map}
use Rattle.std.proofs.lemmas.List.{append_assoc}
use Rattle.typed_syntax.specs.Value.{Value}
use Rattle.meaning.specs.Trace.{World, Cell}
use Rattle.meaning.specs.Store.{change, written, elements_written, born}
use Rattle.meaning_laws.specs.Laws.{Later, sites_in}

abbrev site_list : List Cell → List ℕ
site_list cs = map (λ (c : Cell). c.site) cs

same_sites : (cs : List Cell) (v : ℕ) (path : List ℕ) (x : Value) → site_list (change cs v path x) ≡ site_list cs
same_sites [] v path x = refl
same_sites (c ∷ cs) zero path x = refl
same_sites (c ∷ cs) (suc v) path x = ap (λ l. c.site ∷ l) (same_sites cs v path x)

append_none : (l : List ℕ) → l ≡ l ++ []
append_none [] = refl
append_none (x ∷ l) = ap (λ m. x ∷ m) (append_none l)

more_sites : (cs : List Cell) (c : Cell) → site_list (cs ++ c ∷ []) ≡ site_list cs ++ c.site ∷ []
more_sites [] c = refl
more_sites (d ∷ cs) c = ap (λ l. d.site ∷ l) (more_sites cs c)

pub later_same : (w : World) → Later w w
later_same w = ([], append_none (sites_in w))

pub written_later : (w : World) (v : ℕ) (path : List ℕ) (x : Value) → Later w (written w v path x)
written_later w v path x = ([], same_sites w.store v path x ∙ append_none (sites_in w))

elements_same : (xs : List Value) (w : World) (v : ℕ) (path : List ℕ) (i : ℕ) → sites_in (elements_written w v path i xs) ≡ sites_in w
elements_same [] w v path i = refl
elements_same (x ∷ xs) w v path i = elements_same xs (written w v (path ++ i ∷ []) x) v path (suc i) ∙ same_sites w.store v (path ++ i ∷ []) x

pub elements_later : (w : World) (v : ℕ) (path : List ℕ) (i : ℕ) (xs : List Value) → Later w (elements_written w v path i xs)
elements_later w v path i xs = ([], elements_same xs w v path i ∙ append_none (sites_in w))

pub born_later : (w : World) (c : Cell) → Later w (born w c)
born_later w c = (c.site ∷ [], more_sites w.store c)

pub later_trans : (w u v : World) → Later w u → Later u v → Later w v
later_trans w u v a b = (a.0 ++ b.0, b.1 ∙ ap (λ l. l ++ b.0) a.1 ∙ append_assoc (sites_in w) a.0 b.0)
