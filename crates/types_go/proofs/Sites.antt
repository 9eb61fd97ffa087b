-- The positions of functions.
use Rattle.std.proofs.Common.{◌≡◌, List, [], ◌∷◌, ◌++◌, map, Option, Some, None, sym, ap, ◌∙◌, append-nil, append_assoc}
use Rattle.std.specs.Prelude.{⊤}
use Rattle.std.proofs.lemmas.List.{map-append}
use Rattle.base.specs.declared.pos.Pos.{Pos}
use Rattle.typed.specs.declared.program.Func.{Func as FuncData}
use Rattle.type_faults.specs.Given.{with_last}
use Rattle.function_heads.specs.Assembled.{IsAt}
use Rattle.types_go.specs.Passing.{AreAt}

-- the functions so far stand at places, and others at those to come
abbrev pub PlacesKept : List Pos → Option (List FuncData) → List Pos → Type 0
PlacesKept all None rest = ⊤
PlacesKept all (Some fs) rest = all ≡ map (λ f. f.pos) fs ++ rest

pub places_more : (all : List Pos) (fs : Option (List FuncData)) (f : Option FuncData) (at : Pos) (rest : List Pos) → PlacesKept all fs (at ∷ rest) → IsAt at f → PlacesKept all (with_last fs f) rest
places_more all None f at rest kept is = tt
places_more all (Some fs) None at rest kept is = tt
places_more all (Some fs) (Some f) at rest kept is =
    kept ∙ ap (λ p. map (λ (g : FuncData). g.pos) fs ++ (p ∷ rest)) (sym is) ∙ sym (append_assoc (map (λ (g : FuncData). g.pos) fs) (f.pos ∷ []) rest) ∙ ap (λ l. l ++ rest) (sym (map-append (λ (g : FuncData). g.pos) fs (f ∷ [])))

pub places_all : (all : List Pos) (fs : Option (List FuncData)) → PlacesKept all fs [] → AreAt all fs
places_all all None kept = tt
places_all all (Some fs) kept = sym (kept ∙ append-nil (map (λ (g : FuncData). g.pos) fs))
