-- What values are made of.
use Rattle.std.proofs.Common.{◌≡◌, ℕ, Bool, List, [], ◌∷◌, ◌++◌, map, refl, ap, ap₂, ◌∙◌}
use Rattle.value_flows.specs.declared.value.Target.{Target}
use Rattle.value_flows.specs.declared.value.Value.{Value}
use Rattle.value_flows.specs.Syntax.{Val, address, inside, behind, beside, sent}
use Rattle.value_flows.specs.View.{val_of}
use Rattle.typed_syntax.specs.Positions.{Position}
use Rattle.typed_syntax.specs.Syntax.{Ex, Exs, Steps, Program, slice_literal, append, slice_element, site_type}
use Rattle.typed_flows.specs.Pointers.{has_pointers}
use Rattle.typed_flows.specs.Values.{row, to_site, to_heap, copied, value, values, place_value, place_address, index_values}

map_end : (vs : List Value) (v : Value) → map val_of (vs ++ v ∷ []) ≡ map val_of vs ++ val_of v ∷ []
map_end [] v = refl
map_end (x ∷ vs) v = ap (λ (l : List Val). val_of x ∷ l) (map_end vs v)

-- a list with one value more
pub one_more : (vs all : List Value) (v : Value) (xs : List Val) (x : Val) → map val_of vs ≡ xs → val_of v ≡ x → all ≡ vs ++ v ∷ [] → map val_of all ≡ xs ++ x ∷ []
one_more vs all v xs x are is whole = ap (map val_of) whole ∙ map_end vs v ∙ ap₂ (λ (l : List Val) (y : Val). l ++ y ∷ []) are is

pub slice_literal_is : (p : Program) (site : ℕ) (t : Target) (vs : List Val) (es : Exs) → t ≡ to_site site → vs ≡ map (sent t) (values p es) → beside (row vs) (address site) ≡ value p (slice_literal site es)
slice_literal_is p site t vs es to are = ap (λ (l : List Val). beside (row l) (address site)) (are ∙ ap (λ (u : Target). map (sent u) (values p es)) to)

pub append_is : (p : Program) (site : ℕ) (has : Bool) (t : Target) (vs : List Val) (s v : Val) (e : Ex) (es : Exs) → t ≡ to_heap → vs ≡ map (sent t) (values p es) → has ≡ has_pointers (site_type p site) → s ≡ value p e → v ≡ copied has s → beside (row vs) v ≡ value p (append site e es)
append_is p site has t vs s v e es to are has_is s_is v_is = ap₂ (λ (l : List Val) (y : Val). beside (row l) y) (are ∙ ap (λ (u : Target). map (sent u) (values p es)) to) (v_is ∙ ap₂ copied has_is s_is)

pub element_value_is : (p : Program) (at : Position) (e i : Ex) (n : ℕ) (steps : Steps) (vs : List Val) (r v : Val) → vs ≡ index_values p steps ++ value p i ∷ [] → r ≡ value p e → v ≡ behind r → beside (row vs) v ≡ place_value p (slice_element at e i n steps)
element_value_is p at e i n steps vs r v are root is = ap₂ (λ (l : List Val) (y : Val). beside (row l) y) are (is ∙ ap behind root)

pub element_address_is : (p : Program) (has : Bool) (at : Position) (e i : Ex) (n : ℕ) (steps : Steps) (vs : List Val) (r v : Val) → vs ≡ index_values p steps ++ value p i ∷ [] → r ≡ value p e → v ≡ inside has r → beside (row vs) v ≡ place_address p has (slice_element at e i n steps)
element_address_is p has at e i n steps vs r v are root is = ap₂ (λ (l : List Val) (y : Val). beside (row l) y) are (is ∙ ap (inside has) root)
