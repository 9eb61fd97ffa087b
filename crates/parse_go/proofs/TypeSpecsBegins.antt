-- What may follow where a declaration of types begins, after its word, and where it may end.
use Rattle.std.proofs.Common.{ℕ, List, [], ◌∷◌, inl, inr}
use Rattle.syntax.specs.Declarations.{Field, TypeSpec}
use Rattle.parse_expressions.specs.Grammar.{Mark}
use Rattle.parse_expressions.proofs.Following.{Iff}
use Rattle.parse_expressions.proofs.TextEnds.{unfinished as expression_unfinished}
use Rattle.parse_simple_statements.specs.Grammar.{AreGrouped, last_of_group, next_of_group, IsGroup, alone}
use Rattle.parse_simple_statements.proofs.NameLists.{names_some}
use Rattle.parse_go.specs.Grammar.{AreFields, last_field, next_field, ReadsTypeSpec}
use Rattle.parse_go.specs.TypeSpecs.{Spot, alone_here, in_group, Types, at_first, at_spec, at_struct, at_brace, at_field, at_next_name, at_names, in_type, at_end, at_group_end, spot_depth, type_context}
use Rattle.parse_go.proofs.Fields.{in_names_some, next_name_some}
use Rattle.parse_go.proofs.TypeSpecsFollowing.{BehindSpec, FieldEnds, Rest}

pub begins : (K : List TypeSpec → List Mark → Type 0) (w : List Mark) → Iff ((specs : List TypeSpec) × (rest : List Mark) × IsGroup ReadsTypeSpec 0 specs w rest × K specs rest) (Rest K at_first w)
begins K w = (λ h. record { specs = h.0; rest = h.1; reads = h.2; follows = h.3 }, λ h. (h.specs, h.rest, h.reads, h.follows))

group_some : (others : List TypeSpec) (m : List Mark) → AreGrouped ReadsTypeSpec 0 others [] m → ⊥
group_some _ m (last_of_group r) = cc (r.2)
group_some _ m (next_of_group r g) = cc (r.2)

types_some : (specs : List TypeSpec) (m : List Mark) → IsGroup ReadsTypeSpec 0 specs [] m → ⊥
types_some _ m (alone r) = cc (r.2)

fields_some : (d : ℕ) (others : List Field) (m : List Mark) → AreFields d others [] m → ⊥
fields_some d _ m (last_field {f = f} q r) = names_some _ f.names r.0 r.1
fields_some d _ m (next_field {f = f} r g) = names_some _ f.names r.0 r.1

module _ (K : List TypeSpec → List Mark → Type 0) where
  behind_some : (s : Spot) (x : TypeSpec) → BehindSpec K s x [] → (specs : List TypeSpec) × K specs []
  behind_some alone_here x h = (x ∷ [], h)
  behind_some (in_group specs) x h = absurd (elim h [ inl a ↦ cc (a.mark) | inr a ↦ cc (a.mark) ])

  pub unfinished : (s : Types) → Rest K s [] → (specs : List TypeSpec) × K specs []
  unfinished at_first h = absurd (types_some h.specs h.rest h.reads)
  unfinished (at_spec specs) h = absurd (group_some h.others h.rest h.reads)
  unfinished (at_struct s x) h = absurd (cc (h.mark))
  unfinished (at_brace s x) h = absurd (cc (h.mark))
  unfinished (at_field s) h = absurd (fields_some (spot_depth s.spot) h.others h.rest h.reads)
  unfinished (at_next_name s xs) h = absurd (next_name_some _ (FieldEnds K s) xs h)
  unfinished (at_names s xs) h = absurd (in_names_some _ (FieldEnds K s) xs h)
  unfinished (in_type s xs o) h =
      let i = expression_unfinished (type_context s) (FieldEnds K s xs) o h in
      absurd (elim i.1 [ inl a ↦ cc (a.mark) | inr a ↦ cc (a.mark) ])
  unfinished (at_end s x) h = behind_some s x h
  unfinished (at_group_end specs) h = (specs, h)
