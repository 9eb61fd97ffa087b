-- How parameters are born, by where their words are.
use Rattle.std.proofs.Common.{◌≡◌, ℕ, Bool, true, false, [], ◌∷◌, ap, refl, sym}
use Rattle.std.specs.Prelude.{if◌then◌else◌}
use Rattle.isa.specs.declared.instr.Instr.TheVariants.{Incoming}
use Rattle.isa.specs.declared.instr.Direction.TheVariants.{ToSlots}
use Rattle.program_code.specs.Code.{Slots, in_slots, by_address, born_code, cell_slot, fill, param_by, param_code, site_access, site_slot, temp}

same_slots : (a b : ℕ) → in_slots a ≡ in_slots b → a ≡ b
same_slots a b e = cc

apart : (a b : ℕ) → in_slots a ≡ by_address b → ⊥
apart a b e = cc

module _ (s : Slots) (site i n a : ℕ) where
  pub param_in_slots : in_slots a ≡ site_access s site → born_code s site ∷ Incoming ToSlots a i n ∷ [] ≡ param_code s site i n
  param_in_slots e = by (s.placement.on_heap site) e
    where
      by : (heap : Bool) → in_slots a ≡ (if heap then by_address (cell_slot s site) else in_slots (site_slot s site)) → born_code s site ∷ Incoming ToSlots a i n ∷ [] ≡ param_by heap s site i n
      by true h = absurd (apart a (cell_slot s site) h)
      by false h = ap (λ k. born_code s site ∷ Incoming ToSlots k i n ∷ []) (same_slots a (site_slot s site) h)

  pub param_by_address : by_address a ≡ site_access s site → born_code s site ∷ Incoming ToSlots (temp s 0) i n ∷ fill (site_access s site) n (temp s 0) ∷ [] ≡ param_code s site i n
  param_by_address e = by (s.placement.on_heap site) e
    where
      by : (heap : Bool) → by_address a ≡ (if heap then by_address (cell_slot s site) else in_slots (site_slot s site))
          → born_code s site ∷ Incoming ToSlots (temp s 0) i n ∷ fill (if heap then by_address (cell_slot s site) else in_slots (site_slot s site)) n (temp s 0) ∷ [] ≡ param_by heap s site i n
      by true h = refl
      by false h = absurd (apart (site_slot s site) a (sym h))
