-- The new names of a `:=` so far, and those still ahead.
use Rattle.std.proofs.Common.{◌≡◌, ℕ, ◌+◌, Bool, true, false, cond, List, [], ◌∷◌, ◌++◌, sym, ap, ◌∙◌, arith, append_assoc}
use Rattle.signatures.specs.declared.slots.Slot.{Slot}

pub next_site : (b : Bool) (start before after : ℕ) → after ≡ cond b (1 + before) before → cond b (1 + (start + before)) (start + before) ≡ start + after
next_site true start before after is = omega (arith, is)
next_site false start before after is = omega (arith, is)

pub next_slots : (b : Bool) (slots more rest : List Slot) (v : Slot) → more ≡ cond b (slots ++ v ∷ []) slots → slots ++ cond b (v ∷ rest) rest ≡ more ++ rest
next_slots true slots more rest v is = sym (append_assoc slots (v ∷ []) rest) ∙ ap (λ l. l ++ rest) (sym is)
next_slots false slots more rest v is = ap (λ l. l ++ rest) (sym is)
