-- The sites of entries, one after the other.
use Rattle.std.proofs.Common.{◌≡◌, ℕ, List, [], ◌∷◌, ◌++◌, Option, Some, None, sym, ap, append-nil, append_assoc}
use Rattle.signatures.specs.Entries.{sites_of}

pub sites_more : (so_far : List ℕ) (e : Option ℕ) (es : List (Option ℕ)) → so_far ++ sites_of (e ∷ es) ≡ (so_far ++ sites_of (e ∷ [])) ++ sites_of es
sites_more so_far None es = ap (λ l. l ++ sites_of es) (sym (append-nil so_far))
sites_more so_far (Some site) es = sym (append_assoc so_far (site ∷ []) (sites_of es))
