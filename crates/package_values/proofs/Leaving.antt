-- What the looks at the constants leave as it is.
use Rattle.std.proofs.Common.{◌≡◌, ℕ, List, length, Option, ap, ◌∙◌}
use Rattle.names.specs.declared.scope.Known.{Known}
use Rattle.names.specs.Scope.{Scope}
use Rattle.package_values.specs.Values.{Item, settled}
use Rattle.package_values.proofs.Growth.{rounds, rounds_many}
use Rattle.package_values.proofs.Holding.{holding}
use Rattle.package_values.proofs.Giving.{give, monotone, looks_are}

module _ (text : List ℕ) (s : Scope) (is : List Item) where
  abbrev values : List (Option Known)
  values = rounds (give text s) (monotone text s) (length is) s.values is

  settled_is : settled text s is ≡ holding s values
  settled_is = looks_are text s (length is) s.values is

  pub settled_blocks : (settled text s is).blocks ≡ s.blocks
  settled_blocks = ap (λ (r : Scope). r.blocks) settled_is

  pub settled_declared : (settled text s is).declared ≡ s.declared
  settled_declared = ap (λ (r : Scope). r.declared) settled_is

  pub settled_sites : (settled text s is).sites ≡ s.sites
  settled_sites = ap (λ (r : Scope). r.sites) settled_is

  pub settled_signatures : (settled text s is).signatures ≡ s.signatures
  settled_signatures = ap (λ (r : Scope). r.signatures) settled_is

  pub settled_strings : (settled text s is).strings ≡ s.strings
  settled_strings = ap (λ (r : Scope). r.strings) settled_is

  pub settled_many : length (settled text s is).values ≡ length s.values
  settled_many = ap (λ (r : Scope). length r.values) settled_is ∙ rounds_many (give text s) (monotone text s) (length is) s.values is
