-- The search: what its steps do, and what is known between them.
use Rattle.std.specs.Prelude.{◌≡◌, ◌⊎◌, ℕ, suc, ◌+◌, ◌<◌, ◌≤◌, List, [], ◌∷◌, ◌++◌, length, map, take, drop, slice_get, slice_set, Option, Some, None}
use Rattle.components.specs.declared.path.Place.{Place}
use Rattle.components.specs.declared.path.Place.TheVariants.{New, OnPath, Placed}
use Rattle.components.specs.declared.path.Edge.{Edge}
use Rattle.components.specs.declared.path.Search.{Search as SearchData}
use Rattle.components.specs.Graph.{Among, row, Reaches}
use Rattle.components.specs.Components.{component_lists, StandsAt, Stands}

pub record Search : Type 0 where
  pub places : List Place
  pub path : List ℕ
  pub starts : List ℕ
  pub ahead : List Edge
  pub components : List (List ℕ)

abbrev pub search_of : SearchData → Search
search_of s = record {
  places = s.places.items;
  path = s.path.items;
  starts = s.starts.items;
  ahead = s.ahead.items;
  components = component_lists s.components.items;
}

abbrev pub At : {A : Type 0} → List A → ℕ → A → Type 0
At xs p x = slice_get xs p ≡ Some x

-- ---- what the steps do

abbrev pub edge : ℕ → ℕ → Edge
edge p k = record { from = p; to = k }

-- the edges of the node at a place of the path
abbrev pub leaving : ℕ → List ℕ → List Edge
leaving p ks = map (edge p) ks

abbrev pub entered : List (List ℕ) → Search → ℕ → Search
entered t s k = record {
  places = slice_set s.places k (OnPath (length s.path));
  path = s.path ++ k ∷ [];
  starts = s.starts ++ length s.path ∷ [];
  ahead = s.ahead ++ leaving (length s.path) (row t k);
  components = s.components;
}

-- a value for each of some places
abbrev pub set_all : {A : Type 0} → A → List A → List ℕ → List A
set_all y xs [] = xs
set_all y xs (k ∷ ks) = set_all y (slice_set xs k y) ks

-- the group that begins last becomes a component
abbrev pub closed : Search → (rest : List ℕ) → ℕ → Search
closed s rest first = record {
  places = set_all Placed s.places (drop first s.path);
  path = take first s.path;
  starts = rest;
  ahead = s.ahead;
  components = s.components ++ drop first s.path ∷ [];
}

-- numbers that rise
abbrev pub Rises : List ℕ → Type 0
Rises fs = (i j f g : ℕ) → i < j → At fs i f → At fs j g → f < g

-- the begins of groups up to a place of the path
pub record IsJoined (old : List ℕ) (p : ℕ) (new : List ℕ) : Type 0 where
  pub shorter : length new ≤ length old
  pub rise : Rises new
  pub only : (f : ℕ) → Among f new → Among f old
  pub kept : (f : ℕ) → Among f old → f ≤ p → Among f new
  pub low : (f : ℕ) → Among f new → f ≤ p

-- the edge that is taken from those ahead for a group that begins at a place
abbrev pub IsNext : (old : List Edge) (first : ℕ) (new : List Edge) → Option Edge → Type 0
IsNext old first new None = (new ≡ old) × ((rest : List Edge) (e : Edge) → old ≡ rest ++ e ∷ [] → e.from < first)
IsNext old first new (Some e) = (old ≡ new ++ e ∷ []) × (first ≤ e.from)

-- ---- what is known

-- each node has its place
pub record ArePlaces (t : List (List ℕ)) (places : List Place) (path : List ℕ) (components : List (List ℕ)) : Type 0 where
  pub size : length places ≡ length t
  pub on_path : (p k : ℕ) → At path p k → At places k (OnPath p)
  pub at_place : (p k : ℕ) → At places k (OnPath p) → At path p k
  pub placed : (c i k : ℕ) → StandsAt components c i k → At places k Placed
  pub stands : (k : ℕ) → At places k Placed → (c : ℕ) × Stands components c k

-- what has been found are components, and no edge leads out of them
pub record AreFound (t : List (List ℕ)) (components : List (List ℕ)) : Type 0 where
  pub once : (c i d j k : ℕ) → StandsAt components c i k → StandsAt components d j k → (c ≡ d) × (i ≡ j)
  pub filled : (c : ℕ) → c < length components → (k : ℕ) × Stands components c k
  pub strong : (c j k : ℕ) → Stands components c j → Stands components c k → Reaches t j k
  pub earlier : (c j k : ℕ) → Stands components c j → Among k (row t j) → k < length t → (d : ℕ) × (d ≤ c) × Stands components d k

-- no group begins after p and not after q
abbrev pub Joined : List ℕ → (p q : ℕ) → Type 0
Joined starts p q = (f : ℕ) → Among f starts → f ≤ q → f ≤ p

-- each node of the path reaches those after it, and those of its group
pub record IsPath (t : List (List ℕ)) (path starts : List ℕ) : Type 0 where
  pub forward : (p q j k : ℕ) → p ≤ q → At path p j → At path q k → Reaches t j k
  pub back : (p q j k : ℕ) → p ≤ q → At path p j → At path q k → Joined starts p q → Reaches t k j
  pub rise : Rises starts
  pub inside : (f : ℕ) → Among f starts → f < length path
  pub bottom : 0 < length path → Among 0 starts

-- the edges ahead are edges, in the order of the path
pub record AreAhead (t : List (List ℕ)) (path : List ℕ) (ahead : List Edge) : Type 0 where
  pub leaves : (i : ℕ) (e : Edge) → At ahead i e → (k : ℕ) × At path e.from k × Among e.to (row t k)
  pub sorted : (i j : ℕ) (d e : Edge) → i ≤ j → At ahead i d → At ahead j e → d.from ≤ e.from

pub record Keeps (t : List (List ℕ)) (s : Search) : Type 0 where
  pub places : ArePlaces t s.places s.path s.components
  pub found : AreFound t s.components
  pub path : IsPath t s.path s.starts
  pub ahead : AreAhead t s.path s.ahead

-- an edge from a place of the path leads to a component, to its own group or a later one, or is ahead
abbrev pub Goes : Search → (p k : ℕ) → Type 0
Goes s p k = At s.places k Placed ⊎ (((q : ℕ) × At s.path q k × Joined s.starts q p) ⊎ ((i : ℕ) × At s.ahead i (edge p k)))

pub record IsSound (t : List (List ℕ)) (s : Search) : Type 0 where
  pub keeps : Keeps t s
  pub follows : (p j k : ℕ) → At s.path p j → Among k (row t j) → k < length t → Goes s p k

-- an edge of the last group is no longer ahead, and has still to be followed
pub record IsTaken (t : List (List ℕ)) (s : Search) (e : Edge) : Type 0 where
  pub keeps : Keeps t s
  pub follows : (p j k : ℕ) → At s.path p j → Among k (row t j) → k < length t → Goes s p k ⊎ (k ≡ e.to)
  pub leaves : (k : ℕ) × At s.path e.from k × Among e.to (row t k)
  pub last : (f : ℕ) → Among f s.starts → f ≤ e.from

-- ---- why the search ends

abbrev pub weight_at : Place → List ℕ → ℕ
weight_at New ks = suc (length ks)
weight_at (OnPath p) ks = 0
weight_at Placed ks = 0

abbrev pub weight : List Place → List (List ℕ) → ℕ
weight [] t = 0
weight (p ∷ ps) [] = 0
weight (p ∷ ps) (ks ∷ t) = weight_at p ks + weight ps t

abbrev pub measure : List (List ℕ) → Search → ℕ
measure t s = weight s.places t + (length s.ahead + length s.starts)

-- what the search has come to
abbrev pub Seen : Search → ℕ → Type 0
Seen s k = At s.places k New → ⊥

-- a step keeps what is known, and leaves less to do
pub record IsStep (t : List (List ℕ)) (s s' : Search) (bound : ℕ) : Type 0 where
  pub sound : IsSound t s'
  pub seen : (k : ℕ) → Seen s k → Seen s' k
  pub less : measure t s' < bound

-- the components of a node and of all that it reaches have been found
pub record IsSearched (t : List (List ℕ)) (s s' : Search) (k : ℕ) : Type 0 where
  pub sound : IsSound t s'
  pub ended : s'.starts ≡ []
  pub seen : (j : ℕ) → Seen s j ⊎ (j ≡ k) → Seen s' j
