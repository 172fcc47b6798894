-- Vectors with keys, added up key by key.
use Rattle.std.specs.Prelude.{◌≤◌, ◌<◌, ◌≡◌, ℕ, ◌==◌, ◌^◌, ⊤, List, [], ◌∷◌, ◌++◌, map, filter, sum_by, Bool}
use Rattle.std.specs.List.{AllByRecursion, list_any}
use Rattle.std.specs.List.Sorted.{IsNonDecreasingBy}
use Rattle.fixed_point.specs.declared.V3.{V3}
use Rattle.fixed_point.specs.Vectors.{plus, sum_of}
use Rattle.rank_exchange.specs.Sums.{extent}
use Rattle.rank_exchange.specs.declared.keyed.Keyed.{Keyed}

abbrev pub keys_in : List Keyed → List ℕ
keys_in es = map (λ e. e.key) es

-- a key stands in a list
abbrev pub has_key : ℕ → List Keyed → Bool
has_key k es = list_any (λ j. k == j) (keys_in es)

-- the sum of all that stands at a key
abbrev pub sum_at : ℕ → List Keyed → V3
sum_at k es = sum_of (λ e. e.sum) (filter (λ e. k == e.key) es)

-- how much stands at a key, in size
abbrev pub extent_at : ℕ → List Keyed → ℕ
extent_at k es = sum_by (λ e. extent e.sum) (filter (λ e. k == e.key) es)

-- what stands at each key adds up within 128 bits, in any order
abbrev pub IsLight : List Keyed → Type 0
IsLight es = (k : ℕ) → extent_at k es ≤ 2 ^ 126

-- numbers of which each is below all behind it
abbrev pub Climbs : List ℕ → Type 0
Climbs [] = ⊤
Climbs (k ∷ ks) = AllByRecursion (λ j. k < j) ks × Climbs ks

-- each key of a list once, ascending, with the sum of all that stands at it
pub record AreSums (es out : List Keyed) : Type 0 where
  pub climbs : Climbs (keys_in out)
  pub keys : (k : ℕ) → has_key k out ≡ has_key k es
  pub sums : (k : ℕ) → sum_at k out ≡ sum_at k es

-- the same, and no more in size
pub record IsAdded (es out : List Keyed) : Type 0 where
  pub are : AreSums es out
  pub light : (k : ℕ) → extent_at k out ≤ extent_at k es

abbrev pub IsRising : List Keyed → Type 0
IsRising es = IsNonDecreasingBy (λ e. e.key) es

-- what two vectors of one key come to
abbrev pub joined : Keyed → Keyed → Keyed
joined a b = record { key = a.key; sum = plus a.sum b.sum }

-- sums that are added up, the last of them apart
abbrev pub IsAddedWith : List Keyed → List Keyed → Keyed → Type 0
IsAddedWith es out last = IsAdded es (out ++ last ∷ [])

-- no key of a list is above a key
abbrev pub AreUpTo : ℕ → List Keyed → Type 0
AreUpTo key es = AllByRecursion (λ e. e.key ≤ key) es

-- with one vector more, what stands at its key still fits
abbrev pub StaysLight : List Keyed → Keyed → Type 0
StaysLight es e = extent_at e.key (es ++ e ∷ []) ≤ 2 ^ 126
