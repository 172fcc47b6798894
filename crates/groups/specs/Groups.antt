-- Friends-of-friends groups: bodies joined by chains of links, their labels, and the catalogue.
use Rattle.std.specs.Prelude.{◌≡◌, ◌<◌, ◌≤◌, ◌==◌, ℕ, Bool, true, cond, nat_lt, List, [], ◌∷◌, length, get_or, map, filter, sum_by}
use Rattle.std.specs.List.{flat_map, range_with_len}
use Rattle.nbody_model.specs.Bodies.{BodyData}
use Rattle.group_file.specs.Catalogues.{GroupData}
use Rattle.neighbour_find.specs.Near.{nobody, is_link}

-- n places, and the test that links two of them
pub record Web : Type 0 where
  pub size : ℕ
  pub link : ℕ → ℕ → Bool

abbrev pub web : ℕ → List BodyData → Web
web reach B = record { size = length B; link = is_link reach B }

-- links lead from i over these places to j
abbrev pub Leads : Web → ℕ → List ℕ → ℕ → Type 0
Leads w i [] j = i ≡ j
Leads w i (k ∷ ks) j = (k < w.size) × (w.link i k ≡ true) × Leads w k ks j

-- a chain of links joins i and j, or they are one
pub record IsJoined (w : Web) (i j : ℕ) : Type 0 where
  pub chain : List ℕ
  pub leads : Leads w i chain j

-- the least place that is joined to i
pub record IsHead (w : Web) (i head : ℕ) : Type 0 where
  pub within : head < w.size
  pub joined : IsJoined w head i
  pub least : (k : ℕ) → k < w.size → IsJoined w k i → head ≤ k

-- each place's head
pub record AreHeads (w : Web) (heads : List ℕ) : Type 0 where
  pub as_many : length heads ≡ w.size
  pub each : (k d : ℕ) → k < w.size → IsHead w k (get_or heads k d)

-- a place has a head
abbrev pub has_head : List ℕ → ℕ → ℕ → Bool
has_head heads p k = get_or heads k 0 == p

-- the places that have a head
abbrev pub members : List ℕ → ℕ → List ℕ
members heads p = filter (has_head heads p) (range_with_len 0 (length heads))

-- the group of a head: its label is the head's id, the least of the group, since bodies ascend in id
abbrev pub group_of : List BodyData → List ℕ → ℕ → GroupData
group_of B heads p = record {
  label = (get_or B p nobody).id;
  mass = sum_by (λ k. (get_or B k nobody).mass) (members heads p);
  ids = map (λ k. (get_or B k nobody).id) (members heads p);
}

-- the group of a place that is its own head, if it has members enough
abbrev pub kept : ℕ → List BodyData → List ℕ → ℕ → List GroupData
kept least B heads p = cond (has_head heads p p) (cond (nat_lt (length (members heads p)) least) [] (group_of B heads p ∷ [])) []

-- the groups of at least so many members, ascending by label
abbrev pub catalogue : ℕ → List BodyData → List ℕ → List GroupData
catalogue least B heads = flat_map (kept least B heads) (range_with_len 0 (length B))

-- the catalogue of bodies: that of their heads, which are unique
pub record IsCatalogue (reach least : ℕ) (B : List BodyData) (C : List GroupData) : Type 0 where
  pub heads : List ℕ
  pub are : AreHeads (web reach B) heads
  pub is : C ≡ catalogue least B heads
