-- A worked case: three bodies on two ranks.
use Rattle.std.specs.Prelude.{◌≡◌, ℕ, List, [], ◌∷◌, length}
use Rattle.cell_space.specs.Cells.{CellData}
use Rattle.nbody_model.specs.Bodies.{BodyData}
use Rattle.nbody_model.specs.declared.field.Event.{Event}
use Rattle.nbody_model.specs.declared.field.EventKind.{EventKind}
use Rattle.nbody_model.specs.declared.field.EventKind.TheVariants.{Build, Walk, Add, Share, Table, Ask, Reply, Sums, Want, Members, Parts}
use Rattle.model_laws.specs.Worked.{three_bodies, gravity_of}
use Rattle.store_io.specs.Picks.{first_of_list, rest_of_list, last_of}
use Rattle.rank_laws.specs.Homes.{Keys}
use Rattle.rank_laws.specs.Protocol.{World}
use Rattle.rank_laws.specs.Machine.{Message, Rank, need, start_world}
use Rattle.rank_laws.specs.Whole.{Whole, AreKeys, rules_of}
use Rattle.rank_laws.specs.Contents.{own_nodes}
use Rattle.rank_laws.specs.Played.{Picks, IsPlayed, PlaysTo}
use Rattle.rank_curve_laws.specs.Along.{bounds_of, divided}

-- ---- the case

-- the bodies with the ids 1 and 2 are on rank 0, that with id 3 on rank 1; the bounds are the least keys of their bodies
abbrev pub three : List BodyData
three = three_bodies 1610612736

abbrev pub owners : List ℕ
owners = 0 ∷ 0 ∷ 1 ∷ []

abbrev pub bounds : List ℕ
bounds = 0 ∷ 9774414712467689420027546932 ∷ []

unfoldable pub two_ranks : Whole
two_ranks = divided three (gravity_of 256 4294967296) owners bounds

-- by a list of numbers, and by the last of all
abbrev pub by_list : Picks
by_list = record { answer = first_of_list; after = rest_of_list }

abbrev pub by_last : Picks
by_last = record { answer = last_of; after = λ a n. a }

-- the play from the start has these events, and there is no other
pub record IsTrace (p : Picks) (trace : List Event) : Type 0 where
  pub last : World Rank Message
  pub there : PlaysTo p two_ranks (start_world (rules_of two_ranks)) [] trace last
  pub only : (es : List Event) (z : World Rank Message) (b : List ℕ) → IsPlayed p two_ranks (start_world (rules_of two_ranks)) [] es z b → es ≡ trace

-- a rank acts, with this size; a message comes from one rank to another
abbrev pub acts : EventKind → ℕ → ℕ → Event
acts k r s = record { kind = k; «from» = r; to = r; size = s }

abbrev pub comes : EventKind → ℕ → ℕ → ℕ → Event
comes k a b s = record { kind = k; «from» = a; to = b; size = s }

-- ---- what it comes to

abbrev pub BoundsAreTold : Type 0
BoundsAreTold = bounds_of three owners 2 ≡ bounds

abbrev pub NodesAreCounted : Type 0
NodesAreCounted = length (own_nodes two_ranks 0) ∷ length (own_nodes two_ranks 1) ∷ [] ≡ 5 ∷ 1 ∷ []

abbrev pub CellsAreNeeded : Type 0
CellsAreNeeded = length (need (rules_of two_ranks) 0) ∷ length (need (rules_of two_ranks) 1) ∷ [] ≡ 3 ∷ 1 ∷ []

abbrev pub first_trace : List Event
first_trace =
    acts Build 0 5 ∷ acts Build 1 1 ∷ comes Table 0 1 2 ∷ acts Walk 1 0 ∷ comes Table 1 0 1 ∷ acts Walk 0 0
    ∷ comes Ask 1 0 1 ∷ comes Ask 0 1 1 ∷ comes Reply 0 1 1 ∷ acts Walk 1 0 ∷ comes Reply 1 0 1 ∷ acts Walk 0 0
    ∷ comes Sums 1 0 0 ∷ comes Ask 0 1 1 ∷ comes Reply 1 0 1 ∷ acts Walk 0 1 ∷ comes Ask 0 1 1 ∷ comes Reply 1 0 1
    ∷ acts Walk 0 1 ∷ acts Add 0 3 ∷ comes Sums 0 1 1 ∷ acts Add 1 1 ∷ comes Want 0 1 3 ∷ comes Want 1 0 1
    ∷ comes Members 1 0 0 ∷ acts Share 0 3 ∷ comes Members 0 1 0 ∷ acts Share 1 1 ∷ comes Parts 0 1 0 ∷ comes Parts 1 0 0 ∷ []

abbrev pub FirstPlay : Type 0
FirstPlay = IsTrace by_list first_trace

abbrev pub last_trace : List Event
last_trace =
    acts Build 1 1 ∷ comes Table 1 0 1 ∷ acts Build 0 5 ∷ comes Table 0 1 2 ∷ acts Walk 1 0 ∷ comes Ask 1 0 1
    ∷ comes Reply 0 1 1 ∷ acts Walk 1 0 ∷ comes Sums 1 0 0 ∷ acts Walk 0 0 ∷ comes Ask 0 1 1 ∷ comes Reply 1 0 1
    ∷ acts Walk 0 0 ∷ comes Ask 0 1 1 ∷ comes Reply 1 0 1 ∷ acts Walk 0 1 ∷ comes Ask 0 1 1 ∷ comes Reply 1 0 1
    ∷ acts Walk 0 1 ∷ comes Sums 0 1 1 ∷ acts Add 1 1 ∷ comes Want 1 0 1 ∷ comes Members 0 1 0 ∷ acts Share 1 1
    ∷ comes Parts 1 0 0 ∷ acts Add 0 3 ∷ comes Want 0 1 3 ∷ comes Members 1 0 0 ∷ acts Share 0 3 ∷ comes Parts 0 1 0 ∷ []

abbrev pub LastPlay : Type 0
LastPlay = IsTrace by_last last_trace

-- keys that are all one are keys
abbrev pub one_key : Keys CellData
one_key = record { first = λ c. 0; last = λ c. 0; bounds = 0 ∷ 0 ∷ [] }

abbrev pub OneKeyIsEnough : Type 0
OneKeyIsEnough = AreKeys one_key
