-- Moments of a run, seen from one rank, and the arrival of a message at one.
use Rattle.std.specs.Prelude.{◌≡◌, ◌^◌, ◌≤◌, ◌<◌, ℕ, true, List, Some, slice_get}
use Rattle.std.specs.List.{AllByRecursion}
use Rattle.fixed_point.specs.Vectors.{IsAtMost}
use Rattle.nbody_model.specs.Covers.{interactions}
use Rattle.nbody_model.specs.Force.{pair_force}
use Rattle.rank_laws.specs.Protocol.{World, Move, state}
use Rattle.rank_laws.specs.Machine.{Message, Rank, Action, accepted, action, machine, sent}
use Rattle.rank_laws.specs.Runs.{Runs}
use Rattle.rank_laws.specs.Whole.{Whole, IsWhole, opening, ranks_of, rules_of}
use Rattle.rank_entry_laws.specs.Given.{HasSoftenings}
use Rattle.rank_curve_laws.specs.Along.{keys_along}

-- no force of an interaction is above 2^86
abbrev pub PairsAreSmall : Whole → Type 0
PairsAreSmall w = AllByRecursion (λ x. IsAtMost (2 ^ 86) (pair_force w.gravity w.bodies x)) (interactions (opening w))

-- a state of a machine of ranks to which a run leads, and one of its ranks
pub record Moment : Type 0 where
  pub whole : Whole
  pub events : List Move
  pub world : World Rank Message
  pub rank : ℕ
  pub is_whole : IsWhole whole
  pub softenings : HasSoftenings whole
  pub along : whole.keys ≡ keys_along whole.keys.bounds
  pub small : PairsAreSmall whole
  pub few : ranks_of whole ≤ 256
  pub run : Runs (rules_of whole) events world
  pub within : rank < ranks_of whole

-- the machine's rank then, and what it can do next, with what it sends by that
abbrev pub state_at : Moment → Rank
state_at m = state (machine (rules_of m.whole)) m.world m.rank

abbrev pub action_at : Moment → Action
action_at m = action (rules_of m.whole) m.rank (state_at m)

abbrev pub sent_at : Moment → List Message
sent_at m = sent (rules_of m.whole) m.rank (state_at m) (action_at m)

-- a message in the mail that may come to the rank then
pub record Arrival : Type 0 where
  pub moment : Moment
  pub place : ℕ
  pub message : Message
  pub there : slice_get moment.world.mail place ≡ Some message
  pub to : message.to ≡ moment.rank
  pub accepted : accepted (rules_of moment.whole) message (state_at moment) message.kind ≡ true
