-- The worked case, computed.
use Rattle.std.proofs.Common.{◌≡◌, ◌-◌, ◌<◌, ◌≤◌, [], ◌∷◌, refl, subst, arith, ◌∙◌, ◌⊎◌, inl, inr, min}
use Rattle.std.proofs.Math.Nat.{min-eq_left, min-eq_right}
use Rattle.std.proofs.lemmas.Bool.{cases_lt}
use Rattle.cell_space.specs.Cells.{digit}
use Rattle.hilbert_keys.specs.Curve.{along, place_of, next_turn}
use Rattle.nbody_model.specs.Nodes.{is_node, is_leaf}
use Rattle.nbody_model.specs.Moments.{moments}
use Rattle.nbody_model.specs.OpeningRule.{accept}
use Rattle.nbody_model.specs.Walks.{gives}
use Rattle.rank_laws.specs.Homes.{rank_of_key}
use Rattle.rank_laws.specs.Trees.{tree}
use Rattle.rank_laws.specs.Protocol.{enabled, numbered}
use Rattle.rank_laws.specs.Machine.{need, list_after, done_after, action, machine, start_world}
use Rattle.rank_laws.specs.Whole.{in_order, counted, rules_of}
use Rattle.rank_laws.specs.Contents.{own_nodes, part_on, touched, wanted, part_for}
use Rattle.rank_laws.specs.Played.{IsInRange, PlaysTo, IsThePlay, events_by, end_by}
use Rattle.rank_laws.proofs.Computed.{plays_computed}
use Rattle.rank_worked.specs.Worked.{two_ranks, BoundsAreTold, by_list, by_last, first_trace, last_trace, NodesAreCounted, CellsAreNeeded, FirstPlay, LastPlay, OneKeyIsEnough}

pub bounds_are : BoundsAreTold
unfolding along place_of next_turn digit
bounds_are = refl

pub nodes_are : NodesAreCounted
unfolding own_nodes two_ranks is_node is_leaf in_order along place_of next_turn digit
nodes_are = refl

pub needs_are : CellsAreNeeded
unfolding need two_ranks is_node is_leaf tree gives moments accept rank_of_key in_order along place_of next_turn digit
needs_are = refl

first_events : events_by by_list two_ranks 30 (start_world (rules_of two_ranks)) [] ≡ first_trace
unfolding events_by own_nodes need list_after done_after action enabled numbered counted part_on touched wanted part_for two_ranks is_node is_leaf tree gives moments accept rank_of_key in_order along place_of next_turn digit
first_events = refl

first_end : enabled (machine (rules_of two_ranks)) (end_by by_list two_ranks 30 (start_world (rules_of two_ranks)) []) ≡ 0
unfolding end_by need list_after done_after action enabled numbered two_ranks is_node is_leaf tree gives moments accept rank_of_key in_order along place_of next_turn digit
first_end = refl

list_in : IsInRange by_list
list_in [] n h = h
list_in (x ∷ xs) n h = by (cases_lt x (n - 1))
  where
    by : (x < n - 1) ⊎ (n - 1 ≤ x) → min x (n - 1) < n
    by (inl l) = let e : min x (n - 1) ≡ x = min-eq_left (omega (arith, l)) in omega (arith, e, l)
    by (inr l) = let e : min x (n - 1) ≡ n - 1 = min-eq_right l in omega (arith, e, h)

pub first_plays : FirstPlay
first_plays =
    let c : IsThePlay by_list two_ranks (start_world (rules_of two_ranks)) [] (events_by by_list two_ranks 30 (start_world (rules_of two_ranks)) []) (end_by by_list two_ranks 30 (start_world (rules_of two_ranks)) []) = plays_computed by_list two_ranks 30 (start_world (rules_of two_ranks)) [] first_end in
    record {
      last = end_by by_list two_ranks 30 (start_world (rules_of two_ranks)) [];
      there = subst (λ es. PlaysTo by_list two_ranks (start_world (rules_of two_ranks)) [] es (end_by by_list two_ranks 30 (start_world (rules_of two_ranks)) [])) first_events (c.there list_in);
      only = λ es z b h. (c.only es z b h).0 ∙ first_events;
    }

last_events : events_by by_last two_ranks 30 (start_world (rules_of two_ranks)) [] ≡ last_trace
unfolding events_by own_nodes need list_after done_after action enabled numbered counted part_on touched wanted part_for two_ranks is_node is_leaf tree gives moments accept rank_of_key in_order along place_of next_turn digit
last_events = refl

last_end : enabled (machine (rules_of two_ranks)) (end_by by_last two_ranks 30 (start_world (rules_of two_ranks)) []) ≡ 0
unfolding end_by need list_after done_after action enabled numbered two_ranks is_node is_leaf tree gives moments accept rank_of_key in_order along place_of next_turn digit
last_end = refl

pub last_plays : LastPlay
last_plays =
    let c : IsThePlay by_last two_ranks (start_world (rules_of two_ranks)) [] (events_by by_last two_ranks 30 (start_world (rules_of two_ranks)) []) (end_by by_last two_ranks 30 (start_world (rules_of two_ranks)) []) = plays_computed by_last two_ranks 30 (start_world (rules_of two_ranks)) [] last_end in
    record {
      last = end_by by_last two_ranks 30 (start_world (rules_of two_ranks)) [];
      there = subst (λ es. PlaysTo by_last two_ranks (start_world (rules_of two_ranks)) [] es (end_by by_last two_ranks 30 (start_world (rules_of two_ranks)) [])) last_events (c.there (λ a n h. omega (arith, h)));
      only = λ es z b h. (c.only es z b h).0 ∙ last_events;
    }

pub one_key_is : OneKeyIsEnough
one_key_is = record { some = omega arith; ranged = λ c. omega arith; low = λ c k p a b d e. omega arith; high = λ c k p a b d e. omega arith }
