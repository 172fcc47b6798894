-- What came to a rank by a moment, and what it makes of that.
use Rattle.std.specs.Prelude.{◌≡◌, ◌≤◌, ◌<◌, ℕ, true, List, ◌∷◌, map, reverse}
use Rattle.std.specs.List.{AllByRecursion, flat_map}
use Rattle.nbody_model.specs.Bodies.{BodyData}
use Rattle.nbody_model.specs.Force.{node_total}
use Rattle.nbody_model.specs.Setups.{IsSetup}
use Rattle.model_laws.specs.Laws.{CorrectsLittle}
use Rattle.hilbert_keys.specs.Curve.{IsCell}
use Rattle.rank_laws.specs.Machine.{Kind, Sums, Members, Parts, Rank, has_all}
use Rattle.rank_laws.specs.Whole.{Whole, IsWhole, ranks_of, rules_of}
use Rattle.rank_laws.specs.Contents.{Given, Summed, Listed, sums_sent, members_sent, parts_sent, wanted}
use Rattle.rank_laws.specs.Kept.{given_up, senders}
use Rattle.rank_exchange.specs.declared.shares.Kept.{Kept}
use Rattle.rank_exchange.specs.declared.keyed.Keyed.{Keyed}
use Rattle.rank_exchange.specs.Handed.{handed_to}
use Rattle.rank_exchange.specs.Keyed.{sum_at}
use Rattle.rank_exchange.specs.Sums.{Climbs, cells_in}
use Rattle.rank_exchange.specs.Moments.{Moment, PairsAreSmall, state_at}

-- the senders of a kind, the first first
abbrev pub came : Kind → Rank → List ℕ
came k s = reverse (senders k s)

-- the sums that came, in the order in which they came
abbrev pub sums_came : Moment → List Summed
sums_came m = flat_map (λ q. sums_sent m.whole q m.rank) (came Sums (state_at m))

-- the cells of a home that take part in an interaction, in order, with their totals
abbrev pub home_totals : Whole → ℕ → List Summed
home_totals w h = map (λ c. record { cell = c; sum = node_total w.gravity w.bodies c }) (wanted w h)

-- over bodies and a setup within their limits that holds
abbrev pub KeepsPairsSmall : Type 0
KeepsPairsSmall = (w : Whole) → IsWhole w → IsSetup w.gravity.setup → AllByRecursion (λ b. b.kind ≤ 5) w.bodies → CorrectsLittle w.gravity.table → PairsAreSmall w

-- a rank has the sums of all others, and here are its own and those that came
pub record HasSums (m : Moment) (own others : List Summed) : Type 0 where
  pub all : has_all (rules_of m.whole) Sums m.rank (state_at m) ≡ true
  pub itself : own ≡ sums_sent m.whole m.rank m.rank
  pub came : others ≡ sums_came m

-- a member of a cell with the rank from which it came
abbrev pub kept_from : ℕ → Listed → Kept
kept_from q e = record { from = q; entry = e }

-- the members that a home has: its own, and those that came, in the order in which they came
abbrev pub members_kept : Moment → List Kept
members_kept m = flat_map (λ q. map (kept_from q) (members_sent m.whole q m.rank)) (m.rank ∷ came Members (state_at m))

-- a rank has the members of all others, and here are the totals of its home's cells and all members
pub record HasMembers (m : Moment) (totals : List Summed) (kept : List Kept) : Type 0 where
  pub all : has_all (rules_of m.whole) Members m.rank (state_at m) ≡ true
  pub sums_are : totals ≡ home_totals m.whole m.rank
  pub climbs : Climbs (cells_in totals)
  pub boxed : AllByRecursion IsCell (cells_in totals)
  pub kept_are : kept ≡ members_kept m

-- from these sums by rank and id each rank gets the parts that the home owes to it
abbrev pub HandsOut : Moment → List Keyed → Type 0
HandsOut m sums = (q : ℕ) → q < ranks_of m.whole → handed_to sums q ≡ parts_sent m.whole m.rank q

-- the parts that came, in the order in which they came
abbrev pub parts_came : Moment → List Given
parts_came m = flat_map (λ q. parts_sent m.whole q m.rank) (came Parts (state_at m))

-- a rank has the parts of all others, and here are its own and those that came
pub record HasParts (m : Moment) (own others : List Given) : Type 0 where
  pub all : has_all (rules_of m.whole) Parts m.rank (state_at m) ≡ true
  pub itself : own ≡ parts_sent m.whole m.rank m.rank
  pub came : others ≡ parts_came m

-- at the id of each body stands what the rank has for it
abbrev pub GivesUp : Moment → List Keyed → Type 0
GivesUp m sums = (b : BodyData) → sum_at b.id sums ≡ given_up m.whole m.rank (state_at m) b
