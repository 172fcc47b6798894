-- Forces among bodies found by ranks, in an order that a schedule picks.
use Rattle.std.specs.Prelude.{◌≡◌, ◌≤◌, ◌<◌, ◌⊎◌, ℕ, List, [], ◌∷◌}
use Rattle.nbody_model.specs.declared.field.Event.{Event}
use Rattle.nbody_model.specs.Bodies.{BodyData}
use Rattle.nbody_model.specs.Tables.{Gravity}
use Rattle.store_io.specs.declared.schedule.Schedule as schedule
use Rattle.domain_split.specs.Splits.{owners_of}
use Rattle.rank_laws.specs.Protocol.{World, happens}
use Rattle.rank_laws.specs.Machine.{Message, Rank, machine, start_world}
use Rattle.rank_laws.specs.Whole.{Whole, rules_of}
use Rattle.rank_laws.specs.Told.{told}
use Rattle.rank_laws.specs.Played.{Picks, IsPlayed, picked}
use Rattle.rank_curve_laws.specs.Along.{bounds_of, divided}
use Rattle.rank_field.specs.Machines.{HasFinished, MachineData, enabled_in}

-- so many ranks can find forces together
pub record IsRankCount (ranks : ℕ) : Type 0 where
  pub some : 1 ≤ ranks
  pub few : ranks ≤ 256

-- what a schedule answers, and how its state goes on
abbrev pub picks_of : {X : Type 0} → schedule.Ghosts X → Picks
picks_of K = record { answer = K.answer; after = K.after }

-- bodies divided among so many ranks along the curve, with the bounds of their bodies
abbrev pub split_among : List BodyData → Gravity → ℕ → Whole
split_among B g ranks = divided B g (owners_of ranks B) (bounds_of B (owners_of ranks B) ranks)

-- these events are a finished run of the machine of so many ranks over the bodies, played from a state of the one who picks
-- to a state
pub record IsPlayedAmong (p : Picks) (g : Gravity) (ranks : ℕ) (B : List BodyData) (a : List ℕ) (es : List Event) (b : List ℕ) : Type 0 where
  pub last : World Rank Message
  pub played : IsPlayed p (split_among B g ranks) (start_world (rules_of (split_among B g ranks))) a es last b

-- the same, where the first of some numbers that no call changes is how many ranks there are
abbrev pub passes_among : Picks → Gravity → List ℕ → List BodyData → List ℕ → List Event → List ℕ → Type 0
passes_among p g [] B a es b = ⊥
passes_among p g (ranks ∷ rest) B a es b = IsPlayedAmong p g ranks B a es b

-- from a machine m and a state a of the one who picks these events were picked, one after another; they leave z and b
abbrev pub IsPicked : Picks → Whole → World Rank Message → List ℕ → List Event → World Rank Message → List ℕ → Type 0
IsPicked p w m a [] z b = (m ≡ z) × (a ≡ b)
IsPicked p w m a (e ∷ es) z b =
    (p.answer a (enabled_in w m) < enabled_in w m) × (e ≡ told w m (picked p w m a))
    × IsPicked p w (happens (machine (rules_of w)) m (picked p w m a)) (p.after a (enabled_in w m)) es z b

-- from a state a the one who picks went on to b by the picks of events that were done, and perhaps that of one more
pub record HasGoneOn (p : Picks) (w : Whole) (z : World Rank Message) (a b : List ℕ) : Type 0 where
  pub events : List Event
  pub now : World Rank Message
  pub left : List ℕ
  pub picked : IsPicked p w z a events now left
  pub rest : (b ≡ left) ⊎ ((0 < enabled_in w now) × (b ≡ p.after left (enabled_in w now)))

-- the same over bodies that are split among so many ranks
abbrev pub HasGoneOnAmong : Picks → Gravity → ℕ → List BodyData → List ℕ → List ℕ → Type 0
HasGoneOnAmong p g ranks B a b = HasGoneOn p (split_among B g ranks) (start_world (rules_of (split_among B g ranks))) a b

-- from a state of a machine these events were played to its end
pub record HasPlayed (p : Picks) (w : Whole) (z : World Rank Message) (a : List ℕ) (es : List Event) (b : List ℕ) (v : MachineData) : Type 0 where
  pub last : World Rank Message
  pub played : IsPlayed p w z a es last b
  pub finished : HasFinished w last v

-- ---- by a schedule, as it was before and as it is after

-- it picked these events, and played a machine to its end
abbrev pub Plays : {X : Type 0} → schedule.Ghosts X → Whole → World Rank Message → X → List Event → X → MachineData → Type 0
Plays K w z old es new v = HasPlayed (picks_of K) w z (K.state old) es (K.state new) v

-- it went on by the picks that were made, to the end or not
abbrev pub WentOn : {X : Type 0} → schedule.Ghosts X → Whole → World Rank Message → X → X → Type 0
WentOn K w z old new = HasGoneOn (picks_of K) w z (K.state old) (K.state new)

-- both over bodies that are split among so many ranks
abbrev pub PlaysAmong : {X : Type 0} → schedule.Ghosts X → Gravity → ℕ → List BodyData → X → List Event → X → Type 0
PlaysAmong K g ranks B old es new = IsPlayedAmong (picks_of K) g ranks B (K.state old) es (K.state new)

abbrev pub WentOnAmong : {X : Type 0} → schedule.Ghosts X → Gravity → ℕ → List BodyData → X → X → Type 0
WentOnAmong K g ranks B old new = HasGoneOnAmong (picks_of K) g ranks B (K.state old) (K.state new)
