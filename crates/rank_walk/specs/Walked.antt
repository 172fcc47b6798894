-- Where a rank's walk over its list stands.
use Rattle.std.specs.Prelude.{⊤, ◌≡◌, ◌≢◌, true, false, ◌<◌, ◌≤◌, ℕ, ◌+◌, ◌*◌, ◌^◌, Bool, ◌||◌, List, [], ◌++◌, map, reverse, length, sum_by, ◌∷◌, []}
use Rattle.std.specs.List.{flat_map, AllByRecursion}
use Rattle.fixed_point.specs.declared.V3.{V3}
use Rattle.fixed_point.specs.Vectors.{plus, sum_of, IsAtMost}
use Rattle.cell_space.specs.Cells.{CellData, AreDisjoint}
use Rattle.nbody_model.specs.Covers.{orient}
use Rattle.nbody_model.specs.Force.{pair_force, force_on}
use Rattle.rank_laws.specs.Trees.{worked, waiting}
use Rattle.rank_laws.specs.Machine.{Pair, cells_of, is_one, knows_both}
use Rattle.rank_laws.specs.Whole.{IsWhole, next_of, rules_of, depth_of, counted_in, is_counted}
use Rattle.rank_walk.specs.declared.places.Places.{Places}
use Rattle.rank_walk.specs.declared.heard.Heard.{Heard}
use Rattle.rank_walk.specs.declared.verdict.Verdict.{Verdict}
use Rattle.rank_walk.specs.declared.verdict.Verdict.TheVariants as verdicts
use Rattle.rank_walk.specs.Seats.{Seat, Side, side}
use Rattle.rank_walk.specs.Slots.{SlotData, cell_at_place, cells_in, cells, value_at, sum_at_place, flag_at, upper, lower}
use Rattle.rank_walk.specs.Tables.{IsTable, IsIn, IsOpen, KnowsSlots}

-- a counted force is small
abbrev pub IsSmall : Verdict → Type 0
IsSmall verdicts.Waits = ⊤
IsSmall verdicts.Drops = ⊤
IsSmall verdicts.Opens = ⊤
IsSmall (verdicts.Counts turned force) = IsAtMost (2 ^ 86) force

abbrev pub knows_pair : Side → Pair → Bool
knows_pair z x = knows_both (rules_of z.seat.whole) z.seat.rank z.replies x

-- of some pairs: what is worked off, and what waits
unfoldable pub all_worked : Side → List Pair → List Pair
all_worked z xs = flat_map (worked depth_of (next_of z.seat.whole z.seat.rank) (knows_both (rules_of z.seat.whole) z.seat.rank z.replies)) xs

unfoldable pub all_waiting : Side → List Pair → List Pair
all_waiting z xs = flat_map (waiting depth_of (next_of z.seat.whole z.seat.rank) (knows_both (rules_of z.seat.whole) z.seat.rank z.replies)) xs

-- those that are counted of what is worked off
abbrev pub all_counted : Side → List Pair → List Pair
all_counted z xs = counted_in z.seat.whole z.seat.rank (all_worked z xs)

-- the most steps that are left: a pair gives fewer than 128 others, and they lie less deep
unfoldable pub work : List Pair → ℕ
work xs = sum_by (λ x. 128 ^ depth_of x) xs

-- a cell with itself, or two that have nothing in common
pub data IsListed (x : Pair) : Type 0 where
  Same : x.0 ≡ x.1 → IsListed x
  Apart : AreDisjoint x.0 x.1 → IsListed x

-- what some interactions do to a cell
abbrev pub done_to : Seat → List Pair → CellData → V3
done_to z xs c = sum_of (force_on (pair_force z.whole.gravity z.whole.bodies) c) xs

-- a cell takes part in one of some interactions
abbrev pub takes_part : List Pair → CellData → Bool
takes_part xs c = is_one c (flat_map cells_of xs)

-- what a verdict on the pair at two places means
abbrev pub Means : Side → List SlotData → Places → Verdict → Type 0
Means z ss x verdicts.Waits = knows_pair z (cells ss x) ≡ false
Means z ss x verdicts.Drops = (knows_pair z (cells ss x) ≡ true) × (next_of z.seat.whole z.seat.rank (cells ss x) ≡ []) × (is_counted z.seat.whole z.seat.rank (cells ss x) ≡ false)
Means z ss x verdicts.Opens = (knows_pair z (cells ss x) ≡ true) × (is_counted z.seat.whole z.seat.rank (cells ss x) ≡ false) × IsOpen z.seat ss x
Means z ss x (verdicts.Counts turned force) = (knows_pair z (cells ss x) ≡ true) × (next_of z.seat.whole z.seat.rank (cells ss x) ≡ []) × (is_counted z.seat.whole z.seat.rank (cells ss x) ≡ true)
    × (orient (cells ss x) ≡ (cell_at_place ss (upper turned x), cell_at_place ss (lower turned x))) × (force ≡ pair_force z.seat.whole.gravity z.seat.whole.bodies (orient (cells ss x))) × (x.a ≢ x.b)

-- what a walk begins with, and is to do: the cells of its slots, the sums, the cells that had taken part and those that were asked for, how many
-- interactions had been counted, those that are to be counted, and the pairs that are to wait
pub record Plan : Type 0 where
  pub cells : List CellData
  pub sums : CellData → V3
  pub touched : CellData → Bool
  pub asked : CellData → Bool
  pub before : ℕ
  pub counts : List Pair
  pub waits : List Pair

-- a list is longer than another by what stands behind it
pub record IsLongerThan (cs ds : List CellData) : Type 0 where
  pub more : List CellData
  pub is : ds ≡ cs ++ more

-- slots with what stands beside them, of a rank that has some replies
pub record IsHeard (z : Side) (h : Heard) : Type 0 where
  pub whole : IsWhole z.seat.whole
  pub table : IsTable z.seat h.slots.items
  pub knows : KnowsSlots z h.slots.items
  pub stands : (c : CellData) → is_one c z.replies ≡ true → is_one c (cells_in h.slots.items) ≡ true
  pub long : length h.sums.items ≡ length h.slots.items
  pub long_touched : length h.touched.items ≡ length h.slots.items
  pub long_asked : length h.asked.items ≡ length h.slots.items

-- pairs of places for which a force may be asked
pub record AreListed (ss : List SlotData) (xs : List Places) : Type 0 where
  pub within : AllByRecursion (IsIn ss) xs
  pub listed : AllByRecursion IsListed (map (cells ss) xs)

-- The stack holds what is left, the next at its end. The sums rose by what was counted.
pub record IsAt (z : Side) (p : Plan) (h : Heard) (stack wait : List Places) (count : ℕ) : Type 0 where
  pub heard : IsHeard z h
  pub grew : IsLongerThan p.cells (cells_in h.slots.items)
  pub stacked : AreListed h.slots.items stack
  pub waited : AreListed h.slots.items wait
  pub waiting : map (cells h.slots.items) wait ++ all_waiting z (map (cells h.slots.items) (reverse stack)) ≡ p.waits
  pub done : List Pair
  pub worked : done ++ all_counted z (map (cells h.slots.items) (reverse stack)) ≡ p.counts
  pub counted : count ≡ p.before + length done
  pub sums : (c : CellData) → value_at (cells_in h.slots.items) h.sums.items c ≡ plus (p.sums c) (done_to z.seat done c)
  pub touched : (c : CellData) → flag_at (cells_in h.slots.items) h.touched.items c ≡ (p.touched c || takes_part done c)
  pub asked : (c : CellData) → flag_at (cells_in h.slots.items) h.asked.items c ≡ p.asked c
  pub small : (i : ℕ) → IsAtMost (count * 2 ^ 86) (sum_at_place h.sums.items i)
  pub few : p.before + length p.counts ≤ 2 ^ 40

-- a step was made: less is left
pub record IsNearer (z : Side) (p : Plan) (old : Heard) (before : List Places) (new : Heard) (stack wait : List Places) (count : ℕ) : Type 0 where
  pub at : IsAt z p new stack wait count
  pub less : work (map (cells new.slots.items) stack) < work (map (cells old.slots.items) before)

-- a step may be made, for some rank and plan; whatever they are, it was made
abbrev pub MayStep : Heard → List Places → List Places → ℕ → Seat → Type 0
MayStep h stack wait count z = (replies : List CellData) × ((p : Plan) × IsAt (side z replies) p h stack wait count)

abbrev pub IsStep : Heard → List Places → List Places → ℕ → Heard → List Places → List Places → ℕ → Seat → Type 0
IsStep h stack wait count k rest late many z = (replies : List CellData) (p : Plan) → IsAt (side z replies) p h stack wait count → IsNearer (side z replies) p h stack k rest late many

-- the same with this pair on top of the stack
abbrev pub IsStepOf : Heard → List Places → Places → List Places → ℕ → Heard → List Places → List Places → ℕ → Seat → Type 0
IsStepOf h stack x wait count k rest late many = IsStep h (stack ++ x ∷ []) wait count k rest late many

-- what is asked of a list that is to be worked off
pub record MayWork (z : Side) (h : Heard) (list : List Places) (count : ℕ) : Type 0 where
  pub heard : IsHeard z h
  pub listed : AreListed h.slots.items list
  pub small : (i : ℕ) → IsAtMost (count * 2 ^ 86) (sum_at_place h.sums.items i)
  pub few : count + length (all_counted z (map (cells h.slots.items) list)) ≤ 2 ^ 40

-- A list is worked off: of it the pairs that are known were worked off, and the others wait, as the definition has it, and in
-- its order; as many interactions were counted as it counts of them, and each cell got what they do to it. The slots are still
-- those of this rank; there may be more.
pub record IsWorkedOff (z : Side) (h : Heard) (list : List Places) (before : ℕ) (k : Heard) (wait : List Places) (after : ℕ) : Type 0 where
  pub heard : IsHeard z k
  pub grew : IsLongerThan (cells_in h.slots.items) (cells_in k.slots.items)
  pub listed : AreListed k.slots.items wait
  pub waiting : map (cells k.slots.items) wait ≡ all_waiting z (map (cells h.slots.items) list)
  pub counted : after ≡ before + length (all_counted z (map (cells h.slots.items) list))
  pub sums : (c : CellData) → value_at (cells_in k.slots.items) k.sums.items c ≡ plus (value_at (cells_in h.slots.items) h.sums.items c) (done_to z.seat (all_counted z (map (cells h.slots.items) list)) c)
  pub touched : (c : CellData) → flag_at (cells_in k.slots.items) k.touched.items c ≡ (flag_at (cells_in h.slots.items) h.touched.items c || takes_part (all_counted z (map (cells h.slots.items) list)) c)
  pub asked : (c : CellData) → flag_at (cells_in k.slots.items) k.asked.items c ≡ flag_at (cells_in h.slots.items) h.asked.items c
  pub small : (i : ℕ) → IsAtMost (after * 2 ^ 86) (sum_at_place k.sums.items i)

-- a list may be worked off, for some rank; whatever it is, it was
abbrev pub MayWalk : Heard → List Places → ℕ → Seat → Type 0
MayWalk h list count z = (replies : List CellData) × MayWork (side z replies) h list count

abbrev pub IsWalk : Heard → List Places → ℕ → Heard → List Places → ℕ → Seat → Type 0
IsWalk h list before k wait after z = (replies : List CellData) → MayWork (side z replies) h list before → IsWorkedOff (side z replies) h list before k wait after
