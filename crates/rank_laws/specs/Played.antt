-- Finished runs whose events someone picked, from a state of the one who picks to a state.
use Rattle.std.specs.Prelude.{◌≡◌, ◌<◌, ◌≤◌, ℕ, ◌+◌, ◌*◌, ◌==◌, List, [], ◌∷◌, length, map, sum_by, if◌then◌else◌}
use Rattle.std.proofs.Common.{zero, suc}
use Rattle.std.specs.List.{count_by}
use Rattle.fixed_point.specs.declared.V3.{V3}
use Rattle.nbody_model.specs.declared.field.Event.{Event}
use Rattle.nbody_model.specs.Covers.{interactions}
use Rattle.nbody_model.specs.Force.{forces}
use Rattle.rank_laws.specs.Protocol.{World, Move, state, happens, enabled, numbered}
use Rattle.rank_laws.specs.Machine.{Message, Rank, machine, start_world}
use Rattle.rank_laws.specs.Runs.{all_needed, IsFinished}
use Rattle.rank_laws.specs.Whole.{Whole, IsWhole, opening, rules_of, ranks, ranks_of, counted_in}
use Rattle.rank_laws.specs.Kept.{given_up}
use Rattle.rank_laws.specs.Told.{told, is_ask, is_reply, walked_size}

-- what is answered in a state, asked for one of so many, and the state after that
pub record Picks : Type 0 where
  pub answer : List ℕ → ℕ → ℕ
  pub after : List ℕ → ℕ → List ℕ

-- each answer is one of so many
abbrev pub IsInRange : Picks → Type 0
IsInRange p = (a : List ℕ) (n : ℕ) → 0 < n → p.answer a n < n

-- the event that is picked: of the enabled ones that of the number answered
abbrev pub picked : Picks → Whole → World Rank Message → List ℕ → Move
picked p w m a = numbered (machine (rules_of w)) m (p.answer a (enabled (machine (rules_of w)) m))

-- from a machine m and a state a of the one who picks these events are picked, until none is enabled; they leave z and b
abbrev pub IsPlayed : Picks → Whole → World Rank Message → List ℕ → List Event → World Rank Message → List ℕ → Type 0
IsPlayed p w m a [] z b = (enabled (machine (rules_of w)) m ≡ 0) × (m ≡ z) × (a ≡ b)
IsPlayed p w m a (e ∷ es) z b =
    (p.answer a (enabled (machine (rules_of w)) m) < enabled (machine (rules_of w)) m) × (e ≡ told w m (picked p w m a))
    × IsPlayed p w (happens (machine (rules_of w)) m (picked p w m a)) (p.after a (enabled (machine (rules_of w)) m)) es z b

-- of two plays from one start the events are one, and so is the end
pub record IsOnePlay (es fs : List Event) (z y : World Rank Message) (b c : List ℕ) : Type 0 where
  pub events : es ≡ fs
  pub worlds : z ≡ y
  pub states : b ≡ c

abbrev pub PlaysAreOne : Type 0
PlaysAreOne = (p : Picks) (w : Whole) (m : World Rank Message) (a : List ℕ) (es fs : List Event) (z y : World Rank Message) (b c : List ℕ) →
    IsPlayed p w m a es z b → IsPlayed p w m a fs y c → IsOnePlay es fs z y b c

-- the events that are picked from a machine and a state on, n at most, and the machine to which they lead
unfoldable pub events_by : Picks → Whole → ℕ → World Rank Message → List ℕ → List Event
events_by p w zero m a = []
events_by p w (suc n) m a =
    let some = enabled (machine (rules_of w)) m in
    let move = picked p w m a in
    let event = told w m move in
    let next = happens (machine (rules_of w)) m move in
    if some == 0 then [] else (event ∷ events_by p w n next (p.after a some))

unfoldable pub end_by : Picks → Whole → ℕ → World Rank Message → List ℕ → World Rank Message
end_by p w zero m a = m
end_by p w (suc n) m a =
    let some = enabled (machine (rules_of w)) m in
    let next = happens (machine (rules_of w)) m (picked p w m a) in
    if some == 0 then m else end_by p w n next (p.after a some)

-- a play with these events to this end
pub record PlaysTo (p : Picks) (w : Whole) (m : World Rank Message) (a : List ℕ) (es : List Event) (z : World Rank Message) : Type 0 where
  pub left : List ℕ
  pub played : IsPlayed p w m a es z left

-- there is a play with these events to this end, and no other
pub record IsThePlay (p : Picks) (w : Whole) (m : World Rank Message) (a : List ℕ) (es : List Event) (z : World Rank Message) : Type 0 where
  pub there : IsInRange p → PlaysTo p w m a es z
  pub only : (fs : List Event) (y : World Rank Message) (b : List ℕ) → IsPlayed p w m a fs y b → (fs ≡ es) × (y ≡ z)

-- where no event is enabled at that end, this is the play
abbrev pub PlaysAreComputed : Type 0
PlaysAreComputed = (p : Picks) (w : Whole) (n : ℕ) (m : World Rank Message) (a : List ℕ) → enabled (machine (rules_of w)) (end_by p w n m a) ≡ 0 → IsThePlay p w m a (events_by p w n m a) (end_by p w n m a)

-- what the owners of the bodies have for them, and how many pairs the ranks have counted
abbrev pub found : Whole → World Rank Message → List V3
found w z = map (λ b. given_up w (w.owner b.id) (state (machine (rules_of w)) z (w.owner b.id)) b) w.bodies

abbrev pub count_found : Whole → World Rank Message → ℕ
count_found w z = sum_by (λ r. length (counted_in w r (state (machine (rules_of w)) z r).done)) (ranks w)

-- what a play from the start comes to: it is finished, it has few events, with one ask and one reply for each cell that a
-- rank needs, the ranks have counted as many as the interactions, so have its walks, and the owners have the forces
pub record PlaysWell (w : Whole) (es : List Event) (z : World Rank Message) : Type 0 where
  pub finished : IsFinished (rules_of w) z
  pub few : length es + ranks_of w ≤ 5 * ranks_of w * ranks_of w + 3 * all_needed (rules_of w)
  pub asks : count_by (λ e. is_ask e.kind) es ≡ all_needed (rules_of w)
  pub replies : count_by (λ e. is_reply e.kind) es ≡ all_needed (rules_of w)
  pub counted : count_found w z ≡ length (interactions (opening w))
  pub forces : found w z ≡ forces w.gravity w.bodies
  pub walked : sum_by walked_size es ≡ length (interactions (opening w))

abbrev pub EveryPlayIsWell : Type 0
EveryPlayIsWell = (p : Picks) (w : Whole) → IsWhole w → (a : List ℕ) (es : List Event) (z : World Rank Message) (b : List ℕ) → IsPlayed p w (start_world (rules_of w)) a es z b → PlaysWell w es z

-- two plays come to the same forces and the same count
pub record FindAlike (v w : Whole) (y z : World Rank Message) : Type 0 where
  pub forces : found v y ≡ found w z
  pub counted : count_found v y ≡ count_found w z

-- any two do over the same bodies and gravity: whatever the ranks, their bounds, the owners and who picks are
abbrev pub NothingShows : Type 0
NothingShows = (p q : Picks) (v w : Whole) → IsWhole v → IsWhole w → v.bodies ≡ w.bodies → v.gravity ≡ w.gravity →
    (a c : List ℕ) (es fs : List Event) (y z : World Rank Message) (b d : List ℕ) →
    IsPlayed p v (start_world (rules_of v)) a es y b → IsPlayed q w (start_world (rules_of w)) c fs z d → FindAlike v w y z

-- a play from the start
pub record HasPlay (p : Picks) (w : Whole) (a : List ℕ) : Type 0 where
  pub events : List Event
  pub last : World Rank Message
  pub left : List ℕ
  pub played : IsPlayed p w (start_world (rules_of w)) a events last left

-- there is one however the events are picked
abbrev pub EveryPickPlays : Type 0
EveryPickPlays = (p : Picks) → IsInRange p → (w : Whole) → IsWhole w → (a : List ℕ) → HasPlay p w a
