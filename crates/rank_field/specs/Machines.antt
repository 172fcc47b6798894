-- A machine of ranks as the code keeps it, and what its calls come to.
use Rattle.std.specs.Prelude.{◌≡◌, ◌≢◌, ◌≤◌, ◌<◌, ◌++◌, ◌⊎◌, ℕ, Bool, true, false, List, [], length, map, slice_index_or}
use Rattle.std.specs.List.{range_with_len, remove}
use Rattle.nbody_model.specs.declared.field.Event.{Event}
use Rattle.nbody_model.specs.Bodies.{BodyData}
use Rattle.nbody_model.specs.Covers.{interactions}
use Rattle.nbody_model.specs.Fields.{FieldData}
use Rattle.nbody_model.specs.Force.{forces}
use Rattle.rank_laws.specs.Protocol.{World, Move, Comes, acting, coming, enabled, happens, may, numbered, state}
use Rattle.rank_laws.specs.Machine.{Message, Rank, action, blank, is_some, machine, ready, start_world}
use Rattle.rank_laws.specs.Runs.{Runs}
use Rattle.rank_laws.specs.Whole.{Whole, IsWhole, opening, own, ranks, ranks_of, rules_of}
use Rattle.rank_laws.specs.Owners.{handed_to}
use Rattle.rank_laws.specs.Told.{told}
use Rattle.rank_curve_laws.specs.Along.{keys_along}
use Rattle.rank_entry_laws.specs.Given.{HasSoftenings}
use Rattle.rank_exchange.specs.Messages.{MessageData, filled}
use Rattle.rank_exchange.specs.Moments.{Moment, PairsAreSmall}
use Rattle.rank_exchange.specs.Ranks.{IsRank, RankData}
use Rattle.rank_mail.specs.Mails.{MailData}
use Rattle.rank_field.specs.declared.machine.Machine.{Machine as Code}

-- what the code keeps of a machine
abbrev pub MachineData : Type 0
MachineData = Code

-- ranks can find forces over this whole, and a run of their machine leads to this state
pub record RunsTo (w : Whole) (z : World Rank Message) : Type 0 where
  pub events : List Move
  pub is_whole : IsWhole w
  pub softenings : HasSoftenings w
  pub along : w.keys ≡ keys_along w.keys.bounds
  pub small : PairsAreSmall w
  pub few : ranks_of w ≤ 256
  pub run : Runs (rules_of w) events z

-- the moment of one of the ranks in that state
abbrev pub moment_of : (w : Whole) (z : World Rank Message) → RunsTo w z → (r : ℕ) → r < ranks_of w → Moment
moment_of w z h r within = record {
  whole = w;
  events = h.events;
  world = z;
  rank = r;
  is_whole = h.is_whole;
  softenings = h.softenings;
  along = h.along;
  small = h.small;
  few = h.few;
  run = h.run;
  within = within;
}

-- how many events are enabled in a state, and the one of a number
abbrev pub enabled_in : Whole → World Rank Message → ℕ
enabled_in w z = enabled (machine (rules_of w)) z

abbrev pub move_of : Whole → World Rank Message → ℕ → Move
move_of w z k = numbered (machine (rules_of w)) z k

-- the mail in a state: its messages, and of each rank whether it is ready
pub record HoldsMail (w : Whole) (z : World Rank Message) (mail : MailData) : Type 0 where
  pub messages : mail.messages ≡ map (filled w) z.mail
  pub all : length mail.ready ≡ ranks_of w
  pub each : (r : ℕ) → r < ranks_of w → slice_index_or mail.ready r false ≡ ready (rules_of w) r (state (machine (rules_of w)) z r)

-- what the code keeps is the machine of a whole in a state to which a run led: its ranks, the mail, what forces are found by,
-- the bounds, the owner of each body; and no call of it failed
pub record IsMachine (w : Whole) (z : World Rank Message) (v : MachineData) : Type 0 where
  pub run : RunsTo w z
  pub ranks : length v.ranks.items ≡ ranks_of w
  pub each : (r : ℕ) (d : RankData) → r < ranks_of w → IsRank w r (state (machine (rules_of w)) z r) (slice_index_or v.ranks.items r d)
  pub mail : HoldsMail w z v.mail
  pub gravity : w.gravity ≡ v.kit.now
  pub bounds : w.keys.bounds ≡ v.bounds
  pub owners : v.owners.items ≡ map (λ b. w.owner b.id) w.bodies
  pub lasts : v.spent ≡ false

-- the machine of a whole before any event
abbrev pub IsStarted : Whole → MachineData → Type 0
IsStarted w v = IsMachine w (start_world (rules_of w)) v

-- ---- the start

-- what each of so many owners is handed
abbrev pub all_handed : List BodyData → List ℕ → ℕ → List (List BodyData)
all_handed bodies owners n = map (handed_to bodies owners) (range_with_len 0 n)

-- these are the bodies of each rank
abbrev pub AreOwn : Whole → List (List BodyData) → Type 0
AreOwn w lists = lists ≡ map (own w) (ranks w)

-- all ranks, before any event
pub record AreBlank (w : Whole) (vs : List RankData) : Type 0 where
  pub all : length vs ≡ ranks_of w
  pub each : (r : ℕ) (d : RankData) → r < ranks_of w → IsRank w r blank (slice_index_or vs r d)

-- ---- what its calls work on

-- these are the ranks of a whole in a state to which a run led
pub record HoldsRanks (w : Whole) (z : World Rank Message) (ranks : List RankData) : Type 0 where
  pub run : RunsTo w z
  pub all : length ranks ≡ ranks_of w
  pub each : (r : ℕ) (d : RankData) → r < ranks_of w → IsRank w r (state (machine (rules_of w)) z r) (slice_index_or ranks r d)

-- a rank can act in a state; the ranks that can, and the places of the messages that may come
abbrev pub acts_in : Whole → World Rank Message → ℕ → Bool
acts_in w z r = is_some (action (rules_of w) r (state (machine (rules_of w)) z r))

abbrev pub acting_in : Whole → World Rank Message → List ℕ
acting_in w z = acting (machine (rules_of w)) z

abbrev pub coming_in : Whole → World Rank Message → List ℕ
coming_in w z = coming (machine (rules_of w)) z

-- ---- events

-- an event of this number is enabled
pub record CanFire (w : Whole) (z : World Rank Message) (k : ℕ) (v : MachineData) : Type 0 where
  pub machine : IsMachine w z v
  pub enabled : k < enabled_in w z

-- messages were sent, and perhaps one was taken: all others lie as they did
pub record KeepsMail (old new : List MessageData) : Type 0 where
  pub sent : List MessageData
  pub kept : (new ≡ old ++ sent) ⊎ ((place : ℕ) × (new ≡ remove old place ++ sent))

-- an event may happen
pub record CanHappen (w : Whole) (z : World Rank Message) (x : Move) (v : MachineData) : Type 0 where
  pub may : may (machine (rules_of w)) z x ≡ true
  pub machine : IsMachine w z v

-- an event was done and told: the ranks but the one that it names are as they were, and so is the other mail
pub record HasHappened (w : Whole) (z : World Rank Message) (x : Move) (e : Event) (old new : MachineData) : Type 0 where
  pub event : e ≡ told w z x
  pub machine : IsMachine w (happens (machine (rules_of w)) z x) new
  pub others : (q : ℕ) (d : RankData) → q ≢ e.to → slice_index_or new.ranks.items q d ≡ slice_index_or old.ranks.items q d
  pub mail : KeepsMail old.mail.messages new.mail.messages

-- the message of this number comes, of those that may
pub record CanDeliver (w : Whole) (z : World Rank Message) (k : ℕ) (v : MachineData) : Type 0 where
  pub machine : IsMachine w z v
  pub comes : k < length (coming_in w z)

-- it came
abbrev pub HasDelivered : Whole → World Rank Message → ℕ → Event → MachineData → MachineData → Type 0
HasDelivered w z k e old new = HasHappened w z (Comes (slice_index_or (coming_in w z) k 0)) e old new

-- the event of a number was done
abbrev pub HasFired : Whole → World Rank Message → ℕ → Event → MachineData → MachineData → Type 0
HasFired w z k e old new = HasHappened w z (move_of w z k) e old new

-- no event is enabled any more
pub record HasFinished (w : Whole) (z : World Rank Message) (v : MachineData) : Type 0 where
  pub machine : IsMachine w z v
  pub ended : enabled_in w z ≡ 0

-- these are the forces on the bodies of a whole and the number of its interactions, without events
pub record IsGathered (w : Whole) (f : FieldData) : Type 0 where
  pub forces : f.forces ≡ forces w.gravity w.bodies
  pub interactions : f.interactions ≡ length (interactions (opening w))
  pub events : f.events ≡ []
