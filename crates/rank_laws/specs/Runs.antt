-- What holds of every run of the machine of ranks.
use Rattle.std.specs.Prelude.{◌≡◌, ◌<◌, ◌≤◌, ℕ, ◌+◌, ◌*◌, ◌==◌, not, true, List, [], ◌∷◌, ◌++◌, cond, filter, flat_map, length, map, sum_by}
use Rattle.std.specs.List.{count_by, range_with_len}
use Rattle.cell_space.specs.Cells.{CellData, same_cell}
use Rattle.rank_laws.specs.Trees.{IsFalling}
use Rattle.rank_laws.specs.Protocol.{World, Move, IsRun, may, enabled, numbered, state, delivered}
use Rattle.rank_laws.specs.Machine.{Kind, Table, Sums, Want, Parts, Ask, Reply, code_of, same_message, answers_of, need, to_all, ask, through, blank, Message, Rank, Rules, is_one, machine, start_world}

-- rules are fair: what replaces a pair lies less deep, homes are ranks, and a list in order has the same cells, each once
pub record IsFair (rules : Rules) : Type 0 where
  pub falls : (r : ℕ) → IsFalling rules.depth (rules.next r)
  pub home_in : (c : CellData) → rules.home c < rules.ranks
  pub in_order : (c : CellData) (cs : List CellData) → is_one c (rules.in_order cs) ≡ is_one c cs
  pub once : (c : CellData) (cs : List CellData) → sum_by (λ d. cond {A = ℕ} (same_cell c d) 1 0) (rules.in_order cs) ≤ 1

-- every rank has shared, and the mail is empty
pub record IsFinished (rules : Rules) (w : World Rank Message) : Type 0 where
  pub shared : (r : ℕ) → r < rules.ranks → (state (machine rules) w r).shared ≡ true
  pub mail : w.mail ≡ []

-- ---- the messages of a machine, and where they are

module _ (rules : Rules) where
  abbrev pub each_with_answers : List Message → List Message
  each_with_answers ms = flat_map (λ m. m ∷ answers_of rules m m.kind) ms

  -- what a rank has still to send of its own: its answers not among them
  abbrev pub unsent : ℕ → Rank → List Message
  unsent r s =
      cond s.built [] (to_all rules Table r)
      ++ (cond (through rules s) [] (to_all rules Sums r) ++ (cond s.added [] (to_all rules Want r) ++ (cond s.shared [] (to_all rules Parts r) ++ map (ask rules r) (filter (λ c. not (is_one c s.asked)) (need rules r)))))

  -- what was delivered to a rank
  abbrev pub received : ℕ → Rank → List Message
  received r s = map (λ c. record { kind = Reply; from = rules.home c; to = r; cell = c }) s.replies ++ s.got

  -- each table, sums, want, members and parts of a rank for another, and the ask and the reply of each rank for each cell that
  -- it needs
  abbrev pub all_messages : List Message
  all_messages = each_with_answers (flat_map (λ r. unsent r blank) (range_with_len 0 rules.ranks))

  -- the unsent messages: those that ranks have still to send, with their answers, and the answers of those in the mail
  abbrev pub all_unsent : World Rank Message → List Message
  all_unsent w = each_with_answers (flat_map (λ r. unsent r (state (machine rules) w r)) (range_with_len 0 rules.ranks)) ++ flat_map (λ m. answers_of rules m m.kind) w.mail

  -- the delivered ones
  abbrev pub all_received : World Rank Message → List Message
  all_received w = flat_map (λ r. received r (state (machine rules) w r)) (range_with_len 0 rules.ranks)

  -- how many cells the ranks need, together
  abbrev pub all_needed : ℕ
  all_needed = sum_by (λ r. length (need rules r)) (range_with_len 0 rules.ranks)

-- from the start these events may happen, and lead to this state
abbrev pub Runs : Rules → List Move → World Rank Message → Type 0
Runs rules events w = IsRun (machine rules) (start_world rules) events w

-- ---- what holds

-- with R ranks, and A cells that they need, no run has more than 5R^2 - R + 3A events
abbrev pub IsBounded : Type 0
IsBounded = (rules : Rules) → IsFair rules → (events : List Move) (w : World Rank Message) → Runs rules events w → length events + rules.ranks ≤ 5 * rules.ranks * rules.ranks + 3 * all_needed rules

-- where no event is enabled the machine is finished
abbrev pub GoesOn : Type 0
GoesOn = (rules : Rules) → IsFair rules → (events : List Move) (w : World Rank Message) → Runs rules events w → enabled (machine rules) w ≡ 0 → IsFinished rules w

-- where the machine is finished no event is enabled
abbrev pub EndsAll : Type 0
EndsAll = (rules : Rules) → (events : List Move) (w : World Rank Message) → Runs rules events w → IsFinished rules w → enabled (machine rules) w ≡ 0

-- each number below the number of enabled events is that of an enabled event
abbrev pub IsNumbered : Type 0
IsNumbered = (rules : Rules) (w : World Rank Message) (n : ℕ) → n < enabled (machine rules) w → may (machine rules) w (numbered (machine rules) w n) ≡ true

-- no two messages are one
abbrev pub MessagesDiffer : Type 0
MessagesDiffer = (rules : Rules) → IsFair rules → (m : Message) → count_by (same_message m) (all_messages rules) ≤ 1

-- at each moment of a run each message is unsent, in the mail or delivered, exactly one of these: any sum
abbrev pub KeepsMessages : Type 0
KeepsMessages = (rules : Rules) → IsFair rules → (events : List Move) (w : World Rank Message) → Runs rules events w → (g : Message → ℕ) →
    sum_by g (all_unsent rules w) + sum_by g w.mail + sum_by g (all_received rules w) ≡ sum_by g (all_messages rules)

abbrev pub is_of : Kind → Message → ℕ
is_of k m = cond (code_of m.kind == code_of k) 1 0

-- the events of a finished run deliver each message once: any sum; A asks and A replies are among them
pub record DeliversEach (rules : Rules) (events : List Move) : Type 0 where
  pub each : (g : Message → ℕ) → sum_by g (delivered (machine rules) (start_world rules) events) ≡ sum_by g (all_messages rules)
  pub asks : sum_by (is_of Ask) (delivered (machine rules) (start_world rules) events) ≡ all_needed rules
  pub replies : sum_by (is_of Reply) (delivered (machine rules) (start_world rules) events) ≡ all_needed rules

abbrev pub EventsDeliverEach : Type 0
EventsDeliverEach = (rules : Rules) → IsFair rules → (events : List Move) (w : World Rank Message) → Runs rules events w → enabled (machine rules) w ≡ 0 → DeliversEach rules events
