-- The machine of ranks that find forces together: what a rank knows and has done, its actions, and its messages by kind and
-- identity. Each rank asks the homes of cells for what its walk needs; pairs wait for replies.
use Rattle.std.specs.Prelude.{ℕ, ◌==◌, Bool, true, false, List, [], ◌∷◌, ◌++◌, cond, map, flat_map, filter, replicate, if◌then◌else◌}
use Rattle.std.specs.List.{list_any, list_all, range_with_len}
use Rattle.std.proofs.Common.{◌&&◌, ◌||◌, not}
use Rattle.cell_space.specs.Cells.{CellData, root_cell, same_cell}
use Rattle.nbody_model.specs.Evolve.{is_empty}
use Rattle.rank_laws.specs.Trees.{all_from, worked, waiting}
use Rattle.rank_laws.specs.Protocol.{Protocol, World}

abbrev pub Pair : Type 0
Pair = CellData × CellData

-- what a message is: entries for a home, sums of forces, cells whose members are asked for, members, shares of bodies; a cell
-- that is asked for, and what the home says of it
pub data Kind : Type 0 where
  Table : Kind
  Sums : Kind
  Want : Kind
  Members : Kind
  Parts : Kind
  Ask : Kind
  Reply : Kind

-- a message by its kind, sender, receiver and cell (asks and replies alone have a cell of their own); these fix what it
-- contains
pub record Message : Type 0 where
  pub kind : Kind
  pub from : ℕ
  pub to : ℕ
  pub cell : CellData

-- a rank: which of its actions it has done; the pairs on its list and those that it worked off; the cells that it asked for
-- and those whose replies came, the last first; the other messages that it got, the last first
pub record Rank : Type 0 where
  pub built : Bool
  pub walked : Bool
  pub added : Bool
  pub shared : Bool
  pub list : List Pair
  pub done : List Pair
  pub asked : List CellData
  pub replies : List CellData
  pub got : List Message

-- what the machine goes by: how many ranks there are; by rank the pairs to begin with and those that replace a pair, which
-- lie less deep; the home of a cell; and the order of cells
pub record Rules : Type 0 where
  pub ranks : ℕ
  pub depth : Pair → ℕ
  pub start : ℕ → List Pair
  pub next : ℕ → Pair → List Pair
  pub home : CellData → ℕ
  pub in_order : List CellData → List CellData

-- a rank before any event
abbrev pub blank : Rank
blank = record { built = false; walked = false; added = false; shared = false; list = []; done = []; asked = []; replies = []; got = [] }

-- kinds as numbers, to be compared
abbrev pub code_of : Kind → ℕ
code_of Table = 0
code_of Sums = 1
code_of Want = 2
code_of Members = 3
code_of Parts = 4
code_of Ask = 5
code_of Reply = 6

abbrev pub same_message : Message → Message → Bool
same_message a b = (code_of a.kind == code_of b.kind) && ((a.from == b.from) && ((a.to == b.to) && same_cell a.cell b.cell))

-- a message without a cell of its own
abbrev pub message : Kind → ℕ → ℕ → Message
message k from to = record { kind = k; from = from; to = to; cell = root_cell }

-- a cell is one of a list
abbrev pub is_one : CellData → List CellData → Bool
is_one c cs = list_any (same_cell c) cs

abbrev pub cells_of : Pair → List CellData
cells_of x = x.0 ∷ x.1 ∷ []

-- a rank makes the tree of its own bodies, works off pairs, adds sums, or shares them
pub data Action : Type 0 where
  Build : Action
  Walk : Action
  Add : Action
  Share : Action
  None : Action

abbrev pub is_some : Action → Bool
is_some Build = true
is_some Walk = true
is_some Add = true
is_some Share = true
is_some None = false

-- the first of four actions that may be done
abbrev pub chosen : Bool → Bool → Bool → Bool → Action
chosen b w a h = if not b then Build else (if w then Walk else (if a then Add else (if h then Share else None)))

module _ (rules : Rules) where
  -- all ranks but one, ascending
  abbrev pub others : ℕ → List ℕ
  others r = filter (λ q. not (q == r)) (range_with_len 0 rules.ranks)

  -- one message of a kind from a rank to each other
  abbrev pub to_all : Kind → ℕ → List Message
  to_all k r = map (λ q. message k r q) (others r)

  -- a rank has that kind from each other rank
  abbrev pub has_all : Kind → ℕ → Rank → Bool
  has_all k r s = list_all (λ q. list_any (same_message (message k q r)) s.got) (others r)

  -- it has built and has the tables of all others: it knows the cells of its home
  abbrev pub ready : ℕ → Rank → Bool
  ready r s = s.built && has_all Table r s

  -- the cells that a rank needs: those of other homes in the pairs that its walk reaches, in order
  unfoldable pub need : ℕ → List CellData
  need r = rules.in_order (filter (λ c. not (rules.home c == r)) (flat_map cells_of (flat_map (all_from rules.depth (rules.next r)) (rules.start r))))

  -- a ready rank knows a cell: it is the home, or the reply has come
  abbrev pub knows : ℕ → List CellData → CellData → Bool
  knows r replies c = (rules.home c == r) || is_one c replies

  abbrev pub knows_both : ℕ → List CellData → Pair → Bool
  knows_both r replies x = knows r replies x.0 && knows r replies x.1

  -- the pairs that a walk goes through: at first those to begin with, later the list
  abbrev pub todo : ℕ → Rank → List Pair
  todo r s = cond s.walked s.list (rules.start r)

  -- those that wait after a walk, and those that it works off
  unfoldable pub list_after : ℕ → Rank → List Pair
  list_after r s = flat_map (waiting rules.depth (rules.next r) (knows_both r s.replies)) (todo r s)

  unfoldable pub done_after : ℕ → Rank → List Pair
  done_after r s = flat_map (worked rules.depth (rules.next r) (knows_both r s.replies)) (todo r s)

  -- an unknown cell on the list that wasn't asked for
  abbrev pub is_fresh : ℕ → Rank → CellData → Bool
  is_fresh r s c = is_one c (flat_map cells_of (list_after r s)) && (not (knows r s.replies c) && not (is_one c s.asked))

  -- these cells, in order
  abbrev pub fresh : ℕ → Rank → List CellData
  fresh r s = filter (is_fresh r s) (need r)

  -- a rank asks the home of a cell
  abbrev pub ask : ℕ → CellData → Message
  ask r c = record { kind = Ask; from = r; to = rules.home c; cell = c }

  -- a rank walks where it is ready, and hasn't walked yet or both cells of some pair on its list are known
  abbrev pub may_walk : ℕ → Rank → Bool
  may_walk r s = ready r s && (not s.walked || list_any (knows_both r s.replies) s.list)

  -- it has walked and no pair is left
  abbrev pub through : Rank → Bool
  through s = s.walked && is_empty s.list

  -- it adds once, with the sums of all others
  abbrev pub may_add : ℕ → Rank → Bool
  may_add r s = (through s && has_all Sums r s) && not s.added

  -- it shares once, with the members of all others
  abbrev pub may_share : ℕ → Rank → Bool
  may_share r s = (s.added && has_all Members r s) && not s.shared

  abbrev pub after_walk : ℕ → Rank → Rank
  after_walk r s = record s { walked = true; list = list_after r s; done = s.done ++ done_after r s; asked = s.asked ++ fresh r s }

  -- what a rank can do next
  unfoldable pub action : ℕ → Rank → Action
  action r s = chosen s.built (may_walk r s) (may_add r s) (may_share r s)

  -- the rank after an action
  abbrev pub after : ℕ → Rank → Action → Rank
  after r s Build = record s { built = true }
  after r s Walk = after_walk r s
  after r s Add = record s { added = true }
  after r s Share = record s { shared = true }
  after r s None = s

  -- what it sends by it: tables; an ask for each fresh cell, and sums once no pair is left; wants; parts
  abbrev pub sent : ℕ → Rank → Action → List Message
  sent r s Build = to_all Table r
  sent r s Walk = map (ask r) (fresh r s) ++ cond (is_empty (list_after r s)) (to_all Sums r) []
  sent r s Add = to_all Want r
  sent r s Share = to_all Parts r
  sent r s None = []

  -- an ask is answered by a reply, and a want by members
  abbrev pub answers_of : Message → Kind → List Message
  answers_of m Ask = record { kind = Reply; from = m.to; to = m.from; cell = m.cell } ∷ []
  answers_of m Want = message Members m.to m.from ∷ []
  answers_of m Table = []
  answers_of m Sums = []
  answers_of m Members = []
  answers_of m Parts = []
  answers_of m Reply = []

  -- only an ask may have to wait, until its receiver is ready
  abbrev pub accepted : Message → Rank → Kind → Bool
  accepted m s Ask = ready m.to s
  accepted m s Want = true
  accepted m s Table = true
  accepted m s Sums = true
  accepted m s Members = true
  accepted m s Parts = true
  accepted m s Reply = true

  -- what a rank keeps of a message
  abbrev pub kept : Message → Rank → Kind → Rank
  kept m s Reply = record s { replies = m.cell ∷ s.replies }
  kept m s Ask = record s { got = m ∷ s.got }
  kept m s Want = record s { got = m ∷ s.got }
  kept m s Table = record s { got = m ∷ s.got }
  kept m s Sums = record s { got = m ∷ s.got }
  kept m s Members = record s { got = m ∷ s.got }
  kept m s Parts = record s { got = m ∷ s.got }

  abbrev pub machine : Protocol Rank Message
  machine = record {
    ranks = rules.ranks;
    blank = blank;
    acts = λ r s. is_some (action r s);
    act = λ r s. after r s (action r s);
    sends = λ r s. sent r s (action r s);
    to = λ m. m.to;
    accepts = λ m s. accepted m s m.kind;
    take = λ m s. kept m s m.kind;
    answers = λ m. answers_of m m.kind;
  }

-- the machine before any event
abbrev pub start_world : Rules → World Rank Message
start_world rules = record { states = replicate rules.ranks blank; mail = [] }
