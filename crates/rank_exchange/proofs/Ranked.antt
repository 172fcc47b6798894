-- What the code keeps of a rank goes with the rank through messages and actions.
use Rattle.std.proofs.Common.{Vec, Global, ◌-◌, ◌≡◌, ℕ, ◌+◌, ◌<◌, ◌≤◌, Bool, true, false, cond, eqb, ◌&&◌, List, [], ◌∷◌, ◌++◌, length, map, reverse, refl, ap, sym, ◌∙◌, arith, subst}
use Rattle.std.specs.Prelude.{Option, Some, None}
use Rattle.std.specs.List.{filter, flat_map, range_with_len}
use Rattle.std.specs.List.Sorted.{IsPermutation}
use Rattle.std.proofs.lemmas.Bool.{and_parts}
use Rattle.std.proofs.lemmas.List.{length-map}
use Rattle.std.proofs.lemmas.List.Sorted.{IsPermutation-cons, IsPermutation-reverse, IsPermutation-sym, IsPermutation-trans}
use Rattle.std.proofs.lemmas.Simd.{map-map}
use Rattle.cell_space.specs.Cells.{CellData}
use Rattle.nbody_model.specs.Bodies.{BodyData}
use Rattle.nbody_model.specs.Force.{node_total}
use Rattle.octree_build.specs.Trees.{IsAlong}
use Rattle.fixed_point.specs.Vectors.{plus, sum_of}
use Rattle.rank_entry_laws.proofs.OwnBodies.{own_bodies}
use Rattle.rank_laws.specs.Homes.{home}
use Rattle.rank_laws.specs.Machine.{Kind, Table, Sums, Want, Members, Parts, Ask, Reply, Message, Rank, Rules, accepted, answers_of, code_of, has_all, kept, machine, message, others, ready}
use Rattle.rank_laws.specs.Whole.{Whole, own, ranks, ranks_of, rules_of}
use Rattle.rank_laws.specs.Contents.{EntryData, Given, Summed, given_to, members_sent, parts_sent, sums_sent, table_sent, wanted}
use Rattle.rank_laws.specs.Kept.{senders}
use Rattle.rank_laws.specs.Runs.{received, unsent}
use Rattle.rank_laws.proofs.Fairness.{rules_fair}
use Rattle.rank_laws.proofs.Machine.{IsGood, IsSteady, left}
use Rattle.rank_laws.proofs.Protocol.{each-get}
use Rattle.rank_laws.proofs.Taken.{first}
use Rattle.home_cells.specs.Found.{IsHomeTable, IsTable}
use Rattle.rank_walk.specs.declared.walker.Walker.{Walker}
use Rattle.rank_walk.specs.Seats.{Seat}
use Rattle.rank_walk.proofs.Carried.{carried}
use Rattle.rank_exchange.specs.declared.due.Due.{Due}
use Rattle.rank_exchange.specs.declared.keyed.Keyed.{Keyed}
use Rattle.rank_exchange.specs.declared.shares.Kept.{Kept}
use Rattle.rank_exchange.specs.Came.{came, home_totals, kept_from}
use Rattle.rank_exchange.specs.Members.{AreOwn}
use Rattle.rank_exchange.specs.Messages.{MessageData, filled, reply_to}
use Rattle.rank_exchange.specs.Moments.{Arrival, Moment, state_at}
use Rattle.rank_exchange.specs.Ranks.{AreDue, AreForces, AreTotals, HasMost, IsAt, IsRank, Keeps, KeepsTable, KeepsWalk, Meets, RankData, told_by}
use Rattle.rank_exchange.proofs.Carried.{came_more, one_told, put_last}
use Rattle.rank_exchange.proofs.Moves.{arrived, few_came, state_arrived}
use Rattle.rank_exchange.proofs.PartsOwed.{from_every}
use Rattle.rank_exchange.proofs.Senders.{is_kept}

-- ---- what is kept for its walk

pub walk_carried : (z : Seat) (s : Rank) (o : Option Walker) → KeepsWalk z s o → (built added shared : Bool) (got : List Message) → KeepsWalk z (record s { built = built; added = added; shared = shared; got = got }) o
walk_carried z s None h built added shared got = record { walked = h.walked; done = h.done; asked = h.asked; replies = h.replies }
walk_carried z s (Some v) h built added shared got = (h.0, carried z s v h.1 built added shared got)

-- ---- a message of a kind

-- what holds where the message is of a kind holds where it is told to be
pub at_kind : (rules : Rules) (s : Rank) (m : Message) (k : Kind) (P : Rank → Type 0) → m.kind ≡ k → P (kept rules (record m { kind = k }) s k) → P (kept rules m s m.kind)
at_kind rules s m k P e h = subst (λ j. P (kept rules (record m { kind = j }) s j)) (sym e) h

sender_kept : (rules : Rules) (s : Rank) (m : Message) (k : Kind) → code_of k < 5 → senders k (kept rules (record m { kind = k }) s k) ≡ m.from ∷ senders k s
sender_kept rules s m Table c = refl
sender_kept rules s m Sums c = refl
sender_kept rules s m Want c = refl
sender_kept rules s m Members c = refl
sender_kept rules s m Parts c = refl
sender_kept rules s m Ask c = absurd (omega (arith, c))
sender_kept rules s m Reply c = absurd (omega (arith, c))

-- one that comes was due
pub one_due : (a : Arrival) (k : Kind) → code_of k < 5 → a.message.kind ≡ k → (due : ℕ) → length (senders k (state_at a.moment)) + 1 + due ≡ ranks_of a.moment.whole → 1 ≤ due
one_due a k c e due h =
    let rules : Rules = rules_of a.moment.whole in
    let s : Rank = state_at a.moment in
    let few : length (senders k (kept (rules_of a.moment.whole) a.message (state_at a.moment) a.message.kind)) + 1 ≤ ranks_of a.moment.whole = subst (λ t. length (senders k t) + 1 ≤ ranks_of a.moment.whole) (state_arrived a) (few_came (arrived a) k c) in
    let there : length (senders k (kept (rules_of a.moment.whole) (record a.message { kind = k }) (state_at a.moment) k)) + 1 ≤ ranks_of a.moment.whole = subst (λ j. length (senders k (kept (rules_of a.moment.whole) (record a.message { kind = j }) (state_at a.moment) j)) + 1 ≤ ranks_of a.moment.whole) e few in
    omega (arith, h, there, ap length (sender_kept (rules_of a.moment.whole) (state_at a.moment) a.message k c))

-- ---- an ask

pub good_arrival : (a : Arrival) → IsGood (rules_of a.moment.whole) a.message
good_arrival a =
    let rules : Rules = rules_of a.moment.whole in
    each-get (machine rules) (unsent rules) (received rules) (left rules) (IsSteady rules) (IsGood rules) (first rules (rules_fair a.moment.whole a.moment.is_whole)) a.moment.world.mail a.place a.message
    (is_kept rules (rules_fair a.moment.whole a.moment.is_whole) a.moment.events a.moment.world a.moment.run).good a.there

-- a rank that has built, and has the entries of all others, has those of all ranks
pub all_told : (m : Moment) → ready (rules_of m.whole) m.rank (state_at m) ≡ true → IsPermutation (ranks m.whole) (told_by m.rank (state_at m))
all_told m e =
    let b : ((state_at m).built ≡ true) × (has_all (rules_of m.whole) Table m.rank (state_at m) ≡ true) = and_parts (state_at m).built (has_all (rules_of m.whole) Table m.rank (state_at m)) e in
    subst (λ t. IsPermutation (ranks m.whole) (cond t (m.rank ∷ senders Table (state_at m)) (senders Table (state_at m)))) (sym b.0)
    (IsPermutation-trans (ranks m.whole) (m.rank ∷ came Table (state_at m)) (m.rank ∷ senders Table (state_at m)) (from_every m Table (omega arith) b.1)
    (IsPermutation-cons m.rank (came Table (state_at m)) (senders Table (state_at m)) (IsPermutation-sym (senders Table (state_at m)) (came Table (state_at m)) (IsPermutation-reverse (senders Table (state_at m))))))

pub table_of_all : (m : Moment) (v : RankData) → IsAt m v → ready (rules_of m.whole) m.rank (state_at m) ≡ true → IsTable m.whole m.rank v.table
table_of_all m v h e = record {
  whole = m.is_whole;
  softenings = m.softenings;
  order = h.most.table.order;
  all = IsPermutation-trans (ranks m.whole) (told_by m.rank (state_at m)) h.most.table.order (all_told m e) h.most.table.all;
  kept = h.most.table.kept;
}

pub table_at_ask : (a : Arrival) (v : RankData) → Meets a Ask v → IsHomeTable a.moment.whole v.table a.message.cell
table_at_ask a v h =
    let here : home a.moment.whole.keys a.message.cell ≡ a.moment.rank = sym ((good_arrival a).asks h.kind).1 ∙ a.to in
    let r : ready (rules_of a.moment.whole) a.message.to (state_at a.moment) ≡ true = sym (ap (accepted (rules_of a.moment.whole) a.message (state_at a.moment)) h.kind) ∙ a.accepted in
    record { table = subst (λ t. IsTable a.moment.whole t v.table) (sym here) (table_of_all a.moment v h.rank (subst (λ t. ready (rules_of a.moment.whole) t (state_at a.moment) ≡ true) a.to r)) }

-- ---- own bodies

pub are_own : (m : Moment) (v : RankData) → IsAt m v → v.sorted ≡ true → AreOwn (own m.whole m.rank) v.along.items
are_own m v h e = record { bodies = own_bodies m.whole m.is_whole m.rank; along = h.most.along e }

-- ---- what is sent to all others

pub sent_to_all : (w : Whole) (k : Kind) (r : ℕ) → map (λ q. filled w (message k r q)) (others (rules_of w) r) ≡ map (filled w) (map (λ q. message k r q) (others (rules_of w) r))
sent_to_all w k r = sym (map-map (filled w) (λ q. message k r q) (others (rules_of w) r))

pub totals_long : (w : Whole) (r : ℕ) → length (home_totals w r) ≡ length (wanted w r)
totals_long w r = length-map (wanted w r) (λ c. record { cell = c; sum = node_total w.gravity w.bodies c })

-- ---- what the code keeps, with a change

module _ (w : Whole) (r : ℕ) (s : Rank) (v : RankData) where
  -- with other messages that came
  pub most_got : (got : List Message) (due : Due) (table : List EntryData) (sums : Vec Summed Global) (members : Vec Kept Global) (parts : Vec Given Global) → HasMost w r s v →
      AreDue w (record s { got = got }) due → KeepsTable w r (record s { got = got }) table →
      sums.items ≡ flat_map (λ q. sums_sent w q r) (came Sums (record s { got = got })) →
      members.items ≡ flat_map (λ q. map (kept_from q) (members_sent w q r)) (came Members (record s { got = got })) →
      parts.items ≡ flat_map (λ q. parts_sent w q r) (came Parts (record s { got = got })) →
      HasMost w r (record s { got = got }) (record v { due = due; table = table; sums = sums; members = members; parts = parts })
  most_got got due table sums members parts h d t a b c = record {
    number = h.number;
    ranks = h.ranks;
    bodies = h.bodies;
    along = h.along;
    built = h.built;
    added = h.added;
    shared = h.shared;
    due = d;
    table = t;
    walk = walk_carried (record { whole = w; rank = r }) s v.walker h.walk s.built s.added s.shared got;
    sums = a;
    members = b;
    parts = c;
    totals = h.totals;
    given = h.given;
  }

  pub same_forces : (got : List Message) → senders Parts (record s { got = got }) ≡ senders Parts s → (forces : List Keyed) → AreForces w r s forces → AreForces w r (record s { got = got }) forces
  same_forces got e forces f = record { climbs = f.climbs; given = λ b. f.given b ∙ ap (λ qs. plus (given_to b.id (parts_sent w r r)) (sum_of (λ h. given_to b.id (parts_sent w h r)) qs)) (sym e) }

  -- with its bodies in order beside
  pub most_sorted : (along : Vec BodyData Global) → IsAlong (own w r) along.items → HasMost w r s v → HasMost w r s (record v { along = along; sorted = true })
  most_sorted along e h = record {
    number = h.number;
    ranks = h.ranks;
    bodies = h.bodies;
    along = λ t. e;
    built = h.built;
    added = h.added;
    shared = h.shared;
    due = h.due;
    table = h.table;
    walk = h.walk;
    sums = h.sums;
    members = h.members;
    parts = h.parts;
    totals = h.totals;
    given = h.given;
  }

  -- with totals
  pub most_added : (totals : Vec Summed Global) → AreTotals w r totals.items → HasMost w r s v → HasMost w r (record s { added = true }) (record v { totals = totals; added = true })
  most_added totals e h = record {
    number = h.number;
    ranks = h.ranks;
    bodies = h.bodies;
    along = h.along;
    built = h.built;
    added = refl;
    shared = h.shared;
    due = record { tables = h.due.tables; sums = h.due.sums; members = h.due.members; parts = h.due.parts };
    table = record { order = h.table.order; all = h.table.all; kept = h.table.kept };
    walk = walk_carried (record { whole = w; rank = r }) s v.walker h.walk s.built true s.shared s.got;
    sums = h.sums;
    members = h.members;
    parts = h.parts;
    totals = λ t. e;
    given = h.given;
  }

  pub rank_added : (totals : Vec Summed Global) → AreTotals w r totals.items → IsRank w r s v → IsRank w r (record s { added = true }) (record v { totals = totals; added = true })
  rank_added totals e h = record { most = most_added totals e h.most; forces = λ t n. let f : AreForces w r s v.forces.items = h.forces t n in record { climbs = f.climbs; given = f.given } }

  -- with its own parts
  pub most_shared : (given : Vec Given Global) → given.items ≡ parts_sent w r r → HasMost w r s v → HasMost w r (record s { shared = true }) (record v { given = given; shared = true })
  most_shared given e h = record {
    number = h.number;
    ranks = h.ranks;
    bodies = h.bodies;
    along = h.along;
    built = h.built;
    added = h.added;
    shared = refl;
    due = record { tables = h.due.tables; sums = h.due.sums; members = h.due.members; parts = h.due.parts };
    table = record { order = h.table.order; all = h.table.all; kept = h.table.kept };
    walk = walk_carried (record { whole = w; rank = r }) s v.walker h.walk s.built s.added true s.got;
    sums = h.sums;
    members = h.members;
    parts = h.parts;
    totals = h.totals;
    given = λ t. e;
  }

  -- with forces
  pub most_forced : (forces : Vec Keyed Global) → HasMost w r s v → HasMost w r s (record v { forces = forces })
  most_forced forces h = record {
    number = h.number;
    ranks = h.ranks;
    bodies = h.bodies;
    along = h.along;
    built = h.built;
    added = h.added;
    shared = h.shared;
    due = h.due;
    table = h.table;
    walk = h.walk;
    sums = h.sums;
    members = h.members;
    parts = h.parts;
    totals = h.totals;
    given = h.given;
  }

-- ---- a message that is kept

module _ (a : Arrival) (v : RankData) where
  abbrev W : Whole
  W = a.moment.whole

  abbrev R : ℕ
  R = a.moment.rank

  abbrev S : Rank
  S = state_at a.moment

  -- the message, of a kind that is told
  abbrev of : Kind → Message
  of k = record a.message { kind = k }

  abbrev Holds : Kind → RankData → Type 0
  Holds k u = IsRank a.moment.whole a.moment.rank (kept (rules_of a.moment.whole) (record a.message { kind = k }) (state_at a.moment) k) u

  keeps : (k : Kind) (u : RankData) → a.message.kind ≡ k → Holds k u → Keeps a u
  keeps k u e h = at_kind (rules_of a.moment.whole) (state_at a.moment) a.message k (λ t. IsRank a.moment.whole a.moment.rank t u) e h

  pub table_taken : Meets a Table v → (entries table : List EntryData) → entries ≡ table_sent W a.message.from R → table ≡ v.table ++ entries → Keeps a (record v { table = table; due = record v.due { tables = v.due.tables - 1 } })
  table_taken h entries table e t = keeps Table _ h.kind (record {
    most = most_got W R S v (of Table ∷ S.got) (record v.due { tables = v.due.tables - 1 }) table v.sums v.members v.parts h.rank.most
        (record { tables = omega (arith, h.rank.most.due.tables, one_due a Table (omega arith) h.kind v.due.tables h.rank.most.due.tables); sums = h.rank.most.due.sums; members = h.rank.most.due.members; parts = h.rank.most.due.parts })
        (record {
          order = h.rank.most.table.order ++ a.message.from ∷ [];
          all = one_told S.built R a.message.from (senders Table S) h.rank.most.table.order h.rank.most.table.all;
          kept = t ∙ ap (λ x. x ++ entries) h.rank.most.table.kept ∙ ap (λ x. flat_map (λ q. table_sent W q R) h.rank.most.table.order ++ x) e ∙ sym (put_last (λ q. table_sent W q R) a.message.from h.rank.most.table.order);
        })
        h.rank.most.sums h.rank.most.members h.rank.most.parts;
    forces = λ x n. same_forces W R S v (of Table ∷ S.got) refl v.forces.items (h.rank.forces x n);
  })

  same_table : (k : Kind) → senders Table (record S { got = of k ∷ S.got }) ≡ senders Table S → KeepsTable W R S v.table → KeepsTable W R (record S { got = of k ∷ S.got }) v.table
  same_table k e t = record { order = t.order; all = subst (λ x. IsPermutation (cond S.built (R ∷ x) x) t.order) (sym e) t.all; kept = t.kept }

  pub sums_taken : Meets a Sums v → (es : List Summed) (sums : Vec Summed Global) → es ≡ sums_sent W a.message.from R → sums.items ≡ v.sums.items ++ es → Keeps a (record v { sums = sums; due = record v.due { sums = v.due.sums - 1 } })
  sums_taken h es sums e t = keeps Sums _ h.kind (record {
    most = most_got W R S v (of Sums ∷ S.got) (record v.due { sums = v.due.sums - 1 }) v.table sums v.members v.parts h.rank.most
        (record { tables = h.rank.most.due.tables; sums = omega (arith, h.rank.most.due.sums, one_due a Sums (omega arith) h.kind v.due.sums h.rank.most.due.sums); members = h.rank.most.due.members; parts = h.rank.most.due.parts })
        (same_table Sums refl h.rank.most.table)
        (t ∙ ap (λ x. x ++ es) h.rank.most.sums ∙ ap (λ x. flat_map (λ q. sums_sent W q R) (came Sums S) ++ x) e ∙ sym (came_more (λ q. sums_sent W q R) a.message.from (senders Sums S)))
        h.rank.most.members h.rank.most.parts;
    forces = λ x n. same_forces W R S v (of Sums ∷ S.got) refl v.forces.items (h.rank.forces x n);
  })

  pub members_taken : Meets a Members v → (es : List Kept) (members : Vec Kept Global) → es ≡ map (kept_from a.message.from) (members_sent W a.message.from R) → members.items ≡ v.members.items ++ es → Keeps a (record v { members = members; due = record v.due { members = v.due.members - 1 } })
  members_taken h es members e t = keeps Members _ h.kind (record {
    most = most_got W R S v (of Members ∷ S.got) (record v.due { members = v.due.members - 1 }) v.table v.sums members v.parts h.rank.most
        (record { tables = h.rank.most.due.tables; sums = h.rank.most.due.sums; members = omega (arith, h.rank.most.due.members, one_due a Members (omega arith) h.kind v.due.members h.rank.most.due.members); parts = h.rank.most.due.parts })
        (same_table Members refl h.rank.most.table)
        h.rank.most.sums
        (t ∙ ap (λ x. x ++ es) h.rank.most.members ∙ ap (λ x. flat_map (λ q. map (kept_from q) (members_sent W q R)) (came Members S) ++ x) e ∙ sym (came_more (λ q. map (kept_from q) (members_sent W q R)) a.message.from (senders Members S)))
        h.rank.most.parts;
    forces = λ x n. same_forces W R S v (of Members ∷ S.got) refl v.forces.items (h.rank.forces x n);
  })

  -- parts, before the forces are made of them
  pub parts_taken : Meets a Parts v → (es : List Given) (parts : Vec Given Global) → es ≡ parts_sent W a.message.from R → parts.items ≡ v.parts.items ++ es →
      HasMost W R (state_at (arrived a)) (record v { parts = parts; due = record v.due { parts = v.due.parts - 1 } })
  parts_taken h es parts e t = subst (λ x. HasMost W R x (record v { parts = parts; due = record v.due { parts = v.due.parts - 1 } })) (sym (state_arrived a))
      (at_kind (rules_of a.moment.whole) (state_at a.moment) a.message Parts (λ x. HasMost W R x (record v { parts = parts; due = record v.due { parts = v.due.parts - 1 } })) h.kind
      (most_got W R S v (of Parts ∷ S.got) (record v.due { parts = v.due.parts - 1 }) v.table v.sums v.members parts h.rank.most
      (record { tables = h.rank.most.due.tables; sums = h.rank.most.due.sums; members = h.rank.most.due.members; parts = omega (arith, h.rank.most.due.parts, one_due a Parts (omega arith) h.kind v.due.parts h.rank.most.due.parts) })
      (same_table Parts refl h.rank.most.table)
      h.rank.most.sums h.rank.most.members
      (t ∙ ap (λ x. x ++ es) h.rank.most.parts ∙ ap (λ x. flat_map (λ q. parts_sent W q R) (came Parts S) ++ x) e ∙ sym (came_more (λ q. parts_sent W q R) a.message.from (senders Parts S)))))

  -- a want and an ask change nothing of it
  pub want_taken : Meets a Want v → Keeps a v
  want_taken h = keeps Want v h.kind (record {
    most = most_got W R S v (of Want ∷ S.got) v.due v.table v.sums v.members v.parts h.rank.most
        (record { tables = h.rank.most.due.tables; sums = h.rank.most.due.sums; members = h.rank.most.due.members; parts = h.rank.most.due.parts })
        (same_table Want refl h.rank.most.table) h.rank.most.sums h.rank.most.members h.rank.most.parts;
    forces = λ x n. same_forces W R S v (of Want ∷ S.got) refl v.forces.items (h.rank.forces x n);
  })

  pub ask_taken : Meets a Ask v → Keeps a v
  ask_taken h = keeps Ask v h.kind (record {
    most = most_got W R S v (of Ask ∷ S.got) v.due v.table v.sums v.members v.parts h.rank.most
        (record { tables = h.rank.most.due.tables; sums = h.rank.most.due.sums; members = h.rank.most.due.members; parts = h.rank.most.due.parts })
        (same_table Ask refl h.rank.most.table) h.rank.most.sums h.rank.most.members h.rank.most.parts;
    forces = λ x n. same_forces W R S v (of Ask ∷ S.got) refl v.forces.items (h.rank.forces x n);
  })

-- what is answered

pub ask_answered : (a : Arrival) (v : RankData) → Meets a Ask v → (asker : ℕ) (cell : CellData) → a.message.from ≡ asker → a.message.cell ≡ cell → (sent : MessageData) → sent ≡ filled a.moment.whole (reply_to v.number asker cell) →
    sent ∷ [] ≡ map (filled a.moment.whole) (answers_of (rules_of a.moment.whole) a.message a.message.kind)
ask_answered a v h asker cell f e sent p =
    ap (λ x. x ∷ []) (p
    ∙ ap (λ q. filled a.moment.whole (reply_to q asker cell)) (h.rank.most.number ∙ sym a.to)
    ∙ ap (λ q. filled a.moment.whole (reply_to a.message.to q cell)) (sym f)
    ∙ ap (λ c. filled a.moment.whole (reply_to a.message.to a.message.from c)) (sym e))
    ∙ ap (λ k. map (filled a.moment.whole) (answers_of (rules_of a.moment.whole) a.message k)) (sym h.kind)

pub want_answered : (a : Arrival) (v : RankData) → Meets a Want v → (home : ℕ) → a.message.from ≡ home → (sent : MessageData) → sent ≡ filled a.moment.whole (message Members v.number home) →
    sent ∷ [] ≡ map (filled a.moment.whole) (answers_of (rules_of a.moment.whole) a.message a.message.kind)
want_answered a v h home f sent p =
    ap (λ x. x ∷ []) (p
    ∙ ap (λ q. filled a.moment.whole (message Members q home)) (h.rank.most.number ∙ sym a.to)
    ∙ ap (λ q. filled a.moment.whole (message Members a.message.to q)) (sym f))
    ∙ ap (λ k. map (filled a.moment.whole) (answers_of (rules_of a.moment.whole) a.message k)) (sym h.kind)

pub none_answered : (a : Arrival) (k : Kind) → a.message.kind ≡ k → (answers_of (rules_of a.moment.whole) a.message k ≡ []) → [] ≡ map (filled a.moment.whole) (answers_of (rules_of a.moment.whole) a.message a.message.kind)
none_answered a k e n = ap (map (filled a.moment.whole)) (sym n) ∙ ap (λ j. map (filled a.moment.whole) (answers_of (rules_of a.moment.whole) a.message j)) (sym e)
