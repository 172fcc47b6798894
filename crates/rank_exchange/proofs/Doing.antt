-- What the code keeps of a rank once it has built or walked.
use Rattle.std.proofs.Common.{◌≡◌, ℕ, ◌<◌, ◌≤◌, Bool, true, false, eqb, not, ◌||◌, cond, List, [], ◌∷◌, ◌++◌, length, map, refl, ap, sym, ◌∙◌, subst}
use Rattle.std.specs.Prelude.{Option}
use Rattle.std.specs.List.{AllByRecursion, filter, flat_map, list_any, range_with_len}
use Rattle.std.specs.List.Sorted.{IsPermutation}
use Rattle.std.proofs.lemmas.Bool.{and_parts}
use Rattle.cell_space.specs.Cells.{CellData}
use Rattle.nbody_model.specs.Bodies.{BodyData}
use Rattle.nbody_model.specs.Tables.{Gravity}
use Rattle.home_cells.specs.Found.{IsTable}
use Rattle.rank_curve_laws.specs.Along.{keys_along}
use Rattle.rank_laws.specs.Machine.{Build, Pair, Rank, Table, Walk, after, chosen, action, knows_both, may_add, may_share, may_walk, message, others, ready, sent}
use Rattle.rank_laws.specs.Contents.{EntryData, own_nodes, table_sent}
use Rattle.rank_laws.specs.Kept.{senders}
use Rattle.rank_laws.specs.Whole.{Whole, own, rules_of}
use Rattle.rank_laws.proofs.Machine.{chosen-walk}
use Rattle.rank_walk.specs.declared.walker.Walker.{Walker}
use Rattle.rank_exchange.specs.declared.post.Post.{Post}
use Rattle.rank_exchange.specs.Built.{AreOfRank, IsBuilt}
use Rattle.rank_exchange.specs.Messages.{MessageData, filled}
use Rattle.rank_exchange.specs.Moments.{Moment, action_at, state_at}
use Rattle.rank_exchange.specs.Posts.{gravity_of}
use Rattle.rank_exchange.specs.Ranks.{AreForces, AttendsTo, IsRank, KeepsTable, KeepsWalk, RankData, seat_at}
use Rattle.rank_exchange.specs.Walks.{WalksNext}
use Rattle.rank_exchange.proofs.Carried.{one_last, put_last}
use Rattle.rank_exchange.proofs.Ranked.{sent_to_all, table_of_all, walk_carried}
use Rattle.rank_exchange.proofs.Readied.{serves_at}

-- ---- what the code keeps, with a change

module _ (w : Whole) (r : ℕ) (s : Rank) (v : RankData) where
  own_last : s.built ≡ false → (entries table : List EntryData) → entries ≡ table_sent w r r → table ≡ v.table ++ entries → KeepsTable w r s v.table → KeepsTable w r (record s { built = true }) table
  own_last e entries table f t k = record {
    order = k.order ++ r ∷ [];
    all = one_last r (senders Table s) k.order (subst (λ b. IsPermutation (cond b (r ∷ senders Table s) (senders Table s)) k.order) e k.all);
    kept = t ∙ ap (λ x. x ++ entries) k.kept ∙ ap (λ x. flat_map (λ q. table_sent w q r) k.order ++ x) f ∙ sym (put_last (λ q. table_sent w q r) r k.order);
  }

  -- with its own entries behind those that came
  rank_built : s.built ≡ false → (entries table : List EntryData) → entries ≡ table_sent w r r → table ≡ v.table ++ entries → IsRank w r s v → IsRank w r (record s { built = true }) (record v { table = table; built = true })
  rank_built e entries table f t h = record {
    most = record {
      number = h.most.number;
      ranks = h.most.ranks;
      bodies = h.most.bodies;
      along = h.most.along;
      built = refl;
      added = h.most.added;
      shared = h.most.shared;
      due = record { tables = h.most.due.tables; sums = h.most.due.sums; members = h.most.due.members; parts = h.most.due.parts };
      table = own_last e entries table f t h.most.table;
      walk = walk_carried (record { whole = w; rank = r }) s v.walker h.most.walk true s.added s.shared s.got;
      sums = h.most.sums;
      members = h.most.members;
      parts = h.most.parts;
      totals = h.most.totals;
      given = h.most.given;
    };
    forces = λ x n. let f : AreForces w r s v.forces.items = h.forces x n in record { climbs = f.climbs; given = f.given };
  }

  -- with another walk
  pub rank_walked : (walked : Bool) (list done : List Pair) (asked replies : List CellData) (o : Option Walker) →
      KeepsWalk (record { whole = w; rank = r }) (record s { walked = walked; list = list; done = done; asked = asked; replies = replies }) o → IsRank w r s v →
      IsRank w r (record s { walked = walked; list = list; done = done; asked = asked; replies = replies }) (record v { walker = o })
  rank_walked walked list done asked replies o k h = record {
    most = record {
      number = h.most.number;
      ranks = h.most.ranks;
      bodies = h.most.bodies;
      along = h.most.along;
      built = h.most.built;
      added = h.most.added;
      shared = h.most.shared;
      due = record { tables = h.most.due.tables; sums = h.most.due.sums; members = h.most.due.members; parts = h.most.due.parts };
      table = record { order = h.most.table.order; all = h.most.table.all; kept = h.most.table.kept };
      walk = k;
      sums = h.most.sums;
      members = h.most.members;
      parts = h.most.parts;
      totals = h.most.totals;
      given = h.most.given;
    };
    forces = λ x n. let f : AreForces w r s v.forces.items = h.forces x n in record { climbs = f.climbs; given = f.given };
  }

-- ---- a rank that builds

chosen_build : (b w a h : Bool) → chosen b w a h ≡ Build → b ≡ false
chosen_build false w a h e = refl
chosen_build true true a h e = cc
chosen_build true false true h e = cc
chosen_build true false false true e = cc
chosen_build true false false false e = cc

not_built : (m : Moment) → action_at m ≡ Build → (state_at m).built ≡ false
unfolding action
not_built m e = chosen_build (state_at m).built (may_walk (rules_of m.whole) m.rank (state_at m)) (may_add (rules_of m.whole) m.rank (state_at m)) (may_share (rules_of m.whole) m.rank (state_at m)) e

module _ (m : Moment) (g : Gravity) (b : List ℕ) (v : RankData) (h : AttendsTo m Build g b v) where
  pub are_of_rank : (bodies : List BodyData) → bodies ≡ v.own.items → (soft : List ℕ) → g.setup.soft ≡ soft → AreOfRank m.whole v.number bodies soft b
  are_of_rank bodies f soft e = record {
    whole = m.is_whole;
    softenings = m.softenings;
    own = f ∙ h.attends.rank.most.bodies ∙ ap (own m.whole) (sym h.attends.rank.most.number);
    soft = ap (λ (t : Gravity). t.setup.soft) h.attends.gravity ∙ e;
    keys = m.along ∙ ap keys_along h.attends.bounds;
  }

  module _ (to : List ℕ) (many : ℕ) (messages : List MessageData) (entries : List EntryData) (d : IsBuilt m.whole v.number to many messages entries) where
    pub keeps_built : (table : List EntryData) → table ≡ v.table ++ entries → IsRank m.whole m.rank (after (rules_of m.whole) m.rank (state_at m) Build) (record v { table = table; built = true })
    keeps_built table t = rank_built m.whole m.rank (state_at m) v (not_built m h.next) entries table (subst (λ r. entries ≡ table_sent m.whole r r) h.attends.rank.most.number d.kept) t h.attends.rank

    pub size_built : many ≡ length (own_nodes m.whole m.rank)
    size_built = d.size ∙ ap (λ r. length (own_nodes m.whole r)) h.attends.rank.most.number

    pub sent_built : to ≡ filter (λ q. not (eqb q v.number)) (range_with_len 0 v.ranks) → messages ≡ map (filled m.whole) (sent (rules_of m.whole) m.rank (state_at m) Build)
    sent_built e =
        d.sent
        ∙ ap (map (λ q. filled m.whole (message Table v.number q))) (e ∙ ap (λ n. filter (λ q. not (eqb q v.number)) (range_with_len 0 n)) h.attends.rank.most.ranks)
        ∙ ap (λ r. map (λ q. filled m.whole (message Table r q)) (others (rules_of m.whole) r)) h.attends.rank.most.number
        ∙ sent_to_all m.whole Table m.rank

-- ---- a rank that walks

walks_ready : (m : Moment) → action_at m ≡ Walk → ready (rules_of m.whole) m.rank (state_at m) ≡ true
unfolding action
walks_ready m e = (and_parts (ready (rules_of m.whole) m.rank (state_at m)) (not (state_at m).walked || list_any (knows_both (rules_of m.whole) m.rank (state_at m).replies) (state_at m).list)
    (chosen-walk (state_at m).built (may_walk (rules_of m.whole) m.rank (state_at m)) (may_add (rules_of m.whole) m.rank (state_at m)) (may_share (rules_of m.whole) m.rank (state_at m)) e)).0

module _ (m : Moment) (g : Gravity) (b : List ℕ) (v : RankData) (h : AttendsTo m Walk g b v) where
  pub walks_next : (p : Post) → p.number ≡ v.number → g ≡ gravity_of p → p.bounds.now ≡ b → p.table.now ≡ v.table → WalksNext m p v.walker
  walks_next p n e f t = record {
    post = serves_at m p (n ∙ h.attends.rank.most.number) (h.attends.gravity ∙ e) (h.attends.bounds ∙ sym f) (subst (IsTable m.whole m.rank) (sym t) (table_of_all m v h.attends.rank (walks_ready m h.next)));
    walks = h.next;
    kept = h.attends.rank.most.walk;
  }

  pub keeps_walked : (o : Option Walker) → KeepsWalk (seat_at m) (after (rules_of m.whole) m.rank (state_at m) Walk) o → IsRank m.whole m.rank (after (rules_of m.whole) m.rank (state_at m) Walk) (record v { walker = o })
  keeps_walked o k = let s : Rank = after (rules_of m.whole) m.rank (state_at m) Walk in rank_walked m.whole m.rank (state_at m) v s.walked s.list s.done s.asked s.replies o k h.attends.rank
