-- The entries of a table are those of own nodes; what they tell of a cell is what a reply says.
use Rattle.std.proofs.Common.{◌≡◌, ℕ, ◌+◌, ◌^◌, ◌<◌, ◌≤◌, Bool, true, false, cond, ◌&&◌, ltb, List, [], ◌∷◌, ◌++◌, take, drop, length, sum_by, get_or, refl, ap, sym, ◌∙◌, subst, arith, Option, Some, None}
use Rattle.std.specs.Bool.{⊤}
use Rattle.std.specs.List.{filter, flat_map, AllByRecursion}
use Rattle.std.specs.List.Sorted.{IsPermutation}
use Rattle.std.proofs.lemmas.Bool.{and_parts, ltb-true, or_parts}
use Rattle.std.proofs.lemmas.List.{take_more, take-append-drop}
use Rattle.std.proofs.lemmas.List.Sums.{sum_by-cons}
use Rattle.cell_space.specs.Cells.{CellData, contains, same_cell, place}
use Rattle.cell_space.proofs.Cells.{same_cell-exact}
use Rattle.nbody_model.specs.Bodies.{BodyData}
use Rattle.nbody_model.specs.Nodes.{positions_of, members, is_node}
use Rattle.model_laws.proofs.Among.{each-flat_map, each-map, each-filter}
use Rattle.model_laws.proofs.Pairs.{all_among}
use Rattle.node_moments.specs.Sums.{RawData, raw_of}
use Rattle.node_moments.specs.Joined.{joined}
use Rattle.node_moments.specs.Conditions.{IsSumOf, IsOfNode}
use Rattle.node_moments.proofs.Joined.{joined_raw}
use Rattle.rank_laws.specs.Homes.{home}
use Rattle.rank_laws.specs.Whole.{Whole, IsWhole, own, ranks}
use Rattle.rank_laws.specs.Contents.{EntryData, entry_of, is_told, own_nodes, table_sent, reply_sent}
use Rattle.rank_entry_laws.specs.Given.{HasSoftenings, at_one, is_around, seen_from, together}
use Rattle.rank_entry_laws.proofs.OwnTree.{is_own, IsOwnNode}
use Rattle.rank_entry_laws.proofs.Given.{seen}
use Rattle.rank_entry_laws.proofs.Read.{homes_know}
use Rattle.home_cells.specs.Found.{IsHomeTable, part, gathered, count_of, mass_in, IsSummed, MayJoin}
use Rattle.home_cells.proofs.Permuted.{IsPermutation-flat_map}
use Rattle.home_cells.proofs.Together.{gathered_both, gathered_push, gathered_free, count_both, mass_both}
use Rattle.home_cells.proofs.Sole.{tells_of, tables_tell, raw_cell, sum_of_node}

-- an entry is that of an own node of some rank
pub record IsEntryOf (w : Whole) (e : EntryData) : Type 0 where
  pub rank : ℕ
  pub cell : CellData
  pub node : IsOwnNode w rank cell
  pub is : e ≡ entry_of w (own w rank) cell

all_sent : (w : Whole) (r to : ℕ) → AllByRecursion (IsEntryOf w) (table_sent w r to)
all_sent w r to =
    each-map (IsOwnNode w r) (IsEntryOf w) (entry_of w (own w r)) (λ d n. record { rank = r; cell = d; node = n; is = refl }) (filter (is_told w r to) (own_nodes w r))
    (each-filter (IsOwnNode w r) (is_told w r to) (own_nodes w r) (all_among (IsOwnNode w r) (own_nodes w r) (λ d i. is_own w r d i)))

each_rank : (rs : List ℕ) → AllByRecursion (λ r. ⊤) rs
each_rank [] = tt
each_rank (r ∷ rs) = (tt, each_rank rs)

some_is : (a b : EntryData) → ◌≡◌ {A = Option EntryData} (Some a) (Some b) → a ≡ b
some_is a b e = ap (λ (t : Option EntryData). from t) e
  where
    from : Option EntryData → EntryData
    from None = a
    from (Some x) = x

none_is : (a : EntryData) → ◌≡◌ {A = Option EntryData} None (Some a) → ⊥
none_is a e = cc

-- ---- sums

summed_none : (soft : List ℕ) (c : CellData) → IsSummed soft c None
summed_none soft c = record { members = []; sums = λ e h. absurd (none_is e h) }

summed_both : (soft : List ℕ) (c : CellData) (x y : Option EntryData) → IsSummed soft c x → IsSummed soft c y → IsSummed soft c (together x y)
summed_both soft c None y p q = q
summed_both soft c (Some a) None p q = p
summed_both soft c (Some a) (Some b) p q = record {
  members = p.members ++ q.members;
  sums = λ e h.
      ap (λ (t : EntryData). t.raw) (sym (some_is _ e h))
      ∙ (λ i. joined (p.sums a refl i) (q.sums b refl i))
      ∙ joined_raw soft c p.members q.members;
}

kept_less : {X : Type 0} (t : X → Bool) (f : X → ℕ) (xs : List X) → sum_by f (filter t xs) ≤ sum_by f xs
kept_less t f [] = omega arith
kept_less t f (x ∷ xs) = by (t x) (kept_less t f xs)
  where
    by : (b : Bool) → sum_by f (filter t xs) ≤ sum_by f xs → sum_by f (cond b (x ∷ filter t xs) (filter t xs)) ≤ sum_by f (x ∷ xs)
    by true r = omega (arith, r, sum_by-cons f x xs, sum_by-cons f x (filter t xs))
    by false r = omega (arith, r, sum_by-cons f x xs)

kept_fewer : {X : Type 0} (t : X → Bool) (xs : List X) → length (filter t xs) ≤ length xs
kept_fewer t [] = omega arith
kept_fewer t (x ∷ xs) = by (t x) (kept_fewer t xs)
  where
    by : (b : Bool) → length (filter t xs) ≤ length xs → length (cond b (x ∷ filter t xs) (filter t xs)) ≤ length (x ∷ xs)
    by true r = omega (arith, r)
    by false r = omega (arith, r)

pub all_entries : (w : Whole) (es : List EntryData) (c : CellData) → IsHomeTable w es c → AllByRecursion (IsEntryOf w) es
all_entries w es c t = subst (AllByRecursion (IsEntryOf w)) (sym t.table.kept) (each-flat_map (λ r. ⊤) (IsEntryOf w) (λ r. table_sent w r (home w.keys c)) (λ r u. all_sent w r (home w.keys c)) t.table.order (each_rank t.table.order))

-- its sums are those of a node
pub node_of : (w : Whole) → IsWhole w → HasSoftenings w → (e : EntryData) → IsEntryOf w e → IsOfNode e.raw
node_of w whole h e k = record {
  setup = w.gravity.setup;
  all = own w k.rank;
  sums = subst (IsSumOf w.gravity.setup (own w k.rank)) (sym (ap (λ (y : EntryData). y.raw) k.is)) (sum_of_node w whole h k.rank k.cell k.node.node);
}

module _ (w : Whole) (es : List EntryData) (c : CellData) (t : IsHomeTable w es c) (low : c.level ≤ 32) where
  abbrev soft : List ℕ
  soft = w.gravity.setup.soft

  abbrev whole : IsWhole w
  whole = t.table.whole

  abbrev lengths : HasSoftenings w
  lengths = t.table.softenings

  -- all together tell what a reply says
  pub all_tell : gathered c es ≡ reply_sent w c
  all_tell =
      ap (gathered c) t.table.kept
      ∙ sym (gathered_free c (flat_map (λ r. table_sent w r (home w.keys c)) (ranks w)) (flat_map (λ r. table_sent w r (home w.keys c)) t.table.order) (IsPermutation-flat_map (λ r. table_sent w r (home w.keys c)) (ranks w) t.table.order t.table.all))
      ∙ tables_tell w whole lengths c low (ranks w)
      ∙ homes_know w whole lengths c low

  -- ---- what one tells

  seen_is : (e : EntryData) (k : IsEntryOf w e) → is_around c e ≡ true → seen_from c e ≡ entry_of w (own w k.rank) c
  seen_is e k a =
      let r : ℕ = k.rank in
      let d : CellData = k.cell in
      let x : RawData = raw_of soft d (members (own w r) d) in
      let b : is_around c (entry_of w (own w k.rank) k.cell) ≡ true = ap (is_around c) (sym k.is) ∙ a in
      let u : (ltb x.cell.level c.level ≡ true) × ((at_one x && contains c (place x.lo)) ≡ true) = and_parts (ltb x.cell.level c.level) (at_one x && contains c (place x.lo)) b in
      let v : (at_one x ≡ true) × (contains c (place x.lo) ≡ true) = and_parts (at_one x) (contains c (place x.lo)) u.1 in
      let lv : x.cell.level ≡ d.level = ap (λ (y : CellData). y.level) (raw_cell w whole lengths r d) in
      ap (seen_from c) k.is ∙ seen w whole lengths r d c k.node.node v.0 (omega (arith, ltb-true x.cell.level c.level u.0, lv)) low v.1

  part_is : (e : EntryData) (k : IsEntryOf w e) (x : EntryData) → part c e ≡ Some x → x.raw ≡ raw_of soft c (members (own w k.rank) c)
  part_is e k x = by (same_cell e.raw.cell c) refl
    where
      around : (b : Bool) → is_around c e ≡ b → cond b (Some (seen_from c e)) None ≡ Some x → x.raw ≡ raw_of soft c (members (own w k.rank) c)
      around true u h = ap (λ (y : EntryData). y.raw) (sym (some_is (seen_from c e) x h) ∙ seen_is e k u)
      around false u h = absurd (none_is x h)

      by : (b : Bool) → same_cell e.raw.cell c ≡ b → cond b (Some e) (cond (is_around c e) (Some (seen_from c e)) None) ≡ Some x → x.raw ≡ raw_of soft c (members (own w k.rank) c)
      by true u h =
          let q : k.cell ≡ c = sym (raw_cell w whole lengths k.rank k.cell) ∙ ap (λ (y : EntryData). y.raw.cell) (sym k.is) ∙ (same_cell-exact e.raw.cell c).0 u in
          ap (λ (y : EntryData). y.raw) (sym (some_is e x h) ∙ k.is) ∙ ap (λ y. raw_of soft y (members (own w k.rank) y)) q
      by false u h = around (is_around c e) refl h

  part_summed : (e : EntryData) → IsEntryOf w e → IsSummed w.gravity.setup.soft c (part c e)
  part_summed e k = record { members = members (own w k.rank) c; sums = part_is e k }

  all_summed : (xs : List EntryData) → AllByRecursion (IsEntryOf w) xs → IsSummed w.gravity.setup.soft c (gathered c xs)
  all_summed [] a = summed_none soft c
  all_summed (e ∷ xs) a = summed_both soft c (part c e) (gathered c xs) (part_summed e a.0) (all_summed xs a.1)

  -- ---- how much all tell

  count_reply : count_of (reply_sent w c) ≤ 1048576
  unfolding raw_of
  count_reply = by (is_node (positions_of w.bodies) c)
    where
      by : (b : Bool) → count_of (cond b (Some (entry_of w w.bodies c)) None) ≤ 1048576
      by true = omega (arith, kept_fewer (λ (b : BodyData). contains c b.motion.pos) w.bodies, whole.bodies.valid.few)
      by false = omega arith

  mass_reply : mass_in (reply_sent w c) ≤ 2 ^ 32
  unfolding raw_of
  mass_reply = by (is_node (positions_of w.bodies) c)
    where
      by : (b : Bool) → mass_in (cond b (Some (entry_of w w.bodies c)) None) ≤ 2 ^ 32
      by true = omega (arith, kept_less (λ (b : BodyData). contains c b.motion.pos) (λ (b : BodyData). b.mass) w.bodies, whole.bodies.valid.light)
      by false = omega arith

  -- of the entries in any order, what one more tells may be joined to what those before it tell
  pub may_join : (xs : List EntryData) → IsPermutation es xs → AllByRecursion (IsEntryOf w) xs → (k : ℕ) (d : EntryData) → k < length xs → AllByRecursion (IsEntryOf w) (take k xs) → IsEntryOf w (get_or xs k d) → MayJoin (gathered c (take k xs)) (part c (get_or xs k d))
  may_join xs p a k d h front one =
      let here : gathered c (take (k + 1) xs) ≡ together (gathered c (take k xs)) (part c (get_or xs k d)) = ap (gathered c) (take_more xs k d h) ∙ gathered_push c (take k xs) (get_or xs k d) in
      let all : together (together (gathered c (take k xs)) (part c (get_or xs k d))) (gathered c (drop (k + 1) xs)) ≡ reply_sent w c =
      ap (λ t. together t (gathered c (drop (k + 1) xs))) (sym here) ∙ sym (gathered_both c (take (k + 1) xs) (drop (k + 1) xs)) ∙ ap (gathered c) (take-append-drop (k + 1) xs) ∙ sym (gathered_free c es xs p) ∙ all_tell in
      let x : Option EntryData = gathered c (take k xs) in
      let y : Option EntryData = part c (get_or xs k d) in
      let z : Option EntryData = gathered c (drop (k + 1) xs) in
      record {
        soft = soft;
        cell = c;
        first = all_summed (take k xs) front;
        second = part_summed (get_or xs k d) one;
        few = omega (arith, count_reply, ap count_of (sym all), count_both (together x y) z, count_both x y);
        light = omega (arith, mass_reply, ap mass_in (sym all), mass_both (together x y) z, mass_both x y);
      }

-- an entry that doesn't tell of a cell gives nothing
pub part_none : (c : CellData) (e : EntryData) → tells_of c e ≡ false → part c e ≡ None
part_none c e h = let p : (same_cell e.raw.cell c ≡ false) × (is_around c e ≡ false) = or_parts (same_cell e.raw.cell c) (is_around c e) h in λ i. cond (p.0 i) (Some e) (cond (p.1 i) (Some (seen_from c e)) None)
