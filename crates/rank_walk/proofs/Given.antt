-- What a pair gives, by places.
use Rattle.std.proofs.Common.{◌≡◌, ◌≢◌, ℕ, zero, suc, ◌+◌, ◌-◌, ◌<◌, ◌≤◌, Bool, true, false, cond, ◌||◌, List, [], ◌∷◌, ◌++◌, map, length, reverse, get_or, refl, ap, sym, ◌∙◌, arith, append_assoc, ◌⊎◌, inl, inr}
use Rattle.std.specs.List.{filter, flat_map, AllByRecursion}
use Rattle.std.proofs.lemmas.List.{map-append, get_or_append_left}
use Rattle.std.proofs.lemmas.Bool.{false≢true, cases_lt}
use Rattle.cell_space.specs.Cells.{AreDisjoint, CellData, InBox, contains, root_cell, same_cell}
use Rattle.cell_space.proofs.Cells.{root_contains, same_cell-exact}
use Rattle.nbody_model.specs.Covers.{Opening, leaf, final}
use Rattle.nbody_model.specs.Walks.{kids, down, over_both, over_pairs, gives, has_member}
use Rattle.model_laws.proofs.Among.{Witness, each-among, each-append, each-weaker, each-flat_map, each-filter}
use Rattle.model_laws.proofs.Apart.{AreApart, LiesIn, EachTwo, kids_two, down_lie, inner}
use Rattle.model_laws.proofs.Leaves.{shallow}
use Rattle.rank_laws.specs.Homes.{concerned}
use Rattle.std.specs.List.{range_with_len}
use Rattle.rank_laws.specs.Machine.{Pair}
use Rattle.rank_laws.specs.Whole.{IsWhole, Whole, opening, next_of}
use Rattle.rank_laws.proofs.Counted.{sound}
use Rattle.rank_walk.specs.declared.places.Places.{Places}
use Rattle.rank_walk.specs.Slots.{SlotData, no_slot, cell_at_place, cells_in, cells, meets, row, both, same}
use Rattle.rank_walk.specs.declared.heard.Heard.{Heard}
use Rattle.rank_walk.specs.Seats.{Seat, is_home, stands}
use Rattle.rank_walk.specs.Tables.{IsTable, IsIn, IsGrown, IsDown, IsPushed, known_at}
use Rattle.rank_walk.specs.Walked.{IsListed, Same, Apart}
use Rattle.rank_walk.proofs.Lists.{length_map, at_map}
use Rattle.rank_walk.proofs.Making.{longer_twice}
use Rattle.rank_walk.proofs.Opened.{some_member}

-- ---- growth

length_append : {X : Type 0} (xs ys : List X) → length (xs ++ ys) ≡ length xs + length ys
length_append [] ys = omega arith
length_append (x ∷ xs) ys = omega (arith, length_append xs ys)

module _ (z : Seat) (h0 h1 : Heard) (g : IsGrown z h0 h1) where
  abbrev ss : List SlotData
  ss = h0.slots.items

  abbrev ts : List SlotData
  ts = h1.slots.items

  pub grown_long : length ts ≡ length ss + length g.more
  grown_long = omega (arith, length_map (λ (s : SlotData). s.cell) ts, length_map (λ (s : SlotData). s.cell) ss, ap length g.cells, length_append (cells_in ss) g.more)

  pub cell_kept : (i : ℕ) → i < length ss → cell_at_place ts i ≡ cell_at_place ss i
  cell_kept i h = sym (at_map (λ (s : SlotData). s.cell) no_slot ts i) ∙ ap (λ cs. get_or cs i root_cell) g.cells
      ∙ get_or_append_left (cells_in ss) g.more root_cell i (omega (arith, h, length_map (λ (s : SlotData). s.cell) ss)) ∙ at_map (λ (s : SlotData). s.cell) no_slot ss i

  pub pair_kept : (x : Places) → IsIn ss x → cells ts x ≡ cells ss x
  pair_kept x h = λ i. (cell_kept x.a h.first i, cell_kept x.b h.second i)

  pub in_kept : (x : Places) → IsIn ss x → IsIn ts x
  in_kept x h = record { first = omega (arith, h.first, grown_long); second = omega (arith, h.second, grown_long) }

  pub cells_kept : (xs : List Places) → AllByRecursion (IsIn ss) xs → map (cells ts) xs ≡ map (cells ss) xs
  cells_kept [] a = refl
  cells_kept (x ∷ xs) a = λ i. pair_kept x a.0 i ∷ cells_kept xs a.1 i

  pub all_in_kept : (xs : List Places) → AllByRecursion (IsIn ss) xs → AllByRecursion (IsIn ts) xs
  all_in_kept xs a = each-weaker (IsIn ss) (IsIn ts) in_kept xs a

-- ---- pairs of ranges

module _ (ss : List SlotData) where
  row_cells : (a : ℕ) (bs : List ℕ) → map (cells ss) (row a bs) ≡ flat_map (λ e. (cell_at_place ss a, e) ∷ []) (map (cell_at_place ss) bs)
  row_cells a [] = refl
  row_cells a (b ∷ bs) = ap (λ t. (cell_at_place ss a, cell_at_place ss b) ∷ t) (row_cells a bs)

  pub both_cells : (ds es : List ℕ) → map (cells ss) (both ds es) ≡ over_both (λ d e. (d, e) ∷ []) (map (cell_at_place ss) ds) (map (cell_at_place ss) es)
  both_cells [] es = refl
  both_cells (d ∷ ds) es = map-append (cells ss) (row d es) (both ds es) ∙ (λ i. row_cells d es i ++ both_cells ds es i)

  pub same_cells : (ds : List ℕ) → map (cells ss) (same ds) ≡ over_pairs (λ d. (d, d) ∷ []) (λ d e. (d, e) ∷ []) (map (cell_at_place ss) ds)
  same_cells [] = refl
  same_cells (d ∷ ds) = ap (λ t. (cell_at_place ss d, cell_at_place ss d) ∷ t) (map-append (cells ss) (row d ds) (same ds) ∙ (λ i. row_cells d ds i ++ same_cells ds i))

  each-range : (n f m : ℕ) → f + n ≤ m → AllByRecursion (λ k. k < m) (range_with_len f n)
  each-range zero f m h = tt
  each-range (suc n) f m h = (omega (arith, h), each-range n (f + 1) m (omega (arith, h)))

  row_in : (a : ℕ) (bs : List ℕ) → a < length ss → AllByRecursion (λ k. k < length ss) bs → AllByRecursion (IsIn ss) (row a bs)
  row_in a [] h u = tt
  row_in a (b ∷ bs) h u = (record { first = h; second = u.0 }, row_in a bs h u.1)

  both_in : (ds es : List ℕ) → AllByRecursion (λ k. k < length ss) ds → AllByRecursion (λ k. k < length ss) es → AllByRecursion (IsIn ss) (both ds es)
  both_in [] es u v = tt
  both_in (d ∷ ds) es u v = each-append (IsIn ss) (row d es) (both ds es) (row_in d es u.0 v) (both_in ds es u.1 v)

  same_in : (ds : List ℕ) → AllByRecursion (λ k. k < length ss) ds → AllByRecursion (IsIn ss) (same ds)
  same_in [] u = tt
  same_in (d ∷ ds) u = (record { first = u.0; second = u.0 }, each-append (IsIn ss) (row d ds) (same ds) (row_in d ds u.0 u.1) (same_in ds u.1))

module _ (z : Seat) (ss : List SlotData) (table : IsTable z ss) where
  met : (x : Places) → IsIn ss x → meets ss x ≡ concerned z.whole.keys z.rank (cells ss x)
  met x h = λ i. (table.each x.a h.first).mine i || (table.each x.b h.second).mine i

  filter_step : (x : Places) (xs : List Places) (b : Bool) (rest : List Pair) → map (cells ss) (filter (meets ss) xs) ≡ rest → map (cells ss) (cond b (x ∷ filter (meets ss) xs) (filter (meets ss) xs)) ≡ cond b (cells ss x ∷ rest) rest
  filter_step x xs true rest e = ap (λ t. cells ss x ∷ t) e
  filter_step x xs false rest e = e

  met_cells : (xs : List Places) → AllByRecursion (IsIn ss) xs → map (cells ss) (filter (meets ss) xs) ≡ filter (concerned z.whole.keys z.rank) (map (cells ss) xs)
  met_cells [] a = refl
  met_cells (x ∷ xs) a = filter_step x xs (meets ss x) (filter (concerned z.whole.keys z.rank) (map (cells ss) xs)) (met_cells xs a.1) ∙ ap (λ b. cond b (cells ss x ∷ filter (concerned z.whole.keys z.rank) (map (cells ss) xs)) (filter (concerned z.whole.keys z.rank) (map (cells ss) xs))) (met x a.0)

  pushed_by : (x : Pair) (old new all : List Places) → new ≡ old ++ reverse (filter (meets ss) all) → AllByRecursion (IsIn ss) all → map (cells ss) all ≡ gives (opening z.whole) x → IsPushed z ss x old new
  pushed_by x old new all e a c = record { given = filter (meets ss) all; stack = e; within = each-filter (IsIn ss) (meets ss) all a; cells = met_cells all a ∙ ap (filter (concerned z.whole.keys z.rank)) c }

  gives_parted : (x : Pair) → same_cell x.0 x.1 ≡ true → leaf (opening z.whole) x.0 ≡ false → gives (opening z.whole) x ≡ over_pairs (λ d. (d, d) ∷ []) (λ d e. (d, e) ∷ []) (kids (opening z.whole) x.0)
  unfolding gives
  gives_parted x s l =
      let parts : List Pair = over_pairs (λ d. (d, d) ∷ []) (λ d e. (d, e) ∷ []) (kids (opening z.whole) x.0) in
      let later : List Pair = over_both (λ d e. (d, e) ∷ []) (down (opening z.whole) x.0) (down (opening z.whole) x.1) in
      λ i. cond (s i) (cond (l i) [] parts) (cond (final (opening z.whole) x.0 x.1) [] later)

  gives_between : (x : Pair) → same_cell x.0 x.1 ≡ false → final (opening z.whole) x.0 x.1 ≡ false → gives (opening z.whole) x ≡ over_both (λ d e. (d, e) ∷ []) (down (opening z.whole) x.0) (down (opening z.whole) x.1)
  unfolding gives
  gives_between x s f =
      let parts : List Pair = over_pairs (λ d. (d, d) ∷ []) (λ d e. (d, e) ∷ []) (kids (opening z.whole) x.0) in
      let later : List Pair = over_both (λ d e. (d, e) ∷ []) (down (opening z.whole) x.0) (down (opening z.whole) x.1) in
      λ i. cond (s i) (cond (leaf (opening z.whole) x.0) [] parts) (cond (f i) [] later)

  pub pushed_same : (c d : CellData) (old new : List Places) (from to : ℕ) → c ≡ d → leaf (opening z.whole) c ≡ false → IsDown z ss c from to → new ≡ old ++ reverse (filter (meets ss) (same (range_with_len from (to - from)))) → IsPushed z ss (c, d) old new
  pushed_same c d old new from to e l h p =
      pushed_by (c, d) old new (same (range_with_len from (to - from))) p (same_in ss (range_with_len from (to - from)) (each-range ss (to - from) from (length ss) (omega (arith, h.up, h.within))))
      (same_cells ss (range_with_len from (to - from)) ∙ ap (over_pairs (λ d. (d, d) ∷ []) (λ d e. (d, e) ∷ [])) (h.cells ∙ ap (λ b. cond b (c ∷ []) (kids (opening z.whole) c)) l) ∙ sym (gives_parted (c, d) ((same_cell-exact c d).1 e) l))

  pub pushed_both : (c d : CellData) (old new : List Places) (from to low high : ℕ) → same_cell c d ≡ false → final (opening z.whole) c d ≡ false → IsDown z ss c from to → IsDown z ss d low high →
      new ≡ old ++ reverse (filter (meets ss) (both (range_with_len from (to - from)) (range_with_len low (high - low)))) → IsPushed z ss (c, d) old new
  pushed_both c d old new from to low high s f h k p =
      pushed_by (c, d) old new (both (range_with_len from (to - from)) (range_with_len low (high - low))) p
      (both_in ss (range_with_len from (to - from)) (range_with_len low (high - low)) (each-range ss (to - from) from (length ss) (omega (arith, h.up, h.within))) (each-range ss (high - low) low (length ss) (omega (arith, k.up, k.within))))
      (both_cells ss (range_with_len from (to - from)) (range_with_len low (high - low)) ∙ (λ i. over_both (λ d e. (d, e) ∷ []) (h.cells i) (k.cells i)) ∙ sym (gives_between (c, d) s f))

-- cells at different places differ
pub places_differ : (z : Seat) (ss : List SlotData) → IsTable z ss → (x : Places) → IsIn ss x → x.a ≢ x.b → same_cell (cell_at_place ss x.a) (cell_at_place ss x.b) ≡ false
places_differ z ss table x h n = by (same_cell (cell_at_place ss x.a) (cell_at_place ss x.b)) refl
  where
    by : (b : Bool) → same_cell (cell_at_place ss x.a) (cell_at_place ss x.b) ≡ b → b ≡ false
    by true e = absurd (n (table.distinct x.a x.b h.first h.second ((same_cell-exact (cell_at_place ss x.a) (cell_at_place ss x.b)).0 e)))
    by false e = refl

pub grown_twice : (z : Seat) (h k l : Heard) → IsGrown z h k → IsGrown z k l → IsGrown z h l
grown_twice z h k l g m = record {
  table = m.table;
  more = g.more ++ m.more;
  cells = m.cells ∙ ap (λ t. t ++ m.more) g.cells ∙ append_assoc (cells_in h.slots.items) g.more m.more;
  kept = λ i low. m.kept i (omega (arith, low, grown_long z h k g)) ∙ g.kept i low;
  fresh = fresh;
  longer = longer_twice g.more m.more h k l g.longer m.longer;
}
  where
    fresh : (i : ℕ) → length h.slots.items ≤ i → i < length l.slots.items → known_at l.slots.items i ≡ is_home z (cell_at_place l.slots.items i)
    fresh i low high = by (cases_lt i (length k.slots.items))
      where
        by : (i < length k.slots.items) ⊎ (length k.slots.items ≤ i) → known_at l.slots.items i ≡ is_home z (cell_at_place l.slots.items i)
        by (inl u) = m.kept i u ∙ g.fresh i low u ∙ ap (is_home z) (sym (cell_kept z k l m i u))
        by (inr u) = m.fresh i u high

range_kept : (f g : ℕ → CellData) (n from m : ℕ) → from + n ≤ m → ((i : ℕ) → i < m → f i ≡ g i) → map f (range_with_len from n) ≡ map g (range_with_len from n)
range_kept f g zero from m h e = refl
range_kept f g (suc n) from m h e = λ i. e from (omega (arith, h)) i ∷ range_kept f g n (from + 1) m (omega (arith, h)) e i

pub down_kept : (z : Seat) (h k : Heard) (c : CellData) (from to : ℕ) → IsGrown z h k → IsDown z h.slots.items c from to → IsDown z k.slots.items c from to
down_kept z h k c from to g d = record {
  up = d.up;
  within = omega (arith, d.within, grown_long z h k g);
  cells = range_kept (cell_at_place k.slots.items) (cell_at_place h.slots.items) (to - from) from (length h.slots.items) (omega (arith, d.up, d.within)) (cell_kept z h k g) ∙ d.cells;
}

-- ---- what a listed pair gives is listed

each-pairs : (R : CellData → CellData → Type 0) (Q : Pair → Type 0) → ((d : CellData) → Q (d, d)) → ((d e : CellData) → R d e → Q (d, e)) → (ds : List CellData) → EachTwo R ds → AllByRecursion Q (over_pairs (λ d. (d, d) ∷ []) (λ d e. (d, e) ∷ []) ds)
each-pairs R Q u v [] a = tt
each-pairs R Q u v (d ∷ ds) a = (u d, each-append Q (flat_map (λ e. (d, e) ∷ []) ds) (over_pairs (λ d. (d, d) ∷ []) (λ d e. (d, e) ∷ []) ds) (each-flat_map (R d) Q (λ e. (d, e) ∷ []) (λ e h. (v d e h, tt)) ds a.0) (each-pairs R Q u v ds a.1))

-- a cell that stands and hasn't all in common with another one that stands has members
pub member_of : (w : Whole) → IsWhole w → (c d : CellData) → stands w c ≡ true → stands w d ≡ true → same_cell c d ≡ false → AreDisjoint c d → has_member (opening w) c ≡ true
member_of w whole c d m n e a = by (has_member (opening w) c) refl m
  where
    rooted : (b : Bool) → has_member (opening w) d ≡ b → (b || same_cell d root_cell) ≡ true → c ≡ root_cell → has_member (opening w) c ≡ true
    rooted true f k r =
        let p : Witness (contains d) (opening w).positions = some_member (opening w) d f in
        let at_root : contains root_cell p.it ≡ true = root_contains p.it (each-among InBox p.it (opening w).positions (sound w whole).in_box p.«in») in
        absurd (a.apart p.it (ap (λ t. contains t p.it) r ∙ at_root) p.passes)
    rooted false f k r = absurd (false≢true (sym e ∙ (same_cell-exact c d).1 (r ∙ sym ((same_cell-exact d root_cell).0 k))))

    by : (b : Bool) → has_member (opening w) c ≡ b → (b || same_cell c root_cell) ≡ true → has_member (opening w) c ≡ true
    by true f k = f
    by false f k = rooted (has_member (opening w) d) refl n ((same_cell-exact c root_cell).0 k)

pub disjoint_turned : (c d : CellData) → AreDisjoint c d → AreDisjoint d c
disjoint_turned c d a = record { apart = λ p u v. a.apart p v u }

pub differ_turned : (c d : CellData) → same_cell c d ≡ false → same_cell d c ≡ false
differ_turned c d e = by (same_cell d c) refl
  where
    by : (b : Bool) → same_cell d c ≡ b → b ≡ false
    by true f = absurd (false≢true (sym e ∙ (same_cell-exact c d).1 (sym ((same_cell-exact d c).0 f))))
    by false f = refl

pub listed_next : (z : Seat) → IsWhole z.whole → (x : Pair) → stands z.whole x.0 ≡ true → stands z.whole x.1 ≡ true → IsListed x → AllByRecursion IsListed (next_of z.whole z.rank x)
unfolding gives
listed_next z whole x m n h = each-filter IsListed (concerned z.whole.keys z.rank) (gives o x) (by (same_cell x.0 x.1) (leaf o x.0) (final o x.0 x.1) refl refl)
  where
    o : Opening
    o = opening z.whole

    apart : same_cell x.0 x.1 ≡ false → IsListed x → AreApart o x.0 x.1
    apart e (Same s) = absurd (false≢true (sym e ∙ (same_cell-exact x.0 x.1).1 s))
    apart e (Apart d) = record { first = member_of z.whole whole x.0 x.1 m n e d; second = member_of z.whole whole x.1 x.0 n m (differ_turned x.0 x.1 e) (disjoint_turned x.0 x.1 d); apart = d.apart }

    by : (s l f : Bool) → same_cell x.0 x.1 ≡ s → leaf o x.0 ≡ l →
        AllByRecursion IsListed (cond s (cond l [] (over_pairs (λ d. (d, d) ∷ []) (λ d e. (d, e) ∷ []) (kids o x.0))) (cond f [] (over_both (λ d e. (d, e) ∷ []) (down o x.0) (down o x.1))))
    by true true f e u = tt
    by true false f e u = each-pairs (AreApart o) IsListed (λ d. Same refl) (λ d e' a. Apart (record { apart = a.apart })) (kids o x.0) (kids_two o x.0 (shallow o x.0 u))
    by false l true e u = tt
    by false l false e u = each-flat_map (LiesIn o x.0) IsListed (λ d. flat_map (λ e. (d, e) ∷ []) (down o x.1))
        (λ d p. each-flat_map (LiesIn o x.1) IsListed (λ e. (d, e) ∷ []) (λ e' q. (Apart (record { apart = (inner o x.0 x.1 d e' (apart e h) p q).apart }), tt)) (down o x.1) (down_lie o x.1 (apart e h).second)) (down o x.0) (down_lie o x.0 (apart e h).first)
