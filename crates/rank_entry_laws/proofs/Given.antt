-- What the entries of a rank give for a cell.
use Rattle.std.proofs.Common.{◌≡◌, ℕ, zero, suc, ◌<◌, ◌≤◌, Bool, true, false, cond, ◌&&◌, eqb, ltb, List, [], ◌∷◌, ◌++◌, map, refl, ap, sym, ◌∙◌, arith, ◌⊎◌, inl, inr, Some, None}
use Rattle.std.specs.List.{filter}
use Rattle.std.proofs.lemmas.Bool.{false≢true, and_parts, and_from, or_left, or_right, eqb-true, eq-eqb, lt-ltb, ltb-true, ne_eqb, cases_eq}
use Rattle.cell_space.specs.Cells.{Position, InBox, CellData, corner, contains, child, digit, below, same_cell, place}
use Rattle.cell_space.proofs.Cells.{both_equal, same_cell-exact, contains_child, digit_below}
use Rattle.cell_space.proofs.Nested.{nested, corner_contained}
use Rattle.nbody_model.specs.Bodies.{BodyData}
use Rattle.nbody_model.specs.Nodes.{positions_of, members, is_node, is_leaf}
use Rattle.nbody_model.specs.Moments.{moments}
use Rattle.model_laws.proofs.Among.{Among, among-kept, among-filter, among-map, each-among}
use Rattle.node_moments.specs.Sums.{RawData, raw_of, least, greatest, at_x, at_y, at_z}
use Rattle.node_moments.specs.Shifted.{shifted}
use Rattle.node_moments.specs.Conditions.{IsSumOf}
use Rattle.node_moments.proofs.Nodes.{moments_are}
use Rattle.node_moments.proofs.Extremes.{min_of, max_of}
use Rattle.node_moments.proofs.Shifts.{shifts}
use Rattle.rank_laws.specs.Homes.{home, in_span}
use Rattle.rank_laws.specs.Whole.{Whole, IsWhole, own}
use Rattle.rank_laws.specs.Contents.{EntryData, filled, entry_of, inside_leaf, own_nodes, is_told, table_sent}
use Rattle.rank_laws.proofs.ByIds.{filter_on}
use Rattle.rank_entry_laws.specs.Given.{HasSoftenings, at_one, is_around, seen_from, first_of, given, GivesOwnBodies}
use Rattle.rank_entry_laws.proofs.OwnBodies.{own_bodies, own_kinds}
use Rattle.rank_entry_laws.proofs.OwnTree.{FromMap, Of, among-mapped, among-append, BodyIn, body_in, node_from, own_node, is_own, LeafAround, leaf_around, spanned}

-- ---- what stands at one place

module _ (w : Whole) (whole : IsWhole w) (h : HasSoftenings w) (r : ℕ) where
  abbrev pub ps : List Position
  ps = positions_of (own w r)

  abbrev pub raw : CellData → RawData
  raw d = raw_of w.gravity.setup.soft d (members (own w r) d)

  raw_cell : (d : CellData) → (raw d).cell ≡ d
  unfolding raw_of
  raw_cell d = refl

  sum_of_node : (d : CellData) → is_node ps d ≡ true → IsSumOf w.gravity.setup (own w r) (raw d)
  unfolding raw_of
  sum_of_node d n = record { bodies = own_bodies w whole r; kinds = own_kinds w h r; softenings = h.softenings; node = n; is = refl }

  one_place : (d : CellData) → is_node ps d ≡ true → at_one (raw d) ≡ is_leaf ps d
  unfolding raw_of moments
  one_place d n = ap (λ m. m.leaf) (moments_are w.gravity.setup (own w r) (raw d) (sum_of_node d n))

  at_lo : (d : CellData) → at_one (raw d) ≡ true → (b : BodyData) → Among b (own w r) → contains d b.motion.pos ≡ true → b.motion.pos ≡ place (raw d).lo
  unfolding raw_of
  at_lo d e b i k =
      let ms : List BodyData = members (own w r) d in
      let m : Among b ms = among-filter (λ (b : BodyData). contains d b.motion.pos) b (own w r) i k in
      let u = and_parts (eqb (least at_x ms) (greatest at_x ms)) (eqb (least at_y ms) (greatest at_y ms) && eqb (least at_z ms) (greatest at_z ms)) e in
      let v = and_parts (eqb (least at_y ms) (greatest at_y ms)) (eqb (least at_z ms) (greatest at_z ms)) u.1 in
      let axis : (f : BodyData → ℕ) → least f ms ≡ greatest f ms → f b ≡ least f ms = λ f q. let x : least f ms ≤ f b = min_of f 4294967295 b ms m in let y : f b ≤ greatest f ms = max_of f 0 b ms m in omega (arith, x, y, q) in
      let x : b.motion.pos.x ≡ least at_x ms = axis at_x (eqb-true (least at_x ms) (greatest at_x ms) u.0) in
      let y : b.motion.pos.y ≡ least at_y ms = axis at_y (eqb-true (least at_y ms) (greatest at_y ms) v.0) in
      let z : b.motion.pos.z ≡ least at_z ms = axis at_z (eqb-true (least at_z ms) (greatest at_z ms) v.1) in
      λ i. record { x = x i; y = y i; z = z i }

-- of the numbers below n, those that are d
filter_none : (d n : ℕ) → n ≤ d → filter (λ k. eqb k d) (below n) ≡ []
filter_none d zero h = refl
filter_none d (suc n) h = ap (λ b. cond b (n ∷ filter (λ k. eqb k d) (below n)) (filter (λ k. eqb k d) (below n))) (ne_eqb n d (λ e. omega arith)) ∙ filter_none d n (omega arith)

filter_one : (d n : ℕ) → d < n → filter (λ k. eqb k d) (below n) ≡ d ∷ []
filter_one d zero h = absurd (omega arith)
filter_one d (suc n) h = by (cases_eq n d) (λ k. filter_one d n k)
  where
    by : (n ≡ d) ⊎ (n ≡ d → ⊥) → (d < n → filter (λ k. eqb k d) (below n) ≡ d ∷ []) → cond (eqb n d) (n ∷ filter (λ k. eqb k d) (below n)) (filter (λ k. eqb k d) (below n)) ≡ d ∷ []
    by (inl e) rest = ap (λ b. cond b (n ∷ filter (λ k. eqb k d) (below n)) (filter (λ k. eqb k d) (below n))) (eq-eqb n d e) ∙ (λ i. e i ∷ filter_none d n (omega (arith, e)) i)
    by (inr e) rest = ap (λ b. cond b (n ∷ filter (λ k. eqb k d) (below n)) (filter (λ k. eqb k d) (below n))) (ne_eqb n d e) ∙ rest (omega (arith, e))

pub under_eight : (k n : ℕ) → Among k (below n) → k < n
under_eight k zero h = absurd h
under_eight k (suc n) (inl e) = omega (arith, e)
under_eight k (suc n) (inr h) = omega (arith, under_eight k n h)

-- ---- a leaf seen from a cell inside it, in which its members lie

module _ (w : Whole) (whole : IsWhole w) (h : HasSoftenings w) (r : ℕ) (d c : CellData) (n : is_node (positions_of (own w r)) d ≡ true) (one : at_one (raw w whole h r d) ≡ true) (higher : d.level < c.level) (deep : c.level ≤ 32) (lies : contains c (place (raw w whole h r d).lo) ≡ true) where
  abbrev lo : Position
  lo = place (raw w whole h r d).lo

  in_leaf : contains d lo ≡ true
  in_leaf = let b : BodyIn (own w r) d = body_in (own w r) d n in ap (contains d) (sym (at_lo w whole h r d one b.body b.one b.inside)) ∙ b.inside

  alike : (b : BodyData) → Among b (own w r) → contains d b.motion.pos ≡ contains c b.motion.pos
  alike b i = both_equal (contains d b.motion.pos) (contains c b.motion.pos)
      (λ e. ap (contains c) (at_lo w whole h r d one b i e) ∙ lies)
      (λ e. (nested d c lo (omega (arith, higher)) deep in_leaf lies).within b.motion.pos e)

  same_members : members (own w r) d ≡ members (own w r) c
  same_members = filter_on (λ (b : BodyData). contains d b.motion.pos) (λ (b : BodyData). contains c b.motion.pos) (own w r) alike

  same_raw : shifted (raw w whole h r d) c ≡ raw w whole h r c
  same_raw = shifts w.gravity.setup (own w r) (raw w whole h r d) c (sum_of_node w whole h r d n) lies ∙ ap (λ t. raw_of w.gravity.setup.soft c (members (own w r) t)) (raw_cell w whole h r d) ∙ ap (raw_of w.gravity.setup.soft c) same_members

  kid : (k : ℕ) → c.level < 32 → k < 8 → is_node (positions_of (own w r)) (child c k) ≡ eqb k (digit lo c.level)
  kid k l m = both_equal (is_node (positions_of (own w r)) (child c k)) (eqb k (digit lo c.level))
      (λ e. let b : BodyIn (own w r) (child c k) = body_in (own w r) (child c k) e in
      let u = and_parts (eqb k (digit b.body.motion.pos c.level)) (contains c b.body.motion.pos) (sym (contains_child c k b.body.motion.pos l m) ∙ b.inside) in
      ap (λ p. eqb k (digit p c.level)) (sym (at_lo w whole h r d one b.body b.one (alike b.body b.one ∙ u.1))) ∙ u.0)
      (λ e. let b : BodyIn (own w r) d = body_in (own w r) d n in
      let at : b.body.motion.pos ≡ lo = at_lo w whole h r d one b.body b.one b.inside in
      node_from (own w r) (child c k) b.body b.one (ap (contains (child c k)) at ∙ contains_child c k lo l m ∙ and_from (eqb k (digit lo c.level)) (contains c lo) e lies))

  same_kids : cond (ltb c.level 32) (digit lo c.level ∷ []) [] ≡ filled (positions_of (own w r)) c
  same_kids = by (ltb c.level 32) refl
    where
      by : (b : Bool) → ltb c.level 32 ≡ b → cond b (digit lo c.level ∷ []) [] ≡ cond b (filter (λ k. is_node (positions_of (own w r)) (child c k)) (below 8)) []
      by true e = sym (filter_on (λ k. is_node (positions_of (own w r)) (child c k)) (λ k. eqb k (digit lo c.level)) (below 8) (λ k m. kid k (ltb-true c.level 32 e) (under_eight k 8 m)) ∙ filter_one (digit lo c.level) 8 (digit_below lo c.level))
      by false e = refl

  pub seen : seen_from c (entry_of w (own w r) d) ≡ entry_of w (own w r) c
  seen = λ i. record { raw = same_raw i; children = same_kids i }

-- ---- lists of entries

among-front : {X : Type 0} (x : X) (xs ys : List X) → Among x xs → Among x (xs ++ ys)
among-front x [] ys h = absurd h
among-front x (z ∷ xs) ys (inl e) = inl e
among-front x (z ∷ xs) ys (inr h) = inr (among-front x xs ys h)

among-back : {X : Type 0} (x : X) (xs ys : List X) → Among x ys → Among x (xs ++ ys)
among-back x [] ys h = h
among-back x (z ∷ xs) ys h = inr (among-back x xs ys h)

first_is : {X : Type 0} (v y : X) (xs : List X) → ((x : X) → Among x xs → x ≡ v) → Among y xs → first_of xs ≡ Some v
first_is v y [] h k = absurd k
first_is v y (x ∷ xs) h k = ap (λ t. Some t) (h x (inl refl))

none_is : {X : Type 0} (xs : List X) → ((x : X) → Among x xs → ⊥) → first_of xs ≡ None
none_is [] h = refl
none_is (x ∷ xs) h = absurd (h x (inl refl))

module _ (w : Whole) (whole : IsWhole w) (h : HasSoftenings w) (r : ℕ) (c : CellData) (low : c.level ≤ 32) where
  abbrev es : List EntryData
  es = table_sent w r (home w.keys c)

  abbrev exact : List EntryData
  exact = filter (λ (e : EntryData). same_cell e.raw.cell c) es

  abbrev wide : List EntryData
  wide = filter (is_around c) es

  -- an entry is that of an own node
  data IsOf (e : EntryData) : Type 0 where
    Cell : (d : CellData) → Among d (own_nodes w r) → e ≡ entry_of w (own w r) d → IsOf e

  of : (e : EntryData) → Among e es → IsOf e
  of e k = by (among-mapped (entry_of w (own w r)) (filter (is_told w r (home w.keys c)) (own_nodes w r)) e k)
    where
      by : FromMap (entry_of w (own w r)) (filter (is_told w r (home w.keys c)) (own_nodes w r)) e → IsOf e
      by (Of d l q) = Cell d (among-kept (is_told w r (home w.keys c)) d (own_nodes w r) l).0 q

  exact_is : (e : EntryData) → Among e exact → IsOf e → (e ≡ entry_of w (own w r) c) × (is_node (positions_of (own w r)) c ≡ true)
  exact_is e k (Cell d l q) =
      let v : same_cell e.raw.cell c ≡ true = (among-kept (λ (e : EntryData). same_cell e.raw.cell c) e es k).1 in
      let u : d ≡ c = sym (raw_cell w whole h r d) ∙ sym (ap (λ t. t.raw.cell) q) ∙ (same_cell-exact e.raw.cell c).0 v in
      (q ∙ ap (entry_of w (own w r)) u, ap (is_node (positions_of (own w r))) (sym u) ∙ (is_own w r d l).node)

  wide_is : (e : EntryData) → is_around c e ≡ true → IsOf e → (seen_from c e ≡ entry_of w (own w r) c) × (is_node (positions_of (own w r)) c ≡ true)
  wide_is e a (Cell d l q) =
      let x : RawData = raw w whole h r d in
      let a2 : is_around c (entry_of w (own w r) d) ≡ true = ap (is_around c) (sym q) ∙ a in
      let u = and_parts (ltb x.cell.level c.level) (at_one x && contains c (place x.lo)) a2 in
      let v = and_parts (at_one x) (contains c (place x.lo)) u.1 in
      let n : is_node (positions_of (own w r)) d ≡ true = (is_own w r d l).node in
      let b : BodyIn (own w r) d = body_in (own w r) d n in
      let lv : x.cell.level ≡ d.level = ap (λ t. t.level) (raw_cell w whole h r d) in
      let hi : d.level < c.level = omega (arith, ltb-true x.cell.level c.level u.0, lv) in (
        ap (seen_from c) q ∙ seen w whole h r d c n v.0 hi low v.1,
        node_from (own w r) c b.body b.one (ap (contains c) (at_lo w whole h r d v.0 b.body b.one b.inside) ∙ v.1),
      )

  each_given : (e : EntryData) → Among e (exact ++ map (seen_from c) wide) → (e ≡ entry_of w (own w r) c) × (is_node (positions_of (own w r)) c ≡ true)
  each_given e k = by (among-append e exact (map (seen_from c) wide) k)
    where
      from : FromMap (seen_from c) wide e → (e ≡ entry_of w (own w r) c) × (is_node (positions_of (own w r)) c ≡ true)
      from (Of f l q) =
          let v = among-kept (is_around c) f es l in
          let x = wide_is f v.1 (of f v.0) in
          (q ∙ x.0, x.1)

      by : Among e exact ⊎ Among e (map (seen_from c) wide) → (e ≡ entry_of w (own w r) c) × (is_node (positions_of (own w r)) c ≡ true)
      by (inl l) = exact_is e l (of e (among-kept (λ (e : EntryData). same_cell e.raw.cell c) e es l).0)
      by (inr l) = from (among-mapped (seen_from c) wide e l)

  -- some entry gives something where there are own bodies
  data SomeOne : Type 0 where
    One : (e : EntryData) → Among e (exact ++ map (seen_from c) wide) → SomeOne

  told : (d : CellData) → Among d (own_nodes w r) → is_told w r (home w.keys c) d ≡ true → Among (entry_of w (own w r) d) es
  told d k t = among-map (entry_of w (own w r)) d (filter (is_told w r (home w.keys c)) (own_nodes w r)) (among-filter (is_told w r (home w.keys c)) d (own_nodes w r) k t)

  by_leaf : is_node (positions_of (own w r)) c ≡ true → LeafAround w r c → SomeOne
  by_leaf n f =
      let d : CellData = f.leaf in
      let x : RawData = raw w whole h r d in
      let b : BodyIn (own w r) c = body_in (own w r) c n in
      let v : contains d b.body.motion.pos ≡ true = (nested d c (corner c) (omega (arith, f.higher)) low f.around (corner_contained c)).within b.body.motion.pos b.inside in
      let box : InBox b.body.motion.pos = each-among (λ (m : BodyData). InBox m.motion.pos) b.body (own w r) (own_bodies w whole r).in_box b.one in
      let sp : in_span w.keys (home w.keys c) d ≡ true = spanned w.keys whole.keys b.body.motion.pos box c d low (omega (arith, f.higher)) b.inside v in
      let k : Among (entry_of w (own w r) d) es = told d f.listed (or_right (eqb (home w.keys d) (home w.keys c)) (is_leaf (positions_of (own w r)) d && in_span w.keys (home w.keys c) d) (and_from (is_leaf (positions_of (own w r)) d) (in_span w.keys (home w.keys c) d) f.is sp)) in
      let one : at_one x ≡ true = one_place w whole h r d (is_own w r d f.listed).node ∙ f.is in
      let lies : contains c (place x.lo) ≡ true = ap (contains c) (sym (at_lo w whole h r d one b.body b.one v)) ∙ b.inside in
      let lv : ltb x.cell.level c.level ≡ true = lt-ltb x.cell.level c.level (omega (arith, f.higher, ap (λ t. t.level) (raw_cell w whole h r d))) in
      let a : is_around c (entry_of w (own w r) d) ≡ true = and_from (ltb x.cell.level c.level) (at_one x && contains c (place x.lo)) lv (and_from (at_one x) (contains c (place x.lo)) one lies) in
      One (seen_from c (entry_of w (own w r) d)) (among-back (seen_from c (entry_of w (own w r) d)) exact (map (seen_from c) wide) (among-map (seen_from c) (entry_of w (own w r) d) wide (among-filter (is_around c) (entry_of w (own w r) d) es k a)))

  some_one : is_node (positions_of (own w r)) c ≡ true → SomeOne
  some_one n = by (inside_leaf (positions_of (own w r)) c) refl
    where
      by : (b : Bool) → inside_leaf (positions_of (own w r)) c ≡ b → SomeOne
      by true e = by_leaf n (leaf_around w r c low n e)
      by false e =
          let l : Among (entry_of w (own w r) c) es = told c (own_node w r c low n e) (or_left (eqb (home w.keys c) (home w.keys c)) (is_leaf (positions_of (own w r)) c && in_span w.keys (home w.keys c) c) (eq-eqb (home w.keys c) (home w.keys c) refl)) in
          One (entry_of w (own w r) c) (among-front (entry_of w (own w r) c) exact (map (seen_from c) wide) (among-filter (λ (e : EntryData). same_cell e.raw.cell c) (entry_of w (own w r) c) es l ((same_cell-exact (raw w whole h r c).cell c).1 (raw_cell w whole h r c))))

  gives : given es c ≡ cond (is_node (positions_of (own w r)) c) (Some (entry_of w (own w r) c)) None
  unfolding given
  gives = by (is_node (positions_of (own w r)) c) refl
    where
      from : SomeOne → first_of (exact ++ map (seen_from c) wide) ≡ Some (entry_of w (own w r) c)
      from (One e k) = first_is (entry_of w (own w r) c) e (exact ++ map (seen_from c) wide) (λ x l. (each_given x l).0) k

      by : (b : Bool) → is_node (positions_of (own w r)) c ≡ b → first_of (exact ++ map (seen_from c) wide) ≡ cond b (Some (entry_of w (own w r) c)) None
      by true e = from (some_one e)
      by false e = none_is (exact ++ map (seen_from c) wide) (λ x k. false≢true (sym e ∙ (each_given x k).1))

pub gives_own : GivesOwnBodies
gives_own w whole h r c low = gives w whole h r c low
