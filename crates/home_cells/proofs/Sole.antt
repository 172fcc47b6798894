-- Of the entries that a rank sends to the home of a cell, at most one tells of the cell.
use Rattle.std.proofs.Common.{◌≡◌, ℕ, ◌+◌, ◌<◌, ◌≤◌, Bool, true, false, cond, ◌&&◌, ◌||◌, ltb, List, [], ◌∷◌, ◌++◌, map, sum_by, refl, ap, sym, ◌∙◌, subst, arith, ◌⊎◌, inl, inr, Some, None}
use Rattle.std.specs.List.{filter, count_by, flat_map}
use Rattle.std.proofs.lemmas.Bool.{false≢true, and_parts, or_cases, or_parts, ltb-true, cases_order, cond-true, cond-false}
use Rattle.std.proofs.lemmas.List.Sums.{sum_by-cons}
use Rattle.cell_space.specs.Cells.{Position, InBox, CellData, cell_at, contains, corner, below, same_cell, place}
use Rattle.cell_space.proofs.Cells.{contains-exact, same_cell-exact}
use Rattle.cell_space.proofs.Nested.{share_above, corner_contained}
use Rattle.nbody_model.specs.Bodies.{BodyData}
use Rattle.nbody_model.specs.Nodes.{positions_of, members, is_node, is_leaf}
use Rattle.nbody_model.specs.Moments.{moments}
use Rattle.model_laws.proofs.Among.{Among, any-among, among-filter, among-kept, each-among}
use Rattle.node_moments.specs.Sums.{RawData, raw_of}
use Rattle.node_moments.specs.Conditions.{IsSumOf}
use Rattle.node_moments.proofs.Nodes.{moments_are}
use Rattle.node_moments.proofs.Within.{Spans, spans_within}
use Rattle.rank_laws.specs.Machine.{is_one}
use Rattle.rank_laws.specs.Homes.{home}
use Rattle.rank_laws.specs.Whole.{Whole, IsWhole, own}
use Rattle.rank_laws.specs.Contents.{EntryData, entry_of, inside_leaf, own_nodes, is_told, table_sent}
use Rattle.rank_laws.proofs.Fairness.{in_order-times}
use Rattle.rank_entry_laws.specs.Given.{HasSoftenings, at_one, is_around, seen_from, first_of, given, together, given_by}
use Rattle.rank_entry_laws.proofs.OwnBodies.{own_bodies, own_kinds}
use Rattle.rank_entry_laws.proofs.OwnTree.{BodyIn, body_in, is_own, IsOwnNode}
use Rattle.home_cells.specs.Found.{gathered}
use Rattle.home_cells.proofs.Together.{gathered_both, below_there}

-- an entry tells of a cell
abbrev pub tells_of : CellData → EntryData → Bool
tells_of c e = same_cell e.raw.cell c || is_around c e

-- ---- where at most one of some entries tells of a cell, what they tell together is what the first tells

none_tell : (c : CellData) (es : List EntryData) → count_by (tells_of c) es ≡ 0 → (gathered c es ≡ None) × (filter (λ e. same_cell e.raw.cell c) es ≡ []) × (filter (is_around c) es ≡ [])
none_tell c [] h = (refl, refl, refl)
none_tell c (e ∷ es) h = by (tells_of c e) refl (none_tell c es)
  where
    count : count_by (tells_of c) (e ∷ es) ≡ cond (tells_of c e) 1 0 + count_by (tells_of c) es
    count = sum_by-cons (λ e. cond (tells_of c e) 1 0) e es

    by : (b : Bool) → tells_of c e ≡ b → (count_by (tells_of c) es ≡ 0 → (gathered c es ≡ None) × (filter (λ e. same_cell e.raw.cell c) es ≡ []) × (filter (is_around c) es ≡ [])) → (gathered c (e ∷ es) ≡ None) × (filter (λ e. same_cell e.raw.cell c) (e ∷ es) ≡ []) × (filter (is_around c) (e ∷ es) ≡ [])
    by true u rest = absurd (omega (arith, h, count, cond-true {A = ℕ} (tells_of c e) 1 0 u))
    by false u rest =
        let p : (same_cell e.raw.cell c ≡ false) × (is_around c e ≡ false) = or_parts (same_cell e.raw.cell c) (is_around c e) u in
        let r : (gathered c es ≡ None) × (filter (λ e. same_cell e.raw.cell c) es ≡ []) × (filter (is_around c) es ≡ []) = rest (omega (arith, h, count)) in (
          (λ i. together (cond (p.0 i) (Some e) (cond (p.1 i) (Some (seen_from c e)) None)) (r.0 i)),
          (λ i. cond (p.0 i) (e ∷ r.1 i) (r.1 i)),
          (λ i. cond (p.1 i) (e ∷ r.2 i) (r.2 i)),
        )

pub sole : (c : CellData) (es : List EntryData) → count_by (tells_of c) es ≤ 1 → gathered c es ≡ given es c
unfolding given
sole c [] h = refl
sole c (e ∷ es) h = by (same_cell e.raw.cell c) refl (is_around c e) refl (sole c es)
  where
    count : count_by (tells_of c) (e ∷ es) ≡ cond (tells_of c e) 1 0 + count_by (tells_of c) es
    count = sum_by-cons (λ e. cond (tells_of c e) 1 0) e es

    none_left : tells_of c e ≡ true → count_by (tells_of c) es ≡ 0
    none_left u = omega (arith, h, count, cond-true {A = ℕ} (tells_of c e) 1 0 u)

    or_second : (x : Bool) → (x || true) ≡ true
    or_second true = refl
    or_second false = refl

    by : (a : Bool) → same_cell e.raw.cell c ≡ a → (b : Bool) → is_around c e ≡ b → (count_by (tells_of c) es ≤ 1 → gathered c es ≡ first_of (filter (λ e. same_cell e.raw.cell c) es ++ map (seen_from c) (filter (is_around c) es))) → together (cond (same_cell e.raw.cell c) (Some e) (cond (is_around c e) (Some (seen_from c e)) None)) (gathered c es) ≡ first_of (cond (same_cell e.raw.cell c) (e ∷ filter (λ e. same_cell e.raw.cell c) es) (filter (λ e. same_cell e.raw.cell c) es) ++ map (seen_from c) (cond (is_around c e) (e ∷ filter (is_around c) es) (filter (is_around c) es)))
    by true u b v rest =
        let n : (gathered c es ≡ None) × (filter (λ e. same_cell e.raw.cell c) es ≡ []) × (filter (is_around c) es ≡ []) = none_tell c es (none_left (ap (λ t. t || is_around c e) u)) in
        (λ i. together (cond (u i) (Some e) (cond (is_around c e) (Some (seen_from c e)) None)) (n.0 i))
        ∙ sym (λ i. first_of (cond (u i) (e ∷ filter (λ e. same_cell e.raw.cell c) es) (filter (λ e. same_cell e.raw.cell c) es) ++ map (seen_from c) (cond (is_around c e) (e ∷ filter (is_around c) es) (filter (is_around c) es))))
    by false u true v rest =
        let n : (gathered c es ≡ None) × (filter (λ e. same_cell e.raw.cell c) es ≡ []) × (filter (is_around c) es ≡ []) = none_tell c es (none_left (ap (λ t. same_cell e.raw.cell c || t) v ∙ or_second (same_cell e.raw.cell c))) in
        (λ i. together (cond (u i) (Some e) (cond (v i) (Some (seen_from c e)) None)) (n.0 i))
        ∙ sym (λ i. first_of (cond (u i) (e ∷ n.1 i) (n.1 i) ++ map (seen_from c) (cond (v i) (e ∷ filter (is_around c) es) (filter (is_around c) es))))
    by false u false v rest =
        (λ i. together (cond (u i) (Some e) (cond (v i) (Some (seen_from c e)) None)) (gathered c es))
        ∙ rest (omega (arith, h, count))
        ∙ sym (λ i. first_of (cond (u i) (e ∷ filter (λ e. same_cell e.raw.cell c) es) (filter (λ e. same_cell e.raw.cell c) es) ++ map (seen_from c) (cond (v i) (e ∷ filter (is_around c) es) (filter (is_around c) es))))

-- ---- entries of own nodes

module _ (w : Whole) (whole : IsWhole w) (h : HasSoftenings w) (r : ℕ) where
  abbrev ps : List Position
  ps = positions_of (own w r)

  abbrev raw : CellData → RawData
  raw d = raw_of w.gravity.setup.soft d (members (own w r) d)

  pub raw_cell : (d : CellData) → (raw_of w.gravity.setup.soft d (members (own w r) d)).cell ≡ d
  unfolding raw_of
  raw_cell d = refl

  pub sum_of_node : (d : CellData) → is_node (positions_of (own w r)) d ≡ true → IsSumOf w.gravity.setup (own w r) (raw_of w.gravity.setup.soft d (members (own w r) d))
  unfolding raw_of
  sum_of_node d n = record { bodies = own_bodies w whole r; kinds = own_kinds w h r; softenings = h.softenings; node = n; is = refl }

  one_place : (d : CellData) → is_node (positions_of (own w r)) d ≡ true → at_one (raw_of w.gravity.setup.soft d (members (own w r) d)) ≡ is_leaf (positions_of (own w r)) d
  unfolding raw_of moments
  one_place d n = ap (λ m. m.leaf) (moments_are w.gravity.setup (own w r) (raw d) (sum_of_node d n))

  -- the least and the greatest coordinates of a node's members lie in it
  pub spans : (d : CellData) → is_node (positions_of (own w r)) d ≡ true → Spans w.gravity.setup.soft d d (members (own w r) d)
  spans d n = by (members (own w r) d) refl
    where
      b : BodyIn (own w r) d
      b = body_in (own w r) d n

      by : (ms : List BodyData) → members (own w r) d ≡ ms → Spans w.gravity.setup.soft d d (members (own w r) d)
      by [] e = absurd (subst (Among b.body) e (among-filter (λ (x : BodyData). contains d x.motion.pos) b.body (own w r) b.one b.inside))
      by (m ∷ ms) e =
          let inside : (x : BodyData) → Among x (m ∷ ms) → Among x (own w r) × (contains d x.motion.pos ≡ true) = λ x i. among-kept (λ (x : BodyData). contains d x.motion.pos) x (own w r) (subst (Among x) (sym e) i) in
          subst (Spans w.gravity.setup.soft d d) (sym e) (spans_within w.gravity.setup.soft d d m ms (each-among (λ (x : BodyData). InBox x.motion.pos) m (own w r) (own_bodies w whole r).in_box (inside m (inl refl)).0) (λ x i. (inside x i).1))

  -- an entry that tells of a cell is of the cell around it of its level; strictly around it, it is a leaf's
  pub record TellsOf (c d : CellData) : Type 0 where
    pub level : d.level ≤ c.level
    pub is : d ≡ cell_at d.level (corner c)
    pub one : d.level < c.level → at_one (raw_of w.gravity.setup.soft d (members (own w r) d)) ≡ true

  own_cell_at : (c : CellData) → c ≡ cell_at c.level (corner c)
  own_cell_at c = sym ((contains-exact c (corner c)).0 (corner_contained c))

  pub telling : (c d : CellData) → c.level ≤ 32 → is_node (positions_of (own w r)) d ≡ true → tells_of c (entry_of w (own w r) d) ≡ true → TellsOf c d
  telling c d low n e = by (or_cases (same_cell (raw d).cell c) (is_around c (entry_of w (own w r) d)) e)
    where
      by : (same_cell (raw d).cell c ≡ true) ⊎ (is_around c (entry_of w (own w r) d) ≡ true) → TellsOf c d
      by (inl u) =
          let q : d ≡ c = sym (raw_cell d) ∙ (same_cell-exact (raw d).cell c).0 u in
          let l : d.level ≡ c.level = ap (λ t. t.level) q in
          record { level = omega (arith, l); is = q ∙ own_cell_at c ∙ ap (λ t. cell_at t (corner c)) (sym l); one = λ k. absurd (omega (arith, k, l)) }
      by (inr u) =
          let a : (ltb (raw d).cell.level c.level ≡ true) × ((at_one (raw d) && contains c (place (raw d).lo)) ≡ true) = and_parts (ltb (raw d).cell.level c.level) (at_one (raw d) && contains c (place (raw d).lo)) u in
          let b : (at_one (raw d) ≡ true) × (contains c (place (raw d).lo) ≡ true) = and_parts (at_one (raw d)) (contains c (place (raw d).lo)) a.1 in
          let l : (raw d).cell.level ≡ d.level = ap (λ t. t.level) (raw_cell d) in
          let k : d.level < c.level = omega (arith, l, ltb-true (raw d).cell.level c.level a.0) in
          let lo : Position = place (raw d).lo in
          let share : cell_at c.level (place (raw d).lo) ≡ cell_at c.level (corner c) = (contains-exact c lo).0 b.1 ∙ own_cell_at c in
          record {
            level = omega (arith, k);
            is = sym ((contains-exact d lo).0 (spans d n).low) ∙ share_above lo (corner c) d.level c.level (omega (arith, k)) low share;
            one = λ k. b.0;
          }

  -- two own nodes that tell of a cell are one
  higher : (c d e : CellData) → c.level ≤ 32 → IsOwnNode w r d → IsOwnNode w r e → TellsOf c d → TellsOf c e → d.level < e.level → ⊥
  higher c d e low i j u v l =
      let leaf : is_leaf (positions_of (own w r)) d ≡ true = sym (one_place d i.node) ∙ u.one (omega (arith, l, v.level)) in
      let share : cell_at e.level (corner e) ≡ cell_at e.level (corner c) = sym (own_cell_at e) ∙ v.is in
      let same : d ≡ cell_at d.level (corner e) = u.is ∙ sym (share_above (corner e) (corner c) d.level e.level (omega (arith, l)) (omega (arith, v.level, low)) share) in
      let inside : inside_leaf (positions_of (own w r)) e ≡ true = any-among (λ m. is_leaf ps (cell_at m (corner e))) d.level (below e.level) (below_there d.level e.level l) (ap (is_leaf ps) (sym same) ∙ leaf) in
      false≢true (sym j.outer ∙ inside)

  one_node : (c d e : CellData) → c.level ≤ 32 → IsOwnNode w r d → IsOwnNode w r e → TellsOf c d → TellsOf c e → d ≡ e
  one_node c d e low i j u v = by (cases_order d.level e.level)
    where
      by : (d.level ≡ e.level) ⊎ ((d.level < e.level) ⊎ (e.level < d.level)) → d ≡ e
      by (inl q) = u.is ∙ ap (λ t. cell_at t (corner c)) q ∙ sym v.is
      by (inr (inl l)) = absurd (higher c d e low i j u v l)
      by (inr (inr l)) = absurd (higher c e d low j i v u l)

-- ---- of a list in which each stands once, at most one passes

abbrev often : CellData → List CellData → ℕ
often c cs = sum_by (λ d. cond {A = ℕ} (same_cell c d) 1 0) cs

there_often : (c : CellData) (cs : List CellData) → Among c cs → 1 ≤ often c cs
there_often c [] h = absurd h
there_often c (d ∷ cs) (inl e) = omega (arith, sum_by-cons (λ d. cond {A = ℕ} (same_cell c d) 1 0) d cs, cond-true {A = ℕ} (same_cell c d) 1 0 ((same_cell-exact c d).1 e))
there_often c (d ∷ cs) (inr h) = omega (arith, sum_by-cons (λ d. cond {A = ℕ} (same_cell c d) 1 0) d cs, there_often c cs h)

none_pass : (t : CellData → Bool) (cs : List CellData) → ((d : CellData) → Among d cs → t d ≡ false) → count_by t cs ≡ 0
none_pass t [] a = refl
none_pass t (d ∷ cs) a = omega (arith, sum_by-cons (λ d. cond (t d) 1 0) d cs, cond-false {A = ℕ} (t d) 1 0 (a d (inl refl)), none_pass t cs (λ e i. a e (inr i)))

one_only : (t : CellData → Bool) (cs : List CellData) → ((d e : CellData) → Among d cs → Among e cs → t d ≡ true → t e ≡ true → d ≡ e) → ((d : CellData) → often d cs ≤ 1) → count_by t cs ≤ 1
one_only t [] same once = omega arith
one_only t (d ∷ cs) same once = by (t d) refl (one_only t cs (λ x y i j. same x y (inr i) (inr j)) (λ x. let o : often x (d ∷ cs) ≤ 1 = once x in omega (arith, o, sum_by-cons (λ d. cond {A = ℕ} (same_cell x d) 1 0) d cs)))
  where
    count : count_by t (d ∷ cs) ≡ cond (t d) 1 0 + count_by t cs
    count = sum_by-cons (λ d. cond (t d) 1 0) d cs

    not_again : t d ≡ true → (e : CellData) → Among e cs → t e ≡ false
    not_again u e i = at (t e) refl
      where
        at : (b : Bool) → t e ≡ b → t e ≡ false
        at false v = v
        at true v =
            let q : d ≡ e = same d e (inl refl) (inr i) u v in
            let o : often d (d ∷ cs) ≤ 1 = once d in
            absurd (omega (arith, o, sum_by-cons (λ x. cond {A = ℕ} (same_cell d x) 1 0) d cs, cond-true {A = ℕ} (same_cell d d) 1 0 ((same_cell-exact d d).1 refl), there_often d cs (subst (λ x. Among x cs) (sym q) i)))

    by : (b : Bool) → t d ≡ b → count_by t cs ≤ 1 → count_by t (d ∷ cs) ≤ 1
    by true u rest = omega (arith, count, cond-true {A = ℕ} (t d) 1 0 u, none_pass t cs (not_again u))
    by false u rest = omega (arith, count, cond-false {A = ℕ} (t d) 1 0 u, rest)

count_mapped : {X Y : Type 0} (t : Y → Bool) (f : X → Y) (u : X → Bool) (xs : List X) → count_by t (map f (filter u xs)) ≤ count_by (λ x. t (f x)) xs
count_mapped t f u [] = omega arith
count_mapped t f u (x ∷ xs) = by (u x) (count_mapped t f u xs)
  where
    by : (b : Bool) → count_by t (map f (filter u xs)) ≤ count_by (λ x. t (f x)) xs → count_by t (map f (cond b (x ∷ filter u xs) (filter u xs))) ≤ count_by (λ x. t (f x)) (x ∷ xs)
    by true rest = omega (arith, rest, sum_by-cons (λ y. cond (t y) 1 0) (f x) (map f (filter u xs)), sum_by-cons (λ x. cond (t (f x)) 1 0) x xs)
    by false rest = omega (arith, rest, sum_by-cons (λ x. cond (t (f x)) 1 0) x xs)

own_once : (w : Whole) (r : ℕ) (c : CellData) → often c (own_nodes w r) ≤ 1
unfolding own_nodes
own_once w r c = at_most (is_one c _) (in_order-times w.keys c _)
  where
    at_most : (b : Bool) → often c (own_nodes w r) ≡ cond b 1 0 → often c (own_nodes w r) ≤ 1
    at_most true e = omega (arith, e)
    at_most false e = omega (arith, e)

pub one_tells : (w : Whole) → IsWhole w → HasSoftenings w → (r to : ℕ) (c : CellData) → c.level ≤ 32 → count_by (tells_of c) (table_sent w r to) ≤ 1
one_tells w whole h r to c low =
    let a : count_by (tells_of c) (table_sent w r to) ≤ count_by (λ d. tells_of c (entry_of w (own w r) d)) (own_nodes w r) = count_mapped (tells_of c) (entry_of w (own w r)) (is_told w r to) (own_nodes w r) in
    let b : count_by (λ d. tells_of c (entry_of w (own w r) d)) (own_nodes w r) ≤ 1 = one_only (λ d. tells_of c (entry_of w (own w r) d)) (own_nodes w r) (λ d e i j u v. one_node w whole h r c d e low (is_own w r d i) (is_own w r e j) (telling w whole h r c d low (is_own w r d i).node u) (telling w whole h r c e low (is_own w r e j).node v)) (own_once w r) in
    omega (arith, a, b)

-- ---- what all tables tell

pub tables_tell : (w : Whole) → IsWhole w → HasSoftenings w → (c : CellData) → c.level ≤ 32 → (rs : List ℕ) → gathered c (flat_map (λ r. table_sent w r (home w.keys c)) rs) ≡ given_by w c rs
tables_tell w whole h c low [] = refl
tables_tell w whole h c low (r ∷ rs) =
    gathered_both c (table_sent w r (home w.keys c)) (flat_map (λ r. table_sent w r (home w.keys c)) rs)
    ∙ (λ i. together (sole c (table_sent w r (home w.keys c)) (one_tells w whole h r (home w.keys c) c low) i) (tables_tell w whole h c low rs i))
