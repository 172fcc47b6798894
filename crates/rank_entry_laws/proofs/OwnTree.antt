-- The nodes of a rank's own tree, and the leaf around a cell that lies inside one.
use Rattle.std.proofs.Common.{◌≡◌, ℕ, zero, suc, ◌+◌, ◌-◌, ◌<◌, ◌≤◌, Bool, true, false, not, ◌||◌, List, [], ◌∷◌, ◌++◌, map, refl, ap, sym, ◌∙◌, subst, arith, ◌⊎◌, inl, inr}
use Rattle.std.specs.List.{filter, flat_map, list_any, range_with_len}
use Rattle.std.proofs.lemmas.Bool.{false≢true}
use Rattle.cell_space.specs.Cells.{Position, InBox, CellData, cell_at, contains, corner, child, digit, below, before}
use Rattle.cell_space.proofs.Cells.{contains-exact, cell_at-contains, digit_below, digit_contains}
use Rattle.cell_space.proofs.Nested.{share_above, corner_contained, nested}
use Rattle.nbody_model.specs.Bodies.{BodyData}
use Rattle.nbody_model.specs.Nodes.{positions_of, is_node, is_leaf}
use Rattle.nbody_model.specs.Force.{cells_around}
use Rattle.model_laws.proofs.Among.{Among, Witness, any-witness, any-among, among-kept, among-filter, among-map}
use Rattle.model_laws.proofs.Cancel.{BodyAt, body_at}
use Rattle.rank_laws.specs.Homes.{Keys, home, in_span}
use Rattle.rank_laws.specs.Whole.{Whole, AreKeys, own, in_order}
use Rattle.rank_laws.specs.Contents.{inside_leaf, own_nodes}
use Rattle.rank_laws.proofs.Homes.{Within, home_in_span}
use Rattle.rank_laws.proofs.Machine.{one_among, among_one}
use Rattle.rank_laws.proofs.Stuck.{among_range, range_below}
use Rattle.rank_laws.proofs.Fairness.{in_order-same}
use Rattle.rank_laws.proofs.Gathering.{among_flat}

pub data FromMap {X Y : Type 0} (f : X → Y) (xs : List X) (y : Y) : Type 0 where
  Of : (x : X) → Among x xs → y ≡ f x → FromMap f xs y

pub among-mapped : {X Y : Type 0} (f : X → Y) (xs : List X) (y : Y) → Among y (map f xs) → FromMap f xs y
among-mapped f [] y h = absurd h
among-mapped f (x ∷ xs) y (inl e) = Of x (inl refl) e
among-mapped f (x ∷ xs) y (inr h) = more (among-mapped f xs y h)
  where
    more : FromMap f xs y → FromMap f (x ∷ xs) y
    more (Of z k e) = Of z (inr k) e

pub among-append : {X : Type 0} (x : X) (xs ys : List X) → Among x (xs ++ ys) → Among x xs ⊎ Among x ys
among-append x [] ys h = inr h
among-append x (z ∷ xs) ys (inl e) = inl (inl e)
among-append x (z ∷ xs) ys (inr h) = more (among-append x xs ys h)
  where
    more : Among x xs ⊎ Among x ys → Among x (z ∷ xs) ⊎ Among x ys
    more (inl k) = inl (inr k)
    more (inr k) = inr k

data FromFlat {X Y : Type 0} (f : X → List Y) (xs : List X) (y : Y) : Type 0 where
  In : (x : X) → Among x xs → Among y (f x) → FromFlat f xs y

among-flat : {X Y : Type 0} (f : X → List Y) (xs : List X) (y : Y) → Among y (flat_map f xs) → FromFlat f xs y
among-flat f [] y h = absurd h
among-flat f (x ∷ xs) y h = by (among-append y (f x) (flat_map f xs) h) (λ k. among-flat f xs y k)
  where
    more : FromFlat f xs y → FromFlat f (x ∷ xs) y
    more (In z k l) = In z (inr k) l

    by : Among y (f x) ⊎ Among y (flat_map f xs) → (Among y (flat_map f xs) → FromFlat f xs y) → FromFlat f (x ∷ xs) y
    by (inl k) rest = In x (inl refl) k
    by (inr k) rest = more (rest k)

-- a body in a node
pub record BodyIn (bodies : List BodyData) (d : CellData) : Type 0 where
  pub body : BodyData
  pub one : Among body bodies
  pub inside : contains d body.motion.pos ≡ true

pub body_in : (bodies : List BodyData) (d : CellData) → is_node (positions_of bodies) d ≡ true → BodyIn bodies d
unfolding is_node
body_in bodies d n =
    let v : Witness (contains d) (positions_of bodies) = any-witness (contains d) (positions_of bodies) n in
    let b : BodyAt v.it bodies = body_at v.it bodies v.«in» in
    record { body = b.it; one = b.«in»; inside = ap (contains d) b.at ∙ v.passes }

pub node_from : (bodies : List BodyData) (d : CellData) (b : BodyData) → Among b bodies → contains d b.motion.pos ≡ true → is_node (positions_of bodies) d ≡ true
unfolding is_node
node_from bodies d b h k = any-among (contains d) b.motion.pos (positions_of bodies) (among-map (λ (b : BodyData). b.motion.pos) b bodies h) k

-- ---- which cells the own nodes are

module _ (w : Whole) (r : ℕ) where
  abbrev ps : List Position
  ps = positions_of (own w r)

  abbrev all : List CellData
  all = flat_map (λ (b : BodyData). cells_around b.motion.pos) (own w r)

  abbrev outside : CellData → Bool
  outside c = not (inside_leaf (positions_of (own w r)) c)

  pub own_node : (c : CellData) → c.level ≤ 32 → is_node (positions_of (own w r)) c ≡ true → inside_leaf (positions_of (own w r)) c ≡ false → Among c (own_nodes w r)
  unfolding own_nodes
  own_node c low n e =
      let b : BodyIn (own w r) c = body_in (own w r) c n in
      let at : c ≡ cell_at c.level b.body.motion.pos = sym ((contains-exact c b.body.motion.pos).0 b.inside) in
      let around : Among (cell_at c.level b.body.motion.pos) (cells_around b.body.motion.pos) = among-map (λ l. cell_at l b.body.motion.pos) c.level (range_with_len 0 33) (among_range 0 33 c.level (omega arith) (omega (arith, low))) in
      let flat : Among c all = among_flat (λ (b : BodyData). cells_around b.motion.pos) c b.body (own w r) b.one (subst (λ t. Among t (cells_around b.body.motion.pos)) (sym at) around) in
      let kept : Among c (filter outside all) = among-filter outside c all flat (ap not e) in
      one_among c (in_order w.keys (filter outside all)) (in_order-same w.keys c (filter outside all) ∙ among_one c (filter outside all) kept)

  pub record IsOwnNode (c : CellData) : Type 0 where
    pub low : c.level ≤ 32
    pub node : is_node (positions_of (own w r)) c ≡ true
    pub outer : inside_leaf (positions_of (own w r)) c ≡ false

  not_false : (b : Bool) → not b ≡ true → b ≡ false
  not_false true h = absurd (false≢true h)
  not_false false h = refl

  pub is_own : (c : CellData) → Among c (own_nodes w r) → IsOwnNode c
  unfolding own_nodes
  is_own c h =
      let kept : Among c (filter outside all) = one_among c (filter outside all) (sym (in_order-same w.keys c (filter outside all)) ∙ among_one c (in_order w.keys (filter outside all)) h) in
      let k : Among c all × (outside c ≡ true) = among-kept outside c all kept in
      from k.1 (among-flat (λ (b : BodyData). cells_around b.motion.pos) (own w r) c k.0)
    where
      at : outside c ≡ true → (b : BodyData) → Among b (own w r) → FromMap (λ l. cell_at l b.motion.pos) (range_with_len 0 33) c → IsOwnNode c
      at o b i (Of l j e) = record {
        low = let u : c.level ≡ l = ap (λ t. t.level) e in omega (arith, u, range_below 0 33 l j);
        node = node_from (own w r) c b i (ap (λ t. contains t b.motion.pos) e ∙ cell_at-contains l b.motion.pos);
        outer = not_false (inside_leaf (positions_of (own w r)) c) o;
      }

      from : outside c ≡ true → FromFlat (λ (b : BodyData). cells_around b.motion.pos) (own w r) c → IsOwnNode c
      from o (In b i j) = at o b i (among-mapped (λ l. cell_at l b.motion.pos) (range_with_len 0 33) c j)

-- ---- the leaf around a cell inside one

-- the cell above
abbrev pub above : CellData → ℕ → CellData
above c l = cell_at l (corner c)

corner_cell : (c : CellData) → cell_at c.level (corner c) ≡ c
corner_cell c = (contains-exact c (corner c)).0 (corner_contained c)

-- a node's cell above is a node
node_above : (bodies : List BodyData) (c : CellData) (l : ℕ) → l ≤ c.level → c.level ≤ 32 → is_node (positions_of bodies) c ≡ true → is_node (positions_of bodies) (above c l) ≡ true
node_above bodies c l h low n =
    let b : BodyIn bodies c = body_in bodies c n in
    let e : cell_at c.level b.body.motion.pos ≡ cell_at c.level (corner c) = (contains-exact c b.body.motion.pos).0 b.inside ∙ sym (corner_cell c) in
    node_from bodies (above c l) b.body b.one ((contains-exact (above c l) b.body.motion.pos).1 (share_above b.body.motion.pos (corner c) l c.level h low e))

any_below : (f g : ℕ → Bool) (n : ℕ) → ((m : ℕ) → m < n → f m ≡ g m) → list_any f (below n) ≡ list_any g (below n)
any_below f g zero h = refl
any_below f g (suc n) h = ap (λ b. b || list_any f (below n)) (h n (omega arith)) ∙ ap (λ b. g n || b) (any_below f g n (λ m k. h m (omega arith)))

inside_above : (qs : List Position) (c : CellData) (l : ℕ) → c.level ≡ suc l → l ≤ 32 → inside_leaf qs c ≡ (is_leaf qs (above c l) || inside_leaf qs (above c l))
inside_above qs c l e h =
    ap (λ t. list_any (λ m. is_leaf qs (cell_at m (corner c))) (below t)) e
    ∙ ap (λ b. is_leaf qs (above c l) || b) (any_below (λ m. is_leaf qs (cell_at m (corner c))) (λ m. is_leaf qs (cell_at m (corner (above c l)))) l
    (λ m k. ap (is_leaf qs) (share_above (corner c) (corner (above c l)) m l (omega arith) h (sym (corner_cell (above c l))))))

-- a leaf of the rank's tree around a cell
pub record LeafAround (w : Whole) (r : ℕ) (c : CellData) : Type 0 where
  pub leaf : CellData
  pub listed : Among leaf (own_nodes w r)
  pub is : is_leaf (positions_of (own w r)) leaf ≡ true
  pub higher : leaf.level < c.level
  pub around : contains leaf (corner c) ≡ true

leaf_step : (w : Whole) (r l : ℕ) (c : CellData) → c.level ≤ 32 → c.level ≡ suc l → is_node (positions_of (own w r)) c ≡ true → inside_leaf (positions_of (own w r)) c ≡ true → (inside_leaf (positions_of (own w r)) (above c l) ≡ true → LeafAround w r (above c l)) → LeafAround w r c
leaf_step w r l c low e n h rest = by (inside_leaf (positions_of (own w r)) (above c l)) refl
  where
    s : l ≤ 32
    s = omega (arith, e, low)

    up : contains (above c l) (corner c) ≡ true
    up = (contains-exact (above c l) (corner c)).1 refl

    from : LeafAround w r (above c l) → LeafAround w r c
    from f = let k : f.leaf.level < l = f.higher in record {
      leaf = f.leaf;
      listed = f.listed;
      is = f.is;
      higher = omega (arith, k, e);
      around = (nested f.leaf (above c l) (corner (above c l)) (omega (arith, k)) s f.around (corner_contained (above c l))).within (corner c) up;
    }

    first_holds : (a b : Bool) → b ≡ false → (a || b) ≡ true → a ≡ true
    first_holds true b x y = refl
    first_holds false b x y = absurd (false≢true (sym x ∙ y))

    by : (b : Bool) → inside_leaf (positions_of (own w r)) (above c l) ≡ b → LeafAround w r c
    by true u = from (rest u)
    by false u =
        let q : (is_leaf (positions_of (own w r)) (above c l) || inside_leaf (positions_of (own w r)) (above c l)) ≡ true = sym (inside_above (positions_of (own w r)) c l e s) ∙ h in
        record {
          leaf = above c l;
          listed = own_node w r (above c l) s (node_above (own w r) c l (omega (arith, e)) low n) u;
          is = first_holds (is_leaf (positions_of (own w r)) (above c l)) (inside_leaf (positions_of (own w r)) (above c l)) u q;
          higher = omega (arith, e);
          around = up;
        }

leaf_from : (w : Whole) (r l : ℕ) (c : CellData) → c.level ≤ 32 → c.level ≡ l → is_node (positions_of (own w r)) c ≡ true → inside_leaf (positions_of (own w r)) c ≡ true → LeafAround w r c
leaf_from w r zero c low e n h = absurd (false≢true (sym (ap (λ t. list_any (λ l. is_leaf (positions_of (own w r)) (cell_at l (corner c))) (below t)) e) ∙ h))
leaf_from w r (suc l) c low e n h = leaf_step w r l c low e n h (λ u. leaf_from w r l (above c l) (omega (arith, e, low)) refl (node_above (own w r) c l (omega (arith, e)) low n) u)

pub leaf_around : (w : Whole) (r : ℕ) (c : CellData) → c.level ≤ 32 → is_node (positions_of (own w r)) c ≡ true → inside_leaf (positions_of (own w r)) c ≡ true → LeafAround w r c
leaf_around w r c low n h = leaf_from w r c.level c low refl n h

-- ---- the home of a node lies in the span of each cell around it

module _ (keys : Keys CellData) (k : AreKeys keys) (p : Position) (i : InBox p) where
  nest : (l n : ℕ) → l + n ≤ 32 → Within keys before (cell_at l p) (cell_at (l + n) p)
  nest l zero h = let e : l + 0 ≡ l = omega arith in subst (λ (t : ℕ). Within keys before (cell_at l p) (cell_at t p)) (sym e) (record { low = omega arith; some = k.ranged (cell_at l p); high = omega arith })
  nest l (suc n) h =
      let rest : Within keys before (cell_at l p) (cell_at (l + n) p) = nest l n (omega arith) in
      let d : CellData = child (cell_at (l + n) p) (digit p (l + n)) in
      let inside : contains (child (cell_at (l + n) p) (digit p (l + n))) p ≡ true = digit_contains (cell_at (l + n) p) p (omega arith) (cell_at-contains (l + n) p) in
      let e : l + n + 1 ≡ l + suc n = omega arith in
      let next : child (cell_at (l + n) p) (digit p (l + n)) ≡ cell_at (l + suc n) p = sym ((contains-exact (child (cell_at (l + n) p) (digit p (l + n))) p).0 inside) ∙ ap (λ t. cell_at t p) e in
      subst (Within keys before (cell_at l p)) next (record {
        low = let u : keys.first (cell_at (l + n) p) ≤ keys.first d = k.low (cell_at (l + n) p) (digit p (l + n)) p (omega arith) (digit_below p (l + n)) i inside in omega (arith, rest.low, u);
        some = k.ranged d;
        high = let u : keys.last d ≤ keys.last (cell_at (l + n) p) = k.high (cell_at (l + n) p) (digit p (l + n)) p (omega arith) (digit_below p (l + n)) i inside in omega (arith, rest.high, u);
      })

  pub spanned : (c d : CellData) → c.level ≤ 32 → d.level ≤ c.level → contains c p ≡ true → contains d p ≡ true → in_span keys (home keys c) d ≡ true
  spanned c d low h u v =
      let e : d.level + (c.level - d.level) ≡ c.level = omega (arith, h) in
      home_in_span keys before d c (
      subst (λ t. Within keys before t c) ((contains-exact d p).0 v)
      (subst (Within keys before (cell_at d.level p)) (ap (λ t. cell_at t p) e ∙ (contains-exact c p).0 u) (nest d.level (c.level - d.level) (omega (arith, e, low))))
      )
