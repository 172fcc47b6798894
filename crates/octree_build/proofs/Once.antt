-- A grown list has each node that isn't strictly inside a leaf once.
use Rattle.std.proofs.Common.{◌≡◌, ℕ, zero, suc, ◌+◌, ◌-◌, ◌*◌, ◌/◌, ◌^◌, ◌<◌, ◌≤◌, Bool, true, false, cond, not, ◌&&◌, ◌||◌, eqb, List, [], ◌∷◌, ◌++◌, sum_by, refl, ap, sym, ◌∙◌, subst, arith, ◌⊎◌, inl, inr}
use Rattle.std.specs.List.{filter, flat_map, list_any, count_by, AllByRecursion}
use Rattle.std.proofs.lemmas.List.Sums.{sum_by-cons, sum_by-append}
use Rattle.std.proofs.lemmas.Bool.{false≢true, eqb-true, eq-eqb}
use Rattle.std.proofs.Math.Nat.{div-mul-le_self}
use Rattle.cell_space.specs.Cells.{Position, CellData, root_cell, cell_at, corner, contains, child, digit, digit, below, same_cell}
use Rattle.cell_space.proofs.Cells.{both_equal, same_cell-exact, contains-exact, child_within, child_digit, digit_below}
use Rattle.cell_space.proofs.Nested.{share_above, corner_contained}
use Rattle.hilbert_keys.specs.Curve.{Turn, IsCell, turn_of, child_at, child_along, children_along, place_of}
use Rattle.hilbert_keys.proofs.Turns.{IsGood, is_good, under}
use Rattle.hilbert_keys.proofs.Curves.{is_turn, corner_cell, child_is_cell, down_one}
use Rattle.nbody_model.specs.Nodes.{is_node, is_leaf}
use Rattle.nbody_model.specs.Covers.{Opening}
use Rattle.model_laws.proofs.Sums.{sum_by-flat_map, sum_by-same, sum_by-mapped, sum_by-zero}
use Rattle.model_laws.proofs.Among.{Among, Witness, any-witness, any-among, among-kept}
use Rattle.model_laws.proofs.Leaves.{shallow}
use Rattle.model_laws.proofs.Pairs.{all_among}
use Rattle.octree_build.specs.Trees.{opened, top, IsGrown, inside_leaf, is_tree_node}
use Rattle.octree_build.specs.Laws.{HasNodesOnce}
use Rattle.octree_build.proofs.Runs.{count-alike}

no_accept : CellData → CellData → Bool
no_accept a b = false

abbrev over : List Position → Opening
over ps = record { positions = ps; accept = no_accept }

-- the cell above
abbrev pub above : CellData → ℕ → CellData
above c l = cell_at l (corner c)

-- a child of a cell has that cell above it
pub above_child : (d : CellData) (k : ℕ) → d.level < 32 → k < 8 → above (child d k) d.level ≡ d
above_child d k h l = (contains-exact d (corner (child d k))).0 (child_within d k (corner (child d k)) h l (corner_contained (child d k)))

-- a cell is the child of the cell above it with its corner's digit
pub child_above : (c : CellData) (l : ℕ) → l < 32 → c.level ≡ l + 1 → c ≡ child (above c l) (digit (corner c) l)
child_above c l h e = sym (corner_cell c) ∙ ap (λ t. cell_at t (corner c)) e ∙ down_one l (corner c) h

-- whatever is opened is a child of a cell that isn't deepest
pub data FromOpened (ps : List Position) (d x : CellData) : Type 0 where
  Opened : is_leaf ps d ≡ false → d.level < 32 → (w : ℕ) → w < 8 → x ≡ child_along d w → is_node ps x ≡ true → FromOpened ps d x

along_cases : (d x : CellData) → Among x (children_along d) → (P : Type 0) → ((w : ℕ) → w < 8 → x ≡ child_along d w → P) → P
along_cases d x (inl e) P f = f 0 (omega arith) e
along_cases d x (inr (inl e)) P f = f 1 (omega arith) e
along_cases d x (inr (inr (inl e))) P f = f 2 (omega arith) e
along_cases d x (inr (inr (inr (inl e)))) P f = f 3 (omega arith) e
along_cases d x (inr (inr (inr (inr (inl e))))) P f = f 4 (omega arith) e
along_cases d x (inr (inr (inr (inr (inr (inl e)))))) P f = f 5 (omega arith) e
along_cases d x (inr (inr (inr (inr (inr (inr (inl e))))))) P f = f 6 (omega arith) e
along_cases d x (inr (inr (inr (inr (inr (inr (inr (inl e)))))))) P f = f 7 (omega arith) e
along_cases d x (inr (inr (inr (inr (inr (inr (inr (inr e)))))))) P f = absurd e

from_step : (ps : List Position) (d x : CellData) (b : Bool) → is_leaf ps d ≡ b → Among x (cond b [] (filter (is_node ps) (children_along d))) → FromOpened ps d x
from_step ps d x true e h = absurd h
from_step ps d x false e h =
    let k : Among x (children_along d) × (is_node ps x ≡ true) = among-kept (is_node ps) x (children_along d) h in
    along_cases d x k.0 (FromOpened ps d x) (λ w l u. Opened e (shallow (over ps) d e) w l u k.1)

pub from_opened : (ps : List Position) (d x : CellData) → Among x (opened ps d) → FromOpened ps d x
unfolding opened
from_opened ps d x h = from_step ps d x (is_leaf ps d) refl h

child_at_below : (d : CellData) (w : ℕ) → w < 8 → child_at (turn_of d) w < 8
child_at_below d w h = (is_good (turn_of d) w (is_turn d.level (corner d)) h).child

-- so its cell above is the one that was opened
opened_above : (ps : List Position) (d x : CellData) → Among x (opened ps d) → (l : ℕ) → x.level ≡ l + 1 → above x l ≡ d
opened_above ps d x h l e = by (from_opened ps d x h)
  where
    by : FromOpened ps d x → above x l ≡ d
    by (Opened f s w k u n) =
        let v : x.level ≡ d.level + 1 = ap (λ t. t.level) u in
        let m : l ≡ d.level = omega (arith, v, e) in
        ap (λ t. above x t) m ∙ ap (λ t. above t d.level) u ∙ above_child d (child_at (turn_of d) w) s (child_at_below d w k)

-- a count that is 0 since no element is the one
count_none : {X : Type 0} (t : X → Bool) (xs : List X) → ((x : X) → Among x xs → t x ≡ false) → count_by t xs ≡ 0
count_none t [] h = refl
count_none t (x ∷ xs) h = omega (arith, sum_by-cons (λ x. cond (t x) 1 0) x xs, ap {B = ℕ} (λ b. cond b 1 0) (h x (inl refl)), count_none t xs (λ y k. h y (inr k)))

not_true : (b : Bool) → (b ≡ true → ⊥) → b ≡ false
not_true true h = absurd (h refl)
not_true false h = refl

-- a cell stands only among what its cell above is opened to
opened_once : (ps : List Position) (c d : CellData) (l : ℕ) → c.level ≡ l + 1 → count_by (same_cell c) (opened ps d) ≡ cond (same_cell (above c l) d) (count_by (same_cell c) (opened ps (above c l))) 0
opened_once ps c d l e = by (same_cell (above c l) d) refl
  where
    by : (b : Bool) → same_cell (above c l) d ≡ b → count_by (same_cell c) (opened ps d) ≡ cond b (count_by (same_cell c) (opened ps (above c l))) 0
    by true h = ap (λ t. count_by (same_cell c) (opened ps t)) (sym ((same_cell-exact (above c l) d).0 h))
    by false h = count_none (same_cell c) (opened ps d) (λ x k. not_true (same_cell c x) (λ u.
        let q : c ≡ x = (same_cell-exact c x).0 u in
        let v : above x l ≡ d = opened_above ps d x k l (ap (λ t. t.level) (sym q) ∙ e) in
        false≢true (sym h ∙ (same_cell-exact (above c l) d).1 (ap (λ t. above t l) q ∙ v))))

cond_times : (b : Bool) (n m k : ℕ) → m ≡ n * k → cond b n 0 + m ≡ n * (cond b 1 0 + k)
cond_times true n m k e = omega (arith, e)
cond_times false n m k e = omega (arith, e)

sum_cond : {X : Type 0} (t : X → Bool) (n : ℕ) (xs : List X) → sum_by (λ x. cond (t x) n 0) xs ≡ n * count_by t xs
sum_cond t n [] = omega arith
sum_cond t n (x ∷ xs) = sum_by-cons (λ x. cond (t x) n 0) x xs ∙ cond_times (t x) n (sum_by (λ x. cond (t x) n 0) xs) (count_by t xs) (sum_cond t n xs) ∙ ap (λ k. n * k) (sym (sum_by-cons (λ x. cond (t x) 1 0) x xs))

top_deeper : (ps : List Position) (c : CellData) (l : ℕ) → c.level ≡ l + 1 → count_by (same_cell c) (top ps) ≡ 0
top_deeper ps c l e = count_none (same_cell c) (top ps) (λ x k. not_true (same_cell c x) (λ u. absurd (deep x (among-kept (is_node ps) x (root_cell ∷ []) k).0 ((same_cell-exact c x).0 u))))
  where
    deep : (x : CellData) → Among x (root_cell ∷ []) → c ≡ x → ⊥
    deep x (inl h) q = let z : c.level ≡ 0 = ap (λ t. t.level) (q ∙ h) in omega (arith, z, e)
    deep x (inr h) q = h

-- how often a cell below the root stands in a grown list
deeper_count : (ps : List Position) (cells : List CellData) → IsGrown ps cells → (c : CellData) (l : ℕ) → c.level ≡ l + 1 → count_by (same_cell c) cells ≡ count_by (same_cell c) (opened ps (above c l)) * count_by (same_cell (above c l)) cells
deeper_count ps cells g c l e =
    let n : ℕ = count_by (same_cell c) (opened ps (above c l)) in
    ap (count_by (same_cell c)) g.grown
    ∙ sum_by-append (λ x. cond (same_cell c x) 1 0) (top ps) (flat_map (opened ps) cells)
    ∙ ap (λ t. t + sum_by (λ x. cond (same_cell c x) 1 0) (flat_map (opened ps) cells)) (top_deeper ps c l e)
    ∙ (let z : 0 + sum_by (λ x. cond (same_cell c x) 1 0) (flat_map (opened ps) cells) ≡ sum_by (λ x. cond (same_cell c x) 1 0) (flat_map (opened ps) cells) = omega arith in z)
    ∙ sum_by-flat_map (λ x. cond (same_cell c x) 1 0) (opened ps) cells
    ∙ sum_by-same (λ d. count_by (same_cell c) (opened ps d)) (λ d. cond (same_cell (above c l) d) n 0) (λ d. opened_once ps c d l e) cells
    ∙ sum_cond (same_cell (above c l)) n cells

-- ---- what is opened

-- the eight places are each there once
eight_once : (p : ℕ) → p < 8 → count_by (λ w. eqb w p) (0 ∷ 1 ∷ 2 ∷ 3 ∷ 4 ∷ 5 ∷ 6 ∷ 7 ∷ []) ≡ 1
eight_once p h = eqb-true (count_by (λ w. eqb w p) (0 ∷ 1 ∷ 2 ∷ 3 ∷ 4 ∷ 5 ∷ 6 ∷ 7 ∷ [])) 1 (under (λ p. eqb (count_by (λ w. eqb w p) (0 ∷ 1 ∷ 2 ∷ 3 ∷ 4 ∷ 5 ∷ 6 ∷ 7 ∷ [])) 1) 8 refl p h)

eights_below : AllByRecursion (λ w. w < 8) (0 ∷ 1 ∷ 2 ∷ 3 ∷ 4 ∷ 5 ∷ 6 ∷ 7 ∷ [])
eights_below = (omega arith, (omega arith, (omega arith, (omega arith, (omega arith, (omega arith, (omega arith, (omega arith, tt))))))))

-- a child stands at its place along the curve
at_its_place : (d : CellData) (k w : ℕ) → d.level < 32 → k < 8 → w < 8 → same_cell (child d k) (child_along d w) ≡ eqb w (place_of (turn_of d) k)
at_its_place d k w s h l =
    let t : Turn = turn_of d in
    let g : IsGood t k = is_good t k (is_turn d.level (corner d)) h in
    let f : IsGood t w = is_good t w (is_turn d.level (corner d)) l in
    both_equal (same_cell (child d k) (child_along d w)) (eqb w (place_of t k))
    (λ e. let q : Position = corner (child d k) in
    let same : child d k ≡ child_along d w = (same_cell-exact (child d k) (child_along d w)).0 e in
    let there : contains (child d k) q ≡ true = corner_contained (child d k) in
    let one : k ≡ digit q d.level = child_digit d k q s h there in
    let two : child_at t w ≡ digit q d.level = child_digit d (child_at t w) q s f.child (ap (λ c. contains c q) (sym same) ∙ there) in
    eq-eqb w (place_of t k) (sym f.forth ∙ ap (place_of t) (two ∙ sym one)))
    (λ e. (same_cell-exact (child d k) (child_along d w)).1 (ap (child d) (sym g.back ∙ ap (child_at t) (sym (eqb-true w (place_of t k) e)))))

-- among the children along the curve each child stands once
child_once : (d : CellData) (k : ℕ) → d.level < 32 → k < 8 → count_by (same_cell (child d k)) (children_along d) ≡ 1
child_once d k s h =
    sum_by-mapped (λ x. cond (same_cell (child d k) x) 1 0) (child_along d) (0 ∷ 1 ∷ 2 ∷ 3 ∷ 4 ∷ 5 ∷ 6 ∷ 7 ∷ [])
    ∙ count-alike (λ w. w < 8) (λ w. same_cell (child d k) (child_along d w)) (λ w. eqb w (place_of (turn_of d) k)) (λ w l. at_its_place d k w s h l) (0 ∷ 1 ∷ 2 ∷ 3 ∷ 4 ∷ 5 ∷ 6 ∷ 7 ∷ []) eights_below
    ∙ eight_once (place_of (turn_of d) k) (is_good (turn_of d) k (is_turn d.level (corner d)) h).place

-- how often c stands in a filter by a test
count_kept : (c : CellData) (t : CellData → Bool) (xs : List CellData) → count_by (same_cell c) (filter t xs) ≡ cond (t c) (count_by (same_cell c) xs) 0
count_kept c t [] = nothing (t c)
  where
    nothing : (b : Bool) → ◌≡◌ {A = ℕ} 0 (cond b 0 0)
    nothing true = refl
    nothing false = refl
count_kept c t (x ∷ xs) = step (t x) refl (same_cell c x) refl (t c) refl (count_kept c t xs)
  where
    step : (a : Bool) → t x ≡ a → (b : Bool) → same_cell c x ≡ b → (e : Bool) → t c ≡ e → count_by (same_cell c) (filter t xs) ≡ cond e (count_by (same_cell c) xs) 0 → count_by (same_cell c) (cond a (x ∷ filter t xs) (filter t xs)) ≡ cond e (count_by (same_cell c) (x ∷ xs)) 0
    step true h b k true l r = omega (arith, r, sum_by-cons (λ x. cond (same_cell c x) 1 0) x (filter t xs), sum_by-cons (λ x. cond (same_cell c x) 1 0) x xs)
    step true h true k false l r = absurd (false≢true (sym l ∙ ap t ((same_cell-exact c x).0 k) ∙ h))
    step true h false k false l r = omega (arith, r, sum_by-cons (λ x. cond (same_cell c x) 1 0) x (filter t xs), ap {B = ℕ} (λ b. cond b 1 0) k)
    step false h true k true l r = absurd (false≢true (sym h ∙ ap t (sym ((same_cell-exact c x).0 k)) ∙ l))
    step false h false k true l r = omega (arith, r, sum_by-cons (λ x. cond (same_cell c x) 1 0) x xs, ap {B = ℕ} (λ b. cond b 1 0) k)
    step false h b k false l r = r

opened_count : (ps : List Position) (d : CellData) (k : ℕ) → d.level < 32 → k < 8 → count_by (same_cell (child d k)) (opened ps d) ≡ cond (is_node ps (child d k) && not (is_leaf ps d)) 1 0
unfolding opened
opened_count ps d k s h = by (is_leaf ps d)
  where
    by : (b : Bool) → count_by (same_cell (child d k)) (cond b [] (filter (is_node ps) (children_along d))) ≡ cond (is_node ps (child d k) && not b) 1 0
    by true = none (is_node ps (child d k))
      where
        none : (b : Bool) → ◌≡◌ {A = ℕ} 0 (cond (b && false) 1 0)
        none true = refl
        none false = refl
    by false = count_kept (child d k) (is_node ps) (children_along d) ∙ ap (λ n. cond (is_node ps (child d k)) n 0) (child_once d k s h) ∙ all (is_node ps (child d k))
      where
        all : (b : Bool) → ◌≡◌ {A = ℕ} (cond b 1 0) (cond (b && true) 1 0)
        all true = refl
        all false = refl

-- ---- the cell above

up_fits : (n l : ℕ) → n < 2 ^ 32 → n / 2 ^ (32 - l) * 2 ^ (32 - l) < 2 ^ 32
up_fits n l h = omega (arith, h, div-mul-le_self n (2 ^ (32 - l)))

pub above_is_cell : (c : CellData) (l : ℕ) → IsCell c → l ≤ 32 → IsCell (above c l)
above_is_cell c l i h = record {
  shallow = h;
  in_box = record {
    below_x = up_fits (corner c).x l i.in_box.below_x;
    below_y = up_fits (corner c).y l i.in_box.below_y;
    below_z = up_fits (corner c).z l i.in_box.below_z;
  };
}

-- a node's cell above is a node
pub node_above : (ps : List Position) (c : CellData) (l : ℕ) → c.level ≡ l + 1 → l < 32 → is_node ps c ≡ true → is_node ps (above c l) ≡ true
unfolding is_node
node_above ps c l e s n =
    let w : Witness (contains c) ps = any-witness (contains c) ps n in
    let k : contains (child (above c l) (digit (corner c) l)) w.it ≡ true = ap (λ t. contains t w.it) (sym (child_above c l s e)) ∙ w.passes in
    any-among (contains (above c l)) w.it ps w.«in» (child_within (above c l) (digit (corner c) l) w.it s (digit_below (corner c) l) k)

any_below : (f g : ℕ → Bool) (n : ℕ) → ((m : ℕ) → m < n → f m ≡ g m) → list_any f (below n) ≡ list_any g (below n)
any_below f g zero h = refl
any_below f g (suc n) h = ap (λ b. b || list_any f (below n)) (h n (omega arith)) ∙ ap (λ b. g n || b) (any_below f g n (λ m k. h m (omega arith)))

pub inside_above : (ps : List Position) (c : CellData) (l : ℕ) → c.level ≡ suc l → l ≤ 32 → inside_leaf ps c ≡ (is_leaf ps (above c l) || inside_leaf ps (above c l))
unfolding inside_leaf
inside_above ps c l e h =
    ap (λ t. list_any (λ m. is_leaf ps (cell_at m (corner c))) (below t)) e
    ∙ ap (λ b. is_leaf ps (above c l) || b) (any_below (λ m. is_leaf ps (cell_at m (corner c))) (λ m. is_leaf ps (cell_at m (corner (above c l)))) l
    (λ m k. ap (is_leaf ps) (share_above (corner c) (corner (above c l)) m l (omega arith) h (sym (corner_cell (above c l))))))

tests : (n p f u : Bool) → (n ≡ true → p ≡ true) → cond (n && not f) 1 0 * cond (p && not u) 1 0 ≡ cond (n && not (f || u)) 1 0
tests true true true true h = refl
tests true true true false h = refl
tests true true false true h = refl
tests true true false false h = refl
tests true false f u h = absurd (false≢true (h refl))
tests false true true true h = refl
tests false true true false h = refl
tests false true false true h = refl
tests false true false false h = refl
tests false false true true h = refl
tests false false true false h = refl
tests false false false true h = refl
tests false false false false h = refl

-- ---- the law

root_only : (c : CellData) → IsCell c → c.level ≡ 0 → c ≡ root_cell
root_only c i e =
    let w : 2 ^ (32 - c.level) ≡ 2 ^ 32 = ap (λ t. 2 ^ (32 - t)) e in
    let axis : (n : ℕ) → n * 2 ^ (32 - c.level) < 2 ^ 32 → n ≡ 0 = λ n h. let u : n * 2 ^ (32 - c.level) ≡ n * 2 ^ 32 = ap (λ t. n * t) w in omega (arith, u, h) in
    let x : c.x ≡ 0 = axis c.x i.in_box.below_x in
    let y : c.y ≡ 0 = axis c.y i.in_box.below_y in
    let z : c.z ≡ 0 = axis c.z i.in_box.below_z in
    λ j. record { level = e j; x = x j; y = y j; z = z j }

opened_deeper : (ps : List Position) (d x : CellData) → Among x (opened ps d) → same_cell root_cell x ≡ false
opened_deeper ps d x h = by (from_opened ps d x h)
  where
    by : FromOpened ps d x → same_cell root_cell x ≡ false
    by (Opened f s w k u n) = not_true (same_cell root_cell x) (λ e. let v : 0 ≡ d.level + 1 = ap (λ t. t.level) ((same_cell-exact root_cell x).0 e ∙ u) in absurd (omega (arith, v)))

root_count : (ps : List Position) (cells : List CellData) → IsGrown ps cells → count_by (same_cell root_cell) cells ≡ cond (is_node ps root_cell) 1 0
root_count ps cells g =
    ap (count_by (same_cell root_cell)) g.grown
    ∙ sum_by-append (λ x. cond (same_cell root_cell x) 1 0) (top ps) (flat_map (opened ps) cells)
    ∙ (let z : count_by (same_cell root_cell) (flat_map (opened ps) cells) ≡ 0 = sum_by-flat_map (λ x. cond (same_cell root_cell x) 1 0) (opened ps) cells ∙ sum_by-zero (λ d. count_by (same_cell root_cell) (opened ps d)) (λ d. count_none (same_cell root_cell) (opened ps d) (opened_deeper ps d)) cells in
    let u : count_by (same_cell root_cell) (top ps) ≡ cond (is_node ps root_cell) 1 0 = count_kept root_cell (is_node ps) (root_cell ∷ []) in omega (arith, z, u))

once_at : (ps : List Position) (cells : List CellData) → IsGrown ps cells → (l : ℕ) (c : CellData) → IsCell c → c.level ≡ l → count_by (same_cell c) cells ≡ cond (is_tree_node ps c) 1 0
unfolding inside_leaf
once_at ps cells g zero c i e =
    let r : c ≡ root_cell = root_only c i e in
    ap (λ t. count_by (same_cell t) cells) r ∙ root_count ps cells g ∙ whole (is_node ps root_cell) ∙ ap (λ t. cond (is_tree_node ps t) 1 0) (sym r)
  where
    whole : (b : Bool) → ◌≡◌ {A = ℕ} (cond b 1 0) (cond (b && true) 1 0)
    whole true = refl
    whole false = refl
once_at ps cells g (suc l) c i e =
    let s : suc l ≤ 32 = omega (arith, e, i.shallow) in
    let n : c.level ≡ l + 1 = omega (arith, e) in
    let p : CellData = above c l in
    let k : ℕ = digit (corner c) l in
    let q : c ≡ child p k = child_above c l (omega (arith, s)) n in
    deeper_count ps cells g c l n
    ∙ ap (λ t. count_by (same_cell t) (opened ps p) * count_by (same_cell p) cells) q
    ∙ ap (λ t. t * count_by (same_cell p) cells) (opened_count ps p k (omega (arith, s)) (digit_below (corner c) l) ∙ ap (λ t. cond (is_node ps t && not (is_leaf ps p)) 1 0) (sym q))
    ∙ ap (λ t. cond (is_node ps c && not (is_leaf ps p)) 1 0 * t) (once_at ps cells g l p (above_is_cell c l i (omega (arith, s))) refl)
    ∙ tests (is_node ps c) (is_node ps p) (is_leaf ps p) (inside_leaf ps p) (node_above ps c l n (omega (arith, s)))
    ∙ ap (λ b. cond (is_node ps c && not b) 1 0) (sym (inside_above ps c l e (omega (arith, s))))

-- ---- its cells are cells of the box

data FromFlat {X Y : Type 0} (f : X → List Y) (xs : List X) (y : Y) : Type 0 where
  Of : (x : X) → Among x xs → Among y (f x) → FromFlat f xs y

pub among-append : {X : Type 0} (x : X) (xs ys : List X) → Among x (xs ++ ys) → Among x xs ⊎ Among x ys
among-append x [] ys h = inr h
among-append x (z ∷ xs) ys (inl e) = inl (inl e)
among-append x (z ∷ xs) ys (inr h) = more (among-append x xs ys h)
  where
    more : Among x xs ⊎ Among x ys → Among x (z ∷ xs) ⊎ Among x ys
    more (inl k) = inl (inr k)
    more (inr k) = inr k

among-flat_map : {X Y : Type 0} (f : X → List Y) (xs : List X) (y : Y) → Among y (flat_map f xs) → FromFlat f xs y
among-flat_map f [] y h = absurd h
among-flat_map f (x ∷ xs) y h = by (among-append y (f x) (flat_map f xs) h) (λ k. among-flat_map f xs y k)
  where
    more : FromFlat f xs y → FromFlat f (x ∷ xs) y
    more (Of z k l) = Of z (inr k) l

    by : Among y (f x) ⊎ Among y (flat_map f xs) → (Among y (flat_map f xs) → FromFlat f xs y) → FromFlat f (x ∷ xs) y
    by (inl k) rest = Of x (inl refl) k
    by (inr k) rest = more (rest k)

-- an element of a grown list is the root, or one that another is opened to
data Comes (ps : List Position) (cells : List CellData) (x : CellData) : Type 0 where
  AsRoot : x ≡ root_cell → Comes ps cells x
  AsChild : (d : CellData) → Among d cells → FromOpened ps d x → Comes ps cells x

comes : (ps : List Position) (cells : List CellData) → IsGrown ps cells → (x : CellData) → Among x cells → Comes ps cells x
comes ps cells g x h = by (among-append x (top ps) (flat_map (opened ps) cells) (subst (λ t. Among x t) g.grown h))
  where
    of : FromFlat (opened ps) cells x → Comes ps cells x
    of (Of d k l) = AsChild d k (from_opened ps d x l)

    one : Among x (root_cell ∷ []) → Comes ps cells x
    one (inl e) = AsRoot e
    one (inr e) = absurd e

    by : Among x (top ps) ⊎ Among x (flat_map (opened ps) cells) → Comes ps cells x
    by (inl k) = one (among-kept (is_node ps) x (root_cell ∷ []) k).0
    by (inr k) = of (among-flat_map (opened ps) cells x k)

pub root_is_cell : IsCell root_cell
root_is_cell = record { shallow = omega arith; in_box = record { below_x = omega arith; below_y = omega arith; below_z = omega arith } }

cell_step : (ps : List Position) (cells : List CellData) (l : ℕ) → ((d : CellData) → Among d cells → d.level < l → IsCell d) → (x : CellData) → x.level < suc l → Comes ps cells x → IsCell x
cell_step ps cells l rest x h (AsRoot e) = subst (λ t. IsCell t) (sym e) root_is_cell
cell_step ps cells l rest x h (AsChild d k (Opened f s w b u n)) =
    let v : x.level ≡ d.level + 1 = ap (λ t. t.level) u in
    subst (λ t. IsCell t) (sym u) (child_is_cell d (child_at (turn_of d) w) (rest d k (omega (arith, v, h))) s)

cells_under : (ps : List Position) (cells : List CellData) → IsGrown ps cells → (l : ℕ) (x : CellData) → Among x cells → x.level < l → IsCell x
cells_under ps cells g zero x h k = absurd (omega (arith, k))
cells_under ps cells g (suc l) x h k = cell_step ps cells l (λ d m n. cells_under ps cells g l d m n) x k (comes ps cells g x h)

pub have_nodes : (ps : List Position) (cells : List CellData) → IsGrown ps cells → HasNodesOnce ps cells
have_nodes ps cells g = record {
  each = all_among IsCell cells (λ x h. cells_under ps cells g (suc x.level) x h (omega arith));
  once = λ c i. once_at ps cells g c.level c i refl;
}
