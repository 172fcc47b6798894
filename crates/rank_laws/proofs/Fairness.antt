-- The rules of a whole are fair.
use Rattle.std.proofs.Common.{◌≡◌, ℕ, zero, suc, ◌+◌, ◌<◌, ◌≤◌, Bool, true, false, cond, ◌&&◌, ◌||◌, List, [], ◌∷◌, sum_by, refl, ap, sym, ◌∙◌, arith, ◌⊎◌, inl, inr}
use Rattle.std.specs.List.{filter, flat_map, AllByRecursion}
use Rattle.std.proofs.lemmas.List.Sums.{sum_by-cons}
use Rattle.std.proofs.lemmas.Bool.{false≢true}
use Rattle.cell_space.specs.Cells.{CellData, same_cell, child, below}
use Rattle.cell_space.proofs.Cells.{same_cell-exact}
use Rattle.nbody_model.specs.Covers.{Opening, leaf, final, distinct}
use Rattle.nbody_model.specs.Walks.{has_member, kids, down, over_both, over_pairs, gives}
use Rattle.model_laws.proofs.Among.{Among, among-kept, each-among, each-append, each-flat_map, each-map, each-weaker}
use Rattle.model_laws.proofs.Leaves.{shallow}
use Rattle.model_laws.proofs.Counts.{times-distinct}
use Rattle.model_laws.proofs.Pairs.{all_among}
use Rattle.model_laws.proofs.InOrder.{turned_cells}
use Rattle.model_laws.proofs.Sums.{sum_by-same}
use Rattle.rank_laws.specs.Homes.{Keys, concerned}
use Rattle.rank_laws.specs.Trees.{IsFalling}
use Rattle.rank_laws.specs.Machine.{Pair, is_one}
use Rattle.rank_laws.specs.Whole.{Whole, IsWhole, opening, depth_of, next_of, goes_first, put_in, sorted, rules_of, in_order}
use Rattle.rank_laws.specs.Runs.{IsFair}
use Rattle.rank_laws.proofs.Homes.{rank_of_key-in}

-- ---- what stands in a list of pairs that a pair gives

-- a child with a member
pub record IsKid (o : Opening) (c d : CellData) : Type 0 where
  pub digit : ℕ
  pub small : digit < 8
  pub it : d ≡ child c digit
  pub member : has_member o d ≡ true

-- a cell, or a child of it
pub data Lower (o : Opening) (c d : CellData) : Type 0 where
  Stays : leaf o c ≡ true → d ≡ c → Lower o c d
  Falls : leaf o c ≡ false → IsKid o c d → Lower o c d

below_small : (n : ℕ) → AllByRecursion (λ k. k < n) (below n)
below_small zero = tt
below_small (suc n) = (omega arith, each-weaker (λ k. k < n) (λ k. k < suc n) (λ k h. omega (arith, h)) (below n) (below_small n))

pub kids_are : (o : Opening) (c : CellData) → AllByRecursion (IsKid o c) (kids o c)
kids_are o c = each-map (λ k. (k < 8) × (has_member o (child c k) ≡ true)) (IsKid o c) (child c) (λ k h. record { digit = k; small = h.0; it = refl; member = h.1 })
    (filter (λ k. has_member o (child c k)) (below 8))
    (all_among (λ k. (k < 8) × (has_member o (child c k) ≡ true)) (filter (λ k. has_member o (child c k)) (below 8)) (λ k h. let u : Among k (below 8) × (has_member o (child c k) ≡ true) = among-kept (λ k. has_member o (child c k)) k (below 8) h in (each-among (λ k. k < 8) k (below 8) (below_small 8) u.0, u.1)))

down_are-by : (o : Opening) (c : CellData) (b : Bool) → leaf o c ≡ b → AllByRecursion (Lower o c) (cond b (c ∷ []) (kids o c))
down_are-by o c true e = (Stays e refl, tt)
down_are-by o c false e = each-weaker (IsKid o c) (Lower o c) (λ d h. Falls e h) (kids o c) (kids_are o c)

pub down_are : (o : Opening) (c : CellData) → AllByRecursion (Lower o c) (down o c)
down_are o c = down_are-by o c (leaf o c) refl

-- what a reached pair gives: two children of a cell that is no leaf, or, from different cells not both leaves, what is
-- lower
pub data IsGiven (o : Opening) (x y : Pair) : Type 0 where
  Parted : x.0 ≡ x.1 → leaf o x.0 ≡ false → IsKid o x.0 y.0 → IsKid o x.0 y.1 → IsGiven o x y
  Lowered : (leaf o x.0 && leaf o x.1) ≡ false → Lower o x.0 y.0 → Lower o x.1 y.1 → IsGiven o x y

each-pairs : (P : CellData → Type 0) (Q : Pair → Type 0) → ((d e : CellData) → P d → P e → Q (d, e)) → (ds : List CellData) → AllByRecursion P ds → AllByRecursion Q (over_pairs (λ d. (d, d) ∷ []) (λ d e. (d, e) ∷ []) ds)
each-pairs P Q h [] a = tt
each-pairs P Q h (d ∷ ds) a = (h d d a.0 a.0, each-append Q (flat_map (λ e. (d, e) ∷ []) ds) (over_pairs (λ d. (d, d) ∷ []) (λ d e. (d, e) ∷ []) ds) (each-flat_map P Q (λ e. (d, e) ∷ []) (λ e k. (h d e a.0 k, tt)) ds a.1) (each-pairs P Q h ds a.1))

each-both : (P R : CellData → Type 0) (Q : Pair → Type 0) → ((d e : CellData) → P d → R e → Q (d, e)) → (ds es : List CellData) → AllByRecursion P ds → AllByRecursion R es → AllByRecursion Q (over_both (λ d e. (d, e) ∷ []) ds es)
each-both P R Q h ds es a b = each-flat_map P Q (λ d. flat_map (λ e. (d, e) ∷ []) es) (λ d u. each-flat_map R Q (λ e. (d, e) ∷ []) (λ e v. (h d e u v, tt)) es b) ds a

or_false : (a b : Bool) → (a || b) ≡ false → a ≡ false
or_false true b h = h
or_false false b h = refl

pub given : (o : Opening) (x : Pair) → AllByRecursion (IsGiven o x) (gives o x)
unfolding gives
given o x = by (same_cell x.0 x.1) (leaf o x.0) (final o x.0 x.1) refl refl refl
  where
    by : (s l f : Bool) → same_cell x.0 x.1 ≡ s → leaf o x.0 ≡ l → final o x.0 x.1 ≡ f →
        AllByRecursion (IsGiven o x) (cond s (cond l [] (over_pairs (λ d. (d, d) ∷ []) (λ d e. (d, e) ∷ []) (kids o x.0))) (cond f [] (over_both (λ d e. (d, e) ∷ []) (down o x.0) (down o x.1))))
    by true true f e u v = tt
    by true false f e u v = each-pairs (IsKid o x.0) (IsGiven o x) (λ d e' a b. Parted ((same_cell-exact x.0 x.1).0 e) u a b) (kids o x.0) (kids_are o x.0)
    by false l true e u v = tt
    by false l false e u v = each-both (Lower o x.0) (Lower o x.1) (IsGiven o x) (λ d e' a b. Lowered (or_false (leaf o x.0 && leaf o x.1) (o.accept x.0 x.1) v) a b) (down o x.0) (down o x.1) (down_are o x.0) (down_are o x.1)

-- ---- depth falls

kid_level : (o : Opening) (c d : CellData) → IsKid o c d → d.level ≡ c.level + 1
kid_level o c d h = ap (λ t. t.level) h.it

lower_level : (o : Opening) (c d : CellData) → Lower o c d → ((leaf o c ≡ true) × (d.level ≡ c.level)) ⊎ ((c.level < 32) × (d.level ≡ c.level + 1))
lower_level o c d (Stays e h) = inl (e, ap (λ t. t.level) h)
lower_level o c d (Falls e h) = inr (shallow o c e, kid_level o c d h)

deeper_by : (o : Opening) (x y : Pair) → (leaf o x.0 && leaf o x.1) ≡ false → ((leaf o x.0 ≡ true) × (y.0.level ≡ x.0.level)) ⊎ ((x.0.level < 32) × (y.0.level ≡ x.0.level + 1)) → ((leaf o x.1 ≡ true) × (y.1.level ≡ x.1.level)) ⊎ ((x.1.level < 32) × (y.1.level ≡ x.1.level + 1)) → depth_of y < depth_of x
deeper_by o x y n (inl a) (inl b) = absurd (false≢true (sym n ∙ ap (λ t. t && leaf o x.1) a.0 ∙ b.0))
deeper_by o x y n (inl a) (inr b) = omega (arith, a.1, b.0, b.1)
deeper_by o x y n (inr a) (inl b) = omega (arith, a.0, a.1, b.1)
deeper_by o x y n (inr a) (inr b) = omega (arith, a.0, a.1, b.0, b.1)

deeper : (o : Opening) (x y : Pair) → IsGiven o x y → depth_of y < depth_of x
deeper o x y (Parted e l a b) = let u : x.0.level < 32 = shallow o x.0 l in let v : x.1.level ≡ x.0.level = ap (λ t. t.level) (sym e) in omega (arith, u, v, kid_level o x.0 y.0 a, kid_level o x.0 y.1 b)
deeper o x y (Lowered n a b) = deeper_by o x y n (lower_level o x.0 y.0 a) (lower_level o x.1 y.1 b)

pub gives_fall : (o : Opening) → IsFalling depth_of (gives o)
gives_fall o x y h = deeper o x y (each-among (IsGiven o x) y (gives o x) (given o x) h)

pub next_falls : (w : Whole) (r : ℕ) → IsFalling depth_of (next_of w r)
next_falls w r x y h = gives_fall (opening w) x y (among-kept (concerned w.keys r) y (gives (opening w) x) h).0

-- ---- an ordered list

one_put : (keys : Keys CellData) (c z : CellData) (ds : List CellData) → is_one z (put_in keys c ds) ≡ (same_cell z c || is_one z ds)
one_put keys c z [] = refl
one_put keys c z (d ∷ ds) = by (goes_first keys d c) (one_put keys c z ds)
  where
    swap : (a b t : Bool) → (a || (b || t)) ≡ (b || (a || t))
    swap true true t = refl
    swap true false t = refl
    swap false b t = refl

    by : (b : Bool) → is_one z (put_in keys c ds) ≡ (same_cell z c || is_one z ds) → is_one z (cond b (d ∷ put_in keys c ds) (c ∷ d ∷ ds)) ≡ (same_cell z c || is_one z (d ∷ ds))
    by true rest = ap (λ t. same_cell z d || t) rest ∙ swap (same_cell z d) (same_cell z c) (is_one z ds)
    by false rest = refl

one_sorted : (keys : Keys CellData) (z : CellData) (cs : List CellData) → is_one z (sorted keys cs) ≡ is_one z cs
one_sorted keys z [] = refl
one_sorted keys z (c ∷ cs) = one_put keys c z (sorted keys cs) ∙ ap (λ t. same_cell z c || t) (one_sorted keys z cs)

sum_put : (f : CellData → ℕ) (keys : Keys CellData) (c : CellData) (ds : List CellData) → sum_by f (put_in keys c ds) ≡ f c + sum_by f ds
sum_put f keys c [] = sum_by-cons f c []
sum_put f keys c (d ∷ ds) = by (goes_first keys d c) (sum_put f keys c ds)
  where
    by : (b : Bool) → sum_by f (put_in keys c ds) ≡ f c + sum_by f ds → sum_by f (cond b (d ∷ put_in keys c ds) (c ∷ d ∷ ds)) ≡ f c + sum_by f (d ∷ ds)
    by true rest = omega (arith, sum_by-cons f d (put_in keys c ds), sum_by-cons f d ds, rest)
    by false rest = sum_by-cons f c (d ∷ ds)

pub sum_sorted : (f : CellData → ℕ) (keys : Keys CellData) (cs : List CellData) → sum_by f (sorted keys cs) ≡ sum_by f cs
sum_sorted f keys [] = refl
sum_sorted f keys (c ∷ cs) = omega (arith, sum_put f keys c (sorted keys cs), sum_by-cons f c cs, sum_sorted f keys cs)

-- a cell of the list stands in it once
pub in_order-times : (keys : Keys CellData) (c : CellData) (cs : List CellData) → sum_by (λ d. cond {A = ℕ} (same_cell c d) 1 0) (in_order keys cs) ≡ cond (is_one c cs) 1 0
unfolding in_order
in_order-times keys c cs =
    sum_sorted (λ d. cond {A = ℕ} (same_cell c d) 1 0) keys (distinct same_cell cs)
    ∙ sum_by-same (λ d. cond {A = ℕ} (same_cell c d) 1 0) (λ d. cond {A = ℕ} (same_cell d c) 1 0) (λ d. ap {B = ℕ} (λ b. cond b 1 0) (turned_cells c d)) (distinct same_cell cs)
    ∙ times-distinct same_cell same_cell-exact c cs

one_distinct : (c : CellData) (cs : List CellData) → is_one c (distinct same_cell cs) ≡ is_one c cs
one_distinct c [] = refl
one_distinct c (d ∷ ds) = by (is_one d ds) refl (one_distinct c ds)
  where
    inside : (b : Bool) → same_cell c d ≡ b → is_one d ds ≡ true → is_one c ds ≡ (b || is_one c ds)
    inside true e h = ap (λ t. is_one t ds) ((same_cell-exact c d).0 e) ∙ h
    inside false e h = refl

    by : (b : Bool) → is_one d ds ≡ b → is_one c (distinct same_cell ds) ≡ is_one c ds → is_one c (cond b (distinct same_cell ds) (d ∷ distinct same_cell ds)) ≡ (same_cell c d || is_one c ds)
    by true e rest = rest ∙ inside (same_cell c d) refl e
    by false e rest = ap (λ t. same_cell c d || t) rest

pub in_order-same : (keys : Keys CellData) (c : CellData) (cs : List CellData) → is_one c (in_order keys cs) ≡ is_one c cs
unfolding in_order
in_order-same keys c cs = one_sorted keys c (distinct same_cell cs) ∙ one_distinct c cs

pub at_most_one : (b : Bool) → cond {A = ℕ} b 1 0 ≤ 1
at_most_one true = omega arith
at_most_one false = omega arith

pub rules_fair : (w : Whole) → IsWhole w → IsFair (rules_of w)
rules_fair w h = record {
  falls = next_falls w;
  home_in = λ c. rank_of_key-in w.keys.bounds (w.keys.last c) h.keys.some;
  in_order = in_order-same w.keys;
  once = λ c cs. let u : cond {A = ℕ} (is_one c cs) 1 0 ≤ 1 = at_most_one (is_one c cs) in omega (arith, in_order-times w.keys c cs, u);
}
