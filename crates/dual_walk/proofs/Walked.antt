-- A walk's next step.
use Rattle.std.proofs.Common.{◌≡◌, ◌≢◌, ℕ, ◌+◌, ◌^◌, ◌-◌, ◌<◌, ◌≤◌, Bool, true, false, cond, eqb, List, [], ◌∷◌, ◌++◌, map, length, sum_by, refl, ap, sym, subst, ◌∙◌, arith, ◌⊎◌, inl, inr, length-append, fold, ◌+ℤ◌, pos, set, length-set, get_or-set_other, get_or-set_same}
use Rattle.std.specs.List.{AllByRecursion}
use Rattle.std.proofs.lemmas.Int.{ints}
use Rattle.std.proofs.lemmas.Bool.{cases_eq, cases_lt, eq-eqb, ne_eqb}
use Rattle.std.proofs.lemmas.List.{map-append}
use Rattle.std.proofs.lemmas.List.Sums.{sum_by-append, sum_by_push}
use Rattle.fixed_point.specs.declared.V3.{V3}
use Rattle.fixed_point.specs.Vectors.{origin, plus, negative, sum_of, IsAtMost}
use Rattle.cell_space.specs.Cells.{CellData, root_cell, same_cell}
use Rattle.cell_space.proofs.Cells.{same_cell-exact}
use Rattle.nbody_model.specs.Covers.{orient}
use Rattle.nbody_model.specs.Force.{force_on}
use Rattle.model_laws.proofs.Among.{each-append, each-map}
use Rattle.octree_build.specs.Trees.{TreeData, IsTree, cells_of}
use Rattle.octree_build.specs.Laws.{ComesBefore}
use Rattle.octree_build.proofs.Asked.{tree_order}
use Rattle.hilbert_keys.specs.Curve.{number_of}
use Rattle.dual_walk.specs.declared.pairs.Pair.{Pair}
use Rattle.dual_walk.specs.Places.{moved, value_at}
use Rattle.dual_walk.specs.Courses.{Course, force_by, asked_by, cell_in, HasForces}
use Rattle.dual_walk.specs.Steps.{cells_at, depth_of, below_sum, taken_weight, asked_weight, IsListed, Opens, IsStacked, Takes, TakesNone, Looks, IsAt, work_left}
use Rattle.dual_walk.proofs.Moves.{sum_moved}
use Rattle.dual_walk.proofs.Children.{in_order_at, as_many}
use Rattle.dual_walk.proofs.Reached.{given, one, sum_none, sum_step}
use Rattle.dual_walk.proofs.Stacks.{stacked_next}

each-front : {X : Type 0} (P : X → Type 0) (xs ys : List X) → AllByRecursion P (xs ++ ys) → AllByRecursion P xs
each-front P [] ys a = tt
each-front P (x ∷ xs) ys a = (a.0, each-front P xs ys a.1)

each-back : {X : Type 0} (P : X → Type 0) (xs ys : List X) → AllByRecursion P (xs ++ ys) → AllByRecursion P ys
each-back P [] ys a = a
each-back P (x ∷ xs) ys a = each-back P xs ys a.1

-- ---- vectors

plus_again : (u v w : V3) → plus (plus u v) w ≡ plus u (plus v w)
plus_again u v w =
    let a : u.x +ℤ v.x +ℤ w.x ≡ u.x +ℤ (v.x +ℤ w.x) = omega (arith, ints) in
    let b : u.y +ℤ v.y +ℤ w.y ≡ u.y +ℤ (v.y +ℤ w.y) = omega (arith, ints) in
    let c : u.z +ℤ v.z +ℤ w.z ≡ u.z +ℤ (v.z +ℤ w.z) = omega (arith, ints) in
    λ i. record { x = a i; y = b i; z = c i }

pub plus_nothing : (v : V3) → plus v origin ≡ v
plus_nothing v =
    let a : v.x +ℤ pos 0 ≡ v.x = omega (arith, ints) in
    let b : v.y +ℤ pos 0 ≡ v.y = omega (arith, ints) in
    let c : v.z +ℤ pos 0 ≡ v.z = omega (arith, ints) in
    λ i. record { x = a i; y = b i; z = c i }

fold_push : {X : Type 0} (f : X → V3) (xs : List X) (x : X) (v : V3) → fold (λ total x. plus total (f x)) v (xs ++ x ∷ []) ≡ plus (fold (λ total x. plus total (f x)) v xs) (f x)
fold_push f [] x v = refl
fold_push f (y ∷ ys) x v = fold_push f ys x (plus v (f y))

pub sum_push : {X : Type 0} (f : X → V3) (xs : List X) (x : X) → sum_of f (xs ++ x ∷ []) ≡ plus (sum_of f xs) (f x)
sum_push f xs x = fold_push f xs x origin

-- ---- places

-- what a force at two places does to a third
pub moved_at : (ps : List V3) (i j k : ℕ) (f : V3) → i < length ps → j < length ps → i ≢ j → value_at (moved ps i j f) k ≡ plus (value_at ps k) (cond (eqb k i) f (cond (eqb k j) (negative f) origin))
unfolding moved
moved_at ps i j k f h l ne = by (cases_eq k i) (cases_eq k j)
  where
    up : V3
    up = plus (value_at ps i) f

    low : V3
    low = plus (value_at ps j) (negative f)

    by : (k ≡ i) ⊎ (k ≡ i → ⊥) → (k ≡ j) ⊎ (k ≡ j → ⊥) → value_at (set (set ps i up) j low) k ≡ plus (value_at ps k) (cond (eqb k i) f (cond (eqb k j) (negative f) origin))
    by (inl e) q =
        ap (λ m. value_at (set (set ps i up) j low) m) e
        ∙ get_or-set_other (set ps i up) j i low origin (λ r. ne r)
        ∙ get_or-set_same ps i up origin h
        ∙ ap (λ m. plus (value_at ps m) f) (sym e)
        ∙ ap (λ b. plus (value_at ps k) (cond b f (cond (eqb k j) (negative f) origin))) (sym (eq-eqb k i e))
    by (inr n) (inl e) =
        ap (λ m. value_at (set (set ps i up) j low) m) e
        ∙ get_or-set_same (set ps i up) j low origin (omega (arith, l, length-set ps i up))
        ∙ ap (λ m. plus (value_at ps m) (negative f)) (sym e)
        ∙ ap (λ b. plus (value_at ps k) (cond b (negative f) origin)) (sym (eq-eqb k j e))
        ∙ ap (λ b. plus (value_at ps k) (cond b f (cond (eqb k j) (negative f) origin))) (sym (ne_eqb k i n))
    by (inr n) (inr m) =
        get_or-set_other (set ps i up) j k low origin m
        ∙ get_or-set_other ps i k up origin n
        ∙ sym (plus_nothing (value_at ps k))
        ∙ ap (λ b. plus (value_at ps k) (cond b (negative f) origin)) (sym (ne_eqb k j m))
        ∙ ap (λ b. plus (value_at ps k) (cond b f (cond (eqb k j) (negative f) origin))) (sym (ne_eqb k i n))

pub length-moved : (ps : List V3) (i j : ℕ) (f : V3) → length (moved ps i j f) ≡ length ps
unfolding moved
length-moved ps i j f = length-set (set ps i (plus (value_at ps i) f)) j (plus (value_at ps j) (negative f)) ∙ length-set ps i (plus (value_at ps i) f)

-- ---- steps

module _ (w : Course) (t : TreeData) (tree : IsTree w.setup w.bodies t) where
  abbrev cells : Pair → CellData × CellData
  cells x = cells_at t.nodes x

  abbrev at : ℕ → CellData
  at k = cell_in t.nodes k

  -- each cell has one place
  pub one_place : (k m : ℕ) → k < length t.nodes → m < length t.nodes → at k ≡ at m → k ≡ m
  one_place k m h l e = by (cases_eq k m)
    where
      later : (k m : ℕ) → k < m → m < length t.nodes → at k ≡ at m → ⊥
      later k m u l e = from (in_order_at root_cell (cells_of t.nodes) (tree_order w.setup w.bodies t tree) k m u (omega (arith, l, as_many w t tree)))
        where
          from : ComesBefore (at k) (at m) → ⊥
          from (inl v) = let q : (at k).level ≡ (at m).level = ap (λ c. c.level) e in omega (arith, v, q)
          from (inr v) = let q : number_of (at k) ≡ number_of (at m) = ap number_of e in omega (arith, v.1, q)

      order : (k ≡ m → ⊥) → (k < m) ⊎ (m ≤ k) → k ≡ m
      order n (inl u) = absurd (later k m u l e)
      order n (inr u) = by' (cases_lt m k)
        where
          by' : (m < k) ⊎ (k ≤ m) → k ≡ m
          by' (inl v) = absurd (later m k v h (sym e))
          by' (inr v) = omega (arith, u, v)

      by : (k ≡ m) ⊎ (k ≡ m → ⊥) → k ≡ m
      by (inl q) = q
      by (inr n) = order n (cases_lt k m)

  pub popped : (rest : List Pair) (x : Pair) → AllByRecursion (IsListed w t.nodes) (rest ++ x ∷ []) → IsListed w t.nodes x
  popped rest x a = (each-back (IsListed w t.nodes) rest (x ∷ []) a).0

  -- a weight over what is reached from a pair on is that of the pair and that over what it opens
  one_sum : (weight : CellData × CellData → ℕ) (x : Pair) (ys : List Pair) → Opens w t.nodes x ys → one w weight (cells x) ≡ weight (cells x) + sum_by (one w weight) (map (cells_at t.nodes) ys)
  one_sum weight x ys h = by h.shallow
    where
      by : (ys ≡ []) ⊎ (depth_of (cells x) < 32) → one w weight (cells x) ≡ weight (cells x) + sum_by (one w weight) (map (cells_at t.nodes) ys)
      by (inl e) =
          let none : given w (cells x) ≡ [] = sym h.cells ∙ ap (map (cells_at t.nodes)) e in
          let zero' : sum_by (one w weight) (map (cells_at t.nodes) ys) ≡ 0 = ap (λ zs. sum_by (one w weight) (map (cells_at t.nodes) zs)) e in
          omega (arith, sum_none w weight (cells x) none, zero')
      by (inr low) =
          let deeper : AllByRecursion (λ y. depth_of y ≡ depth_of (cells x) + 1) (given w (cells x)) =
          subst (λ (zs : List (CellData × CellData)). AllByRecursion (λ y. depth_of y ≡ depth_of (cells x) + 1) zs) h.cells (each-map (λ y. depth_of (cells y) ≡ depth_of (cells x) + 1) (λ y. depth_of y ≡ depth_of (cells x) + 1) (cells_at t.nodes) (λ y e. e) ys h.deeper) in
          sum_step w weight (cells x) low deeper ∙ ap (λ zs. weight (cells x) + sum_by (one w weight) zs) (sym h.cells)

  pub next_sum : (weight : CellData × CellData → ℕ) (rest ys : List Pair) (x : Pair) → Opens w t.nodes x ys → below_sum w weight (map (cells_at t.nodes) (rest ++ x ∷ [])) ≡ weight (cells x) + below_sum w weight (map (cells_at t.nodes) (rest ++ ys))
  unfolding below_sum
  next_sum weight rest ys x h =
      omega (
        arith,
        ap (sum_by (one w weight)) (map-append (cells_at t.nodes) rest (x ∷ [])),
        sum_by_push (one w weight) (map (cells_at t.nodes) rest) (cells x),
        ap (sum_by (one w weight)) (map-append (cells_at t.nodes) rest ys),
        sum_by-append (one w weight) (map (cells_at t.nodes) rest) (map (cells_at t.nodes) ys),
        one_sum weight x ys h,
      )

  -- there is less to do
  pub work_less : (rest ys : List Pair) (x : Pair) → Opens w t.nodes x ys → work_left w t.nodes (rest ++ ys) < work_left w t.nodes (rest ++ x ∷ [])
  work_less rest ys x h = omega (arith, next_sum (λ y. 1) rest ys x h)

  -- the force of a pair on a node
  force_at_place : (f : CellData × CellData → V3) (x : Pair) (k : ℕ) → x.a < length t.nodes → x.b < length t.nodes → k < length t.nodes → force_on f (at k) (cells x) ≡ cond (eqb k x.a) (f (cells x)) (cond (eqb k x.b) (negative (f (cells x))) origin)
  unfolding force_on
  force_at_place f x k h l m = λ i. cond (test x.a h i) (f (cells x)) (cond (test x.b l i) (negative (f (cells x))) origin)
    where
      test : (j : ℕ) → j < length t.nodes → same_cell (at k) (at j) ≡ eqb k j
      test j u = by (cases_eq k j)
        where
          by : (k ≡ j) ⊎ (k ≡ j → ⊥) → same_cell (at k) (at j) ≡ eqb k j
          by (inl e) = (same_cell-exact (at k) (at j)).1 (ap at e) ∙ sym (eq-eqb k j e)
          by (inr n) = no (same_cell (at k) (at j)) refl ∙ sym (ne_eqb k j n)
            where
              no : (b : Bool) → same_cell (at k) (at j) ≡ b → b ≡ false
              no true e = absurd (n (one_place k j m u ((same_cell-exact (at k) (at j)).0 e)))
              no false e = refl

  -- one more pair is taken
  forces_more : (taken : List (CellData × CellData)) (start places : List V3) (x : Pair) → length start ≡ length t.nodes → HasForces w t.nodes taken start places → x.a < length t.nodes → x.b < length t.nodes → x.a ≢ x.b →
      HasForces w t.nodes (taken ++ cells x ∷ []) start (moved places x.a x.b (force_by w (cells x)))
  forces_more taken start places x long h u v ne = record {
    long = length-moved places x.a x.b (force_by w (cells x)) ∙ h.long;
    each = λ k l.
        moved_at places x.a x.b k (force_by w (cells x)) (omega (arith, u, h.long, long)) (omega (arith, v, h.long, long)) ne
        ∙ ap (λ z. plus z (cond (eqb k x.a) (force_by w (cells x)) (cond (eqb k x.b) (negative (force_by w (cells x))) origin))) (h.each k l)
        ∙ ap (plus (plus (value_at start k) (sum_of (force_on (force_by w) (at k)) taken))) (sym (force_at_place (force_by w) x k u v (omega (arith, l, long))))
        ∙ plus_again (value_at start k) (sum_of (force_on (force_by w) (at k)) taken) (force_on (force_by w) (at k) (cells x))
        ∙ ap (plus (value_at start k)) (sym (sum_push (force_on (force_by w) (at k)) taken (cells x)));
  }

  pub at_step : (rest next : List Pair) (start places places' : List V3) (accepts asked asked' count n : ℕ) (x : Pair) → length start ≡ length t.nodes → IsAt w t.nodes (rest ++ x ∷ []) start places accepts asked count →
      Looks w t.nodes x rest next places places' n → asked' ≡ asked + asked_weight w (cells x) → IsAt w t.nodes next start places' accepts asked' (count + n)
  at_step rest next start places places' accepts asked asked' count n x long a l e = subst (λ zs. IsAt w t.nodes zs start places' accepts asked' (count + n)) (sym l.pushes.list) (by l.taken)
    where
      P : List Pair → Type 0
      P = AllByRecursion (IsListed w t.nodes)

      listed : P (rest ++ l.pushes.more)
      listed = each-append (IsListed w t.nodes) rest l.pushes.more (each-front (IsListed w t.nodes) rest (x ∷ []) a.listed) l.pushes.opens.listed

      stacked : IsStacked t.nodes 0 (rest ++ l.pushes.more)
      stacked = stacked_next t.nodes rest l.pushes.more x a.stacked l.pushes.opens.deeper l.pushes.opens.few

      looked : asked' + below_sum w (asked_weight w) (map (cells_at t.nodes) (rest ++ l.pushes.more)) ≡ accepts + length (asked_by w)
      looked = omega (arith, e, a.looked, next_sum (asked_weight w) rest l.pushes.more x l.pushes.opens)

      by : Takes w t.nodes x places places' n ⊎ TakesNone w t.nodes x places places' n → IsAt w t.nodes (rest ++ l.pushes.more) start places' accepts asked' (count + n)
      by (inr k) = record {
        listed = listed;
        stacked = stacked;
        taken = a.taken;
        worked = λ weight. omega (arith, a.worked weight, next_sum (taken_weight w weight) rest l.pushes.more x l.pushes.opens, ap {B = ℕ} (λ b. cond b (weight (orient (cells x))) 0) k.is);
        looked = looked;
        counted = omega (arith, a.counted, k.counted);
        kept = ap (sum_of (λ v. v)) k.same ∙ a.kept;
        forces = subst (HasForces w t.nodes a.taken start) (sym k.same) a.forces;
        small = a.small;
      }
      by (inl k) = record {
        listed = listed;
        stacked = stacked;
        taken = a.taken ++ cells k.turned ∷ [];
        worked = λ weight. omega (
          arith,
          a.worked weight,
          next_sum (taken_weight w weight) rest l.pushes.more x l.pushes.opens,
          ap {B = ℕ} (λ b. cond b (weight (orient (cells x))) 0) k.is,
          sum_by_push weight a.taken (cells k.turned),
          ap weight k.cells,
        );
        looked = looked;
        counted = omega (arith, a.counted, k.counted, length-append a.taken (cells k.turned ∷ []));
        kept = ap (sum_of (λ v. v)) k.moved ∙ sum_moved places k.turned.a k.turned.b (force_by w (cells k.turned)) (omega (arith, k.first, a.forces.long, long)) (omega (arith, k.second, a.forces.long, long)) k.differ ∙ a.kept;
        forces = subst (HasForces w t.nodes (a.taken ++ cells k.turned ∷ []) start) (sym k.moved) (forces_more a.taken start places k.turned long a.forces k.first k.second k.differ);
        small = each-append (λ y. IsAtMost (2 ^ 87 - 1) (force_by w y)) a.taken (cells k.turned ∷ []) a.small (k.small, tt);
      }
