-- What a walk looks at of two bodies from one cell on is their chain, taken both ways round.
use Rattle.std.proofs.Common.{◌≡◌, ℕ, zero, suc, ◌+◌, ◌<◌, Bool, true, false, cond, eqb, ◌&&◌, ◌||◌, List, [], ◌∷◌, ◌++◌, sum_by, refl, ap, sym, ◌∙◌, arith}
use Rattle.std.specs.List.{filter, flat_map}
use Rattle.std.proofs.lemmas.List.Sums.{sum_by-append, sum_by-cons}
use Rattle.std.proofs.lemmas.Bool.{and_left, and_right, cond-false, false≢true}
use Rattle.cell_space.specs.Cells.{Position, CellData, digit, child, contains, below, root_cell, same_place, InBox}
use Rattle.cell_space.proofs.Cells.{contains_child, digit_below, root_contains}
use Rattle.nbody_model.specs.Covers.{Opening, leaf, final, step, chain_apart, chain_same, chain}
use Rattle.nbody_model.specs.Walks.{has_member, kids, visits_apart, visits_same, visits, over_pairs}
use Rattle.model_laws.specs.Laws.{IsFair}
use Rattle.model_laws.proofs.Among.{Among}
use Rattle.model_laws.proofs.Leaves.{no_member, shallow, leaf_apart}
use Rattle.model_laws.proofs.Sums.{sum_by-same, sum_by-flat_map, sum_by-plus, sum_by-one, pair_sum, pair_sum-pick, pair_sum-mapped, pair_sum-same, pair_sum-filtered, pair_sum-cond}
use Rattle.model_laws.proofs.Chains.{hits, both, IsEven, hits_apart}

and_comm : (a b : Bool) → (a && b) ≡ (b && a)
and_comm true true = refl
and_comm true false = refl
and_comm false true = refl
and_comm false false = refl

or_same : (a b c d : Bool) → (a && b) ≡ (b && a) → c ≡ d → ((a && b) || c) ≡ ((b && a) || d)
or_same a b c d e h = cc

pub final_fair : (o : Opening) → IsFair o → (a b : CellData) → final o a b ≡ final o b a
final_fair o fair a b = or_same (leaf o a) (leaf o b) (o.accept a b) (o.accept b a) (and_comm (leaf o a) (leaf o b)) (fair a b)

turn_step : (g : CellData × CellData → ℕ) (a b : CellData) (xs ys : List (CellData × CellData)) (t u : Bool) → g (a, b) ≡ g (b, a) → sum_by g xs ≡ sum_by g ys → t ≡ u →
    sum_by g (cond t ((a, b) ∷ []) ((a, b) ∷ xs)) ≡ sum_by g (cond u ((b, a) ∷ []) ((b, a) ∷ ys))
turn_step g a b xs ys true true e h k = omega (arith, sum_by-one g (a, b), sum_by-one g (b, a), e)
turn_step g a b xs ys true false e h k = absurd (false≢true (sym k))
turn_step g a b xs ys false true e h k = absurd (false≢true k)
turn_step g a b xs ys false false e h k = omega (arith, sum_by-cons g (a, b) xs, sum_by-cons g (b, a) ys, e, h)

-- the chain of q and p is the chain of p and q turned round
pub chain-turned : (o : Opening) → IsFair o → (g : CellData × CellData → ℕ) → IsEven g → (n : ℕ) (p q : Position) (a b : CellData) → sum_by g (chain_apart o n q p a b) ≡ sum_by g (chain_apart o n p q b a)
unfolding chain_apart
chain-turned o fair g even zero p q a b = omega (arith, sum_by-one g (a, b), sum_by-one g (b, a), even a b)
chain-turned o fair g even (suc n) p q a b =
    turn_step g a b (chain_apart o n q p (step o q a) (step o p b)) (chain_apart o n p q (step o p b) (step o q a)) (final o a b) (final o b a) (even a b)
    (chain-turned o fair g even n p q (step o q a) (step o p b)) (final_fair o fair a b)

hits-append : (g : CellData × CellData → ℕ) (p q : Position) (xs ys : List (CellData × CellData)) → hits g p q (xs ++ ys) ≡ hits g p q xs + hits g p q ys
hits-append g p q xs ys = sum_by-append (λ x. cond (contains x.0 p && contains x.1 q) (g x) 0) xs ys

hits-flat_map : (g : CellData × CellData → ℕ) (p q : Position) (h : CellData → List (CellData × CellData)) (ds : List CellData) → hits g p q (flat_map h ds) ≡ sum_by (λ d. hits g p q (h d)) ds
hits-flat_map g p q h ds = sum_by-flat_map (λ x. cond (contains x.0 p && contains x.1 q) (g x) 0) h ds

both-flat_map : (g : CellData × CellData → ℕ) (p q : Position) (h : CellData → List (CellData × CellData)) (ds : List CellData) → both g p q (flat_map h ds) ≡ sum_by (λ d. hits g p q (h d) + hits g q p (h d)) ds
both-flat_map g p q h ds = omega (arith, hits-flat_map g p q h ds, hits-flat_map g q p h ds, sum_by-plus (λ d. hits g p q (h d)) (λ d. hits g q p (h d)) ds)

-- the pairs of a list of cells, as a sum
both-over_pairs : (g : CellData × CellData → ℕ) (p q : Position) (f : CellData → List (CellData × CellData)) (h : CellData → CellData → List (CellData × CellData)) (u : CellData → CellData → ℕ) → ((d e : CellData) → hits g p q (h d e) + hits g q p (h d e) ≡ u d e + u e d) → (ds : List CellData) → both g p q (over_pairs f h ds) ≡ pair_sum (λ d. both g p q (f d)) u ds
both-over_pairs g p q f h u e [] = refl
both-over_pairs g p q f h u e (d ∷ ds) =
    omega (
      arith,
      hits-append g p q (f d) (flat_map (h d) ds ++ over_pairs f h ds),
      hits-append g p q (flat_map (h d) ds) (over_pairs f h ds),
      hits-append g q p (f d) (flat_map (h d) ds ++ over_pairs f h ds),
      hits-append g q p (flat_map (h d) ds) (over_pairs f h ds),
      both-flat_map g p q (h d) ds,
      sum_by-same (λ y. hits g p q (h d y) + hits g q p (h d y)) (λ y. u d y + u y d) (λ y. e d y) ds,
      both-over_pairs g p q f h u e ds,
    )

regroup : (u v a b : Bool) (x : ℕ) → cond ((u && a) && (v && b)) x 0 ≡ cond (a && b) (cond (u && v) x 0) 0
regroup true true a b x = refl
regroup true false true true x = refl
regroup true false true false x = refl
regroup true false false b x = refl
regroup false v true true x = refl
regroup false v true false x = refl
regroup false v false b x = refl

pub sum-below : (f g : ℕ → ℕ) (n : ℕ) → ((k : ℕ) → k < n → f k ≡ g k) → sum_by f (below n) ≡ sum_by g (below n)
sum-below f g zero h = refl
sum-below f g (suc n) h = omega (arith, sum_by-cons f n (below n), sum_by-cons g n (below n), h n (omega arith), sum-below f g n (λ k l. h k (omega arith)))

-- a sum over the pairs of numbers below a bound looks at these alone
pair_sum-below : (f g : ℕ → ℕ) (u v : ℕ → ℕ → ℕ) (n : ℕ) → ((k : ℕ) → k < n → f k ≡ g k) → ((k m : ℕ) → k < n → m < n → u k m ≡ v k m) → pair_sum f u (below n) ≡ pair_sum g v (below n)
pair_sum-below f g u v zero e r = refl
pair_sum-below f g u v (suc n) e r =
    omega (
      arith,
      e n (omega arith),
      sum-below (λ y. u n y + u y n) (λ y. v n y + v y n) n (λ k l. omega (arith, r n k (omega arith) (omega arith), r k n (omega arith) (omega arith))),
      pair_sum-below f g u v n (λ k l. e k (omega arith)) (λ k m l j. r k m (omega arith) (omega arith)),
    )

module _ (o : Opening) (fair : IsFair o) (p q : Position) (in_p : Among p o.positions) (in_q : Among q o.positions)
    (g : CellData × CellData → ℕ) (even : IsEven g) (differ : same_place p q ≡ false) where
  abbrev apart_at : ℕ → CellData → CellData → ℕ
  apart_at n d e = cond (contains d p && contains e q) (sum_by g (chain_apart o n p q d e)) 0

  abbrev same_at : ℕ → CellData → ℕ
  same_at n d = cond (contains d p && contains d q) (sum_by g (chain_same o n p q d)) 0

  crossed : (n : ℕ) (d e : CellData) → hits g p q (visits_apart o n d e) + hits g q p (visits_apart o n d e) ≡ apart_at n d e + apart_at n e d
  crossed n d e = omega (
    arith,
    hits_apart o p q in_p in_q g n d e,
    hits_apart o q p in_q in_p g n d e,
    ap (λ x. cond (contains d q && contains e p) x 0) (chain-turned o fair g even n p q d e),
    ap (λ t. cond t (sum_by g (chain_apart o n p q e d)) 0) (and_comm (contains d q) (contains e p)),
  )

  without : (n : ℕ) (d : CellData) → has_member o d ≡ false → (same_at n d ≡ 0) × ((y : CellData) → apart_at n d y + apart_at n y d ≡ 0)
  without n d none =
      let lost_p : contains d p ≡ false = no_member o p in_p d none in
      let lost_q : contains d q ≡ false = no_member o q in_q d none in (
        cond-false (contains d p && contains d q) (sum_by g (chain_same o n p q d)) 0 (and_left (contains d p) (contains d q) lost_p),
        λ y. omega (
          arith,
          cond-false (contains d p && contains y q) (sum_by g (chain_apart o n p q d y)) 0 (and_left (contains d p) (contains y q) lost_p),
          cond-false (contains y p && contains d q) (sum_by g (chain_apart o n p q y d)) 0 (and_right (contains y p) (contains d q) lost_q),
        ),
      )

  -- the children of c, as a sum
  kids_pairs : (n : ℕ) (c : CellData) → c.level < 32 →
      pair_sum (λ d. same_at n d) (λ d e. apart_at n d e) (kids o c)
      ≡ cond (contains c p && contains c q) (cond (eqb (digit p c.level) (digit q c.level)) (sum_by g (chain_same o n p q (child c (digit p c.level)))) (sum_by g (chain_apart o n p q (child c (digit p c.level)) (child c (digit q c.level))))) 0
  kids_pairs n c low =
      pair_sum-mapped (λ d. same_at n d) (λ d e. apart_at n d e) (child c) (filter (λ k. has_member o (child c k)) (below 8))
      ∙ pair_sum-filtered (λ k. has_member o (child c k)) (λ k. same_at n (child c k)) (λ k m. apart_at n (child c k) (child c m))
      (λ k none. ((without n (child c k) none).0, λ m. (without n (child c k) none).1 (child c m))) (below 8)
      ∙ pair_sum-below (λ k. same_at n (child c k))
      (λ k. cond (contains c p && contains c q) (cond (eqb k (digit p c.level) && eqb k (digit q c.level)) (sum_by g (chain_same o n p q (child c k))) 0) 0)
      (λ k m. apart_at n (child c k) (child c m))
      (λ k m. cond (contains c p && contains c q) (cond (eqb k (digit p c.level) && eqb m (digit q c.level)) (sum_by g (chain_apart o n p q (child c k) (child c m))) 0) 0) 8
      (λ k l. ap (λ b. cond (b && contains (child c k) q) (sum_by g (chain_same o n p q (child c k))) 0) (contains_child c k p low l)
      ∙ ap (λ b. cond ((eqb k (digit p c.level) && contains c p) && b) (sum_by g (chain_same o n p q (child c k))) 0) (contains_child c k q low l)
      ∙ regroup (eqb k (digit p c.level)) (eqb k (digit q c.level)) (contains c p) (contains c q) (sum_by g (chain_same o n p q (child c k))))
      (λ k m l j. ap (λ b. cond (b && contains (child c m) q) (sum_by g (chain_apart o n p q (child c k) (child c m))) 0) (contains_child c k p low l)
      ∙ ap (λ b. cond ((eqb k (digit p c.level) && contains c p) && b) (sum_by g (chain_apart o n p q (child c k) (child c m))) 0) (contains_child c m q low j)
      ∙ regroup (eqb k (digit p c.level)) (eqb m (digit q c.level)) (contains c p) (contains c q) (sum_by g (chain_apart o n p q (child c k) (child c m))))
      ∙ pair_sum-cond (contains c p && contains c q) (λ k. cond (eqb k (digit p c.level) && eqb k (digit q c.level)) (sum_by g (chain_same o n p q (child c k))) 0)
      (λ k m. cond (eqb k (digit p c.level) && eqb m (digit q c.level)) (sum_by g (chain_apart o n p q (child c k) (child c m))) 0) (below 8)
      ∙ ap (λ x. cond (contains c p && contains c q) x 0) (pair_sum-pick (λ k. sum_by g (chain_same o n p q (child c k))) (λ k m. sum_by g (chain_apart o n p q (child c k) (child c m))) (digit p c.level) (digit q c.level) 8 (digit_below p c.level) (digit_below q c.level))

  cond-under : (t : Bool) (xs ys : List (CellData × CellData)) → cond t (sum_by g xs) (sum_by g ys) ≡ sum_by g (cond t xs ys)
  cond-under true x y = refl
  cond-under false x y = refl

  kids_alike : (f h : CellData → ℕ) (u : CellData → CellData → ℕ) (c : CellData) → ((k : ℕ) → f (child c k) ≡ h (child c k)) → pair_sum f u (kids o c) ≡ pair_sum h u (kids o c)
  kids_alike f h u c e =
      pair_sum-mapped f u (child c) (filter (λ k. has_member o (child c k)) (below 8))
      ∙ pair_sum-same (λ k. f (child c k)) (λ k. h (child c k)) (λ k m. u (child c k) (child c m)) (λ k m. u (child c k) (child c m)) e (λ k m. refl) (filter (λ k. has_member o (child c k)) (below 8))
      ∙ sym (pair_sum-mapped h u (child c) (filter (λ k. has_member o (child c k)) (below 8)))

  same_step : (n : ℕ) (c : CellData) (t : Bool) → leaf o c ≡ t → ((k : ℕ) → both g p q (visits_same o n (child c k)) ≡ same_at n (child c k)) →
      both g p q (cond t [] (over_pairs (visits_same o n) (visits_apart o n) (kids o c)))
      ≡ cond (contains c p && contains c q) (sum_by g (cond (eqb (digit p c.level) (digit q c.level)) (chain_same o n p q (child c (digit p c.level))) (chain_apart o n p q (child c (digit p c.level)) (child c (digit q c.level))))) 0
  same_step n c true e rest =
      sym (cond-false (contains c p && contains c q) (sum_by g (cond (eqb (digit p c.level) (digit q c.level)) (chain_same o n p q (child c (digit p c.level))) (chain_apart o n p q (child c (digit p c.level)) (child c (digit q c.level))))) 0
      (leaf_apart o p q in_p in_q differ c e))
  same_step n c false e rest =
      both-over_pairs g p q (visits_same o n) (visits_apart o n) (λ d e. apart_at n d e) (crossed n) (kids o c)
      ∙ kids_alike (λ d. both g p q (visits_same o n d)) (λ d. same_at n d) (λ d e. apart_at n d e) c rest
      ∙ kids_pairs n c (shallow o c e)
      ∙ ap (λ x. cond (contains c p && contains c q) x 0) (cond-under (eqb (digit p c.level) (digit q c.level)) (chain_same o n p q (child c (digit p c.level))) (chain_apart o n p q (child c (digit p c.level)) (child c (digit q c.level))))

  cond_nothing : (b : Bool) → ◌≡◌ {A = ℕ} 0 (cond b 0 0)
  cond_nothing true = refl
  cond_nothing false = refl

  -- from one cell on, both ways together
  pub hits_same : (n : ℕ) (c : CellData) → both g p q (visits_same o n c) ≡ cond (contains c p && contains c q) (sum_by g (chain_same o n p q c)) 0
  unfolding visits_same chain_same
  hits_same zero c = cond_nothing (contains c p && contains c q)
  hits_same (suc n) c = same_step n c (leaf o c) refl (λ k. hits_same n (child c k))

  -- of the pairs that a walk looks at, those that part two bodies at different places are their chain
  pub hits_visits : InBox p → InBox q → both g p q (visits o) ≡ sum_by g (chain o p q)
  unfolding visits chain
  hits_visits box_p box_q =
      hits_same 32 root_cell
      ∙ ap (λ b. cond (b && contains root_cell q) (sum_by g (chain_same o 32 p q root_cell)) 0) (root_contains p box_p)
      ∙ ap (λ b. cond b (sum_by g (chain_same o 32 p q root_cell)) 0) (root_contains q box_q)
