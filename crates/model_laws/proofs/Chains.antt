-- What a walk looks at of two bodies is their chain.
use Rattle.std.proofs.Common.{◌≡◌, ℕ, zero, suc, ◌+◌, ◌<◌, Bool, true, false, cond, eqb, ◌&&◌, List, [], ◌∷◌, sum_by, refl, ap, sym, ◌∙◌, arith}
use Rattle.std.specs.List.{filter, flat_map}
use Rattle.std.proofs.lemmas.Bool.{cond-false}
use Rattle.std.proofs.lemmas.List.Sums.{sum_by-cons}
use Rattle.cell_space.specs.Cells.{Position, CellData, digit, child, contains, below}
use Rattle.cell_space.proofs.Cells.{contains_child, digit_below}
use Rattle.nbody_model.specs.Covers.{Opening, leaf, final, step, chain_apart}
use Rattle.nbody_model.specs.Walks.{has_member, kids, down, over_both, visits_apart}
use Rattle.model_laws.proofs.Among.{Among}
use Rattle.model_laws.proofs.Leaves.{no_member, shallow}
use Rattle.model_laws.proofs.Sums.{sum_by-one, sum_by-same, cond_sum, sum_by-flat_map, sum_by-mapped, sum_by-filtered, sum_by-pick}

-- the pairs whose first cell contains p and whose second contains q, each with its weight
abbrev pub parts : Position → Position → CellData × CellData → Bool
parts p q x = contains x.0 p && contains x.1 q

abbrev pub hits : (CellData × CellData → ℕ) → Position → Position → List (CellData × CellData) → ℕ
hits g p q xs = sum_by (λ x. cond (parts p q x) (g x) 0) xs

-- the same both ways
abbrev pub both : (CellData × CellData → ℕ) → Position → Position → List (CellData × CellData) → ℕ
both g p q xs = hits g p q xs + hits g q p xs

-- a weight that doesn't look at the order
abbrev pub IsEven : (CellData × CellData → ℕ) → Type 0
IsEven g = (a b : CellData) → g (a, b) ≡ g (b, a)

-- a sum over the numbers below a bound looks at these alone
sum-below : (f g : ℕ → ℕ) (n : ℕ) → ((k : ℕ) → k < n → f k ≡ g k) → sum_by f (below n) ≡ sum_by g (below n)
sum-below f g zero h = refl
sum-below f g (suc n) h = omega (arith, sum_by-cons f n (below n), sum_by-cons g n (below n), h n (omega arith), sum-below f g n (λ k l. h k (omega arith)))

cond_twice : (a b : Bool) (x : ℕ) → cond (a && b) x 0 ≡ cond a (cond b x 0) 0
cond_twice true b x = refl
cond_twice false b x = refl

cond_swap : (a b : Bool) (x : ℕ) → cond (a && b) x 0 ≡ cond b (cond a x 0) 0
cond_swap true true x = refl
cond_swap true false x = refl
cond_swap false true x = refl
cond_swap false false x = refl

-- of the children that have members, one contains p if c does
pub kid_sum : (o : Opening) (p : Position) → Among p o.positions → (f : CellData → ℕ) (c : CellData) → c.level < 32 → sum_by (λ d. cond (contains d p) (f d) 0) (kids o c) ≡ cond (contains c p) (f (child c (digit p c.level))) 0
kid_sum o p h f c low =
    sum_by-mapped (λ d. cond (contains d p) (f d) 0) (child c) (filter (λ k. has_member o (child c k)) (below 8))
    ∙ sum_by-filtered (λ k. has_member o (child c k)) (λ k. cond (contains (child c k) p) (f (child c k)) 0) (λ k none. cond-false (contains (child c k) p) (f (child c k)) 0 (no_member o p h (child c k) none)) (below 8)
    ∙ sum-below (λ k. cond (contains (child c k) p) (f (child c k)) 0) (λ k. cond (contains c p) (cond (eqb k (digit p c.level)) (f (child c k)) 0) 0) 8
    (λ k l. ap (λ b. cond b (f (child c k)) 0) (contains_child c k p low l) ∙ cond_swap (eqb k (digit p c.level)) (contains c p) (f (child c k)))
    ∙ cond_sum (contains c p) (λ k. cond (eqb k (digit p c.level)) (f (child c k)) 0) (below 8)
    ∙ ap (λ x. cond (contains c p) x 0) (sum_by-pick (λ k. f (child c k)) (digit p c.level) 8 (digit_below p c.level))

down_case : (o : Opening) (p : Position) → Among p o.positions → (f : CellData → ℕ) (c : CellData) (b : Bool) → leaf o c ≡ b → sum_by (λ d. cond (contains d p) (f d) 0) (cond b (c ∷ []) (kids o c)) ≡ cond (contains c p) (f (cond b c (child c (digit p c.level)))) 0
down_case o p h f c true e = sum_by-one (λ d. cond (contains d p) (f d) 0) c
down_case o p h f c false e = kid_sum o p h f c (shallow o c e)

-- of what replaces c, one contains p if c does
pub down_sum : (o : Opening) (p : Position) → Among p o.positions → (f : CellData → ℕ) (c : CellData) → sum_by (λ d. cond (contains d p) (f d) 0) (down o c) ≡ cond (contains c p) (f (step o p c)) 0
down_sum o p h f c = down_case o p h f c (leaf o c) refl

-- over two lists of cells, each pair of one of either
pub spread : (o : Opening) (p q : Position) → Among p o.positions → Among q o.positions → (f : CellData → CellData → ℕ) (a b : CellData) →
    sum_by (λ d. sum_by (λ e. cond (contains d p && contains e q) (f d e) 0) (down o b)) (down o a) ≡ cond (contains a p && contains b q) (f (step o p a) (step o q b)) 0
spread o p q in_p in_q f a b =
    sum_by-same (λ d. sum_by (λ e. cond (contains d p && contains e q) (f d e) 0) (down o b)) (λ d. cond (contains d p) (cond (contains b q) (f d (step o q b)) 0) 0)
    (λ d. sum_by-same (λ e. cond (contains d p && contains e q) (f d e) 0) (λ e. cond (contains d p) (cond (contains e q) (f d e) 0) 0) (λ e. cond_twice (contains d p) (contains e q) (f d e)) (down o b)
    ∙ cond_sum (contains d p) (λ e. cond (contains e q) (f d e) 0) (down o b)
    ∙ ap (λ x. cond (contains d p) x 0) (down_sum o q in_q (λ e. f d e) b)) (down o a)
    ∙ down_sum o p in_p (λ d. cond (contains b q) (f d (step o q b)) 0) a
    ∙ sym (cond_twice (contains a p) (contains b q) (f (step o p a) (step o q b)))

pub hits-spread : (g : CellData × CellData → ℕ) (p q : Position) (h : CellData → CellData → List (CellData × CellData)) (ds es : List CellData) →
    hits g p q (over_both h ds es) ≡ sum_by (λ d. sum_by (λ e. hits g p q (h d e)) es) ds
hits-spread g p q h ds es =
    sum_by-flat_map (λ x. cond (parts p q x) (g x) 0) (λ d. flat_map (h d) es) ds
    ∙ sum_by-same (λ d. hits g p q (flat_map (h d) es)) (λ d. sum_by (λ e. hits g p q (h d e)) es) (λ d. sum_by-flat_map (λ x. cond (parts p q x) (g x) 0) (h d) es) ds

cond_plus : (b : Bool) (x y : ℕ) → cond b x 0 + cond b y 0 ≡ cond b (x + y) 0
cond_plus true x y = refl
cond_plus false x y = refl

one_hit : (g : CellData × CellData → ℕ) (p q : Position) (x : CellData × CellData) → hits g p q (x ∷ []) ≡ cond (parts p q x) (sum_by g (x ∷ [])) 0
one_hit g p q x = sum_by-one (λ y. cond (parts p q y) (g y) 0) x ∙ ap (λ m. cond (parts p q x) m 0) (sym (sum_by-one g x))

apart_step : (o : Opening) (p q : Position) → Among p o.positions → Among q o.positions → (g : CellData × CellData → ℕ) (n : ℕ) (a b : CellData) (t : Bool) →
    ((d e : CellData) → hits g p q (visits_apart o n d e) ≡ cond (contains d p && contains e q) (sum_by g (chain_apart o n p q d e)) 0) →
    hits g p q (cond t ((a, b) ∷ []) ((a, b) ∷ over_both (visits_apart o n) (down o a) (down o b)))
    ≡ cond (contains a p && contains b q) (sum_by g (cond t ((a, b) ∷ []) ((a, b) ∷ chain_apart o n p q (step o p a) (step o q b)))) 0
apart_step o p q in_p in_q g n a b true rest = one_hit g p q (a, b)
apart_step o p q in_p in_q g n a b false rest =
    sum_by-cons (λ x. cond (parts p q x) (g x) 0) (a, b) (over_both (visits_apart o n) (down o a) (down o b))
    ∙ ap (λ m. cond (parts p q (a, b)) (g (a, b)) 0 + m)
    (hits-spread g p q (visits_apart o n) (down o a) (down o b)
    ∙ sum_by-same (λ d. sum_by (λ e. hits g p q (visits_apart o n d e)) (down o b)) (λ d. sum_by (λ e. cond (contains d p && contains e q) (sum_by g (chain_apart o n p q d e)) 0) (down o b))
    (λ d. sum_by-same (λ e. hits g p q (visits_apart o n d e)) (λ e. cond (contains d p && contains e q) (sum_by g (chain_apart o n p q d e)) 0) (λ e. rest d e) (down o b)) (down o a)
    ∙ spread o p q in_p in_q (λ d e. sum_by g (chain_apart o n p q d e)) a b)
    ∙ cond_plus (contains a p && contains b q) (g (a, b)) (sum_by g (chain_apart o n p q (step o p a) (step o q b)))
    ∙ ap (λ m. cond (contains a p && contains b q) m 0) (sym (sum_by-cons g (a, b) (chain_apart o n p q (step o p a) (step o q b))))

-- of what a walk looks at from two different cells on, the pairs with p in the first and q in the second are the chain
pub hits_apart : (o : Opening) (p q : Position) → Among p o.positions → Among q o.positions → (g : CellData × CellData → ℕ) (n : ℕ) (a b : CellData) →
    hits g p q (visits_apart o n a b) ≡ cond (contains a p && contains b q) (sum_by g (chain_apart o n p q a b)) 0
unfolding visits_apart chain_apart
hits_apart o p q in_p in_q g zero a b = one_hit g p q (a, b)
hits_apart o p q in_p in_q g (suc n) a b = apart_step o p q in_p in_q g n a b (final o a b) (λ d e. hits_apart o p q in_p in_q g n d e)
