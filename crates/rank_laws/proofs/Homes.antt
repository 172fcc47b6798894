-- A rank is concerned with every reached pair which leads to a pair that it counts; each pair is counted by one rank.
use Rattle.std.proofs.Common.{◌≡◌, ℕ, zero, suc, ◌+◌, ◌-◌, ◌<◌, ◌≤◌, Bool, true, false, cond, eqb, ◌&&◌, ◌||◌, List, [], ◌∷◌, length, sum_by, refl, ap, sym, ◌∙◌, arith, ◌⊎◌, inl, inr, max, nat_le}
use Rattle.std.specs.Prelude.{slice_index}
use Rattle.std.specs.List.{filter}
use Rattle.std.proofs.Math.Nat.{le-max_left, le-max_right, max-le}
use Rattle.std.proofs.lemmas.Bool.{leb-true, le-leb, and_from, and_parts, false≢true, eqb-true, eq-eqb, cond-true, cond-false, or_left, or_right}
use Rattle.std.proofs.lemmas.List.Sums.{sum_by-cons}
use Rattle.cell_space.specs.Cells.{below}
use Rattle.model_laws.proofs.Sums.{sum_by-pick, sum_by-plus, sum_by-same, sum_by-zero}
use Rattle.rank_laws.specs.Homes.{greatest_of, rank_of_key, Keys, home, in_span, concerned, lesser, counts}

greater_step : (n : ℕ) (p q : Bool) → (p ≡ true → q ≡ true) → (xs ys : List ℕ) → greatest_of xs ≤ greatest_of ys → greatest_of (cond p (n ∷ xs) xs) ≤ greatest_of (cond q (n ∷ ys) ys)
greater_step n true true h xs ys l = let r : greatest_of ys ≤ max n (greatest_of ys) = le-max_right n (greatest_of ys) in max-le (le-max_left n (greatest_of ys)) (omega (arith, l, r))
greater_step n true false h xs ys l = absurd (false≢true (h refl))
greater_step n false true h xs ys l = let r : greatest_of ys ≤ max n (greatest_of ys) = le-max_right n (greatest_of ys) in omega (arith, l, r)
greater_step n false false h xs ys l = l

-- what passes more has no lesser greatest
greater : (t u : ℕ → Bool) → ((n : ℕ) → t n ≡ true → u n ≡ true) → (ns : List ℕ) → greatest_of (filter t ns) ≤ greatest_of (filter u ns)
greater t u h [] = omega arith
greater t u h (n ∷ ns) = greater_step n (t n) (u n) (h n) (filter t ns) (filter u ns) (greater t u h ns)

-- the rank of a key doesn't fall
pub rank_of_key-rises : (bs : List ℕ) (k m : ℕ) → k ≤ m → rank_of_key bs k ≤ rank_of_key bs m
unfolding rank_of_key
rank_of_key-rises bs k m h = greater (λ r. nat_le (slice_index bs r) k) (λ r. nat_le (slice_index bs r) m) (λ r e. le-leb (slice_index bs r) m (omega (arith, h, leb-true (slice_index bs r) k e))) (below (length bs))

greatest_in : (t : ℕ → Bool) (n m : ℕ) → n ≤ m → 0 < m → greatest_of (filter t (below n)) < m
greatest_in t zero m h k = k
greatest_in t (suc n) m h k = one (t n) (filter t (below n)) (greatest_in t n m (omega arith) k)
  where
    one : (b : Bool) (xs : List ℕ) → greatest_of xs < m → greatest_of (cond b (n ∷ xs) xs) < m
    one true xs r = let l : max n (greatest_of xs) ≤ m - 1 = max-le (omega arith) (omega (arith, r)) in omega (arith, l, k)
    one false xs r = r

-- and is a rank
pub rank_of_key-in : (bs : List ℕ) (k : ℕ) → 0 < length bs → rank_of_key bs k < length bs
unfolding rank_of_key
rank_of_key-in bs k h = greatest_in (λ r. nat_le (slice_index bs r) k) (length bs) (length bs) (omega arith) h

module _ {C : Type 0} (keys : Keys C) (before : C → C → Bool) where
  -- d lies in c
  pub record Within (c d : C) : Type 0 where
    pub low : keys.first c ≤ keys.first d
    pub some : keys.first d ≤ keys.last d
    pub high : keys.last d ≤ keys.last c

  abbrev pub Inside : C × C → C → Type 0
  Inside x d = Within x.0 d ⊎ Within x.1 d

  -- both cells of z lie in a cell of x
  pub record Below (x z : C × C) : Type 0 where
    pub left : Inside x z.0
    pub right : Inside x z.1

  within_twice : (a b c : C) → Within a b → Within b c → Within a c
  within_twice a b c h k = record { low = omega (arith, h.low, k.low); some = k.some; high = omega (arith, h.high, k.high) }

  inside_twice : (x y : C × C) (d : C) → Below x y → Inside y d → Inside x d
  inside_twice x y d h (inl k) = via h.left
    where
      via : Inside x y.0 → Inside x d
      via (inl u) = inl (within_twice x.0 y.0 d u k)
      via (inr u) = inr (within_twice x.1 y.0 d u k)
  inside_twice x y d h (inr k) = via h.right
    where
      via : Inside x y.1 → Inside x d
      via (inl u) = inl (within_twice x.0 y.1 d u k)
      via (inr u) = inr (within_twice x.1 y.1 d u k)

  pub below_twice : (x y z : C × C) → Below x y → Below y z → Below x z
  below_twice x y z h k = record { left = inside_twice x y z.0 h k.left; right = inside_twice x y z.1 h k.right }

  span_test : (r f l : ℕ) → f ≤ r → r ≤ l → (nat_le f r && nat_le r l) ≡ true
  span_test r f l h k = and_from (nat_le f r) (nat_le r l) (le-leb f r h) (le-leb r l k)

  -- the home of a cell lies in the span of each cell around it
  pub home_in_span : (c d : C) → Within c d → in_span keys (home keys d) c ≡ true
  home_in_span c d h =
      span_test (home keys d) (rank_of_key keys.bounds (keys.first c)) (home keys c)
      (rank_of_key-rises keys.bounds (keys.first c) (keys.last d) (omega (arith, h.low, h.some)))
      (rank_of_key-rises keys.bounds (keys.last d) (keys.last c) h.high)

  inside_concerned : (x : C × C) (d : C) → Inside x d → concerned keys (home keys d) x ≡ true
  inside_concerned x d (inl h) = or_left (in_span keys (home keys d) x.0) (in_span keys (home keys d) x.1) (home_in_span x.0 d h)
  inside_concerned x d (inr h) = or_right (in_span keys (home keys d) x.0) (in_span keys (home keys d) x.1) (home_in_span x.1 d h)

  lesser_inside : (x z : C × C) (b : Bool) → Below x z → Inside x (cond b z.1 z.0)
  lesser_inside x z true h = h.right
  lesser_inside x z false h = h.left

  -- a rank is concerned with each pair around one that it counts
  pub concerned_above : (r : ℕ) (x z : C × C) → Below x z → counts keys before r z ≡ true → concerned keys r x ≡ true
  concerned_above r x z h e =
      ap (λ t. concerned keys t x) (sym (eqb-true (home keys (lesser before z)) r e))
      ∙ inside_concerned x (lesser before z) (lesser_inside x z (before z.1 z.0) h)

-- a rank in the span of a cell lies in that of each cell around it
module _ {C : Type 0} (keys : Keys C) (before : C → C → Bool) where
  span_parts : (r : ℕ) (c : C) → in_span keys r c ≡ true → (rank_of_key keys.bounds (keys.first c) ≤ r) × (r ≤ home keys c)
  span_parts r c e =
      let b : (nat_le (rank_of_key keys.bounds (keys.first c)) r ≡ true) × (nat_le r (home keys c) ≡ true) = and_parts (nat_le (rank_of_key keys.bounds (keys.first c)) r) (nat_le r (home keys c)) e in
      (leb-true (rank_of_key keys.bounds (keys.first c)) r b.0, leb-true r (home keys c) b.1)

  span_above : (r : ℕ) (c d : C) → Within keys before c d → in_span keys r d ≡ true → in_span keys r c ≡ true
  span_above r c d h e =
      let p : (rank_of_key keys.bounds (keys.first d) ≤ r) × (r ≤ home keys d) = span_parts r d e in
      let u : rank_of_key keys.bounds (keys.first c) ≤ rank_of_key keys.bounds (keys.first d) = rank_of_key-rises keys.bounds (keys.first c) (keys.first d) h.low in
      let v : home keys d ≤ home keys c = rank_of_key-rises keys.bounds (keys.last d) (keys.last c) h.high in
      span_test keys before r (rank_of_key keys.bounds (keys.first c)) (home keys c) (omega (arith, p.0, u)) (omega (arith, p.1, v))

  one_above : (r : ℕ) (x : C × C) (d : C) → Inside keys before x d → in_span keys r d ≡ true → concerned keys r x ≡ true
  one_above r x d (inl h) e = or_left (in_span keys r x.0) (in_span keys r x.1) (span_above r x.0 d h e)
  one_above r x d (inr h) e = or_right (in_span keys r x.0) (in_span keys r x.1) (span_above r x.1 d h e)

  -- a rank is concerned with each pair around one with which it is concerned
  pub concerned_around : (r : ℕ) (x z : C × C) → Below keys before x z → concerned keys r z ≡ true → concerned keys r x ≡ true
  concerned_around r x z h e = by (in_span keys r z.0) refl e
    where
      by : (b : Bool) → in_span keys r z.0 ≡ b → (b || in_span keys r z.1) ≡ true → concerned keys r x ≡ true
      by true k e = one_above r x z.0 h.left k
      by false k e = one_above r x z.1 h.right e

-- over the ranks, each pair is counted once: any sum
pub filters_add_up : {X : Type 0} (rank : X → ℕ) (ranks : ℕ) → ((x : X) → rank x < ranks) → (g : X → ℕ) (xs : List X) → sum_by (λ r. sum_by g (filter (λ x. eqb (rank x) r) xs)) (below ranks) ≡ sum_by g xs
filters_add_up rank ranks few g [] = sum_by-zero {X = ℕ} (λ r. 0) (λ r. refl) (below ranks)
filters_add_up {X} rank ranks few g (x ∷ xs) =
    omega (
      arith,
      sum_by-same (λ r. sum_by g (filter (λ x. eqb (rank x) r) (x ∷ xs))) (λ r. cond (eqb r (rank x)) (g x) 0 + sum_by g (filter (λ x. eqb (rank x) r) xs)) (λ r. one r (eqb (rank x) r) refl) (below ranks),
      sum_by-plus (λ r. cond (eqb r (rank x)) (g x) 0) (λ r. sum_by g (filter (λ x. eqb (rank x) r) xs)) (below ranks),
      sum_by-pick (λ r. g x) (rank x) ranks (few x),
      filters_add_up rank ranks few g xs,
      sum_by-cons g x xs,
    )
  where
    flipped : (a b : ℕ) (v : Bool) → eqb a b ≡ v → eqb b a ≡ v
    flipped a b true e = eq-eqb b a (sym (eqb-true a b e))
    flipped a b false e = other (eqb b a) refl
      where
        other : (v : Bool) → eqb b a ≡ v → v ≡ false
        other true f = absurd (false≢true (sym e ∙ eq-eqb a b (sym (eqb-true b a f))))
        other false f = refl

    one : (r : ℕ) (b : Bool) → eqb (rank x) r ≡ b → sum_by g (cond b (x ∷ filter (λ x. eqb (rank x) r) xs) (filter (λ x. eqb (rank x) r) xs)) ≡ cond (eqb r (rank x)) (g x) 0 + sum_by g (filter (λ x. eqb (rank x) r) xs)
    one r true e = omega (arith, sum_by-cons g x (filter (λ x. eqb (rank x) r) xs), cond-true (eqb r (rank x)) (g x) 0 (flipped (rank x) r true e))
    one r false e = omega (arith, cond-false (eqb r (rank x)) (g x) 0 (flipped (rank x) r false e))
