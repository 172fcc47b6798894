-- Ranges of a list along which a number rises.
use Rattle.std.proofs.Common.{◌≡◌, ℕ, zero, suc, ◌+◌, ◌-◌, ◌<◌, ◌≤◌, Bool, true, false, cond, not, ◌&&◌, ltb, List, [], ◌∷◌, refl, ap, sym, ◌∙◌, arith, ◌⊎◌, inl, inr, take, drop}
use Rattle.std.specs.List.{filter, count_by, AllByRecursion}
use Rattle.std.proofs.lemmas.List.Sums.{sum_by-cons}
use Rattle.std.proofs.lemmas.Bool.{false≢true, lt-ltb, le-ltb, ltb-true, cases_lt}
use Rattle.cell_space.specs.Cells.{InBox, CellData, contains}
use Rattle.hilbert_keys.specs.Curve.{keys_in, number_of, first_key, IsCell}
use Rattle.hilbert_keys.proofs.Curves.{cell_range}
use Rattle.hilbert_keys.proofs.Widths.{quotient_is, eights}
use Rattle.nbody_model.specs.Bodies.{BodyData}
use Rattle.nbody_model.specs.Nodes.{members}
use Rattle.octree_build.specs.Trees.{key_at, Rises, low_of, high_of}

-- nothing below n where all are from n on
none_below : {X : Type 0} (f : X → ℕ) (n m : ℕ) (xs : List X) → n ≤ m → AllByRecursion (λ y. m ≤ f y) xs → count_by (λ x. ltb (f x) n) xs ≡ 0
none_below f n m [] h a = refl
none_below f n m (x ∷ xs) h a = let k : m ≤ f x = a.0 in omega (arith, sum_by-cons (λ x. cond (ltb (f x) n) 1 0) x xs, ap {B = ℕ} (λ b. cond b 1 0) (le-ltb (f x) n (omega arith)), none_below f n m xs h a.1)

keep_all : {X : Type 0} (f : X → ℕ) (n m : ℕ) (xs : List X) → n ≤ m → AllByRecursion (λ y. m ≤ f y) xs → filter (λ x. not (ltb (f x) n)) xs ≡ xs
keep_all f n m [] h a = refl
keep_all f n m (x ∷ xs) h a = let k : m ≤ f x = a.0 in ap (λ b. cond (not b) (x ∷ filter (λ x. not (ltb (f x) n)) xs) (filter (λ x. not (ltb (f x) n)) xs)) (le-ltb (f x) n (omega arith)) ∙ ap (λ t. x ∷ t) (keep_all f n m xs h a.1)

keep_none : {X : Type 0} (f : X → ℕ) (n m : ℕ) (xs : List X) → n ≤ m → AllByRecursion (λ y. m ≤ f y) xs → filter (λ x. ltb (f x) n) xs ≡ []
keep_none f n m [] h a = refl
keep_none f n m (x ∷ xs) h a = let k : m ≤ f x = a.0 in ap (λ b. cond b (x ∷ filter (λ x. ltb (f x) n) xs) (filter (λ x. ltb (f x) n) xs)) (le-ltb (f x) n (omega arith)) ∙ keep_none f n m xs h a.1

module _ {X : Type 0} (f : X → ℕ) (n : ℕ) where
  drop_step : (x : X) (xs : List X) (b : Bool) → ltb (f x) n ≡ b → AllByRecursion (λ y. f x ≤ f y) xs → drop (count_by (λ x. ltb (f x) n) xs) xs ≡ filter (λ x. not (ltb (f x) n)) xs → drop (count_by (λ x. ltb (f x) n) (x ∷ xs)) (x ∷ xs) ≡ cond (not b) (x ∷ filter (λ x. not (ltb (f x) n)) xs) (filter (λ x. not (ltb (f x) n)) xs)
  drop_step x xs true e a rest =
      let c : count_by (λ x. ltb (f x) n) (x ∷ xs) ≡ suc (count_by (λ x. ltb (f x) n) xs) = omega (arith, sum_by-cons (λ x. cond (ltb (f x) n) 1 0) x xs, ap {B = ℕ} (λ b. cond b 1 0) e) in
      ap (λ k. drop k (x ∷ xs)) c ∙ rest
  drop_step x xs false e a rest =
      let low : n ≤ f x = at_least (cases_lt (f x) n) in
      let c : count_by (λ x. ltb (f x) n) (x ∷ xs) ≡ zero = omega (arith, sum_by-cons (λ x. cond (ltb (f x) n) 1 0) x xs, ap {B = ℕ} (λ b. cond b 1 0) e, none_below f n (f x) xs low a) in
      ap (λ k. drop k (x ∷ xs)) c ∙ ap (λ t. x ∷ t) (sym (keep_all f n (f x) xs low a))
    where
      at_least : (f x < n) ⊎ (n ≤ f x) → n ≤ f x
      at_least (inl h) = absurd (false≢true (sym e ∙ lt-ltb (f x) n h))
      at_least (inr h) = h

  -- behind those below n are those that aren't
  pub drop_below : (xs : List X) → Rises f xs → drop (count_by (λ x. ltb (f x) n) xs) xs ≡ filter (λ x. not (ltb (f x) n)) xs
  drop_below [] r = refl
  drop_below (x ∷ xs) r = drop_step x xs (ltb (f x) n) refl r.0 (drop_below xs r.1)

  take_step : (x : X) (xs : List X) (b : Bool) → ltb (f x) n ≡ b → AllByRecursion (λ y. f x ≤ f y) xs → take (count_by (λ x. ltb (f x) n) xs) xs ≡ filter (λ x. ltb (f x) n) xs → take (count_by (λ x. ltb (f x) n) (x ∷ xs)) (x ∷ xs) ≡ cond b (x ∷ filter (λ x. ltb (f x) n) xs) (filter (λ x. ltb (f x) n) xs)
  take_step x xs true e a rest =
      let c : count_by (λ x. ltb (f x) n) (x ∷ xs) ≡ suc (count_by (λ x. ltb (f x) n) xs) = omega (arith, sum_by-cons (λ x. cond (ltb (f x) n) 1 0) x xs, ap {B = ℕ} (λ b. cond b 1 0) e) in
      ap (λ k. take k (x ∷ xs)) c ∙ ap (λ t. x ∷ t) rest
  take_step x xs false e a rest =
      let low : n ≤ f x = at_least (cases_lt (f x) n) in
      let c : count_by (λ x. ltb (f x) n) (x ∷ xs) ≡ zero = omega (arith, sum_by-cons (λ x. cond (ltb (f x) n) 1 0) x xs, ap {B = ℕ} (λ b. cond b 1 0) e, none_below f n (f x) xs low a) in
      ap (λ k. take k (x ∷ xs)) c ∙ sym (keep_none f n (f x) xs low a)
    where
      at_least : (f x < n) ⊎ (n ≤ f x) → n ≤ f x
      at_least (inl h) = absurd (false≢true (sym e ∙ lt-ltb (f x) n h))
      at_least (inr h) = h

  -- those below n come first
  pub take_below : (xs : List X) → Rises f xs → take (count_by (λ x. ltb (f x) n) xs) xs ≡ filter (λ x. ltb (f x) n) xs
  take_below [] r = refl
  take_below (x ∷ xs) r = take_step x xs (ltb (f x) n) refl r.0 (take_below xs r.1)

-- a filter of a rising list rises
each_kept : {X : Type 0} (P : X → Type 0) (t : X → Bool) (xs : List X) → AllByRecursion P xs → AllByRecursion P (filter t xs)
each_kept P t [] a = tt
each_kept P t (x ∷ xs) a = kept (t x) (each_kept P t xs a.1)
  where
    kept : (b : Bool) → AllByRecursion P (filter t xs) → AllByRecursion P (cond b (x ∷ filter t xs) (filter t xs))
    kept true r = (a.0, r)
    kept false r = r

rises_kept : {X : Type 0} (f : X → ℕ) (t : X → Bool) (x : X) (xs : List X) (b : Bool) → AllByRecursion (λ y. f x ≤ f y) (filter t xs) → Rises f (filter t xs) → Rises f (cond b (x ∷ filter t xs) (filter t xs))
rises_kept f t x xs true a r = (a, r)
rises_kept f t x xs false a r = r

pub rises-filter : {X : Type 0} (f : X → ℕ) (t : X → Bool) (xs : List X) → Rises f xs → Rises f (filter t xs)
rises-filter f t [] r = tt
rises-filter f t (x ∷ xs) r = rises_kept f t x xs (t x) (each_kept (λ y. f x ≤ f y) t xs r.0) (rises-filter f t xs r.1)

-- a filter of a filter, and of tests that agree
both_step : {X : Type 0} (x : X) (xs ys zs : List X) (t u : X → Bool) (a b : Bool) → t x ≡ a → u x ≡ b → filter t ys ≡ zs → filter t (cond b (x ∷ ys) ys) ≡ cond (a && b) (x ∷ zs) zs
both_step x xs ys zs t u a true e h r = ap (λ c. cond c (x ∷ filter t ys) (filter t ys)) e ∙ split a
  where
    split : (a : Bool) → cond a (x ∷ filter t ys) (filter t ys) ≡ cond (a && true) (x ∷ zs) zs
    split true = ap (λ t. x ∷ t) r
    split false = r
both_step x xs ys zs t u true false e h r = r
both_step x xs ys zs t u false false e h r = r

pub filter-both : {X : Type 0} (t u : X → Bool) (xs : List X) → filter t (filter u xs) ≡ filter (λ x. t x && u x) xs
filter-both t u [] = refl
filter-both t u (x ∷ xs) = both_step x xs (filter u xs) (filter (λ x. t x && u x) xs) t u (t x) (u x) refl refl (filter-both t u xs)

pub filter-alike : {X : Type 0} (P : X → Type 0) (t u : X → Bool) → ((x : X) → P x → t x ≡ u x) → (xs : List X) → AllByRecursion P xs → filter t xs ≡ filter u xs
filter-alike P t u e [] a = refl
filter-alike P t u e (x ∷ xs) a = ap (λ b. cond b (x ∷ filter t xs) (filter t xs)) (e x a.0) ∙ ap (λ ys. cond (u x) (x ∷ ys) ys) (filter-alike P t u e xs a.1)

-- of tests that agree, the counts
pub count-alike : {X : Type 0} (P : X → Type 0) (t u : X → Bool) → ((x : X) → P x → t x ≡ u x) → (xs : List X) → AllByRecursion P xs → count_by t xs ≡ count_by u xs
count-alike P t u e [] a = refl
count-alike P t u e (x ∷ xs) a = omega (arith, sum_by-cons (λ x. cond (t x) 1 0) x xs, sum_by-cons (λ x. cond (u x) 1 0) x xs, ap {B = ℕ} (λ b. cond b 1 0) (e x a.0), count-alike P t u e xs a.1)

-- the count of a test among those from low on: those below high less those below low
count_between : {X : Type 0} (f : X → ℕ) (low high : ℕ) → low ≤ high → (xs : List X) → count_by (λ x. ltb (f x) high) (filter (λ x. not (ltb (f x) low)) xs) + count_by (λ x. ltb (f x) low) xs ≡ count_by (λ x. ltb (f x) high) xs
count_between f low high h [] = refl
count_between f low high h (x ∷ xs) = step (ltb (f x) low) refl (count_between f low high h xs)
  where
    step : (b : Bool) → ltb (f x) low ≡ b → count_by (λ x. ltb (f x) high) (filter (λ x. not (ltb (f x) low)) xs) + count_by (λ x. ltb (f x) low) xs ≡ count_by (λ x. ltb (f x) high) xs → count_by (λ x. ltb (f x) high) (cond (not b) (x ∷ filter (λ x. not (ltb (f x) low)) xs) (filter (λ x. not (ltb (f x) low)) xs)) + count_by (λ x. ltb (f x) low) (x ∷ xs) ≡ count_by (λ x. ltb (f x) high) (x ∷ xs)
    step true e r = omega (arith, r, sum_by-cons (λ x. cond (ltb (f x) low) 1 0) x xs, sum_by-cons (λ x. cond (ltb (f x) high) 1 0) x xs, ap {B = ℕ} (λ b. cond b 1 0) e, ap {B = ℕ} (λ b. cond b 1 0) (lt-ltb (f x) high (omega (arith, h, ltb-true (f x) low e))))
    step false e r = omega (arith, r, sum_by-cons (λ x. cond (ltb (f x) low) 1 0) x xs, sum_by-cons (λ x. cond (ltb (f x) high) 1 0) x xs, sum_by-cons (λ x. cond (ltb (f x) high) 1 0) x (filter (λ x. not (ltb (f x) low)) xs), ap {B = ℕ} (λ b. cond b 1 0) e)

-- those from low to high are a range
pub range_between : {X : Type 0} (f : X → ℕ) (low high : ℕ) → low ≤ high → (xs : List X) → Rises f xs → filter (λ x. ltb (f x) high && not (ltb (f x) low)) xs ≡ take (count_by (λ x. ltb (f x) high) xs - count_by (λ x. ltb (f x) low) xs) (drop (count_by (λ x. ltb (f x) low) xs) xs)
range_between f low high h xs r =
    let k : count_by (λ x. ltb (f x) high) (filter (λ x. not (ltb (f x) low)) xs) ≡ count_by (λ x. ltb (f x) high) xs - count_by (λ x. ltb (f x) low) xs = omega (arith, count_between f low high h xs) in
    sym (filter-both (λ x. ltb (f x) high) (λ x. not (ltb (f x) low)) xs)
    ∙ sym (take_below f high (filter (λ x. not (ltb (f x) low)) xs) (rises-filter f (λ x. not (ltb (f x) low)) xs r))
    ∙ ap (λ t. take (count_by (λ x. ltb (f x) high) (filter (λ x. not (ltb (f x) low)) xs)) t) (sym (drop_below f low xs r))
    ∙ ap (λ t. take t (drop (count_by (λ x. ltb (f x) low) xs) xs)) k

pub members_range : (S : List BodyData) → AllByRecursion (λ b. InBox b.motion.pos) S → Rises key_at S → (c : CellData) → IsCell c → members S c ≡ take (high_of S c - low_of S c) (drop (low_of S c) S)
members_range S a r c i =
    filter-alike (λ b. InBox b.motion.pos) (λ b. contains c b.motion.pos) (λ b. ltb (key_at b) (first_key c + keys_in c.level) && not (ltb (key_at b) (first_key c))) (λ b h. cell_range c i b.motion.pos h ∙ quotient_is (key_at b) (keys_in c.level) (number_of c) (eights (32 - c.level))) S a
    ∙ range_between key_at (first_key c) (first_key c + keys_in c.level) (omega arith) S r
