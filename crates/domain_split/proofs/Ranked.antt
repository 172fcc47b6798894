-- The rank of a key is found by the least bounds from each rank on.
use Rattle.std.proofs.Common.{◌≡◌, ℕ, zero, suc, ◌+◌, ◌-◌, ◌*◌, ◌^◌, ◌<◌, ◌≤◌, Bool, true, false, cond, ltb, List, [], ◌∷◌, length, refl, ap, sym, ◌∙◌, arith, ◌⊎◌, inl, inr}
use Rattle.std.specs.Prelude.{slice_index_or, slice_index, nat_le}
use Rattle.std.specs.List.{filter, count_by}
use Rattle.std.proofs.Math.Nat.{max-le}
use Rattle.std.proofs.lemmas.Bool.{le-leb, lt-leb, cases_eq}
use Rattle.cell_space.specs.Cells.{CellData, corner, below}
use Rattle.cell_space.proofs.Nested.{corner_contained}
use Rattle.hilbert_keys.specs.Curve.{keys_in, number_of, first_key, last_key}
use Rattle.hilbert_keys.proofs.Curves.{keys_fit}
use Rattle.hilbert_keys.proofs.Widths.{some_keys}
use Rattle.octree_build.specs.Slots.{keys_below}
use Rattle.octree_build.proofs.Edges.{count_at_most, below_count, from_count}
use Rattle.rank_laws.specs.Homes.{greatest_of, rank_of_key}
use Rattle.rank_laws.proofs.Homes.{rank_of_key-rises}
use Rattle.rank_curve_laws.specs.Along.{keys_along}
use Rattle.rank_curve_laws.proofs.Keys.{curve_has}
use Rattle.rank_entry_laws.proofs.OwnTree.{spanned}
use Rattle.domain_split.specs.Splits.{leasts}
use Rattle.domain_split.specs.Laws.{HomesLieInSpans, HomesRise}
use Rattle.domain_split.proofs.Leasts.{leasts_long, leasts_rise, least_below, least_reached}

-- ---- the greatest number below n that passes

greatest_small : (t : ℕ → Bool) (n m : ℕ) → n ≤ m + 1 → greatest_of (filter t (below n)) ≤ m
greatest_small t zero m h = omega arith
greatest_small t (suc n) m h = one (t n) (filter t (below n)) (greatest_small t n m (omega (arith, h)))
  where
    one : (b : Bool) (xs : List ℕ) → greatest_of xs ≤ m → greatest_of (cond b (n ∷ xs) xs) ≤ m
    one true xs r = max-le (omega (arith, h)) r
    one false xs r = r

greatest_is : (t : ℕ → Bool) (n g : ℕ) → ((r : ℕ) → g < r → r < n → t r ≡ false) → g < n → t g ≡ true → greatest_of (filter t (below n)) ≡ g
greatest_is t zero g a h e = absurd (omega (arith, h))
greatest_is t (suc n) g a h e = by (cases_eq n g) (λ k. greatest_is t n g (λ r u v. a r u (omega (arith, v))) k e)
  where
    by : (n ≡ g) ⊎ (n ≡ g → ⊥) → (g < n → greatest_of (filter t (below n)) ≡ g) → greatest_of (cond (t n) (n ∷ filter t (below n)) (filter t (below n))) ≡ g
    by (inl q) rest = let s : greatest_of (filter t (below n)) ≤ n = greatest_small t n n (omega arith) in ap (λ b. greatest_of (cond b (n ∷ filter t (below n)) (filter t (below n)))) (ap t q ∙ e) ∙ omega (arith, q, s)
    by (inr q) rest = ap (λ b. greatest_of (cond b (n ∷ filter t (below n)) (filter t (below n)))) (a n (omega (arith, q, h)) (omega arith)) ∙ rest (omega (arith, q, h))

greatest_none : (t : ℕ → Bool) (n : ℕ) → ((r : ℕ) → 0 < r → r < n → t r ≡ false) → greatest_of (filter t (below n)) ≡ 0
greatest_none t zero a = refl
greatest_none t (suc zero) a = by (t 0)
  where
    by : (b : Bool) → greatest_of (cond b (0 ∷ []) []) ≡ 0
    by true = refl
    by false = refl
greatest_none t (suc (suc n)) a = ap (λ b. greatest_of (cond b (suc n ∷ filter t (below (suc n))) (filter t (below (suc n))))) (a (suc n) (omega arith) (omega arith)) ∙ greatest_none t (suc n) (λ r u v. a r u (omega (arith, v)))

-- ---- the rank of a key

module _ (bs : List ℕ) (k : ℕ) (some : 0 < length bs) where
  abbrev count : ℕ
  count = count_by (λ y. ltb y (k + 1)) (leasts bs)

  abbrev passes : ℕ → Bool
  passes r = nat_le (slice_index bs r) k

  above : (r : ℕ) → count ≤ r → r < length bs → passes r ≡ false
  above r h l =
      let a : k + 1 ≤ slice_index_or (leasts bs) r 0 = from_count (λ k. k) (k + 1) 0 (leasts bs) r (leasts_rise bs) h (omega (arith, l, leasts_long bs)) in
      let b : slice_index_or (leasts bs) r 0 ≤ slice_index_or bs r 0 = least_below bs r 0 0 l in
      lt-leb (slice_index bs r) k (omega (arith, a, b))

  within : count ≤ length bs
  within = omega (arith, count_at_most (λ y. ltb y (k + 1)) (leasts bs), leasts_long bs)

  here : (m : ℕ) → count ≡ suc m → passes m ≡ true
  here m e = le-leb (slice_index bs m) k (by (least_reached bs m 0 0 (omega (arith, e, within))))
    where
      low : slice_index_or (leasts bs) m 0 < k + 1
      low = below_count (λ k. k) (k + 1) 0 (leasts bs) m (leasts_rise bs) (omega (arith, e))

      by : (slice_index_or (leasts bs) m 0 ≡ slice_index_or bs m 0) ⊎ ((m + 1 < length bs) × (slice_index_or (leasts bs) m 0 ≡ slice_index_or (leasts bs) (m + 1) 0)) → slice_index bs m ≤ k
      by (inl u) = omega (arith, u, low)
      by (inr u) =
          let a : k + 1 ≤ slice_index_or (leasts bs) (m + 1) 0 = from_count (λ k. k) (k + 1) 0 (leasts bs) (m + 1) (leasts_rise bs) (omega (arith, e)) (omega (arith, u.0, leasts_long bs)) in
          absurd (omega (arith, a, u.1, low))

  ranked : (n : ℕ) → count ≡ n → rank_of_key bs k ≡ n - 1
  unfolding rank_of_key
  ranked zero e = greatest_none passes (length bs) (λ r u v. above r (omega (arith, e)) v) ∙ omega arith
  ranked (suc m) e = greatest_is passes (length bs) m (λ r u v. above r (omega (arith, e, u)) v) (omega (arith, e, within)) (here m e) ∙ omega arith

  pub rank_is : (n : ℕ) → n ≡ keys_below (leasts bs) (k + 1) → rank_of_key bs k ≡ n - 1
  unfolding keys_below
  rank_is n e = ranked n (sym e)

  pub rank_within : (n : ℕ) → n ≡ keys_below (leasts bs) (k + 1) → n ≤ length bs
  unfolding keys_below
  rank_within n e = omega (arith, e, within)

-- ---- keys of cells

pub last_small : (c : CellData) → c.level ≤ 32 → last_key c < 2 ^ 96
last_small c h = let a : number_of c * keys_in c.level + keys_in c.level ≤ 2 ^ 96 = keys_fit c h in let b : 0 < keys_in c.level = some_keys c.level in omega (arith, a, b)

pub first_small : (c : CellData) → c.level ≤ 32 → first_key c < 2 ^ 96
first_small c h = let a : number_of c * keys_in c.level + keys_in c.level ≤ 2 ^ 96 = keys_fit c h in let b : 0 < keys_in c.level = some_keys c.level in omega (arith, a, b)

pub first_last : (bounds : List ℕ) (c : CellData) → rank_of_key bounds (first_key c) ≤ rank_of_key bounds (last_key c)
first_last bounds c = rank_of_key-rises bounds (first_key c) (last_key c) (let b : 0 < keys_in c.level = some_keys c.level in omega (arith, b))

-- ---- the laws

pub lie_in_spans : HomesLieInSpans
lie_in_spans bounds some c d i h e = spanned (keys_along bounds) (curve_has bounds some) (corner c) i.in_box c d i.shallow h (corner_contained c) e

pub rise : HomesRise
rise bounds c d h = rank_of_key-rises bounds (last_key c) (last_key d) h
