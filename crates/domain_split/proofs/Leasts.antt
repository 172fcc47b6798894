-- The least of some bounds from each place on.
use Rattle.std.proofs.Common.{◌≡◌, ℕ, zero, suc, ◌+◌, ◌-◌, ◌^◌, ◌<◌, ◌≤◌, min, List, [], ◌∷◌, length, drop, fold, refl, ap, sym, ◌∙◌, arith, ◌⊎◌, inl, inr}
use Rattle.std.specs.Prelude.{slice_index_or}
use Rattle.std.specs.List.{AllByRecursion}
use Rattle.std.proofs.lemmas.List.{drop_more, drop_all}
use Rattle.std.proofs.lemmas.Bool.{cases_lt}
use Rattle.node_moments.proofs.Extremes.{min_below}
use Rattle.octree_build.specs.Trees.{Rises}
use Rattle.domain_split.specs.Splits.{leasts}

fold-min_min : (a b : ℕ) (xs : List ℕ) → fold min (min a b) xs ≡ min a (fold min b xs)
fold-min_min a b [] = refl
fold-min_min a b (x ∷ xs) = let e : min (min a b) x ≡ min a (min b x) = omega arith in ap (λ t. fold min t xs) e ∙ fold-min_min a (min b x) xs

pub leasts_long : (bs : List ℕ) → length (leasts bs) ≡ length bs
leasts_long [] = refl
leasts_long (b ∷ bs) = let e : length (leasts bs) ≡ length bs = leasts_long bs in omega (arith, e)

-- what isn't above the least of all isn't above the least from any place on
all_from : (m b : ℕ) (bs : List ℕ) → m ≤ fold min b bs → AllByRecursion (λ y. m ≤ y) (leasts bs)
all_from m b [] h = tt
all_from m b (c ∷ bs) h = let e : fold min (min b c) bs ≡ min b (fold min c bs) = fold-min_min b c bs in let k : m ≤ fold min c bs = omega (arith, h, e) in (k, all_from m c bs k)

pub leasts_rise : (bs : List ℕ) → Rises (λ k. k) (leasts bs)
leasts_rise [] = tt
leasts_rise (b ∷ bs) = (all_from (fold min b bs) b bs (omega arith), leasts_rise bs)

-- the least from a place on is at most what stands there
pub least_below : (bs : List ℕ) (r d e : ℕ) → r < length bs → slice_index_or (leasts bs) r d ≤ slice_index_or bs r e
least_below [] r d e h = absurd (omega (arith, h))
least_below (b ∷ bs) zero d e h = min_below b bs
least_below (b ∷ bs) (suc r) d e h = least_below bs r d e (omega (arith, h))

-- it is what stands there, or the least from the next place on
pub least_reached : (bs : List ℕ) (r d e : ℕ) → r < length bs → (slice_index_or (leasts bs) r d ≡ slice_index_or bs r e) ⊎ ((r + 1 < length bs) × (slice_index_or (leasts bs) r d ≡ slice_index_or (leasts bs) (r + 1) d))
least_reached [] r d e h = absurd (omega (arith, h))
least_reached (b ∷ []) zero d e h = inl refl
least_reached (b ∷ (c ∷ bs)) zero d e h = by (cases_lt b (fold min c bs))
  where
    whole : fold min (min b c) bs ≡ min b (fold min c bs)
    whole = fold-min_min b c bs

    by : (b < fold min c bs) ⊎ (fold min c bs ≤ b) → (fold min (min b c) bs ≡ b) ⊎ ((0 + 1 < length (b ∷ (c ∷ bs))) × (fold min (min b c) bs ≡ fold min c bs))
    by (inl u) = inl (omega (arith, whole, u))
    by (inr u) = inr (omega arith, omega (arith, whole, u))
least_reached (b ∷ bs) (suc r) d e h = by (least_reached bs r d e (omega (arith, h)))
  where
    s : suc r + 1 ≡ suc (r + 1)
    s = omega arith

    by : (slice_index_or (leasts bs) r d ≡ slice_index_or bs r e) ⊎ ((r + 1 < length bs) × (slice_index_or (leasts bs) r d ≡ slice_index_or (leasts bs) (r + 1) d)) → (slice_index_or (leasts bs) r d ≡ slice_index_or bs r e) ⊎ ((suc r + 1 < length (b ∷ bs)) × (slice_index_or (leasts bs) r d ≡ slice_index_or (leasts (b ∷ bs)) (suc r + 1) d))
    by (inl u) = inl u
    by (inr u) = inr (omega (arith, u.0), u.1 ∙ ap (λ k. slice_index_or (leasts (b ∷ bs)) k d) (sym s))

-- ---- the loop, from the last place to the first

pub record AreLeast (bounds lows : List ℕ) (low from : ℕ) : Type 0 where
  pub within : from ≤ length bounds
  pub rising : lows ≡ leasts (drop from bounds)
  pub least : low ≡ fold min (2 ^ 128 - 1) (drop from bounds)

pub least_starts : (bounds rising : List ℕ) (least from : ℕ) → from ≡ length bounds → rising ≡ [] → least ≡ 2 ^ 128 - 1 → AreLeast bounds rising least from
least_starts bounds rising least from e r l =
    let d : drop from bounds ≡ [] = drop_all from bounds (omega (arith, e)) in
    record { within = omega (arith, e); rising = r ∙ ap leasts (sym d); least = l ∙ ap (fold min (2 ^ 128 - 1)) (sym d) }

pub least_goes_on : (bounds rising new : List ℕ) (least m b from : ℕ) → AreLeast bounds rising least (from + 1) → b ≤ 2 ^ 128 - 1 → b ≡ slice_index_or bounds from b → m ≡ min least b → new ≡ m ∷ rising → AreLeast bounds new m from
least_goes_on bounds rising new least m b from a small e l n =
    let here : drop from bounds ≡ b ∷ drop (from + 1) bounds = drop_more bounds from b (omega (arith, a.within)) ∙ ap (λ t. t ∷ drop (from + 1) bounds) (sym e) in
    let rest : List ℕ = drop (from + 1) bounds in
    let t : min b (2 ^ 128 - 1) ≡ b = omega (arith, small) in
    let w : fold min (min b (2 ^ 128 - 1)) (drop (from + 1) bounds) ≡ min b (fold min (2 ^ 128 - 1) (drop (from + 1) bounds)) = fold-min_min b (2 ^ 128 - 1) rest in
    let v : m ≡ fold min b (drop (from + 1) bounds) = omega (arith, l, a.least, w, ap (λ t. fold min t rest) t) in
    let c : min (2 ^ 128 - 1) b ≡ b = omega (arith, small) in
    record {
      within = omega (arith, a.within);
      rising = n ∙ (λ i. v i ∷ a.rising i) ∙ ap leasts (sym here);
      least = v ∙ ap (λ t. fold min t rest) (sym c) ∙ ap (fold min (2 ^ 128 - 1)) (sym here);
    }

pub leasts_whole : (bounds rising : List ℕ) (least from : ℕ) → AreLeast bounds rising least from → from ≤ 0 → rising ≡ leasts bounds
leasts_whole bounds rising least from a h = let z : from ≡ 0 = omega (arith, h) in a.rising ∙ ap (λ t. leasts (drop t bounds)) z
