-- A pair gives fewer than 128 others, and less work.
use Rattle.std.proofs.Common.{◌≡◌, ℕ, suc, ◌+◌, ◌*◌, ◌<◌, ◌≤◌, ◌^◌, Bool, true, false, cond, List, [], ◌∷◌, length, sum_by, refl, ap, arith, inl, inr}
use Rattle.std.specs.List.{filter, flat_map}
use Rattle.std.proofs.lemmas.Grind.{pow_more}
use Rattle.std.proofs.lemmas.List.Sums.{sum_by-cons}
use Rattle.std.proofs.Math.Nat.{mul-le-mul_right, one-le-pow, pow-le-pow_right}
use Rattle.cell_space.specs.Cells.{CellData, below, child, same_cell}
use Rattle.nbody_model.specs.Covers.{Opening, leaf, final}
use Rattle.nbody_model.specs.Walks.{has_member, kids, down, over_both, over_pairs, gives}
use Rattle.model_laws.proofs.Among.{Among}
use Rattle.rank_laws.specs.Homes.{concerned}
use Rattle.rank_laws.specs.Machine.{Pair}
use Rattle.rank_laws.specs.Whole.{Whole, depth_of, next_of, opening}
use Rattle.rank_laws.proofs.Fairness.{next_falls}
use Rattle.rank_walk.specs.Walked.{work}
use Rattle.rank_walk.proofs.Growth.{length_append}
use Rattle.rank_walk.proofs.Lists.{filter_few, length_map}

-- ---- how many pairs a pair gives

kids_few : (o : Opening) (c : CellData) → length (kids o c) ≤ 8
kids_few o c = omega (arith, length_map (child c) (filter (λ k. has_member o (child c k)) (below 8)), filter_few (λ k. has_member o (child c k)) (below 8))

down_few : (o : Opening) (c : CellData) → length (down o c) ≤ 8
down_few o c = by (leaf o c)
  where
    by : (b : Bool) → length (cond b (c ∷ []) (kids o c)) ≤ 8
    by true = omega arith
    by false = kids_few o c

-- a pair alone
abbrev one : CellData → CellData → List Pair
one d e = (d, e) ∷ []

abbrev twice : CellData → List Pair
twice d = one d d

row_long : (d : CellData) (es : List CellData) → length (flat_map (one d) es) ≡ length es
row_long d [] = refl
row_long d (e ∷ es) = ap suc (row_long d es)

both_few : (ds es : List CellData) → length es ≤ 8 → length (over_both one ds es) ≤ length ds * 8
both_few [] es h = omega arith
both_few (d ∷ ds) es h = omega (arith, length_append (flat_map (one d) es) (over_both one ds es), row_long d es, h, both_few ds es h)

pairs_few : (ds : List CellData) → length ds ≤ 8 → length (over_pairs twice one ds) ≤ length ds * 9
pairs_few [] h = omega arith
pairs_few (d ∷ ds) h = omega (
  arith,
  length_append (flat_map (one d) ds) (over_pairs twice one ds),
  row_long d ds,
  h,
  pairs_few ds (omega (arith, h)),
)

gives_few : (o : Opening) (x : Pair) → length (gives o x) ≤ 127
unfolding gives
gives_few o x = by (same_cell x.0 x.1) (leaf o x.0) (final o x.0 x.1)
  where
    by : (s l f : Bool) → length {A = Pair} (cond s (cond l [] (over_pairs twice one (kids o x.0))) (cond f [] (over_both one (down o x.0) (down o x.1)))) ≤ 127
    by true true f = omega arith
    by true false f = omega (arith, kids_few o x.0, pairs_few (kids o x.0) (kids_few o x.0))
    by false l true = omega arith
    by false l false = omega (arith, down_few o x.0, both_few (down o x.0) (down o x.1) (down_few o x.1))

-- ---- the work

-- of a list whose terms are each less than a 128th
sum_less : (f : Pair → ℕ) (w : ℕ) (xs : List Pair) → ((y : Pair) → Among y xs → f y * 128 ≤ w) → sum_by f xs * 128 ≤ length xs * w
sum_less f w [] h = omega arith
sum_less f w (x ∷ xs) h =
    let s : suc (length xs) * w ≡ w + length xs * w = omega arith in
    omega (arith, s, sum_by-cons f x xs, h x (inl refl), sum_less f w xs (λ y k. h y (inr k)))

-- a number of terms at most 127
times_less : (n w s : ℕ) → n ≤ 127 → 0 < w → s * 128 ≤ n * w → s < w
times_less n w s h p k = let m : n * w ≤ 127 * w = mul-le-mul_right w h in omega (arith, m, p, k)

pub work_next : (w : Whole) (r : ℕ) (x : Pair) → work (next_of w r x) < 128 ^ depth_of x
unfolding work
work_next w r x = times_less (length (next_of w r x)) (128 ^ depth_of x) (sum_by (λ y. 128 ^ depth_of y) (next_of w r x))
    (omega (arith, filter_few (concerned w.keys r) (gives (opening w) x), gives_few (opening w) x))
    (one-le-pow (depth_of x) 128 (omega arith))
    (sum_less (λ y. 128 ^ depth_of y) (128 ^ depth_of x) (next_of w r x) (λ y a. each y (next_falls w r x y a)))
  where
    each : (y : Pair) → depth_of y < depth_of x → 128 ^ depth_of y * 128 ≤ 128 ^ depth_of x
    each y h = let p : 128 ^ (depth_of y + 1) ≤ 128 ^ depth_of x = pow-le-pow_right (omega arith) (omega (arith, h)) in omega (arith, p, pow_more 128 (depth_of y))
