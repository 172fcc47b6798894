-- The least keys of the bodies of ranks, body by body.
use Rattle.std.proofs.Common.{◌≡◌, ℕ, ◌+◌, ◌^◌, ◌<◌, ◌≤◌, min, cond, eqb, List, [], ◌∷◌, length, map, drop, fold, set, replicate, refl, ap, sym, ◌∙◌, arith, ◌⊎◌, inl, inr}
use Rattle.std.specs.Prelude.{slice_index_or, slice_index}
use Rattle.std.proofs.lemmas.Bool.{cases_eq, eq-eqb, ne_eqb}
use Rattle.std.proofs.lemmas.List.{get_or-set_same, get_or-set_other, length-set, length-replicate, get_or-replicate, get_or_default, drop_more, drop_all, same_lists}
use Rattle.std.proofs.lemmas.List.FromFn.{length-map-range_with_len, get_or-map-range_with_len}
use Rattle.hilbert_keys.specs.Curve.{key}
use Rattle.nbody_model.specs.Bodies.{BodyData}
use Rattle.octree_build.specs.Trees.{key_at}
use Rattle.rank_laws.specs.Owners.{handed_to}
use Rattle.rank_curve_laws.specs.Along.{bounds_of}

-- bounds after further bodies with their owners
pub lowered : List ℕ → List BodyData → List ℕ → List ℕ
lowered bounds [] os = bounds
lowered bounds (b ∷ bs) [] = bounds
lowered bounds (b ∷ bs) (o ∷ os) = lowered (set bounds o (min (slice_index bounds o) (key b.motion.pos))) bs os

keys_of : List BodyData → List ℕ
keys_of bs = map (λ b. key b.motion.pos) bs

lowered_long : (bounds : List ℕ) (bs : List BodyData) (os : List ℕ) → length (lowered bounds bs os) ≡ length bounds
unfolding lowered
lowered_long bounds [] os = refl
lowered_long bounds (b ∷ bs) [] = refl
lowered_long bounds (b ∷ bs) (o ∷ os) = lowered_long (set bounds o (min (slice_index bounds o) (key b.motion.pos))) bs os ∙ length-set bounds o (min (slice_index bounds o) (key b.motion.pos))

-- what stands at a rank is the least of what stood there and of the keys of its bodies
lowered_at : (bounds : List ℕ) (bs : List BodyData) (os : List ℕ) (r d : ℕ) → r < length bounds → slice_index_or (lowered bounds bs os) r d ≡ fold min (slice_index_or bounds r d) (map (λ b. key b.motion.pos) (handed_to bs os r))
unfolding lowered
lowered_at bounds [] os r d h = refl
lowered_at bounds (b ∷ bs) [] r d h = refl
lowered_at bounds (b ∷ bs) (o ∷ os) r d h = lowered_at next bs os r d (omega (arith, h, length-set bounds o low)) ∙ by (cases_eq o r)
  where
    low : ℕ
    low = min (slice_index bounds o) (key b.motion.pos)

    next : List ℕ
    next = set bounds o low

    rest : List BodyData
    rest = handed_to bs os r

    by : (o ≡ r) ⊎ (o ≡ r → ⊥) → fold min (slice_index_or next r d) (map (λ b. key b.motion.pos) rest) ≡ fold min (slice_index_or bounds r d) (map (λ b. key b.motion.pos) (cond (eqb o r) (b ∷ rest) rest))
    by (inl e) =
        let v : slice_index_or bounds r d ≡ slice_index bounds o = get_or_default bounds r d 0 h ∙ ap (slice_index bounds) (sym e) in
        let u : slice_index_or next r d ≡ min (slice_index_or bounds r d) (key b.motion.pos) = ap (λ t. slice_index_or (set bounds o low) t d) (sym e) ∙ get_or-set_same bounds o low d (omega (arith, e, h)) ∙ ap (λ t. min t (key b.motion.pos)) (sym v) in
        ap (λ t. fold min t (map (λ b. key b.motion.pos) rest)) u
        ∙ sym (ap (λ t. fold min (slice_index_or bounds r d) (map (λ b. key b.motion.pos) (cond t (b ∷ rest) rest))) (eq-eqb o r e))
    by (inr e) =
        ap (λ t. fold min t (map (λ b. key b.motion.pos) rest)) (get_or-set_other bounds o r low d (λ q. e (sym q)))
        ∙ sym (ap (λ t. fold min (slice_index_or bounds r d) (map (λ b. key b.motion.pos) (cond t (b ∷ rest) rest))) (ne_eqb o r e))

-- ---- the loop over the bodies

pub record AreLowered (start bounds : List ℕ) (bs : List BodyData) (os : List ℕ) (i : ℕ) : Type 0 where
  pub same : lowered bounds (drop i bs) (drop i os) ≡ lowered start bs os
  pub long : length bounds ≡ length start

pub lowered_starts : (start : List ℕ) (bs : List BodyData) (os : List ℕ) → AreLowered start start bs os 0
lowered_starts start bs os = record { same = refl; long = refl }

pub lowered_goes_on : (start bounds new : List ℕ) (bs : List BodyData) (os : List ℕ) (i : ℕ) (b : BodyData) (o k : ℕ) → AreLowered start bounds bs os i → i < length bs → length os ≡ length bs → b ≡ slice_index_or bs i b → o ≡ slice_index_or os i o → k ≡ key_at b → new ≡ set bounds o (min (slice_index bounds o) k) → AreLowered start new bs os (i + 1)
unfolding lowered
lowered_goes_on start bounds new bs os i b o k a h same at owner key_is n =
    let u : drop i bs ≡ b ∷ drop (i + 1) bs = drop_more bs i b h ∙ ap (λ t. t ∷ drop (i + 1) bs) (sym at) in
    let v : drop i os ≡ o ∷ drop (i + 1) os = drop_more os i o (omega (arith, h, same)) ∙ ap (λ t. t ∷ drop (i + 1) os) (sym owner) in
    let w : new ≡ set bounds o (min (slice_index bounds o) (key b.motion.pos)) = n ∙ ap (λ t. set bounds o (min (slice_index bounds o) t)) key_is in
    record {
      same = ap (λ t. lowered t (drop (i + 1) bs) (drop (i + 1) os)) w ∙ sym (λ j. lowered bounds (u j) (v j)) ∙ a.same;
      long = ap length n ∙ length-set bounds o (min (slice_index bounds o) k) ∙ a.long;
    }

pub all_lowered : (start bounds : List ℕ) (bs : List BodyData) (os : List ℕ) (i ranks : ℕ) → AreLowered start bounds bs os i → length bs ≤ i → start ≡ replicate ranks (2 ^ 96) → bounds ≡ bounds_of bs os ranks
unfolding lowered
all_lowered start bounds bs os i ranks a h s =
    let whole : bounds ≡ lowered start bs os = ap (λ t. lowered bounds t (drop i os)) (sym (drop_all i bs h)) ∙ a.same in
    let size : length start ≡ ranks = ap length s ∙ length-replicate ranks (2 ^ 96) in
    whole ∙ same_lists (lowered start bs os) (bounds_of bs os ranks) (lowered_long start bs os ∙ size ∙ sym (length-map-range_with_len (λ r. fold min (2 ^ 96) (map (λ b. key b.motion.pos) (handed_to bs os r))) 0 ranks))
    (λ r d l.
    let k : r < ranks = omega (arith, l, lowered_long start bs os, size) in
    lowered_at start bs os r d (omega (arith, k, size))
    ∙ ap (λ t. fold min t (map (λ b. key b.motion.pos) (handed_to bs os r))) (ap (λ t. slice_index_or t r d) s ∙ get_or-replicate ranks r (2 ^ 96) d k)
    ∙ sym (get_or-map-range_with_len (λ r. fold min (2 ^ 96) (map (λ b. key b.motion.pos) (handed_to bs os r))) 0 ranks r r d k (omega arith)))
