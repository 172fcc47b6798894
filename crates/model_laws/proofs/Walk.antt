-- What a walk looks at are the visited pairs, and what it finds are the interactions.
use Rattle.std.proofs.Common.{◌≡◌, ℕ, ◌+◌, ◌≤◌, Bool, true, false, cond, List, [], ◌∷◌, map, sum_by, refl, ap, sym, ◌∙◌, arith, ℤ, pos, inl, inr}
use Rattle.std.specs.List.{filter, AllByRecursion}
use Rattle.std.proofs.lemmas.Int.{ints}
use Rattle.std.proofs.lemmas.List.Sums.{sum_by-cons}
use Rattle.fixed_point.specs.declared.V3.{V3}
use Rattle.fixed_point.specs.Vectors.{sum_of}
use Rattle.cell_space.specs.Cells.{Position, CellData, same_place, InBox, root_cell}
use Rattle.nbody_model.specs.Covers.{Opening, final, orient, same_pair, chain, cover, interactions, visited, last_of}
use Rattle.nbody_model.specs.Walks.{visits, found}
use Rattle.model_laws.specs.Laws.{IsFair, IsSound, AreTurned}
use Rattle.model_laws.proofs.Among.{Among, each-among, each-weaker, each-filter}
use Rattle.model_laws.proofs.Sums.{sum_by-same, sum_by-mapped, sum_by-one}
use Rattle.model_laws.proofs.Signed.{total_by, total-mapped, total-pos, sum_of-totals}
use Rattle.model_laws.proofs.Counts.{times, same_total}
use Rattle.model_laws.proofs.Turned.{same_pair-exact}
use Rattle.model_laws.proofs.Chains.{parts, hits, both, IsEven}
use Rattle.model_laws.proofs.Same.{final_fair, hits_visits}
use Rattle.model_laws.proofs.Apart.{Apart, visits-apart}
use Rattle.model_laws.proofs.ChainFacts.{IsOnChain, chain-on, chain-once, chain-last, at_final, mark, mark_one}
use Rattle.model_laws.proofs.Once.{Holds, Shows, times_shown, mark_even}

pub box_of : (o : Opening) → IsSound o → (p : Position) → Among p o.positions → InBox p
box_of o s p h = each-among InBox p o.positions s.in_box h

pub visits-shown : (o : Opening) → IsSound o → Shows o (visits o) (chain o)
visits-shown o s = record {
  apart = visits-apart o;
  sums = λ p q in_p in_q differ g even. hits_visits o s.fair p q in_p in_q g even differ (box_of o s p in_p) (box_of o s q in_q);
  holds = λ p q in_p in_q differ. each-weaker (IsOnChain p q) (Holds p q) (λ x h. (h.first, h.second)) (chain o p q) (chain-on o p q (box_of o s p in_p) (box_of o s q in_q));
  once = chain-once o;
}

-- a sum over what a filter leaves
filter_sum-step : {X : Type 0} (f : X → ℕ) (x : X) (ys : List X) (b : Bool) (n : ℕ) → sum_by f ys ≡ n → sum_by f (cond b (x ∷ ys) ys) ≡ cond b (f x) 0 + n
filter_sum-step f x ys true n e = omega (arith, sum_by-cons f x ys, e)
filter_sum-step f x ys false n e = omega (arith, e)

pub filter_sum : {X : Type 0} (t : X → Bool) (f : X → ℕ) (xs : List X) → sum_by f (filter t xs) ≡ sum_by (λ x. cond (t x) (f x) 0) xs
filter_sum t f [] = refl
filter_sum t f (x ∷ xs) = filter_sum-step f x (filter t xs) (t x) (sum_by (λ y. cond (t y) (f y) 0) xs) (filter_sum t f xs) ∙ sym (sum_by-cons (λ y. cond (t y) (f y) 0) x xs)

swap : (a b : Bool) (n : ℕ) → cond a (cond b n 0) 0 ≡ cond b (cond a n 0) 0
swap true true n = refl
swap true false n = refl
swap false true n = refl
swap false false n = refl

abbrev is_final : Opening → CellData × CellData → Bool
is_final o x = final o x.0 x.1

hits-final : (o : Opening) (g : CellData × CellData → ℕ) (p q : Position) (xs : List (CellData × CellData)) → hits g p q (filter (is_final o) xs) ≡ hits (at_final o g) p q xs
hits-final o g p q xs =
    filter_sum (is_final o) (λ x. cond (parts p q x) (g x) 0) xs
    ∙ sum_by-same (λ x. cond (is_final o x) (cond (parts p q x) (g x) 0) 0) (λ x. cond (parts p q x) (at_final o g x) 0) (λ x. swap (is_final o x) (parts p q x) (g x)) xs

final_even : (o : Opening) → IsFair o → (g : CellData × CellData → ℕ) → IsEven g → IsEven (at_final o g)
final_even o fair g even a b = ap (λ t. cond t (g (a, b)) 0) (final_fair o fair a b) ∙ ap (λ n. cond (final o b a) n 0) (even a b)

abbrev pub cover_path : Opening → Position → Position → List (CellData × CellData)
cover_path o p q = cover o p q ∷ []

found_sums : (o : Opening) → IsSound o → (p q : Position) → Among p o.positions → Among q o.positions → same_place p q ≡ false → (g : CellData × CellData → ℕ) → IsEven g → both g p q (found o) ≡ sum_by g (cover_path o p q)
unfolding found
found_sums o s p q in_p in_q differ g even =
    omega (
      arith,
      hits-final o g p q (visits o),
      hits-final o g q p (visits o),
      hits_visits o s.fair p q in_p in_q (at_final o g) (final_even o s.fair g even) differ (box_of o s p in_p) (box_of o s q in_q),
      chain-last o p q g (box_of o s p in_p) (box_of o s q in_q) differ,
      sum_by-one g (cover o p q),
    )

found_apart : (o : Opening) → AllByRecursion (Apart o) (found o)
unfolding found
found_apart o = each-filter (Apart o) (is_final o) (visits o) (visits-apart o)

last_in : (d x : CellData × CellData) (xs : List (CellData × CellData)) → Among (last_of d (x ∷ xs)) (x ∷ xs)
last_in d x [] = inl refl
last_in d x (y ∷ ys) = inr (last_in x y ys)

last_among : (f : CellData × CellData → ℕ) (d : CellData × CellData) (xs : List (CellData × CellData)) → 1 ≤ sum_by f xs → Among (last_of d xs) xs
last_among f d [] h = absurd (omega (arith, h))
last_among f d (x ∷ xs) h = last_in d x xs

-- the cover is on the chain
pub cover-among : (o : Opening) (p q : Position) → InBox p → InBox q → same_place p q ≡ false → Among (cover o p q) (chain o p q)
unfolding cover
cover-among o p q box_p box_q differ = last_among (at_final o (λ x. 1)) (root_cell, root_cell) (chain o p q) (let e : sum_by (at_final o (λ x. 1)) (chain o p q) ≡ 1 = chain-last o p q (λ x. 1) box_p box_q differ in omega (arith, e))

pub cover-on : (o : Opening) (p q : Position) → InBox p → InBox q → same_place p q ≡ false → IsOnChain p q (cover o p q)
cover-on o p q box_p box_q differ = each-among (IsOnChain p q) (cover o p q) (chain o p q) (chain-on o p q box_p box_q) (cover-among o p q box_p box_q differ)

pub found-shown : (o : Opening) → IsSound o → Shows o (found o) (cover_path o)
found-shown o s = record {
  apart = found_apart o;
  sums = found_sums o s;
  holds = λ p q in_p in_q differ. let c : IsOnChain p q (cover o p q) = cover-on o p q (box_of o s p in_p) (box_of o s q in_q) differ in ((c.first, c.second), tt);
  once = λ p q z. mark_one z (cover o p q);
}

-- lists in which each pair stands as often have one sum
pub totals_agree : (xs ys : List (CellData × CellData)) → ((z : CellData × CellData) → times same_pair same_pair-exact z (map orient xs) ≡ times same_pair same_pair-exact z ys) → (f : CellData × CellData → ℤ) → total_by (λ x. f (orient x)) xs ≡ total_by f ys
totals_agree xs ys e f = sym (total-mapped f orient xs) ∙ same_total same_pair same_pair-exact f (map orient xs) ys e

pub sums_agree : (xs ys : List (CellData × CellData)) → ((z : CellData × CellData) → times same_pair same_pair-exact z (map orient xs) ≡ times same_pair same_pair-exact z ys) → (f : CellData × CellData → ℕ) → sum_by (λ x. f (orient x)) xs ≡ sum_by f ys
sums_agree xs ys e f =
    let u : pos (sum_by (λ x. f (orient x)) xs) ≡ pos (sum_by f ys) = sym (total-pos (λ x. f (orient x)) xs) ∙ totals_agree xs ys e (λ x. pos (f x)) ∙ total-pos f ys in
    omega (arith, ints, u)

pub vectors_agree : (xs ys : List (CellData × CellData)) → ((z : CellData × CellData) → times same_pair same_pair-exact z (map orient xs) ≡ times same_pair same_pair-exact z ys) → (f : CellData × CellData → V3) → sum_of (λ x. f (orient x)) xs ≡ sum_of f ys
vectors_agree xs ys e f =
    let a : total_by (λ x. (f (orient x)).x) xs ≡ total_by (λ x. (f x).x) ys = totals_agree xs ys e (λ x. (f x).x) in
    let b : total_by (λ x. (f (orient x)).y) xs ≡ total_by (λ x. (f x).y) ys = totals_agree xs ys e (λ x. (f x).y) in
    let c : total_by (λ x. (f (orient x)).z) xs ≡ total_by (λ x. (f x).z) ys = totals_agree xs ys e (λ x. (f x).z) in
    sum_of-totals (λ x. f (orient x)) xs ∙ (λ i. record { x = a i; y = b i; z = c i }) ∙ sym (sum_of-totals f ys)

pub found_times : (o : Opening) → IsSound o → (z : CellData × CellData) → times same_pair same_pair-exact z (map orient (found o)) ≡ times same_pair same_pair-exact z (interactions o)
unfolding interactions
found_times o s z = times_shown o (found o) (cover_path o) (found-shown o s) z

pub visits_times : (o : Opening) → IsSound o → (z : CellData × CellData) → times same_pair same_pair-exact z (map orient (visits o)) ≡ times same_pair same_pair-exact z (visited o)
unfolding visited
visits_times o s z = times_shown o (visits o) (chain o) (visits-shown o s) z

-- lists in which each pair stands as often
pub turned_from : (xs ys : List (CellData × CellData)) → ((z : CellData × CellData) → times same_pair same_pair-exact z (map orient xs) ≡ times same_pair same_pair-exact z ys) → AreTurned xs ys
turned_from xs ys e = record { counted = sums_agree xs ys e; added = vectors_agree xs ys e }

-- lists over which each even weight has one sum
pub turned_alike : (vs xs ys : List (CellData × CellData)) → ((w : CellData × CellData → ℕ) → IsEven w → sum_by w vs ≡ sum_by w xs) → ((z : CellData × CellData) → times same_pair same_pair-exact z (map orient xs) ≡ times same_pair same_pair-exact z ys) → AreTurned vs ys
turned_alike vs xs ys e h = turned_from vs ys (λ z.
    sum_by-mapped (λ x. cond (same_pair x z) 1 0) orient vs
    ∙ e (mark z) (mark_even z)
    ∙ sym (sum_by-mapped (λ x. cond (same_pair x z) 1 0) orient xs)
    ∙ h z)

pub finds_interactions : (o : Opening) → IsSound o → AreTurned (found o) (interactions o)
finds_interactions o s = turned_from (found o) (interactions o) (found_times o s)

pub visits_visited : (o : Opening) → IsSound o → AreTurned (visits o) (visited o)
visits_visited o s = turned_from (visits o) (visited o) (visits_times o s)
