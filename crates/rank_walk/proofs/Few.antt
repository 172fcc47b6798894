-- A rank counts at most 2^40 interactions.
use Rattle.std.proofs.Common.{◌≡◌, ℕ, zero, suc, ◌+◌, ◌*◌, ◌<◌, ◌≤◌, ◌^◌, cond, List, [], ◌∷◌, ◌++◌, length, sum_by, ap, sym, ◌∙◌, arith, ◌⊎◌, inl, inr}
use Rattle.std.specs.List.{filter, flat_map, count_by, range_with_len}
use Rattle.std.proofs.lemmas.Bool.{cases_lt}
use Rattle.std.proofs.lemmas.List.Sums.{sum_by-cons, sum_by-append, count_by-le-length}
use Rattle.nbody_model.specs.Bodies.{BodyData}
use Rattle.nbody_model.specs.Covers.{interactions, orient}
use Rattle.model_laws.specs.Firsts.{stands_for}
use Rattle.model_laws.proofs.Firsts.{interactions_by_bodies}
use Rattle.model_laws.proofs.Partners.{ones}
use Rattle.model_laws.proofs.Sums.{sum_by-flat_map, sum_by-mapped}
use Rattle.model_laws.proofs.Walk.{filter_sum}
use Rattle.rank_laws.specs.Trees.{all_from, worked}
use Rattle.rank_laws.specs.Machine.{Pair, Rank, done_after, knows_both, list_after, todo}
use Rattle.rank_laws.specs.Whole.{Whole, counted, counted_in, depth_of, is_counted, next_of, opening, ranks_of, start_of}
use Rattle.rank_laws.proofs.Counted.{as_many}
use Rattle.rank_laws.proofs.Fairness.{next_falls}
use Rattle.rank_laws.proofs.Waiting.{settled_list}
use Rattle.rank_walk.specs.Seats.{Seat, IsSeat, rules}
use Rattle.rank_walk.specs.Walkers.{IsInRun, weight_from}

-- ---- of a list, one of its terms and all of them

in_range : (f : ℕ → ℕ) (n a r : ℕ) → a ≤ r → r < a + n → f r ≤ sum_by f (range_with_len a n)
in_range f zero a r h k = absurd (omega (arith, h, k))
in_range f (suc n) a r h k = by (cases_lt a r) (λ u. in_range f n (a + 1) r (omega (arith, u)) (omega (arith, k)))
  where
    by : (a < r) ⊎ (r ≤ a) → (a < r → f r ≤ sum_by f (range_with_len (a + 1) n)) → f r ≤ sum_by f (range_with_len a (suc n))
    by (inl u) rest = omega (arith, rest u, sum_by-cons f a (range_with_len (a + 1) n))
    by (inr u) rest = let e : r ≡ a = omega (arith, h, u) in omega (arith, ap f e, sum_by-cons f a (range_with_len (a + 1) n))

sum_most : {X : Type 0} (f : X → ℕ) (xs : List X) → ((x : X) → f x ≤ 1048576) → sum_by f xs ≤ length xs * 1048576
sum_most f [] h = omega arith
sum_most f (x ∷ xs) h = omega (arith, sum_by-cons f x xs, h x, sum_most f xs h)

-- ---- what is counted, as a sum

pub counted_weight : (w : Whole) (r : ℕ) (h : Pair → ℕ) (xs : List Pair) → sum_by h (counted_in w r xs) ≡ sum_by (λ x. cond (is_counted w r x) (h (orient x)) 0) xs
counted_weight w r h xs = sum_by-mapped h orient (filter (is_counted w r) xs) ∙ filter_sum (is_counted w r) (λ x. h (orient x)) xs

pub counted_all : (w : Whole) (r : ℕ) (h : Pair → ℕ) → sum_by h (counted w r) ≡ sum_by (λ x. sum_by (λ y. cond (is_counted w r y) (h (orient y)) 0) (all_from depth_of (next_of w r) x)) (start_of w r)
unfolding counted
counted_all w r h =
    counted_weight w r h (flat_map (all_from depth_of (next_of w r)) (start_of w r))
    ∙ sum_by-flat_map (λ y. cond (is_counted w r y) (h (orient y)) 0) (all_from depth_of (next_of w r)) (start_of w r)

many_counted : (w : Whole) (r : ℕ) (xs : List Pair) → length (counted_in w r xs) ≡ sum_by (λ x. cond (is_counted w r x) 1 0) xs
many_counted w r xs = sym (ones (counted_in w r xs)) ∙ counted_weight w r (λ x. 1) xs

module _ (z : Seat) (seat : IsSeat z) where
  few_interactions : length (interactions (opening z.whole)) ≤ 2 ^ 40
  few_interactions =
      let b : length z.whole.bodies ≤ 1048576 = seat.whole.bodies.valid.few in
      let each : (i : BodyData) → count_by (stands_for (opening z.whole) z.whole.bodies i) z.whole.bodies ≤ 1048576 = λ i. omega (arith, b, count_by-le-length (stands_for (opening z.whole) z.whole.bodies i) z.whole.bodies) in
      omega (arith, b, interactions_by_bodies z.whole.gravity.setup z.whole.bodies seat.whole.bodies, sum_most (λ i. count_by (stands_for (opening z.whole) z.whole.bodies i) z.whole.bodies) z.whole.bodies each)

  few_of_rank : length (counted z.whole z.rank) ≤ 2 ^ 40
  few_of_rank = omega (
    arith,
    in_range (λ r. length (counted z.whole r)) (ranks_of z.whole) 0 z.rank (omega arith) (omega (arith, seat.rank)),
    as_many z.whole seat.whole,
    few_interactions,
  )

  module _ (s : Rank) (run : IsInRun z s) where
    -- what was worked off, and what is reached from what waits then, is all that is reached
    pub settled_then : (g : Pair → ℕ) → sum_by g (s.done ++ done_after (rules z) z.rank s) + weight_from z g (list_after (rules z) z.rank s) ≡ weight_from z g (start_of z.whole z.rank)
    unfolding list_after done_after
    settled_then g =
        omega (
          arith,
          run.settled g,
          sum_by-append g s.done (flat_map (worked depth_of (next_of z.whole z.rank) (knows_both (rules z) z.rank s.replies)) (todo (rules z) z.rank s)),
          settled_list depth_of (next_of z.whole z.rank) (next_falls z.whole z.rank) (knows_both (rules z) z.rank s.replies) g (todo (rules z) z.rank s),
        )

    pub few_counted : length (counted_in z.whole z.rank (s.done ++ done_after (rules z) z.rank s)) ≤ 2 ^ 40
    few_counted = omega (
      arith,
      many_counted z.whole z.rank (s.done ++ done_after (rules z) z.rank s),
      settled_then (λ x. cond (is_counted z.whole z.rank x) 1 0),
      counted_all z.whole z.rank (λ x. 1),
      ones (counted z.whole z.rank),
      few_of_rank,
    )
