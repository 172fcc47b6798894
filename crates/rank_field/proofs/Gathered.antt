-- What each rank of a finished machine can tell, and how many interactions the ranks have counted.
use Rattle.std.proofs.Common.{◌≡◌, ℕ, ◌+◌, ◌*◌, ◌<◌, ◌≤◌, ◌^◌, List, [], ◌∷◌, length, take, get_or, ap, sym, ◌∙◌, subst, arith}
use Rattle.std.specs.Prelude.{slice_index_or}
use Rattle.std.specs.List.{count_by, sum_by}
use Rattle.std.proofs.lemmas.List.{take_all}
use Rattle.std.proofs.lemmas.List.FromFn.{get_or-range_with_len, length-range_with_len}
use Rattle.std.proofs.lemmas.List.Sums.{count_by-le-length, sum_by-cons, sum_by_more, sum_by_more_le}
use Rattle.nbody_model.specs.Bodies.{BodyData}
use Rattle.nbody_model.specs.Covers.{interactions}
use Rattle.model_laws.specs.Firsts.{stands_for}
use Rattle.model_laws.proofs.Firsts.{interactions_by_bodies}
use Rattle.rank_laws.specs.Protocol.{World, state}
use Rattle.rank_laws.specs.Machine.{Message, Rank, machine}
use Rattle.rank_laws.specs.Whole.{Whole, counted_in, opening, ranks, ranks_of, rules_of}
use Rattle.rank_laws.proofs.Fairness.{rules_fair}
use Rattle.rank_laws.proofs.KeptLaws.{finished_have}
use Rattle.rank_laws.proofs.Numbered.{goes_on}
use Rattle.rank_laws.proofs.Plays.{has_counts}
use Rattle.rank_exchange.specs.Moments.{Moment, state_at}
use Rattle.rank_exchange.specs.Ranks.{IsAt, MayTell, RankData}
use Rattle.rank_field.specs.Machines.{HasFinished, MachineData, moment_of}

-- how many interactions a rank has counted
abbrev pub count_at : Whole → World Rank Message → ℕ → ℕ
count_at w z r = length (counted_in w r (state (machine (rules_of w)) z r).done)

sum_most : {X : Type 0} (f : X → ℕ) (xs : List X) → ((x : X) → f x ≤ 1048576) → sum_by f xs ≤ length xs * 1048576
sum_most f [] h = omega arith
sum_most f (x ∷ xs) h = omega (arith, sum_by-cons f x xs, h x, sum_most f xs h)

module _ (w : Whole) (z : World Rank Message) (v : MachineData) (h : HasFinished w z v) where
  abbrev pub at : (q : ℕ) → q < ranks_of w → Moment
  at q within = moment_of w z h.machine.run q within

  pub is_at : (q : ℕ) (within : q < ranks_of w) (rank : RankData) → rank ≡ slice_index_or v.ranks.items q rank → IsAt (at q within) rank
  is_at q within rank e = subst (λ (d : RankData). IsAt (at q within) d) (sym e) (h.machine.each q rank within)

  pub may_tell : (q : ℕ) (within : q < ranks_of w) → MayTell (at q within)
  may_tell q within =
      let fair = rules_fair w h.machine.run.is_whole in
      record {
        shared = (goes_on (rules_of w) fair h.machine.run.events z h.machine.run.run h.ended).shared q within;
        parts = (finished_have (rules_of w) fair h.machine.run.events z h.machine.run.run h.ended q within).parts;
      }

  -- ---- the number of interactions

  pub all_counted : sum_by (count_at w z) (ranks w) ≡ length (interactions (opening w))
  all_counted = has_counts w h.machine.run.is_whole h.machine.run.events z h.machine.run.run h.ended

  few_interactions : length (interactions (opening w)) ≤ 2 ^ 40
  few_interactions =
      let b : length w.bodies ≤ 1048576 = h.machine.run.is_whole.bodies.valid.few in
      let each : (i : BodyData) → count_by (stands_for (opening w) w.bodies i) w.bodies ≤ 1048576 = λ i. omega (arith, b, count_by-le-length (stands_for (opening w) w.bodies i) w.bodies) in
      omega (arith, b, interactions_by_bodies w.gravity.setup w.bodies h.machine.run.is_whole.bodies, sum_most (λ i. count_by (stands_for (opening w) w.bodies i) w.bodies) w.bodies each)

  -- over the list of its ranks: one more is counted, and all are
  module _ (xs : List RankData) (are : xs ≡ v.ranks.items) where
    many : length xs ≡ ranks_of w
    many = ap length are ∙ h.machine.ranks

    module _ (i count n : ℕ) (rank : RankData) (inside : i < length xs) (is : rank ≡ slice_index_or xs i rank)
        (counts : (m : Moment) → IsAt m rank → n ≡ length (counted_in m.whole m.rank (state_at m).done)) (so_far : count ≡ sum_by (count_at w z) (take i (ranks w))) where
      within : i < ranks_of w
      within = omega (arith, inside, many)

      one : n ≡ count_at w z (get_or (ranks w) i 0)
      one =
          let number : get_or (ranks w) i 0 ≡ i = get_or-range_with_len 0 (ranks_of w) i 0 within ∙ omega arith in
          let rank_is : rank ≡ slice_index_or v.ranks.items i rank = is ∙ ap (λ (ys : List RankData). slice_index_or ys i rank) are in
          counts (at i within) (is_at i within rank rank_is) ∙ ap (count_at w z) (sym number)

      pub counts_more : count + n ≡ sum_by (count_at w z) (take (i + 1) (ranks w))
      counts_more = omega (arith, so_far, one, sum_by_more (count_at w z) (ranks w) i 0 (omega (arith, within, length-range_with_len 0 (ranks_of w))))

      pub counts_fit : count + n ≤ 2 ^ 40
      counts_fit = omega (arith, so_far, one, all_counted, few_interactions, sum_by_more_le (count_at w z) (ranks w) i 0 (omega (arith, within, length-range_with_len 0 (ranks_of w))))

    pub counts_all : (i count : ℕ) → length xs ≤ i → count ≡ sum_by (count_at w z) (take i (ranks w)) → count ≡ length (interactions (opening w))
    counts_all i count over so_far = so_far ∙ ap (sum_by (count_at w z)) (take_all i (ranks w) (omega (arith, over, many, length-range_with_len 0 (ranks_of w)))) ∙ all_counted
