-- One step of a rank's walk over its list.
use Rattle.std.proofs.Common.{◌≡◌, ◌≢◌, ℕ, ◌+◌, ◌*◌, ◌<◌, ◌^◌, ◌==◌, pos, ◌+ℤ◌, Bool, true, false, cond, ◌||◌, List, [], ◌∷◌, ◌++◌, map, length, reverse, sum_by, get_or, refl, ap, sym, ◌∙◌, arith, append_assoc, subst}
use Rattle.std.specs.List.{filter, AllByRecursion}
use Rattle.std.proofs.lemmas.List.{append-nil, map-append, reverse-append, reverse-reverse}
use Rattle.std.proofs.lemmas.List.Sums.{sum_by-cons, sum_by-append}
use Rattle.std.proofs.lemmas.List.Concat.{flat_map-append}
use Rattle.std.proofs.lemmas.Bool.{false≢true}
use Rattle.std.proofs.lemmas.Int.{ints}
use Rattle.fixed_point.specs.declared.V3.{V3}
use Rattle.fixed_point.specs.Vectors.{origin, plus, IsAtMost}
use Rattle.cell_space.specs.Cells.{root_cell, same_cell}
use Rattle.cell_space.proofs.Cells.{same_cell-exact}
use Rattle.nbody_model.specs.Covers.{orient}
use Rattle.nbody_model.specs.Force.{pair_force}
use Rattle.nbody_model.specs.Tables.{Gravity}
use Rattle.model_laws.proofs.Among.{Among, each-append}
use Rattle.rank_laws.specs.Trees.{IsFalling, next_known, worked, waiting}
use Rattle.rank_laws.specs.Machine.{Pair, knows_both}
use Rattle.rank_laws.specs.Whole.{depth_of, next_of, rules_of, counted_in, is_counted}
use Rattle.rank_laws.proofs.Trees.{tree_step}
use Rattle.rank_laws.proofs.Fairness.{next_falls}
use Rattle.rank_walk.specs.declared.heard.Heard.{Heard}
use Rattle.rank_walk.specs.declared.places.Places.{Places}
use Rattle.rank_walk.specs.declared.verdict.Verdict.{Verdict}
use Rattle.rank_walk.specs.declared.verdict.Verdict.TheVariants as verdicts
use Rattle.rank_walk.specs.Seats.{Side}
use Rattle.rank_walk.specs.Slots.{SlotData, no_slot, slot_at, cell_at_place, cells_in, cells, value_at, flag_at, sum_at_place, moved, flagged, upper, lower, judge, AreFit}
use Rattle.rank_walk.specs.Tables.{IsIn, IsGrown, IsPushed}
use Rattle.rank_walk.specs.Walked.{AreListed, IsAt, IsListed, IsNearer, IsWorkedOff, MayWork, Means, Plan, all_counted, all_waiting, all_worked, done_to, knows_pair, takes_part, work}
use Rattle.rank_walk.proofs.Given.{cells_kept, listed_next, places_differ}
use Rattle.rank_walk.proofs.Growth.{asked_grown, heard_grown, heard_same, length_append, listed_grown, small_grown, touched_grown, values_grown}
use Rattle.rank_walk.proofs.Judged.{judge_fit, judge_means}
use Rattle.rank_walk.proofs.Lists.{at_map, length_map}
use Rattle.rank_walk.proofs.Opened.{same_grown}
use Rattle.rank_walk.proofs.Work.{work_next}
use Rattle.rank_walk.proofs.Values.{flag_touched, flagged_long, moved_long, small_moved, value_moved}

each-front : {X : Type 0} (P : X → Type 0) (xs ys : List X) → AllByRecursion P (xs ++ ys) → AllByRecursion P xs
each-front P [] ys a = tt
each-front P (x ∷ xs) ys a = (a.0, each-front P xs ys a.1)

each-last : {X : Type 0} (P : X → Type 0) (xs : List X) (y : X) → AllByRecursion P (xs ++ y ∷ []) → P y
each-last P [] y a = a.0
each-last P (x ∷ xs) y a = each-last P xs y a.1

pub each-reverse : {X : Type 0} (P : X → Type 0) (xs : List X) → AllByRecursion P xs → AllByRecursion P (reverse xs)
each-reverse P [] a = tt
each-reverse P (x ∷ xs) a = subst (AllByRecursion P) (sym (reverse-append (x ∷ []) xs)) (each-append P (reverse xs) (x ∷ []) (each-reverse P xs a.1) (a.0, tt))

map_reverse : {X Y : Type 0} (f : X → Y) (xs : List X) → map f (reverse xs) ≡ reverse (map f xs)
map_reverse f [] = refl
map_reverse f (x ∷ xs) = ap (map f) (reverse-append (x ∷ []) xs) ∙ map-append f (reverse xs) (x ∷ []) ∙ ap (λ t. t ++ f x ∷ []) (map_reverse f xs) ∙ sym (reverse-append (f x ∷ []) (map f xs))

reverse-sum : {X : Type 0} (f : X → ℕ) (xs : List X) → sum_by f (reverse xs) ≡ sum_by f xs
reverse-sum f [] = refl
reverse-sum f (x ∷ xs) = omega (arith, ap (sum_by f) (reverse-append (x ∷ []) xs), sum_by-append f (reverse xs) (x ∷ []), sum_by-cons f x xs, reverse-sum f xs)

work_more : (xs ys : List Pair) → work (xs ++ ys) ≡ work xs + work ys
unfolding work
work_more xs ys = sum_by-append (λ x. 128 ^ depth_of x) xs ys

work_one : (x : Pair) → work (x ∷ []) ≡ 128 ^ depth_of x
unfolding work
work_one x = omega (arith, sum_by-cons (λ x. 128 ^ depth_of x) x [])

work_turned : (xs : List Pair) → work (reverse xs) ≡ work xs
unfolding work
work_turned xs = reverse-sum (λ x. 128 ^ depth_of x) xs

module _ (z : Side) where
  abbrev next : Pair → List Pair
  next x = next_of z.seat.whole z.seat.rank x

  falls_known : IsFalling depth_of (next_known depth_of (next_of z.seat.whole z.seat.rank) (knows_both (rules_of z.seat.whole) z.seat.rank z.replies))
  falls_known x y h = case (knows_pair z x) h
    where
      case : (b : Bool) → Among y (cond b (next_of z.seat.whole z.seat.rank x) []) → depth_of y < depth_of x
      case true a = next_falls z.seat.whole z.seat.rank x y a
      case false a = absurd a

  worked_at : (x : Pair) (b : Bool) → knows_pair z x ≡ b → worked depth_of (next_of z.seat.whole z.seat.rank) (knows_both (rules_of z.seat.whole) z.seat.rank z.replies) x ≡ cond b (x ∷ []) [] ++ all_worked z (cond b (next_of z.seat.whole z.seat.rank x) [])
  unfolding all_worked
  worked_at x b e = tree_step depth_of (λ y. cond (knows_pair z y) (y ∷ []) []) (next_known depth_of (next_of z.seat.whole z.seat.rank) (knows_both (rules_of z.seat.whole) z.seat.rank z.replies)) falls_known x
      ∙ ap (λ b. cond b (x ∷ []) [] ++ all_worked z (cond b (next_of z.seat.whole z.seat.rank x) [])) e

  waiting_at : (x : Pair) (b : Bool) → knows_pair z x ≡ b → waiting depth_of (next_of z.seat.whole z.seat.rank) (knows_both (rules_of z.seat.whole) z.seat.rank z.replies) x ≡ cond b [] (x ∷ []) ++ all_waiting z (cond b (next_of z.seat.whole z.seat.rank x) [])
  unfolding all_waiting
  waiting_at x b e = tree_step depth_of (λ y. cond (knows_pair z y) [] (y ∷ [])) (next_known depth_of (next_of z.seat.whole z.seat.rank) (knows_both (rules_of z.seat.whole) z.seat.rank z.replies)) falls_known x
      ∙ ap (λ b. cond b [] (x ∷ []) ++ all_waiting z (cond b (next_of z.seat.whole z.seat.rank x) [])) e

  worked_known : (x : Pair) (xs : List Pair) → knows_pair z x ≡ true → all_worked z (x ∷ xs) ≡ x ∷ all_worked z (next_of z.seat.whole z.seat.rank x ++ xs)
  unfolding all_worked
  worked_known x xs e = ap (λ t. t ++ all_worked z xs) (worked_at x true e) ∙ ap (λ t. x ∷ t) (sym (flat_map-append (worked depth_of (next_of z.seat.whole z.seat.rank) (knows_both (rules_of z.seat.whole) z.seat.rank z.replies)) (next_of z.seat.whole z.seat.rank x) xs))

  worked_unknown : (x : Pair) (xs : List Pair) → knows_pair z x ≡ false → all_worked z (x ∷ xs) ≡ all_worked z xs
  unfolding all_worked
  worked_unknown x xs e = ap (λ t. t ++ all_worked z xs) (worked_at x false e)

  waiting_known : (x : Pair) (xs : List Pair) → knows_pair z x ≡ true → all_waiting z (x ∷ xs) ≡ all_waiting z (next_of z.seat.whole z.seat.rank x ++ xs)
  unfolding all_waiting
  waiting_known x xs e = ap (λ t. t ++ all_waiting z xs) (waiting_at x true e) ∙ sym (flat_map-append (waiting depth_of (next_of z.seat.whole z.seat.rank) (knows_both (rules_of z.seat.whole) z.seat.rank z.replies)) (next_of z.seat.whole z.seat.rank x) xs)

  waiting_unknown : (x : Pair) (xs : List Pair) → knows_pair z x ≡ false → all_waiting z (x ∷ xs) ≡ x ∷ all_waiting z xs
  unfolding all_waiting
  waiting_unknown x xs e = ap (λ t. t ++ all_waiting z xs) (waiting_at x false e)

  kept_at : (x : Pair) (xs : List Pair) (b : Bool) → is_counted z.seat.whole z.seat.rank x ≡ b → counted_in z.seat.whole z.seat.rank (x ∷ xs) ≡ cond b (orient x ∷ []) [] ++ counted_in z.seat.whole z.seat.rank xs
  kept_at x xs b e = ap (λ b. map orient (cond b (x ∷ filter (is_counted z.seat.whole z.seat.rank) xs) (filter (is_counted z.seat.whole z.seat.rank) xs))) e ∙ by b
    where
      by : (b : Bool) → map orient (cond b (x ∷ filter (is_counted z.seat.whole z.seat.rank) xs) (filter (is_counted z.seat.whole z.seat.rank) xs)) ≡ cond b (orient x ∷ []) [] ++ counted_in z.seat.whole z.seat.rank xs
      by true = refl
      by false = refl

module _ (z : Side) (p : Plan) (h : Heard) (rest wait : List Places) (x : Places) (count : ℕ) (was : IsAt z p h (rest ++ x ∷ []) wait count) where
  abbrev ss : List SlotData
  ss = h.slots.items

  pub within : IsIn h.slots.items x
  within = each-last (IsIn ss) rest x was.stacked.within

  pub listed : IsListed (cells h.slots.items x)
  listed = each-last IsListed (map (cells ss) rest) (cells ss x) (subst (AllByRecursion IsListed) (map-append (cells ss) rest (x ∷ [])) was.stacked.listed)

  rest_listed : AreListed ss rest
  rest_listed = record {
    within = each-front (IsIn ss) rest (x ∷ []) was.stacked.within;
    listed = each-front IsListed (map (cells ss) rest) (cells ss x ∷ []) (subst (AllByRecursion IsListed) (map-append (cells ss) rest (x ∷ [])) was.stacked.listed);
  }

  popped : map (cells ss) (reverse (rest ++ x ∷ [])) ≡ cells ss x ∷ map (cells ss) (reverse rest)
  popped = ap (map (cells ss)) (reverse-append rest (x ∷ []))

  work_popped : work (map (cells ss) (rest ++ x ∷ [])) ≡ work (map (cells ss) rest) + 128 ^ depth_of (cells ss x)
  work_popped = ap work (map-append (cells ss) rest (x ∷ [])) ∙ omega (arith, work_more (map (cells ss) rest) (cells ss x ∷ []), work_one (cells ss x))

  -- it waits
  pub at_waits : (more : List Places) → more ≡ wait ++ x ∷ [] → knows_pair z (cells h.slots.items x) ≡ false → IsNearer z p h (rest ++ x ∷ []) h rest more count
  at_waits more m e = record {
    at = record {
      heard = was.heard;
      grew = was.grew;
      stacked = rest_listed;
      waited = record {
        within = subst (AllByRecursion (IsIn ss)) (sym m) (each-append (IsIn ss) wait (x ∷ []) was.waited.within (within, tt));
        listed = subst (AllByRecursion IsListed) (sym (ap (map (cells ss)) m ∙ map-append (cells ss) wait (x ∷ []))) (each-append IsListed (map (cells ss) wait) (cells ss x ∷ []) was.waited.listed (listed, tt));
      };
      waiting = ap (λ t. map (cells ss) t ++ all_waiting z (map (cells ss) (reverse rest))) m ∙ ap (λ t. t ++ all_waiting z (map (cells ss) (reverse rest))) (map-append (cells ss) wait (x ∷ []))
          ∙ append_assoc (map (cells ss) wait) (cells ss x ∷ []) (all_waiting z (map (cells ss) (reverse rest))) ∙ ap (λ t. map (cells ss) wait ++ t) (sym (ap (all_waiting z) popped ∙ waiting_unknown z (cells ss x) (map (cells ss) (reverse rest)) e)) ∙ was.waiting;
      done = was.done;
      worked = ap (λ t. was.done ++ counted_in z.seat.whole z.seat.rank t) (sym (ap (all_worked z) popped ∙ worked_unknown z (cells ss x) (map (cells ss) (reverse rest)) e)) ∙ was.worked;
      counted = was.counted;
      sums = was.sums;
      touched = was.touched;
      asked = was.asked;
      small = was.small;
      few = was.few;
    };
    less = omega (arith, work_popped, work_next z.seat.whole z.seat.rank (cells ss x));
  }

  -- the known pair gives what was pushed
  module _ (k : Heard) (grown : IsGrown z.seat h k) (new : List Places) (pushed : IsPushed z.seat k.slots.items (cells h.slots.items x) rest new) (known : knows_pair z (cells h.slots.items x) ≡ true) where
    abbrev ts : List SlotData
    ts = k.slots.items

    turned : map (cells ts) (reverse new) ≡ next_of z.seat.whole z.seat.rank (cells ss x) ++ map (cells ss) (reverse rest)
    turned = ap (λ t. map (cells ts) (reverse t)) pushed.stack ∙ ap (map (cells ts)) (reverse-append rest (reverse pushed.given) ∙ ap (λ t. t ++ reverse rest) (reverse-reverse pushed.given)) ∙ map-append (cells ts) pushed.given (reverse rest)
        ∙ (λ i. pushed.cells i ++ cells_kept z.seat h k grown (reverse rest) (each-reverse (IsIn ss) rest rest_listed.within) i)

    waiting_next : map (cells ts) wait ++ all_waiting z (map (cells ts) (reverse new)) ≡ p.waits
    waiting_next = (λ i. cells_kept z.seat h k grown wait was.waited.within i ++ all_waiting z (turned i)) ∙ ap (λ t. map (cells ss) wait ++ t) (sym (ap (all_waiting z) popped ∙ waiting_known z (cells ss x) (map (cells ss) (reverse rest)) known)) ∙ was.waiting

    worked_next : (b : Bool) → is_counted z.seat.whole z.seat.rank (cells ss x) ≡ b → (was.done ++ cond b (orient (cells ss x) ∷ []) []) ++ all_counted z (map (cells ts) (reverse new)) ≡ p.counts
    worked_next b e = append_assoc was.done (cond b (orient (cells ss x) ∷ []) []) (all_counted z (map (cells ts) (reverse new)))
        ∙ ap (λ t. was.done ++ t) (ap (λ t. cond b (orient (cells ss x) ∷ []) [] ++ all_counted z t) turned ∙ sym (kept_at z (cells ss x) (all_worked z (next_of z.seat.whole z.seat.rank (cells ss x) ++ map (cells ss) (reverse rest))) b e))
        ∙ ap (λ t. was.done ++ counted_in z.seat.whole z.seat.rank t) (sym (ap (all_worked z) popped ∙ worked_known z (cells ss x) (map (cells ss) (reverse rest)) known)) ∙ was.worked

    stack_cells : map (cells ts) new ≡ map (cells ss) rest ++ reverse (next_of z.seat.whole z.seat.rank (cells ss x))
    stack_cells = ap (map (cells ts)) pushed.stack ∙ map-append (cells ts) rest (reverse pushed.given) ∙ (λ i. cells_kept z.seat h k grown rest rest_listed.within i ++ (map_reverse (cells ts) pushed.given ∙ ap reverse pushed.cells) i)

    stacked_new : AreListed ts new
    stacked_new = record {
      within = subst (AllByRecursion (IsIn ts)) (sym pushed.stack) (each-append (IsIn ts) rest (reverse pushed.given) (listed_grown z h k was.heard grown rest rest_listed).within (each-reverse (IsIn ts) pushed.given pushed.within));
      listed = subst (AllByRecursion IsListed) (sym stack_cells)
          (each-append IsListed (map (cells ss) rest) (reverse (next_of z.seat.whole z.seat.rank (cells ss x))) rest_listed.listed
          (each-reverse IsListed (next_of z.seat.whole z.seat.rank (cells ss x)) (listed_next z.seat was.heard.whole (cells ss x) (was.heard.table.each x.a within.first).standing (was.heard.table.each x.b within.second).standing listed)));
    }

    work_less : work (map (cells k.slots.items) new) < work (map (cells h.slots.items) (rest ++ x ∷ []))
    work_less = omega (
      arith,
      ap work stack_cells,
      work_more (map (cells ss) rest) (reverse (next_of z.seat.whole z.seat.rank (cells ss x))),
      work_turned (next_of z.seat.whole z.seat.rank (cells ss x)),
      work_next z.seat.whole z.seat.rank (cells ss x),
      work_popped,
    )

    -- it gives others, or nothing, and isn't counted
    pub at_given : is_counted z.seat.whole z.seat.rank (cells h.slots.items x) ≡ false → IsNearer z p h (rest ++ x ∷ []) k new wait count
    at_given e = record {
      at = record {
        heard = heard_grown z h k was.heard grown;
        grew = record { more = was.grew.more ++ grown.more; is = grown.cells ∙ ap (λ t. t ++ grown.more) was.grew.is ∙ append_assoc p.cells was.grew.more grown.more };
        stacked = stacked_new;
        waited = listed_grown z h k was.heard grown wait was.waited;
        waiting = waiting_next;
        done = was.done;
        worked = ap (λ t. t ++ all_counted z (map (cells ts) (reverse new))) (sym (append-nil was.done)) ∙ worked_next false e;
        counted = was.counted;
        sums = λ c. values_grown z h k was.heard grown c ∙ was.sums c;
        touched = λ c. touched_grown z h k was.heard grown c ∙ was.touched c;
        asked = λ c. asked_grown z h k was.heard grown c ∙ was.asked c;
        small = small_grown z h k was.heard grown (count * 2 ^ 86) was.small;
        few = was.few;
      };
      less = work_less;
    }

    -- it is counted
    pub room : is_counted z.seat.whole z.seat.rank (cells h.slots.items x) ≡ true → count < 2 ^ 40
    room e = omega (arith, was.counted, was.few, ap length (worked_next true e), length_append (was.done ++ orient (cells ss x) ∷ []) (all_counted z (map (cells ts) (reverse new))), length_append was.done (orient (cells ss x) ∷ []))

  -- it is counted, and gives nothing
  module _ (known : knows_pair z (cells h.slots.items x) ≡ true) (none : next_of z.seat.whole z.seat.rank (cells h.slots.items x) ≡ []) (e : is_counted z.seat.whole z.seat.rank (cells h.slots.items x) ≡ true)
      (k : Heard) (same : k.slots.items ≡ h.slots.items) (i j : ℕ) (f : V3) (sums : k.sums.items ≡ moved h.sums.items i j f) (touched : k.touched.items ≡ flagged h.touched.items i j) (asked : k.asked.items ≡ h.asked.items)
      (low : i < length h.slots.items) (high : j < length h.slots.items) (d : i ≢ j) (o : orient (cells h.slots.items x) ≡ (cell_at_place h.slots.items i, cell_at_place h.slots.items j))
      (apart : same_cell (orient (cells h.slots.items x)).0 (orient (cells h.slots.items x)).1 ≡ false) (force : f ≡ pair_force z.seat.whole.gravity z.seat.whole.bodies (orient (cells h.slots.items x))) (small : IsAtMost (2 ^ 86) f) (n : ℕ) (next_count : n ≡ count + 1) where
    same_h : IsGrown z.seat h h
    same_h = same_grown z.seat h was.heard.table

    nothing : IsPushed z.seat ss (cells ss x) rest rest
    nothing = record { given = []; stack = sym (append-nil rest); within = tt; cells = sym none }

    cells_long : {X : Type 0} (xs : List X) → length xs ≡ length ss → length xs ≡ length (cells_in ss)
    cells_long xs e = omega (arith, e, length_map (λ (s : SlotData). s.cell) ss)

    here : (l : ℕ) → cell_at_place ss l ≡ get_or (cells_in ss) l root_cell
    here l = sym (at_map (λ (s : SlotData). s.cell) no_slot ss l)

    ends : orient (cells ss x) ≡ (get_or (cells_in ss) i root_cell, get_or (cells_in ss) j root_cell)
    ends = o ∙ (λ r. (here i r, here j r))

    long : length k.sums.items ≡ length h.sums.items
    long = ap length sums ∙ moved_long h.sums.items i j f

    long_touched : length k.touched.items ≡ length h.touched.items
    long_touched = ap length touched ∙ flagged_long h.touched.items i j

    pub at_counted : IsNearer z p h (rest ++ x ∷ []) k rest wait n
    at_counted = record {
      at = record {
        heard = heard_same z h k was.heard same long long_touched (ap length asked);
        grew = record { more = was.grew.more; is = ap cells_in same ∙ was.grew.is };
        stacked = subst (λ t. AreListed t rest) (sym same) rest_listed;
        waited = subst (λ t. AreListed t wait) (sym same) was.waited;
        waiting = (λ t. map (cells (same t)) wait ++ all_waiting z (map (cells (same t)) (reverse rest))) ∙ waiting_next h same_h rest nothing known;
        done = was.done ++ orient (cells ss x) ∷ [];
        worked = (λ t. (was.done ++ orient (cells ss x) ∷ []) ++ all_counted z (map (cells (same t)) (reverse rest))) ∙ worked_next h same_h rest nothing known true e;
        counted = omega (arith, next_count, was.counted, length_append was.done (orient (cells ss x) ∷ []));
        sums = λ c. (λ t. value_at (cells_in (same t)) (sums t) c)
            ∙ value_moved z.seat (cells_in ss) h.sums.items i j f (p.sums c) was.done (orient (cells ss x)) c (cells_long h.sums.items was.heard.long) (omega (arith, low, was.heard.long)) (omega (arith, high, was.heard.long)) d ends apart force (was.sums c);
        touched = λ c. (λ t. flag_at (cells_in (same t)) (touched t) c)
            ∙ flag_touched (cells_in ss) h.touched.items i j (p.touched c) was.done (orient (cells ss x)) c (cells_long h.touched.items was.heard.long_touched) (omega (arith, low, was.heard.long_touched)) (omega (arith, high, was.heard.long_touched)) ends (was.touched c);
        asked = λ c. (λ t. flag_at (cells_in (same t)) (asked t) c) ∙ was.asked c;
        small = λ l. subst (λ a. IsAtMost a (sum_at_place k.sums.items l)) (let a : count * 2 ^ 86 + 2 ^ 86 ≡ n * 2 ^ 86 = omega (arith, next_count) in a)
            (subst (λ w. IsAtMost (count * 2 ^ 86 + 2 ^ 86) (sum_at_place w l)) (sym sums) (small_moved (count * 2 ^ 86) h.sums.items i j f (omega (arith, low, was.heard.long)) (omega (arith, high, was.heard.long)) was.small small l));
        few = was.few;
      };
      less = subst (λ t. work (map (cells t) rest) < work (map (cells ss) (rest ++ x ∷ []))) (sym same) (work_less h same_h rest nothing known);
    }

-- nothing is pushed
nothing_pushed : (z : Side) (xs : List SlotData) (x : Pair) (rest : List Places) → next_of z.seat.whole z.seat.rank x ≡ [] → IsPushed z.seat xs x rest rest
nothing_pushed z xs x rest e = record { given = []; stack = sym (append-nil rest); within = tt; cells = sym e }

-- ---- a step, by what its verdict means

upper_in : (xs : List SlotData) (x : Places) → IsIn xs x → (turned : Bool) → upper turned x < length xs
upper_in xs x h true = h.second
upper_in xs x h false = h.first

lower_in : (xs : List SlotData) (x : Places) → IsIn xs x → (turned : Bool) → lower turned x < length xs
lower_in xs x h true = h.first
lower_in xs x h false = h.second

two_differ : (x : Places) → x.a ≢ x.b → (turned : Bool) → upper turned x ≢ lower turned x
two_differ x n true = λ e. n (sym e)
two_differ x n false = n

turned_differ : (xs : List SlotData) (x : Places) → same_cell (cell_at_place xs x.a) (cell_at_place xs x.b) ≡ false → (turned : Bool) → same_cell (cell_at_place xs (upper turned x)) (cell_at_place xs (lower turned x)) ≡ false
turned_differ xs x n true = by (same_cell (cell_at_place xs x.b) (cell_at_place xs x.a)) refl
  where
    by : (b : Bool) → same_cell (cell_at_place xs x.b) (cell_at_place xs x.a) ≡ b → b ≡ false
    by true e = absurd (false≢true (sym n ∙ (same_cell-exact (cell_at_place xs x.a) (cell_at_place xs x.b)).1 (sym ((same_cell-exact (cell_at_place xs x.b) (cell_at_place xs x.a)).0 e))))
    by false e = refl
turned_differ xs x n false = n

module _ (z : Side) (p : Plan) (h : Heard) (rest wait : List Places) (x : Places) (count : ℕ) (was : IsAt z p h (rest ++ x ∷ []) wait count) where
  pub step_drops : Means z h.slots.items x verdicts.Drops → IsNearer z p h (rest ++ x ∷ []) h rest wait count
  step_drops m = at_given z p h rest wait x count was h (same_grown z.seat h was.heard.table) rest (nothing_pushed z h.slots.items (cells h.slots.items x) rest m.1) m.0 m.2

  pub step_opens : Means z h.slots.items x verdicts.Opens → (k : Heard) (new : List Places) → IsGrown z.seat h k → IsPushed z.seat k.slots.items (cells h.slots.items x) rest new → IsNearer z p h (rest ++ x ∷ []) k new wait count
  step_opens m k new g q = at_given z p h rest wait x count was k g new q m.0 m.1

  pub counts_room : (turned : Bool) (force : V3) → Means z h.slots.items x (verdicts.Counts turned force) → count < 2 ^ 40
  counts_room b f m = room z p h rest wait x count was h (same_grown z.seat h was.heard.table) rest (nothing_pushed z h.slots.items (cells h.slots.items x) rest m.1) m.0 m.2

  pub step_counts : (turned : Bool) (force : V3) → Means z h.slots.items x (verdicts.Counts turned force) → IsAtMost (2 ^ 86) force → (k : Heard) → k.slots.items ≡ h.slots.items → k.sums.items ≡ moved h.sums.items (upper turned x) (lower turned x) force →
      k.touched.items ≡ flagged h.touched.items (upper turned x) (lower turned x) → k.asked.items ≡ h.asked.items → (n : ℕ) → n ≡ count + 1 → IsNearer z p h (rest ++ x ∷ []) k rest wait n
  step_counts turned force m q k same sums touched asked n c =
      at_counted z p h rest wait x count was m.0 m.1 m.2 k same (upper turned x) (lower turned x) force sums touched asked
      (upper_in h.slots.items x (within z p h rest wait x count was) turned) (lower_in h.slots.items x (within z p h rest wait x count was) turned) (two_differ x m.5 turned) m.3
      (ap (λ p. same_cell p.0 p.1) m.3 ∙ turned_differ h.slots.items x (places_differ z.seat h.slots.items was.heard.table x (within z p h rest wait x count was) m.5) turned) m.4 q n c

  -- what the verdict means
  pub step_means : (g : Gravity) → g ≡ z.seat.whole.gravity → (ds : List SlotData) → ds ≡ h.slots.items → (v : Verdict) → v ≡ judge g ds x → Means z h.slots.items x v
  step_means g e ds d v q = subst (Means z h.slots.items x) (sym (q ∙ (λ i. judge (e i) (d i) x))) (judge_means z h.slots.items was.heard.table was.heard.knows x (within z p h rest wait x count was))

  pub step_fit : (g : Gravity) → g ≡ z.seat.whole.gravity → (ds : List SlotData) → ds ≡ h.slots.items → (x.a == x.b) ≡ false → AreFit g (slot_at ds x.a).moments (slot_at ds x.b).moments
  step_fit g e ds d n =
      subst (λ g. AreFit g (slot_at ds x.a).moments (slot_at ds x.b).moments) (sym e) (subst (λ t. AreFit z.seat.whole.gravity (slot_at t x.a).moments (slot_at t x.b).moments) (sym d)
      (judge_fit z h.slots.items was.heard.table was.heard.knows x (within z p h rest wait x count was) was.heard.whole (listed z p h rest wait x count was) n))

-- ---- the beginning and the end

abbrev pub plan_of : Side → Heard → List Places → ℕ → Plan
plan_of z h list count = record {
  cells = cells_in h.slots.items;
  sums = value_at (cells_in h.slots.items) h.sums.items;
  touched = flag_at (cells_in h.slots.items) h.touched.items;
  asked = flag_at (cells_in h.slots.items) h.asked.items;
  before = count;
  counts = all_counted z (map (cells h.slots.items) list);
  waits = all_waiting z (map (cells h.slots.items) list);
}

pub at_begin : (z : Side) (h : Heard) (list stack : List Places) (count : ℕ) → MayWork z h list count → stack ≡ reverse list → IsAt z (plan_of z h list count) h stack [] count
at_begin z h list stack count m e =
    let back : reverse stack ≡ list = ap reverse e ∙ reverse-reverse list in
    record {
      heard = m.heard;
      grew = record { more = []; is = sym (append-nil (cells_in h.slots.items)) };
      stacked = record {
        within = subst (AllByRecursion (IsIn h.slots.items)) (sym e) (each-reverse (IsIn h.slots.items) list m.listed.within);
        listed = subst (AllByRecursion IsListed) (sym (ap (map (cells h.slots.items)) e ∙ map_reverse (cells h.slots.items) list)) (each-reverse IsListed (map (cells h.slots.items) list) m.listed.listed);
      };
      waited = record { within = tt; listed = tt };
      waiting = ap (λ t. all_waiting z (map (cells h.slots.items) t)) back;
      done = [];
      worked = ap (λ t. all_counted z (map (cells h.slots.items) t)) back;
      counted = omega arith;
      sums = λ c. plus_none (value_at (cells_in h.slots.items) h.sums.items c);
      touched = λ c. or_none (flag_at (cells_in h.slots.items) h.touched.items c);
      asked = λ c. refl;
      small = m.small;
      few = m.few;
    }
  where
    or_none : (b : Bool) → b ≡ (b || false)
    or_none true = refl
    or_none false = refl

    plus_none : (v : V3) → v ≡ plus v origin
    plus_none v =
        let x : v.x ≡ v.x +ℤ pos 0 = omega (arith, ints) in
        let y : v.y ≡ v.y +ℤ pos 0 = omega (arith, ints) in
        let z : v.z ≡ v.z +ℤ pos 0 = omega (arith, ints) in
        λ i. record { x = x i; y = y i; z = z i }

pub at_end : (z : Side) (h : Heard) (list : List Places) (before : ℕ) (k : Heard) (stack wait : List Places) (count : ℕ) → stack ≡ [] → IsAt z (plan_of z h list before) k stack wait count → IsWorkedOff z h list before k wait count
unfolding all_worked all_waiting
at_end z h list before k stack wait count e a =
    let done : a.done ≡ all_counted z (map (cells h.slots.items) list) = sym (append-nil a.done) ∙ ap (λ t. a.done ++ all_counted z (map (cells k.slots.items) (reverse t))) (sym e) ∙ a.worked in
    record {
      heard = a.heard;
      grew = a.grew;
      listed = a.waited;
      waiting = sym (append-nil (map (cells k.slots.items) wait)) ∙ ap (λ t. map (cells k.slots.items) wait ++ all_waiting z (map (cells k.slots.items) (reverse t))) (sym e) ∙ a.waiting;
      counted = omega (arith, a.counted, ap length done);
      sums = λ c. a.sums c ∙ ap (λ t. plus (value_at (cells_in h.slots.items) h.sums.items c) (done_to z.seat t c)) done;
      touched = λ c. a.touched c ∙ ap (λ t. flag_at (cells_in h.slots.items) h.touched.items c || takes_part t c) done;
      asked = a.asked;
      small = a.small;
    }

pub none_left : {X : Type 0} (xs : List X) → length xs ≡ 0 → xs ≡ []
none_left [] h = refl
none_left (x ∷ xs) h = absurd (omega (arith, h))
