-- The members of a cell among own bodies.
use Rattle.std.proofs.Common.{◌≡◌, ℕ, ◌+◌, ◌*◌, ◌/◌, ◌%◌, ◌^◌, ◌<◌, ◌≤◌, Bool, true, false, cond, eqb, ltb, List, [], ◌∷◌, ◌++◌, map, sum_by, length, get_or, zero, suc, refl, ap, ◌∙◌, sym, subst, arith, ◌⊎◌, inl, inr}
use Rattle.std.specs.List.{filter, count_by, AllByRecursion}
use Rattle.std.specs.List.Sorted.{IsPermutation, IsNonDecreasingBy}
use Rattle.std.proofs.lemmas.Bool.{cond-true, cond-false, cases_lt, lt-ltb, le-ltb, eqb-true, eq-eqb}
use Rattle.std.proofs.lemmas.List.Sorted.{All-permutation, sum_by-IsPermutation}
use Rattle.std.proofs.lemmas.List.Elements.{All-from_recursion, recursion_from_All}
use Rattle.std.proofs.lemmas.List.Sums.{sum_by-cons}
use Rattle.cell_space.specs.Cells.{CellData, InBox, contains}
use Rattle.hilbert_keys.specs.Curve.{IsCell, first_key, last_key, keys_in, number_of as cell_number}
use Rattle.hilbert_keys.proofs.Curves.{keys_fit}
use Rattle.hilbert_keys.proofs.Widths.{some_keys}
use Rattle.nbody_model.specs.Bodies.{BodyData}
use Rattle.nbody_model.specs.Nodes.{members}
use Rattle.model_laws.proofs.Among.{Among, each-append}
use Rattle.model_laws.proofs.Shares.{Ascending, ascending-from, ascending-filter}
use Rattle.model_laws.proofs.Sums.{sum_by-mapped}
use Rattle.model_laws.proofs.Walk.{filter_sum}
use Rattle.octree_build.specs.Trees.{Rises, key_at, low_of, high_of}
use Rattle.octree_build.specs.Slots.{AreKeyed, keys_below}
use Rattle.octree_build.proofs.Edges.{count_at_most}
use Rattle.octree_build.proofs.Opened.{blank}
use Rattle.octree_build.proofs.Parts.{part, part_more}
use Rattle.octree_build.proofs.Placed.{rises_along}
use Rattle.octree_build.proofs.Runs.{members_range}
use Rattle.rank_laws.specs.Contents.{member_of}
use Rattle.rank_exchange.specs.Members.{AreNumbered, AreOwn, AreSorted, IsMembersRange, IsNumber, listed_at, listed_in, number_of}

-- ---- the range of a cell

pub last_fits : (c : CellData) → IsCell c → last_key c < 2 ^ 96
last_fits c h = let k : 0 < keys_in c.level = some_keys c.level in let f : cell_number c * keys_in c.level + keys_in c.level ≤ 2 ^ 96 = keys_fit c h.shallow in omega (arith, k, f)

counted_keys : (n : ℕ) (keys : List ℕ) (S : List BodyData) → keys ≡ map key_at S → keys_below keys n ≡ count_by (λ b. ltb (key_at b) n) S
unfolding keys_below
counted_keys n keys S e = ap (count_by (λ k. ltb k n)) e ∙ sum_by-mapped (λ k. cond (ltb k n) 1 0) key_at S

more_below : (m n : ℕ) → m ≤ n → (S : List BodyData) → count_by (λ b. ltb (key_at b) m) S ≤ count_by (λ b. ltb (key_at b) n) S
more_below m n h [] = omega arith
more_below m n h (b ∷ S) = omega (arith, sum_by-cons (λ b. cond (ltb (key_at b) m) 1 0) b S, sum_by-cons (λ b. cond (ltb (key_at b) n) 1 0) b S, more_below m n h S, one (cases_lt (key_at b) m) (cases_lt (key_at b) n))
  where
    one : (key_at b < m) ⊎ (m ≤ key_at b) → (key_at b < n) ⊎ (n ≤ key_at b) → cond {A = ℕ} (ltb (key_at b) m) 1 0 ≤ cond (ltb (key_at b) n) 1 0
    one (inl u) (inl v) = omega (arith, cond-true {A = ℕ} (ltb (key_at b) m) 1 0 (lt-ltb (key_at b) m u), cond-true {A = ℕ} (ltb (key_at b) n) 1 0 (lt-ltb (key_at b) n v))
    one (inl u) (inr v) = absurd (omega (arith, u, v, h))
    one (inr u) v = omega (arith, cond-false {A = ℕ} (ltb (key_at b) m) 1 0 (le-ltb (key_at b) m u))

pub members_between : (keys : List ℕ) (S : List BodyData) (c : CellData) (low high first last : ℕ) → AreKeyed keys S → IsCell c → first ≡ first_key c → last ≡ last_key c → low ≡ keys_below keys first → high ≡ keys_below keys (last + 1) → IsMembersRange S c low high
members_between keys S c low high first last h i f l a b =
    let some : 0 < keys_in c.level = some_keys c.level in
    let end : last + 1 ≡ first_key c + keys_in c.level = omega (arith, l, some) in
    let x : low ≡ low_of S c = a ∙ ap (keys_below keys) f ∙ counted_keys (first_key c) keys S h.are in
    let y : high ≡ high_of S c = b ∙ ap (keys_below keys) end ∙ counted_keys (first_key c + keys_in c.level) keys S h.are in
    record {
      order = omega (arith, x, y, more_below (first_key c) (first_key c + keys_in c.level) (omega arith) S);
      within = omega (arith, y, count_at_most (λ (b : BodyData). ltb (key_at b) (first_key c + keys_in c.level)) S);
      are = (λ i. part S (x i) (y i)) ∙ sym (members_range S h.in_box h.rises c i);
    }

pub keyed_own : (B S : List BodyData) (keys : List ℕ) → AreOwn B S → keys ≡ map key_at S → AreKeyed keys S
keyed_own B S keys h e = record {
  are = e;
  rises = rises_along S h.along.ordered;
  in_box = recursion_from_All (λ b. InBox b.motion.pos) S (All-permutation (λ b. InBox b.motion.pos) B S h.along.permuted (All-from_recursion (λ b. InBox b.motion.pos) B h.bodies.in_box));
}

-- ---- numbers of bodies

pub number_more : (S : List BodyData) (low k n : ℕ) (ns : List ℕ) → low ≤ k → k < length S → ((d : BodyData) → n ≡ number_of (get_or S k d)) → IsNumber n → AreNumbered (part S low k) ns → AreNumbered (part S low (k + 1)) (ns ++ n ∷ [])
number_more S low k n ns h l e i a =
    let b : BodyData = get_or S k blank in
    let it : get_or S k blank ≡ get_or S k (get_or S k blank) = again S k l in
    record {
      are = ap (λ t. t ++ n ∷ []) a.are ∙ ap (λ t. map number_of (part S low k) ++ t ∷ []) (e blank) ∙ sym (ap (map number_of) (part_more S low k (get_or S k blank) h l it) ∙ pushed (part S low k) (get_or S k blank));
      each = each-append IsNumber ns (n ∷ []) a.each (i, tt);
    }
  where
    again : (S : List BodyData) (k : ℕ) → k < length S → get_or S k blank ≡ get_or S k (get_or S k blank)
    again [] k h = absurd (omega (arith, h))
    again (b ∷ S) zero h = refl
    again (b ∷ S) (suc k) h = same S k (omega (arith, h)) blank (get_or S k blank)
      where
        same : (S : List BodyData) (k : ℕ) → k < length S → (d e : BodyData) → get_or S k d ≡ get_or S k e
        same [] k h d e = absurd (omega (arith, h))
        same (b ∷ S) zero h d e = refl
        same (b ∷ S) (suc k) h d e = same S k (omega (arith, h)) d e

    pushed : (xs : List BodyData) (x : BodyData) → map number_of (xs ++ x ∷ []) ≡ map number_of xs ++ number_of x ∷ []
    pushed [] x = refl
    pushed (y ∷ ys) x = ap (λ t. number_of y ∷ t) (pushed ys x)

above_all : (x : ℕ) (xs : List ℕ) → ((k : ℕ) (d : ℕ) → k < length xs → x ≤ get_or xs k d) → AllByRecursion (λ y. x ≤ y) xs
above_all x [] h = tt
above_all x (y ∷ ys) h = (h 0 0 (omega arith), above_all x ys (λ k d l. h (suc k) d (omega (arith, l))))

pub rises_from : (xs : List ℕ) → IsNonDecreasingBy (λ n. n) xs → Rises (λ n. n) xs
rises_from [] h = tt
rises_from (x ∷ xs) h = (above_all x xs (λ k d l. h 0 (suc k) d (omega arith) (omega (arith, l))), rises_from xs (λ i j d l m. h (suc i) (suc j) d (omega (arith, l)) (omega (arith, m))))

pub numbers_sorted : (bs : List BodyData) (ns ms : List ℕ) → AreNumbered bs ns → IsPermutation ns ms → IsNonDecreasingBy (λ n. n) ms → AreSorted bs ms
numbers_sorted bs ns ms a p r = record {
  permuted = subst (λ t. IsPermutation t ms) a.are p;
  rises = rises_from ms r;
  each = recursion_from_All IsNumber ms (All-permutation IsNumber ns ms p (All-from_recursion IsNumber ns a.each));
}

-- ---- two rising lists in which each number stands as often are one

abbrev often : ℕ → List ℕ → ℕ
often n ns = sum_by (λ m. cond {A = ℕ} (eqb m n) 1 0) ns

first_there : (n : ℕ) (ns : List ℕ) → 1 ≤ often n (n ∷ ns)
first_there n ns = omega (arith, sum_by-cons (λ m. cond {A = ℕ} (eqb m n) 1 0) n ns, cond-true {A = ℕ} (eqb n n) 1 0 (eq-eqb n n refl))

at_least : (n m : ℕ) (ns : List ℕ) → AllByRecursion (λ y. m ≤ y) ns → 1 ≤ often n (m ∷ ns) → m ≤ n
at_least n m ns a h = by (eqb m n) refl
  where
    there : (xs : List ℕ) → AllByRecursion (λ y. m ≤ y) xs → 1 ≤ often n xs → m ≤ n
    there [] a h = absurd (omega (arith, h))
    there (x ∷ xs) a h = step (eqb x n) refl (λ k. there xs a.1 k)
      where
        step : (b : Bool) → eqb x n ≡ b → (1 ≤ often n xs → m ≤ n) → m ≤ n
        step true e rest = let u : x ≡ n = eqb-true x n e in let v : m ≤ x = a.0 in omega (arith, u, v)
        step false e rest = rest (omega (arith, h, sum_by-cons (λ m. cond {A = ℕ} (eqb m n) 1 0) x xs, cond-false {A = ℕ} (eqb x n) 1 0 e))

    by : (b : Bool) → eqb m n ≡ b → m ≤ n
    by true e = let u : m ≡ n = eqb-true m n e in omega (arith, u)
    by false e = there ns a (omega (arith, h, sum_by-cons (λ m. cond {A = ℕ} (eqb m n) 1 0) m ns, cond-false {A = ℕ} (eqb m n) 1 0 e))

pub one_rising : (ms ns : List ℕ) → Rises (λ n. n) ms → Rises (λ n. n) ns → ((n : ℕ) → often n ms ≡ often n ns) → ms ≡ ns
one_rising [] [] u v e = refl
one_rising [] (n ∷ ns) u v e = absurd (omega (arith, e n, first_there n ns))
one_rising (m ∷ ms) [] u v e = absurd (omega (arith, e m, first_there m ms))
one_rising (m ∷ ms) (n ∷ ns) u v e =
    let a : n ≤ m = at_least m n ns v.0 (omega (arith, e m, first_there m ms)) in
    let b : m ≤ n = at_least n m ms u.0 (omega (arith, e n, first_there n ns)) in
    let h : m ≡ n = omega (arith, a, b) in
    let rest : ms ≡ ns = one_rising ms ns u.1 v.1 (λ k. omega (arith, e k, sum_by-cons (λ m. cond {A = ℕ} (eqb m k) 1 0) m ms, sum_by-cons (λ m. cond {A = ℕ} (eqb m k) 1 0) n ns, ap {B = ℕ} (λ t. cond (eqb t k) 1 0) h)) in
    (λ i. h i ∷ rest i)

-- ---- the members, ascending in id

mass_small : (ms : List BodyData) (b : BodyData) (n : ℕ) → sum_by (λ b. b.mass) ms ≤ n → Among b ms → b.mass ≤ n
mass_small [] b n h i = absurd i
mass_small (m ∷ ms) b n h (inl e) = omega (arith, h, sum_by-cons (λ b. b.mass) m ms, ap (λ t. t.mass) e)
mass_small (m ∷ ms) b n h (inr i) = mass_small ms b n (omega (arith, h, sum_by-cons (λ b. b.mass) m ms)) i

all_small : (ms : List BodyData) → sum_by (λ b. b.mass) ms ≤ 2 ^ 32 → AllByRecursion (λ b. b.mass ≤ 2 ^ 32) ms
all_small [] h = tt
all_small (m ∷ ms) h = (omega (arith, h, sum_by-cons (λ b. b.mass) m ms), all_small ms (omega (arith, h, sum_by-cons (λ b. b.mass) m ms)))

pub less_kept : (f : BodyData → ℕ) (t : BodyData → Bool) (bs : List BodyData) → sum_by f (filter t bs) ≤ sum_by f bs
less_kept f t bs = omega (arith, filter_sum t f bs, each bs)
  where
    one : (b : Bool) (n : ℕ) → cond b n 0 ≤ n
    one true n = omega arith
    one false n = omega arith

    each : (xs : List BodyData) → sum_by (λ x. cond (t x) (f x) 0) xs ≤ sum_by f xs
    each [] = omega arith
    each (x ∷ xs) = omega (arith, sum_by-cons (λ x. cond (t x) (f x) 0) x xs, sum_by-cons f x xs, one (t x) (f x), each xs)

numbers_rise : (ms : List BodyData) → Ascending ms → AllByRecursion (λ b. b.mass ≤ 2 ^ 32) ms → Rises (λ n. n) (map number_of ms)
numbers_rise [] a s = tt
numbers_rise (m ∷ ms) a s = (behind ms a.0, numbers_rise ms a.1 s.1)
  where
    behind : (xs : List BodyData) → AllByRecursion (λ k. m.id < k.id) xs → AllByRecursion (λ n. number_of m ≤ n) (map number_of xs)
    behind [] u = tt
    behind (x ∷ xs) u = let l : m.id < x.id = u.0 in let k : m.mass ≤ 2 ^ 32 = s.0 in (omega (arith, l, k), behind xs u.1)

decoded : (c : CellData) (ms : List BodyData) → AllByRecursion (λ b. b.mass ≤ 2 ^ 32) ms → map (listed_at c) (map number_of ms) ≡ map (λ b. record { cell = c; member = member_of b }) ms
decoded c [] s = refl
decoded c (m ∷ ms) s =
    let k : m.mass ≤ 2 ^ 32 = s.0 in
    let u : (m.id * 2 ^ 33 + m.mass) / 2 ^ 33 ≡ m.id = omega (arith, k) in
    let v : (m.id * 2 ^ 33 + m.mass) % 2 ^ 33 ≡ m.mass = omega (arith, k) in
    λ i. record { cell = c; member = (u i, v i) } ∷ decoded c ms s.1 i

pub sorted_members : (B S : List BodyData) (c : CellData) (ns : List ℕ) → AreOwn B S → AreSorted (members S c) ns → map (listed_at c) ns ≡ listed_in B c
sorted_members B S c ns h a =
    let small : AllByRecursion (λ b. b.mass ≤ 2 ^ 32) (members B c) = all_small (members B c) (omega (arith, less_kept (λ b. b.mass) (λ b. contains c b.motion.pos) B, h.bodies.valid.light)) in
    let rising : Rises (λ n. n) (map number_of (members B c)) = numbers_rise (members B c) (ascending-filter (λ b. contains c b.motion.pos) B (ascending-from B h.bodies.valid.ascending)) small in
    ap (map (listed_at c)) (one_rising ns (map number_of (members B c)) a.rises rising (λ n.
    sum_by-IsPermutation (λ m. cond {A = ℕ} (eqb m n) 1 0) (map number_of (members S c)) ns a.permuted
    ∙ sum_by-mapped (λ m. cond {A = ℕ} (eqb m n) 1 0) number_of (members S c)
    ∙ filter_sum (λ b. contains c b.motion.pos) (λ b. cond {A = ℕ} (eqb (number_of b) n) 1 0) S
    ∙ sum_by-IsPermutation (λ b. cond (contains c b.motion.pos) (cond {A = ℕ} (eqb (number_of b) n) 1 0) 0) B S h.along.permuted
    ∙ sym (filter_sum (λ b. contains c b.motion.pos) (λ b. cond {A = ℕ} (eqb (number_of b) n) 1 0) B)
    ∙ sym (sum_by-mapped (λ m. cond {A = ℕ} (eqb m n) 1 0) number_of (members B c))))
    ∙ decoded c (members B c) small
