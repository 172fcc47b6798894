-- The pairs that a walk looks at have members and nothing in common.
use Rattle.std.proofs.Common.{◌≡◌, ℕ, zero, suc, ◌<◌, Bool, true, false, cond, List, [], ◌∷◌, ◌++◌, map, refl, arith}
use Rattle.std.specs.List.{filter, flat_map, AllByRecursion}
use Rattle.cell_space.specs.Cells.{Position, CellData, child, contains, below, root_cell}
use Rattle.cell_space.proofs.Cells.{child_within, child_digit}
use Rattle.nbody_model.specs.Covers.{Opening, leaf, final}
use Rattle.nbody_model.specs.Walks.{has_member, kids, down, over_both, over_pairs, visits_apart, visits_same, visits}
use Rattle.model_laws.proofs.Among.{each-append, each-weaker, each-flat_map, each-map}
use Rattle.model_laws.proofs.Leaves.{shallow}

-- two cells have members and nothing in common
pub record AreApart (o : Opening) (a b : CellData) : Type 0 where
  pub first : has_member o a ≡ true
  pub second : has_member o b ≡ true
  pub apart : (p : Position) → contains a p ≡ true → contains b p ≡ true → ⊥

-- d has a member and lies in a
pub record LiesIn (o : Opening) (a d : CellData) : Type 0 where
  pub member : has_member o d ≡ true
  pub within : (p : Position) → contains d p ≡ true → contains a p ≡ true

abbrev pub Apart : Opening → CellData × CellData → Type 0
Apart o x = AreApart o x.0 x.1

-- each two elements, the earlier one first
abbrev pub EachTwo : {X : Type 0} → (X → X → Type 0) → List X → Type 0
EachTwo R [] = Unit {0}
EachTwo R (x ∷ xs) = AllByRecursion (R x) xs × EachTwo R xs

two-map : {X Y : Type 0} (R : X → X → Type 0) (S : Y → Y → Type 0) (h : X → Y) → ((x y : X) → R x y → S (h x) (h y)) → (xs : List X) → EachTwo R xs → EachTwo S (map h xs)
two-map R S h e [] a = tt
two-map R S h e (x ∷ xs) a = (each-map (R x) (S (h x)) h (e x) xs a.0, two-map R S h e xs a.1)

-- what a filter of the numbers below n keeps
kept_step : (t : ℕ → Bool) (n : ℕ) (ys : List ℕ) (b : Bool) → t n ≡ b → AllByRecursion (λ m. (m < n) × (t m ≡ true)) ys → AllByRecursion (λ m. (m < suc n) × (t m ≡ true)) (cond b (n ∷ ys) ys)
kept_step t n ys true e a = ((omega arith, e), each-weaker (λ m. (m < n) × (t m ≡ true)) (λ m. (m < suc n) × (t m ≡ true)) (λ m h. (omega (arith, h.0), h.1)) ys a)
kept_step t n ys false e a = each-weaker (λ m. (m < n) × (t m ≡ true)) (λ m. (m < suc n) × (t m ≡ true)) (λ m h. (omega (arith, h.0), h.1)) ys a

kept_below : (t : ℕ → Bool) (n : ℕ) → AllByRecursion (λ m. (m < n) × (t m ≡ true)) (filter t (below n))
kept_below t zero = tt
kept_below t (suc n) = kept_step t n (filter t (below n)) (t n) refl (kept_below t n)

-- one of two numbers below 8 that pass a test is less
abbrev Two : (ℕ → Bool) → ℕ → ℕ → ℕ → Type 0
Two t n k m = (m < k) × (k < n) × (t k ≡ true) × (t m ≡ true)

two_wider : (t : ℕ → Bool) (n : ℕ) (ys : List ℕ) → EachTwo (Two t n) ys → EachTwo (Two t (suc n)) ys
two_wider t n [] a = tt
two_wider t n (y ∷ ys) a = (each-weaker (Two t n y) (Two t (suc n) y) (λ m h. (h.0, omega (arith, h.1), h.2, h.3)) ys a.0, two_wider t n ys a.1)

two_step : (t : ℕ → Bool) (n : ℕ) (ys : List ℕ) (b : Bool) → t n ≡ b → AllByRecursion (λ m. (m < n) × (t m ≡ true)) ys → EachTwo (Two t n) ys → EachTwo (Two t (suc n)) (cond b (n ∷ ys) ys)
two_step t n ys true e a r = (each-weaker (λ m. (m < n) × (t m ≡ true)) (Two t (suc n) n) (λ m h. (h.0, omega arith, e, h.1)) ys a, two_wider t n ys r)
two_step t n ys false e a r = two_wider t n ys r

two_below : (t : ℕ → Bool) (n : ℕ) → EachTwo (Two t n) (filter t (below n))
two_below t zero = tt
two_below t (suc n) = two_step t n (filter t (below n)) (t n) refl (kept_below t n) (two_below t n)

pub kids_lie : (o : Opening) (c : CellData) → c.level < 32 → AllByRecursion (LiesIn o c) (kids o c)
kids_lie o c low = each-map (λ m. (m < 8) × (has_member o (child c m) ≡ true)) (LiesIn o c) (child c) (λ k h. record { member = h.1; within = λ p. child_within c k p low h.0 })
    (filter (λ k. has_member o (child c k)) (below 8)) (kept_below (λ k. has_member o (child c k)) 8)

pub kids_two : (o : Opening) (c : CellData) → c.level < 32 → EachTwo (AreApart o) (kids o c)
kids_two o c low = two-map (Two (λ k. has_member o (child c k)) 8) (AreApart o) (child c)
    (λ k m h. record { first = h.2; second = h.3; apart = λ p a b. omega (arith, h.0, child_digit c k p low h.1 a, child_digit c m p low (omega (arith, h.0, h.1)) b) })
    (filter (λ k. has_member o (child c k)) (below 8)) (two_below (λ k. has_member o (child c k)) 8)

down_step : (o : Opening) (c : CellData) (b : Bool) → leaf o c ≡ b → has_member o c ≡ true → AllByRecursion (LiesIn o c) (cond b (c ∷ []) (kids o c))
down_step o c true e h = (record { member = h; within = λ p e. e }, tt)
down_step o c false e h = kids_lie o c (shallow o c e)

pub down_lie : (o : Opening) (c : CellData) → has_member o c ≡ true → AllByRecursion (LiesIn o c) (down o c)
down_lie o c h = down_step o c (leaf o c) refl h

pub inner : (o : Opening) (a b d e : CellData) → AreApart o a b → LiesIn o a d → LiesIn o b e → AreApart o d e
inner o a b d e h u v = record { first = u.member; second = v.member; apart = λ p x y. h.apart p (u.within p x) (v.within p y) }

apart_step : (o : Opening) (n : ℕ) (a b : CellData) (t : Bool) → AreApart o a b → ((d e : CellData) → AreApart o d e → AllByRecursion (Apart o) (visits_apart o n d e)) →
    AllByRecursion (Apart o) (cond t ((a, b) ∷ []) ((a, b) ∷ over_both (visits_apart o n) (down o a) (down o b)))
apart_step o n a b true h rest = (h, tt)
apart_step o n a b false h rest = (
  h,
  each-flat_map (LiesIn o a) (Apart o) (λ d. flat_map (visits_apart o n d) (down o b))
      (λ d u. each-flat_map (LiesIn o b) (Apart o) (visits_apart o n d) (λ e v. rest d e (inner o a b d e h u v)) (down o b) (down_lie o b h.second)) (down o a) (down_lie o a h.first),
)

pub visits_apart-apart : (o : Opening) (n : ℕ) (a b : CellData) → AreApart o a b → AllByRecursion (Apart o) (visits_apart o n a b)
unfolding visits_apart
visits_apart-apart o zero a b h = (h, tt)
visits_apart-apart o (suc n) a b h = apart_step o n a b (final o a b) h (λ d e k. visits_apart-apart o n d e k)

each-over_pairs : {X : Type 0} (R : CellData → CellData → Type 0) (Q : X → Type 0) (f : CellData → List X) (h : CellData → CellData → List X) → ((d : CellData) → AllByRecursion Q (f d)) → ((d e : CellData) → R d e → AllByRecursion Q (h d e)) →
    (ds : List CellData) → EachTwo R ds → AllByRecursion Q (over_pairs f h ds)
each-over_pairs R Q f h u v [] a = tt
each-over_pairs R Q f h u v (d ∷ ds) a = each-append Q (f d) (flat_map (h d) ds ++ over_pairs f h ds) (u d) (each-append Q (flat_map (h d) ds) (over_pairs f h ds) (each-flat_map (R d) Q (h d) (v d) ds a.0) (each-over_pairs R Q f h u v ds a.1))

same_step : (o : Opening) (n : ℕ) (c : CellData) (t : Bool) → leaf o c ≡ t → ((d : CellData) → AllByRecursion (Apart o) (visits_same o n d)) → AllByRecursion (Apart o) (cond t [] (over_pairs (visits_same o n) (visits_apart o n) (kids o c)))
same_step o n c true e rest = tt
same_step o n c false e rest = each-over_pairs (AreApart o) (Apart o) (visits_same o n) (visits_apart o n) rest (λ d e h. visits_apart-apart o n d e h) (kids o c) (kids_two o c (shallow o c e))

pub visits_same-apart : (o : Opening) (n : ℕ) (c : CellData) → AllByRecursion (Apart o) (visits_same o n c)
unfolding visits_same
visits_same-apart o zero c = tt
visits_same-apart o (suc n) c = same_step o n c (leaf o c) refl (λ d. visits_same-apart o n d)

pub visits-apart : (o : Opening) → AllByRecursion (Apart o) (visits o)
unfolding visits
visits-apart o = visits_same-apart o 32 root_cell
