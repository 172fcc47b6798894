-- What the finder finds, and that links are even.
use Rattle.std.proofs.Common.{◌≡◌, ℕ, zero, suc, ◌+◌, ◌*◌, ◌<◌, ◌≤◌, ◌==◌, ◌&&◌, List, [], ◌∷◌, length, get_or, filter, cond, refl, subst, ap, sym, ◌∙◌, inl, inr, true, false, Bool, not, arith}
use Rattle.std.specs.Prelude.{nat_le}
use Rattle.std.specs.List.{AllByRecursion, range_with_len}
use Rattle.std.proofs.lemmas.Bool.{cases_eq}
use Rattle.std.proofs.lemmas.Bool.Decides.{nat_tests}
use Rattle.cell_space.specs.Cells.{InBox}
use Rattle.nbody_model.specs.Bodies.{BodyData}
use Rattle.model_laws.proofs.Fair.{square_turned}
use Rattle.neighbour_find.specs.Near.{nobody, linked, is_link, near}
use Rattle.groups.specs.Groups.{web}
use Rattle.groups.specs.Spreading.{times, AllBelow}
use Rattle.groups.proofs.Lists.{times-cons, all-map}
use Rattle.groups.proofs.Steps.{AreNear, IsEven}

range_below : (a n m : ℕ) → a + n ≤ m → AllByRecursion (λ k. k < m) (range_with_len a n)
range_below a zero m h = tt
range_below a (suc n) m h = (omega (arith, h), range_below (a + 1) n m (omega (arith, h)))

kept_all : (P : ℕ → Type 0) (p : ℕ → Bool) (x : ℕ) (xs : List ℕ) (b : Bool) → p x ≡ b → P x → AllByRecursion (λ k. P k × (p k ≡ true)) xs → AllByRecursion (λ k. P k × (p k ≡ true)) (cond b (x ∷ xs) xs)
kept_all P p x xs true e h a = ((h, e), a)
kept_all P p x xs false e h a = a

filtered : (P : ℕ → Type 0) (p : ℕ → Bool) (xs : List ℕ) → AllByRecursion P xs → AllByRecursion (λ k. P k × (p k ≡ true)) (filter p xs)
filtered P p [] a = tt
filtered P p (x ∷ xs) a = kept_all P p x (filter p xs) (p x) refl a.0 (filtered P p xs a.1)

times_range : (k a n : ℕ) → a ≤ k → k < a + n → 1 ≤ times k (range_with_len a n)
times_range k a zero h l = absurd (omega (arith, h, l))
times_range k a (suc n) h l = elim (cases_eq a k) as (λ _. 1 ≤ times k (range_with_len a (suc n))) [
  | inl e ↦ (let test : (a == k) ≡ true = grind (arith, nat_tests) in omega (arith, times-cons k a (range_with_len (a + 1) n), ap {B = ℕ} (λ b. cond b 1 0) test))
  | inr e ↦ omega (arith, times-cons k a (range_with_len (a + 1) n), times_range k (a + 1) n (omega (arith, h, e)) (omega (arith, l)))
]

times_kept : (p : ℕ → Bool) (k x : ℕ) (xs ys : List ℕ) (b : Bool) → p x ≡ b → p k ≡ true → (1 ≤ times k xs → 1 ≤ times k ys) → 1 ≤ times k (x ∷ xs) → 1 ≤ times k (cond b (x ∷ ys) ys)
times_kept p k x xs ys b e t f h = elim (cases_eq x k) as (λ _. 1 ≤ times k (cond b (x ∷ ys) ys)) [
  | inl s ↦ (let yes_b : b ≡ true = sym e ∙ ap p s ∙ t in
      let test : (x == k) ≡ true = grind (arith, nat_tests) in
      subst (λ b. 1 ≤ times k (cond b (x ∷ ys) ys)) (sym yes_b) (omega (arith, times-cons k x ys, ap {B = ℕ} (λ b. cond b 1 0) test)))
  | inr n ↦ (let test : (x == k) ≡ false = grind (arith, nat_tests) in
      let rest : 1 ≤ times k ys = f (omega (arith, h, times-cons k x xs, ap {B = ℕ} (λ b. cond b 1 0) test)) in
      push_kept k x ys b rest)
] where
  push_kept : (k x : ℕ) (ys : List ℕ) (b : Bool) → 1 ≤ times k ys → 1 ≤ times k (cond b (x ∷ ys) ys)
  push_kept k x ys true h = omega (arith, h, times-cons k x ys)
  push_kept k x ys false h = h

times_filter : (p : ℕ → Bool) (k : ℕ) (xs : List ℕ) → p k ≡ true → 1 ≤ times k xs → 1 ≤ times k (filter p xs)
times_filter p k [] t h = h
times_filter p k (x ∷ xs) t h = times_kept p k x xs (filter p xs) (p x) refl t (times_filter p k xs t) h

pub are_near : (reach : ℕ) (B : List BodyData) (i : ℕ) → AreNear (web reach B) i (near reach B i)
unfolding near
are_near reach B i = record {
  linked = filtered (λ k. k < length B) (is_link reach B i) (range_with_len 0 (length B)) (range_below 0 (length B) (length B) (omega arith));
  whole = λ k n l. times_filter (is_link reach B i) k (range_with_len 0 (length B)) l (times_range k 0 (length B) (omega arith) (omega (arith, n)));
}

pub near_below : (reach : ℕ) (B : List BodyData) (i n : ℕ) → n ≡ length B → AllBelow n (near reach B i)
near_below reach B i n e = all-map (λ k. (k < length B) × (is_link reach B i k ≡ true)) (λ k. k < n) (λ k h. omega (arith, h.0, e)) (near reach B i) (are_near reach B i).linked

-- ---- links are even

in_box_at : (B : List BodyData) (i : ℕ) → AllByRecursion (λ b. InBox b.motion.pos) B → InBox (get_or B i nobody).motion.pos
in_box_at [] i a = record { below_x = omega arith; below_y = omega arith; below_z = omega arith }
in_box_at (b ∷ B) zero a = a.0
in_box_at (b ∷ B) (suc i) a = in_box_at B i a.1

same_turned : (i j : ℕ) → (i == j) ≡ (j == i)
same_turned i j = elim (cases_eq i j) as (λ _. (i == j) ≡ (j == i)) [
  | inl e ↦ (let a : (i == j) ≡ true = grind (arith, nat_tests) in let b : (j == i) ≡ true = grind (arith, nat_tests) in a ∙ sym b)
  | inr n ↦ (let a : (i == j) ≡ false = grind (arith, nat_tests) in let b : (j == i) ≡ false = grind (arith, nat_tests) in a ∙ sym b)
]

linked_turned : (reach : ℕ) (a b : BodyData) → InBox a.motion.pos → InBox b.motion.pos → linked reach a b ≡ linked reach b a
unfolding linked
linked_turned reach a b u v = ap (λ n. nat_le n (reach * reach)) (square_turned a.motion.pos b.motion.pos u v)

pub links_even : (reach : ℕ) (B : List BodyData) → AllByRecursion (λ b. InBox b.motion.pos) B → IsEven (web reach B)
unfolding is_link
links_even reach B a i j = λ t. not (same_turned i j t) && linked_turned reach (get_or B i nobody) (get_or B j nobody) (in_box_at B i a) (in_box_at B j a) t
