-- A range of one key is a leaf, and any member tells the least key of its cell.
use Rattle.std.proofs.Common.{◌≡◌, ℕ, zero, suc, ◌+◌, ◌-◌, ◌*◌, ◌/◌, ◌<◌, ◌≤◌, Bool, true, false, not, ◌&&◌, eqb, ltb, List, [], ◌∷◌, length, refl, ap, sym, ◌∙◌, arith, ◌⊎◌, inl, inr}
use Rattle.std.specs.Prelude.{slice_index_or}
use Rattle.std.specs.List.{filter, list_all, AllByRecursion}
use Rattle.std.proofs.lemmas.Bool.{false≢true, eqb-true, eq-eqb, and_parts, and_from, lt-ltb, ltb-true, cases_lt}
use Rattle.cell_space.specs.Cells.{Position, InBox, CellData, contains, cell_at, same_place}
use Rattle.cell_space.proofs.Cells.{both_equal, same_place-exact, deepest_one, contains-exact, cell_at-contains}
use Rattle.hilbert_keys.specs.Curve.{key, keys_in, number_of, first_key}
use Rattle.hilbert_keys.proofs.Curves.{cell_range, one_cell}
use Rattle.nbody_model.specs.Bodies.{BodyData}
use Rattle.nbody_model.specs.Nodes.{positions_of, is_leaf, at_one_place}
use Rattle.model_laws.proofs.Among.{Among, among-kept, among-map, each-among}
use Rattle.model_laws.proofs.Cancel.{BodyAt, body_at}
use Rattle.model_laws.proofs.Leaves.{leaf_apart}
use Rattle.octree_build.specs.Trees.{key_at, Rises, low_of, high_of}
use Rattle.octree_build.specs.Slots.{IsNode}
use Rattle.octree_build.proofs.Edges.{lies_in, empty_between, count_at_most, below_count, from_count, at_each, among-at}
use Rattle.hilbert_keys.proofs.Widths.{quotient_is, eights}

all_from : (t : Position → Bool) (xs : List Position) → ((x : Position) → Among x xs → t x ≡ true) → list_all t xs ≡ true
all_from t [] h = refl
all_from t (x ∷ xs) h = and_from (t x) (list_all t xs) (h x (inl refl)) (all_from t xs (λ y k. h y (inr k)))

pub one_place-from : (xs : List Position) → ((p q : Position) → Among p xs → Among q xs → same_place p q ≡ true) → at_one_place xs ≡ true
one_place-from [] h = refl
one_place-from (x ∷ xs) h = all_from (same_place x) xs (λ y k. h x y (inl refl) (inr k))

rises_at : {X : Type 0} (f : X → ℕ) (d : X) (xs : List X) (i j : ℕ) → Rises f xs → i ≤ j → j < length xs → f (slice_index_or xs i d) ≤ f (slice_index_or xs j d)
rises_at f d [] i j r h k = absurd (omega (arith, k))
rises_at f d (x ∷ xs) zero zero r h k = omega arith
rises_at f d (x ∷ xs) zero (suc j) r h k = at_each (λ y. f x ≤ f y) d xs j (omega (arith, k)) r.0
rises_at f d (x ∷ xs) (suc i) zero r h k = absurd (omega (arith, h))
rises_at f d (x ∷ xs) (suc i) (suc j) r h k = rises_at f d xs i j r.1 (omega (arith, h)) (omega (arith, k))

-- where an element stands
pub record Stands {X : Type 0} (d x : X) (xs : List X) : Type 0 where
  pub at : ℕ
  pub within : at < length xs
  pub is : slice_index_or xs at d ≡ x

pub stands : {X : Type 0} (d x : X) (xs : List X) → Among x xs → Stands d x xs
stands d x [] h = absurd h
stands d x (y ∷ ys) (inl e) = record { at = zero; within = omega arith; is = sym e }
stands d x (y ∷ ys) (inr h) = let s : Stands d x ys = stands d x ys h in record { at = suc s.at; within = omega (arith, s.within); is = s.is }

module _ (S : List BodyData) (c : CellData) (n : IsNode (positions_of S) c) (a : AllByRecursion (λ b. InBox b.motion.pos) S) (r : Rises key_at S) (d : BodyData) where
  pub some_there : low_of S c < high_of S c
  some_there = by (cases_lt (low_of S c) (high_of S c))
    where
      by : (low_of S c < high_of S c) ⊎ (high_of S c ≤ low_of S c) → low_of S c < high_of S c
      by (inl h) = h
      by (inr h) = absurd (false≢true (sym (empty_between S c n.cell a r h) ∙ n.node))

  pub within_all : high_of S c ≤ length S
  within_all = count_at_most (λ b. ltb (key_at b) (first_key c + keys_in c.level)) S

  key_in : (b : BodyData) → Among b S → contains c b.motion.pos ≡ true → (first_key c ≤ key_at b) × (key_at b < first_key c + keys_in c.level)
  key_in b m e =
      let t : (ltb (key_at b) (first_key c + keys_in c.level) && not (ltb (key_at b) (first_key c))) ≡ true = sym (cell_range c n.cell b.motion.pos (each-among (λ b. InBox b.motion.pos) b S a m) ∙ quotient_is (key_at b) (keys_in c.level) (number_of c) (eights (32 - c.level))) ∙ e in
      let u = and_parts (ltb (key_at b) (first_key c + keys_in c.level)) (not (ltb (key_at b) (first_key c))) t in
      (low u.1, ltb-true (key_at b) (first_key c + keys_in c.level) u.0)
    where
      low : not (ltb (key_at b) (first_key c)) ≡ true → first_key c ≤ key_at b
      low e = by (cases_lt (key_at b) (first_key c))
        where
          by : (key_at b < first_key c) ⊎ (first_key c ≤ key_at b) → first_key c ≤ key_at b
          by (inl h) = absurd (false≢true (sym (ap not (lt-ltb (key_at b) (first_key c) h)) ∙ e))
          by (inr h) = h

  abbrev one : BodyData
  one = slice_index_or S (low_of S c) d

  abbrev last : BodyData
  last = slice_index_or S (high_of S c - 1) d

  -- the keys of members lie between those of the first and the last
  between : (b : BodyData) → Among b S → contains c b.motion.pos ≡ true → (key_at one ≤ key_at b) × (key_at b ≤ key_at last)
  between b m e =
      let k = key_in b m e in
      let s : Stands d b S = stands d b S m in
      let low : low_of S c ≤ s.at = at_low s (cases_lt s.at (low_of S c)) in
      let high : s.at < high_of S c = at_high s (cases_lt s.at (high_of S c)) in
      let x : key_at one ≤ key_at (slice_index_or S s.at d) = rises_at key_at d S (low_of S c) s.at r low s.within in
      let y : key_at (slice_index_or S s.at d) ≤ key_at last = rises_at key_at d S s.at (high_of S c - 1) r (omega (arith, high)) (omega (arith, high, within_all)) in
      (omega (arith, x, ap key_at s.is), omega (arith, y, ap key_at s.is))
    where
      at_low : (s : Stands d b S) → (s.at < low_of S c) ⊎ (low_of S c ≤ s.at) → low_of S c ≤ s.at
      at_low s (inl h) = let u : key_at (slice_index_or S s.at d) < first_key c = below_count key_at (first_key c) d S s.at r h in absurd (omega (arith, u, ap key_at s.is, (key_in b m e).0))
      at_low s (inr h) = h

      at_high : (s : Stands d b S) → (s.at < high_of S c) ⊎ (high_of S c ≤ s.at) → s.at < high_of S c
      at_high s (inl h) = h
      at_high s (inr h) = let u : first_key c + keys_in c.level ≤ key_at (slice_index_or S s.at d) = from_count key_at (first_key c + keys_in c.level) d S s.at r h s.within in absurd (omega (arith, u, ap key_at s.is, (key_in b m e).1))

  one_in : contains c one.motion.pos ≡ true
  one_in = lies_in S c n.cell a r d (low_of S c) (omega arith) some_there

  last_in : contains c last.motion.pos ≡ true
  last_in = lies_in S c n.cell a r d (high_of S c - 1) (omega (arith, some_there)) (omega (arith, some_there))

  place_of_key : (p q : Position) → InBox p → InBox q → key p ≡ key q → same_place p q ≡ true
  place_of_key p q i j e = let u : cell_at 32 p ≡ cell_at 32 q = one_cell 32 p q i j (omega arith) e in
      deepest_one (cell_at 32 p) (omega arith) p q (cell_at-contains 32 p) ((contains-exact (cell_at 32 p) q).1 (sym u))

  no_accept : CellData → CellData → Bool
  no_accept x y = false

  apart_of : is_leaf (positions_of S) c ≡ true → same_place one.motion.pos last.motion.pos ≡ false → (contains c one.motion.pos && contains c last.motion.pos) ≡ false
  apart_of e u = leaf_apart (record { positions = positions_of S; accept = no_accept }) one.motion.pos last.motion.pos
      (among-map (λ b. b.motion.pos) one S (among-at d S (low_of S c) (omega (arith, some_there, within_all))))
      (among-map (λ b. b.motion.pos) last S (among-at d S (high_of S c - 1) (omega (arith, some_there, within_all)))) u c e

  same_from : is_leaf (positions_of S) c ≡ true → one.motion.pos ≡ last.motion.pos
  same_from e = by (same_place one.motion.pos last.motion.pos) refl
    where
      by : (t : Bool) → same_place one.motion.pos last.motion.pos ≡ t → one.motion.pos ≡ last.motion.pos
      by true u = (same_place-exact one.motion.pos last.motion.pos).0 u
      by false u = absurd (false≢true (sym (apart_of e u) ∙ and_from (contains c one.motion.pos) (contains c last.motion.pos) one_in last_in))

  pub leaf_test : eqb (key_at one) (key_at last) ≡ is_leaf (positions_of S) c
  unfolding is_leaf
  leaf_test = both_equal (eqb (key_at one) (key_at last)) (at_one_place (filter (contains c) (positions_of S)))
      (λ e. let k : key_at one ≡ key_at last = eqb-true (key_at one) (key_at last) e in
      one_place-from (filter (contains c) (positions_of S)) (λ p q u v.
      let x = among-kept (contains c) p (positions_of S) u in
      let y = among-kept (contains c) q (positions_of S) v in
      let b : BodyAt p S = body_at p S x.0 in
      let f : BodyAt q S = body_at q S y.0 in
      let s = between b.it b.«in» (ap (contains c) b.at ∙ x.1) in
      let t = between f.it f.«in» (ap (contains c) f.at ∙ y.1) in
      let w : key_at b.it ≡ key_at f.it = omega (arith, s.0, s.1, t.0, t.1, k) in
      let z : same_place b.it.motion.pos f.it.motion.pos ≡ true = place_of_key b.it.motion.pos f.it.motion.pos (each-among (λ b. InBox b.motion.pos) b.it S a b.«in») (each-among (λ b. InBox b.motion.pos) f.it S a f.«in») w in
      (λ i. same_place (sym b.at i) (sym f.at i)) ∙ z))
      (λ e. eq-eqb (key_at one) (key_at last) (ap key (same_from e)))

  -- the least key of the cell, from its first member's
  pub least_is : key_at one / keys_in c.level * keys_in c.level ≡ first_key c
  least_is = let m : Among one S = among-at d S (low_of S c) (omega (arith, some_there, within_all)) in
      ap (λ t. t * keys_in c.level) (eqb-true (key_at one / keys_in c.level) (number_of c) (sym (cell_range c n.cell one.motion.pos (each-among (λ b. InBox b.motion.pos) one S a m)) ∙ one_in))
