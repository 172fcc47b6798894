-- Of the interactions exactly one parts two bodies, so the partners of a node have nothing in common and are few.
use Rattle.std.proofs.Common.{◌≡◌, ℕ, ◌+◌, ◌≤◌, Bool, true, false, cond, ◌&&◌, ◌||◌, List, [], ◌∷◌, length, sum_by, refl, ap, sym, subst, ◌∙◌, arith, ◌⊎◌, inl, inr}
use Rattle.std.specs.List.{list_any, count_by}
use Rattle.std.proofs.lemmas.List.Sums.{sum_by-cons}
use Rattle.std.proofs.lemmas.Bool.{and_parts, and_from, or_cases, or_left, or_right, cond-true, cond-false, false≢true}
use Rattle.cell_space.specs.Cells.{Position, CellData, contains, same_cell, same_place, before, AreDisjoint, IsWithin}
use Rattle.cell_space.proofs.Cells.{same_cell-exact, same_place-exact}
use Rattle.cell_space.proofs.Nested.{disjoint_or_nested}
use Rattle.nbody_model.specs.Covers.{Opening, orient, same_pair, cover, interactions, over_two}
use Rattle.nbody_model.specs.Walks.{found}
use Rattle.model_laws.specs.Laws.{IsSound, parts_two, has_cell, partner, HasOneCover}
use Rattle.model_laws.proofs.Among.{Among, Witness, each-among, among-le, among-zero, any-witness, any-among}
use Rattle.model_laws.proofs.Sums.{sum_by-same, sum_by-plus, sum_by-one}
use Rattle.model_laws.proofs.Exchange.{sum-exchange}
use Rattle.model_laws.proofs.Ranks.{sum_by-on, sum_by-le-on}
use Rattle.model_laws.proofs.Counts.{times, times-distinct, any-times}
use Rattle.model_laws.proofs.Turned.{same_pair-exact, orient-either}
use Rattle.model_laws.proofs.Chains.{parts, both}
use Rattle.model_laws.proofs.Apart.{Apart}
use Rattle.model_laws.proofs.ChainFacts.{IsOnChain}
use Rattle.model_laws.proofs.Once.{Shows, two-among}
use Rattle.model_laws.proofs.Walk.{box_of, cover-on, found-shown, finds_interactions, cover_path}
use Rattle.model_laws.proofs.Cancel.{CoverOf, interaction-cover}

-- ---- exactly one interaction parts two bodies

abbrev pub one_if : Bool → ℕ
one_if b = cond b 1 0

either_even : (a b c d : Bool) → ((a && b) || (c && d)) ≡ ((d && c) || (b && a))
either_even true true true true = refl
either_even true true true false = refl
either_even true true false true = refl
either_even true true false false = refl
either_even true false true true = refl
either_even true false true false = refl
either_even true false false true = refl
either_even true false false false = refl
either_even false true true true = refl
either_even false true true false = refl
either_even false true false true = refl
either_even false true false false = refl
either_even false false true true = refl
either_even false false true false = refl
either_even false false false true = refl
either_even false false false false = refl

parts_turned : (p q : Position) (x y : CellData × CellData) → (y ≡ (x.1, x.0)) ⊎ (y ≡ x) → parts_two p q y ≡ parts_two p q x
parts_turned p q x y (inl e) = ap (parts_two p q) e ∙ either_even (contains x.1 p) (contains x.0 q) (contains x.1 q) (contains x.0 p)
parts_turned p q x y (inr e) = ap (parts_two p q) e

pub parts_orient : (p q : Position) (x : CellData × CellData) → parts_two p q (orient x) ≡ parts_two p q x
parts_orient p q x = parts_turned p q x (orient x) (orient-either x)

one_or_other : (a b : Bool) → (a ≡ true → b ≡ true → ⊥) → one_if (a || b) ≡ cond a 1 0 + cond b 1 0
one_or_other true true h = absurd (h refl refl)
one_or_other true false h = refl
one_or_other false true h = refl
one_or_other false false h = refl

parted_once : (o : Opening) (p q : Position) (x : CellData × CellData) → Apart o x → one_if (parts_two p q x) ≡ cond (parts p q x) 1 0 + cond (parts q p x) 1 0
parted_once o p q x a = one_or_other (parts p q x) (parts q p x) (λ u v. a.apart p (and_parts (contains x.0 p) (contains x.1 q) u).0 (and_parts (contains x.0 q) (contains x.1 p) v).1)

pub parted_by_one : (o : Opening) → IsSound o → (p q : Position) → Among p o.positions → Among q o.positions → same_place p q ≡ false → count_by (parts_two p q) (interactions o) ≡ 1
parted_by_one o s p q in_p in_q differ =
    let shown : Shows o (found o) (cover_path o) = found-shown o s in
    let one : both (λ x. 1) p q (found o) ≡ sum_by (λ x. 1) (cover_path o p q) = shown.sums p q in_p in_q differ (λ x. 1) (λ a b. refl) in
    sym ((finds_interactions o s).counted (λ x. one_if (parts_two p q x)))
    ∙ sum_by-same (λ x. one_if (parts_two p q (orient x))) (λ x. one_if (parts_two p q x)) (λ x. ap {B = ℕ} (λ b. cond b 1 0) (parts_orient p q x)) (found o)
    ∙ sum_by-on (λ x. one_if (parts_two p q x)) (λ x. cond (parts p q x) 1 0 + cond (parts q p x) 1 0) (found o) (λ x h. parted_once o p q x (each-among (Apart o) x (found o) shown.apart h))
    ∙ sum_by-plus (λ x. cond (parts p q x) 1 0) (λ x. cond (parts q p x) 1 0) (found o)
    ∙ one
    ∙ sum_by-one {X = CellData × CellData} (λ x. 1) (cover o p q)

-- the cover of two bodies, turned, stands once among the interactions
pub cover_once : (o : Opening) (p q : Position) → Among p o.positions → Among q o.positions → same_place p q ≡ false → times same_pair same_pair-exact (orient (cover o p q)) (interactions o) ≡ 1
unfolding interactions
cover_once o p q in_p in_q differ =
    let z : CellData × CellData = orient (cover o p q) in
    let f : Position → Position → List (CellData × CellData) = λ a b. orient (cover o a b) ∷ [] in
    times-distinct same_pair same_pair-exact z (over_two f o.positions)
    ∙ cond-true {A = ℕ} (list_any (same_pair z) (over_two f o.positions)) 1 0 (two-among f z o.positions p q in_p in_q differ (or_left (same_pair z z) false ((same_pair-exact z z).1 refl)))

pub cover_there : (o : Opening) (p q : Position) → Among p o.positions → Among q o.positions → same_place p q ≡ false → list_any (same_pair (orient (cover o p q))) (interactions o) ≡ true
cover_there o p q in_p in_q differ = any-times same_pair same_pair-exact (orient (cover o p q)) (interactions o) (omega (arith, cover_once o p q in_p in_q differ))

pub among-place : (ps : List Position) (p : Position) → list_any (same_place p) ps ≡ true → Among p ps
among-place ps p h =
    let w : Witness (same_place p) ps = any-witness (same_place p) ps h in
    subst (λ t. Among t ps) (sym ((same_place-exact p w.it).0 w.passes)) w.«in»

pub one_cover : (o : Opening) → IsSound o → (p q : Position) → list_any (same_place p) o.positions ≡ true → list_any (same_place q) o.positions ≡ true → same_place p q ≡ false → HasOneCover o p q
one_cover o s p q u v differ =
    let in_p : Among p o.positions = among-place o.positions p u in
    let in_q : Among q o.positions = among-place o.positions q v in
    let c : IsOnChain p q (cover o p q) = cover-on o p q (box_of o s p in_p) (box_of o s q in_q) differ in
    record {
      one = parted_by_one o s p q in_p in_q differ;
      there = cover_there o p q in_p in_q differ;
      parted = parts_orient p q (cover o p q) ∙ or_left (parts p q (cover o p q)) (parts q p (cover o p q)) (and_from (contains (cover o p q).0 p) (contains (cover o p q).1 q) c.first c.second);
    }

-- ---- an interaction, with a body in each of its cells

pub record Acts (o : Opening) (x : CellData × CellData) : Type 0 where
  pub p : Position
  pub q : Position
  pub in_p : Among p o.positions
  pub in_q : Among q o.positions
  pub on : IsOnChain p q x

acts_turned : (o : Opening) (p q : Position) → Among p o.positions → Among q o.positions → (y : CellData × CellData) (b : Bool) → IsOnChain p q y → Acts o (cond b (y.1, y.0) y)
acts_turned o p q in_p in_q y true c = record { p = q; q = p; in_p = in_q; in_q = in_p; on = record { first = c.second; second = c.first; apart = λ t u v. c.apart t v u; low_first = c.low_second; low_second = c.low_first } }
acts_turned o p q in_p in_q y false c = record { p = p; q = q; in_p = in_p; in_q = in_q; on = c }

pub acts : (o : Opening) → IsSound o → (x : CellData × CellData) → Among x (interactions o) → Acts o x
acts o s x h =
    let c : CoverOf o x = interaction-cover o x h in
    let y : CellData × CellData = cover o c.p c.q in
    subst (Acts o) (sym c.is) (acts_turned o c.p c.q c.in_p c.in_q y (before y.1 y.0) (cover-on o c.p c.q (box_of o s c.p c.in_p) (box_of o s c.q c.in_q) c.differ))

-- c contains a body i, and d, the other cell of an interaction x, a body j
pub record Partnered (o : Opening) (c d : CellData) (x : CellData × CellData) : Type 0 where
  pub i : Position
  pub j : Position
  pub in_i : Among i o.positions
  pub in_j : Among j o.positions
  pub mine : contains c i ≡ true
  pub other : contains d j ≡ true
  pub apart : (t : Position) → contains c t ≡ true → contains d t ≡ true → ⊥
  pub low : d.level ≤ 32
  pub splits : (a b : Position) → contains c a ≡ true → contains d b ≡ true → parts_two a b x ≡ true

partnered_step : (o : Opening) (c : CellData) (x : CellData × CellData) → Acts o x → (b : Bool) → same_cell c x.0 ≡ b → (b || same_cell c x.1) ≡ true → Partnered o c (cond b x.1 x.0) x
partnered_step o c x a true e h =
    let k : c ≡ x.0 = (same_cell-exact c x.0).0 e in
    record {
      i = a.p;
      j = a.q;
      in_i = a.in_p;
      in_j = a.in_q;
      mine = ap (λ t. contains t a.p) k ∙ a.on.first;
      other = a.on.second;
      apart = λ t u v. a.on.apart t (ap (λ s. contains s t) (sym k) ∙ u) v;
      low = a.on.low_second;
      splits = λ p q u v. or_left (parts p q x) (parts q p x) (and_from (contains x.0 p) (contains x.1 q) (ap (λ s. contains s p) (sym k) ∙ u) v);
    }
partnered_step o c x a false e h =
    let k : c ≡ x.1 = (same_cell-exact c x.1).0 h in
    record {
      i = a.q;
      j = a.p;
      in_i = a.in_q;
      in_j = a.in_p;
      mine = ap (λ t. contains t a.q) k ∙ a.on.second;
      other = a.on.first;
      apart = λ t u v. a.on.apart t v (ap (λ s. contains s t) (sym k) ∙ u);
      low = a.on.low_first;
      splits = λ p q u v. or_right (parts p q x) (parts q p x) (and_from (contains x.0 q) (contains x.1 p) v (ap (λ s. contains s p) (sym k) ∙ u));
    }

pub partnered : (o : Opening) → IsSound o → (c : CellData) (x : CellData × CellData) → Among x (interactions o) → has_cell c x ≡ true → Partnered o c (partner c x) x
partnered o s c x h e = partnered_step o c x (acts o s x h) (same_cell c x.0) refl e

-- ---- the partners are few

pub ones : {X : Type 0} (xs : List X) → sum_by (λ x. 1) xs ≡ length xs
ones [] = refl
ones {X} (x ∷ xs) = sum_by-cons {X = X} (λ y. 1) x xs ∙ omega (arith, ones xs)

not_itself : (o : Opening) → IsSound o → (i : Position) (x : CellData × CellData) → Among x (interactions o) → parts_two i i x ≡ false
not_itself o s i x h = none (parts_two i i x) refl
  where
    none : (b : Bool) → parts_two i i x ≡ b → b ≡ false
    none true e = absurd (both_in (or_cases (parts i i x) (parts i i x) e))
      where
        both_in : (parts i i x ≡ true) ⊎ (parts i i x ≡ true) → ⊥
        both_in (inl u) = let p : (contains x.0 i ≡ true) × (contains x.1 i ≡ true) = and_parts (contains x.0 i) (contains x.1 i) u in (acts o s x h).on.apart i p.0 p.1
        both_in (inr u) = let p : (contains x.0 i ≡ true) × (contains x.1 i ≡ true) = and_parts (contains x.0 i) (contains x.1 i) u in (acts o s x h).on.apart i p.0 p.1
    none false e = refl

-- at most one interaction parts i and j
at_most_one : (o : Opening) → IsSound o → (i j : Position) → Among i o.positions → Among j o.positions → (b : Bool) → same_place i j ≡ b → sum_by (λ x. one_if (parts_two i j x)) (interactions o) ≤ 1
at_most_one o s i j in_i in_j true e =
    let k : i ≡ j = (same_place-exact i j).0 e in
    let zero_at : (x : CellData × CellData) → Among x (interactions o) → one_if (parts_two i j x) ≡ 0 = λ x h. ap (λ t. one_if (parts_two i t x)) (sym k) ∙ cond-false {A = ℕ} (parts_two i i x) 1 0 (not_itself o s i x h) in
    omega (arith, among-zero (λ x. one_if (parts_two i j x)) (interactions o) zero_at)
at_most_one o s i j in_i in_j false e = omega (arith, parted_by_one o s i j in_i in_j e)

seen_by : (o : Opening) → IsSound o → (c : CellData) (i : Position) → contains c i ≡ true → (x : CellData × CellData) → Among x (interactions o) → (b : Bool) → has_cell c x ≡ b → one_if b ≤ sum_by (λ j. one_if (parts_two i j x)) o.positions
seen_by o s c i h x k true e =
    let p : Partnered o c (partner c x) x = partnered o s c x k e in
    omega (arith, among-le (λ j. one_if (parts_two i j x)) p.j o.positions p.in_j, cond-true {A = ℕ} (parts_two i p.j x) 1 0 (p.splits i p.j h p.other))
seen_by o s c i h x k false e = omega arith

few_around : (o : Opening) → IsSound o → (c : CellData) (i : Position) → Among i o.positions → contains c i ≡ true → count_by (has_cell c) (interactions o) ≤ length o.positions
few_around o s c i in_i h =
    omega (
      arith,
      sum_by-le-on (λ x. one_if (has_cell c x)) (λ x. sum_by (λ j. one_if (parts_two i j x)) o.positions) (interactions o) (λ x k. seen_by o s c i h x k (has_cell c x) refl),
      sum-exchange (λ x j. one_if (parts_two i j x)) (interactions o) o.positions,
      sum_by-le-on (λ j. sum_by (λ x. one_if (parts_two i j x)) (interactions o)) (λ j. 1) o.positions (λ j k. at_most_one o s i j in_i k (same_place i j) refl),
      ones o.positions,
    )

few_cases : (o : Opening) → IsSound o → (c : CellData) (b : Bool) → list_any (has_cell c) (interactions o) ≡ b → count_by (has_cell c) (interactions o) ≤ length o.positions
few_cases o s c true e =
    let w : Witness (has_cell c) (interactions o) = any-witness (has_cell c) (interactions o) e in
    let p : Partnered o c (partner c w.it) w.it = partnered o s c w.it w.«in» w.passes in
    few_around o s c p.i p.in_i p.mine
few_cases o s c false e = omega (arith, among-zero (λ x. one_if (has_cell c x)) (interactions o) (λ x h. none x h (has_cell c x) refl))
  where
    none : (x : CellData × CellData) → Among x (interactions o) → (b : Bool) → has_cell c x ≡ b → one_if b ≡ 0
    none x h true k = absurd (false≢true (sym e ∙ any-among (has_cell c) x (interactions o) h k))
    none x h false k = refl

pub partners_few : (o : Opening) → IsSound o → (c : CellData) → count_by (has_cell c) (interactions o) ≤ length o.positions
partners_few o s c = few_cases o s c (list_any (has_cell c) (interactions o)) refl

-- ---- the partners have nothing in common

two_le : {X : Type 0} (f : X → ℕ) (x y : X) (xs : List X) → (x ≡ y → ⊥) → Among x xs → Among y xs → f x + f y ≤ sum_by f xs
two_le f x y [] differ h k = absurd h
two_le f x y (z ∷ zs) differ (inl h) (inl k) = absurd (differ (h ∙ sym k))
two_le f x y (z ∷ zs) differ (inl h) (inr k) = omega (arith, sum_by-cons f z zs, ap f h, among-le f y zs k)
two_le f x y (z ∷ zs) differ (inr h) (inl k) = omega (arith, sum_by-cons f z zs, ap f k, among-le f x zs h)
two_le f x y (z ∷ zs) differ (inr h) (inr k) = omega (arith, sum_by-cons f z zs, two_le f x y zs differ h k)

-- two interactions that part the same bodies are one
pub one_parts : (o : Opening) → IsSound o → (i j : Position) → Among i o.positions → Among j o.positions → (x y : CellData × CellData) → Among x (interactions o) → Among y (interactions o) → parts_two i j x ≡ true → parts_two i j y ≡ true → x ≡ y
one_parts o s i j in_i in_j x y in_x in_y u v = same (same_pair x y) refl
  where
    same : (b : Bool) → same_pair x y ≡ b → x ≡ y
    same true e = (same_pair-exact x y).0 e
    same false e = absurd (omega (
      arith,
      two_le (λ z. one_if (parts_two i j z)) x y (interactions o) (λ k. false≢true (sym e ∙ (same_pair-exact x y).1 k)) in_x in_y,
      at_most_one o s i j in_i in_j (same_place i j) refl,
      cond-true {A = ℕ} (parts_two i j x) 1 0 u,
      cond-true {A = ℕ} (parts_two i j y) 1 0 v,
    ))

-- if the partner in x lay in that in y, two interactions would part a body of c from one of the partner
not_within : (o : Opening) → IsSound o → (c : CellData) (x y : CellData × CellData) → Among x (interactions o) → Among y (interactions o) → (x ≡ y → ⊥) → has_cell c x ≡ true → has_cell c y ≡ true → IsWithin (partner c x) (partner c y) → ⊥
not_within o s c x y h k differ u v inside =
    let a : Partnered o c (partner c x) x = partnered o s c x h u in
    let b : Partnered o c (partner c y) y = partnered o s c y k v in
    let far : parts_two a.i a.j y ≡ true = b.splits a.i a.j a.mine (inside.within a.j a.other) in
    let near : parts_two a.i a.j x ≡ true = a.splits a.i a.j a.mine a.other in
    differ (one_parts o s a.i a.j a.in_i a.in_j x y h k near far)

pub partners_disjoint : (o : Opening) → IsSound o → (c : CellData) (x y : CellData × CellData) → list_any (same_pair x) (interactions o) ≡ true → list_any (same_pair y) (interactions o) ≡ true → same_pair x y ≡ false → has_cell c x ≡ true → has_cell c y ≡ true → AreDisjoint (partner c x) (partner c y)
partners_disjoint o s c x y h k differ u v =
    let in_x : Among x (interactions o) = among-pair (interactions o) x h in
    let in_y : Among y (interactions o) = among-pair (interactions o) y k in
    let apart : x ≡ y → ⊥ = λ e. false≢true (sym differ ∙ (same_pair-exact x y).1 e) in
    let a : Partnered o c (partner c x) x = partnered o s c x in_x u in
    let b : Partnered o c (partner c y) y = partnered o s c y in_y v in
    from (not_within o s c x y in_x in_y apart u v) (not_within o s c y x in_y in_x (λ e. apart (sym e)) v u) (disjoint_or_nested (partner c x) (partner c y) a.low b.low)
  where
    from : (IsWithin (partner c x) (partner c y) → ⊥) → (IsWithin (partner c y) (partner c x) → ⊥) → AreDisjoint (partner c x) (partner c y) ⊎ (IsWithin (partner c x) (partner c y) ⊎ IsWithin (partner c y) (partner c x)) → AreDisjoint (partner c x) (partner c y)
    from f g (inl d) = d
    from f g (inr (inl w)) = absurd (f w)
    from f g (inr (inr w)) = absurd (g w)

    among-pair : (xs : List (CellData × CellData)) (z : CellData × CellData) → list_any (same_pair z) xs ≡ true → Among z xs
    among-pair xs z h = let w : Witness (same_pair z) xs = any-witness (same_pair z) xs h in subst (λ t. Among t xs) (sym ((same_pair-exact z w.it).0 w.passes)) w.«in»
