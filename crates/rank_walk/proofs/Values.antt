-- What stands at cells, when places are added and when a force is added to two of them.
use Rattle.std.proofs.Common.{◌≡◌, ◌≢◌, ℕ, zero, suc, ◌+◌, ◌*◌, ◌<◌, ◌≤◌, ◌^◌, Bool, true, false, cond, ◌&&◌, ◌||◌, List, [], ◌∷◌, ◌++◌, map, set, take, drop, length, get_or, refl, ap, sym, ◌∙◌, arith, ◌⊎◌, inl, inr, subst, ◌+ℤ◌}
use Rattle.std.proofs.lemmas.Int.{ints}
use Rattle.std.proofs.lemmas.List.{get_or-set_same, get_or-set_other, length-set}
use Rattle.std.proofs.lemmas.Bool.{cases_eq, false≢true}
use Rattle.fixed_point.specs.declared.V3.{V3}
use Rattle.fixed_point.specs.Vectors.{origin, plus, negative, IsAtMost}
use Rattle.cell_space.specs.Cells.{CellData, root_cell, same_cell}
use Rattle.cell_space.proofs.Cells.{same_cell-exact}
use Rattle.nbody_model.specs.Force.{pair_force, force_on}
use Rattle.rank_laws.specs.Machine.{Pair}
use Rattle.rank_laws.proofs.Axes.{Axis, OnX, OnY, OnZ, on, on_none, on_sum, on_each, total-append}
use Rattle.rank_walk.specs.Slots.{if_at, value_at, sum_at_place, moved, flag_at, flagged}
use Rattle.rank_walk.specs.Seats.{Seat}
use Rattle.rank_laws.specs.Machine.{cells_of, is_one}
use Rattle.std.specs.List.{flat_map}
use Rattle.std.proofs.lemmas.List.Concat.{flat_map-append}
use Rattle.model_laws.proofs.Among.{any-append}
use Rattle.rank_walk.specs.Walked.{done_to, takes_part}

pub on_plus : (a : Axis) (u v : V3) → on a (plus u v) ≡ on a u +ℤ on a v
on_plus OnX u v = refl
on_plus OnY u v = refl
on_plus OnZ u v = refl

if_none : (c d : CellData) (b : Bool) → cond b origin origin ≡ origin
if_none c d true = refl
if_none c d false = refl

pub none_at : (ds : List CellData) (c : CellData) → value_at ds (map (λ d. origin) ds) c ≡ origin
none_at [] c = refl
none_at (d ∷ ds) c = λ i. plus (if_none c d (same_cell c d) i) (none_at ds c i)

-- places with nothing at them change nothing
pub value_grown : (cs ds : List CellData) (vs : List V3) (c : CellData) → length vs ≡ length cs → value_at (cs ++ ds) (vs ++ map (λ d. origin) ds) c ≡ value_at cs vs c
value_grown [] ds [] c e = none_at ds c
value_grown [] ds (v ∷ vs) c e = absurd (omega (arith, e))
value_grown (d ∷ cs) ds [] c e = absurd (omega (arith, e))
value_grown (d ∷ cs) ds (v ∷ vs) c e = ap (plus (if_at c d v)) (value_grown cs ds vs c (omega (arith, e)))

-- one place is set
value_set : (a : Axis) (cs : List CellData) (vs : List V3) (i : ℕ) (v : V3) (c : CellData) → length vs ≡ length cs → i < length vs →
    on a (value_at cs (set vs i v) c) +ℤ on a (if_at c (get_or cs i root_cell) (sum_at_place vs i)) ≡ on a (value_at cs vs c) +ℤ on a (if_at c (get_or cs i root_cell) v)
value_set a [] [] i v c e h = absurd (omega (arith, h))
value_set a [] (w ∷ vs) i v c e h = absurd (omega (arith, e))
value_set a (d ∷ cs) [] i v c e h = absurd (omega (arith, h))
value_set a (d ∷ cs) (w ∷ vs) zero v c e h = omega (arith, ints, on_plus a (if_at c d v) (value_at cs vs c), on_plus a (if_at c d w) (value_at cs vs c))
value_set a (d ∷ cs) (w ∷ vs) (suc i) v c e h = omega (arith, ints, on_plus a (if_at c d w) (value_at cs (set vs i v) c), on_plus a (if_at c d w) (value_at cs vs c), value_set a cs vs i v c (omega (arith, e)) (omega (arith, h)))

if_plus : (a : Axis) (b : Bool) (u f : V3) → on a (cond b (plus u f) origin) ≡ on a (cond b u origin) +ℤ on a (cond b f origin)
if_plus a true u f = on_plus a u f
if_plus a false u f = omega (arith, ints, on_none a)

-- a force is added at one place
value_raised : (a : Axis) (cs : List CellData) (vs : List V3) (i : ℕ) (f : V3) (c : CellData) → length vs ≡ length cs → i < length vs →
    on a (value_at cs (set vs i (plus (sum_at_place vs i) f)) c) ≡ on a (value_at cs vs c) +ℤ on a (if_at c (get_or cs i root_cell) f)
value_raised a cs vs i f c e h = omega (arith, ints, value_set a cs vs i (plus (sum_at_place vs i) f) c e h, if_plus a (same_cell c (get_or cs i root_cell)) (sum_at_place vs i) f)

-- what a pair of cells that differ does to a cell
acts_on : (a : Axis) (F : Pair → V3) (x : Pair) (c : CellData) (s t : Bool) → same_cell c x.0 ≡ s → same_cell c x.1 ≡ t → same_cell x.0 x.1 ≡ false →
    on a (cond s (F x) origin) +ℤ on a (cond t (negative (F x)) origin) ≡ on a (cond s (F x) (cond t (negative (F x)) origin))
acts_on a F x c true true p q n = absurd (false≢true (sym n ∙ (same_cell-exact x.0 x.1).1 (sym ((same_cell-exact c x.0).0 p) ∙ (same_cell-exact c x.1).0 q)))
acts_on a F x c true false p q n = omega (arith, ints, on_none a)
acts_on a F x c false true p q n = omega (arith, ints, on_none a)
acts_on a F x c false false p q n = omega (arith, ints, on_none a)

force_acts : (a : Axis) (F : Pair → V3) (x : Pair) (c : CellData) → same_cell x.0 x.1 ≡ false → on a (if_at c x.0 (F x)) +ℤ on a (if_at c x.1 (negative (F x))) ≡ on a (force_on F c x)
unfolding force_on
force_acts a F x c n = acts_on a F x c (same_cell c x.0) (same_cell c x.1) refl refl n

done_more : (a : Axis) (z : Seat) (done : List Pair) (x : Pair) (c : CellData) → on a (done_to z (done ++ x ∷ []) c) ≡ on a (done_to z done c) +ℤ on a (force_on (pair_force z.whole.gravity z.whole.bodies) c x)
done_more a z done x c =
    let f : Pair → V3 = force_on (pair_force z.whole.gravity z.whole.bodies) c in
    omega (
      arith,
      ints,
      on_sum a (force_on (pair_force z.whole.gravity z.whole.bodies) c) (done ++ x ∷ []),
      on_sum a (force_on (pair_force z.whole.gravity z.whole.bodies) c) done,
      total-append (λ x. on a (force_on (pair_force z.whole.gravity z.whole.bodies) c x)) done (x ∷ []),
    )

-- one more interaction: the force is added to its first cell, and its negative to the second
pub value_moved : (z : Seat) (cs : List CellData) (vs : List V3) (i j : ℕ) (f start : V3) (done : List Pair) (x : Pair) (c : CellData) → length vs ≡ length cs → i < length vs → j < length vs → i ≢ j → x ≡ (get_or cs i root_cell, get_or cs j root_cell) →
    same_cell x.0 x.1 ≡ false → f ≡ pair_force z.whole.gravity z.whole.bodies x → value_at cs vs c ≡ plus start (done_to z done c) → value_at cs (moved vs i j f) c ≡ plus start (done_to z (done ++ x ∷ []) c)
value_moved z cs vs i j f start done x c e h k n p d q was = on_each (value_at cs (moved vs i j f) c) (plus start (done_to z (done ++ x ∷ []) c)) by
  where
    by : (a : Axis) → on a (value_at cs (moved vs i j f) c) ≡ on a (plus start (done_to z (done ++ x ∷ []) c))
    by a =
        let us : List V3 = set vs i (plus (sum_at_place vs i) f) in
        let long : length (set vs i (plus (sum_at_place vs i) f)) ≡ length vs = length-set vs i (plus (sum_at_place vs i) f) in
        let other : sum_at_place (set vs i (plus (sum_at_place vs i) f)) j ≡ sum_at_place vs j = get_or-set_other vs i j (plus (sum_at_place vs i) f) origin (λ s. n (sym s)) in
        let second : on a (value_at cs (set (set vs i (plus (sum_at_place vs i) f)) j (plus (sum_at_place (set vs i (plus (sum_at_place vs i) f)) j) (negative f))) c) ≡ on a (value_at cs (set vs i (plus (sum_at_place vs i) f)) c) +ℤ on a (if_at c (get_or cs j root_cell) (negative f)) =
        value_raised a cs (set vs i (plus (sum_at_place vs i) f)) j (negative f) c (long ∙ e) (omega (arith, k, long)) in
        let same : on a (value_at cs (moved vs i j f) c) ≡ on a (value_at cs (set (set vs i (plus (sum_at_place vs i) f)) j (plus (sum_at_place (set vs i (plus (sum_at_place vs i) f)) j) (negative f))) c) = ap (λ u. on a (value_at cs (set (set vs i (plus (sum_at_place vs i) f)) j (plus u (negative f))) c)) (sym other) in
        let first : on a (if_at c (get_or cs i root_cell) f) ≡ on a (if_at c x.0 (pair_force z.whole.gravity z.whole.bodies x)) = (let r : (get_or cs i root_cell, get_or cs j root_cell) ≡ x = sym p in λ t. on a (if_at c (r t).0 (q t))) in
        let last : on a (if_at c (get_or cs j root_cell) (negative f)) ≡ on a (if_at c x.1 (negative (pair_force z.whole.gravity z.whole.bodies x))) = (let r : (get_or cs i root_cell, get_or cs j root_cell) ≡ x = sym p in λ t. on a (if_at c (r t).1 (negative (q t)))) in
        omega (
          arith,
          ints,
          same,
          second,
          first,
          last,
          value_raised a cs vs i f c e h,
          force_acts a (pair_force z.whole.gravity z.whole.bodies) x c d,
          done_more a z done x c,
          on_plus a start (done_to z done c),
          on_plus a start (done_to z (done ++ x ∷ []) c),
          ap (on a) was,
        )

-- ---- sizes

more_small : (n : ℕ) (u f : V3) → IsAtMost n u → IsAtMost (2 ^ 86) f → IsAtMost (n + 2 ^ 86) (plus u f)
more_small n u f h k = record { on_x = omega (arith, ints, h.on_x, k.on_x); on_y = omega (arith, ints, h.on_y, k.on_y); on_z = omega (arith, ints, h.on_z, k.on_z) }

less_small : (n : ℕ) (u f : V3) → IsAtMost n u → IsAtMost (2 ^ 86) f → IsAtMost (n + 2 ^ 86) (plus u (negative f))
less_small n u f h k = record { on_x = omega (arith, ints, h.on_x, k.on_x); on_y = omega (arith, ints, h.on_y, k.on_y); on_z = omega (arith, ints, h.on_z, k.on_z) }

as_small : (n : ℕ) (u : V3) → IsAtMost n u → IsAtMost (n + 2 ^ 86) u
as_small n u h = record { on_x = omega (arith, h.on_x); on_y = omega (arith, h.on_y); on_z = omega (arith, h.on_z) }

pub small_moved : (n : ℕ) (vs : List V3) (i j : ℕ) (f : V3) → i < length vs → j < length vs → ((k : ℕ) → IsAtMost n (sum_at_place vs k)) → IsAtMost (2 ^ 86) f → (k : ℕ) → IsAtMost (n + 2 ^ 86) (sum_at_place (moved vs i j f) k)
small_moved n vs i j f h m small s k = by (cases_eq k j) (cases_eq k i)
  where
    us : List V3
    us = set vs i (plus (sum_at_place vs i) f)

    by : (k ≡ j) ⊎ (k ≢ j) → (k ≡ i) ⊎ (k ≢ i) → IsAtMost (n + 2 ^ 86) (sum_at_place (moved vs i j f) k)
    by (inl e) w = subst (IsAtMost (n + 2 ^ 86)) (sym (ap (sum_at_place (moved vs i j f)) e ∙ get_or-set_same (set vs i (plus (sum_at_place vs i) f)) j (plus (sum_at_place vs j) (negative f)) origin (omega (arith, m, length-set vs i (plus (sum_at_place vs i) f))))) (less_small n (sum_at_place vs j) f (small j) s)
    by (inr u) (inl e) = subst (IsAtMost (n + 2 ^ 86)) (sym (get_or-set_other (set vs i (plus (sum_at_place vs i) f)) j k (plus (sum_at_place vs j) (negative f)) origin u ∙ ap (sum_at_place (set vs i (plus (sum_at_place vs i) f))) e ∙ get_or-set_same vs i (plus (sum_at_place vs i) f) origin h)) (more_small n (sum_at_place vs i) f (small i) s)
    by (inr u) (inr v) = subst (IsAtMost (n + 2 ^ 86)) (sym (get_or-set_other (set vs i (plus (sum_at_place vs i) f)) j k (plus (sum_at_place vs j) (negative f)) origin u ∙ get_or-set_other vs i k (plus (sum_at_place vs i) f) origin v)) (as_small n (sum_at_place vs k) (small k))

pub small_low : (n : ℕ) (v : V3) → n < 2 ^ 40 → IsAtMost (n * 2 ^ 86) v → IsAtMost (2 ^ 126) v
small_low n v h s = record { on_x = omega (arith, h, s.on_x); on_y = omega (arith, h, s.on_y); on_z = omega (arith, h, s.on_z) }

-- a slice of a whole list is put back
pub put_back : {X : Type 0} (n : ℕ) (new old : List X) → length new ≡ length old → n ≡ length old → take n (new ++ drop (length new) old) ≡ new
put_back n new old e f = ap (λ t. take n (new ++ t)) (dropped old (length new) (omega (arith, e))) ∙ taken new n (omega (arith, e, f))
  where
    dropped : {X : Type 0} (xs : List X) (m : ℕ) → length xs ≤ m → drop m xs ≡ []
    dropped [] m h = drop_none m
      where
        drop_none : {X : Type 0} (m : ℕ) → drop {A = X} m [] ≡ []
        drop_none zero = refl
        drop_none (suc m) = refl
    dropped (x ∷ xs) zero h = absurd (omega (arith, h))
    dropped (x ∷ xs) (suc m) h = dropped xs m (omega (arith, h))

    taken : {X : Type 0} (xs : List X) (m : ℕ) → m ≡ length xs → take m (xs ++ []) ≡ xs
    taken [] zero h = refl
    taken [] (suc m) h = absurd (omega (arith, h))
    taken (x ∷ xs) zero h = absurd (omega (arith, h))
    taken (x ∷ xs) (suc m) h = ap (λ t. x ∷ t) (taken xs m (omega (arith, h)))

pub moved_long : (vs : List V3) (i j : ℕ) (f : V3) → length (moved vs i j f) ≡ length vs
moved_long vs i j f = length-set (set vs i (plus (sum_at_place vs i) f)) j (plus (sum_at_place vs j) (negative f)) ∙ length-set vs i (plus (sum_at_place vs i) f)

-- ---- flags

pub flag_grown : (cs ds : List CellData) (fs : List Bool) (c : CellData) → length fs ≡ length cs → flag_at (cs ++ ds) (fs ++ map (λ d. false) ds) c ≡ flag_at cs fs c
flag_grown [] ds [] c e = none ds c
  where
    none : (ds : List CellData) (c : CellData) → flag_at ds (map (λ d. false) ds) c ≡ false
    none [] c = refl
    none (d ∷ ds) c = by (same_cell c d) (none ds c)
      where
        by : (b : Bool) → flag_at ds (map (λ d. false) ds) c ≡ false → (b && false || flag_at ds (map (λ d. false) ds) c) ≡ false
        by true h = h
        by false h = h
flag_grown [] ds (f ∷ fs) c e = absurd (omega (arith, e))
flag_grown (d ∷ cs) ds [] c e = absurd (omega (arith, e))
flag_grown (d ∷ cs) ds (f ∷ fs) c e = ap (λ b. same_cell c d && f || b) (flag_grown cs ds fs c (omega (arith, e)))

-- one place is flagged
pub flag_set : (cs : List CellData) (fs : List Bool) (i : ℕ) (c : CellData) → length fs ≡ length cs → i < length fs → flag_at cs (set fs i true) c ≡ (same_cell c (get_or cs i root_cell) || flag_at cs fs c)
flag_set cs [] i c e h = absurd (omega (arith, h))
flag_set [] (f ∷ fs) i c e h = absurd (omega (arith, e))
flag_set (d ∷ cs) (f ∷ fs) zero c e h = by (same_cell c d) f (flag_at cs fs c)
  where
    by : (a b r : Bool) → (a && true || r) ≡ (a || (a && b || r))
    by true b r = refl
    by false b r = refl
flag_set (d ∷ cs) (f ∷ fs) (suc i) c e h = ap (λ b. same_cell c d && f || b) (flag_set cs fs i c (omega (arith, e)) (omega (arith, h))) ∙ by (same_cell c d && f) (same_cell c (get_or cs i root_cell)) (flag_at cs fs c)
  where
    by : (a b r : Bool) → (a || (b || r)) ≡ (b || (a || r))
    by true true r = refl
    by true false r = refl
    by false true r = refl
    by false false r = refl

pub flagged_long : (fs : List Bool) (i j : ℕ) → length (flagged fs i j) ≡ length fs
flagged_long fs i j = length-set (set fs i true) j true ∙ length-set fs i true

-- the two cells of one more interaction
pub flag_touched : (cs : List CellData) (fs : List Bool) (i j : ℕ) (was : Bool) (done : List Pair) (x : Pair) (c : CellData) → length fs ≡ length cs → i < length fs → j < length fs → x ≡ (get_or cs i root_cell, get_or cs j root_cell) →
    flag_at cs fs c ≡ (was || takes_part done c) → flag_at cs (flagged fs i j) c ≡ (was || takes_part (done ++ x ∷ []) c)
flag_touched cs fs i j was done x c e h k p q =
    flag_set cs (set fs i true) j c (length-set fs i true ∙ e) (omega (arith, k, length-set fs i true))
    ∙ ap (λ b. same_cell c (get_or cs j root_cell) || b) (flag_set cs fs i c e h ∙ ap (λ b. same_cell c (get_or cs i root_cell) || b) q)
    ∙ by (same_cell c (get_or cs j root_cell)) (same_cell c (get_or cs i root_cell)) was (takes_part done c)
    ∙ (let r : (get_or cs i root_cell, get_or cs j root_cell) ≡ x = sym p in λ t. was || (takes_part done c || (same_cell c (r t).0 || (same_cell c (r t).1 || false))))
    ∙ ap (λ b. was || b) (sym (ap (is_one c) (flat_map-append cells_of done (x ∷ [])) ∙ any-append (same_cell c) (flat_map cells_of done) (cells_of x)))
  where
    by : (b a w d : Bool) → (b || (a || (w || d))) ≡ (w || (d || (a || (b || false))))
    by b a true d = left b a
      where
        left : (b a : Bool) → (b || (a || true)) ≡ true
        left true a = refl
        left false true = refl
        left false false = refl
    by b a false true = left b a
      where
        left : (b a : Bool) → (b || (a || true)) ≡ true
        left true a = refl
        left false true = refl
        left false false = refl
    by true true false false = refl
    by true false false false = refl
    by false true false false = refl
    by false false false false = refl
