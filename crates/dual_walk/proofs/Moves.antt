-- A force at two places, and sums over places.
use Rattle.std.proofs.Common.{◌≡◌, ℕ, ◌-◌, ◌<◌, ◌+◌, ◌≢◌, ◌^◌, List, [], ◌∷◌, ◌++◌, length, get_or, set, zero, suc, ap, sym, ◌∙◌, subst, arith, ℤ, pos, ◌+ℤ◌, neg_ℤ, fold, length-set, get_or-set_other}
use Rattle.std.proofs.Math.ListN.{get_or-append}
use Rattle.std.proofs.lemmas.List.{get_or-append_right, set-append_left, set-append_right, set_comm}
use Rattle.std.proofs.lemmas.Int.{ints}
use Rattle.fixed_point.specs.declared.V3.{V3}
use Rattle.fixed_point.specs.Vectors.{origin, plus, negative, sum_of, IsBelow, FitsEach, IsAtMost}
use Rattle.fixed_point.proofs.VectorLemmas.{IsAtMost-plus, IsAtMost-negative, FitsEach-from_bound}
use Rattle.dual_walk.specs.Places.{moved}

set_both : {X : Type 0} (xs ys : List X) (i n : ℕ) (a b : X) → length xs ≡ n → i < n → set xs i a ++ set ys 0 b ≡ set (set (xs ++ ys) i a) n b
set_both xs ys i n a b e h =
    let z : n - n ≡ 0 = omega arith in
    ap (λ t. set xs i a ++ set ys t b) (sym z)
    ∙ sym (set-append_right (set xs i a) ys n n b (length-set xs i a ∙ e) (omega arith))
    ∙ ap (λ t. set t n b) (sym (set-append_left xs ys i a (omega arith)))

pub read_front : (xs ys : List V3) (i n : ℕ) → length xs ≡ n → i < n → get_or (xs ++ ys) i origin ≡ get_or xs i origin
read_front xs ys i n e h = let k : i < length xs = omega arith in get_or-append xs ys origin i k

pub read_back : (xs ys : List V3) (n : ℕ) → length xs ≡ n → get_or (xs ++ ys) n origin ≡ get_or ys 0 origin
read_back xs ys n e = get_or-append_right xs ys n n origin e (omega arith) ∙ ap (λ t. get_or ys t origin) (omega arith)

-- the raised place stands in front
pub moved_first : (ps xs ys : List V3) (i j : ℕ) (up low f g : V3) → ps ≡ xs ++ ys → length xs ≡ j → i < j → up ≡ plus (get_or xs i origin) f → g ≡ negative f → low ≡ plus (get_or ys 0 origin) g →
    set xs i up ++ set ys 0 low ≡ moved ps i j f
unfolding moved
moved_first ps xs ys i j up low f g e l h u n d =
    let a : get_or ps i origin ≡ get_or xs i origin = ap (λ t. get_or t i origin) e ∙ read_front xs ys i j l h in
    let b : get_or ps j origin ≡ get_or ys 0 origin = ap (λ t. get_or t j origin) e ∙ read_back xs ys j l in
    set_both xs ys i j up low l h
    ∙ ap (λ t. set (set t i up) j low) (sym e)
    ∙ ap (λ t. set (set ps i t) j low) (u ∙ ap (λ t. plus t f) (sym a))
    ∙ ap (λ t. set (set ps i (plus (get_or ps i origin) f)) j t) (d ∙ ap (λ t. plus t g) (sym b) ∙ ap (λ t. plus (get_or ps j origin) t) n)

-- the lowered place stands in front
pub moved_second : (ps xs ys : List V3) (i j : ℕ) (up low f g : V3) → ps ≡ xs ++ ys → length xs ≡ i → j < i → up ≡ plus (get_or ys 0 origin) f → g ≡ negative f → low ≡ plus (get_or xs j origin) g →
    set xs j low ++ set ys 0 up ≡ moved ps i j f
unfolding moved
moved_second ps xs ys i j up low f g e l h u n d =
    let a : get_or ps j origin ≡ get_or xs j origin = ap (λ t. get_or t j origin) e ∙ read_front xs ys j i l h in
    let b : get_or ps i origin ≡ get_or ys 0 origin = ap (λ t. get_or t i origin) e ∙ read_back xs ys i l in
    set_both xs ys j i low up l h
    ∙ ap (λ t. set (set t j low) i up) (sym e)
    ∙ set_comm ps j i low up (λ q. omega arith)
    ∙ ap (λ t. set (set ps i t) j low) (u ∙ ap (λ t. plus t f) (sym b))
    ∙ ap (λ t. set (set ps i (plus (get_or ps i origin) f)) j t) (d ∙ ap (λ t. plus t g) (sym a) ∙ ap (λ t. plus (get_or ps j origin) t) n)

-- ---- sums

-- one number of each place, added up
abbrev pub column : (V3 → ℤ) → List V3 → ℤ
column axis [] = pos 0
column axis (v ∷ vs) = axis v +ℤ column axis vs

sum_from : (vs : List V3) (v : V3) → fold (λ total x. plus total x) v vs ≡ plus v (record { x = column (λ t. t.x) vs; y = column (λ t. t.y) vs; z = column (λ t. t.z) vs })
sum_from [] v =
    let a : v.x ≡ v.x +ℤ pos 0 = omega (arith, ints) in
    let b : v.y ≡ v.y +ℤ pos 0 = omega (arith, ints) in
    let c : v.z ≡ v.z +ℤ pos 0 = omega (arith, ints) in
    λ i. record { x = a i; y = b i; z = c i }
sum_from (x ∷ vs) v =
    let a : v.x +ℤ x.x +ℤ column (λ t. t.x) vs ≡ v.x +ℤ (x.x +ℤ column (λ t. t.x) vs) = omega (arith, ints) in
    let b : v.y +ℤ x.y +ℤ column (λ t. t.y) vs ≡ v.y +ℤ (x.y +ℤ column (λ t. t.y) vs) = omega (arith, ints) in
    let c : v.z +ℤ x.z +ℤ column (λ t. t.z) vs ≡ v.z +ℤ (x.z +ℤ column (λ t. t.z) vs) = omega (arith, ints) in
    sum_from vs (plus v x) ∙ (λ i. record { x = a i; y = b i; z = c i })

column-set : (axis : V3 → ℤ) (ps : List V3) (i : ℕ) (f : V3) → i < length ps → column axis (set ps i f) +ℤ axis (get_or ps i origin) ≡ column axis ps +ℤ axis f
column-set axis [] i f h = absurd (omega arith)
column-set axis (p ∷ ps) zero f h = omega (arith, ints)
column-set axis (p ∷ ps) (suc i) f h = omega (arith, ints, column-set axis ps i f (omega arith))

column-moved : (axis : V3 → ℤ) → ((v w : V3) → axis (plus v w) ≡ axis v +ℤ axis w) → ((v : V3) → axis (negative v) ≡ neg_ℤ (axis v)) →
    (ps : List V3) (i j : ℕ) (f : V3) → i < length ps → j < length ps → i ≢ j → column axis (moved ps i j f) ≡ column axis ps
unfolding moved
column-moved axis add turn ps i j f h k ne =
    let up : V3 = plus (get_or ps i origin) f in
    let low : V3 = plus (get_or ps j origin) (negative f) in
    let a : column axis (set ps i up) +ℤ axis (get_or ps i origin) ≡ column axis ps +ℤ axis up = column-set axis ps i up h in
    let b : column axis (set (set ps i up) j low) +ℤ axis (get_or (set ps i up) j origin) ≡ column axis (set ps i up) +ℤ axis low = column-set axis (set ps i up) j low (omega (arith, length-set ps i up)) in
    let c : axis (get_or (set ps i up) j origin) ≡ axis (get_or ps j origin) = ap axis (get_or-set_other ps i j up origin (λ e. ne (sym e))) in
    omega (arith, ints, a, b, c, add (get_or ps i origin) f, add (get_or ps j origin) (negative f), turn f)

pub sum_moved : (ps : List V3) (i j : ℕ) (f : V3) → i < length ps → j < length ps → i ≢ j → sum_of (λ v. v) (moved ps i j f) ≡ sum_of (λ v. v) ps
sum_moved ps i j f h k ne =
    let a : column (λ t. t.x) (moved ps i j f) ≡ column (λ t. t.x) ps = column-moved (λ t. t.x) (λ v w i. v.x +ℤ w.x) (λ v i. neg_ℤ v.x) ps i j f h k ne in
    let b : column (λ t. t.y) (moved ps i j f) ≡ column (λ t. t.y) ps = column-moved (λ t. t.y) (λ v w i. v.y +ℤ w.y) (λ v i. neg_ℤ v.y) ps i j f h k ne in
    let c : column (λ t. t.z) (moved ps i j f) ≡ column (λ t. t.z) ps = column-moved (λ t. t.z) (λ v w i. v.z +ℤ w.z) (λ v i. neg_ℤ v.z) ps i j f h k ne in
    sum_from (moved ps i j f) origin ∙ (λ i. plus origin (record { x = a i; y = b i; z = c i })) ∙ sym (sum_from ps origin)

-- ---- sizes

at_most : (n : ℕ) (v : V3) → IsBelow n v → IsAtMost n v
at_most n v h = record { on_x = omega (arith, h.on_x); on_y = omega (arith, h.on_y); on_z = omega (arith, h.on_z) }

pub fits_sum : (v w : V3) → IsBelow (2 ^ 112) v → IsBelow (2 ^ 112) w → FitsEach (plus v w)
fits_sum v w h k = FitsEach-from_bound (2 ^ 112 + 2 ^ 112) (plus v w) (omega arith) (IsAtMost-plus (2 ^ 112) (2 ^ 112) v w (at_most (2 ^ 112) v h) (at_most (2 ^ 112) w k))

pub fits_negative : (v : V3) → IsBelow (2 ^ 112) v → FitsEach (negative v)
fits_negative v h = FitsEach-from_bound (2 ^ 112) (negative v) (omega arith) (IsAtMost-negative (2 ^ 112) v (at_most (2 ^ 112) v h))

pub fits_difference : (v w : V3) → IsBelow (2 ^ 112) v → IsBelow (2 ^ 112) w → FitsEach (plus v (negative w))
fits_difference v w h k = FitsEach-from_bound (2 ^ 112 + 2 ^ 112) (plus v (negative w)) (omega arith) (IsAtMost-plus (2 ^ 112) (2 ^ 112) v (negative w) (at_most (2 ^ 112) v h) (IsAtMost-negative (2 ^ 112) w (at_most (2 ^ 112) w k)))

-- the lowered place's sum fits
pub fits_lowered : (v w g : V3) → g ≡ negative w → IsBelow (2 ^ 112) v → IsBelow (2 ^ 112) w → FitsEach (plus v g)
fits_lowered v w g e h k = subst (λ t. FitsEach (plus v t)) (sym e) (fits_difference v w h k)
