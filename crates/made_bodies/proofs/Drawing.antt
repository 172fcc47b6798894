-- One draw after another.
use Rattle.std.proofs.Common.{◌≡◌, ℕ, ℤ, zero, suc, ◌+◌, ◌*◌, ◌/◌, ◌%◌, ◌<◌, ◌^◌, List, [], ◌∷◌, sym, ap, ◌∙◌, arith, lit<}
use Rattle.std.specs.Fn.{iterate}
use Rattle.std.proofs.lemmas.Nat.{div_below, mod_below}
use Rattle.std.proofs.Math.Nat.{mul-div_cancel}
use Rattle.store_io.specs.Picks.{drawn, drawn_state, next_state}
use Rattle.particle_set.specs.declared.row.Row.{Row}
use Rattle.made_bodies.specs.Draws.{draw, momentum_of, state_after}
use Rattle.made_bodies.specs.Drawn.{drawn_row, row_by}

iterate_more : {A : Type 0} (h : A → A) (m n : ℕ) (x : A) → iterate h n (iterate h m x) ≡ iterate h (m + n) x
iterate_more h zero n x = let e : n ≡ zero + n = omega arith in ap (λ k. iterate h k x) e
iterate_more h (suc m) n x = let e : suc (m + n) ≡ suc m + n = omega arith in iterate_more h m n (h x) ∙ ap (λ k. iterate h k x) e

pub state_more : (s m n : ℕ) → state_after (state_after s m) n ≡ state_after s (m + n)
unfolding state_after
state_more s m n = iterate_more drawn_state m n s

pub draw_more : (s m k : ℕ) → draw (state_after s m) k ≡ draw s (m + k)
unfolding draw
draw_more s m k =
    let e : m + (k + 1) ≡ m + k + 1 = omega arith in
    ap (λ n. n / 2 ^ 32) (state_more s m (k + 1) ∙ ap (state_after s) e)

-- a pick of 2^32 is the upper half of the next state
pub first_draw : (s : ℕ) → drawn (s ∷ []) (2 ^ 32) ≡ draw s 0
unfolding draw state_after
first_draw s = mul-div_cancel (drawn_state s / 2 ^ 32) (lit< tt)

-- the state behind it
pub first_state : (s now : ℕ) → now ∷ [] ≡ next_state (s ∷ []) (2 ^ 32) → now ≡ state_after s 1
unfolding state_after
first_state s now e = cc

-- a state has 64 bits, once something was drawn
below : (s n : ℕ) → state_after s (n + 1) < 2 ^ 64
unfolding state_after
below s n =
    let last : iterate drawn_state (n + 1) s ≡ drawn_state (iterate drawn_state n s) = sym (iterate_more drawn_state n 1 s) in
    rw last (mod_below _ (2 ^ 64) (lit< tt))

-- a draw has 32 bits
pub draw_below : (s n : ℕ) → draw s n < 2 ^ 32
unfolding draw
draw_below s n = div_below (state_after s (n + 1)) (2 ^ 32) (2 ^ 32) (lit< tt) (below s n)

-- ---- a row

-- seven equal numbers make one row
pub same_row : (f g : ℕ → ℕ) (id : ℕ) → ((k : ℕ) → f k ≡ g k) → row_by f id ≡ row_by g id
unfolding row_by
same_row f g id h =
    let a = h 0 in
    let b = h 1 in
    let c = h 2 in
    let d = h 3 in
    let p = h 4 in
    let q = h 5 in
    let r = h 6 in
    cc

-- the row that is drawn behind those of earlier places
pub row_behind : (s i : ℕ) → row_by (draw (state_after s (7 * i))) (i + 1) ≡ drawn_row s i
row_behind s i = same_row (draw (state_after s (7 * i))) (λ k. draw s (7 * i + k)) (i + 1) (λ k. draw_more s (7 * i) k)

-- ---- states

pub no_draws : (s now : ℕ) → now ∷ [] ≡ s ∷ [] → now ≡ state_after s 0
unfolding state_after
no_draws s now e = cc

-- seven draws more
pub next_state_after : (s i a b : ℕ) → a ≡ state_after s (7 * i) → b ≡ state_after a 7 → b ≡ state_after s (7 * (i + 1))
next_state_after s i a b e f =
    let n : 7 * i + 7 ≡ 7 * (i + 1) = omega arith in
    f ∙ ap (λ x. state_after x 7) e ∙ state_more s (7 * i) 7 ∙ ap (state_after s) n

-- one after another
pub third_state : (s a b c : ℕ) → a ≡ state_after s 1 → b ≡ state_after a 1 → c ≡ state_after b 1 → c ≡ state_after s 3
third_state s a b c e f g =
    let second : b ≡ state_after s 2 = f ∙ ap (λ x. state_after x 1) e ∙ state_more s 1 1 in
    g ∙ ap (λ x. state_after x 1) second ∙ state_more s 2 1

pub second_draw : (s a y : ℕ) → a ≡ state_after s 1 → y ≡ draw a 0 → y ≡ draw s 1
second_draw s a y e q = q ∙ ap (λ u. draw u 0) e ∙ draw_more s 1 0

pub third_draw : (s a b z : ℕ) → a ≡ state_after s 1 → b ≡ state_after a 1 → z ≡ draw b 0 → z ≡ draw s 2
third_draw s a b z e f r =
    let state : b ≡ state_after s 2 = f ∙ ap (λ u. state_after u 1) e ∙ state_more s 1 1 in
    r ∙ ap (λ u. draw u 0) state ∙ draw_more s 2 0

pub three_drawn : (s a b x y z : ℕ) → x ≡ draw s 0 → a ≡ state_after s 1 → y ≡ draw a 0 → b ≡ state_after a 1 → z ≡ draw b 0 → x ∷ y ∷ z ∷ [] ≡ draw s 0 ∷ draw s 1 ∷ draw s 2 ∷ []
three_drawn s a b x y z p e q f r =
    let second : y ≡ draw s 1 = second_draw s a y e q in
    let third : z ≡ draw s 2 = third_draw s a b z e f r in
    cc

pub seventh_state : (s a b c : ℕ) → a ≡ state_after s 3 → b ≡ state_after a 1 → c ≡ state_after b 3 → c ≡ state_after s 7
seventh_state s a b c e f g =
    let fourth : b ≡ state_after s 4 = f ∙ ap (λ x. state_after x 1) e ∙ state_more s 3 1 in
    g ∙ ap (λ x. state_after x 3) fourth ∙ state_more s 4 3

-- ---- a row by its parts

abbrev pub row_of : ℕ → ℕ → List ℕ → List ℤ → Row
row_of id m place mom = record { id = id; kind = 1; mass = 2048 + m % 2048; pos = place; mom = mom }

pub row_drawn : (s a b m : ℕ) (place : List ℕ) (mom : List ℤ) (id : ℕ)
    → place ≡ draw s 0 ∷ draw s 1 ∷ draw s 2 ∷ [] → a ≡ state_after s 3 → m ≡ draw a 0 → b ≡ state_after a 1
    → mom ≡ momentum_of (draw b 0) ∷ momentum_of (draw b 1) ∷ momentum_of (draw b 2) ∷ []
    → row_of id m place mom ≡ row_by (draw s) id
unfolding row_by
row_drawn s a b m place mom id p e q f r =
    let fourth : m ≡ draw s 3 = q ∙ ap (λ u. draw u 0) e ∙ draw_more s 3 0 in
    let state : b ≡ state_after s 4 = f ∙ ap (λ u. state_after u 1) e ∙ state_more s 3 1 in
    let x : draw b 0 ≡ draw s 4 = ap (λ u. draw u 0) state ∙ draw_more s 4 0 in
    let y : draw b 1 ≡ draw s 5 = ap (λ u. draw u 1) state ∙ draw_more s 4 1 in
    let z : draw b 2 ≡ draw s 6 = ap (λ u. draw u 2) state ∙ draw_more s 4 2 in
    let moms : mom ≡ momentum_of (draw s 4) ∷ momentum_of (draw s 5) ∷ momentum_of (draw s 6) ∷ [] = r ∙ cc in
    cc
