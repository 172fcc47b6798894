-- The curve passes each child of a cell once: all turns and children, computed.
use Rattle.std.proofs.Common.{◌≡◌, ℕ, zero, suc, ◌<◌, ◌≤◌, Bool, true, eqb, ltb, ◌&&◌, refl, ap, sym, ◌∙◌, arith, ◌⊎◌, inl, inr}
use Rattle.std.proofs.lemmas.Bool.{and_parts, eqb-true, ltb-true, cases_lt}
use Rattle.hilbert_keys.specs.Curve.{Turn, IsTurn, place_of, child_at, next_turn}

-- a test of all numbers below n
abbrev pub all_under : (ℕ → Bool) → ℕ → Bool
all_under f zero = true
all_under f (suc n) = f n && all_under f n

under_step : (f : ℕ → Bool) (n k : ℕ) → k < suc n → (f n && all_under f n) ≡ true → (all_under f n ≡ true → k < n → f k ≡ true) → (k < n) ⊎ (n ≤ k) → f k ≡ true
under_step f n k h e rest (inl l) = rest (and_parts (f n) (all_under f n) e).1 l
under_step f n k h e rest (inr l) = let s : n ≡ k = omega arith in ap f (sym s) ∙ (and_parts (f n) (all_under f n) e).0

pub under : (f : ℕ → Bool) (n : ℕ) → all_under f n ≡ true → (k : ℕ) → k < n → f k ≡ true
under f zero e k h = absurd (omega arith)
under f (suc n) e k h = under_step f n k h e (λ u l. under f n u k l) (cases_lt k n)

abbrev pub turn : ℕ → ℕ → Turn
turn e d = record { corner = e; axis = d }

-- what is tested: a child stands at a place below 8 and the place leads back; a place leads to a child below 8 and the
-- child back; and the next turn is one
abbrev good : ℕ → ℕ → ℕ → Bool
good e d k = (ltb (place_of (turn e d) k) 8 && eqb (child_at (turn e d) (place_of (turn e d) k)) k)
    && ((ltb (child_at (turn e d) k) 8 && eqb (place_of (turn e d) (child_at (turn e d) k)) k)
    && (ltb (next_turn (turn e d) k).corner 8 && ltb (next_turn (turn e d) k).axis 3))

all_good : all_under (λ e. all_under (λ d. all_under (good e d) 8) 3) 8 ≡ true
unfolding place_of child_at next_turn
all_good = refl

pub record IsGood (t : Turn) (k : ℕ) : Type 0 where
  pub place : place_of t k < 8
  pub back : child_at t (place_of t k) ≡ k
  pub child : child_at t k < 8
  pub forth : place_of t (child_at t k) ≡ k
  pub turn : IsTurn (next_turn t k)

pub is_good : (t : Turn) (k : ℕ) → IsTurn t → k < 8 → IsGood t k
is_good t k i h =
    let e : good t.corner t.axis k ≡ true = under (good t.corner t.axis) 8 (under (λ d. all_under (good t.corner d) 8) 3 (under (λ e. all_under (λ d. all_under (good e d) 8) 3) 8 all_good t.corner i.corner) t.axis i.axis) k h in
    let u = and_parts (ltb (place_of t k) 8 && eqb (child_at t (place_of t k)) k) ((ltb (child_at t k) 8 && eqb (place_of t (child_at t k)) k) && (ltb (next_turn t k).corner 8 && ltb (next_turn t k).axis 3)) e in
    let v = and_parts (ltb (place_of t k) 8) (eqb (child_at t (place_of t k)) k) u.0 in
    let w = and_parts (ltb (child_at t k) 8 && eqb (place_of t (child_at t k)) k) (ltb (next_turn t k).corner 8 && ltb (next_turn t k).axis 3) u.1 in
    let x = and_parts (ltb (child_at t k) 8) (eqb (place_of t (child_at t k)) k) w.0 in
    let y = and_parts (ltb (next_turn t k).corner 8) (ltb (next_turn t k).axis 3) w.1 in
    record {
      place = ltb-true (place_of t k) 8 v.0;
      back = eqb-true (child_at t (place_of t k)) k v.1;
      child = ltb-true (child_at t k) 8 x.0;
      forth = eqb-true (place_of t (child_at t k)) k x.1;
      turn = record { corner = ltb-true (next_turn t k).corner 8 y.0; axis = ltb-true (next_turn t k).axis 3 y.1 };
    }

-- two children at one place are one
pub one_place : (t : Turn) (k m : ℕ) → IsTurn t → k < 8 → m < 8 → place_of t k ≡ place_of t m → k ≡ m
one_place t k m i h l e = sym (is_good t k i h).back ∙ ap (child_at t) e ∙ (is_good t m i l).back
