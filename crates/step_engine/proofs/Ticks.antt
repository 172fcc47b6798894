-- Ticks inside the unfinished evolves.
use Rattle.std.proofs.Common.{◌≡◌, ◌≢◌, ◌≤◌, ◌<◌, ◌==◌, ◌+◌, ◌-◌, ◌*◌, ◌/◌, ◌^◌, ℕ, Bool, true, false, cond, Option, refl, ap, sym, ◌∙◌, arith, mul_assoc, div-lt_iff_lt-mul}
use Rattle.std.proofs.lemmas.Bool.{ne_eqb, eq-eqb}
use Rattle.std.proofs.lemmas.Nat.{pow_pos, pow-add}
use Rattle.std.proofs.Math.Nat.{mul-le-mul_right, pow-le-pow_right}
use Rattle.nbody_model.specs.Setups.{SetupData}
use Rattle.nbody_model.specs.Tables.{ExpansionData}
use Rattle.nbody_model.specs.States.{low_zeros, began}
use Rattle.step_engine.specs.Stands.{IsTimely}
use Rattle.step_engine.specs.Resumed.{EndsInTime, IsFrom, middle_of, end_of_bin, rounds_end}
use Rattle.model_laws.proofs.Rests.{low_of}
use Rattle.step_engine.proofs.Times.{twice, spans_before}

-- a tick lies before the end of its evolve
pub before_end : (bin u : ℕ) → u < end_of_bin bin u
before_end bin u =
    let n : ℕ = u / 2 ^ bin in
    let less : n < n + 1 = omega arith in
    let high : u < (n + 1) * 2 ^ bin = (div-lt_iff_lt-mul {k = 2 ^ bin} (pow_pos bin)).0 less in
    omega (arith, high)

-- and before a multiple of the width the evolve ends at most there
pub ends_by : (bin m u : ℕ) → u < m * 2 ^ bin → end_of_bin bin u ≤ m * 2 ^ bin
ends_by bin m u h =
    let n : ℕ = u / 2 ^ bin in
    let less : n < m = (div-lt_iff_lt-mul {k = 2 ^ bin} (pow_pos bin)).1 h in
    let most : n + 1 ≤ m = omega (arith, less) in
    let e : (n + 1) * 2 ^ bin ≤ m * 2 ^ bin = mul-le-mul_right (2 ^ bin) most in
    omega (arith, e)

-- the evolves of the higher bins end later
pub ends_before : (bin top u : ℕ) → bin ≤ top → end_of_bin bin u ≤ end_of_bin top u
ends_before bin top u h =
    let n : ℕ = u / 2 ^ top in
    let e : top - bin + bin ≡ top = omega (arith, h) in
    let w : 2 ^ top ≡ 2 ^ (top - bin) * 2 ^ bin = ap (λ k. 2 ^ k) (sym e) ∙ pow-add 2 (top - bin) bin in
    let m : (n + 1) * 2 ^ top ≡ (n + 1) * 2 ^ (top - bin) * 2 ^ bin = ap (λ k. (n + 1) * k) w ∙ sym (mul_assoc (n + 1) (2 ^ (top - bin)) (2 ^ bin)) in
    let last : u < end_of_bin top u = before_end top u in
    let inner : u < (n + 1) * 2 ^ (top - bin) * 2 ^ bin = omega (arith, last, m) in
    omega (arith, ends_by bin ((n + 1) * 2 ^ (top - bin)) u inner, m)

-- the widths of an evolve in halves
halves : (bin n : ℕ) → 1 ≤ bin → n * 2 ^ bin ≡ 2 * n * 2 ^ (bin - 1)
halves bin n some = let f = ap (λ y. n * y) (twice bin some) in omega (arith, f)

-- a resting point is the middle of the evolve of its own bin alone
pub not_middle : (bin u : ℕ) → 1 ≤ bin → bin ≤ 64 → bin ≢ low_zeros u + 1 → u ≢ middle_of bin u
not_middle bin u some few other e =
    let n : ℕ = u / 2 ^ bin in
    let f = halves bin n some in
    let at : u ≡ (2 * n + 1) * 2 ^ (bin - 1) = omega (arith, e, f) in
    let low : low_zeros u ≡ bin - 1 = ap low_zeros at ∙ low_of 64 (bin - 1) n (omega (arith, some, few)) in
    other (omega (arith, low, some))

-- before the middle of an evolve the finer one ends at most there
pub ends_at_middle : (bin u : ℕ) → 1 ≤ bin → u < middle_of bin u → end_of_bin (bin - 1) u ≤ middle_of bin u
ends_at_middle bin u some h =
    let n : ℕ = u / 2 ^ bin in
    let f = halves bin n some in
    let inner : u < (2 * n + 1) * 2 ^ (bin - 1) = omega (arith, h, f) in
    omega (arith, ends_by (bin - 1) (2 * n + 1) u inner, f)

-- ---- from where a round counts

pub from_start : (u bin : ℕ) → IsFrom u bin 0
from_start u bin = record { own = λ o. omega arith; later = λ h. omega (arith, h); end = omega arith }

pub record CameTo (u bin : ℕ) : Type 0 where
  pub from : ℕ
  pub after : u ≤ from
  pub close : rounds_end u (bin - 1) ≤ from + 1
  pub before : rounds_end u (bin - 1) ≤ end_of_bin bin u
  pub is : IsFrom u bin from

came : (u bin : ℕ) (t : Bool) → (bin - 1 == low_zeros u) ≡ t → low_zeros u < bin → CameTo u bin
came u bin true e above =
    let at : rounds_end u (bin - 1) ≡ u = ap (λ b. cond b u (end_of_bin (bin - 1) u)) e in
    let last = before_end bin u in
    record {
      from = u;
      after = omega arith;
      close = omega (arith, at);
      before = omega (arith, at, last);
      is = record { own = λ o. omega arith; later = λ h. h; end = omega (arith, last) };
    }
came u bin false e above =
    let at : rounds_end u (bin - 1) ≡ end_of_bin (bin - 1) u = ap (λ b. cond b u (end_of_bin (bin - 1) u)) e in
    let last = before_end (bin - 1) u in
    let whole : end_of_bin (bin - 1) u ≤ end_of_bin bin u = ends_before (bin - 1) bin u (omega arith) in
    let some : 1 ≤ bin = omega (arith, above) in
    record {
      from = end_of_bin (bin - 1) u - 1;
      after = omega (arith, last);
      close = omega (arith, at, last);
      before = omega (arith, at, whole);
      is = record {
        own = λ o. let other : (bin - 1 == low_zeros u) ≡ true = eq-eqb (bin - 1) (low_zeros u) (omega (arith, o)) in absurd (cc);
        later = λ h. omega (arith, ends_at_middle bin u some h, last, h);
        end = omega (arith, whole);
      };
    }

pub came_to : (u bin : ℕ) → low_zeros u < bin → CameTo u bin
came_to u bin above = came u bin (bin - 1 == low_zeros u) refl above

pub end_is : (u bin : ℕ) → low_zeros u < bin → rounds_end u bin ≡ end_of_bin bin u
end_is u bin above = ap (λ b. cond b u (end_of_bin bin u)) (ne_eqb bin (low_zeros u) (omega (arith, above)))

pub end_first : (u bin : ℕ) → bin ≡ low_zeros u → rounds_end u bin ≡ u
end_first u bin e = ap (λ b. cond b u (end_of_bin bin u)) (eq-eqb bin (low_zeros u) e)

-- ---- the unfinished evolves lie within the limits

pub width_most : (bin : ℕ) → bin ≤ 21 → 2 ^ bin ≤ 2 ^ 21
width_most bin h = pow-le-pow_right {n = 2} (omega arith) {i = bin} {j = 21} h

-- the second finer step of a bin
pub timely_finer : (e : Option ExpansionData) (s : SetupData) (bin u kicks : ℕ) → EndsInTime e s u → 2 ≤ bin → bin ≤ s.top_bin → kicks ≤ 2 ^ 30 → IsTimely e (bin - 1) (middle_of bin u) kicks
timely_finer e s bin u kicks t two h k =
    let w = twice bin (omega (arith, two)) in
    let last = ends_before bin s.top_bin u h in
    let top = width_most s.top_bin (omega (arith, t.short)) in
    let n = width_most (bin - 1 + 1) (omega (arith, t.short, h)) in
    let end : middle_of bin u + 2 ^ (bin - 1) ≡ end_of_bin bin u = omega (arith, w) in
    record {
      some = omega (arith, two);
      short = omega (arith, t.short, h);
      early = omega (arith, t.early, end, last, top);
      spans = spans_before e (middle_of bin u + 2 ^ (bin - 1)) (end_of_bin s.top_bin u) (omega (arith, end, last)) t.spans;
      room = omega (arith, k, n);
    }

-- the evolve of a bin
pub timely_whole : (e : Option ExpansionData) (s : SetupData) (bin u : ℕ) → EndsInTime e s u → 1 ≤ bin → bin ≤ s.top_bin → IsTimely e bin (began bin u) 0
timely_whole e s bin u t some h =
    let last = ends_before bin s.top_bin u h in
    let top = width_most s.top_bin (omega (arith, t.short)) in
    let n = width_most (bin + 1) (omega (arith, t.short, h)) in
    record {
      some = some;
      short = omega (arith, t.short, h);
      early = omega (arith, t.early, last, top);
      spans = spans_before e (end_of_bin bin u) (end_of_bin s.top_bin u) last t.spans;
      room = omega (arith, n);
    }

-- the tick itself is early
pub early_tick : (e : Option ExpansionData) (s : SetupData) (u : ℕ) → EndsInTime e s u → u ≤ 2 ^ 42
early_tick e s u t = let last = before_end s.top_bin u in let top = width_most s.top_bin (omega (arith, t.short)) in omega (arith, last, t.early, top)
