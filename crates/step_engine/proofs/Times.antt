-- The ticks of a step and of its finer steps.
use Rattle.std.specs.Prelude.{IfSome}
use Rattle.std.proofs.Common.{◌≡◌, ◌≤◌, ℕ, ◌+◌, ◌-◌, ◌^◌, Option, Some, None, arith, subst, ap, sym, ◌∙◌}
use Rattle.std.proofs.lemmas.Nat.{pow_pos, pow-add}
use Rattle.std.proofs.Math.Nat.{pow-le-pow_right}
use Rattle.nbody_model.specs.Tables.{ExpansionData, Reaches}
use Rattle.step_engine.specs.Stands.{IsTimely}

pub spans_before : (e : Option ExpansionData) (t u : ℕ) → t ≤ u → IfSome e (λ x. Reaches x u) → IfSome e (λ x. Reaches x t)
spans_before None t u h s = tt
spans_before (Some e) t u h s = omega (arith, h, s)

-- a power of two is twice the one before
pub twice : (bin : ℕ) → 1 ≤ bin → 2 ^ bin ≡ 2 ^ (bin - 1) + 2 ^ (bin - 1)
twice bin h = let e : bin - 1 + 1 ≡ bin = omega arith in omega (arith, ap (λ n. 2 ^ n) e, pow-add 2 (bin - 1) 1)

pub half_most : (bin : ℕ) → bin ≤ 20 → 2 ^ (bin - 1) ≤ 2 ^ 19
half_most bin h = pow-le-pow_right {n = 2} (omega arith) {i = bin - 1} {j = 19} (omega arith)

pub whole_most : (bin : ℕ) → bin ≤ 20 → 2 ^ bin ≤ 2 ^ 20
whole_most bin h = pow-le-pow_right {n = 2} (omega arith) {i = bin} {j = 20} h

-- ---- the finer steps

-- the first of them lies within the limits
pub timely_first : (e : Option ExpansionData) (bin tick kicks : ℕ) → IsTimely e bin tick 0 → 2 ≤ bin → kicks + 2 ^ (bin + 1) ≤ 2 ^ 40 + 1 → IsTimely e (bin - 1) tick kicks
timely_first e bin tick kicks t two room =
    let w = twice bin t.some in
    let n : bin - 1 + 1 ≡ bin = omega arith in
    let same : 2 ^ (bin - 1 + 1) ≡ 2 ^ bin = ap (λ k. 2 ^ k) n in
    let m : bin + 1 - 1 ≡ bin = omega arith in
    let next : 2 ^ (bin + 1) ≡ 2 ^ bin + 2 ^ bin = twice (bin + 1) (omega arith) ∙ ap (λ k. 2 ^ k + 2 ^ k) m in
    let pos : 1 ≤ 2 ^ (bin - 1) = pow_pos (bin - 1) in
    record {
      some = omega arith;
      short = omega (arith, t.short);
      early = omega (arith, t.early, w);
      spans = spans_before e (tick + 2 ^ (bin - 1)) (tick + 2 ^ bin) (omega (arith, w)) t.spans;
      room = omega (arith, same, next, room, w, pos);
    }

-- and so does the second one
pub timely_second : (e : Option ExpansionData) (bin tick middle kicks later : ℕ) → IsTimely e bin tick 0 → 2 ≤ bin → middle ≡ tick + 2 ^ (bin - 1) → kicks + 2 ^ (bin + 1) ≤ 2 ^ 40 + 1 → later ≤ kicks + (2 ^ (bin - 1 + 1) - 2) → IsTimely e (bin - 1) middle later
timely_second e bin tick middle kicks later t two at room few =
    let w = twice bin t.some in
    let n : bin - 1 + 1 ≡ bin = omega arith in
    let same : 2 ^ (bin - 1 + 1) ≡ 2 ^ bin = ap (λ k. 2 ^ k) n in
    let m : bin + 1 - 1 ≡ bin = omega arith in
    let next : 2 ^ (bin + 1) ≡ 2 ^ bin + 2 ^ bin = twice (bin + 1) (omega arith) ∙ ap (λ k. 2 ^ k + 2 ^ k) m in
    let pos : 1 ≤ 2 ^ (bin - 1) = pow_pos (bin - 1) in
    let end : middle + 2 ^ (bin - 1) ≡ tick + 2 ^ bin = omega (arith, at, w) in
    record {
      some = omega arith;
      short = omega (arith, t.short);
      early = omega (arith, t.early, end);
      spans = subst (λ u. IfSome e (λ x. Reaches x u)) (sym end) t.spans;
      room = omega (arith, same, next, room, w, pos, few);
    }

-- after the first kick and the finer steps there is room for the last kick
pub room_after : (bin before kicked later : ℕ) → 1 ≤ bin → before + 2 ^ (bin + 1) ≤ 2 ^ 40 → kicked ≤ before + 1 → later ≤ kicked + (2 ^ (bin + 1) - 4) → later ≤ 2 ^ 40
room_after bin before kicked later some room one two =
    let m : bin + 1 - 1 ≡ bin = omega arith in
    let next : 2 ^ (bin + 1) ≡ 2 ^ bin + 2 ^ bin = twice (bin + 1) (omega arith) ∙ ap (λ k. 2 ^ k + 2 ^ k) m in
    let pos : 1 ≤ 2 ^ (bin - 1) = pow_pos (bin - 1) in
    omega (arith, next, twice bin some, pos, room, one, two)
