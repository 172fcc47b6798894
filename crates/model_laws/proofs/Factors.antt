-- The factors of kicks and drifts lie between 0 and the ticks between.
use Rattle.std.proofs.Common.{◌≡◌, ℕ, zero, suc, ◌+◌, ◌-◌, ◌*◌, ◌/◌, ◌%◌, ◌^◌, ◌<◌, ◌≤◌, length, ap, sym, ◌∙◌, arith, ◌⊎◌, inl, inr, Option, Some, None}
use Rattle.std.proofs.lemmas.Nat.{div-add-mod', mod_below, div_below, div-mul-add, pow_pos}
use Rattle.std.proofs.lemmas.Bool.{cases_lt}
use Rattle.nbody_model.specs.Tables.{ExpansionEntry, ExpansionData, expansion_at, Rises, Reaches}
use Rattle.model_laws.specs.Laws.{Spans, AreBounded}
use Rattle.nbody_model.specs.Factors.{factor}

-- a quotient rises by at most one where the number rises by at most the divisor
div_step : (a b w : ℕ) → 0 < w → a ≤ b → b ≤ a + w → (a / w ≤ b / w) × (b / w ≤ a / w + 1)
div_step a b w h k l =
    let ea : a / w * w + a % w ≡ a = div-add-mod' a w in
    let eb : b / w * w + b % w ≡ b = div-add-mod' b w in
    let ra : a % w < w = mod_below a w h in
    let rb : b % w < w = mod_below b w h in
    let x : (b / w + 1) * w ≡ b / w * w + w = omega arith in
    let y : (a / w + 2) * w ≡ a / w * w + w + w = omega arith in
    let u : a / w < b / w + 1 = div_below a w (b / w + 1) h (omega arith) in
    let v : b / w < a / w + 2 = div_below b w (a / w + 2) h (omega arith) in
    (omega arith, omega arith)

abbrev value : (ℕ → ℕ) → ℕ → ℕ → ℕ
value g w t = g (t / w) + (g (t / w + 1) - g (t / w)) * (t % w) / w

-- the same at a tick in parts
value_at : (g : ℕ → ℕ) (w t i v : ℕ) → v < w → t ≡ i * w + v → value g w t ≡ g i + (g (i + 1) - g i) * v / w
value_at g w t i v h e =
    let d : t / w ≡ i = ap (λ n. n / w) e ∙ div-mul-add i w v h in
    let m : t % w ≡ v = omega (arith, div-add-mod' t w, d, ap (λ n. w * n) d) in
    λ j. g (d j) + (g (d j + 1) - g (d j)) * m j / w

part_full : (d w : ℕ) → 0 < w → d * w / w ≡ d
part_full d w h = let e : d * w ≡ d * w + 0 = omega arith in ap (λ n. n / w) e ∙ div-mul-add d w 0 h

value_step-from : (g : ℕ → ℕ) (w t i v : ℕ) → 0 < w → v < w → t ≡ i * w + v → g i ≤ g (i + 1) → g (i + 1) ≤ g i + w → (v + 1 < w) ⊎ (w ≤ v + 1) → (value g w t ≤ value g w (t + 1)) × (value g w (t + 1) ≤ value g w t + 1)
value_step-from g w t i v pos h e up most (inl k) =
    let d : ℕ = g (i + 1) - g i in
    let here : value g w t ≡ g i + d * v / w = value_at g w t i v h e in
    let there : value g w (t + 1) ≡ g i + d * (v + 1) / w = value_at g w (t + 1) i (v + 1) k (omega arith) in
    let s : (d * v / w ≤ d * (v + 1) / w) × (d * (v + 1) / w ≤ d * v / w + 1) = div_step (d * v) (d * (v + 1)) w pos (omega arith) (let x : d ≤ w = omega arith in omega arith) in
    (omega (arith, here, there, s.0), omega (arith, here, there, s.1))
value_step-from g w t i v pos h e up most (inr k) =
    let d : ℕ = g (i + 1) - g i in
    let last : w ≡ v + 1 = omega arith in
    let next : t + 1 ≡ (i + 1) * w + 0 = omega (arith, e, last) in
    let here : value g w t ≡ g i + d * v / w = value_at g w t i v h e in
    let none : (g (i + 1 + 1) - g (i + 1)) * 0 / w ≡ 0 = ap (λ n. n / w) (zero_of (g (i + 1 + 1) - g (i + 1))) ∙ part_full 0 w pos in
    let there : value g w (t + 1) ≡ g (i + 1) + (g (i + 1 + 1) - g (i + 1)) * 0 / w = value_at g w (t + 1) (i + 1) 0 pos next in
    let full : d * (v + 1) / w ≡ d = ap (λ n. d * n / w) (sym last) ∙ part_full d w pos in
    let s : (d * v / w ≤ d * (v + 1) / w) × (d * (v + 1) / w ≤ d * v / w + 1) = div_step (d * v) (d * (v + 1)) w pos (omega arith) (let x : d ≤ w = omega arith in omega arith) in
    (omega (arith, here, there, none, full, s.0), omega (arith, here, there, none, full, s.1))
  where
    zero_of : (n : ℕ) → n * 0 ≡ 0 * w
    zero_of n = omega arith

value_step : (g : ℕ → ℕ) (w t : ℕ) → 0 < w → g (t / w) ≤ g (t / w + 1) → g (t / w + 1) ≤ g (t / w) + w → (value g w t ≤ value g w (t + 1)) × (value g w (t + 1) ≤ value g w t + 1)
value_step g w t pos up most = value_step-from g w t (t / w) (t % w) pos (mod_below t w pos) (omega (arith, div-add-mod' t w)) up most (cases_lt (t % w + 1) w)

value_steps : (g : ℕ → ℕ) (w limit : ℕ) → 0 < w → ((i : ℕ) → i < limit → (g i ≤ g (i + 1)) × (g (i + 1) ≤ g i + w)) → (t n : ℕ) → t + n ≤ limit * w → (value g w t ≤ value g w (t + n)) × (value g w (t + n) ≤ value g w t + n)
value_steps g w limit pos rises t zero h = let e : t + 0 ≡ t = omega arith in let same : value g w (t + 0) ≡ value g w t = ap (value g w) e in (omega arith, omega arith)
value_steps g w limit pos rises t (suc n) h =
    let rest : (value g w t ≤ value g w (t + n)) × (value g w (t + n) ≤ value g w t + n) = value_steps g w limit pos rises t n (omega arith) in
    let i : (t + n) / w < limit = div_below (t + n) w limit pos (omega arith) in
    let r : (g ((t + n) / w) ≤ g ((t + n) / w + 1)) × (g ((t + n) / w + 1) ≤ g ((t + n) / w) + w) = rises ((t + n) / w) i in
    let s : (value g w (t + n) ≤ value g w (t + n + 1)) × (value g w (t + n + 1) ≤ value g w (t + n) + 1) = value_step g w (t + n) pos r.0 r.1 in
    let e : t + n + 1 ≡ t + suc n = omega arith in
    let same : value g w (t + n + 1) ≡ value g w (t + suc n) = ap (value g w) e in
    (omega (arith, rest.0, s.0), omega (arith, rest.1, s.1))

-- a table reaches a tick, where there is one
between_table : (f : ExpansionEntry → ℕ) (e : ExpansionData) → ((i : ℕ) → i + 1 < length e.entries → (f (expansion_at e i) ≤ f (expansion_at e (i + 1))) × (f (expansion_at e (i + 1)) ≤ f (expansion_at e i) + 2 ^ e.s)) →
    (from to : ℕ) → from ≤ to → Reaches e to → (factor f (Some e) from ≤ factor f (Some e) to) × (factor f (Some e) to ≤ factor f (Some e) from + (to - from))
unfolding factor
between_table f e rises from to h reach =
    let b : (value (λ i. f (expansion_at e i)) (2 ^ e.s) from ≤ value (λ i. f (expansion_at e i)) (2 ^ e.s) (from + (to - from))) × (value (λ i. f (expansion_at e i)) (2 ^ e.s) (from + (to - from)) ≤ value (λ i. f (expansion_at e i)) (2 ^ e.s) from + (to - from)) =
    value_steps (λ i. f (expansion_at e i)) (2 ^ e.s) (length e.entries - 1) (pow_pos e.s) (λ i l. rises i (omega arith)) from (to - from) (omega (arith, reach)) in
    let s : from + (to - from) ≡ to = omega arith in
    rw s at b

-- the sums rise, by at most the ticks between
abbrev Rise : (ExpansionEntry → ℕ) → Option ExpansionData → ℕ → ℕ → Type 0
Rise f table from to = (factor f table from ≤ factor f table to) × (factor f table to ≤ factor f table from + (to - from))

bounded_from : (table : Option ExpansionData) (from to : ℕ) → Rise (λ e. e.kick) table from to → Rise (λ e. e.drift) table from to → AreBounded table from to
bounded_from table from to k d = record {
  kick_adds = omega (arith, k.0);
  kick_most = omega (arith, k.1);
  drift_adds = omega (arith, d.0);
  drift_most = omega (arith, d.1);
}

plain_rise : (f : ExpansionEntry → ℕ) (from to : ℕ) → from ≤ to → Rise f None from to
unfolding factor
plain_rise f from to h = (h, omega arith)

pub factors_bounded : (table : Option ExpansionData) (from to : ℕ) → from ≤ to → Spans table to → AreBounded table from to
factors_bounded None from to h s = bounded_from None from to (plain_rise (λ e. e.kick) from to h) (plain_rise (λ e. e.drift) from to h)
factors_bounded (Some e) from to h s =
    bounded_from (Some e) from to
    (between_table (λ e. e.kick) e (λ i l. let r : Rises (2 ^ e.s) (expansion_at e i) (expansion_at e (i + 1)) = s.0.each i l in (r.kick_up, r.kick_most)) from to h s.1)
    (between_table (λ e. e.drift) e (λ i l. let r : Rises (2 ^ e.s) (expansion_at e i) (expansion_at e (i + 1)) = s.0.each i l in (r.drift_up, r.drift_most)) from to h s.1)
