-- Rows are refused in one way at most.
use Rattle.std.proofs.Common.{◌≡◌, ℕ, ◌≤◌, List, All, sym, ap, subst, ◌∙◌, arith}
use Rattle.particle_set.specs.declared.row.Row.{Row}
use Rattle.particle_set.specs.declared.row.SetErr.{SetErr}
use Rattle.particle_set.specs.declared.row.SetErr.TheVariants.{TooMany, Repeated, ZeroMass, MassTotal, MomRange, Memory}
use Rattle.particle_set.specs.Rows.{IsSetOf, IsFirstRefusal, IsRefusalByMemory, IsLeastId, IsRepeated, IsAlone, IsMassless, HasMass}
use Rattle.particle_set.proofs.OneSet.{no_refusal, one_set}
use Rattle.gadget.proofs.Exact.{IsExact}

least : (P : Row → Type 0) (rows : List Row) (i j : ℕ) → IsLeastId P rows i → IsLeastId P rows j → i ≤ j
least P rows i j h k =
    let a = k.among in
    let below : P a.1 → i ≤ a.1.id = subst (λ r. P r → i ≤ r.id) a.3 (h.least a.0 a.1 a.2) in
    subst (λ n. i ≤ n) a.4.1 (below a.4.0)

one_least : (P : Row → Type 0) (rows : List Row) (i j : ℕ) → IsLeastId P rows i → IsLeastId P rows j → i ≡ j
one_least P rows i j h k = let l : i ≤ j = least P rows i j h k in let m : j ≤ i = least P rows j i k h in omega arith

alone : (rows : List Row) (id : ℕ) → IsLeastId (IsRepeated rows) rows id → All (IsAlone rows) rows → ⊥
alone rows id h k =
    let a = h.among in
    let one : IsAlone rows a.1 = subst (IsAlone rows) a.3 (k a.0 a.1 a.2) in
    omega (arith, one.once, a.4.0.twice)

massive : (rows : List Row) (id : ℕ) → IsLeastId IsMassless rows id → All HasMass rows → ⊥
massive rows id h k =
    let a = h.among in
    let m : HasMass a.1 = subst HasMass a.3 (k a.0 a.1 a.2) in
    omega (arith, m.low, a.4.0.zero_mass)

-- a refusal that isn't want of memory
pub record IsRefused (rows : List Row) (e : SetErr) : Type 0 where
  pub plain : IsRefusalByMemory e → ⊥
  pub first : IsFirstRefusal rows e

one_first : (rows : List Row) (e f : SetErr) → (IsRefusalByMemory e → ⊥) → (IsRefusalByMemory f → ⊥) → IsFirstRefusal rows e → IsFirstRefusal rows f → e ≡ f
one_first rows (TooMany na) (TooMany nb) p q h k = ap TooMany (h.0 ∙ sym k.0)
one_first rows (TooMany na) (Repeated ib) p q h k = absurd (omega (arith, h.0, h.1, k.0))
one_first rows (TooMany na) (ZeroMass ib) p q h k = absurd (omega (arith, h.0, h.1, k.0))
one_first rows (TooMany na) (MassTotal sb) p q h k = absurd (omega (arith, h.0, h.1, k.0))
one_first rows (TooMany na) (MomRange ib) p q h k = absurd (omega (arith, h.0, h.1, k.0))
one_first rows (TooMany na) Memory p q h k = absurd (q tt)
one_first rows (Repeated ia) (TooMany nb) p q h k = absurd (omega (arith, k.0, k.1, h.0))
one_first rows (Repeated ia) (Repeated ib) p q h k = ap Repeated (one_least (IsRepeated rows) rows ia ib h.1 k.1)
one_first rows (Repeated ia) (ZeroMass ib) p q h k = absurd (alone rows ia h.1 k.1)
one_first rows (Repeated ia) (MassTotal sb) p q h k = absurd (alone rows ia h.1 k.1)
one_first rows (Repeated ia) (MomRange ib) p q h k = absurd (alone rows ia h.1 k.1)
one_first rows (Repeated ia) Memory p q h k = absurd (q tt)
one_first rows (ZeroMass ia) (TooMany nb) p q h k = absurd (omega (arith, k.0, k.1, h.0))
one_first rows (ZeroMass ia) (Repeated ib) p q h k = absurd (alone rows ib k.1 h.1)
one_first rows (ZeroMass ia) (ZeroMass ib) p q h k = ap ZeroMass (one_least IsMassless rows ia ib h.2 k.2)
one_first rows (ZeroMass ia) (MassTotal sb) p q h k = absurd (massive rows ia h.2 k.2)
one_first rows (ZeroMass ia) (MomRange ib) p q h k = absurd (massive rows ia h.2 k.2)
one_first rows (ZeroMass ia) Memory p q h k = absurd (q tt)
one_first rows (MassTotal sa) (TooMany nb) p q h k = absurd (omega (arith, k.0, k.1, h.0))
one_first rows (MassTotal sa) (Repeated ib) p q h k = absurd (alone rows ib k.1 h.1)
one_first rows (MassTotal sa) (ZeroMass ib) p q h k = absurd (massive rows ib k.2 h.2)
one_first rows (MassTotal sa) (MassTotal sb) p q h k = ap MassTotal (h.3 ∙ sym k.3)
one_first rows (MassTotal sa) (MomRange ib) p q h k = absurd (omega (arith, h.3, h.4, k.3))
one_first rows (MassTotal sa) Memory p q h k = absurd (q tt)
one_first rows (MomRange ia) (TooMany nb) p q h k = absurd (omega (arith, k.0, k.1, h.0))
one_first rows (MomRange ia) (Repeated ib) p q h k = absurd (alone rows ib k.1 h.1)
one_first rows (MomRange ia) (ZeroMass ib) p q h k = absurd (massive rows ib k.2 h.2)
one_first rows (MomRange ia) (MassTotal sb) p q h k = absurd (omega (arith, k.3, k.4, h.3))
one_first rows (MomRange ia) (MomRange ib) p q h k = ap MomRange (one_least _ rows ia ib h.4 k.4)
one_first rows (MomRange ia) Memory p q h k = absurd (q tt)
one_first rows Memory (TooMany nb) p q h k = absurd (p tt)
one_first rows Memory (Repeated ib) p q h k = absurd (p tt)
one_first rows Memory (ZeroMass ib) p q h k = absurd (p tt)
one_first rows Memory (MassTotal sb) p q h k = absurd (p tt)
one_first rows Memory (MomRange ib) p q h k = absurd (p tt)
one_first rows Memory Memory p q h k = absurd (p tt)

-- rows are one set at most, or are refused in one way
pub rows_exact : (rows : List Row) → IsExact (IsRefused rows) (IsSetOf rows)
rows_exact rows = record {
  one_refusal = λ e f p q. one_first rows e f p.plain q.plain p.first q.first;
  one_value = one_set rows;
  apart = λ e B p h. p.plain (no_refusal rows B e h p.first);
}
