-- The first of some faults, and what a group without a fault is.
use Rattle.std.proofs.Common.{◌≡◌, ◌⊎◌, ℕ, zero, suc, ◌+◌, ◌-◌, ◌*◌, ◌<◌, ◌≤◌, ◌==◌, List, length, Bool, true, false, Option, Some, None, refl, sym, ap, subst, ◌∙◌, inl, inr, arith}
use Rattle.std.specs.Prelude.{nat_lt}
use Rattle.std.specs.Option.{option_or}
use Rattle.std.proofs.lemmas.Bool.{cases_lt}
use Rattle.std.proofs.lemmas.Bool.Decides.{nat_tests}
use Rattle.group_file.specs.declared.errors.GroupErr.{GroupErr}
use Rattle.group_file.specs.GroupFile.{first_of, group_fault, id_fault, number_at}

pub first_more : (f : ℕ → Option GroupErr) (n : ℕ) → first_of f n ≡ None → f n ≡ None → first_of f (n + 1) ≡ None
first_more f n h e = let up : n + 1 ≡ suc n = omega arith in ap (first_of f) up ∙ ap (λ o. option_or o (f n)) h ∙ e

pub first_here : (f : ℕ → Option GroupErr) (k n : ℕ) (e : GroupErr) → k < n → first_of f k ≡ None → f k ≡ Some e → first_of f n ≡ Some e
first_here f k zero e l h s = absurd (omega (arith, l))
first_here f k (suc n) e l h s = elim (cases_lt k n) as (λ _. first_of f (suc n) ≡ Some e) [
  | inl below ↦ ap (λ o. option_or o (f n)) (first_here f k n e below h s)
  | inr above ↦ (let same : k ≡ n = omega (arith, l, above) in ap (λ o. option_or o (f n)) (ap (first_of f) (sym same) ∙ h) ∙ ap f (sym same) ∙ s)
]

or_first : (a b : Option GroupErr) → option_or a b ≡ None → a ≡ None
or_first None b h = refl
or_first (Some e) b h = h

or_second : (a b : Option GroupErr) → option_or a b ≡ None → b ≡ None
or_second None b h = h
or_second (Some e) b h = absurd (none_some e h)
  where
    none_some : (e : GroupErr) → Some e ≡ None → ⊥
    none_some e h = cc

pub both_none : (a b : Option GroupErr) → option_or a b ≡ None → (a ≡ None) × (b ≡ None)
both_none a b h = (or_first a b h, or_second a b h)

pub each_none : (f : ℕ → Option GroupErr) (n : ℕ) → first_of f n ≡ None → (k : ℕ) → k < n → f k ≡ None
each_none f zero h k l = absurd (omega (arith, l))
each_none f (suc n) h k l = elim (cases_lt k n) as (λ _. f k ≡ None) [
  | inl below ↦ each_none f n (both_none (first_of f n) (f n) h).0 k below
  | inr above ↦ (let same : k ≡ n = omega (arith, l, above) in ap f same ∙ (both_none (first_of f n) (f n) h).1)
]
