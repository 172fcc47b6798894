-- Bytes that are no table have one first fault.
use Rattle.std.proofs.Common.{◌≡◌, ℕ, List, Some, refl, sym, ◌∙◌}
use Rattle.std.specs.Prelude.{◌≢◌}
use Rattle.ewald_table.specs.declared.errors.TableErr.{TableErr}
use Rattle.ewald_table.specs.declared.errors.TableErr.TheVariants.{Tag, GridRange, Length, PlaneNotZero, Memory}
use Rattle.ewald_table.specs.TableFile.{Spell, IsFirstFault, first_fault}
use Rattle.expansion_table.specs.declared.errors.ExpErr.{ExpErr}
use Rattle.expansion_table.specs.declared.errors.ExpErr.TheVariants.{Tag as ExpTag, Length as ExpLength, Spacing, Entry, Short, Memory as ExpMemory}
use Rattle.expansion_table.specs.ExpansionFile.{Spell as SpellFactors, IsFirstFault as IsFactorsFault, first_fault as factors_fault}
use Rattle.gadget.proofs.Exact.{IsExact, check_exact}

-- ---- corrections

-- the bytes aren't a table, by this error, which isn't want of memory
pub record IsNoTable (bytes : List ℕ) (e : TableErr) : Type 0 where
  pub plain : e ≢ Memory
  pub fault : IsFirstFault bytes e

is_fault : (bytes : List ℕ) (e : TableErr) → e ≢ Memory → IsFirstFault bytes e → first_fault bytes ≡ Some e
is_fault bytes Tag p f = f
is_fault bytes (GridRange g) p f = f
is_fault bytes (Length want got) p f = f
is_fault bytes (PlaneNotZero index) p f = f
is_fault bytes Memory p f = absurd (p refl)

pub table_exact : (bytes : List ℕ) → IsExact (IsNoTable bytes) (Spell bytes)
table_exact bytes = record {
  one_refusal = λ a b p q. (check_exact (first_fault bytes)).one_refusal a b (is_fault bytes a p.plain p.fault) (is_fault bytes b q.plain q.fault);
  one_value = λ t u p q. p.is ∙ sym q.is;
  apart = λ a t p h. (check_exact (first_fault bytes)).apart a tt (is_fault bytes a p.plain p.fault) h.faultless;
}

-- ---- factors

pub record IsNoFactors (bytes : List ℕ) (last : ℕ) (e : ExpErr) : Type 0 where
  pub plain : e ≢ ExpMemory
  pub fault : IsFactorsFault bytes last e

is_factors_fault : (bytes : List ℕ) (last : ℕ) (e : ExpErr) → e ≢ ExpMemory → IsFactorsFault bytes last e → factors_fault bytes last ≡ Some e
is_factors_fault bytes last ExpTag p f = f
is_factors_fault bytes last (ExpLength want got) p f = f
is_factors_fault bytes last (Spacing s) p f = f
is_factors_fault bytes last (Entry index) p f = f
is_factors_fault bytes last (Short want got) p f = f
is_factors_fault bytes last ExpMemory p f = absurd (p refl)

pub factors_exact : (bytes : List ℕ) (last : ℕ) → IsExact (IsNoFactors bytes last) (SpellFactors bytes last)
factors_exact bytes last = record {
  one_refusal = λ a b p q. (check_exact (factors_fault bytes last)).one_refusal a b (is_factors_fault bytes last a p.plain p.fault) (is_factors_fault bytes last b q.plain q.fault);
  one_value = λ t u p q. p.is ∙ sym q.is;
  apart = λ a t p h. (check_exact (factors_fault bytes last)).apart a tt (is_factors_fault bytes last a p.plain p.fault) h.faultless;
}
