-- Settings in range give a setup in range.
use Rattle.std.proofs.Common.{ℕ, suc, zero, ◌<◌, [], ◌∷◌, refl, arith}
use Rattle.std.specs.Prelude.{slice_index}
use Rattle.nbody_model.specs.Setups.{IsSoftening, AreSoftenings}

pub softenings : (a b c d e : ℕ) → IsSoftening a → IsSoftening b → IsSoftening c → IsSoftening d → IsSoftening e
    → AreSoftenings (256 ∷ a ∷ b ∷ c ∷ d ∷ e ∷ [])
softenings a b c d e ia ib ic id ie = record { six = refl; unused = refl; each = each }
  where
    each : (k : ℕ) → k < 6 → IsSoftening (slice_index (256 ∷ a ∷ b ∷ c ∷ d ∷ e ∷ []) k)
    each zero h = record { low = omega arith; high = omega arith }
    each (suc zero) h = ia
    each (suc (suc zero)) h = ib
    each (suc (suc (suc zero))) h = ic
    each (suc (suc (suc (suc zero)))) h = id
    each (suc (suc (suc (suc (suc zero))))) h = ie
    each (suc (suc (suc (suc (suc (suc k)))))) h = absurd (omega (arith, h))
