-- The shares add up.
use Rattle.std.proofs.Common.{◌≡◌, ◌<◌, ℤ, List, map, sum_by, sym, ◌∙◌}
use Rattle.std.specs.List.Sorted.{IsStrictlyIncreasing}
use Rattle.fixed_point.specs.Vectors.{int_sum_by}
use Rattle.nbody_model.specs.Force.{share}
use Rattle.model_laws.proofs.Shares.{shares, ascending-from}
use Rattle.model_laws.proofs.Signed.{total-mapped}
use Rattle.model_laws.proofs.Still.{map-mapped}
use Rattle.model_laws.proofs.Centres.{int_sum-total}
use Rattle.force_sharing.specs.Sharing.{Member, body_of, shares_of}
use Rattle.force_sharing.proofs.Shared.{sum_mapped}

pub adds_up : (ms : List Member) (N : ℤ) → IsStrictlyIncreasing (map (λ m. m.0) ms) → 0 < sum_by (λ m. m.1) ms → int_sum_by (λ n. n) (shares_of ms N) ≡ N
adds_up ms N up some =
    int_sum-total (λ n. n) (shares_of ms N)
    ∙ total-mapped (λ n. n) (λ m. share (map body_of ms) N (body_of m)) ms
    ∙ sym (total-mapped (share (map body_of ms) N) body_of ms)
    ∙ shares (map body_of ms) N (rw (sum_mapped (λ b. b.mass) ms) some) (ascending-from (map body_of ms) (rw (map-mapped (λ b. b.id) body_of ms) up))
