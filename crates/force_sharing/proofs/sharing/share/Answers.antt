use Rattle.std.proofs.Common.{rules, arith, ap, ◌∙◌, FitsSigned, ℤ, map}
use Rattle.std.specs.Int.{w128}
use Rattle.std.proofs.lemmas.Int.{to_z-of_z}
use Rattle.fixed_point.specs.Vectors.{int_sum_by}
use Rattle.force_sharing.specs.Turns.{share_by}
use Rattle.force_sharing.proofs.Shared.{all_shared}
use Rattle.force_sharing.proofs.Sizes.{some_mass}
use Rattle.force_sharing.proofs.Sum.{adds_up}
use Rattle.force_sharing.proofs.sharing.share.Goals as goal

pub returns-clause-shares : goal.returns-clause-shares
returns-clause-shares c =
    let total_fits = c.ranges.total in
    let q_fits : FitsSigned w128 c.divided-quotient.result.0 = search rules in
    let quotient = simp to_z-of_z at c.divided-quotient.ensures.quotient in
    let rest = simp to_z-of_z at c.divided-quotient.ensures.rest in
    let m = c.args.members.now in
    let some = some_mass m c.requires.members.some c.requires.members.heavy in
    c.write_shares.ensures
    ∙ ap (λ (q : ℤ). map (share_by q c.divided-quotient.result.1 c.mass_of-mass.result c.last_served-last.result) m) (to_z-of_z w128 c.divided-quotient.result.0 q_fits)
    ∙ all_shared m c.args.total c.mass_of-mass.result c.divided-quotient.result.1 c.divided-quotient.result.0 c.last_served-last.result c.left_of-left.result c.write_turns.new.turns
    c.mass_of-mass.ensures quotient rest (omega (arith, some, c.mass_of-mass.ensures)) c.write_turns.ensures.ids c.left_of-left.ensures.value c.write_turns.ensures.turns c.last_served-last.ensures.cut

pub returns-clause-sum : goal.returns-clause-sum
returns-clause-sum c =
    let m = c.args.members.now in
    ap (λ ns. int_sum_by (λ (n : ℤ). n) ns) (returns-clause-shares c)
    ∙ adds_up m c.args.total c.requires.members.ascending (some_mass m c.requires.members.some c.requires.members.heavy)
