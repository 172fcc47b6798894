use Rattle.std.proofs.Common.{◌≡◌, ◌≤◌, ℕ, false, refl, ap, ◌∙◌, arith, length, replicate}
use Rattle.rank_curve_laws.specs.Along.{IsDivision}
use Rattle.rank_field.specs.Machines.{all_handed}
use Rattle.rank_field.proofs.Beginning.{begun, handed_own, started}
use Rattle.rank_field.proofs.Handing.{long_handed}
use Rattle.rank_field.proofs.machine.Machine.start.Goals as goal

pub all_ranks-requires : goal.all_ranks-requires
all_ranks-requires c = omega (arith, ap length c.in_ok-lists.ensures, long_handed c.args.bodies.now c.deref.result.now c.ranks.result, c.ranks.ensures.few)

pub returns : goal.returns
returns c =
    let B = c.args.bodies.now in
    let O = c.args.owners.items in
    let bounds = c.args.bounds in
    let division : IsDivision B O bounds = record { some = omega (arith, c.ranks.ensures.value, c.ranks.ensures.some); each = c.requires.each; ranks = c.requires.ranks } in
    let few : length bounds ≤ 256 = omega (arith, c.ranks.ensures.value, c.ranks.ensures.few) in
    let told = c.owners_are_told.ensures B O (length bounds) c.requires.bodies.ascending c.requires.each c.requires.ranks division.some in
    let run = begun B c.args.kit.now O bounds c.keep_limits.ensures.bodies c.requires.bodies c.keep_limits.ensures.kinds c.keeps_limits.ensures.setup c.keeps_limits.ensures.table c.pairs_are_small.ensures c.every_division_is_whole.ensures division few in
    started B c.args.kit.now O bounds c.requires.bodies c.requires.each run _
    (c.in_ok-ranks.ensures _ (handed_own B c.args.kit.now O bounds told c.ranks.result c.in_ok-lists.lists.items c.ranks.ensures.value (c.in_ok-lists.ensures ∙ ap (λ os. all_handed B os c.ranks.result) c.deref.ensures.value)))
    c.in_ok-mail.ensures.0 (c.in_ok-mail.ensures.1 ∙ ap (λ (n : ℕ). replicate n false) (let e : c.len.result ≡ length c.in_ok-ranks.ranks.items = omega (arith, c.len.ensures, c.in_ok-ranks.ranks.ok.0) in e)) refl refl refl refl
