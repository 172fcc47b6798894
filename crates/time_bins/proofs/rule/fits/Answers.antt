use Rattle.std.proofs.Common.{◌*◌, ◌^◌, ◌∙◌, ap, nat_le}
use Rattle.nbody_model.specs.Steps.{size}
use Rattle.time_bins.proofs.Products.{cut_test}
use Rattle.time_bins.proofs.rule.fits.Goals as goal

pub returns : goal.returns
returns c =
    let test = cut_test (size c.args.force.now) c.allowance_of.result c.args.bin c.allowance_of.ensures.high in
    c.within.ensures
    ∙ ap (λ n. nat_le (n * 4 ^ c.args.bin) c.allowance_of.result) c.size_of.ensures
    ∙ test
    ∙ ap (λ w. nat_le (size c.args.force.now * 4 ^ c.args.bin) w) c.allowance_of.ensures.value
