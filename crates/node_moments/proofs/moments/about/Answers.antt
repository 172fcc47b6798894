use Rattle.node_moments.proofs.Products.{settled, more_small, less_small}
use Rattle.std.proofs.Common.{◌+◌, ◌*◌}
use Rattle.node_moments.proofs.moments.about.Goals as goal

pub returns : goal.returns
returns c =
    let a = c.args in
    let r = c.requires in
    settled (a.second + a.mass * (a.d * a.e)) (a.d * a.first_e + a.e * a.first_d)
    (more_small a.second a.mass a.d a.e r.second r.light r.near_d r.near_e)
    (less_small a.d a.e a.first_d a.first_e r.near_d r.near_e r.first_d r.first_e)
