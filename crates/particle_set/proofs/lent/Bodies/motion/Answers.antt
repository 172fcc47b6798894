use Rattle.std.proofs.Common.{◌≡◌, get_or, ap, refl, ◌∙◌}
use Rattle.std.proofs.lemmas.List.{get_or_default}
use Rattle.std.specs.Vec.{with_item}
use Rattle.particle_set.specs.Motions.{with_motion}
use Rattle.particle_set.proofs.MotionLemmas.{moved_at-body}
use Rattle.particle_set.proofs.lent.Bodies.motion.Goals as goal

pub returns : goal.returns
returns c =
    let old = c.args.self.now.list.items in
    let body = c.index_mut-body.result.now in
    let at : ◌≡◌ body (get_or old c.args.i body) = c.index_mut-body.ensures.value ∙ get_or_default old c.args.i _ _ c.requires in (
      (refl, λ m. ap (λ b. record { list = with_item c.args.self.now.list c.args.i b }) (ap (λ b. with_motion b m) c.body.view_is ∙ moved_at-body old c.args.i m body c.requires at)),
      record { writes = tt; value = λ other. ap (λ b. b.motion) (c.body.view_is ∙ c.index_mut-body.ensures.value ∙ get_or_default old c.args.i _ other c.requires) },
    )
