use Rattle.std.proofs.Common.{◌≡◌, get_or, ap, sym, ◌∙◌}
use Rattle.std.proofs.lemmas.List.{get_or_default}
use Rattle.cell_space.specs.Cells.{place, same_place}
use Rattle.nbody_model.specs.Bodies.{BodyData}
use Rattle.force_field.specs.Grouped.{gravity_of}
use Rattle.force_field.proofs.Parts.{part-same}
use Rattle.force_field.proofs.totals.part_of.Goals as goal

pub returns-then-same_place : goal.returns-then-same_place
returns-then-same_place c = λ b d.
    let B = c.args.all.now.bodies.now in
    let first : place c.position.result ≡ (get_or B c.args.i b).motion.pos = c.position.ensures ∙ ap (λ (t : BodyData). t.motion.pos) (get_or_default B c.args.i c.index-all-i.result b c.requires.first) in
    let second : place c.position-2.result ≡ (get_or B c.args.j d).motion.pos = c.position-2.ensures ∙ ap (λ (t : BodyData). t.motion.pos) (get_or_default B c.args.j c.index-all-j.result d c.requires.second) in
    part-same (gravity_of c.args.all.now) B (get_or B c.args.i b) (get_or B c.args.j d)
    (ap (λ p. same_place p (get_or B c.args.j d).motion.pos) (sym first) ∙ ap (same_place (place c.position.result)) (sym second) ∙ sym c.same_place.ensures ∙ c.if-same_place.true)
