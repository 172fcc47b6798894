use Rattle.std.proofs.Common.{get_or, ap, sym, ◌∙◌, arith}
use Rattle.force_field.specs.Grouped.{gravity_of}
use Rattle.force_field.specs.declared.nodes.Node.{Node}
use Rattle.force_field.proofs.At.{nobody}
use Rattle.force_field.proofs.CoverLevels.{node-read}
use Rattle.force_field.proofs.Parts.{part-later, part-first, may-act}
use Rattle.force_field.proofs.totals.part_apart.Goals as goal

pub returns-then-not-other : goal.returns-then-not-other
returns-then-not-other c = λ b d.
    let s = c.args.all.now.setup.now in
    let B = c.args.all.now.bodies.now in
    let second = (c.around-2.ensures.nodes s B d c.requires.nodes).each c.cover_levels-level.result.1 (omega (arith, c.cover_levels-level.ensures.second)) c.index-around-other_level.result in
    part-later (gravity_of c.args.all.now) B (get_or B c.args.i b) (get_or B c.args.j d) c.cover_levels-level.result.0 c.cover_levels-level.result.1 (c.cover_levels-level.ensures.cover b d)
    (sym second.first_is ∙ ap (λ (n : Node). n.first) (sym c.index-around-other_level.is) ∙ c.if-not-other.true)

pub force_on-requires : goal.force_on-requires
force_on-requires c =
    let s = c.args.all.now.setup.now in
    let B = c.args.all.now.bodies.now in
    let k = c.cover_levels-level.result.0 in
    let l = c.cover_levels-level.result.1 in
    let n = c.index-around-level.result in
    let m = c.index-around-other_level.result in
    let first = node-read s B (get_or B c.args.i nobody) c.around.result.now k n c.index-around-level.is ((c.around.ensures.nodes s B nobody c.requires.nodes).each k (omega (arith, c.cover_levels-level.ensures.first)) n) in
    let second = node-read s B (get_or B c.args.j nobody) c.around-2.result.now l m c.index-around-other_level.is ((c.around-2.ensures.nodes s B nobody c.requires.nodes).each l (omega (arith, c.cover_levels-level.ensures.second)) m) in
    may-act s B c.args.i c.args.j nobody nobody k l n m c.requires.bodies c.requires.first c.requires.second (c.requires.apart nobody nobody) (c.cover_levels-level.ensures.cover nobody nobody) first second

pub returns : goal.returns
returns c = λ b d.
    let s = c.args.all.now.setup.now in
    let B = c.args.all.now.bodies.now in
    let k = c.cover_levels-level.result.0 in
    let l = c.cover_levels-level.result.1 in
    let n = c.index-around-level.result in
    let m = c.index-around-other_level.result in
    let first = node-read s B (get_or B c.args.i b) c.around.result.now k n c.index-around-level.is ((c.around.ensures.nodes s B b c.requires.nodes).each k (omega (arith, c.cover_levels-level.ensures.first)) n) in
    let second = node-read s B (get_or B c.args.j d) c.around-2.result.now l m c.index-around-other_level.is ((c.around-2.ensures.nodes s B d c.requires.nodes).each l (omega (arith, c.cover_levels-level.ensures.second)) m) in
    part-first (gravity_of c.args.all.now) B (get_or B c.args.i b) (get_or B c.args.j d) k l n m c.force_on.result c.counts.result (c.requires.apart b d) (c.cover_levels-level.ensures.cover b d)
    c.cover_levels-level.ensures.first first second c.if-not-other.false c.force_on.ensures.small c.force_on.ensures.value c.counts.ensures
