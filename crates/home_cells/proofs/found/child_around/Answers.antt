use Rattle.std.proofs.Common.{◌∷◌, [], ltb, sym, ◌∙◌}
use Rattle.std.proofs.lemmas.Bool.{cond-true, lt-ltb}
use Rattle.cell_space.specs.Cells.{digit, place}
use Rattle.home_cells.proofs.Bits.{alone}
use Rattle.home_cells.proofs.found.child_around.Goals as goal

pub returns-then-level-lt32 : goal.returns-then-level-lt32
returns-then-level-lt32 c =
    let n = digit (place c.args.pos) c.args.level in
    alone c.digit.result n c.digit.ensures.small c.digit.ensures.value ∙ sym (cond-true (ltb c.args.level 32) (n ∷ []) [] (lt-ltb c.args.level 32 c.if-level-lt32.true))
