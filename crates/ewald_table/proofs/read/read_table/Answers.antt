use Rattle.ewald_table.proofs.Sound.{sound_parts}
use Rattle.ewald_table.proofs.read.read_table.Goals as goal

pub invariant_of-result : goal.invariant_of-result
invariant_of-result c =
    sound_parts c.args.bytes.now c.in_ok-g.g c.in_ok-entries.entries.items c.in_ok-g.ensures.ok.1 c.in_ok-entries.ensures.ok c.in_ok-g.ensures.fine c.in_ok-entries.ensures.sound
