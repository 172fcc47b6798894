use Rattle.rank_field.proofs.tests.machines.run.Goals as goal

pub gather-requires : goal.gather-requires
gather-requires g c =
    let start = c.in_ok-machine.ensures in
    let played = c.in_ok-events.ensures.played start.0 start.1.0 start.1.1 in
    (start.0, (played.last, played.finished))
