use Rattle.rewind.proofs.Joined.{rewound_is_run}
use Rattle.rewind.proofs.laws.what_is_rewound_is_run.Goals as goal

pub returns : goal.returns
returns c = rewound_is_run
