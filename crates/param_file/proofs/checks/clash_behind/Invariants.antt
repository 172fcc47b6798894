use Rattle.std.proofs.Common.{◌≡◌, ℕ, ◌<◌, false}
use Rattle.param_file.specs.Known.{known_by}
use Rattle.param_file.specs.Reading.{word_of_row}
use Rattle.param_file.specs.Settings.{clash_at}
use Rattle.param_file.proofs.checks.clash_behind.Given as goal

abbrev pub invariant-loop-other : goal.invariant-loop-other
invariant-loop-other l = (k : ℕ) → l.at < k → k < l.other → clash_at (word_of_row (known_by l.known)) l.at k ≡ false
