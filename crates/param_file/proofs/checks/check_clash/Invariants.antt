use Rattle.std.proofs.Common.{◌≡◌, ℕ, ◌<◌, false}
use Rattle.param_file.specs.Known.{known_by}
use Rattle.param_file.specs.Reading.{word_of_row}
use Rattle.param_file.specs.Settings.{clash_at}
use Rattle.param_file.proofs.checks.check_clash.Given as goal

abbrev pub invariant-loop-at : goal.invariant-loop-at
invariant-loop-at l = (i j : ℕ) → i < l.at → i < j → j < 9 → clash_at (word_of_row (known_by l.known)) i j ≡ false
