use Rattle.std.proofs.Common.{◌≡◌, ◌++◌, take, decimal}
use Rattle.std.specs.List.{flat_map}
use Rattle.text_words.specs.Spaced.{spaced}
use Rattle.run_session.proofs.lines.push_all.Given as goal

abbrev pub invariant-loop-number : goal.invariant-loop-number
invariant-loop-number l = l.line.items ≡ l.fn.line.items ++ flat_map (λ n. spaced (decimal n)) (take l.number-index l.numbers)
