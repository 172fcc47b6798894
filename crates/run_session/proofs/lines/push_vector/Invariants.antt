use Rattle.std.proofs.Common.{◌≡◌, ◌++◌, take}
use Rattle.std.specs.List.{flat_map}
use Rattle.std.specs.Fmt.{signed_decimal}
use Rattle.text_words.specs.Spaced.{spaced}
use Rattle.run_session.proofs.lines.push_vector.Given as goal

abbrev pub invariant-loop-number : goal.invariant-loop-number
invariant-loop-number l = l.line.items ≡ l.fn.line.items ++ flat_map (λ z. spaced (signed_decimal z)) (take l.number-index l.v)
