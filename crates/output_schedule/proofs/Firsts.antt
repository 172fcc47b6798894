-- What the place of the first bad line says of the lines.
use Rattle.std.proofs.Common.{◌≡◌, ℕ, ◌+◌, ◌<◌, List, [], length, arith}
use Rattle.std.specs.List.{position_or_len}
use Rattle.std.proofs.lemmas.List.Sums.{fails_before_first, passes_at_first}
use Rattle.text_words.specs.Comments.{Line}
use Rattle.output_schedule.specs.Lists.{IsAtFirst}
use Rattle.output_schedule.specs.Times.{is_bad, AreGood, IsFirstBad, IsFirstFault}
use Rattle.output_schedule.specs.declared.errors.OutputErr.{OutputErr}
use Rattle.output_schedule.specs.declared.errors.OutputErr.TheVariants.{NotNumber, TooMany, Memory}

pub good_all : (lines : List Line) → position_or_len is_bad lines ≡ length lines → AreGood lines (length lines)
good_all lines e k h = fails_before_first is_bad lines k [] (omega (arith, e))

pub first_bad : (lines : List Line) (number : ℕ) → number ≡ position_or_len is_bad lines + 1 → position_or_len is_bad lines < length lines → IsFirstBad lines number
first_bad lines number e h = record {
  index = position_or_len is_bad lines;
  inside = h;
  counted = e;
  before = λ k l. fails_before_first is_bad lines k [] l;
  bad = passes_at_first is_bad lines [] h;
}

pub fault_read : (lines : List Line) (e : OutputErr) → IsAtFirst lines e → IsFirstFault lines e
fault_read lines (NotNumber line) h = first_bad lines line h.0 h.1
fault_read lines (TooMany count) h = absurd h
fault_read lines Memory h = tt
