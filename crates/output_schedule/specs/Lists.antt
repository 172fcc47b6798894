-- The first fault of the lines, by the place of the first bad one.
use Rattle.std.specs.Prelude.{◌≡◌, ◌+◌, ◌<◌, List, length}
use Rattle.std.specs.List.{position_or_len}
use Rattle.text_words.specs.Comments.{Line}
use Rattle.output_schedule.specs.Times.{is_bad}
use Rattle.output_schedule.specs.declared.errors.OutputErr.{OutputErr}
use Rattle.output_schedule.specs.declared.errors.OutputErr.TheVariants.{NotNumber, TooMany, Memory}

abbrev pub IsAtFirst : List Line → OutputErr → Type 0
IsAtFirst lines (NotNumber line) = (line ≡ position_or_len is_bad lines + 1) × (position_or_len is_bad lines < length lines)
IsAtFirst lines (TooMany count) = ⊥
IsAtFirst lines Memory = Unit {0}
