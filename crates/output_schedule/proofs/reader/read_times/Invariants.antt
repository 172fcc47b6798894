use Rattle.std.proofs.Common.{◌≡◌, ◌+◌, ◌≤◌, ◌++◌, length, map}
use Rattle.std.specs.List.{position_or_len}
use Rattle.text_words.specs.Comments.{lines_in}
use Rattle.text_words.specs.Pieces.{lines_of, words_of}
use Rattle.output_schedule.specs.Times.{is_bad, times_in}
use Rattle.output_schedule.proofs.reader.read_times.Given as goal

abbrev pub invariant-loop-line : goal.invariant-loop-line
invariant-loop-line l = record {
  below : l.number + length (lines_of l.line-iterator.rest.now) ≤ length l.bytes;
  counted : l.number + length (map words_of (lines_of l.line-iterator.rest.now)) ≡ length (lines_in l.bytes);
  first : l.number + position_or_len is_bad (map words_of (lines_of l.line-iterator.rest.now)) ≡ position_or_len is_bad (lines_in l.bytes);
  times : times_in (lines_in l.bytes) ≡ l.times.items ++ times_in (map words_of (lines_of l.line-iterator.rest.now));
}
