use Rattle.std.proofs.Common.{◌≡◌, ◌+◌, ◌≤◌, [], length, map}
use Rattle.text_words.specs.Comments.{lines_in}
use Rattle.text_words.specs.Pieces.{lines_of, words_of}
use Rattle.param_file.specs.Known.{known_by, scan}
use Rattle.param_file.proofs.entries.read_lines.Given as goal

abbrev pub invariant-loop-line : goal.invariant-loop-line
invariant-loop-line l = record {
  below : l.number + length (lines_of l.line-iterator.rest.now) ≤ length l.bytes;
  same : scan l.number (known_by l.known.items) (map words_of (lines_of l.line-iterator.rest.now)) ≡ scan 0 [] (lines_in l.bytes);
}
