use Rattle.std.proofs.Common.{◌≡◌, ◌<◌, false, refl, below_more}
use Rattle.param_file.specs.Known.{known_by}
use Rattle.param_file.specs.Reading.{word_of_row}
use Rattle.param_file.specs.Settings.{clash_at}
use Rattle.param_file.proofs.checks.check_clash.Goals as goal

pub returns-in-Some-clause-err : goal.returns-in-Some-clause-err
returns-in-Some-clause-err c =
    let s = c.in-Some.ensures.some in
    record {
      first_row = c.loop-at.at;
      second_row = s.other;
      first = record { ordered = s.behind; inside = s.inside; clash = s.clash; before = c.loop-at.invariant; between = s.between };
      counted = s.counted;
      is = refl;
    }

pub loop-at-preserved : goal.loop-at-preserved
loop-at-preserved c = λ i j l a b.
    below_more (λ m. m < j → clash_at (word_of_row (known_by c.args.known.now)) m j ≡ false) c.loop-at.at
    (λ m n d. c.loop-at.invariant m j n d b) (λ d. c.in_default.ensures.none j d b) i l a
