use Rattle.std.proofs.Common.{◌≡◌, ◌<◌, false, sym, ◌∙◌, below_more}
use Rattle.param_file.specs.Known.{known_by}
use Rattle.param_file.specs.Reading.{word_of_row}
use Rattle.param_file.specs.Settings.{clash_at}
use Rattle.param_file.proofs.checks.clash_behind.Goals as goal

pub loop-other-preserved : goal.loop-other-preserved
loop-other-preserved c =
    let here : clash_at (word_of_row (known_by c.args.known.now)) c.args.at c.loop-other.other ≡ false = sym c.rows_clash.ensures ∙ c.if-rows_clash.false in
    λ k a l. below_more (λ m. c.args.at < m → clash_at (word_of_row (known_by c.args.known.now)) c.args.at m ≡ false) c.loop-other.other
    (λ m b n. c.loop-other.invariant m n b) (λ n. here) k l a
