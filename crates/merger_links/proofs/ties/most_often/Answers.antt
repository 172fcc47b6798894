use Rattle.std.proofs.Common.{◌≡◌, ◌+◌, ◌-◌, ℕ, get_or, take, refl, ap, ◌∙◌, arith}
use Rattle.group_file.specs.Catalogues.{times}
use Rattle.merger_links.proofs.Often.{often_next}
use Rattle.merger_links.proofs.ties.most_often.Goals as goal

pub loop-i-preserved : goal.loop-i-preserved
loop-i-preserved c =
    let xs = c.args.sorted.now in
    let i = c.loop-i.i in
    let back : i ≡ i + 1 - 1 = omega arith in (
      often_next xs i c.next_run-run.result (get_or xs i 0) c.loop-i.best c.better-best.result c.requires c.loop-i-test.true refl c.loop-i.invariant.0 c.next_run-run.ensures.value c.better-best.ensures.more c.better-best.ensures.same,
      λ _. c.next_run-run.ensures.value ∙ ap (λ (k : ℕ). times (get_or xs k 0) (take (i + 1) xs)) back,
      c.next_run-run.ensures.small,
    )
