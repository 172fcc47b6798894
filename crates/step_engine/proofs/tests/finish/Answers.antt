use Rattle.std.proofs.Common.{◌≡◌, ◌≤◌, ◌-◌, [], ◌∷◌, length, ap, sym, ◌∙◌, subst, arith}
use Rattle.std.specs.List.{AllByRecursion}
use Rattle.nbody_model.specs.States.{low_zeros}
use Rattle.model_laws.proofs.Rests.{low_of}
use Rattle.step_engine.proofs.tests.finish.Goals as goal

pub finish_step-requires-clause-rest : goal.finish_step-requires-clause-rest
finish_step-requires-clause-rest c =
    let s = c.args.setup.now in
    let d = c.args.depth in
    let low : low_zeros 2 ≡ 1 = low_of 64 1 0 (omega arith) in
    let depths : c.in_ok-depths.depths ≡ d ∷ d ∷ [] = c.in_ok-depths.ensures in
    let most : d ≤ s.top_bin - low_zeros 2 = omega (arith, low, c.requires.top, c.requires.shallow) in
    record {
      some = omega (arith, c.requires.two);
      each = ap length depths ∙ sym c.requires.two;
      not_finest = omega (arith, low, c.requires.low);
      not_whole = omega (arith, low, c.requires.top);
      shallow = subst (AllByRecursion (λ x. x ≤ s.top_bin - low_zeros 2)) (sym depths) (most, (most, tt));
    }
