-- How a base step goes on from a resting point (this project's own): the unfinished evolves are finished one by one,
-- from the least bin up.
use Rattle.std.specs.Prelude.{ℕ, ◌+◌, ◌-◌, ◌^◌, ◌==◌, nat_le, true, fold, Option, if◌then◌else◌}
use Rattle.std.specs.List.{range_with_len}
use Rattle.nbody_model.specs.Tables.{Rules}
use Rattle.nbody_model.specs.Evolve.{Progress, Stepped, Going, ◌>>=◌, inside, ask_if, rest, close, evolve}
use Rattle.nbody_model.specs.States.{StateData, low_zeros, began, unfinished, unfinished_fast, fast_parts}

-- the rest of the unfinished evolve of a bin: its second finer step, unless that was under way, with a resting point
-- before it, unless the state is that one; then its close
unfoldable pub round : Rules → Option ℕ → StateData → ℕ → Progress → Stepped
round r stop σ bin p =
    let s = r.gravity.setup in
    let t = began bin σ.tick in
    let middle = t + 2 ^ (bin - 1) in
    let F = unfinished_fast s σ bin in
    let ready : Stepped = if bin == low_zeros σ.tick + 1 then Going p else rest stop middle p in
    let finer = inside (fast_parts s σ bin) (ready >>= (λ q. evolve r stop (bin - 1) F middle q)) in
    let reached : Stepped = if nat_le σ.tick middle then finer else Going p in
    reached >>= (λ q. close r bin (unfinished s σ bin) F t q)

-- the rest of the base step of a rest state; the force among the innermost fast part is asked first
unfoldable pub continue : Rules → Option ℕ → StateData → Progress → Stepped
continue r stop σ p =
    let s = r.gravity.setup in
    let v = low_zeros σ.tick in
    fold (λ step bin. step >>= (λ q. round r stop σ bin q)) (Going (ask_if true (unfinished_fast s σ (v + 1)) p)) (range_with_len (v + 1) (s.top_bin - v))
