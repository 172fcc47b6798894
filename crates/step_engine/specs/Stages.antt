-- The stages of a step.
use Rattle.std.specs.Prelude.{ℕ, ◌+◌, ◌-◌, ◌^◌, not, List, Option}
use Rattle.nbody_model.specs.Tables.{Gravity, ExpansionData, Rules}
use Rattle.nbody_model.specs.Factors.{kick_factor}
use Rattle.nbody_model.specs.Evolve.{Progress, Stepped, Going, ◌>>=◌, ask_if, between, close, evolve, is_empty, kick, rest}

-- what steps go by
abbrev pub rules : Gravity → Option ExpansionData → Rules
rules g e = record { gravity = g; expansion = e }

-- two finer steps of F from t on, in the bin below, with the resting point between them
abbrev pub two_finer : Rules → ℕ → List ℕ → ℕ → Option ℕ → Progress → Stepped
two_finer r bin F t stop p =
    let middle = t + 2 ^ (bin - 1) in (evolve r stop (bin - 1) F t p >>= (λ q. rest stop middle q)) >>= (λ q. evolve r stop (bin - 1) F middle q)

-- the first kick of the step of P with the fast part F
abbrev pub first_kick : Rules → ℕ → List ℕ → List ℕ → ℕ → Option ℕ → Progress → Stepped
first_kick r bin P F t stop p = kick r bin P F t (kick_factor r.expansion t (t + 2 ^ (bin - 1))) p

-- what stands between its kicks
abbrev pub inner : Rules → ℕ → List ℕ → ℕ → Option ℕ → Progress → Stepped
inner r bin F t stop p = between stop (evolve r stop (bin - 1)) bin F t p

-- its second half
abbrev pub last : Rules → ℕ → List ℕ → List ℕ → ℕ → Option ℕ → Progress → Stepped
last r bin P F t stop p = close r bin P F t p

-- the force among F is asked, if there are such bodies
abbrev pub asks_fast : List ℕ → Option ℕ → Progress → Stepped
asks_fast F stop p = Going (ask_if (not (is_empty F)) F p)

-- the step from its first kick on
abbrev pub from_kick : Rules → ℕ → List ℕ → List ℕ → ℕ → Option ℕ → Progress → Stepped
from_kick r bin P F t stop p = (first_kick r bin P F t stop p >>= inner r bin F t stop) >>= last r bin P F t stop

-- the step from the forces of its fast part on
abbrev pub from_ask : Rules → ℕ → List ℕ → List ℕ → ℕ → Option ℕ → Progress → Stepped
from_ask r bin P F t stop p = ((asks_fast F stop p >>= first_kick r bin P F t stop) >>= inner r bin F t stop) >>= last r bin P F t stop
