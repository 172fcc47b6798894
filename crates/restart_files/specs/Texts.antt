-- Parts of the text of a restart file.
use Rattle.std.specs.Prelude.{ℕ, List, ◌++◌}
use Rattle.fixed_point.specs.Bytes.{bytes32, bytes64, bytes128}
use Rattle.nbody_model.specs.Bodies.{BodyData}
use Rattle.nbody_model.specs.States.{StateData}
use Rattle.nbody_model.specs.RestartText.{body_bytes}

-- the numbers of a state that count
unfoldable pub counters_text : StateData → List ℕ
counters_text σ =
    bytes64 σ.steps ++ bytes64 σ.tick ++ bytes64 σ.next_snapshot ++ bytes64 σ.next_restart ++ bytes64 σ.kicks ++ bytes128 σ.interactions

-- a body and its depth
abbrev pub deep_body_bytes : BodyData × ℕ → List ℕ
deep_body_bytes x = body_bytes x.0 ++ bytes32 x.1
