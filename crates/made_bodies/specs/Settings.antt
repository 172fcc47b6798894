-- The text of a parameter file for made bodies.
use Rattle.std.specs.Prelude.{ℕ, List, ◌++◌, codes}

-- a row whose value is the name with an ending
abbrev pub named_line : List ℕ → List ℕ → List ℕ → List ℕ
named_line row name ending = row ++ name ++ ending

-- the numbers: 64 ticks, base steps of 32 with finer ones down to 2, an opening angle of a half
unfoldable pub numbers_text : List ℕ
numbers_text = codes "TimeMax 64\nLowBin 1\nTopBin 5\nErrTolTheta 128\nErrTolIntAccuracy 16384\nGravityConstantInternal 4294967296\nVelocityShift 0\n"

-- the files of this name, and the numbers
unfoldable pub settings_text : List ℕ → List ℕ
settings_text name =
    named_line (codes "InitCondFile ") name (codes ".ics\n") ++
    named_line (codes "SnapshotFileBase ") name (codes "_out\n") ++
    named_line (codes "RestartFileBase ") name (codes "_restart\n") ++
    named_line (codes "KickFile ") name (codes ".kicks\n") ++
    named_line (codes "RankTraceFile ") name (codes ".trace\n") ++
    numbers_text
