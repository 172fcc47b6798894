-- Words of a line behind its first one.
use Rattle.std.specs.Prelude.{ℕ, List, ◌++◌, codes}

-- a word after a space
abbrev pub spaced : List ℕ → List ℕ
spaced word = codes " " ++ word
