-- Lines of words, some of which are passed over.
use Rattle.std.specs.Prelude.{ℕ, Bool, true, false, ◌==◌, List, [], ◌∷◌, map}
use Rattle.text_words.specs.Pieces.{lines_of, words_of}

-- a line is its words
abbrev pub Line : Type 0
Line = List (List ℕ)

-- the lines of bytes
abbrev pub lines_in : List ℕ → List Line
lines_in bytes = map words_of (lines_of bytes)

-- the word begins with `%` (37)
abbrev pub begins_comment : List ℕ → Bool
begins_comment [] = false
begins_comment (b ∷ bytes) = b == 37

-- a line without words, or whose first word begins with `%`
abbrev pub is_passed_over : Line → Bool
is_passed_over [] = true
is_passed_over (word ∷ words) = begins_comment word
