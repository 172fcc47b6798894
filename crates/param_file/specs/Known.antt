-- What the reader knows behind some lines, as what they say.
use Rattle.std.specs.Prelude.{ℕ, ◌+◌, List, [], ◌∷◌, ◌++◌, map, Option, None, Some, Result, Ok, Err}
use Rattle.std.specs.Option.{option_to_list}
use Rattle.text_words.specs.Comments.{Line}
use Rattle.param_file.specs.Reading.{Said, said, fault_behind}
use Rattle.param_file.specs.declared.entries.Entry.{Entry}
use Rattle.param_file.specs.declared.errors.ParamKind.{ParamKind}

abbrev pub said_by : Entry → Said
said_by e = record { line = e.line; name = e.name.now; value = e.value.now }

abbrev pub known_by : List Entry → List Said
known_by entries = map said_by entries

abbrev pub after_fault : Option ParamKind → ℕ → Result (List Said) (ℕ × ParamKind) → Result (List Said) (ℕ × ParamKind)
after_fault None n rest = rest
after_fault (Some kind) n rest = Err (n + 1, kind)

-- what is known behind these lines, which stand behind n lines that say what is known, or the first fault
abbrev pub scan : ℕ → List Said → List Line → Result (List Said) (ℕ × ParamKind)
scan n known [] = Ok known
scan n known (line ∷ lines) = after_fault (fault_behind known line) n (scan (n + 1) (known ++ option_to_list (said (n + 1) line)) lines)
