-- What is found among entries is found among what they say.
use Rattle.std.proofs.Common.{◌≡◌, ℕ, true, false, List, [], ◌∷◌, Some, None, refl, cond, ap, ◌||◌}
use Rattle.std.specs.Prelude.{option_map}
use Rattle.std.specs.List.{find, list_any}
use Rattle.std.specs.Str.{bytes_eq}
use Rattle.param_file.specs.Reading.{default_said, said_of_row, stands}
use Rattle.param_file.specs.Known.{said_by, known_by}
use Rattle.param_file.specs.Rows.{name_of}
use Rattle.param_file.specs.declared.names.ParamName.{ParamName}
use Rattle.param_file.specs.declared.entries.Entry.{Entry}

pub stands_by : (entries : List Entry) (name : List ℕ) → stands (known_by entries) name ≡ list_any (λ e. bytes_eq e.name.now name) entries
stands_by [] name = refl
stands_by (e ∷ entries) name = ap (λ b. bytes_eq e.name.now name || b) (stands_by entries name)

pub find_by : (entries : List Entry) (name : List ℕ) → find (λ s. bytes_eq s.name name) (known_by entries) ≡ option_map said_by (find (λ e. bytes_eq e.name.now name) entries)
find_by [] name = refl
find_by (e ∷ entries) name =
    elim (bytes_eq e.name.now name) as (λ b. cond b (Some (said_by e)) (find (λ s. bytes_eq s.name name) (known_by entries)) ≡ option_map said_by (cond b (Some e) (find (λ x. bytes_eq x.name.now name) entries)))
    [ true ↦ refl | false ↦ find_by entries name ]

-- the line that names a row says its value
pub said_some : (known : List Entry) (row : ParamName) (name : List ℕ) (e : Entry) → name ≡ name_of row
    → Some e ≡ find (λ x. bytes_eq x.name.now name) known → Some (said_by e) ≡ said_of_row (known_by known) row
said_some known row name e n f = rw (find_by known (name_of row), ← n, ← f) refl

-- where no line names it, its default does
pub said_none : (known : List Entry) (row : ParamName) (name : List ℕ) → name ≡ name_of row
    → None ≡ find (λ x. bytes_eq x.name.now name) known → default_said row ≡ said_of_row (known_by known) row
said_none known row name n f = rw (find_by known (name_of row), ← n, ← f) refl
