-- A map from vectors of bytes to vectors of bytes, as files by their names.
use Rattle.std.specs.Prelude.{ℕ, List, Option, option_map, Vec}
use Rattle.std.specs.Ordering.{nat_cmp}
use Rattle.std.specs.Cmp.Lexicographic.{slice_cmp}
use Rattle.std.specs.BTreeMap.{BTreeMap, get_by}
use Rattle.store_io.specs.Files.{Files}

-- what a map whose keys are vectors of bytes has at these bytes
abbrev pub get_by_bytes : {X Y : Type 0} → BTreeMap (Vec ℕ Y) X → List ℕ → Option X
get_by_bytes m bytes = get_by (λ k. slice_cmp nat_cmp bytes k.items) m

-- the files of a map
abbrev pub files_in : {Y Z : Type 0} → BTreeMap (Vec ℕ Y) (Vec ℕ Z) → Files
files_in m = λ q. option_map (λ v. v.items) (get_by_bytes m q)
