-- Which kind the bodies of a snapshot are, by their places.
use Rattle.std.specs.Prelude.{ℕ, ◌+◌, nat_lt, if◌then◌else◌, List, slice_index}

-- the kind of the body at a place, where the bodies of kind 1 come first, then those of kind 2, and so on
abbrev pub kind_at : List ℕ → ℕ → ℕ
kind_at counts place =
    let one = slice_index counts 1 in
    let two = one + slice_index counts 2 in
    let three = two + slice_index counts 3 in
    let four = three + slice_index counts 4 in
    if nat_lt place one then 1
    else (if nat_lt place two then 2
    else (if nat_lt place three then 3
    else (if nat_lt place four then 4
    else 5)))
