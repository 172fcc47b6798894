-- The file of links, a line for each.
use Rattle.std.specs.Prelude.{ℕ, cond, List, ◌++◌, codes, decimal, Option, Some, None, is_some}
use Rattle.std.specs.List.{flat_map, count_by}
use Rattle.merger_links.specs.declared.link.Link.{Link}
use Rattle.gadget.specs.Texts.{spaced}

-- a descendant's label, or that there is none
abbrev pub descendant_text : Option ℕ → List ℕ
descendant_text (Some label) = spaced label
descendant_text None = codes " none"

-- label, descendant, how many ids are shared, and 1 for the main group of its descendant
abbrev pub link_text : Link → List ℕ
link_text l = decimal l.label ++ descendant_text l.descendant ++ spaced l.shared ++ spaced (cond l.main 1 0) ++ codes "\n"

abbrev pub links_text : List Link → List ℕ
links_text L = flat_map link_text L

-- how many groups have a descendant
abbrev pub followed : List Link → ℕ
followed L = count_by (λ l. is_some l.descendant) L
