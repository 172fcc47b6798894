-- The sizes of groups.
use Rattle.std.proofs.Common.{◌≡◌, ℕ, suc, List, [], ◌∷◌, ◌++◌, ◌+◌, ◌*◌, ◌^◌, ◌<◌, ◌≤◌, length, take, get_or, sum_by, ap, sym, ◌∙◌, arith}
use Rattle.std.specs.List.{All, flat_map}
use Rattle.std.proofs.Math.Seq.{take-suc}
use Rattle.std.proofs.lemmas.List.{append-nil}
use Rattle.std.proofs.lemmas.List.Concat.{flat_map-append}
use Rattle.std.proofs.lemmas.List.Sums.{sum_by-le}
use Rattle.group_file.specs.Catalogues.{GroupData, IsGood}
use Rattle.merger_links.specs.declared.link.Link.{Link}
use Rattle.gadget.specs.Grouping.{members_of}

-- the members of a catalogue's groups can be counted
pub members_fit : (C : List GroupData) → IsGood C → length C ≤ 1048576 → members_of C < 2 ^ 64
members_fit C h few =
    let each : All (λ (g : GroupData). length g.ids ≤ 1048576) C = λ k d m. (h.each k d m).few in
    let total : members_of C ≤ length C * 1048576 = sum_by-le (λ (g : GroupData). length g.ids) 1048576 C each in
    omega (arith, total, few)
