use Rattle.std.proofs.Common.{◌≡◌, true, List, ℕ, take, drop, rules}
use Rattle.std.specs.Str.{bytes_eq}
use Rattle.model_laws.specs.Nests.{ids_of}
use Rattle.rewind_laws.specs.Bins.{bins_tag, bins_mark}
use Rattle.rewind.proofs.Whole.{spelled}
use Rattle.rewind.proofs.Joined.{read_are}
use Rattle.rewind.proofs.read.read_bins.Goals as goal

pub returns-clause-run : goal.returns-clause-run
returns-clause-run c =
    let bytes : List ℕ = c.args.bytes.now in
    let same : c.deref.result.now ≡ ids_of c.args.set.now = search rules in
    let tag : bytes_eq bins_tag (take 8 bytes) ≡ true = search rules in
    let mark : bytes_eq bins_mark (drop c.in-Ok.end bytes) ≡ true = search rules in
    read_are bytes c.args.setup.now c.args.set.now c.read_steps.new.bins (spelled bytes c.args.setup.now c.args.set.now c.deref.result.now c.in-Ok.end c.read_steps.new.bins same tag c.in-Ok.ensures.ok mark)
