use Rattle.std.proofs.Common.{rules, subst, sym, ◌∷◌, List, ℕ, []}
use Rattle.std.proofs.Math.ListN.{set}
use Rattle.std.specs.Prelude.{true}
use Rattle.std.proofs.lemmas.List.{length-set}
use Rattle.groups.specs.Spreading.{IsTaken}
use Rattle.groups.proofs.Steps.{taken_seen, taken_new}
use Rattle.groups.proofs.search.take_one.Goals as goal

pub returns-then-seen-j : goal.returns-then-seen-j
returns-then-seen-j c = record { as_long = search rules; ok = taken_seen c.args.j c.args.seen.now c.args.list.now.items (search rules) }

pub returns : goal.returns
returns c = record {
  as_long = length-set c.args.seen.now c.args.j true;
  ok = subst (λ (xs : List ℕ). IsTaken (c.args.j ∷ []) c.args.seen.now (set c.args.seen.now c.args.j true) c.args.list.now.items xs) (sym (search rules)) (taken_new c.args.j c.args.seen.now c.args.list.now.items c.requires (search rules));
}
