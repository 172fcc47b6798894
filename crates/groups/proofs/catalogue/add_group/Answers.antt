use Rattle.std.proofs.Common.{rules, arith, ap, subst, sym, ◌≡◌, ◌<◌, length, List, ℕ}
use Rattle.std.specs.List.{AllByRecursion}
use Rattle.groups.specs.Groups.{members}
use Rattle.groups.proofs.Chained.{members_few, members_below}
use Rattle.groups.proofs.catalogue.add_group.Goals as goal

pub mass_of-mass-requires-clause-few : goal.mass_of-mass-requires-clause-few
mass_of-mass-requires-clause-few c =
    let e : c.deref.result.now ≡ members c.args.heads.now c.args.p = search rules in
    omega (arith, ap length e, members_few c.args.heads.now c.args.p, c.requires.few, c.requires.as_many)

pub mass_of-mass-requires-clause-below : goal.mass_of-mass-requires-clause-below
mass_of-mass-requires-clause-below c =
    let e : c.deref.result.now ≡ members c.args.heads.now c.args.p = search rules in
    subst (λ (n : ℕ). AllByRecursion {X = ℕ} (λ k. k < n) c.deref.result.now) c.requires.as_many
    (subst (λ (xs : List ℕ). AllByRecursion {X = ℕ} (λ k. k < length c.args.heads.now) xs) (sym e) (members_below c.args.heads.now c.args.p))

pub ids_of-requires : goal.ids_of-requires
ids_of-requires c =
    let e : c.deref-2.result.now ≡ members c.args.heads.now c.args.p = search rules in
    subst (λ (n : ℕ). AllByRecursion {X = ℕ} (λ k. k < n) c.deref-2.result.now) c.requires.as_many
    (subst (λ (xs : List ℕ). AllByRecursion {X = ℕ} (λ k. k < length c.args.heads.now) xs) (sym e) (members_below c.args.heads.now c.args.p))
