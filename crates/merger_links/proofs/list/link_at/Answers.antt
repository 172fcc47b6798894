use Rattle.std.proofs.Common.{◌≤◌, get_or, Some, refl, sym, ap, inl, inr, arith}
use Rattle.merger_links.specs.declared.ties.Tie.{Tie}
use Rattle.merger_links.specs.Ties.{IsTie, no_group}
use Rattle.merger_links.proofs.Best.{descendant_is, no_descendant, is_main, main_is, same_of, test_of}
use Rattle.merger_links.proofs.list.link_at.Goals as goal

blank : Tie
blank = record { group = 0; shared = 0 }

pub returns-then-tie-eq0 : goal.returns-then-tie-eq0
unfolding blank
returns-then-tie-eq0 c =
    let C = c.args.all.now.first.now in
    let D = c.args.all.now.second.now in
    let tie : Tie = get_or c.args.all.now.ties.now c.args.i blank in (
      c.label_of-label.ensures,
      inr (record { descendant = refl; nothing = no_descendant D (get_or C c.args.i no_group) tie (c.requires.ties.each c.args.i blank c.requires.at) c.if-tie-eq0.true; none = refl; main = refl }),
    )

pub returns : goal.returns
unfolding blank
returns c =
    let C = c.args.all.now.first.now in
    let D = c.args.all.now.second.now in
    let ties = c.args.all.now.ties.now in
    let i = c.args.i in
    let tie : Tie = get_or ties i blank in
    let some : 1 ≤ tie.shared = omega (arith, c.if-tie-eq0.false) in
    let is : IsTie D (get_or C i no_group) tie = c.requires.ties.each i blank c.requires.at in
    let main = get_or c.args.all.now.mains.now tie.group blank in
    let most = c.requires.mains.each tie.group blank (is.within some) in (
      c.label_of-label.ensures,
      inl (
        get_or D tie.group no_group,
        record {
          descendant = ap (λ n. Some n) c.label_of.ensures;
          is = descendant_is D (get_or C i no_group) tie c.requires.second is some;
          as_many = sym (is.as_many some);
          main = (
            λ e. is_main C D c.requires.first c.requires.second ties c.requires.ties i c.requires.at blank some main most (same_of main.group i e),
            λ b. test_of main.group i (main_is C D c.requires.first c.requires.second ties c.requires.ties i c.requires.at blank some main most b),
          );
        },
      ),
    )
