use Rattle.std.proofs.Common.{rules, ◌≡◌, ◌+◌, ◌-◌, ◌^◌, ◌<◌, ℕ, ap, arith, length, refl, ◌∙◌}
use Rattle.std.proofs.lemmas.Bool.{false≢true}
use Rattle.smallvec.specs.SmallVec.{HasRoomFor}
use Rattle.fixed_point.specs.Vectors.{IsBelow}
use Rattle.dual_walk.specs.Places.{value_at}
use Rattle.dual_walk.specs.Courses.{Follows}
use Rattle.dual_walk.specs.Steps.{IsListed}
use Rattle.dual_walk.proofs.Bridge.{none_asked, none_taken}
use Rattle.dual_walk.proofs.Rests.{at_next, done_asked, done_count, done_forces, few_asked_yet, few_counted, follows_again, is_listed, less_left, nothing_left, one_at_most, places_long, places_small, rest_few, some_nodes, starts}
use Rattle.dual_walk.proofs.descent.walk.Goals as goal

pub returns-then-len-eq0-clause-taken : goal.returns-then-len-eq0-clause-taken
returns-then-len-eq0-clause-taken g c = omega (arith, ap length (none_taken g.w c.args.tree.now c.requires.1.1.1.0 (omega (arith, c.len.ensures, c.if-len-eq0.true))))

pub returns-then-len-eq0-clause-asked : goal.returns-then-len-eq0-clause-asked
returns-then-len-eq0-clause-asked g c = omega (arith, ap length (none_asked g.w c.args.tree.now c.requires.1.1.1.0 (omega (arith, c.len.ensures, c.if-len-eq0.true))))

pub returns-then-len-eq0-clause-pulled : goal.returns-then-len-eq0-clause-pulled
returns-then-len-eq0-clause-pulled g c = omega (arith, ap length (none_taken g.w c.args.tree.now c.requires.1.1.1.0 (omega (arith, c.len.ensures, c.if-len-eq0.true))))

pub loop-x-init : goal.loop-x-init
loop-x-init g c = (
  starts g.w c.args.tree.now c.requires.1.1.1.0 c.requires.1.1.1.1.0.answers.turned c.in_ok-list.list.items c.args.places.now c.args.law.now.asked_accept c.in_ok-list.ensures.items (some_nodes c.len.result (length c.args.tree.now.nodes) c.len.ensures c.if-len-eq0.false),
  omega arith,
  refl,
  refl,
  c.in_ok-list.ensures.room,
)

pub look-count-requires : goal.look-count-requires
look-count-requires g c κs within =
    let follows : Follows g.A.Fn g.F.Fn c.loop-x.law.accept c.loop-x.law.force g.w = follows_again g.A.Fn g.F.Fn c.args.law.now.accept c.loop-x.law.accept c.args.law.now.force c.loop-x.law.force g.w c.loop-x.invariant.2 c.loop-x.invariant.3 c.requires.1.1.1.1.0 in
    let accepts : c.loop-x.law.asked_accept < 2 ^ 64 - 1 = omega (arith, few_asked_yet g.w c.args.tree.now c.requires.1.1.1.0 c.requires.1.1.1.1.0.answers.turned c.loop-x.list.items c.pop.new.self.items c.args.places.now c.loop-x.places c.args.law.now.asked_accept c.loop-x.law.asked_accept c.loop-x.count c.in-Some.x c.loop-x.invariant.0 c.in-Some.ensures.items c.requires.1.1.1.1.1.1.0, c.requires.1.1.1.1.1.1.1.1.0) in
    let forces : c.loop-x.law.asked_force < 2 ^ 64 - 1 = omega (arith, few_counted g.w c.args.tree.now c.requires.1.1.1.0 c.requires.1.1.1.1.0.answers.turned c.loop-x.list.items c.pop.new.self.items c.args.places.now c.loop-x.places c.args.law.now.asked_accept c.loop-x.law.asked_accept c.loop-x.count c.in-Some.x c.loop-x.invariant.0 c.in-Some.ensures.items c.requires.1.1.1.1.1.1.0, c.loop-x.invariant.1, c.requires.1.1.1.1.1.1.1.1.1) in
    let long : length c.loop-x.places ≡ length c.args.tree.now.nodes = places_long g.w c.args.tree.now c.requires.1.1.1.0 c.requires.1.1.1.1.0.answers.turned c.loop-x.list.items c.pop.new.self.items c.args.places.now c.loop-x.places c.args.law.now.asked_accept c.loop-x.law.asked_accept c.loop-x.count c.in-Some.x c.loop-x.invariant.0 c.in-Some.ensures.items c.requires.1.1.1.1.1.1.0 in
    let small : ((k : ℕ) → k < length c.loop-x.places → IsBelow (2 ^ 112) (value_at c.loop-x.places k)) = places_small g.w c.args.tree.now c.requires.1.1.1.0 c.requires.1.1.1.1.0.answers.turned c.loop-x.list.items c.pop.new.self.items c.args.places.now c.loop-x.places c.args.law.now.asked_accept c.loop-x.law.asked_accept c.loop-x.count c.in-Some.x c.loop-x.invariant.0 c.in-Some.ensures.items c.requires.1.1.1.1.1.1.0 c.requires.1.1.1.1.1.1.1.0 in
    let listed : IsListed g.w c.args.tree.now.nodes c.in-Some.x = is_listed g.w c.args.tree.now c.requires.1.1.1.0 c.requires.1.1.1.1.0.answers.turned c.loop-x.list.items c.pop.new.self.items c.args.places.now c.loop-x.places c.args.law.now.asked_accept c.loop-x.law.asked_accept c.loop-x.count c.in-Some.x c.loop-x.invariant.0 c.in-Some.ensures.items c.requires.1.1.1.1.1.1.0 in
    let room : HasRoomFor c.pop.new.self 64 = omega (arith, rest_few g.w c.args.tree.now c.requires.1.1.1.0 c.requires.1.1.1.1.0.answers.turned c.loop-x.list.items c.pop.new.self.items c.args.places.now c.loop-x.places c.args.law.now.asked_accept c.loop-x.law.asked_accept c.loop-x.count c.in-Some.x c.loop-x.invariant.0 c.in-Some.ensures.items c.requires.1.1.1.1.1.1.0, c.in-Some.ensures.capacity, c.loop-x.invariant.4) in
    search rules

pub overflow_add-count : goal.overflow_add-count
overflow_add-count g c = omega (arith, few_counted g.w c.args.tree.now c.requires.1.1.1.0 c.requires.1.1.1.1.0.answers.turned c.loop-x.list.items c.pop.new.self.items c.args.places.now c.loop-x.places c.args.law.now.asked_accept c.loop-x.law.asked_accept c.loop-x.count c.in-Some.x c.loop-x.invariant.0 c.in-Some.ensures.items c.requires.1.1.1.1.1.1.0, one_at_most g.w c.args.tree.now c.requires.1.1.1.0 c.requires.1.1.1.1.0.answers.turned c.loop-x.list.items c.pop.new.self.items c.args.places.now c.loop-x.places c.args.law.now.asked_accept c.loop-x.law.asked_accept c.loop-x.count c.in-Some.x c.loop-x.invariant.0 c.in-Some.ensures.items c.requires.1.1.1.1.1.1.0 c.look-count.new.list.items c.look-count.new.places c.look-count.result c.look-count.ensures.looks)

pub loop-x-smaller : goal.loop-x-smaller
loop-x-smaller g c = less_left g.w c.args.tree.now c.requires.1.1.1.0 c.requires.1.1.1.1.0.answers.turned c.loop-x.list.items c.pop.new.self.items c.args.places.now c.loop-x.places c.args.law.now.asked_accept c.loop-x.law.asked_accept c.loop-x.count c.in-Some.x c.loop-x.invariant.0 c.in-Some.ensures.items c.requires.1.1.1.1.1.1.0 c.look-count.new.list.items c.look-count.new.places c.look-count.result c.look-count.ensures.looks

pub loop-x-preserved : goal.loop-x-preserved
loop-x-preserved g c = (
  at_next g.w c.args.tree.now c.requires.1.1.1.0 c.requires.1.1.1.1.0.answers.turned c.loop-x.list.items c.pop.new.self.items c.args.places.now c.loop-x.places c.args.law.now.asked_accept c.loop-x.law.asked_accept c.loop-x.count c.in-Some.x c.loop-x.invariant.0 c.in-Some.ensures.items c.requires.1.1.1.1.1.1.0 c.look-count.new.list.items c.look-count.new.places c.look-count.result c.look-count.ensures.looks c.look-count.new.law.asked_accept c.look-count.ensures.asked,
  omega (arith, c.look-count.ensures.pulled, c.loop-x.invariant.1),
  c.look-count.ensures.same_accept ∙ c.loop-x.invariant.2,
  c.look-count.ensures.same_force ∙ c.loop-x.invariant.3,
  omega (arith, c.look-count.ensures.capacity, c.in-Some.ensures.capacity, c.loop-x.invariant.4),
)

pub returns-clause-taken : goal.returns-clause-taken
returns-clause-taken g c = done_count g.w c.args.tree.now c.args.places.now c.loop-x.places c.args.law.now.asked_accept c.loop-x.law.asked_accept c.loop-x.count c.loop-x.list.items (nothing_left c.loop-x.list.items (λ h. false≢true (c.in_default.ensures.variant.1 h))) c.loop-x.invariant.0

pub returns-clause-places : goal.returns-clause-places
returns-clause-places g c = done_forces g.w c.args.tree.now c.args.places.now c.loop-x.places c.args.law.now.asked_accept c.loop-x.law.asked_accept c.loop-x.count c.loop-x.list.items (nothing_left c.loop-x.list.items (λ h. false≢true (c.in_default.ensures.variant.1 h))) c.loop-x.invariant.0

pub returns-clause-asked : goal.returns-clause-asked
returns-clause-asked g c = done_asked g.w c.args.tree.now c.args.places.now c.loop-x.places c.args.law.now.asked_accept c.loop-x.law.asked_accept c.loop-x.count c.loop-x.list.items (nothing_left c.loop-x.list.items (λ h. false≢true (c.in_default.ensures.variant.1 h))) c.loop-x.invariant.0

pub returns-clause-pulled : goal.returns-clause-pulled
returns-clause-pulled g c = c.loop-x.invariant.1 ∙ ap (λ n. c.args.law.now.asked_force + n) (done_count g.w c.args.tree.now c.args.places.now c.loop-x.places c.args.law.now.asked_accept c.loop-x.law.asked_accept c.loop-x.count c.loop-x.list.items (nothing_left c.loop-x.list.items (λ h. false≢true (c.in_default.ensures.variant.1 h))) c.loop-x.invariant.0)
