use Rattle.std.proofs.Common.{◌≡◌, ◌+◌, [], ◌∷◌, ◌++◌, get_or, map, take}
use Rattle.std.proofs.lemmas.List.{get_or_default, map_more}
use Rattle.particle_set.specs.declared.row.Row.{Row}
use Rattle.particle_set.specs.Rows.{IsOutside, HasMomentum, body_of}
use Rattle.particle_set.proofs.Least.{least_at_first, each_more}
use Rattle.particle_set.proofs.body_set.bodies_of.Goals as goal

blank : Row
blank = record { id = 0; kind = 0; mass = 0; pos = []; mom = [] }

pub returns-in_default-clause-err : goal.returns-in_default-clause-err
unfolding blank
returns-in_default-clause-err c =
    let rows = c.args.rows.now in
    let i = c.loop-row.row-index in
    least_at_first IsOutside rows i (get_or rows i blank) c.requires.up c.loop-row-test.true (get_or_default rows i _ _ c.loop-row-test.true)
    (record { out_of_range = c.in_default.ensures })
    (λ k d lt h. h.out_of_range (c.loop-row.invariant.1 k d lt))

pub loop-row-preserved : goal.loop-row-preserved
unfolding blank
loop-row-preserved c =
    let rows = c.args.rows.now in
    let i = c.loop-row.row-index in
    let more : map body_of (take (i + 1) rows) ≡ map body_of (take i rows) ++ body_of (get_or rows i blank) ∷ [] = map_more body_of rows i blank c.loop-row-test.true in
    let pushed : c.push.new.self.items ≡ c.loop-row.bodies.items ++ c.in-Some.body ∷ [] = c.in_ok-push.ensures.items in
    let so_far : c.loop-row.bodies.items ≡ map body_of (take i rows) = c.loop-row.invariant.0 in
    let body : c.in-Some.body ≡ body_of (get_or rows i blank) = c.in-Some.ensures.1 in
    (cc, each_more HasMomentum rows i blank c.loop-row-test.true c.in-Some.ensures.0 c.loop-row.invariant.1)
