use Rattle.std.proofs.Common.{◌≡◌, map, take}
use Rattle.nbody_model.specs.Nodes.{members}
use Rattle.force_field.proofs.shares.find_members.Given as goal

abbrev pub invariant-loop-body : goal.invariant-loop-body
invariant-loop-body l = l.out.items ≡ map (λ b. (b.id, b.mass)) (members (take l.body-index l.bodies) l.cell)
