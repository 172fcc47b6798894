use Rattle.std.proofs.Common.{◌≡◌, ◌≤◌, get_or, ap, sym, subst, ◌∙◌, pos, unsigned_abs, ◌^◌}
use Rattle.std.specs.Int.{w128}
use Rattle.std.proofs.lemmas.Int.{to_z-of_z}
use Rattle.std.proofs.lemmas.Result.{IfOk-weaker}
use Rattle.nbody_model.specs.Nodes.{members}
use Rattle.nbody_model.specs.Force.{share}
use Rattle.force_sharing.specs.Sharing.{AreMembers, shares_of}
use Rattle.force_field.proofs.At.{nobody}
use Rattle.force_field.proofs.Members.{are-members, place-within, members-room, share-there, share-small}
use Rattle.force_field.proofs.shares.share_along.Goals as goal

pub share_at-requires-clause-members : goal.share_at-requires-clause-members
share_at-requires-clause-members c = subst AreMembers (sym c.requires.ready.members_are) (are-members c.args.bodies.now c.args.cell.now c.args.i nobody c.requires.bodies c.requires.within (c.requires.inside nobody))

pub share_at-requires-clause-room : goal.share_at-requires-clause-room
share_at-requires-clause-room c = members-room c.args.bodies.now c.args.cell.now c.args.i c.args.place c.args.work.now c.requires.ready

pub share_at-requires-clause-within : goal.share_at-requires-clause-within
share_at-requires-clause-within c = place-within c.args.bodies.now c.args.cell.now c.args.i c.args.place nobody c.args.work.now c.requires.within (c.requires.inside nobody) c.requires.ready

pub returns-clause-value : goal.returns-clause-value
returns-clause-value c = λ b.
    let B = c.args.bodies.now in
    let ms = members B c.args.cell.now in
    let n = c.args.total in
    let read : get_or (shares_of c.args.work.now.members.items n) c.args.place (pos 0) ≡ share ms n (get_or B c.args.i b) =
    ap (λ xs. get_or (shares_of xs n) c.args.place (pos 0)) c.requires.ready.members_are ∙ share-there B c.args.cell.now c.args.i c.args.place b n c.requires.within (c.requires.inside b) c.requires.ready.place_is in
    IfOk-weaker c.share_at.result _ (λ m. m ≡ share ms n (get_or B c.args.i b)) (λ m e. e ∙ ap (λ t. get_or (shares_of c.args.work.now.members.items t) c.args.place (pos 0)) (to_z-of_z w128 n c.ranges.total) ∙ read) c.share_at.ensures.value

pub returns-clause-small : goal.returns-clause-small
returns-clause-small c =
    let B = c.args.bodies.now in
    let ms = members B c.args.cell.now in
    IfOk-weaker c.share_at.result (λ m. m ≡ share ms c.args.total (get_or B c.args.i nobody)) (λ m. unsigned_abs m ≤ 2 ^ 108)
    (λ m e. rw e (share-small B c.args.cell.now c.args.i nobody c.args.total c.requires.bodies c.requires.within (c.requires.inside nobody) c.requires.size)) (returns-clause-value c nobody)
