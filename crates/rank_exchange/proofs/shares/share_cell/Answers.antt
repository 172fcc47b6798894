use Rattle.std.proofs.Common.{◌≡◌, ℕ, ◌≤◌, ℤ, List, length, map, refl, ap, ◌∙◌, sym, subst, arith}
use Rattle.std.proofs.lemmas.List.{length-map}
use Rattle.force_sharing.specs.Sharing.{Member, AreMembers, shares_of, body_of}
use Rattle.nbody_model.specs.Force.{share}
use Rattle.rank_exchange.specs.declared.shares.Kept.{Kept}
use Rattle.rank_exchange.specs.Shares.{AreAxes, member_at}
use Rattle.rank_exchange.proofs.Groups.{cast_small, nobody}
use Rattle.rank_exchange.proofs.shares.share_cell.Goals as goal

members_of : (ks : List Kept) (ns : List ℕ) (ms xs : List Member) → ms ≡ map (member_at ks nobody) ns → xs ≡ ms → ((d : Kept) → AreMembers (map (member_at ks d) ns)) → AreMembers xs
members_of ks ns ms xs e f a = subst AreMembers (sym (f ∙ e)) (a nobody)

room_for : (ks : List Kept) (ns : List ℕ) (ms xs : List Member) (n m : ℕ) → ms ≡ map (member_at ks nobody) ns → xs ≡ ms → length ns ≤ n → m ≡ n → length xs ≤ m
room_for ks ns ms xs n m e f h g = omega (arith, ap length f, ap length e, length-map ns (member_at ks nobody), h, g)

as_long : (ks : List Kept) (ns : List ℕ) (ms xs : List Member) (N : ℤ) (ys zs : List ℤ) → ms ≡ map (member_at ks nobody) ns → xs ≡ ms → ys ≡ shares_of xs N → zs ≡ ys → length zs ≡ length ns
as_long ks ns ms xs N ys zs e f g h = omega (arith, ap length h, ap length g, length-map xs (λ m. share (map body_of xs) N (body_of m)), ap length f, ap length e, length-map ns (member_at ks nobody))

axis_of : (ks : List Kept) (d : Kept) (ns : List ℕ) (ms xs : List Member) (M N : ℤ) (ys zs : List ℤ) → ms ≡ map (member_at ks d) ns → xs ≡ ms → ys ≡ shares_of xs M → M ≡ N → zs ≡ ys → zs ≡ shares_of (map (member_at ks d) ns) N
axis_of ks d ns ms xs M N ys zs e f g k h = h ∙ g ∙ ap (shares_of xs) k ∙ ap (λ t. shares_of t N) (f ∙ e)

pub share_axis-requires-clause-members : goal.share_axis-requires-clause-members
share_axis-requires-clause-members c = members_of c.args.kept.now c.args.numbers.now _ _ (c.in_ok-list.ensures nobody) c.deref.ensures.value c.requires.members

pub share_axis-requires-clause-room : goal.share_axis-requires-clause-room
share_axis-requires-clause-room c = room_for c.args.kept.now c.args.numbers.now c.list.new.members.items c.deref.result.now c.args.room.now.scratch _ (c.in_ok-list.ensures nobody) c.deref.ensures.value c.requires.scratch refl

pub share_axis-requires-2-clause-members : goal.share_axis-requires-2-clause-members
share_axis-requires-2-clause-members c = members_of c.args.kept.now c.args.numbers.now _ _ (c.in_ok-list.ensures nobody) c.deref-2.ensures.value c.requires.members

pub share_axis-requires-2-clause-room : goal.share_axis-requires-2-clause-room
share_axis-requires-2-clause-room c = room_for c.args.kept.now c.args.numbers.now c.list.new.members.items c.deref-2.result.now c.args.room.now.scratch _ (c.in_ok-list.ensures nobody) c.deref-2.ensures.value c.requires.scratch c.share_axis.ensures.room

pub share_axis-requires-3-clause-members : goal.share_axis-requires-3-clause-members
share_axis-requires-3-clause-members c = members_of c.args.kept.now c.args.numbers.now _ _ (c.in_ok-list.ensures nobody) c.deref-3.ensures.value c.requires.members

pub share_axis-requires-3-clause-room : goal.share_axis-requires-3-clause-room
share_axis-requires-3-clause-room c = room_for c.args.kept.now c.args.numbers.now c.list.new.members.items c.deref-3.result.now c.args.room.now.scratch _ (c.in_ok-list.ensures nobody) c.deref-3.ensures.value c.requires.scratch (c.share_axis-2.ensures.room ∙ c.share_axis.ensures.room)

pub push_shares-requires-clause-long_x : goal.push_shares-requires-clause-long_x
push_shares-requires-clause-long_x c = as_long c.args.kept.now c.args.numbers.now c.list.new.members.items c.deref.result.now _ c.share_axis.new.out.items c.deref-4.result.now (c.in_ok-list.ensures nobody) c.deref.ensures.value c.in_ok-share_axis.ensures.shares c.deref-4.ensures.value

pub push_shares-requires-clause-long_y : goal.push_shares-requires-clause-long_y
push_shares-requires-clause-long_y c = as_long c.args.kept.now c.args.numbers.now c.list.new.members.items c.deref-2.result.now _ c.share_axis-2.new.out.items c.deref-5.result.now (c.in_ok-list.ensures nobody) c.deref-2.ensures.value c.in_ok-share_axis-2.ensures.shares c.deref-5.ensures.value

pub push_shares-requires-clause-long_z : goal.push_shares-requires-clause-long_z
push_shares-requires-clause-long_z c = as_long c.args.kept.now c.args.numbers.now c.list.new.members.items c.deref-3.result.now _ c.share_axis-3.new.out.items c.deref-6.result.now (c.in_ok-list.ensures nobody) c.deref-3.ensures.value c.in_ok-share_axis-3.ensures.shares c.deref-6.ensures.value

pub returns-clause-shares : goal.returns-clause-shares
returns-clause-shares c = λ d.
    let axes : AreAxes c.args.total (map (member_at c.args.kept.now d) c.args.numbers.now) c.deref-4.result.now c.deref-5.result.now c.deref-6.result.now = record {
      on_x = axis_of c.args.kept.now d c.args.numbers.now c.list.new.members.items c.deref.result.now _ c.args.total.x c.share_axis.new.out.items c.deref-4.result.now (c.in_ok-list.ensures d) c.deref.ensures.value c.in_ok-share_axis.ensures.shares (cast_small c.args.total.x c.requires.small.on_x) c.deref-4.ensures.value;
      on_y = axis_of c.args.kept.now d c.args.numbers.now c.list.new.members.items c.deref-2.result.now _ c.args.total.y c.share_axis-2.new.out.items c.deref-5.result.now (c.in_ok-list.ensures d) c.deref-2.ensures.value c.in_ok-share_axis-2.ensures.shares (cast_small c.args.total.y c.requires.small.on_y) c.deref-5.ensures.value;
      on_z = axis_of c.args.kept.now d c.args.numbers.now c.list.new.members.items c.deref-3.result.now _ c.args.total.z c.share_axis-3.new.out.items c.deref-6.result.now (c.in_ok-list.ensures d) c.deref-3.ensures.value c.in_ok-share_axis-3.ensures.shares (cast_small c.args.total.z c.requires.small.on_z) c.deref-6.ensures.value;
    } in
    c.in_ok-push_shares.ensures d c.args.total axes
