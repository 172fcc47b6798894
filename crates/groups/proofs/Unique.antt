-- Bodies have one list of heads.
use Rattle.std.proofs.Common.{◌≡◌, ℕ, ◌<◌, ◌≤◌, List, get_or, sym, ◌∙◌, ap, arith}
use Rattle.std.proofs.lemmas.List.{ext_get_or}
use Rattle.nbody_model.specs.Bodies.{BodyData}
use Rattle.group_file.specs.Catalogues.{GroupData}
use Rattle.groups.specs.Groups.{Web, IsJoined, IsHead, AreHeads, IsCatalogue, catalogue}
use Rattle.groups.proofs.Steps.{IsEven, joined_both, joined_turned}

head_at_most : (w : Web) (k h i : ℕ) → IsHead w k h → IsHead w k i → h ≤ i
head_at_most w k h i a b = a.least i b.within b.joined

pub one_head : (w : Web) (k h i : ℕ) → IsHead w k h → IsHead w k i → h ≡ i
one_head w k h i a b = omega (arith, head_at_most w k h i a b, head_at_most w k i h b a)

-- places with one head are joined, and joined places have one head
pub same_class : (w : Web) → IsEven w → (j k h : ℕ) → IsHead w j h → IsHead w k h → IsJoined w j k
same_class w even j k h a b = joined_both w j h k (joined_turned w even h j a.within a.joined) b.joined

pub same_head : (w : Web) (j k h i : ℕ) → IsJoined w j k → IsJoined w k j → IsHead w j h → IsHead w k i → h ≡ i
same_head w j k h i s t a b = omega (arith, a.least i b.within (joined_both w i k j b.joined t), b.least h a.within (joined_both w h j k a.joined s))

pub one_heads : (w : Web) (xs ys : List ℕ) → AreHeads w xs → AreHeads w ys → xs ≡ ys
one_heads w xs ys a b = ext_get_or 0 xs ys (a.as_many ∙ sym b.as_many) (λ i h. (let n : i < w.size = omega (arith, h, a.as_many) in one_head w i (get_or xs i 0) (get_or ys i 0) (a.each i 0 n) (b.each i 0 n)))

pub one_catalogue : (reach least : ℕ) (B : List BodyData) (C D : List GroupData) → IsCatalogue reach least B C → IsCatalogue reach least B D → C ≡ D
one_catalogue reach least B C D c d = c.is ∙ ap (catalogue least B) (one_heads _ c.heads d.heads c.are d.are) ∙ sym d.is
