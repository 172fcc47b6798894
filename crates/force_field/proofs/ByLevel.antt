-- The force on a body, level by level.
use Rattle.std.proofs.Common.{◌≡◌, ℕ, ◌+◌, ◌*◌, ◌<◌, ◌≤◌, ◌^◌, List, [], ◌∷◌, ◌++◌, length, map, take, get_or, sum_by, All, refl, ap, sym, subst, ◌∙◌, arith}
use Rattle.std.specs.List.{range_with_len}
use Rattle.std.proofs.lemmas.List.{map_more, take_all}
use Rattle.std.proofs.lemmas.List.Elements.{All-push}
use Rattle.std.proofs.lemmas.List.FromFn.{map-range_with_len_more}
use Rattle.std.proofs.lemmas.List.Sums.{fold_push, sum_by_more}
use Rattle.fixed_point.specs.declared.V3.{V3}
use Rattle.fixed_point.specs.Vectors.{origin, plus, sum_of, IsAtMost}
use Rattle.fixed_point.proofs.VectorLemmas.{IsAtMost-plus}
use Rattle.cell_space.specs.Cells.{CellData, cell_at}
use Rattle.nbody_model.specs.Bodies.{BodyData}
use Rattle.nbody_model.specs.Tables.{Gravity}
use Rattle.nbody_model.specs.Nodes.{members}
use Rattle.nbody_model.specs.Force.{share_of, node_total, force_at, forces}

-- the share of a body in the total of a cell
unfoldable pub share_by : Gravity → List BodyData → BodyData → CellData → V3
share_by g B b c = share_of (members B c) (node_total g B c) b

-- the shares in the cells of the levels below n
unfoldable pub below : Gravity → List BodyData → BodyData → ℕ → V3
below g B b n = sum_of (share_by g B b) (map (λ l. cell_at l b.motion.pos) (range_with_len 0 n))

pub below-none : (g : Gravity) (B : List BodyData) (b : BodyData) → origin ≡ below g B b 0
unfolding below
below-none g B b = refl

pub below-more : (g : Gravity) (B : List BodyData) (b : BodyData) (n : ℕ) (force part after : V3) (c : CellData) (total : V3) → force ≡ below g B b n → c ≡ cell_at n b.motion.pos → total ≡ node_total g B (cell_at n b.motion.pos) →
    part ≡ share_of (members B c) total b → after ≡ plus force part → after ≡ below g B b (n + 1)
unfolding below share_by
below-more g B b n force part after c total so_far at found is e =
    e ∙ ap (λ t. plus t part) so_far
    ∙ ap (plus (sum_of (share_by g B b) (map (λ l. cell_at l b.motion.pos) (range_with_len 0 n)))) (is ∙ ap (λ t. share_of (members B c) t b) found ∙ ap (λ t. share_of (members B t) (node_total g B (cell_at n b.motion.pos)) b) at)
    ∙ sym (ap (sum_of (share_by g B b)) (map-range_with_len_more (λ l. cell_at l b.motion.pos) 0 n n (omega arith))
    ∙ fold_push (λ total x. plus total (share_by g B b x)) origin (map (λ l. cell_at l b.motion.pos) (range_with_len 0 n)) (cell_at n b.motion.pos))

pub below-all : (g : Gravity) (B : List BodyData) (b : BodyData) (n : ℕ) (force : V3) → n ≡ 33 → force ≡ below g B b n → force ≡ force_at g B b
unfolding below share_by force_at
below-all g B b n force e so_far = so_far ∙ ap (λ k. sum_of (share_by g B b) (map (λ l. cell_at l b.motion.pos) (range_with_len 0 k))) e

-- ---- how large it is

pub part-most : (n : ℕ) (v w after : V3) → after ≡ plus v w → IsAtMost (n * 2 ^ 108) v → IsAtMost (2 ^ 108) w → IsAtMost ((n + 1) * 2 ^ 108) after
part-most n v w after is h k = let e : n * 2 ^ 108 + 2 ^ 108 ≡ (n + 1) * 2 ^ 108 = omega arith in rw (is, ← e) (IsAtMost-plus (n * 2 ^ 108) (2 ^ 108) v w h k)

-- ---- all bodies

pub forces-more : (g : Gravity) (B : List BodyData) (i : ℕ) (b : BodyData) (so_far after : List V3) (force : V3) → i < length B → so_far ≡ map (force_at g B) (take i B) → force ≡ force_at g B (get_or B i b) → after ≡ so_far ++ force ∷ [] →
    after ≡ map (force_at g B) (take (i + 1) B)
forces-more g B i b so_far after force lt e is pushed =
    pushed ∙ ap (λ t. t ++ force ∷ []) e ∙ ap (λ t. map (force_at g B) (take i B) ++ t ∷ []) is ∙ sym (map_more (force_at g B) B i b lt)

pub forces-all : (g : Gravity) (B : List BodyData) (i : ℕ) (found : List V3) → length B ≤ i → found ≡ map (force_at g B) (take i B) → found ≡ forces g B
unfolding forces
forces-all g B i found le e = e ∙ ap (map (force_at g B)) (take_all i B le)

pub each-more : {X : Type 0} (P : X → Type 0) (xs after : List X) (x : X) → All P xs → P x → after ≡ xs ++ x ∷ [] → All P after
each-more P xs after x h k e = subst (All P) (sym e) (All-push P xs x h k)

pub counts-more : (f : BodyData → ℕ) (B : List BodyData) (i : ℕ) (b : BodyData) (so_far one : ℕ) → i < length B → so_far ≡ sum_by f (take i B) → one ≡ f (get_or B i b) → so_far + one ≡ sum_by f (take (i + 1) B)
counts-more f B i b so_far one lt e is = omega (arith, e, is, sum_by_more f B i b lt)
