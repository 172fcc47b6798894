-- The two cells of a cover may act on each other.
use Rattle.std.proofs.Common.{◌≡◌, ◌≤◌, ◌<◌, ◌+◌, ◌^◌, ℕ, Bool, true, false, cond, List, length, get_or, refl, sym, ap, subst, ◌∙◌, arith}
use Rattle.std.specs.List.{list_any}
use Rattle.cell_space.specs.Cells.{Position, CellData, same_place, before, AreDisjoint, cell_at}
use Rattle.cell_space.proofs.Cells.{same_place-exact}
use Rattle.nbody_model.specs.Bodies.{BodyData}
use Rattle.nbody_model.specs.Setups.{SetupData}
use Rattle.nbody_model.specs.Nodes.{positions_of}
use Rattle.nbody_model.specs.Moments.{moments}
use Rattle.nbody_model.specs.Covers.{Opening, opening_of, cover, final, orient, same_pair, interactions}
use Rattle.model_laws.specs.Laws.{AreBodies, IsSound, IsFair, HasOneCover, IsPairOfNodes}
use Rattle.model_laws.proofs.Among.{Witness, any-witness, each-among, any-among, among-map}
use Rattle.model_laws.proofs.Fair.{opening_sound}
use Rattle.model_laws.proofs.Same.{final_fair}
use Rattle.model_laws.proofs.PairLimits.{interactions_final, disjoint_masses, mass_is}
use Rattle.model_laws.proofs.Pairs.{pairs_of_nodes}
use Rattle.model_laws.proofs.Partners.{one_cover}
use Rattle.model_laws.proofs.Turned.{same_pair-exact}
use Rattle.force_field.specs.Levels.{IsCover}
use Rattle.force_field.proofs.At.{among-at}

-- final one way round and the other, and with nothing in common
pub record Act (o : Opening) (a b : CellData) : Type 0 where
  pub first : final o a b ≡ true
  pub second : final o b a ≡ true
  pub apart : AreDisjoint a b

place-among : (B : List BodyData) (i : ℕ) (b : BodyData) → i < length B → list_any (same_place (get_or B i b).motion.pos) (positions_of B) ≡ true
place-among B i b h =
    let p = (get_or B i b).motion.pos in
    any-among (same_place p) p (positions_of B) (among-map (λ (b : BodyData). b.motion.pos) (get_or B i b) B (among-at B i b h)) ((same_place-exact p p).1 refl)

abbrev IsFinal : Opening → CellData × CellData → Type 0
IsFinal o x = final o x.0 x.1 ≡ true

abbrev AreBothApart : CellData × CellData → Type 0
AreBothApart x = AreDisjoint x.0 x.1

turn_cases : (o : Opening) → IsFair o → (a b : CellData) (t : Bool) → IsFinal o (cond t (b, a) (a, b)) → AreBothApart (cond t (b, a) (a, b)) → Act o a b
turn_cases o fair a b true f d = record { first = final_fair o fair a b ∙ f; second = f; apart = record { apart = λ p x y. d.apart p y x } }
turn_cases o fair a b false f d = record { first = f; second = final_fair o fair b a ∙ f; apart = d }

-- the turned pair is an interaction, so what holds of these holds of it
cover-acts : (o : Opening) → IsSound o → (p q : Position) → HasOneCover o p q → (a b : CellData) → cover o p q ≡ (a, b) → Act o a b
cover-acts o sound p q one a b e =
    let there : list_any (same_pair (orient (a, b))) (interactions o) ≡ true = ap (λ x. list_any (same_pair (orient x)) (interactions o)) (sym e) ∙ one.there in
    let w : Witness (same_pair (orient (a, b))) (interactions o) = any-witness (same_pair (orient (a, b))) (interactions o) there in
    let same : w.it ≡ orient (a, b) = sym ((same_pair-exact (orient (a, b)) w.it).0 w.passes) in
    let f : final o w.it.0 w.it.1 ≡ true = each-among (λ x. final o x.0 x.1 ≡ true) w.it (interactions o) (interactions_final o sound) w.«in» in
    let d : IsPairOfNodes o w.it = each-among (IsPairOfNodes o) w.it (interactions o) (pairs_of_nodes o sound).interactions_each w.«in» in
    turn_cases o sound.fair a b (before b a) (ap (λ (x : CellData × CellData). final o x.0 x.1) (sym same) ∙ f) (subst (λ (x : CellData × CellData). AreDisjoint x.0 x.1) same d.apart)

-- so the cells of two bodies' cover may act on each other
pub bodies-act : (s : SetupData) (B : List BodyData) (i j : ℕ) (b d : BodyData) (k l : ℕ) → AreBodies B → i < length B → j < length B → same_place (get_or B i b).motion.pos (get_or B j d).motion.pos ≡ false →
    IsCover (opening_of s B) (get_or B i b).motion.pos (get_or B j d).motion.pos k l → Act (opening_of s B) (cell_at k (get_or B i b).motion.pos) (cell_at l (get_or B j d).motion.pos)
bodies-act s B i j b d k l all low high differ covered =
    let o = opening_of s B in
    let sound : IsSound o = opening_sound s B all.in_box in
    let p = (get_or B i b).motion.pos in
    let q = (get_or B j d).motion.pos in
    cover-acts o sound p q (one_cover o sound p q (place-among B i b low) (place-among B j d high) differ) (cell_at k p) (cell_at l q) covered

-- ---- their masses

pub light-both : (s : SetupData) (B : List BodyData) (a b : CellData) → AreBodies B → AreDisjoint a b → (moments s B a).mass + (moments s B b).mass ≤ 2 ^ 32
light-both s B a b all d = omega (arith, mass_is s B a, mass_is s B b, disjoint_masses B a b d, all.valid.light)
