-- The rows of bodies that a file has room for.
use Rattle.std.proofs.Common.{◌≡◌, zero, suc, ◌^◌, ℤ, pos, ◌≤ℤ◌, neg_ℤ, List, [], ◌∷◌, map, All, SFits, w64, refl, ap, ◌∙◌, arith, le_of_suc-le-suc}
use Rattle.std.proofs.lemmas.Int.{fits_signed_from_abs, ints}
use Rattle.std.proofs.lemmas.List.Elements.{All-head, All-tail}
use Rattle.nbody_model.specs.Bodies.{BodyData}
use Rattle.particle_set.specs.declared.row.Row.{Row}
use Rattle.particle_set.specs.Rows.{HasMass, HasMomentum, body_of}
use Rattle.particle_set.specs.Stored.{IsStorable}

unfoldable pub row_of : BodyData → Row
row_of b =
    record {
      id = b.id;
      kind = b.kind;
      mass = b.mass;
      pos = b.motion.pos.x ∷ b.motion.pos.y ∷ b.motion.pos.z ∷ [];
      mom = b.motion.mom.x ∷ b.motion.mom.y ∷ b.motion.mom.z ∷ [];
    }

body_of_row : (b : BodyData) → body_of (row_of b) ≡ b
unfolding row_of
body_of_row b = refl

pub bodies_of_rows : (bs : List BodyData) → map body_of (map row_of bs) ≡ bs
bodies_of_rows [] = refl
bodies_of_rows (b ∷ bs) = ap (λ x. x ∷ map body_of (map row_of bs)) (body_of_row b) ∙ ap (λ xs. b ∷ xs) (bodies_of_rows bs)

all_rows : (P : Row → Type 0) → ((b : BodyData) → IsStorable b → P (row_of b)) → (bs : List BodyData) → All IsStorable bs → All P (map row_of bs)
all_rows P f [] s k d l = absurd (omega (arith, l))
all_rows P f (b ∷ bs) s zero d l = f b (All-head IsStorable b bs s)
all_rows P f (b ∷ bs) s (suc k) d l = all_rows P f bs (All-tail IsStorable b bs s) k d (le_of_suc-le-suc l)

has_mass : (b : BodyData) → IsStorable b → HasMass (row_of b)
unfolding row_of
has_mass b s = record { low = s.heavy }

has_momentum : (b : BodyData) → IsStorable b → HasMomentum (row_of b)
unfolding row_of
has_momentum b s = record { in_range = s.momentum }

pub rows_massive : (bs : List BodyData) → All IsStorable bs → All HasMass (map row_of bs)
rows_massive bs s = all_rows HasMass has_mass bs s

pub rows_in_range : (bs : List BodyData) → All IsStorable bs → All HasMomentum (map row_of bs)
rows_in_range bs s = all_rows HasMomentum has_momentum bs s

-- a momentum in range fits a word
pub signed_fits : (z : ℤ) → neg_ℤ (pos (2 ^ 62)) ≤ℤ z → z ≤ℤ pos (2 ^ 62) → SFits w64 z
signed_fits z l h = fits_signed_from_abs w64 z (omega (arith, ints, l, h))
