-- Shares look at ids and masses alone.
use Rattle.std.proofs.Common.{◌≡◌, ℕ, ◌*◌, ◌/◌, ℤ, pos, unsigned_abs, cond, List, [], ◌∷◌, map, sum_by, count_by, refl, ap, ◌∙◌, arith}
use Rattle.std.proofs.lemmas.List.Sums.{sum_by-cons}
use Rattle.std.specs.Int.{int_rem_euclid}
use Rattle.nbody_model.specs.Bodies.{BodyData}
use Rattle.nbody_model.specs.Moments.{mass_of}
use Rattle.nbody_model.specs.Force.{share, small_share, is_served_before}
use Rattle.force_sharing.specs.Sharing.{Member, body_of, SharesLookAtIdsAndMasses}

abbrev member : BodyData → Member
member b = (b.id, b.mass)

abbrev alone : List BodyData → List BodyData
alone bs = map body_of (map member bs)

sum_alone : (f : BodyData → ℕ) → ((b : BodyData) → f (body_of (member b)) ≡ f b) → (bs : List BodyData) → sum_by f (alone bs) ≡ sum_by f bs
sum_alone f e [] = refl
sum_alone f e (b ∷ bs) = omega (arith, sum_by-cons f (body_of (member b)) (alone bs), sum_by-cons f b bs, e b, sum_alone f e bs)

share_alone : (bs : List BodyData) (N : ℤ) (b : BodyData) → share (alone bs) N (body_of (member b)) ≡ share bs N b
unfolding share small_share
share_alone bs N b =
    let M : mass_of (alone bs) ≡ mass_of bs = sum_alone (λ b. b.mass) (λ b. refl) bs in
    let floors : (s all : ℕ) → sum_by (λ a. s * a.mass / all) (alone bs) ≡ sum_by (λ a. s * a.mass / all) bs = λ s all. sum_alone (λ a. s * a.mass / all) (λ b. refl) bs in
    let counts : (s all : ℕ) → count_by (is_served_before s all b) (alone bs) ≡ count_by (is_served_before s all b) bs = λ s all. sum_alone (λ a. cond (is_served_before s all b a) 1 0) (λ b. refl) bs in
    let s : ℕ = unsigned_abs (int_rem_euclid N (pos (mass_of bs))) in
    rw (M, floors s (mass_of bs), counts s (mass_of bs)) refl

map_alone : (all bs : List BodyData) (N : ℤ) → map (λ m. share (alone all) N (body_of m)) (map member bs) ≡ map (share all N) bs
map_alone all [] N = refl
map_alone all (b ∷ bs) N = ap (λ t. t ∷ map (λ m. share (alone all) N (body_of m)) (map member bs)) (share_alone all N b) ∙ ap (λ t. share all N b ∷ t) (map_alone all bs N)

pub look_alone : SharesLookAtIdsAndMasses
look_alone bs N = map_alone bs bs N
