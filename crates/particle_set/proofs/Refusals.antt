-- Sets and refusals of rows in another order.
use Rattle.std.proofs.Common.{◌≡◌, ◌≤◌, ◌^◌, ℕ, List, length, map, All, get_or, Result, Ok, Err, IfErr, IfOk, sym, subst, ◌∙◌, arith}
use Rattle.std.specs.List.Sorted.{IsPermutation}
use Rattle.std.proofs.lemmas.List.Sorted.{All-permutation, IsPermutation-sym, IsPermutation-map, IsPermutation-trans, IsPermutation-refl, length_permutation, sum_by-IsPermutation}
use Rattle.nbody_model.specs.Bodies.{BodyData, IsValid}
use Rattle.particle_set.specs.declared.row.Row.{Row}
use Rattle.particle_set.specs.declared.row.SetErr.{SetErr}
use Rattle.particle_set.specs.declared.row.SetErr.TheVariants.{TooMany, Repeated, ZeroMass, MassTotal, MomRange, Memory}
use Rattle.particle_set.specs.Rows.{body_of, total_mass, HasMass, HasMomentum, IsAlone, IsRepeated, IsMassless, IsOutside, IsLeastId, IsSetOf, IsFirstRefusal, IsMomentumRefusal}
use Rattle.particle_set.proofs.Least.{IsLeastId-permutation, times-permutation}

pub set_of : (rows : List Row) (B : List BodyData) → B ≡ map body_of rows → IsValid (map body_of rows) → All HasMass rows → All HasMomentum rows → IsSetOf rows B
set_of rows B e valid massive in_range = record {
  bodies = subst (λ bs. IsPermutation (map body_of rows) bs) (sym e) (IsPermutation-refl (map body_of rows));
  valid = subst IsValid (sym e) valid;
  massive = massive;
  in_range = in_range;
}

pub IsSetOf-permutation : (rows sorted : List Row) (B : List BodyData) → IsPermutation rows sorted → IsSetOf sorted B → IsSetOf rows B
IsSetOf-permutation rows sorted B p h = record {
  bodies = IsPermutation-trans (map body_of rows) (map body_of sorted) B (IsPermutation-map body_of rows sorted p) h.bodies;
  valid = h.valid;
  massive = All-permutation HasMass sorted rows (IsPermutation-sym rows sorted p) h.massive;
  in_range = All-permutation HasMomentum sorted rows (IsPermutation-sym rows sorted p) h.in_range;
}

alone-permutation : (rows sorted : List Row) → IsPermutation rows sorted → All (IsAlone sorted) sorted → All (IsAlone rows) rows
alone-permutation rows sorted p h =
    let same = All-permutation (IsAlone sorted) sorted rows (IsPermutation-sym rows sorted p) h in
    λ k d lt. record { once = omega (arith, (same k d lt).once, times-permutation (get_or rows k d).id rows sorted p) }

least_repeated-permutation : (rows sorted : List Row) (id : ℕ) → IsPermutation rows sorted → IsLeastId (IsRepeated sorted) sorted id → IsLeastId (IsRepeated rows) rows id
least_repeated-permutation rows sorted id p h =
    IsLeastId-permutation (IsRepeated sorted) (IsRepeated rows) sorted rows id (IsPermutation-sym rows sorted p)
    (λ r q. record { twice = omega (arith, q.twice, times-permutation r.id rows sorted p) })
    (λ r q. record { twice = omega (arith, q.twice, times-permutation r.id rows sorted p) })
    h

least-permutation : (P : Row → Type 0) (rows sorted : List Row) (id : ℕ) → IsPermutation rows sorted → IsLeastId P sorted id → IsLeastId P rows id
least-permutation P rows sorted id p h = IsLeastId-permutation P P sorted rows id (IsPermutation-sym rows sorted p) (λ r q. q) (λ r q. q) h

mass-permutation : (rows sorted : List Row) → IsPermutation rows sorted → total_mass sorted ≡ total_mass rows
mass-permutation rows sorted p = sum_by-IsPermutation (λ (r : Row). r.mass) rows sorted p

pub IsFirstRefusal-permutation : (rows sorted : List Row) (e : SetErr) → IsPermutation rows sorted → IsFirstRefusal sorted e → IsFirstRefusal rows e
IsFirstRefusal-permutation rows sorted (TooMany n) p h = (h.0 ∙ length_permutation rows sorted p, h.1)
IsFirstRefusal-permutation rows sorted (Repeated id) p h = (omega (arith, h.0, length_permutation rows sorted p), least_repeated-permutation rows sorted id p h.1)
IsFirstRefusal-permutation rows sorted (ZeroMass id) p h =
    (omega (arith, h.0, length_permutation rows sorted p), alone-permutation rows sorted p h.1, least-permutation IsMassless rows sorted id p h.2)
IsFirstRefusal-permutation rows sorted (MassTotal sum) p h = (
  omega (arith, h.0, length_permutation rows sorted p),
  alone-permutation rows sorted p h.1,
  All-permutation HasMass sorted rows (IsPermutation-sym rows sorted p) h.2,
  h.3 ∙ mass-permutation rows sorted p,
  h.4,
)
IsFirstRefusal-permutation rows sorted (MomRange id) p h = (
  omega (arith, h.0, length_permutation rows sorted p),
  alone-permutation rows sorted p h.1,
  All-permutation HasMass sorted rows (IsPermutation-sym rows sorted p) h.2,
  omega (arith, h.3, mass-permutation rows sorted p),
  least-permutation IsOutside rows sorted id p h.4,
)
IsFirstRefusal-permutation rows sorted Memory p h = tt

-- a refusal of a momentum is the first one, where no earlier one applies
pub later : (rows : List Row) (e : SetErr) → length rows ≤ 1048576 → All (IsAlone rows) rows → All HasMass rows → total_mass rows ≤ 2 ^ 32 → IsMomentumRefusal rows e → IsFirstRefusal rows e
later rows (TooMany n) few alone massive light h = absurd h
later rows (Repeated id) few alone massive light h = absurd h
later rows (ZeroMass id) few alone massive light h = absurd h
later rows (MassTotal sum) few alone massive light h = absurd h
later rows (MomRange id) few alone massive light h = (few, alone, massive, light, h)
later rows Memory few alone massive light h = tt

pub if_err : {T E : Type 0} {P Q : E → Type 0} (r : Result T E) → ((e : E) → P e → Q e) → IfErr r P → IfErr r Q
if_err (Ok x) f h = tt
if_err (Err e) f h = f e h

pub if_ok : {T E : Type 0} {P Q : T → Type 0} (r : Result T E) → ((x : T) → P x → Q x) → IfOk r P → IfOk r Q
if_ok (Ok x) f h = f x h
if_ok (Err e) f h = tt
