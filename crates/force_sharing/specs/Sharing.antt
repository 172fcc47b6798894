-- Shares of a total among members, of which only the ids and the masses count.
use Rattle.std.specs.Prelude.{◌≡◌, ℕ, ◌^◌, ◌≤◌, ℤ, List, length, map, sum_by, All}
use Rattle.std.specs.List.Sorted.{IsStrictlyIncreasing}
use Rattle.fixed_point.specs.Vectors.{origin}
use Rattle.nbody_model.specs.Bodies.{BodyData}
use Rattle.nbody_model.specs.Force.{share}

-- an id and a mass
abbrev pub Member : Type 0
Member = ℕ × ℕ

-- a body with this id and this mass
abbrev pub body_of : Member → BodyData
body_of m = record { id = m.0; kind = 1; mass = m.1; motion = record { pos = record { x = 0; y = 0; z = 0 }; mom = origin } }

-- the shares of the members in a whole number, in their order
abbrev pub shares_of : List Member → ℤ → List ℤ
shares_of ms total = map (λ m. share (map body_of ms) total (body_of m)) ms

-- at least one member, ascending in id, each of a mass, few enough and light enough together
pub record AreMembers (ms : List Member) : Type 0 where
  pub some : 1 ≤ length ms
  pub ascending : IsStrictlyIncreasing (map (λ m. m.0) ms)
  pub heavy : All (λ m. 1 ≤ m.1) ms
  pub few : length ms ≤ 1048576
  pub light : sum_by (λ m. m.1) ms ≤ 2 ^ 32

-- the shares look at ids and masses alone
abbrev pub SharesLookAtIdsAndMasses : Type 0
SharesLookAtIdsAndMasses = (bodies : List BodyData) (total : ℤ) → shares_of (map (λ b. (b.id, b.mass)) bodies) total ≡ map (share bodies total) bodies
