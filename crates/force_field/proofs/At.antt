-- Elements of a list by their places.
use Rattle.std.proofs.Common.{◌≡◌, ℕ, zero, suc, ◌<◌, List, [], ◌∷◌, length, get_or, sym, ◌∙◌, arith, inl, inr, refl}
use Rattle.std.specs.List.{AllByRecursion}
use Rattle.std.proofs.lemmas.List.{get_or_default}
use Rattle.fixed_point.specs.Vectors.{origin}
use Rattle.nbody_model.specs.Bodies.{BodyData}
use Rattle.model_laws.proofs.Among.{Among, each-among}

pub among-at : {X : Type 0} (xs : List X) (i : ℕ) (d : X) → i < length xs → Among (get_or xs i d) xs
among-at [] i d h = absurd (omega (arith, h))
among-at (x ∷ xs) zero d h = inl refl
among-at (x ∷ xs) (suc i) d h = inr (among-at xs i d (omega (arith, h)))

pub each-at : {X : Type 0} (P : X → Type 0) (xs : List X) (i : ℕ) (d : X) → AllByRecursion P xs → i < length xs → P (get_or xs i d)
each-at P xs i d all h = each-among P (get_or xs i d) xs all (among-at xs i d h)

-- what was read at a place stands there whatever the default
pub read-at : {X : Type 0} (xs : List X) (i : ℕ) (d x : X) → i < length xs → x ≡ get_or xs i x → get_or xs i d ≡ x
read-at xs i d x h read = get_or_default xs i d x h ∙ sym read

-- some body
pub nobody : BodyData
nobody = record { id = 0; kind = 0; mass = 0; motion = record { pos = record { x = 0; y = 0; z = 0 }; mom = origin } }
