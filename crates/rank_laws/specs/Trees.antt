-- What comes of an element where each is replaced by others that lie less deep, all of it, or only as far as some
-- elements are known.
use Rattle.std.specs.Prelude.{◌<◌, ℕ, Bool, List, [], ◌∷◌, ◌++◌, cond, flat_map}
use Rattle.std.proofs.Common.{zero, suc}
use Rattle.model_laws.proofs.Among.{Among}

module _ {X Y : Type 0} (depth : X → ℕ) (here : X → List Y) (next : X → List X) where
  -- what stands at an element and at all that comes of it in fewer than n steps
  abbrev pub tree_in : ℕ → X → List Y
  tree_in zero x = []
  tree_in (suc n) x = here x ++ flat_map (λ y. tree_in n y) (next x)

  -- what stands at an element and at all that comes of it
  unfoldable pub tree : X → List Y
  tree x = tree_in (suc (depth x)) x

-- what replaces an element lies less deep
abbrev pub IsFalling : {X : Type 0} → (X → ℕ) → (X → List X) → Type 0
IsFalling {X} depth next = (x y : X) → Among y (next x) → depth y < depth x

module _ {X : Type 0} (depth : X → ℕ) (next : X → List X) where
  -- an element and all that comes of it
  abbrev pub all_from : X → List X
  all_from x = tree depth (λ y. y ∷ []) next x

  -- only a known element is replaced
  abbrev pub next_known : (X → Bool) → X → List X
  next_known known x = cond (known x) (next x) []

  -- the known ones among what then comes of an element: they are worked off
  abbrev pub worked : (X → Bool) → X → List X
  worked known x = tree depth (λ y. cond (known y) (y ∷ []) []) (next_known known) x

  -- the others: they wait
  abbrev pub waiting : (X → Bool) → X → List X
  waiting known x = tree depth (λ y. cond (known y) [] (y ∷ [])) (next_known known) x
