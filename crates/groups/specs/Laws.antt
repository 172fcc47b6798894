-- The law of catalogues.
use Rattle.std.specs.Prelude.{◌≡◌, ℕ, List}
use Rattle.nbody_model.specs.Bodies.{BodyData}
use Rattle.group_file.specs.Catalogues.{GroupData}
use Rattle.groups.specs.Groups.{IsCatalogue}

-- bodies have one catalogue
abbrev pub CataloguesAreOne : Type 0
CataloguesAreOne = (reach least : ℕ) (B : List BodyData) (C D : List GroupData) → IsCatalogue reach least B C → IsCatalogue reach least B D → C ≡ D
