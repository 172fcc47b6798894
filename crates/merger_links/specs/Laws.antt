-- The law of links.
use Rattle.std.specs.Prelude.{◌≡◌, List}
use Rattle.group_file.specs.Catalogues.{GroupData, IsGood}
use Rattle.merger_links.specs.declared.link.Link.{Link}
use Rattle.merger_links.specs.Links.{AreLinks}

-- two catalogues have one list of links
abbrev pub LinksAreOne : Type 0
LinksAreOne = (C D : List GroupData) (L M : List Link) → IsGood D → AreLinks C D L → AreLinks C D M → L ≡ M
