-- Words that are written.
use Rattle.std.proofs.Common.{◌≡◌, ℕ, ◌<◌, true, List, length}
use Rattle.std.specs.List.{list_all}
use Rattle.store_io.specs.Names.{is_visible}

-- a word that is written: at least one byte, each visible
pub record IsPlain (w : List ℕ) : Type 0 where
  pub some : 0 < length w
  pub visible : list_all is_visible w ≡ true
