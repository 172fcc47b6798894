use Rattle.std.proofs.Common.{eqb, true, false, ◌&&◌, Bool, ◌≡◌, refl, ap, ◌∙◌}
use Rattle.cell_space.specs.Cells.{digit}
use Rattle.cell_space.proofs.Cells.{contains_child}
use Rattle.cell_space.proofs.laws.digit_names.Goals as goal

and_true : (a b : Bool) → b ≡ true → (a && b) ≡ a
and_true a b e = ap (λ t. a && t) e ∙ plain a
  where
    plain : (a : Bool) → (a && true) ≡ a
    plain true = refl
    plain false = refl

pub returns : goal.returns
returns c = λ a h p k l e. contains_child a k p h l ∙ and_true (eqb k (digit p a.level)) _ e
