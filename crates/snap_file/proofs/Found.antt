-- Blocks that are found by their names.
use Rattle.std.proofs.Common.{◌≡◌, suc, List, [], ◌∷◌, All, Bool, true, false, cond, Some, subst, arith}
use Rattle.std.specs.Prelude.{find}
use Rattle.snapshot_blocks.specs.declared.block.Block.{Block}

all_tail : (P : Block → Type 0) (x : Block) (xs : List Block) → All P (x ∷ xs) → All P xs
all_tail P x xs h k d lt = h (suc k) d (omega arith)

found_in : (P : Block → Type 0) (t : Block → Bool) (y x : Block) (ys : List Block) (b : Bool) → P y → (find t ys ≡ Some x → P x) → cond b (Some y) (find t ys) ≡ Some x → P x
found_in P t y x ys true here rest e = (let same : y ≡ x = cc in subst P same here)
found_in P t y x ys false here rest e = rest e

-- what holds of each block holds of the one that is found
pub find_holds : (P : Block → Type 0) (t : Block → Bool) (xs : List Block) (x : Block) → All P xs → find t xs ≡ Some x → P x
find_holds P t [] x h e = absurd (cc)
find_holds P t (y ∷ ys) x h e = found_in P t y x ys (t y) (h 0 y (omega arith)) (λ f. find_holds P t ys x (all_tail P y ys h) f) e
