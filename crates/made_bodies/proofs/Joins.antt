-- Pieces that were put behind one another.
use Rattle.std.proofs.Common.{◌≡◌, ℕ, List, ◌++◌, append_assoc}

pub join_six : (a b c d e f l1 l2 l3 l4 l5 l6 : List ℕ) → l1 ≡ a → l2 ≡ l1 ++ b → l3 ≡ l2 ++ c → l4 ≡ l3 ++ d → l5 ≡ l4 ++ e → l6 ≡ l5 ++ f → l6 ≡ a ++ b ++ c ++ d ++ e ++ f
join_six a b c d e f l1 l2 l3 l4 l5 l6 e1 e2 e3 e4 e5 e6 = rw (e6, e5, e4, e3, e2, e1) (simp append_assoc)
