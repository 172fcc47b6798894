-- Pieces of a line, put behind it one after another.
use Rattle.std.proofs.Common.{◌≡◌, ℕ, List, ◌++◌, append_assoc}

-- the lines of a run that is done: two pairs of counts, one more, a word, the momentum and the end of the line
pub join_done : (a b c d e w v n l1 l2 l3 l4 l5 l6 : List ℕ) → l1 ≡ a ++ b → l2 ≡ l1 ++ (c ++ d) → l3 ≡ l2 ++ e → l4 ≡ l3 ++ w → l5 ≡ l4 ++ v → l6 ≡ l5 ++ n → l6 ≡ a ++ b ++ c ++ d ++ e ++ w ++ v ++ n
join_done a b c d e w v n l1 l2 l3 l4 l5 l6 e1 e2 e3 e4 e5 e6 = rw (e6, e5, e4, e3, e2, e1) (simp append_assoc)
