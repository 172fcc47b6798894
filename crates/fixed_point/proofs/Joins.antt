-- Pieces that are put behind a list one after another, and answers that carry a fact on.
use Rattle.std.proofs.Common.{◌≡◌, ℕ, List, ◌++◌, Result, Ok, Err, OnOk, append_assoc}

-- what holds where a call went well holds on
pub on_ok : {T E P Q : Type 0} (r : Result T E) → (P → Q) → OnOk r P → OnOk r Q
on_ok (Ok x) f p = f p
on_ok (Err e) f p = tt

pub two : (a b o p q : List ℕ) → p ≡ o ++ a → q ≡ p ++ b → q ≡ o ++ (a ++ b)
two a b o p q e1 e2 = rw (e2, e1) (simp append_assoc)

pub six : (a b c d e f o p q r s t u : List ℕ) → p ≡ o ++ a → q ≡ p ++ b → r ≡ q ++ c → s ≡ r ++ d → t ≡ s ++ e → u ≡ t ++ f → u ≡ o ++ (a ++ b ++ c ++ d ++ e ++ f)
six a b c d e f o p q r s t u e1 e2 e3 e4 e5 e6 = rw (e6, e5, e4, e3, e2, e1) (simp append_assoc)

-- three pieces as one behind the list
pub regroup : (o a b c : List ℕ) → ((o ++ a) ++ b) ++ c ≡ o ++ (a ++ b ++ c)
regroup o a b c = simp append_assoc

-- two pieces of two
pub join_four : (o a b c d l1 l2 : List ℕ) → l1 ≡ o ++ (a ++ b) → l2 ≡ l1 ++ (c ++ d) → l2 ≡ o ++ (a ++ b ++ c ++ d)
join_four o a b c d l1 l2 e1 e2 = rw (e2, e1) (simp append_assoc)
