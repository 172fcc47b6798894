-- Heads from classes.
use Rattle.std.proofs.Common.{◌≡◌, ◌≢◌, ℕ, zero, suc, ◌+◌, ◌<◌, ◌≤◌, ◌==◌, List, [], ◌∷◌, ◌++◌, replicate, length, get_or, take, cond, refl, subst, ap, sym, ◌∙◌, inl, inr, true, false, Bool, arith}
use Rattle.std.proofs.Math.ListN.{set}
use Rattle.std.proofs.Math.Seq.{take-suc}
use Rattle.std.proofs.lemmas.Bool.{cases_lt, cases_eq}
use Rattle.std.proofs.lemmas.Bool.Decides.{nat_tests}
use Rattle.std.proofs.lemmas.List.{length-replicate, length-set, get_or-set_same, get_or-set_other}
use Rattle.groups.specs.Groups.{Web, IsJoined, IsHead, AreHeads}
use Rattle.groups.specs.Spreading.{mark, times, IsClass, IsWritten, IsDone, AllBelow}
use Rattle.groups.proofs.Lists.{times-cons, times-nil, times-append, of_all, all_by_get, mark-le}
use Rattle.groups.proofs.Steps.{IsEven, joined_both, joined_self, joined_turned}

pub written_none : (p : ℕ) (heads : List ℕ) → IsWritten p [] heads heads
written_none p heads = record { as_long = refl; on = λ k d h. absurd (omega (arith, h, times-nil k)); off = λ k d h. refl }

times_one : (k j : ℕ) → j ≢ k → times k (j ∷ []) ≡ 0
times_one k j n = let test : (j == k) ≡ false = grind (arith, nat_tests) in omega (arith, times-cons k j [], times-nil k, ap {B = ℕ} (λ b. cond b 1 0) test)

times_here : (k j : ℕ) → j ≡ k → times k (j ∷ []) ≡ 1
times_here k j n = let test : (j == k) ≡ true = grind (arith, nat_tests) in omega (arith, times-cons k j [], times-nil k, ap {B = ℕ} (λ b. cond b 1 0) test)

pub written_more : (p j : ℕ) (front old new : List ℕ) → IsWritten p front old new → j < length old → IsWritten p (front ++ (j ∷ [])) old (set new j p)
written_more p j front old new w h = record {
  as_long = length-set new j p ∙ w.as_long;
  on = λ k d t. elim (cases_eq j k) as (λ _. get_or (set new j p) k d ≡ p) [
    | inl e ↦ ap (λ i. get_or (set new j p) i d) (sym e) ∙ get_or-set_same new j p d (omega (arith, h, w.as_long))
    | inr n ↦ get_or-set_other new j k p d (λ e. n (sym e)) ∙ w.on k d (omega (arith, t, times-append k front (j ∷ []), times_one k j n))
  ];
  off = λ k d t. elim (cases_eq j k) as (λ _. get_or (set new j p) k d ≡ get_or old k d) [
    | inl e ↦ absurd (omega (arith, t, times-append k front (j ∷ []), times_here k j e))
    | inr n ↦ get_or-set_other new j k p d (λ e. n (sym e)) ∙ w.off k d (omega (arith, t, times-append k front (j ∷ [])))
  ];
}

-- ---- the heads so far

pub done_seen : (w : Web) (p : ℕ) (seen : List Bool) (heads : List ℕ) → IsDone w p seen heads → get_or seen p false ≡ true → IsDone w (p + 1) seen heads
done_seen w p seen heads h e = record {
  as_long = h.as_long;
  as_many = h.as_many;
  closed = h.closed;
  behind = λ k l. elim (cases_eq k p) as (λ _. mark seen k ≡ 1) [
    | inl s ↦ ap (mark seen) s ∙ ap {B = ℕ} (λ b. cond b 1 0) e
    | inr n ↦ h.behind k (omega (arith, l, n))
  ];
  headed = h.headed;
}

class_head : (w : Web) (p : ℕ) (old seen : List Bool) (list heads : List ℕ) → IsEven w → p < w.size → IsDone w p old heads → IsClass w p old seen list → (k : ℕ) → 1 ≤ times k list → IsHead w k p
class_head w p old seen list heads even n h c k t =
    let here : (k < w.size) × IsJoined w p k = of_all (λ k. (k < w.size) × IsJoined w p k) k list c.joined t in
    record {
      within = n;
      joined = here.1;
      least = λ i m j. elim (cases_lt i p) as (λ _. p ≤ i) [
        | inl l ↦ absurd (omega (arith, h.behind i l, c.marks i, mark-le seen i, c.whole i (joined_both w p k i here.1 (joined_turned w even i k m j))))
        | inr l ↦ l
      ];
    }

pub done_class : (w : Web) (p : ℕ) (old seen : List Bool) (list heads after : List ℕ) → IsEven w → p < w.size → IsDone w p old heads → IsClass w p old seen list → IsWritten p list heads after → IsDone w (p + 1) seen after
done_class w p old seen list heads after even n h c r = record {
  as_long = c.as_long;
  as_many = r.as_long ∙ h.as_many;
  closed = c.closed;
  behind = λ k l. elim (cases_eq k p) as (λ _. mark seen k ≡ 1) [
    | inl s ↦ omega (arith, c.marks k, ap (λ k. times k list) s, c.whole p (joined_self w p), mark-le seen k)
    | inr m ↦ omega (arith, h.behind k (omega (arith, l, m)), c.marks k, mark-le seen k)
  ];
  headed = λ k d m. elim (cases_lt 0 (times k list)) as (λ _. IsHead w k (get_or after k d)) [
    | inl t ↦ subst (IsHead w k) (sym (r.on k d t)) (class_head w p old seen list heads even n h c k t)
    | inr t ↦ subst (IsHead w k) (sym (r.off k d (omega (arith, t)))) (h.headed k d (omega (arith, m, c.marks k, t)))
  ];
}

pub written_at : (p : ℕ) (list : List ℕ) (e : ℕ) (old new : List ℕ) → e < length list → AllBelow (length old) list → IsWritten p (take e list) old new → IsWritten p (take (e + 1) list) old (set new (get_or list e 0) p)
written_at p list e old new h b w =
    let up : e + 1 ≡ suc e = omega arith in
    subst (λ xs. IsWritten p xs old (set new (get_or list e 0) p)) (sym (ap (λ n. take n list) up ∙ take-suc list e 0 h))
    (written_more p (get_or list e 0) (take e list) old new w (all_by_get (λ k. k < length old) list e 0 b h))

done_none : (w : Web) (seen : List Bool) (heads : List ℕ) → length seen ≡ w.size → length heads ≡ w.size → ((k : ℕ) → mark seen k ≡ 0) → IsDone w 0 seen heads
done_none w seen heads n m z = record {
  as_long = n;
  as_many = m;
  closed = λ j k a b l. omega (arith, z j, z k);
  behind = λ k h. absurd (omega (arith, h));
  headed = λ k d e. absurd (omega (arith, e, z k));
}

mark-repeat : (n k : ℕ) → mark (replicate n false) k ≡ 0
mark-repeat zero k = refl
mark-repeat (suc n) zero = refl
mark-repeat (suc n) (suc k) = mark-repeat n k

pub done_at_start : (w : Web) (seen : List Bool) (heads : List ℕ) → seen ≡ replicate w.size false → length heads ≡ w.size → IsDone w 0 seen heads
done_at_start w seen heads e m = done_none w seen heads (ap length e ∙ length-replicate w.size false) m (λ k. ap (λ xs. mark xs k) e ∙ mark-repeat w.size k)

pub heads_done : (w : Web) (p : ℕ) (seen : List Bool) (heads : List ℕ) → IsDone w p seen heads → w.size ≤ p → AreHeads w heads
heads_done w p seen heads h n = record { as_many = h.as_many; each = λ k d l. h.headed k d (h.behind k (omega (arith, l, n))) }
