-- Pushing what a filter keeps, the last first.
use Rattle.std.proofs.Common.{◌≡◌, ℕ, suc, ◌+◌, ◌-◌, ◌<◌, ◌≤◌, Bool, List, [], ◌∷◌, ◌++◌, reverse, ap, sym, ◌∙◌, arith, append_assoc}
use Rattle.std.proofs.lemmas.List.{reverse-append}
use Rattle.std.proofs.lemmas.List.Elements.{filter-append}
use Rattle.std.specs.List.{filter, range_with_len}
use Rattle.rank_walk.specs.declared.places.Places.{Places}
use Rattle.rank_walk.specs.Slots.{SlotData, meets, two, row, both, same}

-- a list in two parts, the second pushed first
pushed : {X : Type 0} (t : X → Bool) (start now new front back : List X) → now ≡ start ++ reverse (filter t back) → new ≡ now ++ reverse (filter t front) → new ≡ start ++ reverse (filter t (front ++ back))
pushed t start now new front back e p =
    p ∙ ap (λ u. u ++ reverse (filter t front)) e ∙ append_assoc start (reverse (filter t back)) (reverse (filter t front))
    ∙ ap (λ u. start ++ u) (sym (reverse-append (filter t front) (filter t back)) ∙ ap reverse (sym (filter-append t front back)))

range_at : (q n m : ℕ) → m ≡ suc n → range_with_len q m ≡ q ∷ range_with_len (q + 1) n
range_at q n m e = ap (range_with_len q) e

-- the range_with_len from one number further down
range_down : (k e : ℕ) → 0 < k → k ≤ e → range_with_len (k - 1) (e - (k - 1)) ≡ (k - 1) ∷ range_with_len k (e - k)
range_down k e h l = range_at (k - 1) (e - k) (e - (k - 1)) (omega arith) ∙ ap (λ t. (k - 1) ∷ range_with_len t (e - k)) (let s : k - 1 + 1 ≡ k = omega arith in s)

pub row_step : (ss : List SlotData) (start now new : List Places) (a f k e : ℕ) → f < k → k ≤ e → now ≡ start ++ reverse (filter (meets ss) (row a (range_with_len k (e - k)))) → new ≡ now ++ reverse (filter (meets ss) (two a (k - 1) ∷ [])) →
    new ≡ start ++ reverse (filter (meets ss) (row a (range_with_len (k - 1) (e - (k - 1)))))
row_step ss start now new a f k e h l i p = pushed (meets ss) start now new (two a (k - 1) ∷ []) (row a (range_with_len k (e - k))) i p ∙ ap (λ t. start ++ reverse (filter (meets ss) (row a t))) (sym (range_down k e (omega (arith, h)) l))

pub both_step : (ss : List SlotData) (start now new : List Places) (bs : List ℕ) (f k e : ℕ) → f < k → k ≤ e → now ≡ start ++ reverse (filter (meets ss) (both (range_with_len k (e - k)) bs)) → new ≡ now ++ reverse (filter (meets ss) (row (k - 1) bs)) →
    new ≡ start ++ reverse (filter (meets ss) (both (range_with_len (k - 1) (e - (k - 1))) bs))
both_step ss start now new bs f k e h l i p = pushed (meets ss) start now new (row (k - 1) bs) (both (range_with_len k (e - k)) bs) i p ∙ ap (λ t. start ++ reverse (filter (meets ss) (both t bs))) (sym (range_down k e (omega (arith, h)) l))

pub same_step : (ss : List SlotData) (start now mid new : List Places) (f k e : ℕ) → f < k → k ≤ e → now ≡ start ++ reverse (filter (meets ss) (same (range_with_len k (e - k)))) → mid ≡ now ++ reverse (filter (meets ss) (row (k - 1) (range_with_len (k - 1 + 1) (e - (k - 1 + 1))))) →
    new ≡ mid ++ reverse (filter (meets ss) (two (k - 1) (k - 1) ∷ [])) → new ≡ start ++ reverse (filter (meets ss) (same (range_with_len (k - 1) (e - (k - 1)))))
same_step ss start now mid new f k e h l i p q =
    let s : k - 1 + 1 ≡ k = omega (arith, h) in
    let r : mid ≡ now ++ reverse (filter (meets ss) (row (k - 1) (range_with_len k (e - k)))) = p ∙ ap (λ t. now ++ reverse (filter (meets ss) (row (k - 1) (range_with_len t (e - t))))) s in
    pushed (meets ss) start mid new (two (k - 1) (k - 1) ∷ []) (row (k - 1) (range_with_len k (e - k)) ++ same (range_with_len k (e - k))) (pushed (meets ss) start now mid (row (k - 1) (range_with_len k (e - k))) (same (range_with_len k (e - k))) i r) q
    ∙ ap (λ t. start ++ reverse (filter (meets ss) (same t))) (sym (range_down k e (omega (arith, h)) l))
