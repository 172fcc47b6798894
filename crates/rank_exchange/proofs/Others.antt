-- All ranks but one, one rank more.
use Rattle.std.proofs.Common.{◌≡◌, ◌<◌, ℕ, zero, suc, ◌+◌, Bool, true, false, cond, eqb, not, List, [], ◌∷◌, ◌++◌, map, refl, ap, sym, ◌∙◌, arith}
use Rattle.std.specs.List.{AllByRecursion, filter, range_with_len}
use Rattle.model_laws.proofs.Among.{each-filter}
use Rattle.std.proofs.lemmas.List.{append-nil, map-id}
use Rattle.std.proofs.lemmas.List.FromFn.{filter_of_map_range_with_len_more}

module _ (number : ℕ) where
  abbrev Other : ℕ → Bool
  Other q = not (eqb q number)

  below_more : (n : ℕ) → filter Other (range_with_len 0 (n + 1)) ≡ filter Other (range_with_len 0 n) ++ cond (Other n) (n ∷ []) []
  below_more n =
      ap (filter Other) (sym (map-id (range_with_len 0 (n + 1))))
      ∙ filter_of_map_range_with_len_more Other (λ q. q) 0 n n (let e : 0 + n ≡ n = omega arith in e)
      ∙ ap (λ t. filter Other t ++ cond (Other n) (n ∷ []) []) (map-id (range_with_len 0 n))

  pub others_more : (n : ℕ) (old new : List ℕ) → old ≡ filter Other (range_with_len 0 n) → new ≡ cond (eqb n number) old (old ++ n ∷ []) → new ≡ filter Other (range_with_len 0 (n + 1))
  others_more n old new e f = by (eqb n number) refl
    where
      by : (b : Bool) → eqb n number ≡ b → new ≡ filter Other (range_with_len 0 (n + 1))
      by true g = f ∙ ap (λ t. cond t old (old ++ n ∷ [])) g ∙ e ∙ sym (below_more n ∙ ap (λ t. filter Other (range_with_len 0 n) ++ cond (not t) (n ∷ []) []) g ∙ append-nil (filter Other (range_with_len 0 n)))
      by false g = f ∙ ap (λ t. cond t old (old ++ n ∷ [])) g ∙ ap (λ t. t ++ n ∷ []) e ∙ sym (below_more n ∙ ap (λ t. filter Other (range_with_len 0 n) ++ cond (not t) (n ∷ []) []) g)

range_low : (a n top : ℕ) → a + n ≡ top → AllByRecursion (λ q. q < top) (range_with_len a n)
range_low a zero top e = tt
range_low a (suc n) top e = (omega (arith, e), range_low (a + 1) n top (omega (arith, e)))

pub others_low : (number n : ℕ) → AllByRecursion (λ q. q < n) (filter (λ q. not (eqb q number)) (range_with_len 0 n))
others_low number n = each-filter (λ q. q < n) (λ q. not (eqb q number)) (range_with_len 0 n) (range_low 0 n n (let e : 0 + n ≡ n = omega arith in e))
