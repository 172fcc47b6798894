-- The numbers below a bound that pass a test, one number more.
use Rattle.std.proofs.Common.{◌≡◌, ℕ, zero, suc, ◌+◌, ◌<◌, ◌≤◌, Bool, true, false, cond, List, [], ◌∷◌, ◌++◌, length, get_or, ap, sym, ◌∙◌, arith, ◌⊎◌, inl, inr, add-one, append_assoc, length-append}
use Rattle.std.specs.Int.{from_bool}
use Rattle.std.specs.List.{filter, range_with_len}
use Rattle.std.proofs.lemmas.Bool.{cases_lt}
use Rattle.std.proofs.lemmas.List.{map-id}
use Rattle.std.proofs.lemmas.List.FromFn.{filter_of_map_range_with_len_more}
use Rattle.std.proofs.Math.Seq.{get_or-append_seam}

pub bit_small : (b : Bool) → from_bool b ≤ 1
bit_small true = omega arith
bit_small false = omega arith

module _ (t : ℕ → Bool) where
  abbrev pub passed : ℕ → List ℕ
  passed n = filter t (range_with_len 0 n)

  pub passed_more : (n : ℕ) → passed (n + 1) ≡ passed n ++ cond (t n) (n ∷ []) []
  passed_more n =
      ap (filter t) (sym (map-id (range_with_len 0 (n + 1))))
      ∙ filter_of_map_range_with_len_more t (λ q. q) 0 n n (let e : 0 + n ≡ n = omega arith in e)
      ∙ ap (λ xs. filter t xs ++ cond (t n) (n ∷ []) []) (map-id (range_with_len 0 n))

  one_more : (n : ℕ) (b : Bool) → t n ≡ b → length (passed (n + 1)) ≡ length (passed n) + from_bool b
  one_more n true e = ap length (passed_more n) ∙ length-append (passed n) (cond (t n) (n ∷ []) []) ∙ ap (λ b. length (passed n) + length (cond b (n ∷ []) [])) e
  one_more n false e = ap length (passed_more n) ∙ length-append (passed n) (cond (t n) (n ∷ []) []) ∙ ap (λ b. length (passed n) + length (cond b (n ∷ []) [])) e

  -- how many pass, one number more
  pub count_more : (n old new : ℕ) (b : Bool) → b ≡ t n → old ≡ length (passed n) → new ≡ old + from_bool b → new ≡ length (passed (n + 1))
  count_more n old new b e f g = omega (arith, f, g, one_more n b (sym e))

  -- a number that passes stands behind those below it that do
  stands : (i n : ℕ) → i < n → t i ≡ true → (rest : List ℕ) × (passed n ≡ passed i ++ i ∷ rest)
  stands i zero h e = absurd (omega (arith, h))
  stands i (suc n) h e = case (cases_lt i n) (λ l. stands i n l e)
    where
      more : passed (suc n) ≡ passed n ++ cond (t n) (n ∷ []) []
      more = ap passed (sym (add-one n)) ∙ passed_more n

      case : (i < n) ⊎ (n ≤ i) → (i < n → (rest : List ℕ) × (passed n ≡ passed i ++ i ∷ rest)) → (rest : List ℕ) × (passed (suc n) ≡ passed i ++ i ∷ rest)
      case (inl l) go = let r : (rest : List ℕ) × (passed n ≡ passed i ++ i ∷ rest) = go l in
          (r.0 ++ cond (t n) (n ∷ []) [], more ∙ ap (λ xs. xs ++ cond (t n) (n ∷ []) []) r.1 ∙ append_assoc (passed i) (i ∷ r.0) (cond (t n) (n ∷ []) []))
      case (inr l) go = let same : n ≡ i = omega (arith, h, l) in
          ([], more ∙ ap (λ b. passed n ++ cond b (n ∷ []) []) (ap t same ∙ e) ∙ ap (λ m. passed m ++ m ∷ []) same)

  pub stands_at : (i n : ℕ) → i < n → t i ≡ true → (k : ℕ) → k ≡ length (passed i) → get_or (passed n) k 0 ≡ i
  stands_at i n h e k f = let s : (rest : List ℕ) × (passed n ≡ passed i ++ i ∷ rest) = stands i n h e in
      ap (λ xs. get_or xs k 0) s.1 ∙ ap (λ m. get_or (passed i ++ i ∷ s.0) m 0) f ∙ get_or-append_seam (passed i) i s.0 0
