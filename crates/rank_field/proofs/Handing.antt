-- Bodies handed to their owners, one body more.
use Rattle.std.proofs.Common.{◌≡◌, ℕ, zero, suc, ◌+◌, ◌<◌, ◌≤◌, Bool, true, false, cond, eqb, List, [], ◌∷◌, ◌++◌, length, get_or, set, take, refl, ap, sym, ◌∙◌, arith, ◌⊎◌, inl, inr, add-one, replicate}
use Rattle.std.specs.List.{AllByRecursion}
use Rattle.std.proofs.lemmas.Bool.{cases_eq, eq-eqb, ne_eqb}
use Rattle.std.proofs.lemmas.List.{append-nil, get_or-replicate, get_or-set_same, get_or-set_other, length-replicate, length-set, take_all}
use Rattle.std.proofs.lemmas.List.FromFn.{fill_by_all, get_or-map-range_with_len, length-map-range_with_len}
use Rattle.nbody_model.specs.Bodies.{BodyData}
use Rattle.rank_laws.specs.Owners.{handed_to}
use Rattle.rank_field.specs.Machines.{all_handed}

handed_one : (B : List BodyData) (O : List ℕ) (i q : ℕ) (b : BodyData) (o : ℕ) → i < length B → i < length O → get_or B i b ≡ b → get_or O i 0 ≡ o →
    handed_to (take (suc i) B) (take (suc i) O) q ≡ handed_to (take i B) (take i O) q ++ cond (eqb o q) (b ∷ []) []
handed_one [] O i q b o h k e f = absurd (omega (arith, h))
handed_one (x ∷ B) [] i q b o h k e f = absurd (omega (arith, k))
handed_one (x ∷ B) (p ∷ O) zero q b o h k e f = ap (λ t. cond (eqb t q) (x ∷ []) []) f ∙ ap (λ y. cond (eqb o q) (y ∷ []) []) e
handed_one (x ∷ B) (p ∷ O) (suc i) q b o h k e f = case (eqb p q) (handed_one B O i q b o (omega (arith, h)) (omega (arith, k)) e f)
  where
    case : (t : Bool) → handed_to (take (suc i) B) (take (suc i) O) q ≡ handed_to (take i B) (take i O) q ++ cond (eqb o q) (b ∷ []) [] →
        cond t (x ∷ handed_to (take (suc i) B) (take (suc i) O) q) (handed_to (take (suc i) B) (take (suc i) O) q) ≡ cond t (x ∷ handed_to (take i B) (take i O) q) (handed_to (take i B) (take i O) q) ++ cond (eqb o q) (b ∷ []) []
    case true r = ap (λ ys. x ∷ ys) r
    case false r = r

pub long_handed : (B : List BodyData) (O : List ℕ) (n : ℕ) → length (all_handed B O n) ≡ n
long_handed B O n = length-map-range_with_len (handed_to B O) 0 n

module _ (B : List BodyData) (O : List ℕ) (n i : ℕ) (b : BodyData) (o : ℕ) (in_bodies : i < length B) (in_owners : i < length O) (body : get_or B i b ≡ b) (owner : get_or O i 0 ≡ o) (within : o < n) where
  abbrev before : ℕ → List BodyData
  before = handed_to (take i B) (take i O)

  abbrev after : ℕ → List BodyData
  after = handed_to (take (i + 1) B) (take (i + 1) O)

  next : (q : ℕ) → after q ≡ before q ++ cond (eqb o q) (b ∷ []) []
  next q = ap (λ k. handed_to (take k B) (take k O) q) (add-one i) ∙ handed_one B O i q b o in_bodies in_owners body owner

  pub handed_on : (old new : List (List BodyData)) → old ≡ all_handed (take i B) (take i O) n → new ≡ set old o (get_or old o [] ++ b ∷ []) → new ≡ all_handed (take (i + 1) B) (take (i + 1) O) n
  handed_on old new e f = f ∙ ap (λ xs. set xs o (get_or xs o [] ++ b ∷ [])) e ∙ fill_by_all after changed n [] (length-set lists o (get_or lists o [] ++ b ∷ []) ∙ long_handed (take i B) (take i O) n) (λ k lt. at k lt (cases_eq k o))
    where
      lists : List (List BodyData)
      lists = all_handed (take i B) (take i O) n

      changed : List (List BodyData)
      changed = set lists o (get_or lists o [] ++ b ∷ [])

      at : (k : ℕ) → k < n → (k ≡ o) ⊎ (k ≡ o → ⊥) → get_or changed k [] ≡ after k
      at k lt (inl same) =
          ap (λ m. get_or changed m []) same
          ∙ get_or-set_same lists o (get_or lists o [] ++ b ∷ []) [] (omega (arith, within, long_handed (take i B) (take i O) n))
          ∙ ap (λ ys. ys ++ b ∷ []) (get_or-map-range_with_len before 0 n o o [] within (omega arith))
          ∙ sym (next o ∙ ap (λ t. before o ++ cond t (b ∷ []) []) (eq-eqb o o refl))
          ∙ ap after (sym same)
      at k lt (inr other) =
          get_or-set_other lists o k (get_or lists o [] ++ b ∷ []) [] other
          ∙ get_or-map-range_with_len before 0 n k k [] lt (omega arith)
          ∙ sym (next k ∙ ap (λ t. before k ++ cond t (b ∷ []) []) (ne_eqb o k (λ e. other (sym e))) ∙ append-nil (before k))

none_handed : (n : ℕ) → replicate n [] ≡ all_handed [] [] n
none_handed n = fill_by_all (handed_to [] []) (replicate n []) n [] (length-replicate n []) (λ k h. get_or-replicate n k [] [] h)

pub none_yet : (n : ℕ) (lists : List (List BodyData)) → lists ≡ replicate n [] → lists ≡ all_handed [] [] n
none_yet n lists e = e ∙ none_handed n

pub all_out : (B : List BodyData) (O : List ℕ) (n i : ℕ) (lists : List (List BodyData)) → length B ≤ i → length O ≡ length B → lists ≡ all_handed (take i B) (take i O) n → lists ≡ all_handed B O n
all_out B O n i lists h k e = e ∙ ap (λ bs. all_handed bs (take i O) n) (take_all i B h) ∙ ap (λ os. all_handed B os n) (take_all i O (omega (arith, h, k)))

pub owner_within : (n : ℕ) (O : List ℕ) (i : ℕ) → AllByRecursion (λ o. o < n) O → i < length O → get_or O i 0 < n
owner_within n [] i a h = absurd (omega (arith, h))
owner_within n (o ∷ O) zero a h = a.0
owner_within n (o ∷ O) (suc i) a h = owner_within n O i a.1 (omega (arith, h))
