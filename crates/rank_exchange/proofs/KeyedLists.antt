-- Lists of ascending keys that tell the same are one.
use Rattle.std.proofs.Common.{◌≡◌, ℕ, ◌<◌, ◌≤◌, Bool, true, false, cond, eqb, ◌&&◌, ◌||◌, List, [], ◌∷◌, refl, ap, ◌∙◌, sym, subst, arith, ◌⊎◌, inl, inr}
use Rattle.std.specs.List.{filter, AllByRecursion}
use Rattle.std.proofs.lemmas.Bool.{cases_lt, cond-true, cond-false, eqb-true, eq-eqb, ne_eqb, false≢true}
use Rattle.fixed_point.specs.Vectors.{origin, sum_of}
use Rattle.model_laws.proofs.Among.{each-among, each-filter}
use Rattle.rank_exchange.specs.declared.keyed.Keyed.{Keyed}
use Rattle.rank_exchange.specs.Keyed.{Climbs, keys_in, has_key, sum_at}
use Rattle.rank_exchange.proofs.HandedOut.{one_key}

abbrev at : ℕ → Keyed → Bool
at k e = eqb k e.key

-- nothing stands at a key below all
nothing_at : (k : ℕ) (es : List Keyed) → AllByRecursion (λ j. k < j) (keys_in es) → filter (at k) es ≡ []
nothing_at k [] a = refl
nothing_at k (e ∷ es) a = let l : k < e.key = a.0 in ap (λ b. cond b (e ∷ filter (at k) es) (filter (at k) es)) (ne_eqb k e.key (λ u. omega (arith, l, u))) ∙ nothing_at k es a.1

missing : (k : ℕ) (es : List Keyed) → AllByRecursion (λ j. k < j) (keys_in es) → has_key k es ≡ false
missing k [] a = refl
missing k (e ∷ es) a = let l : k < e.key = a.0 in ap (λ b. b || has_key k es) (ne_eqb k e.key (λ u. omega (arith, l, u))) ∙ missing k es a.1

all_above : (j k : ℕ) (es : List Keyed) → j < k → AllByRecursion (λ i. k < i) (keys_in es) → AllByRecursion (λ i. j < i) (keys_in es)
all_above j k [] h a = tt
all_above j k (e ∷ es) h a = let l : k < e.key = a.0 in (omega (arith, h, l), all_above j k es h a.1)

has_first : (e : Keyed) (es : List Keyed) → has_key e.key (e ∷ es) ≡ true
has_first e es = ap (λ b. b || has_key e.key es) (eq-eqb e.key e.key refl)

skips_key : (k : ℕ) (e : Keyed) (es : List Keyed) → eqb k e.key ≡ false → has_key k (e ∷ es) ≡ has_key k es
skips_key k e es u = ap (λ b. b || has_key k es) u

skips_sum : (k : ℕ) (e : Keyed) (es : List Keyed) → eqb k e.key ≡ false → sum_at k (e ∷ es) ≡ sum_at k es
skips_sum k e es u = ap (λ b. sum_of (λ (x : Keyed). x.sum) (cond b (e ∷ filter (at k) es) (filter (at k) es))) u

none_sum : (k : ℕ) (es : List Keyed) → AllByRecursion (λ j. k < j) (keys_in es) → sum_at k es ≡ origin
none_sum k es a = ap (sum_of (λ (x : Keyed). x.sum)) (nothing_at k es a)

-- a first key that another list has at its front or later is not below its front
not_below : (e d : Keyed) (es ds : List Keyed) → Climbs (keys_in (d ∷ ds)) → has_key e.key (e ∷ es) ≡ has_key e.key (d ∷ ds) → e.key < d.key → ⊥
not_below e d es ds b h l = false≢true (sym (missing e.key (d ∷ ds) (l, all_above e.key d.key ds l b.0)) ∙ sym h ∙ has_first e es)

pub one_list : (es ds : List Keyed) → Climbs (keys_in es) → Climbs (keys_in ds) → ((k : ℕ) → has_key k es ≡ has_key k ds) → ((k : ℕ) → sum_at k es ≡ sum_at k ds) → es ≡ ds
one_list [] [] a b h s = refl
one_list [] (d ∷ ds) a b h s = absurd (false≢true (h d.key ∙ has_first d ds))
one_list (e ∷ es) [] a b h s = absurd (false≢true (sym (h e.key) ∙ has_first e es))
one_list (e ∷ es) (d ∷ ds) a b h s = λ i. firsts i ∷ one_list es ds a.1 b.1 (λ k. keys k (eqb k e.key) refl) (λ k. stands k (eqb k e.key) refl) i
  where
    same : e.key ≡ d.key
    same = by (cases_lt e.key d.key) (cases_lt d.key e.key)
      where
        by : (e.key < d.key) ⊎ (d.key ≤ e.key) → (d.key < e.key) ⊎ (e.key ≤ d.key) → e.key ≡ d.key
        by (inl l) u = absurd (not_below e d es ds b (h e.key) l)
        by (inr l) (inl u) = absurd (not_below d e ds es a (sym (h d.key)) u)
        by (inr l) (inr u) = omega (arith, l, u)

    sums : e.sum ≡ d.sum
    sums = sym (one_key (e ∷ es) a 0 e.key e (omega arith) refl) ∙ s e.key ∙ one_key (d ∷ ds) b 0 e.key d (omega arith) (sym same)

    firsts : e ≡ d
    firsts = λ i. record { key = same i; sum = sums i }

    above_e : (k : ℕ) → eqb k e.key ≡ true → AllByRecursion (λ j. k < j) (keys_in es)
    above_e k u = subst (λ t. AllByRecursion (λ j. t < j) (keys_in es)) (sym (eqb-true k e.key u)) a.0

    above_d : (k : ℕ) → eqb k e.key ≡ true → AllByRecursion (λ j. k < j) (keys_in ds)
    above_d k u = subst (λ t. AllByRecursion (λ j. t < j) (keys_in ds)) (sym (eqb-true k e.key u ∙ same)) b.0

    other : (k : ℕ) → eqb k e.key ≡ false → eqb k d.key ≡ false
    other k u = ap (eqb k) (sym same) ∙ u

    keys : (k : ℕ) (t : Bool) → eqb k e.key ≡ t → has_key k es ≡ has_key k ds
    keys k true u = missing k es (above_e k u) ∙ sym (missing k ds (above_d k u))
    keys k false u = sym (skips_key k e es u) ∙ h k ∙ skips_key k d ds (other k u)

    stands : (k : ℕ) (t : Bool) → eqb k e.key ≡ t → sum_at k es ≡ sum_at k ds
    stands k true u = none_sum k es (above_e k u) ∙ sym (none_sum k ds (above_d k u))
    stands k false u = sym (skips_sum k e es u) ∙ s k ∙ skips_sum k d ds (other k u)

-- ---- those that pass a test on their keys

module _ (t : ℕ → Bool) where
  abbrev passing : List Keyed → List Keyed
  passing es = filter (λ (e : Keyed). t e.key) es

  all_passing : (k : ℕ) (es : List Keyed) → AllByRecursion (λ j. k < j) (keys_in es) → AllByRecursion (λ j. k < j) (keys_in (passing es))
  all_passing k [] a = tt
  all_passing k (e ∷ es) a = by (t e.key) (all_passing k es a.1)
    where
      by : (b : Bool) → AllByRecursion (λ j. k < j) (keys_in (passing es)) → AllByRecursion (λ j. k < j) (keys_in (cond b (e ∷ passing es) (passing es)))
      by true r = (a.0, r)
      by false r = r

  pub climbs_passing : (es : List Keyed) → Climbs (keys_in es) → Climbs (keys_in (passing es))
  climbs_passing [] a = tt
  climbs_passing (e ∷ es) a = by (t e.key) (climbs_passing es a.1)
    where
      by : (b : Bool) → Climbs (keys_in (passing es)) → Climbs (keys_in (cond b (e ∷ passing es) (passing es)))
      by true r = (all_passing e.key es a.0, r)
      by false r = r

  pub key_passing : (k : ℕ) (es : List Keyed) → has_key k (passing es) ≡ (t k && has_key k es)
  key_passing k [] = nothing (t k)
    where
      nothing : (b : Bool) → false ≡ (b && false)
      nothing true = refl
      nothing false = refl
  key_passing k (e ∷ es) = by (t e.key) (eqb k e.key) refl refl (key_passing k es)
    where
      by : (b c : Bool) → t e.key ≡ b → eqb k e.key ≡ c → has_key k (passing es) ≡ (t k && has_key k es) → has_key k (cond b (e ∷ passing es) (passing es)) ≡ (t k && (eqb k e.key || has_key k es))
      by true true u v r = ap (λ x. x || has_key k (passing es)) v ∙ sym (ap (λ x. x && (eqb k e.key || has_key k es)) (ap t (eqb-true k e.key v) ∙ u) ∙ ap (λ x. x || has_key k es) v)
      by false true u v r = r ∙ ap (λ x. x && has_key k es) (ap t (eqb-true k e.key v) ∙ u) ∙ sym (ap (λ x. x && (eqb k e.key || has_key k es)) (ap t (eqb-true k e.key v) ∙ u))
      by true false u v r = ap (λ x. x || has_key k (passing es)) v ∙ r ∙ sym (ap (λ x. t k && (x || has_key k es)) v)
      by false false u v r = r ∙ sym (ap (λ x. t k && (x || has_key k es)) v)

  pub sum_passing : (k : ℕ) (es : List Keyed) → sum_at k (passing es) ≡ cond (t k) (sum_at k es) origin
  sum_passing k es = ap (sum_of (λ (x : Keyed). x.sum)) (twice es) ∙ by (t k)
    where
      by : (b : Bool) → sum_of (λ (x : Keyed). x.sum) (cond b (filter (at k) es) []) ≡ cond b (sum_at k es) origin
      by true = refl
      by false = refl

      twice : (es : List Keyed) → filter (at k) (passing es) ≡ cond (t k) (filter (at k) es) []
      twice [] = sym (none (t k))
        where
          none : (b : Bool) → cond {A = List Keyed} b [] [] ≡ []
          none true = refl
          none false = refl
      twice (e ∷ es) = step (t e.key) (eqb k e.key) refl refl (twice es)
        where
          step : (b c : Bool) → t e.key ≡ b → eqb k e.key ≡ c → filter (at k) (passing es) ≡ cond (t k) (filter (at k) es) [] → filter (at k) (cond b (e ∷ passing es) (passing es)) ≡ cond (t k) (cond (eqb k e.key) (e ∷ filter (at k) es) (filter (at k) es)) []
          step true true u v r =
              let w : t k ≡ true = ap t (eqb-true k e.key v) ∙ u in
              ap (λ x. cond x (e ∷ filter (at k) (passing es)) (filter (at k) (passing es))) v
              ∙ ap (λ x. e ∷ x) (r ∙ ap (λ x. cond x (filter (at k) es) []) w)
              ∙ sym (ap (λ x. cond x (cond (eqb k e.key) (e ∷ filter (at k) es) (filter (at k) es)) []) w ∙ ap (λ x. cond x (e ∷ filter (at k) es) (filter (at k) es)) v)
          step false true u v r =
              let w : t k ≡ false = ap t (eqb-true k e.key v) ∙ u in
              r ∙ ap (λ x. cond x (filter (at k) es) []) w ∙ sym (ap (λ x. cond x (cond (eqb k e.key) (e ∷ filter (at k) es) (filter (at k) es)) []) w)
          step true false u v r = ap (λ x. cond x (e ∷ filter (at k) (passing es)) (filter (at k) (passing es))) v ∙ r ∙ sym (ap (λ x. cond (t k) (cond x (e ∷ filter (at k) es) (filter (at k) es)) []) v)
          step false false u v r = r ∙ sym (ap (λ x. cond (t k) (cond x (e ∷ filter (at k) es) (filter (at k) es)) []) v)

  pub all_pass : (es : List Keyed) → AllByRecursion (λ (e : Keyed). t e.key ≡ true) es → passing es ≡ es
  all_pass [] a = refl
  all_pass (e ∷ es) a = ap (λ b. cond b (e ∷ passing es) (passing es)) a.0 ∙ ap (λ x. e ∷ x) (all_pass es a.1)

  -- two lists are one where they tell the same of the keys that pass
  pub one_passing : (es ds : List Keyed) → Climbs (keys_in es) → Climbs (keys_in ds) → AllByRecursion (λ (e : Keyed). t e.key ≡ true) ds → ((k : ℕ) → t k ≡ true → has_key k es ≡ has_key k ds) → ((k : ℕ) → t k ≡ true → sum_at k es ≡ sum_at k ds) → passing es ≡ ds
  one_passing es ds a b p h s = one_list (passing es) (passing ds) (climbs_passing es a) (climbs_passing ds b) (λ k. key_passing k es ∙ keys k (t k) refl ∙ sym (key_passing k ds)) (λ k. sum_passing k es ∙ sums k (t k) refl ∙ sym (sum_passing k ds)) ∙ all_pass ds p
    where
      keys : (k : ℕ) (b : Bool) → t k ≡ b → (t k && has_key k es) ≡ (t k && has_key k ds)
      keys k true u = ap (λ x. t k && x) (h k u)
      keys k false u = ap (λ x. x && has_key k es) u ∙ sym (ap (λ x. x && has_key k ds) u)

      sums : (k : ℕ) (b : Bool) → t k ≡ b → cond (t k) (sum_at k es) origin ≡ cond (t k) (sum_at k ds) origin
      sums k true u = ap (λ x. cond (t k) x origin) (s k u)
      sums k false u = ap (λ x. cond x (sum_at k es) origin) u ∙ sym (ap (λ x. cond x (sum_at k ds) origin) u)
