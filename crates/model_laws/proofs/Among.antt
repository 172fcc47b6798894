-- Elements of lists.
use Rattle.std.proofs.Common.{◌≡◌, ℕ, ◌≤◌, Bool, true, false, cond, ◌||◌, List, [], ◌∷◌, ◌++◌, map, sum_by, refl, ap, sym, ◌∙◌, arith, ◌⊎◌, inl, inr}
use Rattle.std.specs.List.{filter, flat_map, list_all, list_any, AllByRecursion}
use Rattle.std.proofs.lemmas.List.Sums.{sum_by-cons}
use Rattle.std.proofs.lemmas.Bool.{and_parts, or_left, or_right, false≢true}

-- x is an element of the list
abbrev pub Among : {X : Type 0} → X → List X → Type 0
Among x [] = ⊥
Among x (y ∷ ys) = (x ≡ y) ⊎ Among x ys

transported : {X : Type 0} (P : X → Type 0) (x y : X) → x ≡ y → P y → P x
transported P x y e h = rw e h

pub each-among : {X : Type 0} (P : X → Type 0) (x : X) (xs : List X) → AllByRecursion P xs → Among x xs → P x
each-among P x [] a h = absurd h
each-among P x (y ∷ ys) a (inl e) = transported P x y e a.0
each-among P x (y ∷ ys) a (inr h) = each-among P x ys a.1 h

pub among-le : {X : Type 0} (f : X → ℕ) (x : X) (xs : List X) → Among x xs → f x ≤ sum_by f xs
among-le f x [] h = absurd h
among-le f x (y ∷ ys) (inl e) = omega (arith, sum_by-cons f y ys, ap f e)
among-le f x (y ∷ ys) (inr h) = omega (arith, sum_by-cons f y ys, among-le f x ys h)

pub among-zero : {X : Type 0} (f : X → ℕ) (xs : List X) → ((x : X) → Among x xs → f x ≡ 0) → sum_by f xs ≡ 0
among-zero f [] h = refl
among-zero f (x ∷ xs) h = omega (arith, sum_by-cons f x xs, h x (inl refl), among-zero f xs (λ y k. h y (inr k)))

-- an element for which a test holds
pub record Witness {X : Type 0} (t : X → Bool) (xs : List X) : Type 0 where
  pub it : X
  pub «in» : Among it xs
  pub passes : t it ≡ true

witness_step : {X : Type 0} (t : X → Bool) (x : X) (xs : List X) (b : Bool) → t x ≡ b → (b || list_any t xs) ≡ true → (list_any t xs ≡ true → Witness t xs) → Witness t (x ∷ xs)
witness_step t x xs true e h rest = record { it = x; «in» = inl refl; passes = e }
witness_step t x xs false e h rest = let w : Witness t xs = rest h in record { it = w.it; «in» = inr w.«in»; passes = w.passes }

pub any-witness : {X : Type 0} (t : X → Bool) (xs : List X) → list_any t xs ≡ true → Witness t xs
any-witness t [] e = absurd (false≢true e)
any-witness t (x ∷ xs) e = witness_step t x xs (t x) refl e (λ h. any-witness t xs h)

pub any-among : {X : Type 0} (t : X → Bool) (x : X) (xs : List X) → Among x xs → t x ≡ true → list_any t xs ≡ true
any-among t x [] h k = absurd h
any-among t x (y ∷ ys) (inl e) k = or_left (t y) (list_any t ys) (ap t (sym e) ∙ k)
any-among t x (y ∷ ys) (inr h) k = or_right (t y) (list_any t ys) (any-among t x ys h k)

pub any-append : {X : Type 0} (t : X → Bool) (xs ys : List X) → list_any t (xs ++ ys) ≡ (list_any t xs || list_any t ys)
any-append t [] ys = refl
any-append t (x ∷ xs) ys = ap (λ b. t x || b) (any-append t xs ys) ∙ or_again (t x) (list_any t xs) (list_any t ys)
  where
    or_again : (a b c : Bool) → (a || (b || c)) ≡ ((a || b) || c)
    or_again true b c = refl
    or_again false b c = refl

pub any-flat_map : {X Y : Type 0} (t : Y → Bool) (h : X → List Y) (xs : List X) → list_any t (flat_map h xs) ≡ list_any (λ x. list_any t (h x)) xs
any-flat_map t h [] = refl
any-flat_map t h (x ∷ xs) = any-append t (h x) (flat_map h xs) ∙ ap (λ b. list_any t (h x) || b) (any-flat_map t h xs)

among_kept : {X : Type 0} (t : X → Bool) (x y : X) (zs ys : List X) (b : Bool) → t y ≡ b → t x ≡ true → (Among x zs → Among x ys) → (x ≡ y) ⊎ Among x zs → Among x (cond b (y ∷ ys) ys)
among_kept t x y zs ys true u e rest (inl h) = inl h
among_kept t x y zs ys true u e rest (inr h) = inr (rest h)
among_kept t x y zs ys false u e rest (inl h) = absurd (false≢true (sym u ∙ ap t (sym h) ∙ e))
among_kept t x y zs ys false u e rest (inr h) = rest h

pub among-filter : {X : Type 0} (t : X → Bool) (x : X) (xs : List X) → Among x xs → t x ≡ true → Among x (filter t xs)
among-filter t x [] h e = absurd h
among-filter t x (y ∷ ys) h e = among_kept t x y ys (filter t ys) (t y) refl e (λ k. among-filter t x ys k e) h

kept_cases : {X : Type 0} (t : X → Bool) (x y : X) (zs ys : List X) (b : Bool) → t y ≡ b → (Among x ys → Among x zs × (t x ≡ true)) → Among x (cond b (y ∷ ys) ys) → ((x ≡ y) ⊎ Among x zs) × (t x ≡ true)
kept_cases t x y zs ys true u rest (inl h) = (inl h, ap t h ∙ u)
kept_cases t x y zs ys true u rest (inr h) = let r : Among x zs × (t x ≡ true) = rest h in (inr r.0, r.1)
kept_cases t x y zs ys false u rest h = let r : Among x zs × (t x ≡ true) = rest h in (inr r.0, r.1)

pub among-kept : {X : Type 0} (t : X → Bool) (x : X) (xs : List X) → Among x (filter t xs) → Among x xs × (t x ≡ true)
among-kept t x [] h = absurd h
among-kept t x (y ∷ ys) h = kept_cases t x y ys (filter t ys) (t y) refl (λ k. among-kept t x ys k) h

pub among-all : {X : Type 0} (t : X → Bool) (x : X) (xs : List X) → list_all t xs ≡ true → Among x xs → t x ≡ true
among-all t x [] e h = absurd h
among-all t x (y ∷ ys) e (inl h) = ap t h ∙ (and_parts (t y) (list_all t ys) e).0
among-all t x (y ∷ ys) e (inr h) = among-all t x ys (and_parts (t y) (list_all t ys) e).1 h

pub among-map : {X Y : Type 0} (h : X → Y) (x : X) (xs : List X) → Among x xs → Among (h x) (map h xs)
among-map h x [] k = absurd k
among-map h x (y ∷ ys) (inl e) = inl (ap h e)
among-map h x (y ∷ ys) (inr k) = inr (among-map h x ys k)

pub each-append : {X : Type 0} (P : X → Type 0) (xs ys : List X) → AllByRecursion P xs → AllByRecursion P ys → AllByRecursion P (xs ++ ys)
each-append P [] ys a b = b
each-append P (x ∷ xs) ys a b = (a.0, each-append P xs ys a.1 b)

pub each-weaker : {X : Type 0} (P Q : X → Type 0) → ((x : X) → P x → Q x) → (xs : List X) → AllByRecursion P xs → AllByRecursion Q xs
each-weaker P Q h [] a = tt
each-weaker P Q h (x ∷ xs) a = (h x a.0, each-weaker P Q h xs a.1)

pub each-flat_map : {X Y : Type 0} (P : X → Type 0) (Q : Y → Type 0) (h : X → List Y) → ((x : X) → P x → AllByRecursion Q (h x)) → (xs : List X) → AllByRecursion P xs → AllByRecursion Q (flat_map h xs)
each-flat_map P Q h e [] a = tt
each-flat_map P Q h e (x ∷ xs) a = each-append Q (h x) (flat_map h xs) (e x a.0) (each-flat_map P Q h e xs a.1)

pub each-map : {X Y : Type 0} (P : X → Type 0) (Q : Y → Type 0) (h : X → Y) → ((x : X) → P x → Q (h x)) → (xs : List X) → AllByRecursion P xs → AllByRecursion Q (map h xs)
each-map P Q h e [] a = tt
each-map P Q h e (x ∷ xs) a = (e x a.0, each-map P Q h e xs a.1)

each_kept : {X : Type 0} (P : X → Type 0) (x : X) (ys : List X) (b : Bool) → P x → AllByRecursion P ys → AllByRecursion P (cond b (x ∷ ys) ys)
each_kept P x ys true h a = (h, a)
each_kept P x ys false h a = a

pub each-filter : {X : Type 0} (P : X → Type 0) (t : X → Bool) (xs : List X) → AllByRecursion P xs → AllByRecursion P (filter t xs)
each-filter P t [] a = tt
each-filter P t (x ∷ xs) a = each_kept P x (filter t xs) (t x) a.0 (each-filter P t xs a.1)
