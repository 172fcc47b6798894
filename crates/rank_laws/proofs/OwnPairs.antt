-- The pairs that a rank's walk reaches are the reached pairs with which it is concerned.
use Rattle.std.proofs.Common.{◌≡◌, ℕ, zero, suc, ◌<◌, Bool, true, false, cond, eqb, not, List, [], ◌∷◌, ◌++◌, refl, ap, sym, ◌∙◌, arith, inl, inr}
use Rattle.std.specs.List.{flat_map, filter}
use Rattle.std.proofs.lemmas.List.{append-nil}
use Rattle.std.proofs.lemmas.Bool.{false≢true}
use Rattle.std.proofs.lemmas.List.Elements.{filter-append}
use Rattle.cell_space.specs.Cells.{before}
use Rattle.nbody_model.specs.Walks.{gives, reached}
use Rattle.model_laws.proofs.Among.{Among}
use Rattle.rank_laws.specs.Homes.{home, concerned}
use Rattle.rank_laws.specs.Trees.{all_from}
use Rattle.rank_laws.specs.Machine.{Pair, cells_of, need}
use Rattle.rank_laws.specs.Whole.{Whole, IsWhole, opening, depth_of, next_of, root_pair, start_of, in_order}
use Rattle.rank_laws.specs.Forces.{ReachesItsOwn}
use Rattle.rank_laws.proofs.Homes.{Below, concerned_around}
use Rattle.rank_laws.proofs.Trees.{flat_map-same, tree_step}
use Rattle.rank_laws.proofs.Fairness.{gives_fall, next_falls}
use Rattle.rank_laws.proofs.Counted.{nested_in, reached_all, sound}

filter_flat : {X Y : Type 0} (t : Y → Bool) (f : X → List Y) (xs : List X) → filter t (flat_map f xs) ≡ flat_map (λ x. filter t (f x)) xs
filter_flat t f [] = refl
filter_flat t f (x ∷ xs) = filter-append t (f x) (flat_map f xs) ∙ ap (λ u. filter t (f x) ++ u) (filter_flat t f xs)

flat_filter : {X Y : Type 0} (t : X → Bool) (f : X → List Y) (xs : List X) → flat_map f (filter t xs) ≡ flat_map (λ x. cond (t x) (f x) []) xs
flat_filter {Y = Y} t f [] = refl
flat_filter {Y = Y} t f (x ∷ xs) = by (t x) (flat_filter t f xs)
  where
    by : (b : Bool) → flat_map f (filter t xs) ≡ flat_map (λ x. cond (t x) (f x) []) xs → flat_map f (cond b (x ∷ filter t xs) (filter t xs)) ≡ cond b (f x) [] ++ flat_map (λ x. cond (t x) (f x) []) xs
    by true e = ap (λ u. f x ++ u) e
    by false e = e

flat_none : {X Y : Type 0} (f : X → List Y) (xs : List X) → ((x : X) → Among x xs → f x ≡ []) → flat_map f xs ≡ []
flat_none f [] e = refl
flat_none f (x ∷ xs) e = ap (λ u. u ++ flat_map f xs) (e x (inl refl)) ∙ flat_none f xs (λ y h. e y (inr h))

module _ (w : Whole) (whole : IsWhole w) (r : ℕ) where
  abbrev is_mine : Pair → Bool
  is_mine x = concerned w.keys r x

  abbrev every : Pair → List Pair
  every x = all_from depth_of (gives (opening w)) x

  abbrev mine : Pair → List Pair
  mine x = all_from depth_of (next_of w r) x

  lies_below : (x y : Pair) → Among y (gives (opening w) x) → Below w.keys before x y
  lies_below x y h = (nested_in (opening w) (sound w whole) w.keys whole.keys).of_gives x y h

  not_below : (x y : Pair) → is_mine x ≡ false → Among y (gives (opening w) x) → is_mine y ≡ false
  not_below x y e h = by (is_mine y) refl
    where
      by : (b : Bool) → concerned w.keys r y ≡ b → b ≡ false
      by true k = absurd (false≢true (sym e ∙ concerned_around w.keys before r x y (lies_below x y h) k))
      by false k = refl

  every_step : (x : Pair) → every x ≡ x ∷ flat_map every (gives (opening w) x)
  every_step x = tree_step depth_of (λ y. y ∷ []) (gives (opening w)) (gives_fall (opening w)) x

  none_mine : (n : ℕ) (x : Pair) → depth_of x < n → is_mine x ≡ false → filter (concerned w.keys r) (every x) ≡ []
  none_mine zero x h e = absurd (omega (arith, h))
  none_mine (suc n) x h e =
      ap (filter (concerned w.keys r)) (every_step x)
      ∙ ap (λ b. cond b (x ∷ filter (concerned w.keys r) (flat_map (all_from depth_of (gives (opening w))) (gives (opening w) x))) (filter (concerned w.keys r) (flat_map (all_from depth_of (gives (opening w))) (gives (opening w) x)))) e
      ∙ filter_flat (concerned w.keys r) (all_from depth_of (gives (opening w))) (gives (opening w) x)
      ∙ flat_none (λ y. filter (concerned w.keys r) (all_from depth_of (gives (opening w)) y)) (gives (opening w) x) (λ y a. none_mine n y (omega (arith, h, gives_fall (opening w) x y a)) (not_below x y e a))

  all_mine : (n : ℕ) (x : Pair) → depth_of x < n → is_mine x ≡ true → mine x ≡ filter (concerned w.keys r) (every x)
  all_mine zero x h e = absurd (omega (arith, h))
  all_mine (suc n) x h e =
      tree_step depth_of (λ y. y ∷ []) (next_of w r) (next_falls w r) x
      ∙ ap (λ u. x ∷ u) (
      flat_filter (concerned w.keys r) (all_from depth_of (next_of w r)) (gives (opening w) x)
      ∙ flat_map-same (λ y. cond (concerned w.keys r y) (all_from depth_of (next_of w r) y) []) (λ y. filter (concerned w.keys r) (all_from depth_of (gives (opening w)) y)) (gives (opening w) x) (λ y a. one y (concerned w.keys r y) refl (λ k. all_mine n y (omega (arith, h, gives_fall (opening w) x y a)) k))
      ∙ sym (filter_flat (concerned w.keys r) (all_from depth_of (gives (opening w))) (gives (opening w) x)))
      ∙ sym (ap (λ b. cond b (x ∷ filter (concerned w.keys r) (flat_map (all_from depth_of (gives (opening w))) (gives (opening w) x))) (filter (concerned w.keys r) (flat_map (all_from depth_of (gives (opening w))) (gives (opening w) x)))) e)
      ∙ sym (ap (filter (concerned w.keys r)) (every_step x))
    where
      one : (y : Pair) (b : Bool) → concerned w.keys r y ≡ b → (concerned w.keys r y ≡ true → all_from depth_of (next_of w r) y ≡ filter (concerned w.keys r) (all_from depth_of (gives (opening w)) y)) → cond b (all_from depth_of (next_of w r) y) [] ≡ filter (concerned w.keys r) (all_from depth_of (gives (opening w)) y)
      one y true k rest = rest k
      one y false k rest = sym (none_mine (suc (depth_of y)) y (omega arith) k)

  from_start : (b : Bool) → concerned w.keys r root_pair ≡ b → flat_map (all_from depth_of (next_of w r)) (cond b (root_pair ∷ []) []) ≡ filter (concerned w.keys r) (every root_pair)
  from_start true e = append-nil (mine root_pair) ∙ all_mine (suc (depth_of root_pair)) root_pair (omega arith) e
  from_start false e = sym (none_mine (suc (depth_of root_pair)) root_pair (omega arith) e)

  pairs : flat_map (all_from depth_of (next_of w r)) (start_of w r) ≡ filter (concerned w.keys r) (reached (opening w))
  unfolding reached
  pairs = from_start (concerned w.keys r root_pair) refl ∙ ap (filter (concerned w.keys r)) (sym (reached_all (opening w) 32 root_pair (inr (omega arith)) (inr (omega arith))))

  pub own_pairs : ReachesItsOwn w r
  unfolding need
  own_pairs = record { pairs = pairs; needed = ap (λ xs. in_order w.keys (filter (λ c. not (eqb (home w.keys c) r)) (flat_map cells_of xs))) pairs }
