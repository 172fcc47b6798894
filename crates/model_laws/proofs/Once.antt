-- A list of pairs of cells that shows of each two bodies a path of theirs has each pair of the paths once.
use Rattle.std.proofs.Common.{◌≡◌, ℕ, ◌+◌, ◌*◌, ◌≤◌, Bool, true, false, cond, ◌||◌, List, [], ◌∷◌, map, sum_by, refl, ap, sym, ◌∙◌, arith, ◌⊎◌, inl, inr}
use Rattle.std.specs.List.{flat_map, list_any, AllByRecursion}
use Rattle.std.proofs.lemmas.List.Sums.{sum_by-cons, sum_by-le-sum_by}
use Rattle.std.proofs.lemmas.Bool.{and_from, cond-true, cond-false, false≢true, or_cases}
use Rattle.cell_space.specs.Cells.{Position, CellData, contains, same_place}
use Rattle.cell_space.proofs.Cells.{same_place-exact}
use Rattle.nbody_model.specs.Nodes.{is_node}
use Rattle.nbody_model.specs.Covers.{Opening, orient, same_pair, distinct, of_two, over_two}
use Rattle.model_laws.proofs.Among.{Among, each-among, among-le, among-zero, Witness, any-witness, any-among, any-flat_map}
use Rattle.model_laws.proofs.Sums.{sum_by-plus, sum_by-mapped}
use Rattle.model_laws.proofs.Counts.{times, times-distinct}
use Rattle.model_laws.proofs.Turned.{same_pair-exact, orient-even, orient-parts}
use Rattle.model_laws.proofs.Chains.{parts, hits, both, IsEven}
use Rattle.model_laws.proofs.Apart.{Apart}
use Rattle.model_laws.proofs.ChainFacts.{mark}

pub mark_even : (z : CellData × CellData) → IsEven (mark z)
mark_even z a b = ap (λ t. cond (same_pair t z) 1 0) (orient-even a b)

-- a pair of cells contains two bodies, one each
abbrev pub Holds : Position → Position → CellData × CellData → Type 0
Holds p q x = (contains x.0 p ≡ true) × (contains x.1 q ≡ true)

pub cond-le : (b : Bool) (n : ℕ) → cond b n 0 ≤ n
cond-le true n = omega arith
cond-le false n = omega arith

both-le : (g : CellData × CellData → ℕ) (p q : Position) (xs : List (CellData × CellData)) → both g p q xs ≤ 2 * sum_by g xs
both-le g p q xs = omega (arith, sum_by-le-sum_by (λ x. cond (parts p q x) (g x) 0) g xs (λ x. cond-le (parts p q x) (g x)), sum_by-le-sum_by (λ x. cond (parts q p x) (g x) 0) g xs (λ x. cond-le (parts q p x) (g x)))

-- a marked pair parts the two bodies, one way or the other
marked_parts : (p q : Position) (y x : CellData × CellData) → Holds p q y → (x ≡ y) ⊎ (x ≡ (y.1, y.0)) → (n : ℕ) → n ≤ cond (parts p q x) n 0 + cond (parts q p x) n 0
marked_parts p q y x h (inl e) n =
    let a : parts p q x ≡ true = ap (parts p q) e ∙ and_from (contains y.0 p) (contains y.1 q) h.0 h.1 in omega (arith, cond-true {A = ℕ} (parts p q x) n 0 a)
marked_parts p q y x h (inr e) n =
    let a : parts q p x ≡ true = ap (parts q p) e ∙ and_from (contains y.1 q) (contains y.0 p) h.1 h.0 in omega (arith, cond-true {A = ℕ} (parts q p x) n 0 a)

marked_cond : (p q : Position) (y x : CellData × CellData) (b : Bool) → Holds p q y → (b ≡ true → orient x ≡ orient y) → cond b 1 0 ≤ cond (parts p q x) (cond b 1 0) 0 + cond (parts q p x) (cond b 1 0) 0
marked_cond p q y x true h e = marked_parts p q y x h (orient-parts x y (e refl)) 1
marked_cond p q y x false h e = omega arith

le-both : (p q : Position) (y : CellData × CellData) → Holds p q y → (xs : List (CellData × CellData)) → sum_by (mark (orient y)) xs ≤ both (mark (orient y)) p q xs
le-both p q y h xs = omega (
  arith,
  sum_by-plus (λ x. cond (parts p q x) (mark (orient y) x) 0) (λ x. cond (parts q p x) (mark (orient y) x) 0) xs,
  sum_by-le-sum_by (mark (orient y)) (λ x. cond (parts p q x) (mark (orient y) x) 0 + cond (parts q p x) (mark (orient y) x) 0) xs
      (λ x. marked_cond p q y x (same_pair (orient x) (orient y)) h (same_pair-exact (orient x) (orient y)).0),
)

-- two bodies at different places that two cells with nothing in common contain
pub record Bodies (o : Opening) (x : CellData × CellData) : Type 0 where
  pub p : Position
  pub q : Position
  pub in_p : Among p o.positions
  pub in_q : Among q o.positions
  pub differ : same_place p q ≡ false
  pub holds : Holds p q x

pub no_case : (b : Bool) → (b ≡ true → ⊥) → b ≡ false
no_case true h = absurd (h refl)
no_case false h = refl

pub bodies_of : (o : Opening) (x : CellData × CellData) → Apart o x → Bodies o x
unfolding is_node
bodies_of o x a =
    let u : Witness (contains x.0) o.positions = any-witness (contains x.0) o.positions a.first in
    let v : Witness (contains x.1) o.positions = any-witness (contains x.1) o.positions a.second in
    record {
      p = u.it;
      q = v.it;
      in_p = u.«in»;
      in_q = v.«in»;
      differ = no_case (same_place u.it v.it) (λ e. a.apart v.it (ap (contains x.0) (sym ((same_place-exact u.it v.it).0 e)) ∙ u.passes) v.passes);
      holds = (u.passes, v.passes);
    }

-- a pair marked z in a list
marked_among : (z : CellData × CellData) (xs : List (CellData × CellData)) → 1 ≤ sum_by (mark z) xs → list_any (same_pair z) (map orient xs) ≡ true
marked_among z [] h = absurd (omega (arith, h))
marked_among z (x ∷ xs) h = step (same_pair z (orient x)) refl (λ k. marked_among z xs k)
  where
    step : (b : Bool) → same_pair z (orient x) ≡ b → (1 ≤ sum_by (mark z) xs → list_any (same_pair z) (map orient xs) ≡ true) → (b || list_any (same_pair z) (map orient xs)) ≡ true
    step true e rest = refl
    step false e rest = rest (omega (arith, h, sum_by-cons (mark z) x xs, cond-false {A = ℕ} (same_pair (orient x) z) 1 0 (no_case (same_pair (orient x) z) (λ k. false≢true (sym e ∙ (same_pair-exact z (orient x)).1 (sym ((same_pair-exact (orient x) z).0 k)))))))

among_marked : (z : CellData × CellData) (xs : List (CellData × CellData)) → list_any (same_pair z) (map orient xs) ≡ true → Witness (λ x. same_pair (orient x) z) xs
among_marked z [] h = absurd (false≢true h)
among_marked z (x ∷ xs) h = step (or_cases (same_pair z (orient x)) (list_any (same_pair z) (map orient xs)) h) (λ k. among_marked z xs k)
  where
    step : (same_pair z (orient x) ≡ true) ⊎ (list_any (same_pair z) (map orient xs) ≡ true) → (list_any (same_pair z) (map orient xs) ≡ true → Witness (λ y. same_pair (orient y) z) xs) → Witness (λ y. same_pair (orient y) z) (x ∷ xs)
    step (inl e) rest = record { it = x; «in» = inl refl; passes = (same_pair-exact (orient x) z).1 (sym ((same_pair-exact z (orient x)).0 e)) }
    step (inr e) rest = let w : Witness (λ y. same_pair (orient y) z) xs = rest e in record { it = w.it; «in» = inr w.«in»; passes = w.passes }

-- what f lists for two different bodies is listed
pub two-among : (f : Position → Position → List (CellData × CellData)) (z : CellData × CellData) (ps : List Position) (p q : Position) → Among p ps → Among q ps → same_place p q ≡ false → list_any (same_pair z) (f p q) ≡ true → list_any (same_pair z) (over_two f ps) ≡ true
two-among f z ps p q in_p in_q differ h =
    any-flat_map (same_pair z) (λ a. flat_map (of_two f a) ps) ps
    ∙ any-among (λ a. list_any (same_pair z) (flat_map (of_two f a) ps)) p ps in_p
    (any-flat_map (same_pair z) (of_two f p) ps
    ∙ any-among (λ b. list_any (same_pair z) (of_two f p b)) q ps in_q
    (ap (λ t. list_any (same_pair z) (cond t [] (f p q))) differ ∙ h))

-- whatever is listed is listed for two different bodies
pub record OfTwo (f : Position → Position → List (CellData × CellData)) (z : CellData × CellData) (ps : List Position) : Type 0 where
  pub p : Position
  pub q : Position
  pub in_p : Among p ps
  pub in_q : Among q ps
  pub differ : same_place p q ≡ false
  pub listed : list_any (same_pair z) (f p q) ≡ true

of_two-from : (f : Position → Position → List (CellData × CellData)) (z : CellData × CellData) (ps : List Position) (p q : Position) (b : Bool) → same_place p q ≡ b → Among p ps → Among q ps → list_any (same_pair z) (cond b [] (f p q)) ≡ true → OfTwo f z ps
of_two-from f z ps p q true e in_p in_q h = absurd (false≢true h)
of_two-from f z ps p q false e in_p in_q h = record { p = p; q = q; in_p = in_p; in_q = in_q; differ = e; listed = h }

pub among-two : (f : Position → Position → List (CellData × CellData)) (z : CellData × CellData) (ps : List Position) → list_any (same_pair z) (over_two f ps) ≡ true → OfTwo f z ps
among-two f z ps h =
    let u : Witness (λ a. list_any (same_pair z) (flat_map (of_two f a) ps)) ps =
    any-witness (λ a. list_any (same_pair z) (flat_map (of_two f a) ps)) ps (sym (any-flat_map (same_pair z) (λ a. flat_map (of_two f a) ps) ps) ∙ h) in
    let v : Witness (λ b. list_any (same_pair z) (of_two f u.it b)) ps =
    any-witness (λ b. list_any (same_pair z) (of_two f u.it b)) ps (sym (any-flat_map (same_pair z) (of_two f u.it) ps) ∙ u.passes) in
    of_two-from f z ps u.it v.it (same_place u.it v.it) refl u.«in» v.«in» v.passes

-- what a list of pairs has to do with paths of two bodies
pub record Shows (o : Opening) (xs : List (CellData × CellData)) (path : Position → Position → List (CellData × CellData)) : Type 0 where
  pub apart : AllByRecursion (Apart o) xs
  pub sums : (p q : Position) → Among p o.positions → Among q o.positions → same_place p q ≡ false → (g : CellData × CellData → ℕ) → IsEven g → both g p q xs ≡ sum_by g (path p q)
  pub holds : (p q : Position) → Among p o.positions → Among q o.positions → same_place p q ≡ false → AllByRecursion (Holds p q) (path p q)
  pub once : (p q : Position) (z : CellData × CellData) → sum_by (mark z) (path p q) ≤ 1

abbrev turned_path : (Position → Position → List (CellData × CellData)) → Position → Position → List (CellData × CellData)
turned_path path p q = map orient (path p q)

-- a pair of a path is in the list once
path_once : (o : Opening) (xs : List (CellData × CellData)) (path : Position → Position → List (CellData × CellData)) → Shows o xs path → (p q : Position) → Among p o.positions → Among q o.positions → same_place p q ≡ false →
    (z y : CellData × CellData) → Among y (path p q) → same_pair (orient y) z ≡ true → sum_by (mark z) xs ≡ 1
path_once o xs path s p q in_p in_q differ z y h e =
    let k : orient y ≡ z = (same_pair-exact (orient y) z).0 e in
    let most : sum_by (mark z) (path p q) ≤ 1 = s.once p q z in
    let least : mark z y ≤ sum_by (mark z) (path p q) = among-le (mark z) y (path p q) h in
    let one : mark z y ≡ 1 = cond-true {A = ℕ} (same_pair (orient y) z) 1 0 e in
    let sum : both (mark z) p q xs ≡ sum_by (mark z) (path p q) = s.sums p q in_p in_q differ (mark z) (mark_even z) in
    let upper : sum_by (mark z) xs ≤ both (mark z) p q xs = ap-le (each-among (Holds p q) y (path p q) (s.holds p q in_p in_q differ) h) k in
    omega (arith, most, least, one, sum, upper, both-le (mark z) p q xs)
  where
    ap-le : Holds p q y → orient y ≡ z → sum_by (mark z) xs ≤ both (mark z) p q xs
    ap-le held k = rw (← k) (le-both p q y held xs)

times_case : (o : Opening) (xs : List (CellData × CellData)) (path : Position → Position → List (CellData × CellData)) → Shows o xs path → (z : CellData × CellData) (b : Bool) → list_any (same_pair z) (over_two (turned_path path) o.positions) ≡ b → sum_by (mark z) xs ≡ cond b 1 0
times_case o xs path s z true e =
    let t : OfTwo (turned_path path) z o.positions = among-two (turned_path path) z o.positions e in
    let w : Witness (λ x. same_pair (orient x) z) (path t.p t.q) = among_marked z (path t.p t.q) t.listed in
    path_once o xs path s t.p t.q t.in_p t.in_q t.differ z w.it w.«in» w.passes
times_case o xs path s z false e = among-zero (mark z) xs (λ x h. none x h (same_pair (orient x) z) refl)
  where
    none : (x : CellData × CellData) → Among x xs → (b : Bool) → same_pair (orient x) z ≡ b → ◌≡◌ {A = ℕ} (cond b 1 0) 0
    none x h true k =
        let b : Bodies o x = bodies_of o x (each-among (Apart o) x xs s.apart h) in
        let here : parts b.p b.q x ≡ true = and_from (contains x.0 b.p) (contains x.1 b.q) b.holds.0 b.holds.1 in
        let sum : both (mark z) b.p b.q xs ≡ sum_by (mark z) (path b.p b.q) = s.sums b.p b.q b.in_p b.in_q b.differ (mark z) (mark_even z) in
        let least : cond (parts b.p b.q x) (mark z x) 0 ≤ hits (mark z) b.p b.q xs = among-le (λ y. cond (parts b.p b.q y) (mark z y) 0) x xs h in
        let one : 1 ≤ sum_by (mark z) (path b.p b.q) = omega (arith, sum, least, cond-true {A = ℕ} (parts b.p b.q x) (mark z x) 0 here, cond-true {A = ℕ} (same_pair (orient x) z) 1 0 k) in
        absurd (false≢true (sym e ∙ two-among (turned_path path) z o.positions b.p b.q b.in_p b.in_q b.differ (marked_among z (path b.p b.q) one)))
    none x h false k = refl

-- each unordered pair stands in the list as often as among the paths, each once
pub times_shown : (o : Opening) (xs : List (CellData × CellData)) (path : Position → Position → List (CellData × CellData)) → Shows o xs path → (z : CellData × CellData) →
    times same_pair same_pair-exact z (map orient xs) ≡ times same_pair same_pair-exact z (distinct same_pair (over_two (turned_path path) o.positions))
times_shown o xs path s z =
    sum_by-mapped (λ x. cond (same_pair x z) 1 0) orient xs
    ∙ times_case o xs path s z (list_any (same_pair z) (over_two (turned_path path) o.positions)) refl
    ∙ sym (times-distinct same_pair same_pair-exact z (over_two (turned_path path) o.positions))
