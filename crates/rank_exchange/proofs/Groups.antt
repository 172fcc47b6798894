-- The members of one cell among all numbers.
use Rattle.std.proofs.Common.{◌≡◌, ℕ, ◌+◌, ◌-◌, ◌*◌, ◌/◌, ◌%◌, ◌^◌, ◌<◌, ◌≤◌, Bool, true, false, cond, not, ◌&&◌, ◌||◌, eqb, ltb, List, [], ◌∷◌, ◌++◌, map, sum_by, count_by, length, take, drop, get_or, zero, suc, refl, ap, ◌∙◌, sym, subst, arith, ◌⊎◌, inl, inr, ℤ, pos, unsigned_abs, to_z, of_z, to_z-of_z}
use Rattle.std.specs.Int.{w128}
use Rattle.std.proofs.lemmas.Int.{fits_signed_from_abs}
use Rattle.std.specs.Int.{int_rem_euclid}
use Rattle.std.specs.List.{filter, AllByRecursion}
use Rattle.std.specs.List.Sorted.{IsPermutation, IsStrictlyIncreasing}
use Rattle.std.proofs.lemmas.Bool.{cond-true, cond-false, cases_lt, cases_order, lt-ltb, le-ltb, eqb-true, eq-eqb, false≢true, or_right}
use Rattle.std.proofs.lemmas.List.{append_assoc, get_or-map, length-map, map-append, map_more, take_all}
use Rattle.std.proofs.lemmas.List.Sorted.{length_permutation, sum_by-IsPermutation}
use Rattle.std.proofs.lemmas.List.Elements.{All-from_recursion, recursion_from_All}
use Rattle.std.proofs.lemmas.List.Sums.{sum_by-cons}
use Rattle.fixed_point.specs.declared.V3.{V3}
use Rattle.fixed_point.specs.Vectors.{origin, IsBelow}
use Rattle.cell_space.specs.Cells.{CellData, root_cell, same_cell}
use Rattle.cell_space.proofs.Cells.{same_cell-exact}
use Rattle.nbody_model.specs.Bodies.{BodyData}
use Rattle.nbody_model.specs.Moments.{mass_of}
use Rattle.nbody_model.specs.Force.{share, small_share, share_of, is_served_before}
use Rattle.model_laws.proofs.Shares.{Ascending, ascending-from}
use Rattle.model_laws.proofs.Sums.{sum_by-mapped}
use Rattle.model_laws.proofs.Walk.{filter_sum}
use Rattle.octree_build.specs.Trees.{Rises}
use Rattle.octree_build.specs.Slots.{keys_below}
use Rattle.octree_build.proofs.Parts.{ones_are}
use Rattle.octree_build.proofs.Runs.{range_between, rises-filter}
use Rattle.force_sharing.specs.Sharing.{Member, AreMembers, body_of, shares_of}
use Rattle.rank_laws.specs.Machine.{is_one}
use Rattle.rank_laws.specs.Contents.{Summed, Listed, sum_at}
use Rattle.rank_exchange.specs.declared.shares.Kept.{Kept}
use Rattle.rank_exchange.specs.declared.keyed.Keyed.{Keyed}
use Rattle.rank_exchange.specs.Sums.{cells_in, place_of, Climbs}
use Rattle.rank_exchange.specs.Shares.{listed, members_at, share_in, shared_at, AreOrdered, MayShare, index_of, number_of, numbered, IsNumberOf, AreSorted, kept_at, member_at, share_at, AreWithin, AreAxes, places_in}
use Rattle.rank_exchange.proofs.OwnMembers.{one_rising}
use Rattle.rank_exchange.proofs.Totals.{first_at, behind_at}
use Rattle.rank_exchange.proofs.Parted.{Stands, stands, index_at, sum_numbers, all_behind}

-- ---- members over which every weight has one sum

abbrev pub Alike : List Member → List Member → Type 0
Alike ms ns = (f : Member → ℕ) → sum_by f ms ≡ sum_by f ns

share_alike : (ms ns : List Member) → Alike ms ns → (N : ℤ) (b : BodyData) → share (map body_of ms) N b ≡ share (map body_of ns) N b
unfolding share small_share
share_alike ms ns alike N b =
    let all : (f : BodyData → ℕ) → sum_by f (map body_of ms) ≡ sum_by f (map body_of ns) = λ f. sum_by-mapped f body_of ms ∙ alike (λ m. f (body_of m)) ∙ sym (sum_by-mapped f body_of ns) in
    let M : mass_of (map body_of ms) ≡ mass_of (map body_of ns) = all (λ b. b.mass) in
    let floors : (s m : ℕ) → sum_by (λ a. s * a.mass / m) (map body_of ms) ≡ sum_by (λ a. s * a.mass / m) (map body_of ns) = λ s m. all (λ a. s * a.mass / m) in
    let counts : (s m : ℕ) → count_by (is_served_before s m b) (map body_of ms) ≡ count_by (is_served_before s m b) (map body_of ns) = λ s m. all (λ a. cond (is_served_before s m b a) 1 0) in
    let s : ℕ = unsigned_abs (int_rem_euclid N (pos (mass_of (map body_of ns)))) in
    rw (M, floors s (mass_of (map body_of ns)), counts s (mass_of (map body_of ns))) refl

pub shares_alike : (ms ns : List Member) → Alike ms ns → (N : V3) (b : BodyData) → share_of (map body_of ms) N b ≡ share_of (map body_of ns) N b
shares_alike ms ns alike N b = λ i. record { x = share_alike ms ns alike N.x b i; y = share_alike ms ns alike N.y b i; z = share_alike ms ns alike N.z b i }

permuted_alike : (ms ns : List Member) → IsPermutation ms ns → Alike ns ms
permuted_alike ms ns p f = sum_by-IsPermutation f ms ns p

ids_of : List Member → List ℕ
ids_of ms = map (λ m. m.0) ms

rising_ids : (ms : List Member) → Ascending (map body_of ms) → Rises (λ n. n) (map (λ m. m.0) ms)
rising_ids [] a = tt
rising_ids (m ∷ ms) a = (behind ms a.0, rising_ids ms a.1)
  where
    behind : (xs : List Member) → AllByRecursion (λ (k : BodyData). m.0 < k.id) (map body_of xs) → AllByRecursion (λ n. m.0 ≤ n) (map (λ m. m.0) xs)
    behind [] u = tt
    behind (x ∷ xs) u = let l : m.0 < x.0 = u.0 in (omega (arith, l), behind xs u.1)

same_ids : (ms : List Member) → map (λ (b : BodyData). b.id) (map body_of ms) ≡ map (λ m. m.0) ms
same_ids [] = refl
same_ids (m ∷ ms) = ap (λ t. m.0 ∷ t) (same_ids ms)

abbrev weightless : Member → ℕ
weightless m = cond (eqb m.1 0) 1 0

none_weightless : (ms : List Member) → AllByRecursion (λ m. 1 ≤ m.1) ms → sum_by weightless ms ≡ 0
none_weightless [] a = refl
none_weightless (m ∷ ms) a = omega (arith, sum_by-cons weightless m ms, none_weightless ms a.1, by (eqb m.1 0) refl)
  where
    by : (b : Bool) → eqb m.1 0 ≡ b → cond {A = ℕ} (eqb m.1 0) 1 0 ≡ 0
    by true e = let u : m.1 ≡ 0 = eqb-true m.1 0 e in let v : 1 ≤ m.1 = a.0 in absurd (omega (arith, u, v))
    by false e = cond-false {A = ℕ} (eqb m.1 0) 1 0 e

all_heavy : (ms : List Member) → sum_by weightless ms ≡ 0 → AllByRecursion (λ m. 1 ≤ m.1) ms
all_heavy [] h = tt
all_heavy (m ∷ ms) h = (by (eqb m.1 0) refl, all_heavy ms (omega (arith, h, sum_by-cons weightless m ms)))
  where
    not_zero : (n : ℕ) → (n ≡ 0 → ⊥) → 1 ≤ n
    not_zero n f = omega (arith, f)

    by : (b : Bool) → eqb m.1 0 ≡ b → 1 ≤ m.1
    by true e = absurd (omega (arith, h, sum_by-cons weightless m ms, cond-true {A = ℕ} (eqb m.1 0) 1 0 e))
    by false e = not_zero m.1 (λ u. false≢true (sym e ∙ eq-eqb m.1 0 u))

-- members with rising ids that are alike to members are members
pub members_alike : (ms ns : List Member) → Alike ms ns → AreMembers ns → Rises (λ n. n) (map (λ m. m.0) ms) → AreMembers ms
members_alike ms ns alike a r =
    let order : Rises (λ n. n) (map (λ m. m.0) ns) = rising_ids ns (ascending-from (map body_of ns) (subst IsStrictlyIncreasing (sym (same_ids ns)) a.ascending)) in
    let ids : map (λ (m : Member). m.0) ms ≡ map (λ m. m.0) ns = one_rising (map (λ m. m.0) ms) (map (λ m. m.0) ns) r order (λ n. sum_by-mapped (λ k. cond {A = ℕ} (eqb k n) 1 0) (λ (m : Member). m.0) ms ∙ alike (λ m. cond (eqb m.0 n) 1 0) ∙ sym (sum_by-mapped (λ k. cond {A = ℕ} (eqb k n) 1 0) (λ (m : Member). m.0) ns)) in
    let long : length ms ≡ length ns = omega (arith, ones_are ms, ones_are ns, alike (λ m. 1)) in
    record {
      some = omega (arith, a.some, long);
      ascending = subst IsStrictlyIncreasing (sym ids) a.ascending;
      heavy = All-from_recursion (λ m. 1 ≤ m.1) ms (all_heavy ms (alike weightless ∙ none_weightless ns (recursion_from_All (λ m. 1 ≤ m.1) ns a.heavy)));
      few = omega (arith, a.few, long);
      light = omega (arith, a.light, alike (λ m. m.1));
    }

-- ---- the numbers of one cell

abbrev pub in_group : ℕ → ℕ → Bool
in_group k n = ltb n ((k + 1) * 2 ^ 96) && not (ltb n (k * 2 ^ 96))

differ : (a b : ℕ) → (a ≡ b → ⊥) → eqb a b ≡ false
differ a b f = no (eqb a b) refl
  where
    no : (t : Bool) → eqb a b ≡ t → t ≡ false
    no true e = absurd (f (eqb-true a b e))
    no false e = refl

in_own : (j k r : ℕ) → r < 2 ^ 96 → in_group k (j * 2 ^ 96 + r) ≡ eqb j k
in_own j k r h = by (cases_order j k)
  where
    by : (j ≡ k) ⊎ ((j < k) ⊎ (k < j)) → in_group k (j * 2 ^ 96 + r) ≡ eqb j k
    by (inl e) =
        ap (λ t. t && not (ltb (j * 2 ^ 96 + r) (k * 2 ^ 96))) (lt-ltb (j * 2 ^ 96 + r) ((k + 1) * 2 ^ 96) (omega (arith, h, e)))
        ∙ ap not (le-ltb (j * 2 ^ 96 + r) (k * 2 ^ 96) (omega (arith, e)))
        ∙ sym (eq-eqb j k e)
    by (inr (inl l)) =
        ap (λ t. t && not (ltb (j * 2 ^ 96 + r) (k * 2 ^ 96))) (lt-ltb (j * 2 ^ 96 + r) ((k + 1) * 2 ^ 96) (omega (arith, h, l)))
        ∙ ap not (lt-ltb (j * 2 ^ 96 + r) (k * 2 ^ 96) (omega (arith, h, l)))
        ∙ sym (differ j k (omega (arith, l)))
    by (inr (inr l)) =
        ap (λ t. t && not (ltb (j * 2 ^ 96 + r) (k * 2 ^ 96))) (le-ltb (j * 2 ^ 96 + r) ((k + 1) * 2 ^ 96) (omega (arith, l)))
        ∙ sym (differ j k (omega (arith, l)))

pub group_range : (ns : List ℕ) (k low high : ℕ) → Rises (λ n. n) ns → low ≡ keys_below ns (k * 2 ^ 96) → high ≡ keys_below ns ((k + 1) * 2 ^ 96) → take (high - low) (drop low ns) ≡ filter (in_group k) ns
unfolding keys_below
group_range ns k low high r e f = (λ i. take (f i - e i) (drop (e i) ns)) ∙ sym (range_between (λ n. n) (k * 2 ^ 96) ((k + 1) * 2 ^ 96) (omega arith) ns r)

total_there : (ts : List Summed) → Climbs (cells_in ts) → (k : ℕ) (d : Summed) → k < length ts → sum_at (get_or ts k d).cell ts ≡ (get_or ts k d).sum
total_there [] a k d h = absurd (omega (arith, h))
total_there (t ∷ ts) a zero d h = first_at t ts a.0
total_there (t ∷ ts) a (suc k) d h = behind_at t (get_or ts k d) ts (behind ts a.0 k (omega (arith, h))) ∙ total_there ts a.1 k d (omega (arith, h))
  where
    behind : (xs : List Summed) → AllByRecursion (λ c. place_of t.cell < place_of c) (cells_in xs) → (k : ℕ) → k < length xs → place_of t.cell < place_of (get_or xs k d).cell
    behind [] u k h = absurd (omega (arith, h))
    behind (x ∷ xs) u zero h = u.0
    behind (x ∷ xs) u (suc k) h = behind xs u.1 k (omega (arith, h))

-- a member whose cell is wanted, and whose id fits
record Fits (ts : List Summed) (κ : Kept) : Type 0 where
  wanted : is_one κ.entry.cell (cells_in ts) ≡ true
  id : κ.entry.member.0 < 2 ^ 64

all_fit : (ts : List Summed) (ks : List Kept) → AllByRecursion (λ (κ : Kept). is_one κ.entry.cell (cells_in ts) ≡ true) ks → AllByRecursion (λ (κ : Kept). κ.entry.member.0 < 2 ^ 64) ks → AllByRecursion (Fits ts) ks
all_fit ts [] a b = tt
all_fit ts (κ ∷ ks) a b = (record { wanted = a.0; id = b.0 }, all_fit ts ks a.1 b.1)

-- the index of a wanted cell tells whether it is the cell at a place
its_index : (ts : List Summed) → Climbs (cells_in ts) → (k : ℕ) (t : Summed) → k < length ts → t ≡ get_or ts k t → (c : CellData) → is_one c (cells_in ts) ≡ true → eqb (index_of ts c) k ≡ same_cell t.cell c
its_index ts climbs k t l at c e = by (eqb (index_of ts c) k) (same_cell t.cell c) refl refl (stands ts c e)
  where
    by : (p q : Bool) → eqb (index_of ts c) k ≡ p → same_cell t.cell c ≡ q → Stands ts c → p ≡ q
    by true true u v s = refl
    by false false u v s = refl
    by true false u v s =
        let i : index_of ts c ≡ s.place = ap (index_of ts) (sym (s.cell t)) ∙ index_at ts climbs s.place t s.within in
        let j : s.place ≡ k = sym i ∙ eqb-true (index_of ts c) k u in
        let w : t.cell ≡ c = ap (λ (x : Summed). x.cell) at ∙ ap (λ n. (get_or ts n t).cell) (sym j) ∙ s.cell t in
        absurd (false≢true (sym v ∙ (same_cell-exact t.cell c).1 w))
    by false true u v s =
        let w : t.cell ≡ c = (same_cell-exact t.cell c).0 v in
        let i : index_of ts c ≡ k = ap (index_of ts) (sym w ∙ ap (λ (x : Summed). x.cell) at) ∙ index_at ts climbs k t l in
        absurd (false≢true (sym u ∙ eq-eqb (index_of ts c) k i))

rest_small : (b i : ℕ) → b < 2 ^ 64 → i < 2 ^ 32 → b * 2 ^ 32 + i < 2 ^ 96
rest_small b i h k = omega (arith, h, k)

-- what stands in a group
record InGroup (ts : List Summed) (ks : List Kept) (c : CellData) (k n : ℕ) : Type 0 where
  cell : (d : Kept) → (kept_at ks d n).entry.cell ≡ c
  is : (d : Kept) → n ≡ k * 2 ^ 96 + ((kept_at ks d n).entry.member.0 * 2 ^ 32 + n % 2 ^ 32)
  within : n % 2 ^ 32 < length ks

module _ (ts : List Summed) (ks : List Kept) (few : length ks < 2 ^ 32) (m : MayShare ts ks) (ns : List ℕ) (a : AreSorted ts ks ns) (k : ℕ) (t : Summed) (l : k < length ts) (at : t ≡ get_or ts k t) (d : Kept) where
  abbrev group : List ℕ
  group = filter (in_group k) ns

  fits_at : (e : Kept) (i : ℕ) → i < length ks → Fits ts (get_or ks i e)
  fits_at e i h = All-from_recursion (Fits ts) ks (all_fit ts ks m.wanted a.ids) i e h

  one_in : (n : ℕ) → IsNumberOf ts ks n → in_group k n ≡ true → InGroup ts ks t.cell k n
  one_in n u v =
      let i : ℕ = n % 2 ^ 32 in
      let small : n % 2 ^ 32 < 2 ^ 32 = omega arith in
      let index : (e : Kept) → index_of ts (kept_at ks e n).entry.cell ≡ k = λ e.
      let f : Fits ts (kept_at ks e n) = fits_at e (n % 2 ^ 32) u.within in
      eqb-true (index_of ts (kept_at ks e n).entry.cell) k (sym (in_own (index_of ts (kept_at ks e n).entry.cell) k ((kept_at ks e n).entry.member.0 * 2 ^ 32 + n % 2 ^ 32) (rest_small (kept_at ks e n).entry.member.0 (n % 2 ^ 32) f.id small)) ∙ ap (in_group k) (sym (u.is e)) ∙ v) in
      record {
        cell = λ e. sym ((same_cell-exact t.cell (kept_at ks e n).entry.cell).0 (sym (its_index ts m.climbs k t l at (kept_at ks e n).entry.cell (fits_at e (n % 2 ^ 32) u.within).wanted) ∙ eq-eqb (index_of ts (kept_at ks e n).entry.cell) k (index e)));
        is = λ e. u.is e ∙ ap (λ j. j * 2 ^ 96 + ((kept_at ks e n).entry.member.0 * 2 ^ 32 + n % 2 ^ 32)) (index e);
        within = u.within;
      }

  all_in : (xs : List ℕ) → AllByRecursion (IsNumberOf ts ks) xs → AllByRecursion (InGroup ts ks t.cell k) (filter (in_group k) xs)
  all_in [] u = tt
  all_in (x ∷ xs) u = by (in_group k x) refl (all_in xs u.1)
    where
      by : (b : Bool) → in_group k x ≡ b → AllByRecursion (InGroup ts ks t.cell k) (filter (in_group k) xs) → AllByRecursion (InGroup ts ks t.cell k) (cond b (x ∷ filter (in_group k) xs) (filter (in_group k) xs))
      by true e rest = (one_in x u.0 e, rest)
      by false e rest = rest

  grouped : AllByRecursion (InGroup ts ks t.cell k) group
  grouped = all_in ns a.each

  pub group_within : AreWithin (length ks) group
  group_within = weaker group grouped
    where
      weaker : (xs : List ℕ) → AllByRecursion (InGroup ts ks t.cell k) xs → AllByRecursion (λ n. n % 2 ^ 32 < length ks) xs
      weaker [] u = tt
      weaker (x ∷ xs) u = (u.0.within, weaker xs u.1)

  ids_rise : (xs : List ℕ) → AllByRecursion (InGroup ts ks t.cell k) xs → Rises (λ n. n) xs → Rises (λ n. n) (map (λ (m : Member). m.0) (map (member_at ks d) xs))
  ids_rise [] u r = tt
  ids_rise (x ∷ xs) u r = (behind xs u.1 r.0, ids_rise xs u.1 r.1)
    where
      behind : (ys : List ℕ) → AllByRecursion (InGroup ts ks t.cell k) ys → AllByRecursion (λ y. x ≤ y) ys → AllByRecursion (λ n. (member_at ks d x).0 ≤ n) (map (λ (m : Member). m.0) (map (member_at ks d) ys))
      behind [] v s = tt
      behind (y ∷ ys) v s =
          let p : x ≡ k * 2 ^ 96 + ((kept_at ks d x).entry.member.0 * 2 ^ 32 + x % 2 ^ 32) = u.0.is d in
          let q : y ≡ k * 2 ^ 96 + ((kept_at ks d y).entry.member.0 * 2 ^ 32 + y % 2 ^ 32) = v.0.is d in
          let h : x ≤ y = s.0 in
          (ordered x y (k * 2 ^ 96) (kept_at ks d x).entry.member.0 (kept_at ks d y).entry.member.0 (x % 2 ^ 32) (y % 2 ^ 32) p q h (omega arith) (omega arith), behind ys v.1 s.1)
        where
          ordered : (x y b i j p q : ℕ) → x ≡ b + (i * 2 ^ 32 + p) → y ≡ b + (j * 2 ^ 32 + q) → x ≤ y → p < 2 ^ 32 → q < 2 ^ 32 → i ≤ j
          ordered x y b i j p q e f h u v = omega (arith, e, f, h, u, v)

  one_weight : (f : Member → ℕ) (i : ℕ) (κ : Kept) → i < length ks → Fits ts κ → ((d : Kept) → kept_at ks d (number_of ts i κ) ≡ κ) → cond (in_group k (number_of ts i κ)) (f (member_at ks d (number_of ts i κ))) 0 ≡ cond (same_cell t.cell κ.entry.cell) (f κ.entry.member) 0
  one_weight f i κ h u back =
      ap (λ b. cond b (f (member_at ks d (number_of ts i κ))) 0) (in_own (index_of ts κ.entry.cell) k (κ.entry.member.0 * 2 ^ 32 + i) (rest_small κ.entry.member.0 i u.id (omega (arith, h, few))) ∙ its_index ts m.climbs k t l at κ.entry.cell u.wanted)
      ∙ ap (λ (x : Kept). cond (same_cell t.cell κ.entry.cell) (f x.entry.member) 0) (back d)

  alike : Alike (map (member_at ks d) group) (members_at t.cell ks)
  alike f =
      sum_by-mapped f (member_at ks d) group
      ∙ filter_sum (in_group k) (λ n. f (member_at ks d n)) ns
      ∙ sum_by-IsPermutation (λ n. cond (in_group k n) (f (member_at ks d n)) 0) (numbered ts 0 ks) ns a.permuted
      ∙ sum_numbers ts ks few (Fits ts) (λ n. cond (in_group k n) (f (member_at ks d n)) 0) (λ (κ : Kept). cond (same_cell t.cell κ.entry.cell) (f κ.entry.member) 0) (one_weight f) 0 ks (all_fit ts ks m.wanted a.ids) (omega arith) (all_behind ts ks few)
      ∙ sym (sum_by-mapped (λ (e : Listed). cond (same_cell t.cell e.cell) (f e.member) 0) (λ (κ : Kept). κ.entry) ks)
      ∙ sym (filter_sum (λ (e : Listed). same_cell t.cell e.cell) (λ (e : Listed). f e.member) (listed ks))
      ∙ sym (sum_by-mapped f (λ (e : Listed). e.member) (filter (λ (e : Listed). same_cell t.cell e.cell) (listed ks)))

  there : is_one t.cell (cells_in ts) ≡ true
  there = any_at ts k l (λ e. ap (λ (x : Summed). x.cell) (read e))
    where
      read : (e : Summed) → t ≡ get_or ts k e
      read e = at ∙ same ts k l
        where
          same : (xs : List Summed) (j : ℕ) → j < length xs → get_or xs j t ≡ get_or xs j e
          same [] j h = absurd (omega (arith, h))
          same (x ∷ xs) zero h = refl
          same (x ∷ xs) (suc j) h = same xs j (omega (arith, h))

      any_at : (xs : List Summed) (j : ℕ) → j < length xs → ((e : Summed) → t.cell ≡ (get_or xs j e).cell) → is_one t.cell (cells_in xs) ≡ true
      any_at [] j h f = absurd (omega (arith, h))
      any_at (x ∷ xs) zero h f = ap (λ b. b || is_one t.cell (cells_in xs)) ((same_cell-exact t.cell x.cell).1 (f t))
      any_at (x ∷ xs) (suc j) h f = or_right (same_cell t.cell x.cell) (is_one t.cell (cells_in xs)) (any_at xs j (omega (arith, h)) f)

  pub group_members : AreMembers (map (member_at ks d) group)
  group_members =
      let o : AreOrdered (members_at t.cell ks) = m.members t.cell there in
      members_alike (map (member_at ks d) group) o.order (λ f. alike f ∙ permuted_alike o.order (members_at t.cell ks) o.permuted f) o.members (ids_rise group grouped (rises-filter (λ n. n) (in_group k) ns a.rises))

  same_share : (xs : List ℕ) → AllByRecursion (InGroup ts ks t.cell k) xs → map (share_at ks d t.sum (map (member_at ks d) group)) xs ≡ map (shared_at ts ks d) xs
  unfolding share_in
  same_share [] u = refl
  same_share (x ∷ xs) u = λ i. record { key = (kept_at ks d x).from * 2 ^ 64 + (member_at ks d x).0; sum = one i } ∷ same_share xs u.1 i
    where
      one : share_of (map body_of (map (member_at ks d) group)) t.sum (body_of (member_at ks d x)) ≡ share_of (map body_of (members_at (kept_at ks d x).entry.cell ks)) (sum_at (kept_at ks d x).entry.cell ts) (body_of (member_at ks d x))
      one = shares_alike (map (member_at ks d) group) (members_at t.cell ks) alike t.sum (body_of (member_at ks d x))
          ∙ ap (λ v. share_of (map body_of (members_at t.cell ks)) v (body_of (member_at ks d x))) total
          ∙ ap (λ c. share_of (map body_of (members_at c ks)) (sum_at c ts) (body_of (member_at ks d x))) (sym (u.0.cell d))
        where
          total : t.sum ≡ sum_at t.cell ts
          total = ap (λ (y : Summed). y.sum) at ∙ sym (total_there ts m.climbs k t l) ∙ ap (λ (y : Summed). sum_at y.cell ts) (sym at)

  pub group_shares : map (share_at ks d t.sum (map (member_at ks d) group)) group ≡ map (shared_at ts ks d) group
  group_shares = same_share group grouped

abbrev pub nobody : Kept
nobody = record { from = 0; entry = record { cell = root_cell; member = (0, 0) } }

-- no number lies behind those of the last cell
pub all_below : (ts : List Summed) (ks : List Kept) (ns : List ℕ) → length ks < 2 ^ 32 → MayShare ts ks → AreSorted ts ks ns → keys_below ns (length ts * 2 ^ 96) ≡ length ns
unfolding keys_below
all_below ts ks ns few m a = all ns a.each
  where
    one : (n : ℕ) → IsNumberOf ts ks n → (d : Kept) → n < length ts * 2 ^ 96
    one n u d =
        let f : Fits ts (kept_at ks d n) = All-from_recursion (Fits ts) ks (all_fit ts ks m.wanted a.ids) (n % 2 ^ 32) d u.within in
        let s : Stands ts (kept_at ks d n).entry.cell = stands ts (kept_at ks d n).entry.cell f.wanted in
        let t : Summed = record { cell = root_cell; sum = origin } in
        let i : index_of ts (kept_at ks d n).entry.cell ≡ s.place = ap (index_of ts) (sym (s.cell t)) ∙ index_at ts m.climbs s.place t s.within in
        let r : (kept_at ks d n).entry.member.0 * 2 ^ 32 + n % 2 ^ 32 < 2 ^ 96 = rest_small (kept_at ks d n).entry.member.0 (n % 2 ^ 32) f.id (omega arith) in
        omega (arith, u.is d, i, s.within, r)

    all : (xs : List ℕ) → AllByRecursion (IsNumberOf ts ks) xs → count_by (λ k. ltb k (length ts * 2 ^ 96)) xs ≡ length xs
    all [] u = refl
    all (x ∷ xs) u = omega (arith, sum_by-cons (λ k. cond {A = ℕ} (ltb k (length ts * 2 ^ 96)) 1 0) x xs, cond-true {A = ℕ} (ltb x (length ts * 2 ^ 96)) 1 0 (lt-ltb x (length ts * 2 ^ 96) (one x u.0 nobody)), all xs u.1)

-- ---- from cell to cell

pub end_follows : (ns : List ℕ) (m n : ℕ) → m ≤ n → keys_below ns m ≤ keys_below ns n
unfolding keys_below
end_follows [] m n h = omega arith
end_follows (x ∷ xs) m n h = omega (arith, sum_by-cons (λ k. cond {A = ℕ} (ltb k m) 1 0) x xs, sum_by-cons (λ k. cond {A = ℕ} (ltb k n) 1 0) x xs, end_follows xs m n h, one (cases_lt x m) (cases_lt x n))
  where
    one : (x < m) ⊎ (m ≤ x) → (x < n) ⊎ (n ≤ x) → cond {A = ℕ} (ltb x m) 1 0 ≤ cond (ltb x n) 1 0
    one (inl u) (inl v) = omega (arith, cond-true {A = ℕ} (ltb x m) 1 0 (lt-ltb x m u), cond-true {A = ℕ} (ltb x n) 1 0 (lt-ltb x n v))
    one (inl u) (inr v) = absurd (omega (arith, u, v, h))
    one (inr u) v = omega (arith, cond-false {A = ℕ} (ltb x m) 1 0 (le-ltb x m u))

pub none_first : (ns : List ℕ) → keys_below ns 0 ≡ 0
unfolding keys_below
none_first [] = refl
none_first (x ∷ xs) = omega (arith, sum_by-cons (λ k. cond {A = ℕ} (ltb k 0) 1 0) x xs, cond-false {A = ℕ} (ltb x 0) 1 0 (le-ltb x 0 (omega arith)), none_first xs)

take_part : {X : Type 0} (low high : ℕ) (xs : List X) → low ≤ high → take high xs ≡ take low xs ++ take (high - low) (drop low xs)
take_part zero high xs h = let e : high - 0 ≡ high = omega arith in ap (λ t. take t xs) (sym e)
take_part (suc low) zero xs h = absurd (omega (arith, h))
take_part (suc low) (suc high) [] h = sym (take_all (suc high - suc low) [] (omega arith))
take_part (suc low) (suc high) (x ∷ xs) h =
    let e : suc high - suc low ≡ high - low = omega arith in
    ap (λ t. x ∷ t) (take_part low high xs (omega (arith, h)) ∙ ap (λ t. take low xs ++ take t (drop low xs)) (sym e))

pub mapped_part : {X Y : Type 0} (f : X → Y) (low high : ℕ) (xs : List X) (ys zs : List Y) → low ≤ high → ys ≡ map f (take low xs) → zs ≡ ys ++ map f (take (high - low) (drop low xs)) → zs ≡ map f (take high xs)
mapped_part f low high xs ys zs h e g = g ∙ ap (λ t. t ++ map f (take (high - low) (drop low xs))) e ∙ sym (map-append f (take low xs) (take (high - low) (drop low xs))) ∙ ap (map f) (sym (take_part low high xs h))

again : (ts : List Summed) (k : ℕ) (d : Summed) → k < length ts → get_or ts k d ≡ get_or ts k (get_or ts k d)
again ts k d h = same ts k h d (get_or ts k d)
  where
    same : (xs : List Summed) (j : ℕ) → j < length xs → (d e : Summed) → get_or xs j d ≡ get_or xs j e
    same [] j h d e = absurd (omega (arith, h))
    same (x ∷ xs) zero h d e = refl
    same (x ∷ xs) (suc j) h d e = same xs j (omega (arith, h)) d e

long_numbers : (ts : List Summed) (i : ℕ) (ks : List Kept) → length (numbered ts i ks) ≡ length ks
long_numbers ts i [] = refl
long_numbers ts i (κ ∷ ks) = ap suc (long_numbers ts (i + 1) ks)

-- what a part of the numbers is that begins and ends with those of the cell at a place
pub record IsOfCell (ts : List Summed) (ks : List Kept) (N : V3) (part : List ℕ) : Type 0 where
  pub within : AreWithin (length ks) part
  pub members : (d : Kept) → AreMembers (map (member_at ks d) part)
  pub shares : (d : Kept) → map (share_at ks d N (map (member_at ks d) part)) part ≡ map (shared_at ts ks d) part
  pub long : length part ≤ length ks
  pub small : IsBelow (2 ^ 112) N

pub part_of_cell : (ts : List Summed) (ks : List Kept) → length ks < 2 ^ 32 → MayShare ts ks → (ns : List ℕ) → AreSorted ts ks ns → (k : ℕ) → k < length ts → (N : V3) → ((d : Summed) → N ≡ (get_or ts k d).sum) → (low high : ℕ) → low ≡ keys_below ns (k * 2 ^ 96) → high ≡ keys_below ns ((k + 1) * 2 ^ 96) →
    IsOfCell ts ks N (take (high - low) (drop low ns))
part_of_cell ts ks few m ns a k l N is low high e f =
    let blank : Summed = record { cell = root_cell; sum = origin } in
    let g : take (high - low) (drop low ns) ≡ filter (in_group k) ns = group_range ns k low high a.rises e f in
    subst (IsOfCell ts ks N) (sym g) (subst (λ v. IsOfCell ts ks v (filter (in_group k) ns)) (sym (is blank)) (record {
      within = group_within ts ks few m ns a k (get_or ts k blank) l (again ts k blank l) nobody;
      members = λ d. group_members ts ks few m ns a k (get_or ts k blank) l (again ts k blank l) d;
      shares = λ d. group_shares ts ks few m ns a k (get_or ts k blank) l (again ts k blank l) d;
      long = omega (arith, fewer (in_group k) ns, length_permutation (numbered ts 0 ks) ns a.permuted, long_numbers ts 0 ks);
      small = All-from_recursion (λ (t : Summed). IsBelow (2 ^ 112) t.sum) ts m.small k blank l;
    }))
  where
    fewer : (t : ℕ → Bool) (xs : List ℕ) → length (filter t xs) ≤ length xs
    fewer t [] = omega arith
    fewer t (x ∷ xs) = by (t x) (fewer t xs)
      where
        by : (b : Bool) → length (filter t xs) ≤ length xs → length (cond b (x ∷ filter t xs) (filter t xs)) ≤ length (x ∷ xs)
        by true h = omega (arith, h)
        by false h = omega (arith, h)

pub climbs_rise : (ts : List Summed) → Climbs (cells_in ts) → Rises (λ k. k) (places_in ts)
climbs_rise [] a = tt
climbs_rise (t ∷ ts) a = (behind ts a.0, climbs_rise ts a.1)
  where
    behind : (xs : List Summed) → AllByRecursion (λ c. place_of t.cell < place_of c) (cells_in xs) → AllByRecursion (λ n. place_of t.cell ≤ n) (places_in xs)
    behind [] u = tt
    behind (x ∷ xs) u = let l : place_of t.cell < place_of x.cell = u.0 in (omega (arith, l), behind xs u.1)

-- ---- shares of one list of members

axis_at : (ms : List Member) (N : ℤ) (xs : List ℤ) (i : ℕ) (d : ℤ) (e : Member) → xs ≡ shares_of ms N → i < length ms → get_or xs i d ≡ share (map body_of ms) N (body_of (get_or ms i e))
axis_at ms N xs i d e h l = ap (λ t. get_or t i d) h ∙ get_or-map (λ m. share (map body_of ms) N (body_of m)) ms i e d l

pub share_more : (ks : List Kept) (e : Kept) (N : V3) (ms : List Member) (ns : List ℕ) (x y z : List ℤ) (i : ℕ) (d : ℤ) (n : ℕ) (κ : Kept) (out before : List Keyed) (s : Keyed) → AreAxes N ms x y z → ms ≡ map (member_at ks e) ns → i < length ns → n ≡ get_or ns i n → κ ≡ kept_at ks e n →
    s ≡ record { key = κ.from * 2 ^ 64 + κ.entry.member.0; sum = record { x = get_or x i d; y = get_or y i d; z = get_or z i d } } → out ≡ before ++ map (share_at ks e N ms) (take i ns) → out ++ s ∷ [] ≡ before ++ map (share_at ks e N ms) (take (i + 1) ns)
share_more ks e N ms ns x y z i d n κ out before s axes me l nn kk ss h =
    let lm : i < length ms = omega (arith, l, ap length me, length-map ns (member_at ks e)) in
    let m : Member = member_at ks e n in
    let it : get_or ms i (member_at ks e n) ≡ member_at ks e n = ap (λ t. get_or t i (member_at ks e n)) me ∙ get_or-map (member_at ks e) ns i n (member_at ks e n) l ∙ ap (member_at ks e) (sym nn) in
    let px : get_or x i d ≡ share (map body_of ms) N.x (body_of (member_at ks e n)) = axis_at ms N.x x i d (member_at ks e n) axes.on_x lm ∙ ap (λ t. share (map body_of ms) N.x (body_of t)) it in
    let py : get_or y i d ≡ share (map body_of ms) N.y (body_of (member_at ks e n)) = axis_at ms N.y y i d (member_at ks e n) axes.on_y lm ∙ ap (λ t. share (map body_of ms) N.y (body_of t)) it in
    let pz : get_or z i d ≡ share (map body_of ms) N.z (body_of (member_at ks e n)) = axis_at ms N.z z i d (member_at ks e n) axes.on_z lm ∙ ap (λ t. share (map body_of ms) N.z (body_of t)) it in
    let one : s ≡ share_at ks e N ms n = ss ∙ (λ j. record { key = (kk j).from * 2 ^ 64 + (kk j).entry.member.0; sum = record { x = px j; y = py j; z = pz j } }) in
    ap (λ t. t ++ s ∷ []) h ∙ append_assoc before (map (share_at ks e N ms) (take i ns)) (s ∷ []) ∙ ap (λ t. before ++ t) (ap (λ t. map (share_at ks e N ms) (take i ns) ++ t ∷ []) (one ∙ ap (share_at ks e N ms) nn) ∙ sym (map_more (share_at ks e N ms) ns i n l))

pub cast_small : (z : ℤ) → unsigned_abs z < 2 ^ 112 → to_z w128 (of_z w128 z) ≡ z
cast_small z h = to_z-of_z {w = w128} (fits_signed_from_abs w128 z (omega (arith, h)))
