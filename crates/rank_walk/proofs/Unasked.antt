-- The cells that a rank asks for, place by place.
use Rattle.std.proofs.Common.{Less, Equal, Greater, ◌≡◌, ℕ, zero, suc, ◌+◌, ◌<◌, ◌≤◌, Bool, true, false, cond, eqb, ◌&&◌, ◌||◌, not, List, [], ◌∷◌, ◌++◌, map, set, take, length, get_or, refl, ap, sym, ◌∙◌, arith, ◌⊎◌, inl, inr, subst}
use Rattle.std.specs.Prelude.{Option, Some, is_some}
use Rattle.std.specs.Ordering.{is_eq, nat_cmp}
use Rattle.std.specs.List.Sorted.{IsPermutation}
use Rattle.std.proofs.lemmas.List.Sorted.{All-permutation}
use Rattle.std.proofs.lemmas.List.Elements.{All-from_recursion, recursion_from_All}
use Rattle.std.proofs.Math.Seq.{take-suc}
use Rattle.std.specs.List.{flat_map, AllByRecursion}
use Rattle.std.proofs.lemmas.Bool.{false≢true, cases_lt, lt-ltb, le-ltb, eqb-true}
use Rattle.std.proofs.lemmas.List.{map-append, length-set}
use Rattle.std.proofs.lemmas.List.Concat.{flat_map-append}
use Rattle.std.proofs.lemmas.List.Sums.{sum_by-cons, sum_by-append}
use Rattle.cell_space.specs.Cells.{CellData, same_cell}
use Rattle.cell_space.proofs.Cells.{same_cell-exact}
use Rattle.model_laws.proofs.Among.{any-append, each-append}
use Rattle.rank_laws.specs.Machine.{cells_of, is_one}
use Rattle.rank_walk.specs.declared.places.Places.{Places}
use Rattle.rank_walk.specs.declared.ranked.Ranked.{Ranked}
use Rattle.rank_walk.specs.Asked.{AreDistinct, IsAsking, IsRanked, asks_at, cells_at, known_cell, noted, on_list, ranked_at, times}
use Rattle.rank_walk.specs.Slots.{SlotData, no_slot, cell_at_place, cells_in, cells, flag_at}
use Rattle.rank_walk.specs.Tables.{IsIn, known_at}
use Rattle.rank_walk.proofs.Lists.{at_map, each-at, length_map}
use Rattle.rank_walk.proofs.Growth.{StandsAt, stands_at}
use Rattle.rank_walk.proofs.Values.{flag_set}

-- a flagged cell stands somewhere
pub flag_stands : (cs : List CellData) (fs : List Bool) (c : CellData) → flag_at cs fs c ≡ true → is_one c cs ≡ true
flag_stands [] fs c h = absurd (false≢true h)
flag_stands (d ∷ cs) [] c h = absurd (false≢true h)
flag_stands (d ∷ cs) (f ∷ fs) c h = by (same_cell c d) f (λ k. flag_stands cs fs c k) h
  where
    by : (a b : Bool) → (flag_at cs fs c ≡ true → is_one c cs ≡ true) → (a && b || flag_at cs fs c) ≡ true → (a || is_one c cs) ≡ true
    by true b rest k = refl
    by false b rest k = rest k

-- the flag of a cell is that of its place
pub flag_here : (ss : List SlotData) (fs : List Bool) (i : ℕ) → AreDistinct ss → length fs ≡ length ss → i < length ss → flag_at (cells_in ss) fs (cell_at_place ss i) ≡ get_or fs i false
flag_here [] fs i d e h = absurd (omega (arith, h))
flag_here (s ∷ ss) [] i d e h = absurd (omega (arith, e))
flag_here (s ∷ ss) (f ∷ fs) zero d e h = by (same_cell s.cell s.cell) f (flag_at (cells_in ss) fs s.cell) ((same_cell-exact s.cell s.cell).1 refl) (later (flag_at (cells_in ss) fs s.cell) refl)
  where
    later : (b : Bool) → flag_at (cells_in ss) fs s.cell ≡ b → b ≡ false
    later true k =
        let a : StandsAt ss s.cell = stands_at ss s.cell (flag_stands (cells_in ss) fs s.cell k) in
        let n : suc a.place ≡ 0 = d (suc a.place) 0 (omega (arith, a.low)) h a.cell in
        absurd (omega (arith, n))
    later false k = refl

    by : (a b r : Bool) → a ≡ true → r ≡ false → (a && b || r) ≡ b
    by true true r p q = refl
    by true false r p q = q
    by false b r p q = absurd (false≢true p)
flag_here (s ∷ ss) (f ∷ fs) (suc i) d e h = by (same_cell (cell_at_place ss i) s.cell) refl (flag_here ss fs i (λ j k a b c. less (d (suc j) (suc k) (omega (arith, a)) (omega (arith, b)) c)) (omega (arith, e)) (omega (arith, h)))
  where
    less : {j k : ℕ} → suc j ≡ suc k → j ≡ k
    less {j} {k} e = omega (arith, e)

    by : (b : Bool) → same_cell (cell_at_place ss i) s.cell ≡ b → flag_at (cells_in ss) fs (cell_at_place ss i) ≡ get_or fs i false → (b && f || flag_at (cells_in ss) fs (cell_at_place ss i)) ≡ get_or fs i false
    by true k rest = let n : suc i ≡ 0 = d (suc i) 0 h (omega arith) ((same_cell-exact (cell_at_place ss i) s.cell).0 k) in absurd (omega (arith, n))
    by false k rest = rest

pub known_here : (ss : List SlotData) (i : ℕ) → AreDistinct ss → i < length ss → known_cell ss (cell_at_place ss i) ≡ known_at ss i
known_here ss i d h = flag_here ss (map (λ (s : SlotData). is_some s.moments) ss) i d (length_map (λ (s : SlotData). is_some s.moments) ss) h ∙ at_map (λ (s : SlotData). is_some s.moments) no_slot ss i

-- ---- one place

-- the flags and the cells found, where c was asked (s), is known (k), stood on the list before (o) and is this cell (e)
flag_step : (s f k o e w : Bool) → f ≡ (s || (not k && o)) → (e ≡ true → w ≡ (not k && not f)) → cond w (e || f) f ≡ (s || (not k && (o || e)))
flag_step true f k o e w p q = by f e w p
  where
    by : (f e w : Bool) → f ≡ true → cond w (e || f) f ≡ true
    by true true true p = refl
    by true true false p = refl
    by true false true p = refl
    by true false false p = refl
    by false e w p = absurd (false≢true p)
flag_step false f true o true w p q = ap (λ b. cond b true f) (q refl) ∙ p
flag_step false f true o false true p q = p
flag_step false f true o false false p q = p
flag_step false f false o true w p q = ap (λ b. cond b true f) (q refl) ∙ by o f p
  where
    by : (o f : Bool) → f ≡ o → cond (not f) true f ≡ (o || true)
    by true true p = refl
    by true false p = refl
    by false true p = refl
    by false false p = refl
flag_step false f false true false true p q = p
flag_step false f false true false false p q = p
flag_step false f false false false true p q = p
flag_step false f false false false false p q = p

once_step : (s f k o e w : Bool) (n : ℕ) → f ≡ (s || (not k && o)) → (e ≡ true → w ≡ (not k && not f)) → n ≡ cond (f && not s) 1 0 → cond w (n + cond e 1 0) n ≡ cond (cond w (e || f) f && not s) 1 0
once_step s f k o e false n p q h = h
once_step s f k o false true n p q h = omega (arith, h)
once_step s true k o true true n p q h = absurd (false≢true (by k (q refl)))
  where
    by : (k : Bool) → true ≡ (not k && false) → false ≡ true
    by true e = sym e
    by false e = sym e
once_step true false k o true true n p q h = absurd (false≢true p)
once_step false false k o true true n p q h = omega (arith, h)

module _ (ss : List SlotData) (d : AreDistinct ss) (start : List Bool) (i : ℕ) (low : i < length ss) (asked : List Bool) (out : List Ranked) (w : Bool) (wants : asks_at ss asked i ≡ w)
    (long : length asked ≡ length ss) (each : AllByRecursion (IsRanked ss) out) (looked : CellData → Bool)
    (flags : (c : CellData) → flag_at (cells_in ss) asked c ≡ (flag_at (cells_in ss) start c || (not (known_cell ss c) && looked c)))
    (once : (c : CellData) → times c (cells_at ss out) ≡ cond (flag_at (cells_in ss) asked c && not (flag_at (cells_in ss) start c)) 1 0) where
  abbrev here : CellData
  here = cell_at_place ss i

  abbrev asked_then : List Bool
  asked_then = cond w (set asked i true) asked

  abbrev out_then : List Ranked
  out_then = cond w (out ++ ranked_at ss i ∷ []) out

  wanted : (c : CellData) → same_cell c here ≡ true → w ≡ (not (known_cell ss c) && not (flag_at (cells_in ss) asked c))
  wanted c e =
      let s : here ≡ c = sym ((same_cell-exact c here).0 e) in
      sym wants
      ∙ (λ t. not (sym (known_here ss i d low) t) && not (sym (flag_here ss asked i d long low) t))
      ∙ ap (λ c. not (known_cell ss c) && not (flag_at (cells_in ss) asked c)) s

  flag_then : (c : CellData) (b : Bool) → flag_at (cells_in ss) (cond b (set asked i true) asked) c ≡ cond b (same_cell c here || flag_at (cells_in ss) asked c) (flag_at (cells_in ss) asked c)
  flag_then c true = flag_set (cells_in ss) asked i c (omega (arith, long, length_map (λ (s : SlotData). s.cell) ss)) (omega (arith, low, long)) ∙ ap (λ d. same_cell c d || flag_at (cells_in ss) asked c) (at_map (λ (s : SlotData). s.cell) no_slot ss i)
  flag_then c false = refl

  pub place_long : length asked_then ≡ length ss
  place_long = by w
    where
      by : (b : Bool) → length (cond b (set asked i true) asked) ≡ length ss
      by true = length-set asked i true ∙ long
      by false = long

  pub place_each : AllByRecursion (IsRanked ss) out_then
  place_each = by w
    where
      by : (b : Bool) → AllByRecursion (IsRanked ss) (cond b (out ++ ranked_at ss i ∷ []) out)
      by true = each-append (IsRanked ss) out (ranked_at ss i ∷ []) each (record { low = low; order = refl }, tt)
      by false = each

  pub place_flags : (c : CellData) → flag_at (cells_in ss) asked_then c ≡ (flag_at (cells_in ss) start c || (not (known_cell ss c) && (looked c || same_cell c here)))
  place_flags c = flag_then c w ∙ flag_step (flag_at (cells_in ss) start c) (flag_at (cells_in ss) asked c) (known_cell ss c) (looked c) (same_cell c here) w (flags c) (wanted c)

  times_then : (c : CellData) (b : Bool) → times c (cells_at ss (cond b (out ++ ranked_at ss i ∷ []) out)) ≡ cond b (times c (cells_at ss out) + cond (same_cell c here) 1 0) (times c (cells_at ss out))
  times_then c true =
      ap (times c) (map-append (λ (r : Ranked). cell_at_place ss r.place) out (ranked_at ss i ∷ []))
      ∙ sum_by-append (λ d. cond {A = ℕ} (same_cell c d) 1 0) (cells_at ss out) (here ∷ [])
      ∙ ap (λ n. times c (cells_at ss out) + n) (sum_by-cons (λ d. cond {A = ℕ} (same_cell c d) 1 0) here [] ∙ omega arith)
  times_then c false = refl

  pub place_once : (c : CellData) → times c (cells_at ss out_then) ≡ cond (flag_at (cells_in ss) asked_then c && not (flag_at (cells_in ss) start c)) 1 0
  place_once c =
      times_then c w
      ∙ once_step (flag_at (cells_in ss) start c) (flag_at (cells_in ss) asked c) (known_cell ss c) (looked c) (same_cell c here) w (times c (cells_at ss out)) (flags c) (wanted c) (once c)
      ∙ ap (λ b. cond {A = ℕ} (b && not (flag_at (cells_in ss) start c)) 1 0) (sym (flag_then c w))

-- ---- one pair

on_list_more : (ss : List SlotData) (xs : List Places) (x : Places) (c : CellData) → on_list ss (xs ++ x ∷ []) c ≡ ((on_list ss xs c || same_cell c (cell_at_place ss x.a)) || same_cell c (cell_at_place ss x.b))
on_list_more ss xs x c =
    ap (λ t. is_one c (flat_map cells_of t)) (map-append (cells ss) xs (x ∷ []))
    ∙ ap (is_one c) (flat_map-append cells_of (map (cells ss) xs) (cells ss x ∷ []))
    ∙ any-append (same_cell c) (flat_map cells_of (map (cells ss) xs)) (cell_at_place ss x.a ∷ cell_at_place ss x.b ∷ [])
    ∙ by (on_list ss xs c) (same_cell c (cell_at_place ss x.a)) (same_cell c (cell_at_place ss x.b))
  where
    by : (o a b : Bool) → (o || (a || (b || false))) ≡ ((o || a) || b)
    by true a b = refl
    by false true b = refl
    by false false true = refl
    by false false false = refl

pub asking_none : (ss : List SlotData) (start : List Bool) (out : List Ranked) → length start ≡ length ss → out ≡ [] → IsAsking ss start [] start out
asking_none ss start out e f = record {
  long = e;
  each = subst (AllByRecursion (IsRanked ss)) (sym f) tt;
  flags = λ c. by (flag_at (cells_in ss) start c) (known_cell ss c);
  once = λ c. ap (λ t. times c (cells_at ss t)) f ∙ none (flag_at (cells_in ss) start c);
}
  where
    by : (s k : Bool) → s ≡ (s || (not k && false))
    by true k = refl
    by false true = refl
    by false false = refl

    none : (s : Bool) → ◌≡◌ {A = ℕ} 0 (cond (s && not s) 1 0)
    none true = refl
    none false = refl

pub asking_more : (ss : List SlotData) (start : List Bool) (xs : List Places) (x : Places) (asked mid new : List Bool) (out first last : List Ranked) → AreDistinct ss → IsIn ss x → IsAsking ss start xs asked out →
    mid ≡ cond (asks_at ss asked x.a) (set asked x.a true) asked → first ≡ cond (asks_at ss asked x.a) (out ++ ranked_at ss x.a ∷ []) out →
    new ≡ cond (asks_at ss mid x.b) (set mid x.b true) mid → last ≡ cond (asks_at ss mid x.b) (first ++ ranked_at ss x.b ∷ []) first → IsAsking ss start (xs ++ x ∷ []) new last
asking_more ss start xs x asked mid new out first last d h was p q u v =
    let long : length mid ≡ length ss = ap length p ∙ place_long ss d start x.a h.first asked out (asks_at ss asked x.a) refl was.long was.each (on_list ss xs) was.flags was.once in
    let each : AllByRecursion (IsRanked ss) first = subst (AllByRecursion (IsRanked ss)) (sym q) (place_each ss d start x.a h.first asked out (asks_at ss asked x.a) refl was.long was.each (on_list ss xs) was.flags was.once) in
    let flags : (c : CellData) → flag_at (cells_in ss) mid c ≡ (flag_at (cells_in ss) start c || (not (known_cell ss c) && (on_list ss xs c || same_cell c (cell_at_place ss x.a)))) = λ c. ap (λ t. flag_at (cells_in ss) t c) p ∙ place_flags ss d start x.a h.first asked out (asks_at ss asked x.a) refl was.long was.each (on_list ss xs) was.flags was.once c in
    let once : (c : CellData) → times c (cells_at ss first) ≡ cond (flag_at (cells_in ss) mid c && not (flag_at (cells_in ss) start c)) 1 0 = λ c. ap (λ t. times c (cells_at ss t)) q ∙ place_once ss d start x.a h.first asked out (asks_at ss asked x.a) refl was.long was.each (on_list ss xs) was.flags was.once c
    ∙ ap (λ t. cond {A = ℕ} (flag_at (cells_in ss) t c && not (flag_at (cells_in ss) start c)) 1 0) (sym p) in
    record {
      long = ap length u ∙ place_long ss d start x.b h.second mid first (asks_at ss mid x.b) refl long each (λ c. on_list ss xs c || same_cell c (cell_at_place ss x.a)) flags once;
      each = subst (AllByRecursion (IsRanked ss)) (sym v) (place_each ss d start x.b h.second mid first (asks_at ss mid x.b) refl long each (λ c. on_list ss xs c || same_cell c (cell_at_place ss x.a)) flags once);
      flags = λ c. ap (λ t. flag_at (cells_in ss) t c) u ∙ place_flags ss d start x.b h.second mid first (asks_at ss mid x.b) refl long each (λ c. on_list ss xs c || same_cell c (cell_at_place ss x.a)) flags once c
          ∙ ap (λ b. flag_at (cells_in ss) start c || (not (known_cell ss c) && b)) (sym (on_list_more ss xs x c));
      once = λ c. ap (λ t. times c (cells_at ss t)) v ∙ place_once ss d start x.b h.second mid first (asks_at ss mid x.b) refl long each (λ c. on_list ss xs c || same_cell c (cell_at_place ss x.a)) flags once c
          ∙ ap (λ t. cond {A = ℕ} (flag_at (cells_in ss) t c && not (flag_at (cells_in ss) start c)) 1 0) (sym u);
    }

-- ---- what is noted

pub noted_more : (rs : List Ranked) (r : Ranked) (o : ℕ) (p : Option ℕ) → noted (rs ++ r ∷ []) o p ≡ cond (eqb r.order o) (Some r.place) (noted rs o p)
noted_more [] r o p = refl
noted_more (q ∷ rs) r o p = noted_more rs r o (cond (eqb q.order o) (Some q.place) p)

pub eq_test : (a b : ℕ) → is_eq (nat_cmp a b) ≡ eqb a b
eq_test a b = by (cases_lt a b)
  where
    other : a < b → (e : Bool) → eqb a b ≡ e → false ≡ e
    other u true k = let s : a ≡ b = eqb-true a b k in absurd (omega (arith, u, s))
    other u false k = refl

    same : (e : Bool) → is_eq (cond e Equal Greater) ≡ e
    same true = refl
    same false = refl

    by : (a < b) ⊎ (b ≤ a) → is_eq (nat_cmp a b) ≡ eqb a b
    by (inl u) = ap (λ t. is_eq (cond t Less (cond (eqb a b) Equal Greater))) (lt-ltb a b u) ∙ other u (eqb a b) refl
    by (inr u) = ap (λ t. is_eq (cond t Less (cond (eqb a b) Equal Greater))) (le-ltb a b u) ∙ same (eqb a b)

one_more : {X : Type 0} (xs : List X) (i : ℕ) (e : X) → i < length xs → take (i + 1) xs ≡ take i xs ++ get_or xs i e ∷ []
one_more xs i e low = ap (λ n. take n xs) (let s : i + 1 ≡ suc i = omega arith in s) ∙ take-suc xs i e low

-- one more is noted, as the code tells it
pub noted_next : (rs : List Ranked) (i : ℕ) (e : Ranked) (o : ℕ) (p q w : Option ℕ) → i < length rs → q ≡ noted (take i rs) o p → w ≡ cond (is_eq (nat_cmp (get_or rs i e).order o)) (Some (get_or rs i e).place) q → w ≡ noted (take (i + 1) rs) o p
noted_next rs i e o p q w low h f =
    f ∙ (λ t. cond (eq_test (get_or rs i e).order o t) (Some (get_or rs i e).place) (h t)) ∙ sym (noted_more (take i rs) (get_or rs i e) o p)
    ∙ ap (λ t. noted t o p) (sym (one_more rs i e low))

pub asking_next : (ss : List SlotData) (start : List Bool) (list : List Places) (i : ℕ) (e : Places) (asked mid new : List Bool) (out first last : List Ranked) → AreDistinct ss → AllByRecursion (IsIn ss) list → i < length list → IsAsking ss start (take i list) asked out →
    mid ≡ cond (asks_at ss asked (get_or list i e).a) (set asked (get_or list i e).a true) asked → first ≡ cond (asks_at ss asked (get_or list i e).a) (out ++ ranked_at ss (get_or list i e).a ∷ []) out →
    new ≡ cond (asks_at ss mid (get_or list i e).b) (set mid (get_or list i e).b true) mid → last ≡ cond (asks_at ss mid (get_or list i e).b) (first ++ ranked_at ss (get_or list i e).b ∷ []) first → IsAsking ss start (take (i + 1) list) new last
asking_next ss start list i e asked mid new out first last d within low was p q u v =
    subst (λ t. IsAsking ss start t new last) (sym (one_more list i e low)) (asking_more ss start (take i list) (get_or list i e) asked mid new out first last d (each-at (IsIn ss) e list i within low) was p q u v)

pub each_permuted : {X : Type 0} (P : X → Type 0) (xs ys : List X) → IsPermutation xs ys → AllByRecursion P xs → AllByRecursion P ys
each_permuted P xs ys p a = recursion_from_All P ys (All-permutation P xs ys p (All-from_recursion P xs a))
