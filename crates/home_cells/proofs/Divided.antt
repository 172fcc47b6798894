-- Bodies divided among ranks, and what their homes keep.
use Rattle.std.proofs.Common.{◌≡◌, ℕ, zero, suc, ◌+◌, ◌<◌, ◌≤◌, true, false, cond, eqb, List, [], ◌∷◌, ◌++◌, drop, get_or, length, refl, ap, sym, ◌∙◌, subst, arith, None}
use Rattle.std.specs.List.{flat_map, AllByRecursion, range_with_len}
use Rattle.std.proofs.lemmas.List.{append_assoc, append-nil, drop_more, drop_all}
use Rattle.std.proofs.lemmas.List.Concat.{flat_map-append}
use Rattle.std.proofs.lemmas.List.Sorted.{IsPermutation-refl}
use Rattle.cell_space.specs.Cells.{CellData}
use Rattle.nbody_model.specs.Bodies.{BodyData, IsValid}
use Rattle.nbody_model.specs.Setups.{SetupData, AreSoftenings}
use Rattle.nbody_model.specs.Tables.{Gravity}
use Rattle.model_laws.specs.Laws.{AreBodies}
use Rattle.octree_build.specs.Trees.{TreeData, IsTree}
use Rattle.rank_laws.specs.Homes.{home}
use Rattle.rank_laws.specs.Whole.{Whole, own}
use Rattle.rank_laws.specs.Owners.{handed_to}
use Rattle.rank_laws.specs.Contents.{EntryData, table_sent}
use Rattle.rank_laws.proofs.ByIds.{owners_by}
use Rattle.rank_curve_laws.specs.Along.{keys_along, divided, IsDivision}
use Rattle.rank_curve_laws.proofs.Keys.{division_is}
use Rattle.rank_entry_laws.proofs.OwnBodies.{own_bodies}
use Rattle.home_cells.specs.Entries.{AreEntriesFor}
use Rattle.home_cells.specs.Found.{IsHomeTable, KeepsAll, Sends}

-- a gravity of which the softening lengths alone matter
plain : List ℕ → Gravity
plain soft = record { setup = record { time_max = 0; low_bin = 0; top_bin = 0; theta = 0; eta = 0; gravity = 0; velocity_shift = 0; soft = soft }; table = None }

plain_soft : (soft : List ℕ) → (plain soft).setup.soft ≡ soft
unfolding plain
plain_soft soft = refl

module _ (bodies : List BodyData) (owners bounds soft : List ℕ) (d : IsDivision bodies owners bounds) (are : AreBodies bodies) where
  own_is : (g : Gravity) (r : ℕ) → own (divided bodies g owners bounds) r ≡ handed_to bodies owners r
  own_is g r = (owners_by bodies owners (length bounds) are.valid.ascending d.each d.ranks d.some).own r

  pub own_valid : (r : ℕ) (xs : List BodyData) → xs ≡ handed_to bodies owners r → IsValid xs
  own_valid r xs e = subst IsValid (own_is (plain soft) r ∙ sym e) (own_bodies (divided bodies (plain soft) owners bounds) (division_is bodies are (plain soft) owners bounds d) r).valid

  pub sends : (to r : ℕ) (xs : List BodyData) (t : TreeData) (es : List EntryData) → xs ≡ handed_to bodies owners r → ((s : SetupData) → s.soft ≡ soft → IsTree s xs t) → AreEntriesFor t bounds to es → Sends bodies owners bounds soft to r es
  sends to r xs t es e tree all g s = all (divided bodies g owners bounds) r (record { keys = refl; tree = subst (λ B. IsTree g.setup B t) (e ∙ sym (own_is g r)) (tree g.setup s) })

  pub at_home : (to : ℕ) (es : List EntryData) (c : CellData) → AllByRecursion (λ b. b.kind ≤ 5) bodies → AreSoftenings soft → KeepsAll bodies owners bounds soft to (length bounds) es → to ≡ home (keys_along bounds) c → (w : Whole) × IsHomeTable w es c
  at_home to es c kinds lengths k e = (
    divided bodies (plain soft) owners bounds,
    record {
      table = record {
        whole = division_is bodies are (plain soft) owners bounds d;
        softenings = record { kinds = kinds; softenings = subst AreSoftenings (sym (plain_soft soft)) lengths };
        order = range_with_len 0 (length bounds);
        all = IsPermutation-refl (range_with_len 0 (length bounds));
        kept = k (plain soft) (plain_soft soft) ∙ ap (λ t. flat_map (λ r. table_sent (divided bodies (plain soft) owners bounds) r t) (range_with_len 0 (length bounds))) e;
      };
    },
  )

range_more : (a n : ℕ) → range_with_len a (n + 1) ≡ range_with_len a n ++ (a + n) ∷ []
range_more a zero = let e : a ≡ a + 0 = omega arith in λ i. e i ∷ []
range_more a (suc n) =
    let s : suc n + 1 ≡ suc (n + 1) = omega arith in
    let e : a + 1 + n ≡ a + suc n = omega arith in
    ap (range_with_len a) s ∙ ap (λ t. a ∷ t) (range_more (a + 1) n ∙ ap (λ t. range_with_len (a + 1) n ++ t ∷ []) e)

pub keeps_more : (bodies : List BodyData) (owners bounds soft : List ℕ) (to n : ℕ) (old sent new : List EntryData) → KeepsAll bodies owners bounds soft to n old → Sends bodies owners bounds soft to n sent → new ≡ old ++ sent → KeepsAll bodies owners bounds soft to (n + 1) new
keeps_more bodies owners bounds soft to n old sent new k s e g q =
    let T : ℕ → List EntryData = λ r. table_sent (divided bodies g owners bounds) r to in
    e ∙ (λ i. k g q i ++ s g q i)
    ∙ sym (ap (flat_map T) (range_more 0 n ∙ ap (λ t. range_with_len 0 n ++ t ∷ []) (omega arith)) ∙ flat_map-append T (range_with_len 0 n) (n ∷ []) ∙ ap (λ t. flat_map T (range_with_len 0 n) ++ t) (append-nil (T n)))

-- ---- a rank's bodies, one by one

pub AreHanded : List BodyData → List ℕ → ℕ → ℕ → List BodyData → Type 0
AreHanded bs os r i xs = xs ++ handed_to (drop i bs) (drop i os) r ≡ handed_to bs os r

pub none_handed : (bs : List BodyData) (os : List ℕ) (r : ℕ) (xs : List BodyData) → xs ≡ [] → AreHanded bs os r 0 xs
unfolding AreHanded
none_handed bs os r xs e = ap (λ t. t ++ handed_to bs os r) e

module _ (bs : List BodyData) (os : List ℕ) (r i : ℕ) (d : BodyData) (xs : List BodyData) (h : i < length bs) (same : length os ≡ length bs) (so : AreHanded bs os r i xs) where
  next : handed_to (drop i bs) (drop i os) r ≡ cond (eqb (get_or os i 0) r) (get_or bs i d ∷ handed_to (drop (i + 1) bs) (drop (i + 1) os) r) (handed_to (drop (i + 1) bs) (drop (i + 1) os) r)
  next = (λ j. handed_to (drop_more bs i d h j) (drop_more os i 0 (omega (arith, h, same)) j) r)

  pub handed_more : eqb (get_or os i 0) r ≡ true → AreHanded bs os r (i + 1) (xs ++ get_or bs i d ∷ [])
  unfolding AreHanded
  handed_more e =
      append_assoc xs (get_or bs i d ∷ []) (handed_to (drop (i + 1) bs) (drop (i + 1) os) r)
      ∙ ap (λ t. xs ++ t) (sym (next ∙ ap (λ b. cond b (get_or bs i d ∷ handed_to (drop (i + 1) bs) (drop (i + 1) os) r) (handed_to (drop (i + 1) bs) (drop (i + 1) os) r)) e))
      ∙ so

  pub handed_no_more : eqb (get_or os i 0) r ≡ false → AreHanded bs os r (i + 1) xs
  unfolding AreHanded
  handed_no_more e =
      ap (λ t. xs ++ t) (sym (next ∙ ap (λ b. cond b (get_or bs i d ∷ handed_to (drop (i + 1) bs) (drop (i + 1) os) r) (handed_to (drop (i + 1) bs) (drop (i + 1) os) r)) e))
      ∙ so

pub all_handed : (bs : List BodyData) (os : List ℕ) (r i : ℕ) (xs : List BodyData) → length bs ≤ i → AreHanded bs os r i xs → xs ≡ handed_to bs os r
unfolding AreHanded
all_handed bs os r i xs h so = sym (append-nil xs) ∙ ap (λ t. xs ++ handed_to t (drop i os) r) (sym (drop_all i bs h)) ∙ so
