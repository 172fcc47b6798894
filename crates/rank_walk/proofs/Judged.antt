-- What a verdict means.
use Rattle.std.proofs.Common.{◌≡◌, ◌+◌, ◌<◌, ◌≤◌, ◌^◌, ◌==◌, arith, Bool, true, false, cond, ◌&&◌, ◌||◌, not, List, [], ◌∷◌, refl, ap, sym, ◌∙◌, ◌⊎◌, inl, inr, subst}
use Rattle.std.specs.Prelude.{Some, None}
use Rattle.std.specs.List.{filter}
use Rattle.std.proofs.lemmas.Bool.{false≢true, eqb-true, eqb-false}
use Rattle.cell_space.specs.Cells.{CellData, same_cell, before, AreDisjoint}
use Rattle.cell_space.proofs.Cells.{same_cell-exact}
use Rattle.nbody_model.specs.Moments.{moments}
use Rattle.nbody_model.specs.Covers.{leaf, final, orient}
use Rattle.nbody_model.specs.Walks.{kids, down, over_both, over_pairs, gives}
use Rattle.nbody_model.specs.Force.{pair_force}
use Rattle.nbody_model.specs.PairForce.{pair}
use Rattle.pair_law.specs.Conditions.{is_final}
use Rattle.model_laws.specs.Laws.{IsSound}
use Rattle.model_laws.proofs.Fair.{opening_sound}
use Rattle.model_laws.proofs.Centres.{node_mass}
use Rattle.rank_walk.proofs.Masses.{light-both, mass-is}
use Rattle.rank_laws.specs.Homes.{home, concerned}
use Rattle.rank_laws.specs.Machine.{Pair}
use Rattle.rank_laws.specs.Whole.{IsWhole, opening, next_of, is_counted}
use Rattle.rank_walk.specs.declared.places.Places.{Places}
use Rattle.rank_walk.specs.declared.verdict.Verdict.{Verdict}
use Rattle.rank_walk.specs.declared.verdict.Verdict.TheVariants as verdicts
use Rattle.rank_walk.specs.Slots.{SlotData, slot_at, cell_at_place, cells, judge, judge_of, AreFit}
use Rattle.rank_walk.specs.Seats.{Side, knows_cell, moments_of, stands}
use Rattle.rank_walk.specs.Tables.{IsTable, IsIn, KnowsSlots}
use Rattle.rank_walk.specs.Walked.{IsListed, Same, Apart, Means, knows_pair}
use Rattle.rank_walk.proofs.Given.{differ_turned, disjoint_turned, member_of, places_differ}

module _ (z : Side) (ss : List SlotData) (table : IsTable z.seat ss) (knows : KnowsSlots z ss) (x : Places) (h : IsIn ss x) where
  abbrev a : CellData
  a = cell_at_place ss x.a

  abbrev b : CellData
  b = cell_at_place ss x.b

  -- the verdict, by what is true of the two cells
  abbrev judge_by : Bool → Bool → Bool → Bool → Bool → Bool → Bool → Bool → Verdict
  judge_by ka kb eq la fi tu ha hb =
      cond ka (cond kb (cond eq (cond la verdicts.Drops verdicts.Opens) (cond fi (cond tu (cond hb (verdicts.Counts true (pair z.seat.whole.gravity (moments_of z.seat b) (moments_of z.seat a))) verdicts.Drops) (cond ha (verdicts.Counts false (pair z.seat.whole.gravity (moments_of z.seat a) (moments_of z.seat b))) verdicts.Drops)) verdicts.Opens)) verdicts.Waits) verdicts.Waits

  judged_known : (ka kb : Bool) → judge_of z.seat.whole.gravity (x.a == x.b) (cond ka (Some (moments_of z.seat a)) None) (home z.seat.whole.keys a == z.seat.rank) (cond kb (Some (moments_of z.seat b)) None) (home z.seat.whole.keys b == z.seat.rank)
      ≡ judge_by ka kb (x.a == x.b) (leaf (opening z.seat.whole) a) (final (opening z.seat.whole) a b) (before b a) (home z.seat.whole.keys a == z.seat.rank) (home z.seat.whole.keys b == z.seat.rank)
  unfolding moments
  judged_known true true = refl
  judged_known true false = refl
  judged_known false true = refl
  judged_known false false = refl

  first_known : (slot_at ss x.a).moments ≡ cond (knows_cell z a) (Some (moments_of z.seat a)) None
  first_known = (table.each x.a h.first).known ∙ ap (λ b. cond b (Some (moments_of z.seat a)) None) (knows x.a h.first)

  second_known : (slot_at ss x.b).moments ≡ cond (knows_cell z b) (Some (moments_of z.seat b)) None
  second_known = (table.each x.b h.second).known ∙ ap (λ t. cond t (Some (moments_of z.seat b)) None) (knows x.b h.second)

  judged_is : judge z.seat.whole.gravity ss x ≡ judge_by (knows_cell z a) (knows_cell z b) (x.a == x.b) (leaf (opening z.seat.whole) a) (final (opening z.seat.whole) a b) (before b a) (home z.seat.whole.keys a == z.seat.rank) (home z.seat.whole.keys b == z.seat.rank)
  unfolding judge
  judged_is = (λ i. judge_of z.seat.whole.gravity (x.a == x.b) (first_known i) ((table.each x.a h.first).here i) (second_known i) ((table.each x.b h.second).here i)) ∙ judged_known (knows_cell z a) (knows_cell z b)

  none_given : (s l f : Bool) → same_cell a b ≡ s → leaf (opening z.seat.whole) a ≡ l → final (opening z.seat.whole) a b ≡ f → (s ≡ true) × (l ≡ true) ⊎ ((s ≡ false) × (f ≡ true)) → next_of z.seat.whole z.seat.rank (cells ss x) ≡ []
  unfolding gives
  none_given s l f p q r u =
      let parts : List Pair = over_pairs (λ d. (d, d) ∷ []) (λ d e. (d, e) ∷ []) (kids (opening z.seat.whole) a) in
      let later : List Pair = over_both (λ d e. (d, e) ∷ []) (down (opening z.seat.whole) a) (down (opening z.seat.whole) b) in
      ap (filter (concerned z.seat.whole.keys z.seat.rank)) ((λ i. cond (p i) (cond (q i) [] parts) (cond (r i) [] later)) ∙ by parts later u)
    where
      by : (parts later : List Pair) → (s ≡ true) × (l ≡ true) ⊎ ((s ≡ false) × (f ≡ true)) → cond s (cond l [] parts) (cond f [] later) ≡ []
      by parts later (inl e) = λ i. cond (e.0 i) (cond (e.1 i) [] parts) (cond f [] later)
      by parts later (inr e) = λ i. cond (e.0 i) (cond l [] parts) (cond (e.1 i) [] later)

  counted_by : (s f tu : Bool) → same_cell a b ≡ s → final (opening z.seat.whole) a b ≡ f → before b a ≡ tu → is_counted z.seat.whole z.seat.rank (cells ss x) ≡ ((not s && f) && (home z.seat.whole.keys (cond tu b a) == z.seat.rank))
  counted_by s f tu p q r = λ i. (not (p i) && q i) && (home z.seat.whole.keys (cond (r i) b a) == z.seat.rank)

  known_both : (k l : Bool) → knows_cell z a ≡ k → knows_cell z b ≡ l → knows_pair z (cells ss x) ≡ (k && l)
  known_both k l p q = λ i. p i && q i

  force_is : (tu : Bool) → before b a ≡ tu → orient (cells ss x) ≡ cond tu (b, a) (a, b)
  force_is tu e = ap (λ t. cond t (b, a) (a, b)) e

  means_by : (ka kb eq la fi tu ha hb : Bool) → knows_cell z a ≡ ka → knows_cell z b ≡ kb → (x.a == x.b) ≡ eq → leaf (opening z.seat.whole) a ≡ la → final (opening z.seat.whole) a b ≡ fi → before b a ≡ tu → (home z.seat.whole.keys a == z.seat.rank) ≡ ha → (home z.seat.whole.keys b == z.seat.rank) ≡ hb →
      same_cell a b ≡ eq → Means z ss x (judge_by ka kb eq la fi tu ha hb)
  unfolding pair_force
  means_by false kb eq la fi tu ha hb ea eb ee el ef et eh ei es = known_both false kb ea eb
  means_by true false eq la fi tu ha hb ea eb ee el ef et eh ei es = known_both true false ea eb
  means_by true true true true fi tu ha hb ea eb ee el ef et eh ei es = (known_both true true ea eb, none_given true true fi es el ef (inl (refl, refl)), counted_by true fi tu es ef et)
  means_by true true true false fi tu ha hb ea eb ee el ef et eh ei es = (known_both true true ea eb, counted_by true fi tu es ef et, record { first = knows x.a h.first ∙ ea; second = knows x.b h.second ∙ eb; parted = λ e. el; between = λ n. absurd (n (eqb-true x.a x.b ee)) })
  means_by true true false la false tu ha hb ea eb ee el ef et eh ei es = (known_both true true ea eb, counted_by false false tu es ef et, record { first = knows x.a h.first ∙ ea; second = knows x.b h.second ∙ eb; parted = λ e. absurd (eqb-false x.a x.b ee e); between = λ n. ef })
  means_by true true false la true true ha true ea eb ee el ef et eh ei es =
      (known_both true true ea eb, none_given false la true es el ef (inr (refl, refl)), counted_by false true true es ef et ∙ ei, force_is true et, ap (λ y. pair z.seat.whole.gravity (moments_of z.seat y.0) (moments_of z.seat y.1)) (sym (force_is true et)), λ e. eqb-false x.a x.b ee e)
  means_by true true false la true true ha false ea eb ee el ef et eh ei es = (known_both true true ea eb, none_given false la true es el ef (inr (refl, refl)), counted_by false true true es ef et ∙ ei)
  means_by true true false la true false true hb ea eb ee el ef et eh ei es =
      (known_both true true ea eb, none_given false la true es el ef (inr (refl, refl)), counted_by false true false es ef et ∙ eh, force_is false et, ap (λ y. pair z.seat.whole.gravity (moments_of z.seat y.0) (moments_of z.seat y.1)) (sym (force_is false et)), λ e. eqb-false x.a x.b ee e)
  means_by true true false la true false false hb ea eb ee el ef et eh ei es = (known_both true true ea eb, none_given false la true es el ef (inr (refl, refl)), counted_by false true false es ef et ∙ eh)

  same_as : (q : Bool) → (x.a == x.b) ≡ q → same_cell a b ≡ q
  same_as true e = (same_cell-exact a b).1 (ap (cell_at_place ss) (eqb-true x.a x.b e))
  same_as false e = places_differ z.seat ss table x h (λ s. eqb-false x.a x.b e s)

  pub judge_means : Means z ss x (judge z.seat.whole.gravity ss x)
  judge_means = subst (Means z ss x) (sym judged_is) (means_by (knows_cell z a) (knows_cell z b) (x.a == x.b) (leaf (opening z.seat.whole) a) (final (opening z.seat.whole) a b) (before b a) (home z.seat.whole.keys a == z.seat.rank) (home z.seat.whole.keys b == z.seat.rank) refl refl refl refl refl refl refl refl (same_as (x.a == x.b) refl))

  fit_by : (ka kb : Bool) → (moments_of z.seat a).mass + (moments_of z.seat b).mass ≤ 2 ^ 32 → is_final z.seat.whole.gravity.setup (moments_of z.seat a) (moments_of z.seat b) ≡ is_final z.seat.whole.gravity.setup (moments_of z.seat b) (moments_of z.seat a) →
      0 < (moments_of z.seat a).mass → 0 < (moments_of z.seat b).mass → AreFit z.seat.whole.gravity (cond ka (Some (moments_of z.seat a)) None) (cond kb (Some (moments_of z.seat b)) None)
  fit_by true true l f m n = (l, f, m, n)
  fit_by true false l f m n = tt
  fit_by false true l f m n = tt
  fit_by false false l f m n = tt

  -- two cells that stand and have nothing in common have members
  heavy : IsWhole z.seat.whole → (c d : CellData) → stands z.seat.whole c ≡ true → stands z.seat.whole d ≡ true → same_cell c d ≡ false → AreDisjoint c d → 0 < (moments_of z.seat c).mass
  heavy w c d m n e p = omega (arith, mass-is z.seat.whole.gravity.setup z.seat.whole.bodies c, node_mass z.seat.whole.bodies w.bodies.heavy c (member_of z.seat.whole w c d m n e p))

  swapped : (p q u v : Bool) → u ≡ v → (p && q || u) ≡ (q && p || v)
  swapped true true u v e = refl
  swapped true false u v e = e
  swapped false true u v e = e
  swapped false false u v e = e

  apart_of : (x.a == x.b) ≡ false → IsListed (cells ss x) → AreDisjoint a b
  apart_of e (Same s) = absurd (false≢true (sym (same_as false e) ∙ (same_cell-exact a b).1 s))
  apart_of e (Apart d) = d

  pub judge_fit : IsWhole z.seat.whole → IsListed (cells ss x) → (x.a == x.b) ≡ false → AreFit z.seat.whole.gravity (slot_at ss x.a).moments (slot_at ss x.b).moments
  unfolding moments
  judge_fit w l e =
      let s : IsSound (opening z.seat.whole) = opening_sound z.seat.whole.gravity.setup z.seat.whole.bodies w.bodies.in_box in
      subst (λ m. AreFit z.seat.whole.gravity m (slot_at ss x.b).moments) (sym first_known)
      (subst (AreFit z.seat.whole.gravity (cond (knows_cell z a) (Some (moments_of z.seat a)) None)) (sym second_known)
      (fit_by (knows_cell z a) (knows_cell z b) (light-both z.seat.whole.gravity.setup z.seat.whole.bodies a b w.bodies (apart_of e l))
      (swapped (moments_of z.seat a).leaf (moments_of z.seat b).leaf ((opening z.seat.whole).accept a b) ((opening z.seat.whole).accept b a) (s.fair a b))
      (heavy w a b (table.each x.a h.first).standing (table.each x.b h.second).standing (same_as false e) (apart_of e l))
      (heavy w b a (table.each x.b h.second).standing (table.each x.a h.first).standing (differ_turned a b (same_as false e)) (disjoint_turned a b (apart_of e l)))))
