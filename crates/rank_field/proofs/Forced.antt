-- The forces on the bodies of a finished machine, each by the place of the body among those of its owner.
use Rattle.std.proofs.Common.{◌≡◌, ℕ, suc, ◌+◌, ◌<◌, ◌≤◌, ◌^◌, Bool, true, cond, eqb, List, [], ◌∷◌, ◌++◌, length, length-append, take, drop, get_or, set, map, replicate, ap, sym, ◌∙◌, arith, ◌⊎◌, inl, inr}
use Rattle.std.specs.Prelude.{◌==◌, slice_index, slice_index_or}
use Rattle.std.specs.List.{filter}
use Rattle.std.proofs.Math.Seq.{drop-cons, get_or-append_seam}
use Rattle.std.proofs.lemmas.Bool.{cases_eq, eq-eqb, ne_eqb}
use Rattle.std.proofs.lemmas.List.{get_or-map, get_or-replicate, get_or-set_other, get_or-set_same, get_or_default, length-map, length-replicate, length-set, take-append-drop, take_all, take_more}
use Rattle.std.proofs.lemmas.List.Elements.{filter-append}
use Rattle.std.proofs.lemmas.List.Filters.{length-filter_more}
use Rattle.std.proofs.lemmas.List.Sums.{count_by-le-length, length-filter}
use Rattle.fixed_point.specs.declared.V3.{V3}
use Rattle.nbody_model.specs.Bodies.{BodyData}
use Rattle.nbody_model.specs.Force.{forces}
use Rattle.octree_build.proofs.Opened.{blank}
use Rattle.rank_laws.specs.Protocol.{World, state}
use Rattle.rank_laws.specs.Machine.{Message, Rank, machine}
use Rattle.rank_laws.specs.Whole.{Whole, own, ranks_of, rules_of}
use Rattle.rank_laws.specs.Kept.{given_up}
use Rattle.rank_laws.specs.Played.{found}
use Rattle.rank_laws.proofs.KeptLaws.{has_forces}
use Rattle.rank_exchange.specs.Moments.{Moment, state_at}
use Rattle.rank_exchange.specs.Ranks.{IsAt, MayTell, RankData}
use Rattle.rank_field.specs.Machines.{HasFinished, MachineData}
use Rattle.rank_field.proofs.Gathered.{at, is_at, may_tell}

-- ---- the place of an element among those that pass a test: as many pass before it

module _ {X : Type 0} (t : X → Bool) (xs : List X) (i : ℕ) (d : X) (inside : i < length xs) (passes : t (get_or xs i d) ≡ true) where
  parted : filter t xs ≡ filter t (take i xs) ++ (get_or xs i d ∷ filter t (drop (suc i) xs))
  parted =
      let kept = ap (λ b. cond b (get_or xs i d ∷ filter t (drop (suc i) xs)) (filter t (drop (suc i) xs))) passes in
      sym (ap (filter t) (take-append-drop i xs)) ∙ filter-append t (take i xs) (drop i xs) ∙ ap (λ ys. filter t (take i xs) ++ ys) (ap (filter t) (drop-cons xs i d inside) ∙ kept)

  place_of : get_or (filter t xs) (length (filter t (take i xs))) d ≡ get_or xs i d
  place_of = ap (λ ys. get_or ys (length (filter t (take i xs))) d) parted ∙ get_or-append_seam (filter t (take i xs)) (get_or xs i d) (filter t (drop (suc i) xs)) d

  place_inside : length (filter t (take i xs)) < length (filter t xs)
  place_inside = omega (arith, ap length parted, length-append (filter t (take i xs)) (get_or xs i d ∷ filter t (drop (suc i) xs)))

-- ---- body by body

-- how many of the first bodies a rank owns
abbrev owned_of : Whole → ℕ → ℕ → ℕ
owned_of w i q = length (filter (λ b. w.owner b.id == q) (take i w.bodies))

-- the first bodies have their forces, and the place of the next body of each rank is known
pub record HasGathered (w : Whole) (z : World Rank Message) (i : ℕ) (next : List ℕ) (so_far : List V3) : Type 0 where
  pub long : length next ≡ ranks_of w
  pub each : (q : ℕ) → q < ranks_of w → slice_index next q ≡ owned_of w i q
  pub found : so_far ≡ take i (found w z)

-- a rank answers this force at a place
abbrev pub Tells : V3 → ℕ → RankData → Type 0
Tells x place rank = (m : Moment) (d : BodyData) → IsAt m rank → MayTell m → x ≡ given_up m.whole m.rank (state_at m) (slice_index_or (own m.whole m.rank) place d)

module _ (w : Whole) (z : World Rank Message) (v : MachineData) (h : HasFinished w z v) where
  pub begins : (next : List ℕ) (so_far : List V3) → next ≡ replicate (length v.ranks.items) 0 → so_far ≡ [] → HasGathered w z 0 next so_far
  begins next so_far empty none = record {
    long = ap length empty ∙ length-replicate _ 0 ∙ h.machine.ranks;
    each = λ q within. ap (λ ys. slice_index ys q) empty ∙ get_or-replicate (length v.ranks.items) q 0 0 (omega (arith, within, h.machine.ranks));
    found = none;
  }

  abbrev share_of : BodyData → V3
  share_of b = given_up w (w.owner b.id) (state (machine (rules_of w)) z (w.owner b.id)) b

  module _ (os : List ℕ) (are : os ≡ v.owners.items) where
    owners_are : os ≡ map (λ b. w.owner b.id) w.bodies
    owners_are = are ∙ h.machine.owners

    many : length os ≡ length w.bodies
    many = ap length owners_are ∙ length-map w.bodies (λ (b : BodyData). w.owner b.id)

    pub ends : (i : ℕ) (next : List ℕ) (so_far : List V3) → length os ≤ i → HasGathered w z i next so_far → so_far ≡ forces w.gravity w.bodies
    ends i next so_far over g =
        g.found ∙ take_all i (found w z) (omega (arith, over, many, length-map w.bodies share_of))
        ∙ has_forces w h.machine.run.is_whole h.machine.run.events z h.machine.run.run h.ended

    module _ (i : ℕ) (inside : i < length os) (next : List ℕ) (so_far : List V3) (g : HasGathered w z i next so_far) where
      within : i < length w.bodies
      within = omega (arith, inside, many)

      abbrev body : BodyData
      body = get_or w.bodies i blank

      owner_is : slice_index os i ≡ w.owner body.id
      owner_is = ap (λ ys. slice_index ys i) owners_are ∙ get_or-map (λ b. w.owner b.id) w.bodies i blank 0 within

      is_rank : slice_index os i < ranks_of w
      is_rank = omega (arith, owner_is, h.machine.run.is_whole.owned body.id)

      passes : eqb (w.owner body.id) (slice_index os i) ≡ true
      passes = eq-eqb (w.owner body.id) (slice_index os i) (sym owner_is)

      pub next_inside : slice_index os i < length next
      next_inside = omega (arith, is_rank, g.long)

      pub rank_inside : slice_index os i < length v.ranks.items
      rank_inside = omega (arith, is_rank, h.machine.ranks)

      module _ (place : ℕ) (is : place ≡ slice_index_or next (slice_index os i) place) where
        place_is : place ≡ owned_of w i (slice_index os i)
        place_is = is ∙ get_or_default next (slice_index os i) place 0 next_inside ∙ g.each (slice_index os i) is_rank

        place_among : place < length (own w (slice_index os i))
        place_among = omega (arith, place_is, place_inside (λ b. w.owner b.id == slice_index os i) w.bodies i blank within passes)

        pub place_fits : place + 1 ≤ 2 ^ 20
        place_fits =
            let t : BodyData → Bool = λ b. w.owner b.id == slice_index os i in
            let few : length w.bodies ≤ 1048576 = h.machine.run.is_whole.bodies.valid.few in
            omega (arith, place_among, few, length-filter t w.bodies, count_by-le-length t w.bodies)

        module _ (rank : RankData) (rank_is : rank ≡ slice_index_or v.ranks.items (slice_index os i) rank) where
          stands : IsAt (at w z v h (slice_index os i) is_rank) rank
          stands = is_at w z v h (slice_index os i) is_rank rank rank_is

          pub has_place : place < length rank.own.items
          has_place = omega (arith, place_among, ap length stands.most.bodies)

          pub may_be_told : (m : Moment) × (IsAt m rank × MayTell m)
          may_be_told = (at w z v h (slice_index os i) is_rank, (stands, may_tell w z v h (slice_index os i) is_rank))

          module _ (x : V3) (told : Tells x place rank) where
            force_is : x ≡ get_or (found w z) i x
            force_is =
                let q = slice_index os i in
                let at_place : slice_index_or (own w q) place blank ≡ body =
                ap (λ (k : ℕ). slice_index_or (own w q) k blank) place_is ∙ place_of (λ b. w.owner b.id == q) w.bodies i blank within passes in
                told (at w z v h q is_rank) blank stands (may_tell w z v h q is_rank)
                ∙ ap (given_up w q (state (machine (rules_of w)) z q)) at_place
                ∙ ap (λ (q : ℕ). given_up w q (state (machine (rules_of w)) z q) body) owner_is
                ∙ sym (get_or-map share_of w.bodies i blank x within)

            next_of : (q : ℕ) → q < ranks_of w → slice_index (set next (slice_index os i) (place + 1)) q ≡ owned_of w (i + 1) q
            next_of q q_within = by (cases_eq q (slice_index os i))
              where
                by : (q ≡ slice_index os i) ⊎ (q ≡ slice_index os i → ⊥) → slice_index (set next (slice_index os i) (place + 1)) q ≡ owned_of w (i + 1) q
                by (inl e) =
                    let more = length-filter_more (λ b. w.owner b.id == q) w.bodies i blank within in
                    let one = ap (λ t. cond {A = ℕ} t 1 0) (eq-eqb (w.owner body.id) q (sym owner_is ∙ sym e)) in
                    let here : slice_index (set next (slice_index os i) (place + 1)) q ≡ place + 1 =
                    ap (slice_index (set next (slice_index os i) (place + 1))) e ∙ get_or-set_same next (slice_index os i) (place + 1) 0 next_inside in
                    let before : owned_of w i q ≡ owned_of w i (slice_index os i) = ap (owned_of w i) e in
                    omega (arith, more, one, here, before, place_is)
                by (inr ne) =
                    let more = length-filter_more (λ b. w.owner b.id == q) w.bodies i blank within in
                    let none = ap (λ t. cond {A = ℕ} t 1 0) (ne_eqb (w.owner body.id) q (λ u. ne (sym u ∙ sym owner_is))) in
                    let here : slice_index (set next (slice_index os i) (place + 1)) q ≡ slice_index next q = get_or-set_other next (slice_index os i) q (place + 1) 0 ne in
                    omega (arith, more, none, here, g.each q q_within)

            pub goes_on : (fs : List V3) → fs ≡ so_far ++ x ∷ [] → HasGathered w z (i + 1) (set next (slice_index os i) (place + 1)) fs
            goes_on fs pushed = record {
              long = length-set next (slice_index os i) (place + 1) ∙ g.long;
              each = next_of;
              found =
                  pushed ∙ ap (λ ys. ys ++ x ∷ []) g.found ∙ ap (λ y. take i (found w z) ++ y ∷ []) force_is
                  ∙ sym (take_more (found w z) i x (omega (arith, within, length-map w.bodies share_of)));
            }
