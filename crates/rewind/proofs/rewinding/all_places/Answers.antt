use Rattle.std.proofs.Common.{◌≡◌, ◌<◌, ◌+◌, ℕ, List, length, get_or, ap, sym, ◌∙◌, arith}
use Rattle.std.proofs.lemmas.List.{ext_get_or, get_or-map, length-map}
use Rattle.nbody_model.specs.Bodies.{BodyData}
use Rattle.kick_drift.specs.Parts.{ids_at, AreAscending}
use Rattle.kick_drift.proofs.Chosen.{id_at}
use Rattle.model_laws.specs.Nests.{ids_of}
use Rattle.rewind.proofs.rewinding.all_places.Goals as goal

rising : (B : List BodyData) (ps : List ℕ) → length ps ≡ length B → ((k : ℕ) → k < length B → get_or ps k 0 ≡ k) → AreAscending B ps
rising B ps e h = record {
  within = λ k lt. omega (arith, lt, e, h k (omega (arith, lt, e)));
  ascending = λ k lt. omega (arith, h k (omega (arith, lt, e)), h (k + 1) (omega (arith, lt, e)));
}

all_ids : (B : List BodyData) (ps : List ℕ) → length ps ≡ length B → ((k : ℕ) → k < length B → get_or ps k 0 ≡ k) → ids_at B ps ≡ ids_of B
all_ids B ps e h =
    ext_get_or 0 (ids_at B ps) (ids_of B) (length-map ps (id_at B) ∙ e ∙ sym (length-map B (λ b. b.id)))
    (λ i lt. let l : i < length ps = omega (arith, lt, length-map ps (id_at B)) in get_or-map (id_at B) ps i 0 0 l ∙ ap (id_at B) (h i (omega (arith, l, e))))

pub returns-clause-places : goal.returns-clause-places
returns-clause-places c =
    let full : c.loop-place.place ≡ length c.args.set.now = omega (arith, c.loop-place-test.false, c.loop-place.auto.place-end, c.len-count.ensures.value) in
    rising c.args.set.now c.loop-place.places.items (c.loop-place.invariant.0 ∙ full) (λ k lt. c.loop-place.invariant.1 k (omega (arith, lt, full)))

pub returns-clause-all : goal.returns-clause-all
returns-clause-all c =
    let full : c.loop-place.place ≡ length c.args.set.now = omega (arith, c.loop-place-test.false, c.loop-place.auto.place-end, c.len-count.ensures.value) in
    all_ids c.args.set.now c.loop-place.places.items (c.loop-place.invariant.0 ∙ full) (λ k lt. c.loop-place.invariant.1 k (omega (arith, lt, full)))
