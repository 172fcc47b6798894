use Rattle.std.proofs.Common.{◌≡◌, ◌≢◌, ◌<◌, ◌+◌, ◌==◌, ◌||◌, ℕ, Bool, true, false, cond, List, length, take, get_or, refl, ap, sym, ◌∙◌, subst, arith}
use Rattle.std.specs.List.Sorted.{IsStrictlyIncreasing}
use Rattle.std.proofs.Math.ListN.{set, length-set}
use Rattle.std.proofs.Common.{get_or-set_same, get_or-set_other}
use Rattle.std.proofs.lemmas.List.{take_more, get_or_default, get_or-take, length-take}
use Rattle.std.proofs.lemmas.Bool.{eqb-true, eq-eqb, false≢true}
use Rattle.nbody_model.specs.Bodies.{has}
use Rattle.kick_drift.proofs.Rising.{rises, has-more, has_none}
use Rattle.step_engine.specs.Deeper.{IsDeeper}
use Rattle.step_engine.proofs.depth.add_part.Goals as goal

-- a place that comes later is not among those so far
later : (fast : List ℕ) (k : ℕ) → IsStrictlyIncreasing fast → k < length fast → has (take k fast) (get_or fast k 0) ≡ false
later fast k up l =
    has_none (take k fast) (get_or fast k 0) (λ j lt same.
    let short : j < k = omega (arith, lt, length-take k fast) in
    let here : get_or (take k fast) j 0 ≡ get_or fast j 0 = get_or-take k fast j 0 short in
    omega (arith, rises fast up j k short l, here, same))

deeper_at : (fast old items : List ℕ) (k p i : ℕ) (t : Bool) → IsStrictlyIncreasing fast → k < length fast → p ≡ get_or fast k 0 → p < length items → IsDeeper (take k fast) old items → i < length old → (p == i) ≡ t →
    get_or (set items p (get_or items p 0 + 1)) i 0 ≡ get_or old i 0 + cond (has (take k fast) i || t) 1 0
deeper_at fast old items k p i true up l at w d lt e =
    let same : p ≡ i = eqb-true p i e in
    let none : has (take k fast) i ≡ false = ap (has (take k fast)) (sym same ∙ at) ∙ later fast k up l in
    let was : get_or items p 0 ≡ get_or old i 0 + cond (has (take k fast) i) 1 0 = ap (λ n. get_or items n 0) same ∙ d.each i lt in
    let zero : ◌≡◌ {A = ℕ} (cond (has (take k fast) i) 1 0) 0 = ap (λ b. cond b 1 0) none in
    let one : ◌≡◌ {A = ℕ} (cond (has (take k fast) i || true) 1 0) 1 = ap (λ b. cond (b || true) 1 0) none in
    ap (λ n. get_or (set items p (get_or items p 0 + 1)) n 0) (sym same) ∙ get_or-set_same items p (get_or items p 0 + 1) 0 w ∙ omega (arith, was, zero, one)
deeper_at fast old items k p i false up l at w d lt e =
    let other : i ≢ p = λ s. false≢true (sym e ∙ eq-eqb p i (sym s)) in
    get_or-set_other items p i (get_or items p 0 + 1) 0 other ∙ d.each i lt ∙ ap (λ b. get_or old i 0 + cond b 1 0) (sym (or_false (has (take k fast) i)))
  where
    or_false : (b : Bool) → (b || false) ≡ b
    or_false true = refl
    or_false false = refl

deeper_more : (fast old items : List ℕ) (k p : ℕ) → IsStrictlyIncreasing fast → k < length fast → p ≡ get_or fast k 0 → p < length items → IsDeeper (take k fast) old items → IsDeeper (take (k + 1) fast) old (set items p (get_or items p 0 + 1))
deeper_more fast old items k p up l at w d = record {
  long = length-set items p (get_or items p 0 + 1) ∙ d.long;
  each = λ i lt.
      let next : has (take (k + 1) fast) i ≡ (has (take k fast) i || (p == i)) = ap (λ xs. has xs i) (take_more fast k 0 l) ∙ has-more (take k fast) (get_or fast k 0) i ∙ ap (λ n. has (take k fast) i || (n == i)) (sym at) in
      deeper_at fast old items k p i (p == i) up l at w d lt refl ∙ ap (λ b. get_or old i 0 + cond b 1 0) (sym next);
}

pub loop-place-preserved : goal.loop-place-preserved
loop-place-preserved c =
    let fast = c.args.fast.now in
    let items = c.loop-place.depth.items in
    let k = c.loop-place.place-index in
    let p = get_or fast k 0 in
    let within : p < length items = omega (arith, c.requires.within k c.loop-place-test.true, c.loop-place.invariant.long) in
    let value : c.index_mut.result.now ≡ get_or items p 0 = c.index_mut.ensures.value ∙ get_or_default items p _ 0 within in
    subst (λ v. IsDeeper (take (k + 1) fast) c.args.depth.now.items (set items p (v + 1))) (sym value) (deeper_more fast c.args.depth.now.items items k p c.requires.ascending c.loop-place-test.true refl within c.loop-place.invariant)
