-- Bodies with the ids 1, 2 and so on, as the tests have them.
use Rattle.std.proofs.Common.{◌≡◌, ℕ, ◌+◌, ◌*◌, ◌<◌, ◌≤◌, ◌^◌, List, [], ◌∷◌, ◌++◌, length, get_or, sum_by, ap, sym, ◌∙◌, arith, inl, inr}
use Rattle.std.proofs.lemmas.Bool.{cases_lt}
use Rattle.std.proofs.lemmas.List.{get_or-map, get_or_append_left, get_or_push, length_push, length-map}
use Rattle.std.proofs.lemmas.List.Sums.{sum_by_push}
use Rattle.nbody_model.specs.Bodies.{BodyData, IsValid}

pub record AreNumbered (bodies : List BodyData) (n : ℕ) : Type 0 where
  pub long : length bodies ≡ n
  pub ids : (k : ℕ) (d : BodyData) → k < n → (get_or bodies k d).id ≡ k + 1
  pub light : sum_by (λ b. b.mass) bodies ≤ n * 2 ^ 20

pub numbered-more : (bodies after : List BodyData) (n : ℕ) (b : BodyData) → AreNumbered bodies n → b.id ≡ n + 1 → b.mass ≤ 2 ^ 20 → after ≡ bodies ++ b ∷ [] → AreNumbered after (n + 1)
numbered-more bodies after n b h id light e = rw e (record {
  long = length_push bodies b ∙ ap (λ t. t + 1) h.long;
  ids = λ k d lt. elim (cases_lt k n) [
    | inl low ↦ ap (λ (x : BodyData). x.id) (get_or_append_left bodies (b ∷ []) d k (omega (arith, low, h.long))) ∙ h.ids k d low
    | inr high ↦ (let same : k ≡ n = omega (arith, lt, high) in ap (λ m. (get_or (bodies ++ b ∷ []) m d).id) same ∙ ap (λ (x : BodyData). x.id) (get_or_push bodies b d n h.long) ∙ id ∙ ap (λ m. m + 1) (sym same))
  ];
  light = omega (arith, sum_by_push (λ (b : BodyData). b.mass) bodies b, h.light, light);
})

pub numbered-valid : (bodies : List BodyData) (n : ℕ) (d : BodyData) → n ≤ 1000 → AreNumbered bodies n → IsValid bodies
numbered-valid bodies n d few h = record {
  ascending = λ k lt.
      let long : k + 1 < length bodies = omega (arith, lt, length-map bodies (λ (b : BodyData). b.id)) in
      omega (arith, get_or-map (λ (b : BodyData). b.id) bodies k d 0 (omega (arith, long)), get_or-map (λ (b : BodyData). b.id) bodies (k + 1) d 0 long, h.ids k d (omega (arith, long, h.long)), h.ids (k + 1) d (omega (arith, long, h.long)));
  few = omega (arith, h.long, few);
  light = omega (arith, h.light, few);
}
