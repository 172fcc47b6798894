-- The first body out of range after a kick.
use Rattle.std.proofs.Common.{◌≡◌, ℕ, zero, suc, ◌<◌, Bool, true, false, cond, List, [], ◌∷◌, length, get_or, arith, refl, ap, sym, ◌∙◌, ⊎_elim}
use Rattle.std.specs.Prelude.{Option, Some, None}
use Rattle.std.proofs.lemmas.Bool.{cases_lt, cases_order}
use Rattle.std.proofs.lemmas.List.{get_or-map, length-map}
use Rattle.fixed_point.specs.declared.V3.{V3}
use Rattle.fixed_point.specs.Vectors.{origin}
use Rattle.nbody_model.specs.Bodies.{BodyData, has, only}
use Rattle.nbody_model.specs.Steps.{axis_out, first_out, kicked_by}
use Rattle.kick_drift.specs.Parts.{ids_at, less_fast, change_of, after_kick, AreAscending, StaysInRange, IsRefusal, IsRefusalOf}
use Rattle.kick_drift.specs.declared.kicks.KickErr.{KickErr}
use Rattle.kick_drift.specs.declared.kicks.KickErr.TheVariants.{MomRange}
use Rattle.kick_drift.proofs.Rising.{rises, has_at, place_of, has-image}
use Rattle.kick_drift.proofs.Chosen.{Ascend, id_at, id_at_is, keeps_apart, change_is}

skip : (o : Option ℕ) (id : ℕ) (later : Option (ℕ × ℕ)) → o ≡ None → (elim o [ Some axis ↦ Some (id, axis) | None ↦ later ]) ≡ later
skip None id later e = refl
skip (Some axis) id later e = cc

found : (o : Option ℕ) (id axis : ℕ) (later : Option (ℕ × ℕ)) → o ≡ Some axis → ◌≡◌ {A = Option (ℕ × ℕ)} (elim o [ Some a ↦ Some (id, a) | None ↦ later ]) (Some (id, axis))
found None id axis later e = cc
found (Some a) id axis later e = cc

pass : (b : BodyData) (rest : List BodyData) (t : Bool) → (t ≡ true → axis_out b.motion.mom ≡ None) → first_out (cond t (b ∷ rest) rest) ≡ first_out rest
pass b rest true h = skip (axis_out b.motion.mom) b.id (first_out rest) (h refl)
pass b rest false h = refl

none_out : (P : List ℕ) (B : List BodyData) → ((j : ℕ) (d : BodyData) → j < length B → has P (get_or B j d).id ≡ true → axis_out (get_or B j d).motion.mom ≡ None) → first_out (only B P) ≡ None
none_out P [] h = refl
none_out P (b ∷ B) h = pass b (only B P) (has P b.id) (λ t. h 0 b (omega arith) t) ∙ none_out P B (λ j d lt. h (suc j) d (omega arith))

first_at : (P : List ℕ) (B : List BodyData) (i : ℕ) (d : BodyData) (axis : ℕ) → i < length B → has P (get_or B i d).id ≡ true → axis_out (get_or B i d).motion.mom ≡ Some axis →
    ((j : ℕ) → j < i → has P (get_or B j d).id ≡ true → axis_out (get_or B j d).motion.mom ≡ None) → first_out (only B P) ≡ Some ((get_or B i d).id, axis)
first_at P [] i d axis l t e h = absurd (omega arith)
first_at P (b ∷ B) zero d axis l t e h = ap (λ u. first_out (cond u (b ∷ only B P) (only B P))) t ∙ found (axis_out b.motion.mom) b.id axis (first_out (only B P)) e
first_at P (b ∷ B) (suc i) d axis l t e h = pass b (only B P) (has P b.id) (h 0 (omega arith)) ∙ first_at P B i d axis (omega arith) t e (λ j lt. h (suc j) (omega arith))

-- ---- the bodies after a kick

record Facts (B : List BodyData) (whole : List ℕ) (f : List V3) (fast : List ℕ) : Type 0 where
  pub up : Ascend B
  pub places : AreAscending B whole
  pub fast_places : AreAscending B fast
  pub equal : length f ≡ length whole

-- the body at any place after a kick
after_at : (h : ℕ) (whole : List ℕ) (f : List V3) (fast : List ℕ) (g : List V3) (B : List BodyData) (i : ℕ) (d : BodyData) → i < length B →
    get_or (after_kick h whole f fast g B) i d ≡ (let b : BodyData = get_or B i d in cond (has (ids_at B whole) b.id) (record b { motion = record { pos = b.motion.pos; mom = kicked_by h b.motion.mom (change_of (ids_at B whole) f (ids_at B fast) g b) } }) b)
after_at h whole f fast g B i d l = get_or-map (λ (b : BodyData). cond (has (ids_at B whole) b.id) (record b { motion = record { pos = b.motion.pos; mom = kicked_by h b.motion.mom (change_of (ids_at B whole) f (ids_at B fast) g b) } }) b) B i d d l

same_id : (b c : BodyData) (t : Bool) → c.id ≡ b.id → (cond t c b).id ≡ b.id
same_id b c true e = e
same_id b c false e = refl

after_id : (h : ℕ) (whole : List ℕ) (f : List V3) (fast : List ℕ) (g : List V3) (B : List BodyData) (i : ℕ) (d : BodyData) → i < length B → (get_or (after_kick h whole f fast g B) i d).id ≡ (get_or B i d).id
after_id h whole f fast g B i d l =
    let b : BodyData = get_or B i d in
    ap (λ (x : BodyData). x.id) (after_at h whole f fast g B i d l)
    ∙ same_id b (record b { motion = record { pos = b.motion.pos; mom = kicked_by h b.motion.mom (change_of (ids_at B whole) f (ids_at B fast) g b) } }) (has (ids_at B whole) b.id) refl

member : (B : List BodyData) (whole : List ℕ) (k : ℕ) (d : BodyData) → Ascend B → AreAscending B whole → k < length whole → has (ids_at B whole) (get_or B (get_or whole k 0) d).id ≡ true
member B whole k d up w l =
    let i = get_or whole k 0 in
    ap (has (ids_at B whole)) (sym (id_at_is B i d (w.within k l))) ∙ has-image (id_at B) whole i (keeps_apart B whole i up w.within (w.within k l)) ∙ has_at whole i k l refl

after_mom : (h : ℕ) (whole : List ℕ) (f : List V3) (fast : List ℕ) (g : List V3) (B : List BodyData) (k : ℕ) (d : BodyData) (v : V3) → Facts B whole f fast → k < length whole →
    (get_or (after_kick h whole f fast g B) (get_or whole k 0) d).motion.mom ≡ kicked_by h (get_or B (get_or whole k 0) d).motion.mom (less_fast fast g (get_or whole k 0) (get_or f k v))
after_mom h whole f fast g B k d v facts l =
    let i = get_or whole k 0 in
    let b : BodyData = get_or B i d in
    ap (λ (x : BodyData). x.motion.mom) (after_at h whole f fast g B i d (facts.places.within k l))
    ∙ ap (λ t. (cond t (record b { motion = record { pos = b.motion.pos; mom = kicked_by h b.motion.mom (change_of (ids_at B whole) f (ids_at B fast) g b) } }) b).motion.mom) (member B whole k d facts.up facts.places l)
    ∙ ap (kicked_by h b.motion.mom) (change_is B whole f fast g k d v facts.up facts.places facts.fast_places facts.equal l)

-- the place of a member among the places
which : (h : ℕ) (whole : List ℕ) (f : List V3) (fast : List ℕ) (g : List V3) (B : List BodyData) (j : ℕ) (d : BodyData) → Facts B whole f fast → j < length B → has (ids_at B whole) (get_or (after_kick h whole f fast g B) j d).id ≡ true →
    (k : ℕ) × (k < length whole) × (get_or whole k 0 ≡ j)
which h whole f fast g B j d facts l t =
    let id : (get_or (after_kick h whole f fast g B) j d).id ≡ id_at B j = after_id h whole f fast g B j d l ∙ sym (id_at_is B j d l) in
    place_of whole j (sym (has-image (id_at B) whole j (keeps_apart B whole j facts.up facts.places.within l)) ∙ ap (has (ids_at B whole)) (sym id) ∙ t)

stays : (h : ℕ) (whole : List ℕ) (f : List V3) (fast : List ℕ) (g : List V3) (B : List BodyData) (j : ℕ) (d : BodyData) (v : V3) → Facts B whole f fast → (k : ℕ) → k < length whole → get_or whole k 0 ≡ j → StaysInRange h whole f fast g B k → axis_out (get_or (after_kick h whole f fast g B) j d).motion.mom ≡ None
stays h whole f fast g B j d v facts k l e s =
    ap (λ n. axis_out (get_or (after_kick h whole f fast g B) n d).motion.mom) (sym e) ∙ ap axis_out (after_mom h whole f fast g B k d v facts l) ∙ s d v

pub none_leaves : (h : ℕ) (whole : List ℕ) (f : List V3) (fast : List ℕ) (g : List V3) (B : List BodyData) → Ascend B → AreAscending B whole → AreAscending B fast → length f ≡ length whole → ((k : ℕ) → k < length whole → StaysInRange h whole f fast g B k) →
    first_out (only (after_kick h whole f fast g B) (ids_at B whole)) ≡ None
none_leaves h whole f fast g B up w q e s =
    let facts : Facts B whole f fast = record { up = up; places = w; fast_places = q; equal = e } in
    let long : length (after_kick h whole f fast g B) ≡ length B = length-map B (λ (b : BodyData). cond (has (ids_at B whole) b.id) (record b { motion = record { pos = b.motion.pos; mom = kicked_by h b.motion.mom (change_of (ids_at B whole) f (ids_at B fast) g b) } }) b) in
    none_out (ids_at B whole) (after_kick h whole f fast g B)
    (λ j d lt t. let l : j < length B = omega (arith, lt, long) in let r = which h whole f fast g B j d facts l t in stays h whole f fast g B j d origin facts r.0 r.1 r.2 (s r.0 r.1))

earlier : (whole : List ℕ) (B : List BodyData) → AreAscending B whole → (a k j : ℕ) → a < length whole → k < length whole → get_or whole a 0 ≡ j → j < get_or whole k 0 → a < k
earlier whole B w a k j la lk e lt =
    ⊎_elim (λ less. less) (λ ge. ⊎_elim (λ same. absurd (omega (arith, ap (λ n. get_or whole n 0) same, e))) (λ o. ⊎_elim (λ l. l) (λ gt. absurd (omega (arith, rises whole w.ascending k a gt la, e))) o) (cases_order a k)) (cases_lt a k)

pub first_leaves : (h : ℕ) (whole : List ℕ) (f : List V3) (fast : List ℕ) (g : List V3) (B : List BodyData) → Ascend B → AreAscending B whole → AreAscending B fast → length f ≡ length whole →
    (k : ℕ) (d : BodyData) (v : V3) (axis : ℕ) → k < length whole → ((j : ℕ) → j < k → StaysInRange h whole f fast g B j) →
    axis_out (kicked_by h (get_or B (get_or whole k 0) d).motion.mom (less_fast fast g (get_or whole k 0) (get_or f k v))) ≡ Some axis →
    first_out (only (after_kick h whole f fast g B) (ids_at B whole)) ≡ Some ((get_or B (get_or whole k 0) d).id, axis)
first_leaves h whole f fast g B up w q e k d v axis l s out =
    let facts : Facts B whole f fast = record { up = up; places = w; fast_places = q; equal = e } in
    let i = get_or whole k 0 in
    let C = after_kick h whole f fast g B in
    let long : length C ≡ length B = length-map B (λ (b : BodyData). cond (has (ids_at B whole) b.id) (record b { motion = record { pos = b.motion.pos; mom = kicked_by h b.motion.mom (change_of (ids_at B whole) f (ids_at B fast) g b) } }) b) in
    let within : i < length B = w.within k l in
    let id : (get_or C i d).id ≡ (get_or B i d).id = after_id h whole f fast g B i d within in
    first_at (ids_at B whole) C i d axis (omega (arith, within, long)) (ap (has (ids_at B whole)) id ∙ member B whole k d up w l) (ap axis_out (after_mom h whole f fast g B k d v facts l) ∙ out)
    (λ j lt t. let lj : j < length B = omega (arith, lt, within) in let r = which h whole f fast g B j d facts lj t in stays h whole f fast g B j d v facts r.0 r.1 r.2 (s r.0 (earlier whole B w r.0 k j r.1 l r.2 lt)))
    ∙ ap (λ n. Some (n, axis)) id

-- ---- refusals

pub refused : (B : List BodyData) (own : ℕ) (p : V3) (e : KickErr) → IsRefusalOf own p e → ((axis : ℕ) → axis_out p ≡ Some axis → first_out B ≡ Some (own, axis)) → IsRefusal B e
refused B own p (MomRange id axis) h first = first axis h.1 ∙ ap (λ n. Some (n, axis)) (sym h.0)

pub never : (own : ℕ) (p : V3) (e : KickErr) → IsRefusalOf own p e → axis_out p ≡ None → ⊥
never own p (MomRange id axis) h none = let clash : Some axis ≡ None = sym h.1 ∙ none in cc
