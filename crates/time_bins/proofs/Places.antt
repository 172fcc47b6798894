-- The places of the bodies that don't fit, one body more.
use Rattle.std.proofs.Common.{◌≡◌, ℕ, ◌+◌, ◌<◌, ◌≤◌, Bool, true, false, cond, not, List, [], ◌∷◌, ◌++◌, length, map, filter, take, get_or, arith, refl, ap, sym, ◌∙◌}
use Rattle.std.specs.List.{enumerate_from, zip}
use Rattle.std.proofs.lemmas.List.{map-append, append-nil, take_all}
use Rattle.std.proofs.lemmas.List.Elements.{filter_more}
use Rattle.std.proofs.lemmas.List.FromFn.{get_or-enumerate_from, length-enumerate_from}
use Rattle.std.proofs.lemmas.Slice.Zip.{get_or-zip, length-zip}
use Rattle.fixed_point.specs.declared.V3.{V3}
use Rattle.nbody_model.specs.Bodies.{BodyData}
use Rattle.nbody_model.specs.Setups.{SetupData}
use Rattle.nbody_model.specs.Steps.{fits}
use Rattle.time_bins.specs.Parts.{unfit, unfit_places}

-- bodies and forces with their places
abbrev pub numbered : List BodyData → List V3 → List (ℕ × (BodyData × V3))
numbered B fs = enumerate_from 0 (zip B fs)

first_of_one : (b : Bool) (p : ℕ × (BodyData × V3)) → map (λ q. q.0) (cond b (p ∷ []) []) ≡ cond b (p.0 ∷ []) []
first_of_one true p = refl
first_of_one false p = refl

pub length-numbered : (B : List BodyData) (fs : List V3) → length fs ≡ length B → length (numbered B fs) ≡ length B
length-numbered B fs e = omega (arith, length-enumerate_from 0 (zip B fs), length-zip B fs, e)

pub places_more : (s : SetupData) (bin : ℕ) (B : List BodyData) (fs : List V3) (i : ℕ) (b : BodyData) (f : V3) → i < length B → length fs ≡ length B →
    map (λ p. p.0) (filter (λ p. unfit s bin p.1) (take (i + 1) (enumerate_from 0 (zip B fs))))
    ≡ map (λ p. p.0) (filter (λ p. unfit s bin p.1) (take i (enumerate_from 0 (zip B fs)))) ++ cond (unfit s bin (get_or B i b, get_or fs i f)) (i ∷ []) []
places_more s bin B fs i b f lt e =
    let d : ℕ × (BodyData × V3) = (0, (b, f)) in
    let test : ℕ × (BodyData × V3) → Bool = λ p. unfit s bin p.1 in
    let within : i < length (enumerate_from 0 (zip B fs)) = omega (arith, length-numbered B fs e) in
    let zipped : i < length (zip B fs) = omega (arith, length-zip B fs, e) in
    let start : 0 + i ≡ i = omega arith in
    let here : get_or (enumerate_from 0 (zip B fs)) i d ≡ (i, (get_or B i b, get_or fs i f)) =
    get_or-enumerate_from 0 (zip B fs) i d zipped ∙ (λ j. (start j, get_or-zip B fs i (b, f) lt (omega (arith, e)) j)) in
    ap (map (λ p. p.0)) (filter_more test (enumerate_from 0 (zip B fs)) i d within)
    ∙ map-append (λ (p : ℕ × (BodyData × V3)). p.0) (filter test (take i (enumerate_from 0 (zip B fs)))) (cond (test (get_or (enumerate_from 0 (zip B fs)) i d)) (get_or (enumerate_from 0 (zip B fs)) i d ∷ []) [])
    ∙ ap (λ r. map (λ p. p.0) (filter test (take i (enumerate_from 0 (zip B fs)))) ++ r)
    (first_of_one (test (get_or (enumerate_from 0 (zip B fs)) i d)) (get_or (enumerate_from 0 (zip B fs)) i d) ∙ ap (λ (q : ℕ × (BodyData × V3)). cond (unfit s bin q.1) (q.0 ∷ []) []) here)

-- the places of those among the first i bodies
abbrev pub places_below : SetupData → ℕ → List BodyData → List V3 → ℕ → List ℕ
places_below s bin B fs i = map (λ p. p.0) (filter (λ p. unfit s bin p.1) (take i (enumerate_from 0 (zip B fs))))

not_cond : (r : Bool) (i : ℕ) (xs : List ℕ) → r ≡ false → xs ++ cond (not r) (i ∷ []) [] ≡ xs ++ i ∷ []
not_cond r i xs e = ap (λ t. xs ++ cond (not t) (i ∷ []) []) e

not_cond_true : (r : Bool) (i : ℕ) (xs : List ℕ) → r ≡ true → xs ++ cond (not r) (i ∷ []) [] ≡ xs
not_cond_true r i xs e = ap (λ t. xs ++ cond (not t) (i ∷ []) []) e ∙ append-nil xs

same_test : (s : SetupData) (bin : ℕ) (B : List BodyData) (fs : List V3) (i : ℕ) (b : BodyData) (f : V3) (r : Bool) → b ≡ get_or B i b → r ≡ fits s b (get_or fs i f) bin → fits s (get_or B i b) (get_or fs i f) bin ≡ r
same_test s bin B fs i b f r e h = ap (λ (x : BodyData). fits s x (get_or fs i f) bin) (sym e) ∙ sym h

pub fast_more : (s : SetupData) (bin : ℕ) (B : List BodyData) (fs : List V3) (i : ℕ) (b : BodyData) (f : V3) (r : Bool) (places next : List ℕ) → i < length B → length fs ≡ length B →
    b ≡ get_or B i b → r ≡ fits s b (get_or fs i f) bin → places ≡ places_below s bin B fs i → r ≡ false → next ≡ places ++ i ∷ [] → next ≡ places_below s bin B fs (i + 1)
fast_more s bin B fs i b f r places next lt e at h so_far unfits is =
    is ∙ ap (λ xs. xs ++ i ∷ []) so_far ∙ sym (not_cond (fits s (get_or B i b) (get_or fs i f) bin) i (places_below s bin B fs i) (same_test s bin B fs i b f r at h ∙ unfits)) ∙ sym (places_more s bin B fs i b f lt e)

pub slow_more : (s : SetupData) (bin : ℕ) (B : List BodyData) (fs : List V3) (i : ℕ) (b : BodyData) (f : V3) (r : Bool) (places next : List ℕ) → i < length B → length fs ≡ length B →
    b ≡ get_or B i b → r ≡ fits s b (get_or fs i f) bin → places ≡ places_below s bin B fs i → r ≡ true → next ≡ places → next ≡ places_below s bin B fs (i + 1)
slow_more s bin B fs i b f r places next lt e at h so_far fits_it is =
    is ∙ so_far ∙ sym (not_cond_true (fits s (get_or B i b) (get_or fs i f) bin) i (places_below s bin B fs i) (same_test s bin B fs i b f r at h ∙ fits_it)) ∙ sym (places_more s bin B fs i b f lt e)

pub all_places : (s : SetupData) (bin : ℕ) (B : List BodyData) (fs : List V3) (i : ℕ) → length B ≤ i → length fs ≡ length B → places_below s bin B fs i ≡ unfit_places s bin B fs
all_places s bin B fs i h e = ap (λ ps. map (λ p. p.0) (filter (λ p. unfit s bin p.1) ps)) (take_all i (enumerate_from 0 (zip B fs)) (omega (arith, length-numbered B fs e)))

pub whole : (s : SetupData) (bin : ℕ) (B : List BodyData) (fs : List V3) (i : ℕ) (places : List ℕ) → length B ≤ i → length fs ≡ length B → places ≡ places_below s bin B fs i → places ≡ unfit_places s bin B fs
whole s bin B fs i places h e so_far = so_far ∙ all_places s bin B fs i h e
