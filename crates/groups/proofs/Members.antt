-- The members of groups, place by place.
use Rattle.std.proofs.Common.{◌≡◌, ℕ, suc, ◌+◌, ◌<◌, ◌≤◌, List, [], ◌∷◌, ◌++◌, length, get_or, take, map, sum_by, cond, ap, sym, ◌∙◌, true, false, Bool, arith}
use Rattle.std.proofs.Math.Seq.{take-suc}
use Rattle.std.specs.List.{flat_map, range_with_len}
use Rattle.std.specs.Prelude.{nat_lt}
use Rattle.std.proofs.lemmas.List.{append-nil, length-append, map-append}
use Rattle.std.proofs.lemmas.List.Concat.{flat_map-append}
use Rattle.std.proofs.lemmas.List.Sums.{sum_by-append}
use Rattle.nbody_model.specs.Bodies.{BodyData}
use Rattle.group_file.specs.Catalogues.{GroupData}
use Rattle.neighbour_find.specs.Near.{nobody}
use Rattle.groups.specs.Groups.{has_head, group_of, members, kept, AreHeads, IsCatalogue, web}
use Rattle.neighbour_find.proofs.Nears.{range_more}

pub ids_more : (B : List BodyData) (list : List ℕ) (e d id : ℕ) (ids : List ℕ) → e < length list → ids ≡ map (λ k. (get_or B k nobody).id) (take e list) → id ≡ (get_or B (get_or list e d) nobody).id
    → ids ++ (id ∷ []) ≡ map (λ k. (get_or B k nobody).id) (take (e + 1) list)
ids_more B list e d id ids h w i =
    let up : e + 1 ≡ suc e = omega arith in
    ap (λ xs. xs ++ (id ∷ [])) w ∙ ap (λ n. map (λ k. (get_or B k nobody).id) (take e list) ++ (n ∷ [])) i ∙ sym (map-append (λ k. (get_or B k nobody).id) (take e list) (get_or list e d ∷ []))
    ∙ ap (map (λ k. (get_or B k nobody).id)) (sym (ap (λ n. take n list) up ∙ take-suc list e d h))

sum_one : (f : ℕ → ℕ) (k : ℕ) → sum_by f (k ∷ []) ≡ f k
sum_one f k = omega arith

pub mass_more : (B : List BodyData) (list : List ℕ) (e d more mass : ℕ) → e < length list → mass ≡ sum_by (λ k. (get_or B k nobody).mass) (take e list) → more ≡ (get_or B (get_or list e d) nobody).mass
    → mass + more ≡ sum_by (λ k. (get_or B k nobody).mass) (take (e + 1) list)
mass_more B list e d more mass h w i =
    let up : e + 1 ≡ suc e = omega arith in
    omega (arith, w, i, ap (sum_by (λ k. (get_or B k nobody).mass)) (ap (λ n. take n list) up ∙ take-suc list e d h), sum_by-append (λ k. (get_or B k nobody).mass) (take e list) (get_or list e d ∷ []), sum_one (λ k. (get_or B k nobody).mass) (get_or list e d))

pub kept_more : (least : ℕ) (B : List BodyData) (heads : List ℕ) (p : ℕ) (C : List GroupData) → C ≡ flat_map (kept least B heads) (range_with_len 0 p) → C ++ kept least B heads p ≡ flat_map (kept least B heads) (range_with_len 0 (p + 1))
kept_more least B heads p C e =
    let up : p + 1 ≡ suc p = omega arith in
    let zero_less : 0 + p ≡ p = omega arith in
    ap (λ xs. xs ++ kept least B heads p) e ∙ ap (λ xs. flat_map (kept least B heads) (range_with_len 0 p) ++ xs) (sym (append-nil (kept least B heads p))) ∙ sym (flat_map-append (kept least B heads) (range_with_len 0 p) (p ∷ []))
    ∙ ap (flat_map (kept least B heads)) (sym (ap (range_with_len 0) up ∙ range_more 0 p ∙ ap (λ m. range_with_len 0 p ++ (m ∷ [])) zero_less))

pub is_catalogue : (reach least : ℕ) (B : List BodyData) (heads : List ℕ) (p : ℕ) (C : List GroupData) → AreHeads (web reach B) heads → C ≡ flat_map (kept least B heads) (range_with_len 0 p) → p ≡ length B → IsCatalogue reach least B C
is_catalogue reach least B heads p C a e n = record { heads = heads; are = a; is = e ∙ ap (λ n. flat_map (kept least B heads) (range_with_len 0 n)) n }

-- there are at most as many groups as places
kept_one : (a b : Bool) (g : GroupData) → length (cond a (cond b [] (g ∷ [])) []) ≤ 1
kept_one true true g = omega arith
kept_one true false g = omega arith
kept_one false b g = omega arith

pub groups_few : (least : ℕ) (B : List BodyData) (heads xs : List ℕ) → length (flat_map (kept least B heads) xs) ≤ length xs
groups_few least B heads [] = omega arith
groups_few least B heads (p ∷ xs) =
    omega (arith, length-append (kept least B heads p) (flat_map (kept least B heads) xs), kept_one (has_head heads p p) (nat_lt (length (members heads p)) least) (group_of B heads p), groups_few least B heads xs)
