-- Sums over the members of a cell, one body after another.
use Rattle.std.proofs.Common.{◌≡◌, ℕ, ◌+◌, ◌<◌, ◌≤◌, ◌^◌, true, false, cond, not, List, [], ◌∷◌, ◌++◌, length, take, get_or, refl, ap, sym, ◌∙◌, arith, append-nil, length-take-le}
use Rattle.std.specs.List.{filter}
use Rattle.std.proofs.lemmas.Bool.{cond-true, cond-false}
use Rattle.std.proofs.lemmas.List.Sums.{sum_by_more_le, length-filter, count_by-le-length}
use Rattle.std.proofs.lemmas.List.Filters.{sum_by-filter_both}
use Rattle.std.proofs.lemmas.List.Elements.{filter_more}
use Rattle.std.proofs.lemmas.List.{take_all}
use Rattle.cell_space.specs.Cells.{CellData, contains}
use Rattle.nbody_model.specs.Bodies.{BodyData, IsValid}
use Rattle.nbody_model.specs.Moments.{mass_of}
use Rattle.node_moments.specs.Sums.{RawData, raw_of}

pub raw-cell : (soft : List ℕ) (c : CellData) (ms : List BodyData) (r : RawData) → r ≡ raw_of soft c ms → r.cell ≡ c
unfolding raw_of
raw-cell soft c ms r e = ap (λ (t : RawData). t.cell) e

pub raw-count : (soft : List ℕ) (c : CellData) (ms : List BodyData) (r : RawData) → r ≡ raw_of soft c ms → r.count ≡ length ms
unfolding raw_of
raw-count soft c ms r e = ap (λ (t : RawData). t.count) e

pub raw-mass : (soft : List ℕ) (c : CellData) (ms : List BodyData) (r : RawData) → r ≡ raw_of soft c ms → r.mass ≡ mass_of ms
unfolding raw_of
raw-mass soft c ms r e = ap (λ (t : RawData). t.mass) e

-- the bodies of a cell
abbrev pub inside : CellData → List BodyData → List BodyData
inside c B = filter (λ b. contains c b.motion.pos) B

pub none_more : (soft : List ℕ) (c : CellData) (ms : List BodyData) (b : BodyData) (r : RawData) → contains c b.motion.pos ≡ false → r ≡ raw_of soft c ms → r ≡ raw_of soft c (ms ++ inside c (b ∷ []))
none_more soft c ms b r out e =
    let none : cond (contains c b.motion.pos) (b ∷ []) [] ≡ [] = cond-false (contains c b.motion.pos) (b ∷ []) [] out in
    e ∙ ap (raw_of soft c) (sym (append-nil ms) ∙ ap (λ t. ms ++ t) (sym none))

-- the bodies of a cell among one more
pub next_inside : (c : CellData) (B : List BodyData) (k : ℕ) (b : BodyData) → k < length B → b ≡ get_or B k b → inside c (take (k + 1) B) ≡ inside c (take k B) ++ inside c (b ∷ [])
next_inside c B k b lt read = filter_more (λ b. contains c b.motion.pos) B k b lt ∙ ap (λ x. inside c (take k B) ++ inside c (x ∷ [])) (sym read)

inside-few : (c : CellData) (B : List BodyData) (k : ℕ) → k < length B → length (inside c (take k B)) ≤ k
inside-few c B k lt = omega (arith, length-filter (λ b. contains c b.motion.pos) (take k B), count_by-le-length (λ b. contains c b.motion.pos) (take k B), length-take-le k B (omega arith))

pub inside-light : (c : CellData) (B : List BodyData) → mass_of (inside c B) ≤ mass_of B
inside-light c B = omega (arith, sum_by-filter_both (λ b. contains c b.motion.pos) (λ b. not (contains c b.motion.pos)) (λ _. refl) (λ b. b.mass) B)

-- a member is added
pub with_one : (soft : List ℕ) (c : CellData) (ms : List BodyData) (b : BodyData) (sums one both : RawData) → sums.cell ≡ c → contains c b.motion.pos ≡ true → one ≡ raw_of soft c (b ∷ []) →
    ((ss : List ℕ) (xs ys : List BodyData) → sums ≡ raw_of ss sums.cell xs → one ≡ raw_of ss one.cell ys → both ≡ raw_of ss sums.cell (xs ++ ys)) →
    sums ≡ raw_of soft c ms → both ≡ raw_of soft c (ms ++ inside c (b ∷ []))
with_one soft c ms b sums one both same there e add so_far =
    let here : inside c (b ∷ []) ≡ b ∷ [] = cond-true (contains c b.motion.pos) (b ∷ []) [] there in
    add soft ms (b ∷ []) (so_far ∙ ap (λ t. raw_of soft t ms) (sym same)) (e ∙ ap (λ t. raw_of soft t (b ∷ [])) (sym (raw-cell soft c (b ∷ []) one e)))
    ∙ ap (λ t. raw_of soft t (ms ++ b ∷ [])) same ∙ ap (λ t. raw_of soft c (ms ++ t)) (sym here)

-- one more member is few enough, and light enough
pub room_for : (soft : List ℕ) (c : CellData) (B : List BodyData) (k : ℕ) (r : RawData) → IsValid B → k < length B → r ≡ raw_of soft c (inside c (take k B)) → r.count < 1048576
room_for soft c B k r v lt e = omega (arith, raw-count soft c (inside c (take k B)) r e, inside-few c B k lt, lt, v.few)

pub mass_for : (soft : List ℕ) (c : CellData) (B : List BodyData) (k : ℕ) (b : BodyData) (r : RawData) → IsValid B → k < length B → b ≡ get_or B k b → r ≡ raw_of soft c (inside c (take k B)) → r.mass + b.mass ≤ 2 ^ 32
mass_for soft c B k b r v lt read e =
    omega (arith, raw-mass soft c (inside c (take k B)) r e, inside-light c (take k B), sum_by_more_le (λ b. b.mass) B k b lt, ap (λ (b : BodyData). b.mass) read, v.light)

-- the first member alone
pub first_inside : (soft : List ℕ) (c : CellData) (B : List BodyData) (k : ℕ) (b : BodyData) (r : RawData) → k < length B → b ≡ get_or B k b → contains c (get_or B k b).motion.pos ≡ true → inside c (take k B) ≡ [] → r ≡ raw_of soft c (b ∷ []) → r ≡ raw_of soft c (inside c (take (k + 1) B))
first_inside soft c B k b r lt read there none e =
    let one : inside c (b ∷ []) ≡ b ∷ [] = cond-true (contains c b.motion.pos) (b ∷ []) [] (ap (λ (b : BodyData). contains c b.motion.pos) read ∙ there) in
    e ∙ ap (raw_of soft c) (sym one ∙ ap (λ t. t ++ inside c (b ∷ [])) (sym none) ∙ sym (next_inside c B k b lt read))

pub all_inside : (soft : List ℕ) (c : CellData) (B : List BodyData) (k : ℕ) (r : RawData) → length B ≤ k → r ≡ raw_of soft c (inside c (take k B)) → r ≡ raw_of soft c (inside c B)
all_inside soft c B k r le e = e ∙ ap (λ t. raw_of soft c (inside c t)) (take_all k B le)
