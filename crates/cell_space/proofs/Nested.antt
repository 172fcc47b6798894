-- Two cells are disjoint, or one lies in the other.
use Rattle.std.proofs.Common.{◌≡◌, ℕ, ◌-◌, ◌*◌, ◌/◌, ◌^◌, ◌<◌, ◌≤◌, Bool, true, false, not, refl, ap, sym, ◌∙◌, arith, ◌⊎◌, inl, inr}
use Rattle.std.specs.Bool.{Decides}
use Rattle.std.proofs.lemmas.Bool.{and_parts, and_from, false≢true, cases_lt, not-true, not_from_false}
use Rattle.std.proofs.lemmas.Nat.{shr-shr, shl-shr}
use Rattle.cell_space.specs.Cells.{Position, CellData, contains, cell_at, width_of, corner, disjoint, AreDisjoint, IsWithin}
use Rattle.cell_space.proofs.Cells.{contains-exact}

coarser : (n l m : ℕ) → l ≤ m → m ≤ 32 → n / width_of m / 2 ^ (m - l) ≡ n / width_of l
coarser n l m h k = shr-shr n (32 - m) (m - l) ∙ ap (λ t. n / 2 ^ t) (omega arith)

-- two positions in one cell share the cells above it
pub share_above : (p q : Position) (l m : ℕ) → l ≤ m → m ≤ 32 → cell_at m p ≡ cell_at m q → cell_at l p ≡ cell_at l q
share_above p q l m h k e =
    let axis : (n o : ℕ) → n / width_of m ≡ o / width_of m → n / width_of l ≡ o / width_of l = λ n o u. sym (coarser n l m h k) ∙ ap (λ t. t / 2 ^ (m - l)) u ∙ coarser o l m h k in
    let x : p.x / width_of l ≡ q.x / width_of l = axis p.x q.x (ap (λ t. t.x) e) in
    let y : p.y / width_of l ≡ q.y / width_of l = axis p.y q.y (ap (λ t. t.y) e) in
    let z : p.z / width_of l ≡ q.z / width_of l = axis p.z q.z (ap (λ t. t.z) e) in
    λ i. record { level = l; x = x i; y = y i; z = z i }

-- a cell contains its corner
pub corner_contained : (c : CellData) → contains c (corner c) ≡ true
corner_contained c =
    let x : c.x * width_of c.level / width_of c.level ≡ c.x = shl-shr c.x (32 - c.level) in
    let y : c.y * width_of c.level / width_of c.level ≡ c.y = shl-shr c.y (32 - c.level) in
    let z : c.z * width_of c.level / width_of c.level ≡ c.z = shl-shr c.z (32 - c.level) in
    (contains-exact c (corner c)).1 (λ i. record { level = c.level; x = x i; y = y i; z = z i })

-- of two cells that share a position the deeper one lies in the other
pub nested : (a b : CellData) (p : Position) → a.level ≤ b.level → b.level ≤ 32 → contains a p ≡ true → contains b p ≡ true → IsWithin b a
nested a b p h k u v = record { within = λ q w. (contains-exact a q).1 (share_above q p a.level b.level h k ((contains-exact b q).0 w ∙ sym ((contains-exact b p).0 v)) ∙ (contains-exact a p).0 u) }

either : (a b : CellData) → (a.level < b.level) ⊎ (b.level ≤ a.level) → (a.level ≤ b.level) ⊎ (b.level ≤ a.level)
either a b (inl h) = inl (omega arith)
either a b (inr h) = inr h

corner_shared : (a b : CellData) (p : Position) → a.level ≤ 32 → b.level ≤ 32 → contains a p ≡ true → contains b p ≡ true → (a.level ≤ b.level) ⊎ (b.level ≤ a.level) → (contains a (corner b) ≡ true) ⊎ (contains b (corner a) ≡ true)
corner_shared a b p h k u v (inl l) = inl ((nested a b p l k u v).within (corner b) (corner_contained b))
corner_shared a b p h k u v (inr l) = inr ((nested b a p l h v u).within (corner a) (corner_contained a))

apart_from : (a b : CellData) → a.level ≤ 32 → b.level ≤ 32 → contains a (corner b) ≡ false → contains b (corner a) ≡ false → AreDisjoint a b
apart_from a b h k u v = record { apart = λ p x y. neither (corner_shared a b p h k x y (either a b (cases_lt a.level b.level))) }
  where
    neither : (contains a (corner b) ≡ true) ⊎ (contains b (corner a) ≡ true) → ⊥
    neither (inl e) = false≢true (sym u ∙ e)
    neither (inr e) = false≢true (sym v ∙ e)

-- the test of `disjoint` decides whether a position lies in both
pub disjoint-exact : (a b : CellData) → a.level ≤ 32 → b.level ≤ 32 → Decides (disjoint a b) (AreDisjoint a b)
disjoint-exact a b h k = (
  λ e. let u : (not (contains a (corner b)) ≡ true) × (not (contains b (corner a)) ≡ true) = and_parts (not (contains a (corner b))) (not (contains b (corner a))) e in
      apart_from a b h k (not-true (contains a (corner b)) u.0) (not-true (contains b (corner a)) u.1),
  λ d. and_from (not (contains a (corner b))) (not (contains b (corner a)))
      (not_from_false (contains a (corner b)) (none (contains a (corner b)) (λ e. d.apart (corner b) e (corner_contained b))))
      (not_from_false (contains b (corner a)) (none (contains b (corner a)) (λ e. d.apart (corner a) (corner_contained a) e))),
)
  where
    none : (t : Bool) → (t ≡ true → ⊥) → t ≡ false
    none true h = absurd (h refl)
    none false h = refl

nested_either : (a b : CellData) (p : Position) → a.level ≤ 32 → b.level ≤ 32 → contains a p ≡ true → contains b p ≡ true → (a.level ≤ b.level) ⊎ (b.level ≤ a.level) → IsWithin a b ⊎ IsWithin b a
nested_either a b p h k u v (inl l) = inr (nested a b p l k u v)
nested_either a b p h k u v (inr l) = inl (nested b a p l h v u)

nested_cases : (a b : CellData) (t u : Bool) → a.level ≤ 32 → b.level ≤ 32 → contains a (corner b) ≡ t → contains b (corner a) ≡ u → AreDisjoint a b ⊎ (IsWithin a b ⊎ IsWithin b a)
nested_cases a b true u h k x y = inr (nested_either a b (corner b) h k x (corner_contained b) (either a b (cases_lt a.level b.level)))
nested_cases a b false true h k x y = inr (nested_either a b (corner a) h k (corner_contained a) y (either a b (cases_lt a.level b.level)))
nested_cases a b false false h k x y = inl (apart_from a b h k x y)

pub disjoint_or_nested : (a b : CellData) → a.level ≤ 32 → b.level ≤ 32 → AreDisjoint a b ⊎ (IsWithin a b ⊎ IsWithin b a)
disjoint_or_nested a b h k = nested_cases a b (contains a (corner b)) (contains b (corner a)) h k refl refl
