-- The order of the cells.
use Rattle.std.proofs.Common.{◌≡◌, ℕ, ◌-◌, ◌*◌, ◌/◌, ◌^◌, ◌<◌, Bool, true, false, eqb, ltb, ◌&&◌, ◌||◌, refl, ap, sym, ◌∙◌, arith, ◌⊎◌, inl, inr}
use Rattle.std.proofs.lemmas.Bool.{eq-eqb, ne_eqb, lt-ltb, le-ltb, ltb-true, false≢true, cases_order}
use Rattle.std.proofs.lemmas.Nat.{shl-shr}
use Rattle.cell_space.specs.Cells.{CellData, width_of, corner, less_or, before}

less_or-equal : (m n : ℕ) (t : Bool) → m ≡ n → less_or m n t ≡ t
less_or-equal m n t e = ap (λ b. b || (eqb m n && t)) (le-ltb m n (omega arith)) ∙ ap (λ b. b && t) (eq-eqb m n e)

less_or-less : (m n : ℕ) (t : Bool) → m < n → less_or m n t ≡ true
less_or-less m n t h = ap (λ b. b || (eqb m n && t)) (lt-ltb m n h)

less_or-more : (m n : ℕ) (t : Bool) → n < m → less_or m n t ≡ false
less_or-more m n t h = ap (λ b. b || (eqb m n && t)) (le-ltb m n (omega arith)) ∙ ap (λ b. b && t) (ne_eqb m n (λ e. omega arith))

-- two tests of which at most one holds, and neither where E does
data Way (E : Type 0) (t u : Bool) : Type 0 where
  Neither : E → Way E t u
  First : t ≡ true → u ≡ false → Way E t u
  Second : t ≡ false → u ≡ true → Way E t u

way_equal : (E : Type 0) (m n : ℕ) (t u : Bool) → m ≡ n → Way E t u → Way ((m ≡ n) × E) (less_or m n t) (less_or n m u)
way_equal E m n t u e (Neither h) = Neither (e, h)
way_equal E m n t u e (First h k) = First (less_or-equal m n t e ∙ h) (less_or-equal n m u (sym e) ∙ k)
way_equal E m n t u e (Second h k) = Second (less_or-equal m n t e ∙ h) (less_or-equal n m u (sym e) ∙ k)

way_step : (E : Type 0) (m n : ℕ) (t u : Bool) → Way E t u → (m ≡ n) ⊎ ((m < n) ⊎ (n < m)) → Way ((m ≡ n) × E) (less_or m n t) (less_or n m u)
way_step E m n t u w (inl e) = way_equal E m n t u e w
way_step E m n t u w (inr (inl h)) = First (less_or-less m n t h) (less_or-more n m u h)
way_step E m n t u w (inr (inr h)) = Second (less_or-more m n t h) (less_or-less n m u h)

way_last : (m n : ℕ) → (m ≡ n) ⊎ ((m < n) ⊎ (n < m)) → Way (m ≡ n) (ltb m n) (ltb n m)
way_last m n (inl e) = Neither e
way_last m n (inr (inl h)) = First (lt-ltb m n h) (le-ltb n m (omega arith))
way_last m n (inr (inr h)) = Second (le-ltb m n (omega arith)) (lt-ltb n m h)

-- of two cells one is before the other, or they are one
pub data Placed (a b : CellData) : Type 0 where
  Same : a ≡ b → Placed a b
  Earlier : before a b ≡ true → before b a ≡ false → Placed a b
  Later : before a b ≡ false → before b a ≡ true → Placed a b

-- cells of one level with one corner
same_axis : (m n k l : ℕ) → k ≡ l → m * width_of k ≡ n * width_of l → m ≡ n
same_axis m n k l e h = sym (shl-shr m (32 - k)) ∙ ap (λ t. t / 2 ^ (32 - k)) (h ∙ ap (λ t. n * 2 ^ (32 - t)) (sym e)) ∙ shl-shr n (32 - k)

placed_from : (a b : CellData) → Way (((corner a).x ≡ (corner b).x) × (((corner a).y ≡ (corner b).y) × (((corner a).z ≡ (corner b).z) × (a.level ≡ b.level)))) (before a b) (before b a) → Placed a b
placed_from a b (Neither h) =
    let l : a.level ≡ b.level = h.1.1.1 in
    let x : a.x ≡ b.x = same_axis a.x b.x a.level b.level l h.0 in
    let y : a.y ≡ b.y = same_axis a.y b.y a.level b.level l h.1.0 in
    let z : a.z ≡ b.z = same_axis a.z b.z a.level b.level l h.1.1.0 in
    Same (λ i. record { level = l i; x = x i; y = y i; z = z i })
placed_from a b (First h k) = Earlier h k
placed_from a b (Second h k) = Later h k

pub placed : (a b : CellData) → Placed a b
placed a b =
    let p = corner a in
    let q = corner b in
    let t0 = ltb a.level b.level in
    let u0 = ltb b.level a.level in
    let t1 = less_or p.z q.z t0 in
    let u1 = less_or q.z p.z u0 in
    let t2 = less_or p.y q.y t1 in
    let u2 = less_or q.y p.y u1 in
    placed_from a b
    (way_step ((p.y ≡ q.y) × ((p.z ≡ q.z) × (a.level ≡ b.level))) p.x q.x t2 u2
    (way_step ((p.z ≡ q.z) × (a.level ≡ b.level)) p.y q.y t1 u1
    (way_step (a.level ≡ b.level) p.z q.z t0 u0 (way_last a.level b.level (cases_order a.level b.level)) (cases_order p.z q.z))
    (cases_order p.y q.y))
    (cases_order p.x q.x))

less_or-itself : (m : ℕ) (t : Bool) → less_or m m t ≡ t
less_or-itself m t = less_or-equal m m t refl

-- no cell is before itself
pub before-itself : (a : CellData) → before a a ≡ false
before-itself a =
    let p = corner a in
    let t0 = ltb a.level a.level in
    let t1 = less_or p.z p.z t0 in
    less_or-itself p.x (less_or p.y p.y t1) ∙ less_or-itself p.y t1 ∙ less_or-itself p.z t0 ∙ le-ltb a.level a.level (omega arith)

-- the order is handed on
less_step : (l m n : ℕ) (t u v : Bool) → (t ≡ true → u ≡ true → v ≡ true) → (l ≡ m) ⊎ ((l < m) ⊎ (m < l)) → (m ≡ n) ⊎ ((m < n) ⊎ (n < m)) → less_or l m t ≡ true → less_or m n u ≡ true → less_or l n v ≡ true
less_step l m n t u v rest (inl e) (inl f) h k = less_or-equal l n v (e ∙ f) ∙ rest (sym (less_or-equal l m t e) ∙ h) (sym (less_or-equal m n u f) ∙ k)
less_step l m n t u v rest (inl e) (inr (inl f)) h k = less_or-less l n v (omega arith)
less_step l m n t u v rest (inr (inl e)) (inl f) h k = less_or-less l n v (omega arith)
less_step l m n t u v rest (inr (inl e)) (inr (inl f)) h k = less_or-less l n v (omega arith)
less_step l m n t u v rest (inr (inr e)) g h k = absurd (false≢true (sym (less_or-more l m t e) ∙ h))
less_step l m n t u v rest g (inr (inr f)) h k = absurd (false≢true (sym (less_or-more m n u f) ∙ k))

less_less : (l m n : ℕ) (t u v : Bool) → (t ≡ true → u ≡ true → v ≡ true) → less_or l m t ≡ true → less_or m n u ≡ true → less_or l n v ≡ true
less_less l m n t u v rest h k = less_step l m n t u v rest (cases_order l m) (cases_order m n) h k

pub before-trans : (a b c : CellData) → before a b ≡ true → before b c ≡ true → before a c ≡ true
before-trans a b c h k =
    let p = corner a in
    let q = corner b in
    let r = corner c in
    less_less p.x q.x r.x (less_or p.y q.y (less_or p.z q.z (ltb a.level b.level))) (less_or q.y r.y (less_or q.z r.z (ltb b.level c.level))) (less_or p.y r.y (less_or p.z r.z (ltb a.level c.level)))
    (λ h1 k1. less_less p.y q.y r.y (less_or p.z q.z (ltb a.level b.level)) (less_or q.z r.z (ltb b.level c.level)) (less_or p.z r.z (ltb a.level c.level))
    (λ h2 k2. less_less p.z q.z r.z (ltb a.level b.level) (ltb b.level c.level) (ltb a.level c.level)
    (λ h3 k3. lt-ltb a.level c.level (omega (arith, ltb-true a.level b.level h3, ltb-true b.level c.level k3))) h2 k2) h1 k1) h k
