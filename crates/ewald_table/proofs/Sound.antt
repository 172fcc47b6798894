-- Bytes without a fault spell a table that keeps its limits.
use Rattle.std.proofs.Common.{◌≡◌, ◌⊎◌, ℕ, ◌+◌, ◌*◌, ◌/◌, ◌%◌, ◌<◌, ◌≤◌, ◌^◌, ◌==◌, ◌&&◌, ◌||◌, not, Bool, List, true, false, Option, Some, None, refl, sym, ap, subst, ◌∙◌, arith, ℤ, pos, inl, inr}
use Rattle.std.specs.Prelude.{unsigned_abs, FitsSigned}
use Rattle.std.specs.Int.{w32, cast_signed}
use Rattle.std.specs.Option.{option_map}
use Rattle.std.proofs.lemmas.Bool.Decides.{nat_tests}
use Rattle.std.proofs.lemmas.Int.{ints}
use Rattle.std.proofs.lemmas.List.FromFn.{length-map-range_with_len, get_or-map-range_with_len}
use Rattle.std.proofs.lemmas.Nat.{div-mul-add, div-add-mod', mul-le}
use Rattle.fixed_point.specs.declared.V3.{V3}
use Rattle.fixed_point.specs.Vectors.{origin}
use Rattle.fixed_point.specs.Bytes.{word32_at}
use Rattle.nbody_model.specs.Tables.{TableData, IsTable, IsEntry, IsEdge, entry_at, points}
use Rattle.ewald_table.specs.declared.errors.TableErr.TheVariants.{PlaneNotZero}
use Rattle.ewald_table.specs.TableFile.{grid_in, count_of, entry_in, table_in, is_off, leaves_plane, plane_fault}
use Rattle.ewald_table.proofs.Ranges.{none_below}

cast_fits : (n : ℕ) → FitsSigned w32 (cast_signed w32 n)
cast_fits n = grind (arith, ints)

-- the index of a point, and the point of an index
index_below : (n i j k : ℕ) → i < n → j < n → k < n → (k * n + j) * n + i < n * n * n
index_below n i j k a b c =
    let rows : (k + 1) * n ≤ n * n = mul-le (k + 1) n n n (omega arith) (omega arith) in
    let all : (k * n + j + 1) * n ≤ n * n * n = mul-le (k * n + j + 1) n (n * n) n (omega arith) (omega arith) in
    omega arith

row_of : (n i m : ℕ) → i < n → (m * n + i) / n ≡ m
row_of n i m a = div-mul-add m n i a

place_of : (n i m : ℕ) → i < n → (m * n + i) % n ≡ i
place_of n i m a = omega (arith, div-add-mod' (m * n + i) n, ap (λ q. q * n) (div-mul-add m n i a))

size_none : (z : ℤ) → unsigned_abs z ≡ 0 → z ≡ pos 0
size_none z e = omega (arith, ints)

on_edge : (g steps : ℕ) → (steps ≡ 0) ⊎ (steps ≡ 2 ^ g) → (steps == 0 || steps == 2 ^ g) ≡ true
on_edge g steps (inl e) = grind (arith, nat_tests)
on_edge g steps (inr e) = grind (arith, nat_tests)

not_off : (g steps : ℕ) (z : ℤ) → is_off g steps z ≡ false → (steps ≡ 0) ⊎ (steps ≡ 2 ^ g) → z ≡ pos 0
not_off g steps z e edge =
    let is : not (unsigned_abs z == 0) ≡ false = ap (λ b. b && not (unsigned_abs z == 0)) (sym (on_edge g steps edge)) ∙ e in
    size_none z (grind (arith, nat_tests))

parts_false : (a b c : Bool) → (a || (b || c)) ≡ false → (a ≡ false) × (b ≡ false) × (c ≡ false)
parts_false true b c e = absurd cc
parts_false false true c e = absurd cc
parts_false false false c e = (refl, refl, e)

none_mapped : (o : Option ℕ) → option_map (λ i. PlaneNotZero i) o ≡ None → o ≡ None
none_mapped None e = refl
none_mapped (Some i) e = absurd cc

-- an entry that isn't off at its point
entry_sound : (t : TableData) (v : V3) (i j k index : ℕ) → i < points t → j < points t → k < points t → index ≡ (k * points t + j) * points t + i
    → FitsSigned w32 v.x → FitsSigned w32 v.y → FitsSigned w32 v.z → leaves_plane t.g index v ≡ false → IsEntry t i j k v
unfolding leaves_plane
entry_sound t v i j k index a b c e fx fy fz off =
    let n = points t in
    let x : index % n ≡ i = ap (λ m. m % n) e ∙ place_of n i (k * n + j) a in
    let row : index / n ≡ k * n + j = ap (λ m. m / n) e ∙ row_of n i (k * n + j) a in
    let y : index / n % n ≡ j = ap (λ m. m % n) row ∙ place_of n j k b in
    let z : index / n / n ≡ k = ap (λ m. m / n) row ∙ row_of n j k b in
    let parts = parts_false (is_off t.g (index % n) v.x) (is_off t.g (index / n % n) v.y) (is_off t.g (index / n / n) v.z) off in
    record {
      edge_x = λ edge. not_off t.g (index % n) v.x parts.0 (subst (IsEdge t) (sym x) edge);
      edge_y = λ edge. not_off t.g (index / n % n) v.y parts.1 (subst (IsEdge t) (sym y) edge);
      edge_z = λ edge. not_off t.g (index / n / n) v.z parts.2 (subst (IsEdge t) (sym z) edge);
      fits_x = fx;
      fits_y = fy;
      fits_z = fz;
    }

sound : (bytes : List ℕ) → grid_in bytes ≤ 6 → plane_fault bytes ≡ None → IsTable (table_in bytes)
unfolding entry_in
sound bytes fine none = record {
  fine = fine;
  whole = length-map-range_with_len (entry_in bytes) 0 (count_of (grid_in bytes));
  each = λ i j k a b c. each i j k a b c;
}
  where
    t : TableData
    t = table_in bytes

    each : (i j k : ℕ) → i < points t → j < points t → k < points t → IsEntry t i j k (entry_at t i j k)
    each i j k a b c =
        let index : ℕ = (k * points t + j) * points t + i in
        let below : index < count_of (grid_in bytes) = index_below (points t) i j k a b c in
        let same : entry_at t i j k ≡ entry_in bytes index = get_or-map-range_with_len (entry_in bytes) 0 (count_of (grid_in bytes)) index index origin below (omega arith) in
        subst (IsEntry t i j k) (sym same) (entry_sound t (entry_in bytes index) i j k index a b c refl
        (cast_fits (word32_at bytes (16 + 12 * index))) (cast_fits (word32_at bytes (16 + 12 * index + 4))) (cast_fits (word32_at bytes (16 + 12 * index + 8)))
        (none_below (λ i. leaves_plane (grid_in bytes) i (entry_in bytes i)) (count_of (grid_in bytes)) index (none_mapped _ none) below))

-- the same of the parts of a table
pub sound_parts : (bytes : List ℕ) (g : ℕ) (entries : List V3) → g ≡ grid_in bytes → entries ≡ (table_in bytes).entries → g ≤ 6 → plane_fault bytes ≡ None
    → IsTable (record { g = g; entries = entries })
sound_parts bytes g entries e f fine none =
    subst (λ es. IsTable (record { g = g; entries = es })) (sym f)
    (subst (λ g. IsTable (record { g = g; entries = (table_in bytes).entries })) (sym e) (sound bytes (subst (λ g. g ≤ 6) e fine) none))
