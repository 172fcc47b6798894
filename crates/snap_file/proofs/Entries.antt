-- The entries of columns, read back to the rows of bodies.
use Rattle.std.proofs.Common.{◌≡◌, ℕ, zero, suc, ◌+◌, ◌*◌, ◌<◌, List, [], ◌∷◌, ◌++◌, length, get_or, drop, refl, sym, ap, ◌∙◌, arith, drop-drop, drop_at, le_of_suc-le-suc}
use Rattle.std.specs.List.{flat_map}
use Rattle.fixed_point.specs.Bytes.{bytes32, signed_bytes64, word32_at, word64_at, signed64_at}
use Rattle.fixed_point.proofs.ReadBack.{word32_back, word64_back, signed64_back, behind}
use Rattle.nbody_model.specs.Bodies.{BodyData}
use Rattle.nbody_model.specs.SnapshotText.{position_text, momentum_text, id_text, mass_text}
use Rattle.snap_file.specs.Kinds.{kind_at}
use Rattle.snap_file.specs.Snapshots.{ColumnTexts, row_in}
use Rattle.particle_set.specs.Stored.{IsStorable}
use Rattle.particle_set.proofs.StoredRows.{row_of, signed_fits}

-- the entry at a place, in a column whose entries have one width
entry_at : (f : BodyData → List ℕ) (w : ℕ) → ((b : BodyData) → length (f b) ≡ w) → (cs : List BodyData) (i : ℕ) (d : BodyData) → i < length cs
    → drop (w * i) (flat_map f cs) ≡ f (get_or cs i d) ++ flat_map f (drop (suc i) cs)
entry_at f w e [] i d l = absurd (omega (arith, l))
entry_at f w e (c ∷ cs) zero d l =
    let none : w * 0 ≡ 0 = omega arith in
    ap (λ n. drop n (f c ++ flat_map f cs)) none
entry_at f w e (c ∷ cs) (suc i) d l =
    let more : w * suc i ≡ w + w * i = omega arith in
    ap (λ n. drop n (f c ++ flat_map f cs)) more
    ∙ sym (drop-drop (w * i) w (f c ++ flat_map f cs))
    ∙ ap (drop (w * i)) (drop_at (f c) (flat_map f cs) w (e c))
    ∙ entry_at f w e cs i d (le_of_suc-le-suc l)

-- the columns of bodies
unfoldable pub columns_of : List BodyData → ColumnTexts
columns_of cs = record { positions = flat_map position_text cs; momenta = flat_map momentum_text cs; ids = flat_map id_text cs; masses = flat_map mass_text cs }

-- the row at a place is the one of the body there
pub row_back : (counts : List ℕ) (cs : List BodyData) (i : ℕ) (d : BodyData) → i < length cs → kind_at counts i ≡ (get_or cs i d).kind
    → IsStorable (get_or cs i d) → row_in counts (columns_of cs) i ≡ row_of (get_or cs i d)
unfolding row_in columns_of row_of
row_back counts cs i d l kind s =
    let b : BodyData = get_or cs i d in
    let left : List BodyData = drop (suc i) cs in
    let P : List ℕ = flat_map position_text cs in
    let M : List ℕ = flat_map momentum_text cs in
    let p0 : drop (12 * i) P ≡ bytes32 b.motion.pos.x ++ (bytes32 b.motion.pos.y ++ (bytes32 b.motion.pos.z ++ flat_map position_text left)) =
    entry_at position_text 12 (λ b. refl) cs i d l in
    let p4 : drop (12 * i + 4) P ≡ bytes32 b.motion.pos.y ++ (bytes32 b.motion.pos.z ++ flat_map position_text left) =
    behind P (bytes32 b.motion.pos.x) _ (12 * i) (12 * i + 4) p0 refl in
    let p8 : drop (12 * i + 8) P ≡ bytes32 b.motion.pos.z ++ flat_map position_text left =
    behind P (bytes32 b.motion.pos.y) _ (12 * i + 4) (12 * i + 8) p4 (omega arith) in
    let m0 : drop (24 * i) M ≡ signed_bytes64 b.motion.mom.x ++ (signed_bytes64 b.motion.mom.y ++ (signed_bytes64 b.motion.mom.z ++ flat_map momentum_text left)) =
    entry_at momentum_text 24 (λ b. refl) cs i d l in
    let m8 : drop (24 * i + 8) M ≡ signed_bytes64 b.motion.mom.y ++ (signed_bytes64 b.motion.mom.z ++ flat_map momentum_text left) =
    behind M (signed_bytes64 b.motion.mom.x) _ (24 * i) (24 * i + 8) m0 refl in
    let m16 : drop (24 * i + 16) M ≡ signed_bytes64 b.motion.mom.z ++ flat_map momentum_text left =
    behind M (signed_bytes64 b.motion.mom.y) _ (24 * i + 8) (24 * i + 16) m8 (omega arith) in
    let id : word64_at (flat_map id_text cs) (8 * i) ≡ b.id = word64_back (flat_map id_text cs) (flat_map id_text left) (8 * i) b.id (entry_at id_text 8 (λ b. refl) cs i d l) s.id in
    let mass : word32_at (flat_map mass_text cs) (4 * i) ≡ b.mass = word32_back (flat_map mass_text cs) (flat_map mass_text left) (4 * i) b.mass (entry_at mass_text 4 (λ b. refl) cs i d l) s.light in
    let x : word32_at P (12 * i) ≡ b.motion.pos.x = word32_back P _ (12 * i) b.motion.pos.x p0 s.in_box.below_x in
    let y : word32_at P (12 * i + 4) ≡ b.motion.pos.y = word32_back P _ (12 * i + 4) b.motion.pos.y p4 s.in_box.below_y in
    let z : word32_at P (12 * i + 8) ≡ b.motion.pos.z = word32_back P _ (12 * i + 8) b.motion.pos.z p8 s.in_box.below_z in
    let px : signed64_at M (24 * i) ≡ b.motion.mom.x = signed64_back M _ (24 * i) b.motion.mom.x m0 (signed_fits b.motion.mom.x s.momentum.on_x.0 s.momentum.on_x.1) in
    let py : signed64_at M (24 * i + 8) ≡ b.motion.mom.y = signed64_back M _ (24 * i + 8) b.motion.mom.y m8 (signed_fits b.motion.mom.y s.momentum.on_y.0 s.momentum.on_y.1) in
    let pz : signed64_at M (24 * i + 16) ≡ b.motion.mom.z = signed64_back M _ (24 * i + 16) b.motion.mom.z m16 (signed_fits b.motion.mom.z s.momentum.on_z.0 s.momentum.on_z.1) in
    λ j. record { id = id j; kind = kind j; mass = mass j; pos = x j ∷ y j ∷ z j ∷ []; mom = px j ∷ py j ∷ pz j ∷ [] }
