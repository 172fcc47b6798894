-- Bodies in a restart file, read back.
use Rattle.std.proofs.Common.{◌≡◌, ℕ, zero, suc, ◌+◌, ◌*◌, ◌<◌, ◌^◌, ℤ, pos, ◌≤ℤ◌, neg_ℤ, List, [], ◌∷◌, ◌++◌, length, get_or, drop, SFits, w64, refl, sym, ap, ◌∙◌, arith, drop-drop, drop_at, append_assoc, le_of_suc-le-suc}
use Rattle.std.specs.List.{flat_map, zip}
use Rattle.std.proofs.lemmas.Int.{fits_signed_from_abs, ints}
use Rattle.std.proofs.lemmas.Slice.Zip.{get_or-zip}
use Rattle.fixed_point.specs.Bytes.{bytes32, bytes64, signed_bytes64, word32_at, word64_at, signed64_at}
use Rattle.fixed_point.proofs.ReadBack.{word32_back, word64_back, signed64_back, behind}
use Rattle.nbody_model.specs.Bodies.{BodyData}
use Rattle.nbody_model.specs.RestartText.{body_bytes}
use Rattle.restart_files.specs.Texts.{deep_body_bytes}
use Rattle.particle_set.specs.Stored.{IsStorable}

-- what begins at an index, where each element takes as many bytes
pub entry_at : {A : Type 0} (f : A → List ℕ) (w : ℕ) → ((x : A) → length (f x) ≡ w) → (xs : List A) (tail : List ℕ) (i : ℕ) (d : A) → i < length xs
    → drop (w * i) (flat_map f xs ++ tail) ≡ f (get_or xs i d) ++ (flat_map f (drop (suc i) xs) ++ tail)
entry_at f w e [] tail i d l = absurd (omega (arith, l))
entry_at f w e (x ∷ xs) tail zero d l =
    let none : w * 0 ≡ 0 = omega arith in
    ap (λ n. drop n (flat_map f (x ∷ xs) ++ tail)) none ∙ append_assoc (f x) (flat_map f xs) tail
entry_at f w e (x ∷ xs) tail (suc i) d l =
    let more : w * suc i ≡ w + w * i = omega arith in
    ap (λ n. drop n (flat_map f (x ∷ xs) ++ tail)) more
    ∙ ap (drop (w + w * i)) (append_assoc (f x) (flat_map f xs) tail)
    ∙ sym (drop-drop (w * i) w (f x ++ (flat_map f xs ++ tail)))
    ∙ ap (drop (w * i)) (drop_at (f x) (flat_map f xs ++ tail) w (e x))
    ∙ entry_at f w e xs tail i d (le_of_suc-le-suc l)

-- a body stands at a place
pub record IsBodyAt (bytes : List ℕ) (at : ℕ) (b : BodyData) : Type 0 where
  pub id : word64_at bytes at ≡ b.id
  pub kind : word32_at bytes (at + 8) ≡ b.kind
  pub mass : word32_at bytes (at + 12) ≡ b.mass
  pub x : word32_at bytes (at + 16) ≡ b.motion.pos.x
  pub y : word32_at bytes (at + 20) ≡ b.motion.pos.y
  pub z : word32_at bytes (at + 24) ≡ b.motion.pos.z
  pub px : signed64_at bytes (at + 28) ≡ b.motion.mom.x
  pub py : signed64_at bytes (at + 36) ≡ b.motion.mom.y
  pub pz : signed64_at bytes (at + 44) ≡ b.motion.mom.z

signed_fits : (z : ℤ) → neg_ℤ (pos (2 ^ 62)) ≤ℤ z → z ≤ℤ pos (2 ^ 62) → SFits w64 z
signed_fits z l h = fits_signed_from_abs w64 z (omega (arith, ints, l, h))

pub body_back : (bytes rest : List ℕ) (at : ℕ) (b : BodyData) → drop at bytes ≡ body_bytes b ++ rest → IsStorable b → IsBodyAt bytes at b
body_back bytes rest at b e s =
    let p = b.motion.pos in
    let m = b.motion.mom in
    let r9 : List ℕ = signed_bytes64 m.z ++ rest in
    let r8 : List ℕ = signed_bytes64 m.y ++ r9 in
    let r7 : List ℕ = signed_bytes64 m.x ++ r8 in
    let r6 : List ℕ = bytes32 p.z ++ r7 in
    let r5 : List ℕ = bytes32 p.y ++ r6 in
    let r4 : List ℕ = bytes32 p.x ++ r5 in
    let r3 : List ℕ = bytes32 b.mass ++ r4 in
    let r2 : List ℕ = bytes32 b.kind ++ r3 in
    let e1 : drop at bytes ≡ bytes64 b.id ++ r2 = e in
    let e2 : drop (at + 8) bytes ≡ bytes32 b.kind ++ r3 = behind bytes (bytes64 b.id) r2 at (at + 8) e1 refl in
    let e3 : drop (at + 12) bytes ≡ bytes32 b.mass ++ r4 = behind bytes (bytes32 b.kind) r3 (at + 8) (at + 12) e2 (omega arith) in
    let e4 : drop (at + 16) bytes ≡ bytes32 p.x ++ r5 = behind bytes (bytes32 b.mass) r4 (at + 12) (at + 16) e3 (omega arith) in
    let e5 : drop (at + 20) bytes ≡ bytes32 p.y ++ r6 = behind bytes (bytes32 p.x) r5 (at + 16) (at + 20) e4 (omega arith) in
    let e6 : drop (at + 24) bytes ≡ bytes32 p.z ++ r7 = behind bytes (bytes32 p.y) r6 (at + 20) (at + 24) e5 (omega arith) in
    let e7 : drop (at + 28) bytes ≡ signed_bytes64 m.x ++ r8 = behind bytes (bytes32 p.z) r7 (at + 24) (at + 28) e6 (omega arith) in
    let e8 : drop (at + 36) bytes ≡ signed_bytes64 m.y ++ r9 = behind bytes (signed_bytes64 m.x) r8 (at + 28) (at + 36) e7 (omega arith) in
    let e9 : drop (at + 44) bytes ≡ signed_bytes64 m.z ++ rest = behind bytes (signed_bytes64 m.y) r9 (at + 36) (at + 44) e8 (omega arith) in
    record {
      id = word64_back bytes r2 at b.id e1 s.id;
      kind = word32_back bytes r3 (at + 8) b.kind e2 (omega (arith, s.kind_high));
      mass = word32_back bytes r4 (at + 12) b.mass e3 s.light;
      x = word32_back bytes r5 (at + 16) p.x e4 s.in_box.below_x;
      y = word32_back bytes r6 (at + 20) p.y e5 s.in_box.below_y;
      z = word32_back bytes r7 (at + 24) p.z e6 s.in_box.below_z;
      px = signed64_back bytes r8 (at + 28) m.x e7 (signed_fits m.x s.momentum.on_x.0 s.momentum.on_x.1);
      py = signed64_back bytes r9 (at + 36) m.y e8 (signed_fits m.y s.momentum.on_y.0 s.momentum.on_y.1);
      pz = signed64_back bytes rest (at + 44) m.z e9 (signed_fits m.z s.momentum.on_z.0 s.momentum.on_z.1);
    }

-- the bodies of bytes that begin with others
in_front : (bytes F : List ℕ) (p n : ℕ) → drop p bytes ≡ F → drop (p + n) bytes ≡ drop n F
in_front bytes F p n e = sym (drop-drop n p bytes) ∙ ap (drop n) e

pub plain_body : (bytes tail : List ℕ) (bs : List BodyData) (i : ℕ) (d : BodyData) → drop 168 bytes ≡ flat_map body_bytes bs ++ tail → i < length bs → IsStorable (get_or bs i d) → IsBodyAt bytes (168 + 52 * i) (get_or bs i d)
plain_body bytes tail bs i d e l s =
    body_back bytes _ (168 + 52 * i) (get_or bs i d) (in_front bytes _ 168 (52 * i) e ∙ entry_at body_bytes 52 (λ b. refl) bs tail i d l) s

-- a body and the depth behind it
pub record IsDeepBodyAt (bytes : List ℕ) (at : ℕ) (b : BodyData) (depth : ℕ) : Type 0 where
  pub body : IsBodyAt bytes at b
  pub behind : word32_at bytes (at + 52) ≡ depth

pub deep_body : (bytes tail : List ℕ) (bs : List BodyData) (ds : List ℕ) (i : ℕ) (d : BodyData) → drop 168 bytes ≡ flat_map deep_body_bytes (zip bs ds) ++ tail → i < length (zip bs ds) → i < length bs → i < length ds
    → IsStorable (get_or bs i d) → get_or ds i 0 < 2 ^ 32 → IsDeepBodyAt bytes (168 + 56 * i) (get_or bs i d) (get_or ds i 0)
deep_body bytes tail bs ds i d e l lb ld s small =
    let x : BodyData × ℕ = (get_or bs i d, get_or ds i 0) in
    let rest : List ℕ = flat_map deep_body_bytes (drop (suc i) (zip bs ds)) ++ tail in
    let at : ℕ = 168 + 56 * i in
    let here : drop at bytes ≡ body_bytes x.0 ++ (bytes32 x.1 ++ rest) =
    in_front bytes _ 168 (56 * i) e ∙ entry_at deep_body_bytes 56 (λ b. refl) (zip bs ds) tail i (d, 0) l ∙ ap (λ x. deep_body_bytes x ++ rest) (get_or-zip bs ds i (d, 0) lb ld)
    ∙ append_assoc (body_bytes x.0) (bytes32 x.1) rest in
    let there : drop (at + 52) bytes ≡ bytes32 x.1 ++ rest = behind bytes (body_bytes x.0) (bytes32 x.1 ++ rest) at (at + 52) here refl in
    record { body = body_back bytes (bytes32 x.1 ++ rest) at x.0 here s; behind = word32_back bytes rest (at + 52) x.1 there small }
