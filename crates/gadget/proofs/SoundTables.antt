-- A table that bytes spell keeps its limits, and so it corrects little.
use Rattle.std.proofs.Common.{◌≡◌, ℕ, ◌≤◌, Bool, true, false, cond, ltb, List, Option, Some, None, refl, sym, subst}
use Rattle.std.specs.Prelude.{◌+◌, ◌*◌, ◌==◌, not, length, take, IfSome}
use Rattle.std.specs.Option.{option_or}
use Rattle.std.specs.Str.{bytes_eq}
use Rattle.std.proofs.lemmas.Bool.{ltb-false}
use Rattle.nbody_model.specs.Tables.{TableData, IsTable}
use Rattle.model_laws.specs.Laws.{CorrectsLittle}
use Rattle.model_laws.proofs.Corrections.{corrects_little}
use Rattle.ewald_table.specs.TableFile.{Spell, grid_in, count_of, table_tag, table_in, head_fault, plane_fault}
use Rattle.ewald_table.specs.declared.errors.TableErr.{TableErr}
use Rattle.ewald_table.specs.declared.errors.TableErr.TheVariants.{Tag, GridRange, Length}
use Rattle.ewald_table.proofs.Sound.{sound_parts}

-- of two faults neither is there
neither : (a b : Option TableErr) → option_or a b ≡ None → (a ≡ None) × (b ≡ None)
neither None None h = (refl, refl)
neither None (Some e) h = absurd (some_none e h)
  where
    some_none : (e : TableErr) → ◌≡◌ {A = Option TableErr} (Some e) None → ⊥
    some_none e h = cc
neither (Some e) b h = absurd (some_none e h)
  where
    some_none : (e : TableErr) → ◌≡◌ {A = Option TableErr} (Some e) None → ⊥
    some_none e h = cc

-- where no test of four is met, the third isn't
third_fails : (a b c d : Bool) (w x y z : TableErr) → ◌≡◌ {A = Option TableErr} (cond a (Some w) (cond b (Some x) (cond c (Some y) (cond d (Some z) None)))) None → c ≡ false
third_fails a b false d w x y z h = refl
third_fails false false true d w x y z h = absurd cc
third_fails false true true d w x y z h = absurd cc
third_fails true b true d w x y z h = absurd cc

fine : (bytes : List ℕ) → head_fault bytes ≡ None → grid_in bytes ≤ 6
fine bytes h =
    let want : ℕ = 16 + 12 * count_of (grid_in bytes) in
    ltb-false 6 (grid_in bytes) (third_fails
    (not (bytes_eq (take 8 bytes) table_tag)) (ltb (length bytes) 16) (ltb 6 (grid_in bytes)) (not (length bytes == want))
    Tag (Length 16 (length bytes)) (GridRange (grid_in bytes)) (Length want (length bytes)) h)

pub spelled_sound : (bytes : List ℕ) (t : TableData) → Spell bytes t → IsTable t
spelled_sound bytes t s =
    let n : (head_fault bytes ≡ None) × (plane_fault bytes ≡ None) = neither (head_fault bytes) (plane_fault bytes) s.faultless in
    subst IsTable (sym s.is) (sound_parts bytes (grid_in bytes) ((table_in bytes).entries) refl refl (fine bytes n.0) n.1)

pub sound_corrects : (t : Option TableData) → IfSome t IsTable → CorrectsLittle t
sound_corrects None h = tt
sound_corrects (Some t) h = corrects_little t h
