-- A whole bin file: its tag, its records and its end mark.
use Rattle.std.proofs.Common.{◌≡◌, refl, true, cond, not, List, ℕ, take, drop, Option, Some, None, ap, sym, ◌∙◌}
use Rattle.std.specs.Str.{bytes_eq}
use Rattle.nbody_model.specs.Bodies.{BodyData}
use Rattle.nbody_model.specs.Setups.{SetupData}
use Rattle.model_laws.specs.Nests.{ids_of}
use Rattle.rewind_laws.specs.Back.{StepParts, base_steps}
use Rattle.rewind_laws.specs.Bins.{bins_tag, bins_mark, Read, UpTo, Bad, steps_at, BinsErr, Tag, Record, EndMark, first_fault}
use Rattle.rewind.specs.Reading.{SpellBins, StepsAreRead}

abbrev of_records : List ℕ → Read (List StepParts) → Option BinsErr
of_records bytes (UpTo steps at) = cond (bytes_eq bins_mark (drop at bytes)) None (Some EndMark)
of_records bytes (Bad at) = Some (Record at)

split : (bytes : List ℕ) (s : SetupData) (B : List BodyData) → first_fault bytes s B ≡ cond (not (bytes_eq bins_tag (take 8 bytes))) (Some Tag) (of_records bytes (steps_at s (base_steps s) (ids_of B) bytes 8))
split bytes s B = ap (cond (not (bytes_eq bins_tag (take 8 bytes))) (Some Tag)) (by (steps_at s (base_steps s) (ids_of B) bytes 8))
  where
    by : (r : Read (List StepParts)) → elim r [ UpTo steps at ↦ cond (bytes_eq bins_mark (drop at bytes)) None (Some EndMark) | Bad at ↦ Some (Record at) ] ≡ of_records bytes r
    by (UpTo steps at) = refl
    by (Bad at) = refl

pub spelled : (bytes : List ℕ) (s : SetupData) (B : List BodyData) (P : List ℕ) (end : ℕ) (lists : List (List ℕ)) → P ≡ ids_of B → bytes_eq bins_tag (take 8 bytes) ≡ true → StepsAreRead s P bytes end lists → bytes_eq bins_mark (drop end bytes) ≡ true → SpellBins bytes s B lists
spelled bytes s B P end lists same tag r mark =
    let are : steps_at s (base_steps s) (ids_of B) bytes 8 ≡ UpTo r.steps end = ap (λ Q. steps_at s (base_steps s) Q bytes 8) (sym same) ∙ r.are in
    record {
      steps = r.steps;
      spell = record {
        end = end;
        faultless = split bytes s B ∙ (λ i. cond (not (tag i)) (Some Tag) (of_records bytes (are i))) ∙ ap (λ b. cond b None (Some EndMark)) mark;
        are = are;
      };
      are = r.listed;
    }
