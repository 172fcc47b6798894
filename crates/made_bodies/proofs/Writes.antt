-- What calls on two files do, one after another.
use Rattle.std.proofs.Common.{◌≡◌, inr, ℕ, List, [], length, Some, ap, sym, ◌∙◌}
use Rattle.std.proofs.Math.Seq.{take-length}
use Rattle.store_io.specs.Files.{Files, ChangesOnly}
use Rattle.made_bodies.specs.Made.{WritesPart}

-- a file that was made, written and then not finished
pub not_finished : (a b c d : Files) (name text : List ℕ) → ChangesOnly a b name (Some []) → ChangesOnly b c name (Some text) → d ≡ c → WritesPart a d name text
not_finished a b c d name text h k e =
    inr (
      length text,
      record {
        changed = ap (λ (files : Files). files name) e ∙ k.changed ∙ ap (λ x. Some x) (sym (take-length text));
        others = λ q ne. ap (λ (files : Files). files q) e ∙ k.others q ne ∙ h.others q ne;
      },
    )
