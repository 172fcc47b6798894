-- What a file that is written leaves of those that are kept open.
use Rattle.std.proofs.Common.{◌≡◌, ◌≢◌, ◌≤◌, ◌<◌, ◌⊎◌, inl, inr, ℕ, ◌+◌, Bool, true, false, cond, List, [], ◌∷◌, ◌++◌, length, take, Option, Some, None, refl, ap, sym, ◌∙◌, subst, arith}
use Rattle.std.specs.Option.{IfSome}
use Rattle.std.specs.Str.{bytes_eq}
use Rattle.std.proofs.lemmas.Bool.{cases_lt, false≢true}
use Rattle.std.proofs.lemmas.Slice.Eq.{bytes_eq-Decides}
use Rattle.std.proofs.lemmas.List.{take-append-le, take_all}
use Rattle.std.proofs.lemmas.List.Sums.{fold-append}
use Rattle.std.proofs.Math.Seq.{take-append_seam, take-append-add}
use Rattle.store_io.specs.Files.{Files, ChangesOnly}
use Rattle.nbody_model.specs.Session.{Written}
use Rattle.param_file.specs.Settings.{ParamsData}
use Rattle.run_session.specs.Own.{Own, OwnTexts, IsOther, Stands, HasPart, StandsPart}
use Rattle.run_session.specs.Outputs.{file_name, file_bytes, with_file, with_written}
use Rattle.run_session.specs.Stages.{IsFirst, StandsBut}

-- ---- files that are written one after another

pub written_more : (p : ParamsData) (ws : List Written) (w : Written) (files : Files) → with_written p (ws ++ w ∷ []) files ≡ with_file (file_name p w) (file_bytes p w) (with_written p ws files)
written_more p ws w files = fold-append (λ W v. with_file (file_name p v) (file_bytes p v) W) files ws (w ∷ [])

pub written_all : (p : ParamsData) (ws vs : List Written) (files : Files) → with_written p (ws ++ vs) files ≡ with_written p vs (with_written p ws files)
written_all p ws vs files = fold-append (λ W v. with_file (file_name p v) (file_bytes p v) W) files ws vs

-- by its name, or not
pub file_either : {X : Type 0} (q name : List ℕ) → ((q ≡ name) → (bytes_eq q name ≡ true) → X) → ((q ≢ name) → (bytes_eq q name ≡ false) → X) → X
file_either {X = X} q name same other = by (bytes_eq q name) refl
  where
    by : (b : Bool) → bytes_eq q name ≡ b → X
    by true e = same ((bytes_eq-Decides q name).0 e) e
    by false e = other (λ s. false≢true (sym e ∙ (bytes_eq-Decides q name).1 s)) e

-- ---- where a file isn't open

pub if_some_both : {X : Type 0} (x : Option X) (P Q R : X → Type 0) → ((n : X) → P n → Q n → R n) → IfSome x P → IfSome x Q → IfSome x R
if_some_both None P Q R f h g = tt
if_some_both (Some n) P Q R f h g = f n h g

module _ (o : Own) (t : OwnTexts) (W old new : Files) (name bytes : List ℕ) where
  open_kicks : Stands o t W old → IsOther o name → ((q : List ℕ) → q ≢ name → new q ≡ old q) → new o.kicks ≡ Some t.kicks
  open_kicks s other h = h o.kicks (λ e. other.kicks (sym e)) ∙ s.kicks

  open_trace : Stands o t W old → IsOther o name → ((q : List ℕ) → q ≢ name → new q ≡ old q) → IfSome o.trace (λ n. new n ≡ Some t.trace)
  open_trace s other h = if_some_both o.trace (λ n. name ≢ n) (λ n. old n ≡ Some t.trace) (λ n. new n ≡ Some t.trace) (λ n a b. h n (λ e. a (sym e)) ∙ b) other.trace s.trace

  open_bins : Stands o t W old → IsOther o name → ((q : List ℕ) → q ≢ name → new q ≡ old q) → IfSome o.bins (λ n. new n ≡ Some t.bins)
  open_bins s other h = if_some_both o.bins (λ n. name ≢ n) (λ n. old n ≡ Some t.bins) (λ n. new n ≡ Some t.bins) (λ n a b. h n (λ e. a (sym e)) ∙ b) other.bins s.bins

  -- a whole file
  pub stands_more : Stands o t W old → IsOther o name → ChangesOnly old new name (Some bytes) → Stands o t (with_file name bytes W) new
  stands_more s other c = record {
    kicks = open_kicks s other c.others;
    trace = open_trace s other c.others;
    bins = open_bins s other c.others;
    others = λ q w. file_either q name
        (λ e b. ap new e ∙ c.changed ∙ sym (ap (λ x. cond x (Some bytes) (W q)) b))
        (λ e b. c.others q e ∙ s.others q w ∙ sym (ap (λ x. cond x (Some bytes) (W q)) b));
  }

module _ (o : Own) (t : OwnTexts) (W old new : Files) (name bytes : List ℕ) where
  -- a first part of a file
  pub stands_but : (k : ℕ) → Stands o t W old → IsOther o name → ChangesOnly old new name (Some (take k bytes)) → StandsBut o t name bytes W new
  stands_but k s other c = record {
    kicks = open_kicks o t W old new name bytes s other c.others;
    trace = open_trace o t W old new name bytes s other c.others;
    bins = open_bins o t W old new name bytes s other c.others;
    others = λ q w. file_either q name
        (λ e b. inr (e, (k, ap new e ∙ c.changed)))
        (λ e b. inl (c.others q e ∙ s.others q w));
  }

-- nothing of it
pub stands_still : (o : Own) (t : OwnTexts) (name bytes : List ℕ) (W files : Files) → Stands o t W files → StandsBut o t name bytes W files
stands_still o t name bytes W files s = record { kicks = s.kicks; trace = s.trace; bins = s.bins; others = λ q w. inl (s.others q w) }

-- ---- first parts of texts

pub whole_part : (file : Option (List ℕ)) (text : List ℕ) → file ≡ Some text → HasPart file text
whole_part file text e = (length text, e ∙ ap Some (sym (take_all (length text) text (omega arith))))

pub no_part : (file : Option (List ℕ)) (text : List ℕ) → file ≡ Some [] → HasPart file text
no_part file text e = (0, e)

pub part_first : (file : Option (List ℕ)) (xs ys : List ℕ) → HasPart file xs → IsFirst xs ys → HasPart file ys
part_first file xs ys h f = subst (λ zs. HasPart file zs) (sym f.is) (by (cases_lt (length xs) h.0))
  where
    by : (length xs < h.0) ⊎ (h.0 ≤ length xs) → HasPart file (xs ++ f.more)
    by (inl g) = (length xs, h.1 ∙ ap Some (take_all h.0 xs (omega arith) ∙ sym (take-append_seam xs f.more)))
    by (inr g) = (h.0, h.1 ∙ ap Some (sym (take-append-le h.0 xs f.more g)))

-- part of more text behind a text
pub part_behind : (file : Option (List ℕ)) (xs ys : List ℕ) (k : ℕ) → file ≡ Some (xs ++ take k ys) → HasPart file (xs ++ ys)
part_behind file xs ys k e = (length xs + k, e ∙ ap Some (sym (take-append-add xs ys k)))

-- open files that hold these texts hold first parts of longer ones
pub stands_part : (o : Own) (t u : OwnTexts) (W files : Files) → IsFirst t.kicks u.kicks → IsFirst t.trace u.trace → IsFirst t.bins u.bins → Stands o t W files → StandsPart o u W files
stands_part o t u W files a b c s = record {
  kicks = part_first (files o.kicks) t.kicks u.kicks (whole_part (files o.kicks) t.kicks s.kicks) a;
  trace = if_some_both o.trace (λ n. files n ≡ Some t.trace) (λ n. files n ≡ Some t.trace) (λ n. HasPart (files n) u.trace) (λ n e _. part_first (files n) t.trace u.trace (whole_part (files n) t.trace e) b) s.trace s.trace;
  bins = if_some_both o.bins (λ n. files n ≡ Some t.bins) (λ n. files n ≡ Some t.bins) (λ n. HasPart (files n) u.bins) (λ n e _. part_first (files n) t.bins u.bins (whole_part (files n) t.bins e) c) s.bins s.bins;
  others = s.others;
}
