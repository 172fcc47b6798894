-- What a scan of the lines gives is what all of them say, or their first fault.
use Rattle.std.proofs.Common.{◌≡◌, ℕ, suc, ◌+◌, List, [], ◌∷◌, ◌++◌, length, take, get_or, Option, Some, None, Result, Ok, Err, refl, ◌∙◌, arith, append_assoc, length-append, below_more}
use Rattle.std.specs.Option.{option_to_list}
use Rattle.std.specs.List.{cons_option}
use Rattle.std.proofs.lemmas.List.{append-nil, take_at, get_or_at, length_push}
use Rattle.text_words.specs.Comments.{Line}
use Rattle.param_file.specs.Known.{scan}
use Rattle.param_file.specs.Reading.{Said, said, said_from, all_said, fault_behind, AreGood, IsAtLine}
use Rattle.param_file.specs.declared.errors.ParamKind.{ParamKind}

-- what a scan gives: what the lines say, or the first fault
abbrev ScanMeets : List Line → Result (List Said) (ℕ × ParamKind) → Type 0
ScanMeets lines (Ok known) = AreGood lines (length lines) × (known ≡ all_said lines)
ScanMeets lines (Err fault) = IsAtLine lines fault.0 fault.1

cons_nil : (s : Option Said) → cons_option s [] ≡ option_to_list s
cons_nil None = refl
cons_nil (Some s) = refl

cons_append : (s : Option Said) (xs ys : List Said) → cons_option s (xs ++ ys) ≡ cons_option s xs ++ ys
cons_append None xs ys = refl
cons_append (Some s) xs ys = refl

said_from_push : (n : ℕ) (lines : List Line) (line : Line) → said_from n (lines ++ line ∷ []) ≡ said_from n lines ++ option_to_list (said (n + length lines + 1) line)
said_from_push n [] line = let e : n + 0 + 1 ≡ n + 1 = omega arith in rw e (cons_nil (said (n + 1) line))
said_from_push n (l ∷ lines) line =
    let e : n + suc (length lines) + 1 ≡ n + 1 + length lines + 1 = omega arith in
    rw (e, said_from_push (n + 1) lines line) (cons_append (said (n + 1) l) _ _)

said_push : (lines : List Line) (line : Line) → all_said (lines ++ line ∷ []) ≡ all_said lines ++ option_to_list (said (length lines + 1) line)
said_push lines line = let e : 0 + length lines + 1 ≡ length lines + 1 = omega arith in rw e at (said_from_push 0 lines line)

-- the fault of the line behind the earlier ones
fault_here : (earlier rest : List Line) (line : Line)
    → fault_behind (all_said (take (length earlier) (earlier ++ line ∷ rest))) (get_or (earlier ++ line ∷ rest) (length earlier) []) ≡ fault_behind (all_said earlier) line
fault_here earlier rest line = rw (take_at earlier (line ∷ rest) (length earlier) refl, get_or_at earlier line rest [] (length earlier) refl) refl

scan_meets : (earlier rest : List Line) → AreGood (earlier ++ rest) (length earlier) → ScanMeets (earlier ++ rest) (scan (length earlier) (all_said earlier) rest)
scan_meets earlier [] h = (rw append-nil (rw append-nil at h), rw append-nil refl)
scan_meets earlier (line ∷ rest) h = by (fault_behind (all_said earlier) line) refl
    (λ e. scan_meets (earlier ++ line ∷ []) rest
    (rw (append_assoc earlier (line ∷ []) rest, length_push earlier line)
    (below_more _ _ h (fault_here earlier rest line ∙ e))))
  where
    by : (f : Option ParamKind) → fault_behind (all_said earlier) line ≡ f
        → (fault_behind (all_said earlier) line ≡ None → ScanMeets ((earlier ++ line ∷ []) ++ rest) (scan (length (earlier ++ line ∷ [])) (all_said (earlier ++ line ∷ [])) rest))
        → ScanMeets (earlier ++ line ∷ rest) (scan (length earlier) (all_said earlier) (line ∷ rest))
    by None e ih = rw e (rw (append_assoc earlier (line ∷ []) rest, length_push earlier line, said_push earlier line) at (ih e))
    by (Some kind) e ih = rw e (record {
      index = length earlier;
      inside = omega (arith, length-append earlier (line ∷ rest));
      counted = refl;
      before = h;
      is = fault_here earlier rest line ∙ e;
    })

-- a scan that ends says what all lines say, none of which is at fault
pub scan_ok : (lines : List Line) (known : List Said) → scan 0 [] lines ≡ Ok known → AreGood lines (length lines) × (known ≡ all_said lines)
scan_ok lines known e = rw e at (scan_meets [] lines (λ j l. absurd (omega arith)))

-- a scan that stops does so at the first fault
pub scan_err : (lines : List Line) (line : ℕ) (kind : ParamKind) → scan 0 [] lines ≡ Err (line, kind) → IsAtLine lines line kind
scan_err lines line kind e = rw e at (scan_meets [] lines (λ j l. absurd (omega arith)))
