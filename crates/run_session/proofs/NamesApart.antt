-- The names of the files of a run: no two that it writes are one.
use Rattle.std.proofs.Common.{◌≡◌, ◌≢◌, ◌⊎◌, inl, inr, ℕ, Bool, true, false, cond, ◌&&◌, ◌||◌, ◌==◌, nat_lt, get_or, List, [], ◌∷◌, ◌++◌, length, take, codes, decimal, Option, Some, None, refl, sym, ◌∙◌, subst, arith, append_assoc}
use Rattle.std.specs.Prelude.{⊤}
use Rattle.std.specs.Option.{IfSome}
use Rattle.std.specs.Str.{bytes_eq}
use Rattle.std.proofs.lemmas.Bool.{false≢true, lt-ltb, eq-eqb}
use Rattle.std.proofs.lemmas.Slice.Eq.{bytes_eq-Decides}
use Rattle.std.proofs.lemmas.List.{append-nil, length-append}
use Rattle.std.proofs.Math.Seq.{take-append_seam, get_or-append_seam}
use Rattle.nbody_model.specs.Evolve.{is_empty}
use Rattle.nbody_model.specs.States.{StateData}
use Rattle.nbody_model.specs.Session.{Written, Snapshot, Restart}
use Rattle.nbody_model.specs.Texts.{three_digits, numbered, name_end}
use Rattle.param_file.specs.Settings.{ParamsData, IsParams, is_base_of, are_clashing, clash_if_any}
use Rattle.run_session.specs.Own.{own_files, IsOther, AreApart}
use Rattle.run_session.specs.Outputs.{file_name}

-- ---- two names with ends

-- nothing, or an end that begins with `_`
abbrev pub IsEnd : List ℕ → Type 0
IsEnd [] = ⊤
IsEnd (c ∷ rest) = c ≡ 95

record HasEnd (v w : List ℕ) : Type 0 where
  rest : List ℕ
  is : w ≡ v ++ 95 ∷ rest

meet : (v w x y : List ℕ) → IsEnd x → IsEnd y → v ++ x ≡ w ++ y → (v ≡ w) ⊎ (HasEnd v w ⊎ HasEnd w v)
meet [] [] x y a b e = inl refl
meet [] (c ∷ w) [] y a b e = inl cc
meet [] (c ∷ w) (d ∷ x) y a b e = inr (inl (record { rest = w; is = cc }))
meet (c ∷ v) [] x [] a b e = inl cc
meet (c ∷ v) [] x (d ∷ y) a b e = inr (inr (record { rest = v; is = cc }))
meet (c ∷ v) (d ∷ w) x y a b e = more (meet v w x y a b cc)
  where
    more : (v ≡ w) ⊎ (HasEnd v w ⊎ HasEnd w v) → (c ∷ v ≡ d ∷ w) ⊎ (HasEnd (c ∷ v) (d ∷ w) ⊎ HasEnd (d ∷ w) (c ∷ v))
    more (inl h) = inl cc
    more (inr (inl h)) = inr (inl (record { rest = h.rest; is = let k = h.is in cc }))
    more (inr (inr h)) = inr (inr (record { rest = h.rest; is = let k = h.is in cc }))

all_true : (a b c : Bool) → a ≡ true → b ≡ true → c ≡ true → ((a && b) && c) ≡ true
all_true a b c e f g = λ i. (e i && f i) && g i

base_of : (v w : List ℕ) → HasEnd v w → is_base_of v w ≡ true
base_of v w h = subst (λ z. is_base_of v z ≡ true) (sym h.is) (
    let z = v ++ 95 ∷ h.rest in
    all_true (nat_lt (length v) (length z)) (bytes_eq (take (length v) z) v) (get_or z (length v) 0 == 95)
    (lt-ltb (length v) (length z) (omega (arith, length-append v (95 ∷ h.rest))))
    ((bytes_eq-Decides (take (length v) z) v).1 (take-append_seam v (95 ∷ h.rest)))
    (eq-eqb (get_or z (length v) 0) 95 (get_or-append_seam v 95 h.rest 0))
    )

first_true : (a b c : Bool) → a ≡ true → ((a || b) || c) ≡ true
first_true true b c e = refl
first_true false b c e = absurd (false≢true e)

second_true : (a b c : Bool) → b ≡ true → ((a || b) || c) ≡ true
second_true true b c e = refl
second_true false true c e = refl
second_true false false c e = absurd (false≢true e)

third_true : (a b c : Bool) → c ≡ true → ((a || b) || c) ≡ true
third_true true b c e = refl
third_true false true c e = refl
third_true false false c e = e

-- names that don't clash differ with whatever ends
pub apart_with : (v w x y : List ℕ) → are_clashing v w ≡ false → IsEnd x → IsEnd y → v ++ x ≢ w ++ y
apart_with v w x y free a b e = false≢true (sym free ∙ clash (meet v w x y a b e))
  where
    clash : (v ≡ w) ⊎ (HasEnd v w ⊎ HasEnd w v) → are_clashing v w ≡ true
    clash (inl h) = first_true (bytes_eq v w) (is_base_of v w) (is_base_of w v) ((bytes_eq-Decides v w).1 h)
    clash (inr (inl h)) = second_true (bytes_eq v w) (is_base_of v w) (is_base_of w v) (base_of v w h)
    clash (inr (inr h)) = third_true (bytes_eq v w) (is_base_of v w) (is_base_of w v) (base_of w v h)

-- a name with an end, and one that may not be there
pub apart_from : (v x : List ℕ) (name : Option (List ℕ)) → clash_if_any (Some v) name ≡ false → IsEnd x → IfSome name (λ n. v ++ x ≢ n)
apart_from v x None free a = tt
apart_from v x (Some n) free a = λ e. apart_with v n x [] free a tt (e ∙ sym (append-nil n))

turned : (name : Option (List ℕ)) (v : List ℕ) → IfSome name (λ n. v ≢ n) → IfSome name (λ n. n ≢ v)
turned None v h = tt
turned (Some n) v h = λ e. h (sym e)

-- ---- the names of a run

name_end_is : (resumed : Bool) (σ : StateData) → IsEnd (name_end resumed σ)
name_end_is false σ = tt
name_end_is true σ = by (is_empty σ.depths)
  where
    by : (b : Bool) → IsEnd (cond b (codes "_from_" ++ decimal σ.steps) ((codes "_from_" ++ decimal σ.steps) ++ codes "_at_" ++ decimal σ.tick))
    by true = refl
    by false = refl

-- the bin file is there at tick 0 alone
if_begun : (resumed : Bool) (name : Option (List ℕ)) (Q : List ℕ → Type 0) → IfSome name Q → IfSome (cond resumed None name) Q
if_begun true name Q h = tt
if_begun false name Q h = h

-- the trace file is there where ranks are traced
if_traced : (off : Bool) (name : List ℕ) (Q : List ℕ → Type 0) → Q name → IfSome (cond off None (Some name)) Q
if_traced true name Q h = tt
if_traced false name Q h = h

module _ (p : ParamsData) (resumed : Bool) (σ : StateData) (h : IsParams p) where
  -- no two of the files that are kept open
  pub own_apart : AreApart (own_files p resumed σ)
  own_apart =
      let tail = name_end_is resumed σ in
      let kicks = p.kick_file ++ name_end resumed σ in
      let trace = p.rank_trace_file ++ name_end resumed σ in
      let off = p.rank_trace == 0 in
      record {
        trace = if_traced off trace (λ n. n ≢ kicks) (λ e. apart_with p.kick_file p.rank_trace_file (name_end resumed σ) (name_end resumed σ) (h.apart 5 6 (omega arith) (omega arith)) tail tail (sym e));
        bins = if_begun resumed p.bin_file (λ n. n ≢ kicks) (turned p.bin_file kicks (apart_from p.kick_file (name_end resumed σ) p.bin_file (h.apart 5 8 (omega arith) (omega arith)) tail));
        both = if_traced off trace (λ n. IfSome (cond resumed None p.bin_file) (λ m. m ≢ n))
            (if_begun resumed p.bin_file (λ m. m ≢ trace) (turned p.bin_file trace (apart_from p.rank_trace_file (name_end resumed σ) p.bin_file (h.apart 6 8 (omega arith) (omega arith)) tail)));
      }

  -- a name with an end that begins with `_`, of a base that clashes with none of theirs
  numbered_other : (base x : List ℕ) → IsEnd x → are_clashing base p.kick_file ≡ false → are_clashing base p.rank_trace_file ≡ false → clash_if_any (Some base) p.bin_file ≡ false → IsOther (own_files p resumed σ) (base ++ x)
  numbered_other base x a k t b =
      let tail = name_end_is resumed σ in
      record {
        kicks = apart_with base p.kick_file x (name_end resumed σ) k a tail;
        trace = if_traced (p.rank_trace == 0) (p.rank_trace_file ++ name_end resumed σ) (λ n. base ++ x ≢ n) (apart_with base p.rank_trace_file x (name_end resumed σ) t a tail);
        bins = if_begun resumed p.bin_file (λ n. base ++ x ≢ n) (apart_from base x p.bin_file b a);
      }

  based_other : (base : List ℕ) (n : ℕ) → are_clashing base p.kick_file ≡ false → are_clashing base p.rank_trace_file ≡ false → clash_if_any (Some base) p.bin_file ≡ false → IsOther (own_files p resumed σ) (numbered base n)
  based_other base n k t b = subst (λ name. IsOther (own_files p resumed σ) name) (sym (append_assoc base (codes "_") (three_digits n))) (numbered_other base (codes "_" ++ three_digits n) refl k t b)

  -- no snapshot or restart file is one of them
  pub written_other : (w : Written) → IsOther (own_files p resumed σ) (file_name p w)
  written_other (Snapshot n τ) = based_other p.snapshot_file_base n (h.apart 1 5 (omega arith) (omega arith)) (h.apart 1 6 (omega arith) (omega arith)) (h.apart 1 8 (omega arith) (omega arith))
  written_other (Restart n τ) = based_other p.restart_file_base n (h.apart 4 5 (omega arith) (omega arith)) (h.apart 4 6 (omega arith) (omega arith)) (h.apart 4 8 (omega arith) (omega arith))
