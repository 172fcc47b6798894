-- Lines that are no list of times have one first fault, and lines that are one have one list.
use Rattle.std.proofs.Common.{◌≡◌, ◌⊎◌, ◌+◌, ◌<◌, ◌≤◌, ◌≢◌, ℕ, zero, suc, le_of_suc-le-suc, slice_index, true, false, true≢false, List, [], ◌∷◌, length, get_or, inl, inr, refl, sym, ap, ◌∙◌, arith}
use Rattle.std.specs.Prelude.{Contains}
use Rattle.std.specs.List.Sorted.{IsStrictlyIncreasing}
use Rattle.text_words.specs.Comments.{Line}
use Rattle.output_schedule.specs.declared.errors.OutputErr.{OutputErr}
use Rattle.output_schedule.specs.declared.errors.OutputErr.TheVariants.{NotNumber, TooMany, Memory}
use Rattle.output_schedule.specs.Times.{is_bad, AreGood, IsFirstBad, IsFirstFault, Spell}
use Rattle.gadget.proofs.Exact.{IsExact}

true_false : (line : Line) → is_bad line ≡ true → is_bad line ≡ false → 1 ≤ 0
true_false line e f = absurd (true≢false (sym e ∙ f))

one_bad : (lines : List Line) (m n : ℕ) → IsFirstBad lines m → IsFirstBad lines n → m ≡ n
one_bad lines m n f g =
    let no : f.index < g.index → 1 ≤ 0 = λ l. true_false (get_or lines f.index []) f.bad (g.before f.index l) in
    let none : g.index < f.index → 1 ≤ 0 = λ l. true_false (get_or lines g.index []) g.bad (f.before g.index l) in
    let places : f.index ≡ g.index = grind arith in
    omega (arith, f.counted, g.counted, places)

not_good : (lines : List Line) (n : ℕ) → IsFirstBad lines n → AreGood lines (length lines) → ⊥
not_good lines n f good = let never : 1 ≤ 0 = true_false (get_or lines f.index []) f.bad (good f.index f.inside) in omega arith

-- the lines aren't a list, by this error, which isn't want of memory
pub record IsNoList (lines : List Line) (e : OutputErr) : Type 0 where
  pub plain : e ≢ Memory
  pub fault : IsFirstFault lines e

one_fault : (lines : List Line) (a b : OutputErr) → a ≢ Memory → b ≢ Memory → IsFirstFault lines a → IsFirstFault lines b → a ≡ b
one_fault lines (NotNumber m) (NotNumber n) p q f g = ap NotNumber (one_bad lines m n f g)
one_fault lines (NotNumber m) (TooMany n) p q f g = absurd (not_good lines m f g.good)
one_fault lines (NotNumber m) Memory p q f g = absurd (q refl)
one_fault lines (TooMany m) (NotNumber n) p q f g = absurd (not_good lines n g f.good)
one_fault lines (TooMany m) (TooMany n) p q f g = ap TooMany (f.counted ∙ sym g.counted)
one_fault lines (TooMany m) Memory p q f g = absurd (q refl)
one_fault lines Memory b p q f g = absurd (p refl)

never : (lines : List Line) (e : OutputErr) (times : List ℕ) → e ≢ Memory → IsFirstFault lines e → Spell lines times → ⊥
never lines (NotNumber m) times p f s = not_good lines m f s.good
never lines (TooMany m) times p f s = omega (arith, f.counted, f.many, s.few)
never lines Memory times p f s = p refl

-- ---- numbers that rise

unfoldable IsIn : ℕ → List ℕ → Type 0
IsIn x [] = ⊥
IsIn x (y ∷ ys) = (x ≡ y) ⊎ IsIn x ys

unfoldable Rises : List ℕ → Type 0
Rises [] = Unit {0}
Rises (n ∷ ns) = ((x : ℕ) → IsIn x ns → n < x) × Rises ns

later : (n : ℕ) (ns : List ℕ) → IsStrictlyIncreasing (n ∷ ns) → IsStrictlyIncreasing ns
later n ns h k l =
    let e : suc k + 1 ≡ suc (k + 1) = omega arith in
    let u : slice_index (n ∷ ns) (suc k) < slice_index (n ∷ ns) (suc k + 1) = h (suc k) (omega (arith, l)) in
    rw e at u

above : (m n x : ℕ) (ns : List ℕ) → m < n → ((x : ℕ) → IsIn x ns → n < x) → IsIn x (n ∷ ns) → m < x
unfolding IsIn
above m n x ns l r (inl e) = omega (arith, l, e)
above m n x ns l r (inr h) = let u : n < x = r x h in omega arith

rises : (ns : List ℕ) → IsStrictlyIncreasing ns → Rises ns
unfolding Rises IsIn
rises [] h = tt
rises (m ∷ []) h = (λ x i. absurd i, tt)
rises (m ∷ n ∷ ns) h =
    let rest : Rises (n ∷ ns) = rises (n ∷ ns) (later m (n ∷ ns) h) in
    (λ x i. above m n x ns (h 0 (omega arith)) rest.0 i, rest)

is_in : (xs : List ℕ) (x : ℕ) → Contains xs x → IsIn x xs
unfolding IsIn
is_in [] x c = absurd (omega (arith, c.1))
is_in (y ∷ ys) x (zero, l, e) = inl (sym e)
is_in (y ∷ ys) x (suc k, l, e) = inr (is_in ys x (k, le_of_suc-le-suc l, e))

contains : (xs : List ℕ) (x : ℕ) → IsIn x xs → Contains xs x
unfolding IsIn
contains [] x i = absurd i
contains (y ∷ ys) x (inl e) = (0, omega arith, sym e)
contains (y ∷ ys) x (inr i) = let c : Contains ys x = contains ys x i in (suc c.0, omega (arith, c.1), c.2)

same_first : (m n : ℕ) (ms ns : List ℕ) → Rises (m ∷ ms) → Rises (n ∷ ns) → IsIn m (n ∷ ns) → IsIn n (m ∷ ms) → m ≡ n
unfolding Rises IsIn
same_first m n ms ns r s (inl e) j = e
same_first m n ms ns r s (inr i) (inl e) = sym e
same_first m n ms ns r s (inr i) (inr j) = absurd (omega (arith, r.0 n j, s.0 m i))

in_rest : (m n x : ℕ) (ns : List ℕ) → m ≡ n → m < x → IsIn x (n ∷ ns) → IsIn x ns
unfolding IsIn
in_rest m n x ns e l (inl f) = absurd (omega (arith, l, f, e))
in_rest m n x ns e l (inr i) = i

one_order : (ms ns : List ℕ) → Rises ms → Rises ns → ((x : ℕ) → IsIn x ms → IsIn x ns) → ((x : ℕ) → IsIn x ns → IsIn x ms) → ms ≡ ns
unfolding Rises IsIn
one_order [] [] r s f g = refl
one_order [] (n ∷ ns) r s f g = absurd (g n (inl refl))
one_order (m ∷ ms) [] r s f g = absurd (f m (inl refl))
one_order (m ∷ ms) (n ∷ ns) r s f g =
    let same : m ≡ n = same_first m n ms ns r s (f m (inl refl)) (g n (inl refl)) in
    let rest : ms ≡ ns = one_order ms ns r.1 s.1
    (λ x i. in_rest m n x ns same (r.0 x i) (f x (inr i)))
    (λ x i. in_rest n m x ms (sym same) (s.0 x i) (g x (inr i))) in
    ap (λ y. y ∷ ms) same ∙ ap (λ ys. n ∷ ys) rest

one_list : (xs ys : List ℕ) → IsStrictlyIncreasing xs → IsStrictlyIncreasing ys → ((t : ℕ) → Contains xs t → Contains ys t) → ((t : ℕ) → Contains ys t → Contains xs t) → xs ≡ ys
one_list xs ys h k f g =
    one_order xs ys (rises xs h) (rises ys k) (λ x i. is_in ys x (f x (contains xs x i))) (λ x i. is_in xs x (g x (contains ys x i)))

pub list_exact : (lines : List Line) → IsExact (IsNoList lines) (Spell lines)
list_exact lines = record {
  one_refusal = λ a b p q. one_fault lines a b p.plain q.plain p.fault q.fault;
  one_value = λ xs ys s t. one_list xs ys s.ascending t.ascending (λ n c. (t.same n).1 ((s.same n).0 c)) (λ n c. (s.same n).1 ((t.same n).0 c));
  apart = λ e times p s. never lines e times p.plain p.fault s;
}
