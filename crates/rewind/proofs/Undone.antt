-- A step is taken back stage by stage, by the lists that are left.
use Rattle.std.proofs.Common.{◌≡◌, ◌≤◌, ◌<◌, ℕ, zero, suc, false, ◌+◌, ◌-◌, ◌^◌, List, [], ◌∷◌, ◌++◌, length, take, get_or, refl, ap, sym, ◌∙◌, subst, arith, append_assoc}
use Rattle.std.proofs.lemmas.Bool.{false≢true}
use Rattle.std.proofs.lemmas.List.{length-append, length-take-le, take_more, get_or-take}
use Rattle.nbody_model.specs.Evolve.{is_empty}
use Rattle.std.proofs.Math.Seq.{take-append_seam, get_or-append_seam}
use Rattle.std.specs.List.Sorted.{IsStrictlyIncreasing}
use Rattle.model_laws.specs.Preserved.{IsPart}
use Rattle.nbody_model.specs.Bodies.{BodyData}
use Rattle.nbody_model.specs.Tables.{Rules}
use Rattle.rewind_laws.specs.Back.{StepParts, Alone, With, fast_of, AreParts, Back, Reached, ◌>>-◌, back_close, back_between, back_by, back}
use Rattle.rewind.specs.declared.errors.RewindErr.{RewindErr}
use Rattle.rewind.specs.declared.errors.RewindErr.TheVariants.{Tick, Tag, Record, EndMark, MomRange, BinsDiffer, Memory}
use Rattle.rewind.specs.Kept.{by_end}
use Rattle.rewind.specs.Rewinding.{IsRefusedBy, inner, IsLeft, IsInside, Comes, IsUndone, IsNotUndone, AreUndone, AreNotUndone, back_open}

-- ---- the last list

ends_with : (parts : StepParts) → by_end parts ≡ inner parts ++ fast_of parts ∷ []
ends_with Alone = refl
ends_with (With F one two) = refl

pub record LastOf (lists xs : List (List ℕ)) (F : List ℕ) (left : ℕ) : Type 0 where
  pub some : 1 ≤ left
  pub last : get_or lists (left - 1) [] ≡ F
  pub others : take (left - 1) lists ≡ xs
  pub within : left - 1 ≤ length lists

pub last_of : (lists xs : List (List ℕ)) (F : List ℕ) (left : ℕ) → left ≤ length lists → take left lists ≡ xs ++ F ∷ [] → LastOf lists xs F left
last_of lists xs F left l e =
    let n : left ≡ length xs + 1 = sym (length-take-le left lists l) ∙ ap length e ∙ length-append xs (F ∷ []) in
    let m : left - 1 ≡ length xs = omega (arith, n) in
    let up : left - 1 + 1 ≡ left = omega (arith, n) in
    let lt : left - 1 < length lists = omega (arith, l, n) in
    let less : left - 1 < left = omega (arith, n) in
    let long : length (take (left - 1) lists) ≡ left - 1 = length-take-le (left - 1) lists (omega (arith, lt)) in
    let whole : take (left - 1) lists ++ get_or lists (left - 1) [] ∷ [] ≡ xs ++ F ∷ [] = sym (take_more lists (left - 1) [] lt) ∙ ap (λ k. take k lists) up ∙ e in
    record {
      some = omega (arith, n);
      last = sym (get_or-take left lists (left - 1) [] less) ∙ ap (λ ys. get_or ys (left - 1) []) e ∙ ap (λ k. get_or (xs ++ F ∷ []) k []) m ∙ get_or-append_seam xs F [] [];
      others = sym (take-append_seam (take (left - 1) lists) (get_or lists (left - 1) [] ∷ [])) ∙ (λ i. take ((long ∙ m) i) (whole i)) ∙ take-append_seam xs (F ∷ []);
      within = omega (arith, l);
    }

pub last_left : (low bin : ℕ) (P : List ℕ) (lists : List (List ℕ)) (left : ℕ) (a : IsLeft low bin P lists left) → LastOf lists (a.before ++ inner a.parts) (fast_of a.parts) left
last_left low bin P lists left a = last_of lists (a.before ++ inner a.parts) (fast_of a.parts) left a.within (a.are ∙ ap (λ xs. a.before ++ xs) (ends_with a.parts) ∙ sym (append_assoc a.before (inner a.parts) (fast_of a.parts ∷ [])))

-- the finer steps of what is left
abbrev pub go_inside : (low bin : ℕ) (P F : List ℕ) (lists : List (List ℕ)) (left : ℕ) → F ≡ get_or lists (left - 1) [] → (a : IsLeft low bin P lists left) → IsInside low bin P F lists (left - 1)
go_inside low bin P F lists left e a =
    let l = last_left low bin P lists left a in
    record { parts = a.parts; before = a.before; good = a.good; fast = e ∙ l.last; are = l.others; within = l.within }

-- they ascend, and are ids of the step
pub fast_rises : (low bin : ℕ) (P : List ℕ) (parts : StepParts) → AreParts low bin P parts → IsStrictlyIncreasing (fast_of parts) × IsPart (fast_of parts) P
fast_rises low bin P Alone g = ((λ k l. absurd (omega (arith, l))), (λ id h. absurd (false≢true h)))
fast_rises low bin P (With F one two) g = (g.0.ascending, g.0.part)

pub next_rises : (low bin : ℕ) (P : List ℕ) (lists : List (List ℕ)) (left : ℕ) → IsLeft low bin P lists left → IsStrictlyIncreasing (get_or lists (left - 1) []) × IsPart (get_or lists (left - 1) []) P
next_rises low bin P lists left a =
    let l = last_left low bin P lists left a in
    let g = fast_rises low bin P a.parts a.good in
    (subst IsStrictlyIncreasing (sym l.last) g.0, subst (λ X. IsPart X P) (sym l.last) g.1)

-- ---- the stages together

on_reached : (a : Back) (f : List BodyData → Back) (B : List BodyData) → a ≡ Reached B → (a >>- f) ≡ f B
on_reached a f B e = ap (λ x. x >>- f) e

-- what fails first fails
pub fails_on : (a : Back) (f : List BodyData → Back) (e : RewindErr) → IsRefusedBy a e → IsRefusedBy (a >>- f) e
fails_on a f (MomRange id axis) h = ap (λ x. x >>- f) h
fails_on a f (BinsDiffer tick id) h = ap (λ x. x >>- f) h
fails_on a f Memory h = tt
fails_on a f Tag h = h
fails_on a f EndMark h = h
fails_on a f (Tick want got) h = h
fails_on a f (Record at) h = h

pub refused_as : (a b : Back) (e : RewindErr) → a ≡ b → IsRefusedBy a e → IsRefusedBy b e
refused_as a b e s h = subst (λ x. IsRefusedBy x e) s h

pub by_stages : (r : Rules) (bin : ℕ) (parts : StepParts) (P : List ℕ) (t : ℕ) (B : List BodyData) → 1 ≤ bin →
    back r bin parts P t B ≡ (back_close r bin P (fast_of parts) t B >>- (λ C. back_between (back r (bin - 1)) bin parts t C >>- back_open r bin P (fast_of parts) t))
unfolding back back_by
by_stages r zero parts P t B some = absurd (omega (arith, some))
by_stages r (suc c) parts P t B some =
    let up : c + 1 ≡ suc c = omega arith in
    let down : c ≡ suc c - 1 = omega arith in
    λ i. back_close r (up i) P (fast_of parts) t B >>- (λ C. back_between (back r (down i)) (up i) parts t C >>- back_open r (up i) P (fast_of parts) t)

pub undone : (r : Rules) (bin : ℕ) (parts : StepParts) (P F : List ℕ) (t : ℕ) (A B C D : List BodyData) → 1 ≤ bin → F ≡ fast_of parts → back_close r bin P F t A ≡ Reached B → back_between (back r (bin - 1)) bin parts t B ≡ Reached C → back_open r bin P F t C ≡ Reached D →
    back r bin parts P t A ≡ Reached D
undone r bin parts P F t A B C D some f one two three =
    let close : back_close r bin P (fast_of parts) t A ≡ Reached B = ap (λ G. back_close r bin P G t A) (sym f) ∙ one in
    by_stages r bin parts P t A some ∙ ap (λ x. x >>- (λ C. back_between (back r (bin - 1)) bin parts t C >>- back_open r bin P (fast_of parts) t)) close ∙ ap (λ x. x >>- back_open r bin P (fast_of parts) t) two ∙ ap (λ G. back_open r bin P G t C) (sym f) ∙ three

pub close_fails : (r : Rules) (bin : ℕ) (parts : StepParts) (P F : List ℕ) (t : ℕ) (A : List BodyData) (e : RewindErr) → 1 ≤ bin → F ≡ fast_of parts → IsRefusedBy (back_close r bin P F t A) e → IsRefusedBy (back r bin parts P t A) e
close_fails r bin parts P F t A e some f h =
    refused_as _ _ e (sym (by_stages r bin parts P t A some))
    (fails_on (back_close r bin P (fast_of parts) t A) (λ C. back_between (back r (bin - 1)) bin parts t C >>- back_open r bin P (fast_of parts) t) e (refused_as _ _ e (ap (λ G. back_close r bin P G t A) f) h))

pub between_fails : (r : Rules) (bin : ℕ) (parts : StepParts) (P F : List ℕ) (t : ℕ) (A B : List BodyData) (e : RewindErr) → 1 ≤ bin → F ≡ fast_of parts → back_close r bin P F t A ≡ Reached B → IsRefusedBy (back_between (back r (bin - 1)) bin parts t B) e → IsRefusedBy (back r bin parts P t A) e
between_fails r bin parts P F t A B e some f one h =
    let close : back_close r bin P (fast_of parts) t A ≡ Reached B = ap (λ G. back_close r bin P G t A) (sym f) ∙ one in
    refused_as _ _ e (sym (by_stages r bin parts P t A some ∙ ap (λ x. x >>- (λ C. back_between (back r (bin - 1)) bin parts t C >>- back_open r bin P (fast_of parts) t)) close))
    (fails_on (back_between (back r (bin - 1)) bin parts t B) (back_open r bin P (fast_of parts) t) e h)

pub open_fails : (r : Rules) (bin : ℕ) (parts : StepParts) (P F : List ℕ) (t : ℕ) (A B C : List BodyData) (e : RewindErr) → 1 ≤ bin → F ≡ fast_of parts → back_close r bin P F t A ≡ Reached B → back_between (back r (bin - 1)) bin parts t B ≡ Reached C → IsRefusedBy (back_open r bin P F t C) e →
    IsRefusedBy (back r bin parts P t A) e
open_fails r bin parts P F t A B C e some f one two h =
    let close : back_close r bin P (fast_of parts) t A ≡ Reached B = ap (λ G. back_close r bin P G t A) (sym f) ∙ one in
    refused_as _ _ e
    (sym (by_stages r bin parts P t A some ∙ ap (λ x. x >>- (λ C. back_between (back r (bin - 1)) bin parts t C >>- back_open r bin P (fast_of parts) t)) close ∙ ap (λ x. x >>- back_open r bin P (fast_of parts) t) two))
    (refused_as _ _ e (ap (λ G. back_open r bin P G t C) f) h)

-- ---- the finer steps

pub none_between : (r : Rules) (low bin : ℕ) (P F : List ℕ) (t : ℕ) (lists : List (List ℕ)) (B : List BodyData) (left : ℕ) → F ≡ [] → (a : IsInside low bin P F lists left) → Comes (back_between (back r (bin - 1)) bin a.parts t B) a.before lists B left
unfolding back_between
none_between r low bin P F t lists B left e a = by a.parts a.good a.fast a.are
  where
    nothing : (xs : List (List ℕ)) → xs ++ [] ≡ xs
    nothing [] = refl
    nothing (x ∷ xs) = ap (λ ys. x ∷ ys) (nothing xs)

    by : (parts : StepParts) → AreParts low bin P parts → F ≡ fast_of parts → take left lists ≡ a.before ++ inner parts → Comes (back_between (back r (bin - 1)) bin parts t B) a.before lists B left
    by Alone g f are = record { reached = refl; are = are ∙ nothing a.before; within = a.within }
    by (With G one two) g f are = absurd (not_empty G (sym f ∙ e) g.0.some)
      where
        not_empty : (H : List ℕ) → H ≡ [] → is_empty H ≡ false → ⊥
        not_empty H p q = false≢true (sym q ∙ ap is_empty p)

-- what is left for the second of the finer steps, and then for the first
pub record TwoLeft (low bin : ℕ) (P F : List ℕ) (lists : List (List ℕ)) (left : ℕ) (a : IsInside low bin P F lists left) : Type 0 where
  pub one : StepParts
  pub two : StepParts
  pub above : low < bin
  pub are : a.parts ≡ With F one two
  pub good_one : AreParts low (bin - 1) F one
  pub good_two : AreParts low (bin - 1) F two
  pub lists_are : take left lists ≡ (a.before ++ by_end one) ++ by_end two

pub two_left : (low bin : ℕ) (P F : List ℕ) (lists : List (List ℕ)) (left : ℕ) → (F ≡ [] → ⊥) → (a : IsInside low bin P F lists left) → TwoLeft low bin P F lists left a
two_left low bin P F lists left some a = by a.parts refl a.good a.fast a.are
  where
    by : (parts : StepParts) → a.parts ≡ parts → AreParts low bin P parts → F ≡ fast_of parts → take left lists ≡ a.before ++ inner parts → TwoLeft low bin P F lists left a
    by Alone s g f are = absurd (some f)
    by (With G one two) s g f are =
        record {
          one = one;
          two = two;
          above = g.0.above;
          are = s ∙ ap (λ H. With H one two) (sym f);
          good_one = subst (λ H. AreParts low (bin - 1) H one) (sym f) g.1;
          good_two = subst (λ H. AreParts low (bin - 1) H two) (sym f) g.2;
          lists_are = are ∙ sym (append_assoc a.before (by_end one) (by_end two));
        }

-- what is left for the second one
abbrev pub second_left : (low bin : ℕ) (P F : List ℕ) (lists : List (List ℕ)) (left : ℕ) → (F ≡ [] → ⊥) → IsInside low bin P F lists left → IsLeft low (bin - 1) F lists left
second_left low bin P F lists left some a =
    let w = two_left low bin P F lists left some a in
    record { parts = w.two; before = a.before ++ by_end w.one; good = w.good_two; are = w.lists_are; within = a.within }

-- and then for the first one
abbrev pub first_left : (r : Rules) (bin : ℕ) (P F : List ℕ) (t : ℕ) (lists : List (List ℕ)) (B C : List BodyData) (left rest : ℕ) → (F ≡ [] → ⊥) → IsInside r.gravity.setup.low_bin bin P F lists left → IsUndone r (bin - 1) F t lists B left C rest →
    IsLeft r.gravity.setup.low_bin (bin - 1) F lists rest
first_left r bin P F t lists B C left rest some a f =
    let w = two_left r.gravity.setup.low_bin bin P F lists left some a in
    let d = f (second_left r.gravity.setup.low_bin bin P F lists left some a) in
    record { parts = w.one; before = a.before; good = w.good_one; are = d.are; within = d.within }

pub two_undone : (r : Rules) (bin : ℕ) (P F : List ℕ) (t : ℕ) (lists : List (List ℕ)) (B C D : List BodyData) (left rest last : ℕ) → (F ≡ [] → ⊥) → IsUndone r (bin - 1) F (t + 2 ^ (bin - 1)) lists B left C rest → IsUndone r (bin - 1) F t lists C rest D last →
    AreUndone r bin P F t lists B left D last
unfolding back_between
two_undone r bin P F t lists B C D left rest last some f g a =
    let w = two_left r.gravity.setup.low_bin bin P F lists left some a in
    let two = f (second_left r.gravity.setup.low_bin bin P F lists left some a) in
    let one = g (first_left r bin P F (t + 2 ^ (bin - 1)) lists B C left rest some a f) in
    record {
      reached = ap (λ parts. back_between (back r (bin - 1)) bin parts t B) w.are ∙ ap (λ x. x >>- (λ C. back r (bin - 1) w.one F t C)) two.reached ∙ one.reached;
      are = one.are;
      within = one.within;
    }

pub second_fails : (r : Rules) (bin : ℕ) (P F : List ℕ) (t : ℕ) (lists : List (List ℕ)) (B : List BodyData) (left : ℕ) (e : RewindErr) → (F ≡ [] → ⊥) → IsNotUndone r (bin - 1) F (t + 2 ^ (bin - 1)) lists B left e → AreNotUndone r bin P F t lists B left e
unfolding back_between
second_fails r bin P F t lists B left e some f a =
    let w = two_left r.gravity.setup.low_bin bin P F lists left some a in
    refused_as _ _ e (sym (ap (λ parts. back_between (back r (bin - 1)) bin parts t B) w.are))
    (fails_on (back r (bin - 1) w.two F (t + 2 ^ (bin - 1)) B) (λ C. back r (bin - 1) w.one F t C) e (f (second_left r.gravity.setup.low_bin bin P F lists left some a)))

pub first_fails : (r : Rules) (bin : ℕ) (P F : List ℕ) (t : ℕ) (lists : List (List ℕ)) (B C : List BodyData) (left rest : ℕ) (e : RewindErr) → (F ≡ [] → ⊥) → IsUndone r (bin - 1) F (t + 2 ^ (bin - 1)) lists B left C rest → IsNotUndone r (bin - 1) F t lists C rest e →
    AreNotUndone r bin P F t lists B left e
unfolding back_between
first_fails r bin P F t lists B C left rest e some f g a =
    let w = two_left r.gravity.setup.low_bin bin P F lists left some a in
    let two = f (second_left r.gravity.setup.low_bin bin P F lists left some a) in
    refused_as _ _ e (sym (ap (λ parts. back_between (back r (bin - 1)) bin parts t B) w.are ∙ ap (λ x. x >>- (λ C. back r (bin - 1) w.one F t C)) two.reached)) (g (first_left r bin P F (t + 2 ^ (bin - 1)) lists B C left rest some a f))

-- ---- a whole step

pub step_undone : (r : Rules) (bin : ℕ) (P F : List ℕ) (t : ℕ) (lists : List (List ℕ)) (A B C D : List BodyData) (left rest : ℕ) → 1 ≤ bin → F ≡ get_or lists (left - 1) [] → back_close r bin P F t A ≡ Reached B → AreUndone r bin P F t lists B (left - 1) C rest →
    back_open r bin P F t C ≡ Reached D → IsUndone r bin P t lists A left D rest
step_undone r bin P F t lists A B C D left rest some e one two three a =
    let b = go_inside r.gravity.setup.low_bin bin P F lists left e a in
    let d = two b in
    record { reached = undone r bin a.parts P F t A B C D some b.fast one d.reached three; are = d.are; within = d.within }

pub step_close_fails : (r : Rules) (bin : ℕ) (P F : List ℕ) (t : ℕ) (lists : List (List ℕ)) (A : List BodyData) (left : ℕ) (err : RewindErr) → 1 ≤ bin → F ≡ get_or lists (left - 1) [] → IsRefusedBy (back_close r bin P F t A) err → IsNotUndone r bin P t lists A left err
step_close_fails r bin P F t lists A left err some e f a = close_fails r bin a.parts P F t A err some (go_inside r.gravity.setup.low_bin bin P F lists left e a).fast f

pub step_between_fails : (r : Rules) (bin : ℕ) (P F : List ℕ) (t : ℕ) (lists : List (List ℕ)) (A B : List BodyData) (left : ℕ) (err : RewindErr) → 1 ≤ bin → F ≡ get_or lists (left - 1) [] → back_close r bin P F t A ≡ Reached B → AreNotUndone r bin P F t lists B (left - 1) err → IsNotUndone r bin P t lists A left err
step_between_fails r bin P F t lists A B left err some e one f a =
    let b = go_inside r.gravity.setup.low_bin bin P F lists left e a in between_fails r bin a.parts P F t A B err some b.fast one (f b)

pub step_open_fails : (r : Rules) (bin : ℕ) (P F : List ℕ) (t : ℕ) (lists : List (List ℕ)) (A B C : List BodyData) (left rest : ℕ) (err : RewindErr) → 1 ≤ bin → F ≡ get_or lists (left - 1) [] → back_close r bin P F t A ≡ Reached B → AreUndone r bin P F t lists B (left - 1) C rest →
    IsRefusedBy (back_open r bin P F t C) err → IsNotUndone r bin P t lists A left err
step_open_fails r bin P F t lists A B C left rest err some e one two f a =
    let b = go_inside r.gravity.setup.low_bin bin P F lists left e a in open_fails r bin a.parts P F t A B C err some b.fast one (two b).reached f
