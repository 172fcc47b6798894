-- The questions of a step, and how many are left after them.
use Rattle.std.proofs.Common.{◌≡◌, ℕ, suc, ◌+◌, ◌-◌, Bool, true, false, cond, ◌==◌, IsTrue, List, [], ◌∷◌, ◌++◌, length, Option, Some, None, refl, ap, sym, ◌∙◌, subst, arith, append_assoc}
use Rattle.std.specs.Option.{IfSome}
use Rattle.std.proofs.lemmas.Bool.{false≢true, true≢false, eqb-true, eq-eqb}
use Rattle.std.proofs.lemmas.List.{length-append}
use Rattle.nbody_model.specs.Tables.{Gravity}
use Rattle.nbody_model.specs.Evolve.{Happening, Rested, rest_in, rests_of}
use Rattle.step_engine.specs.Taken.{Taken, TookForces, TookKick, TookRest, TookPart}
use Rattle.step_engine.specs.Told.{TellAll}
use Rattle.step_engine.specs.Ends.{NoYes, LastYes}
use Rattle.run_session.specs.Logs.{leaves}
use Rattle.run_session.specs.RunEnds.{IsAnsweredYes}
use Rattle.run_session.specs.Stages.{IsFirst, IsLast, IsLeft}

-- ---- questions that were answered no

-- none was asked
pub left_none : (left : Option ℕ) → IsLeft left 0 left
left_none None = tt
left_none (Some l) = omega arith

pub left_on : (a b c : Option ℕ) (n m : ℕ) → IsLeft a n b → IsLeft b m c → IsLeft a (n + m) c
left_on None None None n m h k = tt
left_on None None (Some z) n m h k = absurd k
left_on None (Some y) c n m h k = absurd h
left_on (Some x) None c n m h k = absurd h
left_on (Some x) (Some y) None n m h k = absurd k
left_on (Some x) (Some y) (Some z) n m h k = omega (arith, h, k)

one_more : (l n : ℕ) (now : Option ℕ) → (l ≡ 0 → ⊥) → IsLeft (Some (l - 1)) n now → IsLeft (Some l) (suc n) now
one_more l n None some h = absurd h
one_more l n (Some m) some h = omega (arith, some, h)

-- no question was left for a yes before
not_first : (l : ℕ) (b c : Bool) → (l == 0) ≡ b → cond b false c ≡ true → (l ≡ 0 → ⊥) × (c ≡ true)
not_first l true c e h = absurd (false≢true h)
not_first l false c e h = ((λ z. false≢true (sym e ∙ eq-eqb l 0 z)), h)

-- ---- of what happened

-- of an entry that is no resting point
quiet_rest : (w : Happening) (trail : List Happening) → rest_in w ≡ [] → rests_of (w ∷ trail) ≡ rests_of trail
quiet_rest w trail e = ap (λ xs. xs ++ rests_of trail) e

rest_here : (w : Happening) (tick : ℕ) (trail : List Happening) → w ≡ Rested tick → rests_of (w ∷ trail) ≡ tick ∷ rests_of trail
rest_here w tick trail e = ap (λ v. rests_of (v ∷ trail)) e

told_more : (n : ℕ) (now : Option ℕ) → IsLeft None n now → IsLeft None (suc n) now
told_more n None h = h
told_more n (Some m) h = h

-- each answer was no
pub left_after : (g : Gravity) (entries : List Taken) (trail : List Happening) (left now : Option ℕ) → IsTrue (leaves left entries now) → NoYes entries → TellAll g entries trail → IsLeft left (length (rests_of trail)) now
left_after g [] [] None None e n t = tt
left_after g [] [] None (Some m) e n t = absurd (false≢true e)
left_after g [] [] (Some l) None e n t = absurd (false≢true e)
left_after g [] [] (Some l) (Some m) e n t = let h = eqb-true l m e in omega arith
left_after g [] (w ∷ trail) left now e n t = absurd t
left_after g (entry ∷ entries) [] left now e n t = absurd t
left_after g (TookForces f ∷ entries) (w ∷ trail) left now e n t = subst (λ xs. IsLeft left (length xs) now) (sym (quiet_rest w trail (ap rest_in t.0.1))) (left_after g entries trail left now e n.1 t.1)
left_after g (TookKick k ∷ entries) (w ∷ trail) left now e n t = subst (λ xs. IsLeft left (length xs) now) (sym (quiet_rest w trail (ap rest_in t.0))) (left_after g entries trail left now e n.1 t.1)
left_after g (TookPart F ∷ entries) (w ∷ trail) left now e n t = subst (λ xs. IsLeft left (length xs) now) (sym (quiet_rest w trail (ap rest_in t.0))) (left_after g entries trail left now e n.1 t.1)
left_after g (TookRest tick true ∷ entries) (w ∷ trail) left now e n t = absurd (true≢false n.0)
left_after g (TookRest tick false ∷ entries) (w ∷ trail) None now e n t =
    subst (λ xs. IsLeft None (length xs) now) (sym (rest_here w tick trail t.0)) (told_more (length (rests_of trail)) now (left_after g entries trail None now e n.1 t.1))
left_after g (TookRest tick false ∷ entries) (w ∷ trail) (Some l) now e n t =
    let h = not_first l (l == 0) (leaves (Some (l - 1)) entries now) refl e in
    subst (λ xs. IsLeft (Some l) (length xs) now) (sym (rest_here w tick trail t.0)) (one_more l (length (rests_of trail)) now h.0 (left_after g entries trail (Some (l - 1)) now h.1 n.1 t.1))

-- ---- the last answer was yes

-- the last of these ticks is the one at which the answer was yes: as many came before as were left, where that is told
pub record EndsIn (left : Option ℕ) (tick : ℕ) (ticks : List ℕ) : Type 0 where
  pub front : List ℕ
  pub is : ticks ≡ front ++ tick ∷ []
  pub count : IfSome left (λ l. l ≡ length front)

ends_here : (left : Option ℕ) (tick : ℕ) (now : Option ℕ) (ticks : List ℕ) → ticks ≡ tick ∷ [] → IsTrue (leaves left (TookRest tick true ∷ []) now) → EndsIn left tick ticks
ends_here None tick now ticks h e = record { front = []; is = h; count = tt }
ends_here (Some l) tick now ticks h e = record { front = []; is = h; count = eqb-true l 0 e }

ends_later : (l tick t : ℕ) (ticks : List ℕ) → (l ≡ 0 → ⊥) → EndsIn (Some (l - 1)) tick ticks → EndsIn (Some l) tick (t ∷ ticks)
ends_later l tick t ticks some h = let c = h.count in record { front = t ∷ h.front; is = ap (λ xs. t ∷ xs) h.is; count = omega (arith, some, c) }

ends_after : (g : Gravity) (tick : ℕ) (earlier : List Taken) (trail : List Happening) (left now : Option ℕ) →
    IsTrue (leaves left (earlier ++ TookRest tick true ∷ []) now) → NoYes earlier → TellAll g (earlier ++ TookRest tick true ∷ []) trail → EndsIn left tick (rests_of trail)
ends_after g tick [] [] left now e n t = absurd t
ends_after g tick [] (w ∷ []) left now e n t = ends_here left tick now (rests_of (w ∷ [])) (rest_here w tick [] t.0) e
ends_after g tick [] (w ∷ v ∷ trail) left now e n t = absurd t.1
ends_after g tick (entry ∷ earlier) [] left now e n t = absurd t
ends_after g tick (TookForces f ∷ earlier) (w ∷ trail) left now e n t = subst (EndsIn left tick) (sym (quiet_rest w trail (ap rest_in t.0.1))) (ends_after g tick earlier trail left now e n.1 t.1)
ends_after g tick (TookKick k ∷ earlier) (w ∷ trail) left now e n t = subst (EndsIn left tick) (sym (quiet_rest w trail (ap rest_in t.0))) (ends_after g tick earlier trail left now e n.1 t.1)
ends_after g tick (TookPart F ∷ earlier) (w ∷ trail) left now e n t = subst (EndsIn left tick) (sym (quiet_rest w trail (ap rest_in t.0))) (ends_after g tick earlier trail left now e n.1 t.1)
ends_after g tick (TookRest u true ∷ earlier) (w ∷ trail) left now e n t = absurd (true≢false n.0)
ends_after g tick (TookRest u false ∷ earlier) (w ∷ trail) None now e n t =
    let h = ends_after g tick earlier trail None now e n.1 t.1 in
    subst (EndsIn None tick) (sym (rest_here w u trail t.0)) (record { front = u ∷ h.front; is = ap (λ xs. u ∷ xs) h.is; count = tt })
ends_after g tick (TookRest u false ∷ earlier) (w ∷ trail) (Some l) now e n t =
    let h = not_first l (l == 0) (leaves (Some (l - 1)) (earlier ++ TookRest tick true ∷ []) now) refl e in
    subst (EndsIn (Some l) tick) (sym (rest_here w u trail t.0)) (ends_later l tick u (rests_of trail) h.0 (ends_after g tick earlier trail (Some (l - 1)) now h.1 n.1 t.1))

pub ends_in : (g : Gravity) (tick : ℕ) (entries : List Taken) (trail : List Happening) (left now : Option ℕ) → IsTrue (leaves left entries now) → LastYes tick entries → TellAll g entries trail → EndsIn left tick (rests_of trail)
ends_in g tick entries trail left now e last t =
    ends_after g tick last.0 trail left now (subst (λ xs. IsTrue (leaves left xs now)) last.1 e) last.2 (subst (λ xs. TellAll g xs trail) last.1 t)

-- ---- over a whole session

-- so many were answered no, and the last of these ticks is the one of the yes: it is so of all ticks that begin so
pub answered_yes : (left now : Option ℕ) (tick : ℕ) (before ticks whole : List ℕ) → IsLeft left (length before) now → EndsIn now tick ticks → IsFirst (before ++ ticks) whole → IsAnsweredYes left whole tick
answered_yes left now tick before ticks whole h e f =
    let front = before ++ e.front in
    record {
      before = front;
      after = f.more;
      is = f.is ∙ ap (λ xs. (before ++ xs) ++ f.more) e.is ∙ ap (λ xs. xs ++ f.more) (sym (append_assoc before e.front (tick ∷ []))) ∙ append_assoc front (tick ∷ []) f.more;
      count = counted left now h e.count;
    }
  where
    counted : (l m : Option ℕ) → IsLeft l (length before) m → IfSome m (λ n. n ≡ length e.front) → IfSome l (λ n. n ≡ length (before ++ e.front))
    counted None m k c = tt
    counted (Some l) None k c = absurd k
    counted (Some l) (Some m) k c = omega (arith, k, c, length-append before e.front)

-- the question behind these is that of the yes
pub last_question : (left : Option ℕ) (questions : List ℕ) (tick : ℕ) (whole : List ℕ) → IsLast left (length questions) → IsFirst (questions ++ tick ∷ []) whole → IsAnsweredYes left whole tick
last_question left questions tick whole h f = record { before = questions; after = f.more; is = f.is ∙ append_assoc questions (tick ∷ []) f.more; count = h }
