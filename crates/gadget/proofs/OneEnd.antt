-- A session leaves its files in one way.
use Rattle.std.proofs.Common.{◌≡◌, ◌≢◌, ◌⊎◌, ℕ, Bool, true, false, List, [], ◌∷◌, Option, Some, None, IfSome, inl, inr, refl, sym, ap, subst, ◌∙◌, true≢false}
use Rattle.std.specs.Str.{bytes_eq}
use Rattle.std.proofs.lemmas.Slice.Eq.{bytes_eq-Decides}
use Rattle.store_io.specs.Files.{Files}
use Rattle.nbody_model.specs.declared.field.Event.{Event}
use Rattle.nbody_model.specs.Bodies.{BodyData}
use Rattle.nbody_model.specs.Passes.{PassesAll}
use Rattle.nbody_model.specs.Session.{SessionData}
use Rattle.nbody_model.specs.Tables.{Gravity}
use Rattle.param_file.specs.Settings.{ParamsData}
use Rattle.rank_laws.specs.Machine.{start_world}
use Rattle.rank_laws.specs.Whole.{Whole, rules_of}
use Rattle.rank_laws.specs.Played.{Picks, IsPlayed}
use Rattle.rank_laws.proofs.Plays.{plays_one}
use Rattle.rank_field.specs.Fields.{IsPlayedAmong, split_among}
use Rattle.run_session.specs.Own.{Own, OwnTexts, IsOther, Stands, followed}
use Rattle.run_session.specs.Outputs.{Leaves, end_mark, session_texts, with_written}

pub same_or : (n m : List ℕ) → (n ≡ m) ⊎ (n ≢ m)
same_or n m = by (bytes_eq n m) refl
  where
    by : (b : Bool) → bytes_eq n m ≡ b → (n ≡ m) ⊎ (n ≢ m)
    by true e = inl ((bytes_eq-Decides n m).0 e)
    by false e = inr (λ q. true≢false (sym ((bytes_eq-Decides n m).1 q) ∙ e))

-- two files of one name, of one text
at_one : (Y Z : Files) (text n m : List ℕ) → n ≡ m → Y m ≡ Some text → Z m ≡ Some text → Y n ≡ Z n
at_one Y Z text n m e h k = ap Y e ∙ h ∙ sym k ∙ sym (ap Z e)

-- this name is that of a file which may be there, or another
at_if : (o : Option (List ℕ)) (Y Z : Files) (text n : List ℕ) → IfSome o (λ m. Y m ≡ Some text) → IfSome o (λ m. Z m ≡ Some text) → (Y n ≡ Z n) ⊎ IfSome o (λ m. n ≢ m)
at_if None Y Z text n h k = inr tt
at_if (Some m) Y Z text n h k = by (same_or n m)
  where
    by : (n ≡ m) ⊎ (n ≢ m) → (Y n ≡ Z n) ⊎ (n ≢ m)
    by (inl e) = inl (at_one Y Z text n m e h k)
    by (inr e) = inr e

-- the trace file has this name, or another, if there is one
traced_if : (o : Option (List ℕ)) (n : List ℕ) → (o ≡ Some n) ⊎ IfSome o (λ m. n ≢ m)
traced_if None n = inr tt
traced_if (Some m) n = by (same_or n m)
  where
    by : (n ≡ m) ⊎ (n ≢ m) → (◌≡◌ {A = Option (List ℕ)} (Some m) (Some n)) ⊎ (n ≢ m)
    by (inl e) = inl (ap Some (sym e))
    by (inr e) = inr e

stands_alike : (o : Own) (t u : OwnTexts) (W Y Z : Files) → t.kicks ≡ u.kicks → t.bins ≡ u.bins → Stands o t W Y → Stands o u W Z → (n : List ℕ) → (Y n ≡ Z n) ⊎ (o.trace ≡ Some n)
stands_alike o t u W Y Z kicks bins h k n = by (same_or n o.kicks) (traced_if o.trace n) (at_if o.bins Y Z u.bins n (subst (λ x. IfSome o.bins (λ m. Y m ≡ Some x)) bins h.bins) k.bins)
  where
    by : (n ≡ o.kicks) ⊎ (n ≢ o.kicks) → (o.trace ≡ Some n) ⊎ IfSome o.trace (λ m. n ≢ m) → (Y n ≡ Z n) ⊎ IfSome o.bins (λ m. n ≢ m) → (Y n ≡ Z n) ⊎ (o.trace ≡ Some n)
    by (inl e) trace other = inl (at_one Y Z u.kicks n o.kicks e (h.kicks ∙ ap Some kicks) k.kicks)
    by (inr a) (inl e) other = inr e
    by (inr a) (inr b) (inl e) = inl e
    by (inr a) (inr b) (inr c) =
        let other : IsOther o n = record { kicks = a; trace = b; bins = c } in
        inl (h.others n other ∙ sym (k.others n other))

stands_one : (o : Own) (t : OwnTexts) (W Y Z : Files) → Stands o t W Y → Stands o t W Z → (n : List ℕ) → Y n ≡ Z n
stands_one o t W Y Z h k n = by (same_or n o.kicks) (at_if o.trace Y Z t.trace n h.trace k.trace) (at_if o.bins Y Z t.bins n h.bins k.bins)
  where
    by : (n ≡ o.kicks) ⊎ (n ≢ o.kicks) → (Y n ≡ Z n) ⊎ IfSome o.trace (λ m. n ≢ m) → (Y n ≡ Z n) ⊎ IfSome o.bins (λ m. n ≢ m) → Y n ≡ Z n
    by (inl e) trace bins = at_one Y Z t.kicks n o.kicks e h.kicks k.kicks
    by (inr a) (inl e) bins = e
    by (inr a) (inr b) (inl e) = e
    by (inr a) (inr b) (inr c) =
        let other : IsOther o n = record { kicks = a; trace = b; bins = c } in
        h.others n other ∙ sym (k.others n other)

-- forces that one schedule orders, from one state, are found in one way
pub events_one : (p : Picks) (g : Gravity) (ranks : ℕ) (asked : List (List BodyData)) (a b y z : List ℕ) (es fs : List (List Event)) → a ≡ b
    → PassesAll (IsPlayedAmong p g ranks) asked a es y → PassesAll (IsPlayedAmong p g ranks) asked b fs z → es ≡ fs
events_one p g ranks [] a b y z [] [] same h k = refl
events_one p g ranks [] a b y z [] (f ∷ fs) same h k = absurd k
events_one p g ranks [] a b y z (e ∷ es) fs same h k = absurd h
events_one p g ranks (B ∷ asked) a b y z [] fs same h k = absurd h
events_one p g ranks (B ∷ asked) a b y z (e ∷ es) [] same h k = absurd k
events_one p g ranks (B ∷ asked) a b y z (e ∷ es) (f ∷ fs) same h k =
    let w : Whole = split_among B g ranks in
    let mine = subst (λ c. IsPlayed p w (start_world (rules_of w)) c e h.1.last h.0) same h.1.played in
    let one = plays_one p w (start_world (rules_of w)) b e f h.1.last k.1.last h.0 k.0 mine k.1.played in
    let rest : es ≡ fs = events_one p g ranks asked h.0 k.0 y z es fs one.states h.2 k.2 in
    ap (λ x. x ∷ es) one.events ∙ ap (λ xs. f ∷ xs) rest

pub leaves_one : (p : ParamsData) (o : Own) (d : SessionData) (es fs : List (List Event)) (done : Bool) (F G Y Z : Files) (a b c e : List (List ℕ)) → F ≡ G → es ≡ fs → Leaves p o d es done F Y a b → Leaves p o d fs done G Z c e → (n : List ℕ) → Y n ≡ Z n
leaves_one p o d es fs done F G Y Z a b c e same events h k =
    let mine = subst (λ W. Stands o (followed (session_texts d es) (end_mark done)) (with_written p d.written W) Y) same h.files in
    let texts = subst (λ xs. Stands o (followed (session_texts d xs) (end_mark done)) (with_written p d.written G) Y) events mine in
    stands_one o (followed (session_texts d fs) (end_mark done)) (with_written p d.written G) Y Z texts k.files

-- whatever the events were, at every name but that of the trace file
pub leaves_alike : (p : ParamsData) (o : Own) (d : SessionData) (es fs : List (List Event)) (done : Bool) (F G Y Z : Files) (a b c e : List (List ℕ)) → F ≡ G → Leaves p o d es done F Y a b → Leaves p o d fs done G Z c e → (n : List ℕ) → (Y n ≡ Z n) ⊎ (o.trace ≡ Some n)
leaves_alike p o d es fs done F G Y Z a b c e same h k =
    let mine = subst (λ W. Stands o (followed (session_texts d es) (end_mark done)) (with_written p d.written W) Y) same h.files in
    stands_alike o (followed (session_texts d es) (end_mark done)) (followed (session_texts d fs) (end_mark done)) (with_written p d.written G) Y Z refl refl mine k.files
