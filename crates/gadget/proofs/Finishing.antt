-- The files of a session that a call finished: which they are, and what stands in them.
use Rattle.std.proofs.Common.{◌≡◌, ◌≢◌, ◌⊎◌, ◌<◌, ◌^◌, ℕ, zero, suc, Bool, true, false, cond, IsTrue, List, [], ◌∷◌, ◌++◌, take, map, codes, Option, Some, None, inl, inr, refl, sym, ap, subst, ◌∙◌, arith, append_assoc}
use Rattle.std.specs.Option.{IfSome}
use Rattle.std.proofs.lemmas.List.{append-nil, append_cancel_left}
use Rattle.store_io.specs.Files.{Files}
use Rattle.nbody_model.specs.Passes.{Passes}
use Rattle.nbody_model.specs.Session.{Plan, SessionData, Written, Snapshot, Restart, session}
use Rattle.nbody_model.specs.Setups.{IsSetup}
use Rattle.nbody_model.specs.States.{StateData}
use Rattle.nbody_model.specs.Texts.{numbered, three_digits}
use Rattle.nbody_model.specs.RestartText.{restart_text}
use Rattle.model_laws.specs.Resumed.{IsOneOf}
use Rattle.chain_laws.proofs.Differ.{restart_numbers_are_low, restart_numbers_differ}
use Rattle.param_file.specs.Settings.{ParamsData, IsParams, setup_of}
use Rattle.run_session.specs.declared.ended.Ended.{Ended}
use Rattle.run_session.specs.declared.ended.End.{End}
use Rattle.run_session.specs.declared.ended.End.TheVariants as ends
use Rattle.run_session.specs.Own.{IsOther, Own, name_list, own_files, own_names}
use Rattle.run_session.specs.Outputs.{IsNext, file_bytes, file_name, with_file, with_written}
use Rattle.run_session.specs.Broken.{LeavesPart}
use Rattle.run_session.specs.RunEnds.{EndsBy, IsEnded}
use Rattle.run_session.specs.Worlds.{World}
use Rattle.run_session.proofs.FileFacts.{file_either}
use Rattle.run_session.proofs.NamesApart.{apart_with, written_other}
use Rattle.gadget.proofs.NumberedOnce.{number_once}

-- ---- one of a list

either_of : {X : Type 0} (x : X) (xs ys : List X) → IsOneOf x (xs ++ ys) → IsOneOf x xs ⊎ IsOneOf x ys
either_of x [] ys h = inr h
either_of x (y ∷ xs) ys (inl e) = inl (inl e)
either_of x (y ∷ xs) ys (inr h) = elim (either_of x xs ys h) [ inl a ↦ inl (inr a) | inr b ↦ inr b ]

first_of : {X : Type 0} (x : X) (xs ys : List X) → IsOneOf x xs → IsOneOf x (xs ++ ys)
first_of x [] ys h = absurd h
first_of x (y ∷ xs) ys (inl e) = inl e
first_of x (y ∷ xs) ys (inr h) = inr (first_of x xs ys h)

next_of : {X : Type 0} (x : X) (xs ys : List X) → IsOneOf x (xs ++ x ∷ ys)
next_of x [] ys = inl refl
next_of x (y ∷ xs) ys = inr (next_of x xs ys)

of_taken : {X : Type 0} (x : X) (n : ℕ) (xs : List X) → IsOneOf x (take n xs) → IsOneOf x xs
of_taken x zero xs h = absurd h
of_taken x (suc n) [] h = absurd h
of_taken x (suc n) (y ∷ xs) (inl e) = inl e
of_taken x (suc n) (y ∷ xs) (inr h) = inr (of_taken x n xs h)

-- ---- files that are kept open

one_named : (q : List ℕ) (o : Option (List ℕ)) → IsOneOf q (name_list o) → IfSome o (λ n. q ≢ n) → ⊥
one_named q None h k = h
one_named q (Some n) (inl e) k = k e
one_named q (Some n) (inr h) k = h

no_own : (o : Own) (q : List ℕ) → IsOther o q → IsOneOf q (own_names o) → ⊥
no_own o q h (inl e) = h.kicks e
no_own o q h (inr k) = elim (either_of q (name_list o.trace) (name_list o.bins) k) [ inl a ↦ one_named q o.trace a h.trace | inr b ↦ one_named q o.bins b h.bins ]

-- ---- what a call finished

-- of these files of a session the first ones are finished, and their names are added, beside some of those that are kept open;
-- every other file is as they leave it, or is the next one
pub record Finishes (p : ParamsData) (o : Own) (written : List Written) (A Z : World) : Type 0 where
  pub finished : List Written
  pub later : List Written
  pub parts : written ≡ finished ++ later
  pub own : ℕ
  pub closed : Z.closed ≡ A.closed ++ map (file_name p) finished ++ take own (own_names o)
  pub files : (q : List ℕ) → IsOther o q → (Z.files q ≡ with_written p finished A.files q) ⊎ IsNext p later q (Z.files q)

take_whole : (o : Own) → take 3 (own_names o) ≡ own_names o
take_whole o = by o.trace o.bins
  where
    by : (t b : Option (List ℕ)) → take 3 (o.kicks ∷ name_list t ++ name_list b) ≡ o.kicks ∷ name_list t ++ name_list b
    by None None = refl
    by None (Some m) = refl
    by (Some n) None = refl
    by (Some n) (Some m) = refl

module _ (p : ParamsData) (resumed : Bool) (σ : StateData) (v : Passes) (told : Bool) where
  abbrev o : Own
  o = own_files p resumed σ

  -- all of them
  finish_all : (done : Bool) (d : SessionData) (A Z : World) → IsTrue told → IsEnded p resumed σ v told done d A Z → Finishes p o d.written A Z
  finish_all done d A Z t h =
      let leaves = h.files t in
      record {
        finished = d.written;
        later = [];
        parts = sym (append-nil d.written);
        own = 3;
        closed = leaves.closed ∙ ap (λ ns. A.closed ++ map (file_name p) d.written ++ ns) (sym (take_whole o));
        files = λ q other. inl (leaves.files.others q other);
      }

  finish_some : (d : SessionData) (fault : Option (List ℕ)) (A Z : World) → IsTrue told → LeavesPart p o v told d fault A Z → Finishes p o d.written A Z
  finish_some d fault A Z t (inl h) = record {
    finished = [];
    later = d.written;
    parts = refl;
    own = 0;
    closed = h.closed ∙ sym (append-nil A.closed) ∙ sym (append-nil (A.closed ++ []));
    files = λ q other. inl ((h.files t).others q other);
  }
  finish_some d fault A Z t (inr (inl h)) = record {
    finished = h.finished;
    later = h.later;
    parts = h.written;
    own = 0;
    closed = h.closed t ∙ sym (append-nil (A.closed ++ map (file_name p) h.finished));
    files = (h.files t).others;
  }
  finish_some d fault A Z t (inr (inr h)) = record {
    finished = d.written;
    later = [];
    parts = sym (append-nil d.written);
    own = h.some.ended;
    closed = h.some.closed t;
    files = λ q other. inl ((h.files t).stands.others q other);
  }

  -- in the session with some stop
  pub record FinishesIn (sessions : Option ℕ → SessionData) (A Z : World) : Type 0 where
    pub stop : Option ℕ
    pub some : Finishes p o (sessions stop).written A Z

  pub finishes : (sessions : Option ℕ → SessionData) (A Z : World) (e : Ended) (end : End) → IsTrue told → EndsBy p resumed σ v told sessions A Z e end → FinishesIn sessions A Z
  finishes sessions A Z e ends.Done t h = record { stop = None; some = finish_all true (sessions None) A Z t h.0.ended }
  finishes sessions A Z e ends.Stopped t h = record { stop = Some e.tick; some = finish_all false (sessions (Some e.tick)) A Z t h.0.ended }
  finishes sessions A Z e (ends.MomRange tick bin id axis) t h = record { stop = None; some = finish_all false (sessions None) A Z t h.ended }
  finishes sessions A Z e (ends.StepRange tick id) t h = record { stop = None; some = finish_all false (sessions None) A Z t h.ended }
  finishes sessions A Z e (ends.WriteFault name) t h = record { stop = h.0.stop; some = finish_some (sessions h.0.stop) (Some name) A Z t h.0.leaves }
  finishes sessions A Z e ends.Memory t h = record { stop = h.0.stop; some = finish_some (sessions h.0.stop) None A Z t h.0.leaves }

-- ---- what stands in them

-- one of these files has this name, and was written last
record IsLast (p : ParamsData) (ws : List Written) (W : Files) (name : List ℕ) : Type 0 where
  file : Written
  one : IsOneOf file ws
  named : name ≡ file_name p file
  stands : with_written p ws W name ≡ Some (file_bytes p file)

record IsNone (p : ParamsData) (ws : List Written) (W : Files) (name : List ℕ) : Type 0 where
  kept : with_written p ws W name ≡ W name
  none : IsOneOf name (map (file_name p) ws) → ⊥

last_or_none : (p : ParamsData) (ws : List Written) (W : Files) (name : List ℕ) → IsLast p ws W name ⊎ IsNone p ws W name
last_or_none p [] W name = inr (record { kept = refl; none = λ h. h })
last_or_none p (w ∷ ws) W name = by (last_or_none p ws (with_file (file_name p w) (file_bytes p w) W) name)
  where
    by : IsLast p ws (with_file (file_name p w) (file_bytes p w) W) name ⊎ IsNone p ws (with_file (file_name p w) (file_bytes p w) W) name → IsLast p (w ∷ ws) W name ⊎ IsNone p (w ∷ ws) W name
    by (inl l) = inl (record { file = l.file; one = inr l.one; named = l.named; stands = l.stands })
    by (inr n) = file_either name (file_name p w)
        (λ e b. inl (record { file = w; one = inl refl; named = e; stands = n.kept ∙ ap (λ x. cond x (Some (file_bytes p w)) (W name)) b }))
        (λ e b. inr (record { kept = n.kept ∙ ap (λ x. cond x (Some (file_bytes p w)) (W name)) b; none = λ h. elim h [ inl same ↦ e same | inr more ↦ n.none more ] }))

-- no snapshot has the name of a restart file
module _ (p : ParamsData) (h : IsParams p) where
  no_snapshot : (n m : ℕ) → numbered p.restart_file_base n ≡ numbered p.snapshot_file_base m → ⊥
  no_snapshot n m e =
      apart_with p.snapshot_file_base p.restart_file_base (codes "_" ++ three_digits m) (codes "_" ++ three_digits n) (h.apart 1 4 (omega arith) (omega arith)) refl refl
      (sym (append_assoc p.snapshot_file_base (codes "_") (three_digits m)) ∙ sym e ∙ append_assoc p.restart_file_base (codes "_") (three_digits n))

  -- so a file of such a name is a restart file of that name
  record IsThat (number : ℕ) (w : Written) : Type 0 where
    at : ℕ
    state : StateData
    is : w ≡ Restart at state
    named : numbered p.restart_file_base number ≡ numbered p.restart_file_base at

  that : (number : ℕ) (w : Written) → numbered p.restart_file_base number ≡ file_name p w → IsThat number w
  that number (Snapshot n τ) e = absurd (no_snapshot number n e)
  that number (Restart n τ) e = record { at = n; state = τ; is = refl; named = e }

-- a restart file of a session stands
pub record StandsOf (p : ParamsData) (d : SessionData) (files : Files) (name : List ℕ) : Type 0 where
  pub number : ℕ
  pub state : StateData
  pub one : IsOneOf (Restart number state) d.written
  pub stands : files name ≡ Some (restart_text state (setup_of p))

module _ (plan : Plan) (p : ParamsData) (resumed : Bool) (σ : StateData) (h : IsParams p) (setup : IsSetup plan.rules.gravity.setup) (low : σ.next_restart < 2 ^ 64) where
  abbrev own : Own
  own = own_files p resumed σ

  -- no other restart file of the session has its name
  no_next : (stop : Option ℕ) (finished rest : List Written) (n m : ℕ) (ρ τ : StateData) → (session plan resumed stop σ).written ≡ finished ++ Restart m τ ∷ rest → IsOneOf (Restart n ρ) finished → numbered p.restart_file_base n ≡ numbered p.restart_file_base m → ⊥
  no_next stop finished rest n m ρ τ e one same =
      let all = session plan resumed stop σ in
      let first : IsOneOf (Restart n ρ) all.written = subst (λ ws. IsOneOf (Restart n ρ) ws) (sym e) (first_of (Restart n ρ) finished (Restart m τ ∷ rest) one) in
      let second : IsOneOf (Restart m τ) all.written = subst (λ ws. IsOneOf (Restart m τ) ws) (sym e) (next_of (Restart m τ) finished rest) in
      restart_numbers_differ plan resumed stop σ setup low finished rest n m ρ τ e one
      (number_once p.restart_file_base n m (restart_numbers_are_low plan resumed stop σ setup low n ρ first) (restart_numbers_are_low plan resumed stop σ setup low m τ second) same)

  pub finished_stands : (stop : Option ℕ) (A Z : World) (number : ℕ) (added : List (List ℕ)) → Finishes p own (session plan resumed stop σ).written A Z
      → Z.closed ≡ A.closed ++ added → IsOneOf (numbered p.restart_file_base number) added → StandsOf p (session plan resumed stop σ) Z.files (numbered p.restart_file_base number)
  finished_stands stop A Z number added f closed among = by (last_or_none p f.finished A.files name)
    where
      name : List ℕ
      name = numbered p.restart_file_base number

      other : IsOther own name
      other = written_other p resumed σ h (Restart number σ)

      names : added ≡ map (file_name p) f.finished ++ take f.own (own_names own)
      names = append_cancel_left A.closed added (map (file_name p) f.finished ++ take f.own (own_names own)) (sym closed ∙ f.closed ∙ append_assoc A.closed (map (file_name p) f.finished) (take f.own (own_names own)))

      of_session : IsOneOf name (map (file_name p) f.finished)
      of_session = elim (either_of name (map (file_name p) f.finished) (take f.own (own_names own)) (subst (λ ns. IsOneOf name ns) names among)) [ inl a ↦ a | inr b ↦ absurd (no_own own name other (of_taken name f.own (own_names own) b)) ]

      by : IsLast p f.finished A.files name ⊎ IsNone p f.finished A.files name → StandsOf p (session plan resumed stop σ) Z.files name
      by (inr n) = absurd (n.none of_session)
      by (inl l) =
          let t = that p h number l.file l.named in
          let mine : IsOneOf (Restart t.at t.state) f.finished = subst (λ w. IsOneOf w f.finished) t.is l.one in
          let holds : with_written p f.finished A.files name ≡ Some (restart_text t.state (setup_of p)) = l.stands ∙ ap (λ w. Some (file_bytes p w)) t.is in
          record {
            number = t.at;
            state = t.state;
            one = subst (λ ws. IsOneOf (Restart t.at t.state) ws) (sym f.parts) (first_of (Restart t.at t.state) f.finished f.later mine);
            stands = elim (f.files name other) [
              | inl e ↦ e ∙ holds
              | inr x ↦
                  let u = that p h number x.next x.named in
                  let after : f.later ≡ Restart u.at u.state ∷ x.rest = x.is ∙ ap (λ w. w ∷ x.rest) u.is in
                  absurd (no_next stop f.finished x.rest t.at u.at t.state u.state (f.parts ∙ ap (λ ws. f.finished ++ ws) after) mine (sym t.named ∙ u.named))
            ];
          }
