-- Whatever a run leaves: its kicks tell one momentum, and its kick file holds their lines.
use Rattle.std.proofs.Common.{◌≡◌, ◌⊎◌, ℕ, suc, ◌-◌, ◌+◌, Bool, true, false, IsTrue, List, [], ◌∷◌, ◌++◌, drop, length, take, Option, Some, None, inl, inr, sym, ap, subst, ◌∙◌, arith, append_assoc}
use Rattle.std.proofs.lemmas.Bool.{cases_lt}
use Rattle.std.proofs.lemmas.List.{append-nil, take-append-le, take_all}
use Rattle.std.proofs.Math.Seq.{take-append-add}
use Rattle.nbody_model.specs.declared.kicks.Record.{Record}
use Rattle.std.specs.List.{AllByRecursion}
use Rattle.nbody_model.specs.Bodies.{total}
use Rattle.nbody_model.specs.Passes.{Passes}
use Rattle.nbody_model.specs.Session.{SessionData, records, session, tells}
use Rattle.nbody_model.specs.States.{StateData}
use Rattle.nbody_model.specs.Tables.{Gravity}
use Rattle.nbody_model.specs.Texts.{kick_line, kick_text}
use Rattle.param_file.specs.Settings.{ParamsData, setup_of}
use Rattle.rank_field.specs.Fields.{IsPlayedAmong}
use Rattle.run_session.specs.declared.ended.Ended.{Ended}
use Rattle.run_session.specs.declared.ended.End.{End}
use Rattle.run_session.specs.declared.ended.End.TheVariants as ends
use Rattle.run_session.specs.Own.{HasPart, own_files}
use Rattle.run_session.specs.Broken.{LeavesPart}
use Rattle.run_session.specs.RunEnds.{EndsBy, IsBrokenOff, IsEnded}
use Rattle.run_session.specs.Worlds.{World}
use Rattle.run_session.proofs.FileFacts.{whole_part}
use Rattle.gadget.specs.Begins.{plan_by}
use Rattle.gadget.specs.Answers.{seeded_by}
use Rattle.gadget.specs.Momentum.{HoldsLines, KickFile, MomentumIsKept}

-- ---- lines

-- behind one line
line_more : (r : Record) (kicks : List Record) (k j : ℕ) → k ≡ length (kick_line r) + j → HoldsLines (Some (take j (kick_text kicks))) kicks → HoldsLines (Some (take k (kick_text (r ∷ kicks)))) (r ∷ kicks)
line_more r kicks k j e h = record {
  whole = suc h.whole;
  part = h.part;
  is = ap Some (ap (λ n. take n (kick_text (r ∷ kicks))) e ∙ take-append-add (kick_line r) (kick_text kicks) j ∙ ap (λ x. kick_line r ++ x) (some_same h.is) ∙ sym (append_assoc (kick_line r) (kick_text (take h.whole kicks)) (take h.part (kick_text (take 1 (drop h.whole kicks))))));
}
  where
    some_same : {x y : List ℕ} → ◌≡◌ {A = Option (List ℕ)} (Some x) (Some y) → x ≡ y
    some_same e = cc

-- a first part of all lines is whole lines and a first part of the next one
lines_of : (k : ℕ) (kicks : List Record) → HoldsLines (Some (take k (kick_text kicks))) kicks
lines_of k [] = record { whole = 0; part = 0; is = ap Some (take_all k [] (omega arith)) }
lines_of k (r ∷ kicks) =
    let n = length (kick_line r) in
    elim (cases_lt k n) [
      | inl l ↦ record { whole = 0; part = k; is = ap Some (take-append-le k (kick_line r) (kick_text kicks) (omega (arith, l)) ∙ ap (take k) (sym (append-nil (kick_line r)))) }
      | inr l ↦ line_more r kicks k (k - n) (omega (arith, l)) (lines_of (k - n) kicks)
    ]

holds : (file : Option (List ℕ)) (kicks : List Record) → HasPart file (kick_text kicks) → HoldsLines file kicks
holds file kicks h = subst (λ f. HoldsLines f kicks) (sym h.1) (lines_of h.0 kicks)

-- ---- every end

module _ (p : ParamsData) (resumed : Bool) (σ : StateData) (v : Passes) (told : Bool) where
  abbrev name : List ℕ
  name = (own_files p resumed σ).kicks

  -- a session that came to its end
  all_lines : (done : Bool) (d : SessionData) (A Z : World) → IsEnded p resumed σ v told done d A Z → IsTrue told → Z.files name ≡ Some (kick_text (records d))
  all_lines done d A Z h t = (h.files t).files.kicks ∙ ap Some (append-nil (kick_text (records d)))

  -- one that was broken off
  first_lines : (d : SessionData) (fault : Option (List ℕ)) (A Z : World) → LeavesPart p (own_files p resumed σ) v told d fault A Z → IsTrue told
      → HoldsLines (Z.files name) (records d) ⊎ ((Z.files name ≡ A.files name) ⊎ (Z.files name ≡ Some []))
  first_lines d fault A Z (inl h) t = elim (h.files t).kicks [ inl e ↦ inr (inl e) | inr part ↦ inr (inr (part.1 ∙ ap Some (take_all part.0 [] (omega arith)))) ]
  first_lines d fault A Z (inr (inl h)) t = inl (holds (Z.files name) (records d) (h.files t).kicks)
  first_lines d fault A Z (inr (inr h)) t =
      inl (holds (Z.files name) (records d) (whole_part (Z.files name) (kick_text (records d)) ((h.files t).stands.kicks ∙ ap Some (append-nil (kick_text (records d))))))

  -- what was made of a session with a stop
  record Makes (sessions : Option ℕ → SessionData) (A Z : World) (end : End) : Type 0 where
    stop : Option ℕ
    kicks : AllByRecursion (tells (total σ.bodies)) (records (sessions stop))
    file : IsTrue told → KickFile end (A.files name) (Z.files name) (records (sessions stop))

  broken : (sessions : Option ℕ → SessionData) (fault : Option (List ℕ)) (A Z : World) (end : End) → IsBrokenOff p resumed σ v told sessions fault A Z
      → ((d : SessionData) → HoldsLines (Z.files name) (records d) ⊎ ((Z.files name ≡ A.files name) ⊎ (Z.files name ≡ Some [])) → KickFile end (A.files name) (Z.files name) (records d)) → Makes sessions A Z end
  broken sessions fault A Z end h f = record { stop = h.stop; kicks = h.kept; file = λ t. f (sessions h.stop) (first_lines (sessions h.stop) fault A Z h.leaves t) }

  made : (sessions : Option ℕ → SessionData) (A Z : World) (e : Ended) (end : End) → EndsBy p resumed σ v told sessions A Z e end → Makes sessions A Z end
  made sessions A Z e ends.Done h = record { stop = None; kicks = h.0.ended.kept; file = all_lines true (sessions None) A Z h.0.ended }
  made sessions A Z e ends.Stopped h = record { stop = Some e.tick; kicks = h.0.ended.kept; file = all_lines false (sessions (Some e.tick)) A Z h.0.ended }
  made sessions A Z e (ends.MomRange tick bin id axis) h = record { stop = None; kicks = h.ended.kept; file = all_lines false (sessions None) A Z h.ended }
  made sessions A Z e (ends.StepRange tick id) h = record { stop = None; kicks = h.ended.kept; file = all_lines false (sessions None) A Z h.ended }
  made sessions A Z e (ends.WriteFault fault) h = broken sessions (Some fault) A Z (ends.WriteFault fault) h.0 (λ d x. x)
  made sessions A Z e ends.Memory h = broken sessions None A Z ends.Memory h.0 (λ d x. x)

pub momentum_kept : MomentumIsKept
momentum_kept way e i σ ended h =
    let g : Gravity = record { setup = setup_of i.params; table = i.table } in
    let m = made i.params way.resumed σ (IsPlayedAmong e.order.picks g way.ranks) e.tells (λ stop. session (plan_by i) way.resumed stop σ) (seeded_by e i.params.delivery_seed) e.new ended ended.end h.by_session in
    record { stop = m.stop; kicks = m.kicks; file = m.file; told = h.momentum }
