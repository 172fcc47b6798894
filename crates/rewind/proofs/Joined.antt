-- The calls and the laws of taking back.
use Rattle.std.proofs.Common.{◌≡◌, ℕ, false, List, Option, Some, None, refl, ap, sym, ◌∙◌, subst}
use Rattle.nbody_model.specs.Bodies.{BodyData}
use Rattle.nbody_model.specs.Setups.{SetupData}
use Rattle.nbody_model.specs.Tables.{Rules}
use Rattle.nbody_model.specs.Texts.{bins_text}
use Rattle.nbody_model.specs.Session.{bins, session}
use Rattle.rewind_laws.specs.Back.{StepParts, Back, Reached, Failed, back_run}
use Rattle.rewind_laws.specs.Bins.{Read, UpTo, Bad, Spell, first_fault, BinsErr}
use Rattle.rewind_laws.specs.Filed.{FileLeadsBack}
use Rattle.rewind_laws.proofs.Filed.{spelled_are_parts, bin_files_lead_back}
use Rattle.rewind_laws.proofs.Rerun.{what_is_taken_back_is_run}
use Rattle.rewind.specs.declared.errors.RewindErr.{RewindErr}
use Rattle.rewind.specs.declared.errors.RewindErr.TheVariants.{Tick, Tag, Record, EndMark, MomRange, BinsDiffer, Memory}
use Rattle.rewind.specs.Reading.{IsFirstFault, SpellBins}
use Rattle.rewind.specs.Rewinding.{AreOfRun, IsRefusedBy}
use Rattle.rewind.specs.Laws.{WhatIsRewoundIsRun, IsTakenBack, BinFilesTakeBack}

pub rewound_is_run : WhatIsRewoundIsRun
rewound_is_run plan B lists σ s w t a h = what_is_taken_back_is_run plan B a.steps σ s w a.good t (h a)

-- what was read are the fast parts of a run
abbrev pub read_are : (bytes : List ℕ) (s : SetupData) (B : List BodyData) (lists : List (List ℕ)) → SpellBins bytes s B lists → AreOfRun s B lists
read_are bytes s B lists r = record { steps = r.steps; good = spelled_are_parts bytes s B r.steps r.spell; are = r.are }

-- two readings are one
abbrev steps_of : List StepParts → Read (List StepParts) → List StepParts
steps_of other (UpTo steps at) = steps
steps_of other (Bad at) = other

one_reading : (bytes : List ℕ) (s : SetupData) (B : List BodyData) (one two : List StepParts) → Spell bytes s B one → Spell bytes s B two → one ≡ two
one_reading bytes s B one two e f = ap (steps_of one) (sym e.are ∙ f.are)

-- what has no fault isn't refused
abbrev none_or : BinsErr → Option BinsErr → Type 0
none_or e None = Unit {0}
none_or e (Some x) = ⊥

never : (o : Option BinsErr) (x : BinsErr) → o ≡ None → o ≡ Some x → ⊥
never o x e f = subst (none_or x) (sym e ∙ f) tt

no_fault : (bytes : List ℕ) (s : SetupData) (B : List BodyData) (e : RewindErr) → first_fault bytes s B ≡ None → IsFirstFault bytes s B e → e ≡ Memory
no_fault bytes s B Tag n h = absurd (never (first_fault bytes s B) _ n h)
no_fault bytes s B (Record at) n h = absurd (never (first_fault bytes s B) _ n h)
no_fault bytes s B EndMark n h = absurd (never (first_fault bytes s B) _ n h)
no_fault bytes s B Memory n h = refl
no_fault bytes s B (Tick want got) n h = absurd h
no_fault bytes s B (MomRange id axis) n h = absurd h
no_fault bytes s B (BinsDiffer tick id) n h = absurd h

abbrev is_reached : Back → Type 0
is_reached (Reached B) = Unit {0}
is_reached (Failed e) = ⊥

reached_once : (b : Back) (A : List BodyData) (e : RewindErr) → b ≡ Reached A → IsRefusedBy b e → e ≡ Memory
reached_once b A (MomRange id axis) r h = absurd (subst is_reached (sym r ∙ h) tt)
reached_once b A (BinsDiffer tick id) r h = absurd (subst is_reached (sym r ∙ h) tt)
reached_once b A Memory r h = refl
reached_once b A Tag r h = absurd h
reached_once b A EndMark r h = absurd h
reached_once b A (Tick want got) r h = absurd h
reached_once b A (Record at) r h = absurd h

abbrev bodies_of : List BodyData → Back → List BodyData
bodies_of other (Reached B) = B
bodies_of other (Failed e) = other

taken_back : (r : Rules) (A B : List BodyData) (bytes : List ℕ) → FileLeadsBack r A B bytes → IsTakenBack r A B bytes
taken_back r A B bytes f =
    let s = r.gravity.setup in
    let same : (lists : List (List ℕ)) (x : SpellBins bytes s B lists) → back_run r x.steps B ≡ Reached A = λ lists x. ap (λ steps. back_run r steps B) (one_reading bytes s B x.steps f.steps x.spell f.spell) ∙ f.back in
    record {
      read = λ e h. no_fault bytes s B e f.spell.faultless h;
      first = λ lists C x h. ap (bodies_of A) (sym (h (read_are bytes s B lists x)) ∙ same lists x);
      reached = λ lists e x h. reached_once (back_run r x.steps B) A e (same lists x) (h (read_are bytes s B lists x));
    }

pub files_take_back : BinFilesTakeBack
files_take_back plan stop σ z w room ok done = taken_back plan.rules σ.bodies (session plan false stop σ).state.bodies (bins_text (bins (session plan false stop σ))) (bin_files_lead_back plan stop σ z w room ok done)
