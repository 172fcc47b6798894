-- Taking back a step and making it are inverse to each other.
use Rattle.std.proofs.Common.{List, None, refl, subst}
use Rattle.nbody_model.specs.Bodies.{BodyData}
use Rattle.nbody_model.specs.Evolve.{Progress, Stepped, Going, Refused, Resting, evolve}
use Rattle.rewind_laws.specs.Back.{StepParts, listed}
use Rattle.rewind_laws.specs.Rewound.{StepsAreTakenBack, ComesTo, WhatIsTakenBackEvolves}
use Rattle.rewind_laws.proofs.Forth.{Comes, Undone, evolve_undone}
use Rattle.rewind_laws.proofs.Runs.{fit_within}
use Rattle.rewind_laws.proofs.Again.{Goes, Made, evolve_redone}

pub steps_are_taken_back : StepsAreTakenBack
steps_are_taken_back r stop bin P t p q h low within e =
    let u : Undone r bin P t p q = subst (Comes (Undone r bin P t p)) e (evolve_undone r stop h.bin_low bin P t p low (fit_within p.bodies within)) in
    record { parts = u.parts; good = u.good; told = u.turned.told; back = u.turned.back }

made_by : (B : List BodyData) (parts : StepParts) (p : Progress) (s : Stepped) → Goes (Made (listed parts) B p) s → ComesTo B parts p s
made_by B parts p (Going q) g = record { end = q; goes = refl; bodies = g.bodies; told = g.told }
made_by B parts p (Refused q x) g = absurd g
made_by B parts p (Resting q tick Fs) g = absurd g

pub what_is_taken_back_evolves : WhatIsTakenBackEvolves
what_is_taken_back_evolves r bin P t B parts p h low within good e =
    made_by B parts p (evolve r None bin P t p) (evolve_redone r h.bin_low bin parts P t low good p B (fit_within B within) e).goes
