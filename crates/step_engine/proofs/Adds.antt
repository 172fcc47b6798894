-- Every part of a step only adds to what happened.
use Rattle.std.proofs.Common.{◌==◌, ℕ, cond, List, [], ◌∷◌, ◌++◌, Option, Some, None, refl, ap, ◌∙◌, append_assoc}
use Rattle.nbody_model.specs.Bodies.{only}
use Rattle.nbody_model.specs.Tables.{Rules}
use Rattle.nbody_model.specs.Steps.{change, kicked_bodies, first_out}
use Rattle.nbody_model.specs.Evolve.{Happening, Binned, Asked, Kicked, Rested, Progress, tell, MomRange, Stepped, Going, Refused, Resting, record_of, kick, rest, close, between, evolve}
use Rattle.model_laws.specs.Preserved.{IsPart, Holds, IsPreserved}
use Rattle.model_laws.proofs.Preserved.{closes, betweens, evolves, rests}
use Rattle.step_engine.specs.Ends.{trail_of}
use Rattle.step_engine.proofs.Joins.{More, OnlyAdds, all_there}

abbrev Behind : List Happening → Progress → Type 0
Behind base p = More base p.trail

further : (base : List Happening) (what : Happening) (p : Progress) → Behind base p → Behind base (tell what p)
further base what p m = record { more = m.more ++ what ∷ []; is = ap (λ xs. xs ++ what ∷ []) m.is ∙ append_assoc base m.more (what ∷ []) }

out_behind : (base : List Happening) (p q : Progress) (bin tick : ℕ) (out : Option (ℕ × ℕ)) → Behind base p → Behind base q → Holds (Behind base) (elim out [ Some first ↦ Refused p (MomRange tick bin first.0 first.1) | None ↦ Going q ])
out_behind base p q bin tick None h k = k
out_behind base p q bin tick (Some first) h k = h

behind : (r : Rules) (base : List Happening) → IsPreserved r (Behind base)
unfolding kick
behind r base = record {
  binned = λ F p h. further base (Binned F) p h;
  asked = λ B p h. further base (Asked B) p h;
  rested = λ tick p h. further base (Rested tick) p h;
  drifted = λ P ticks p h. h;
  kicked = λ bin tick h P F p part k.
      let C = kicked_bodies h P (change r.gravity P F p.bodies) p.bodies in
      out_behind base p (tell (Kicked (record_of r tick bin P F p.bodies C)) (record p { bodies = C })) bin tick (cond (h == 0) None (first_out (only C P))) k (further base (Kicked (record_of r tick bin P F p.bodies C)) (record p { bodies = C }) k);
}

told_of : (base : List Happening) (s : Stepped) → Holds (Behind base) s → More base (trail_of s)
told_of base (Going p) h = h
told_of base (Refused p e) h = h
told_of base (Resting p tick Fs) h = h

pub kick_adds : (r : Rules) (bin : ℕ) (P F : List ℕ) (tick h : ℕ) → IsPart F P → OnlyAdds (kick r bin P F tick h)
kick_adds r bin P F tick h part q = told_of q.trail (kick r bin P F tick h q) ((behind r q.trail).kicked bin tick h P F q part (all_there q.trail))

pub close_adds : (r : Rules) (bin : ℕ) (P F : List ℕ) (t : ℕ) → IsPart F P → OnlyAdds (close r bin P F t)
close_adds r bin P F t part q = told_of q.trail (close r bin P F t q) (closes r (Behind q.trail) (behind r q.trail) bin P F t q part (all_there q.trail))

pub rest_adds : (r : Rules) (tick : ℕ) → OnlyAdds (rest None tick)
rest_adds r tick q = told_of q.trail (rest None tick q) (rests r (Behind q.trail) (behind r q.trail) None tick q (all_there q.trail))

pub evolve_adds : (r : Rules) (bin : ℕ) (P : List ℕ) (t : ℕ) → OnlyAdds (evolve r None bin P t)
evolve_adds r bin P t q = told_of q.trail (evolve r None bin P t q) (evolves r (Behind q.trail) (behind r q.trail) None bin P t q (all_there q.trail))

pub between_adds : (r : Rules) (c bin : ℕ) (F : List ℕ) (t : ℕ) → OnlyAdds (between None (evolve r None c) bin F t)
between_adds r c bin F t q = told_of q.trail (between None (evolve r None c) bin F t q) (betweens r (Behind q.trail) (behind r q.trail) None (evolve r None c) (λ G u p h. evolves r (Behind q.trail) (behind r q.trail) None c G u p h) bin F t q (all_there q.trail))

pub tell_adds : (what : Progress → Happening) → OnlyAdds (λ p. Going (tell (what p) p))
tell_adds what q = record { more = what q ∷ []; is = refl }
