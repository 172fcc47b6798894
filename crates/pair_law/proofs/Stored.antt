-- Closures that answer by the opening rule and the forces of a gravity keep the fact of a law.
use Rattle.std.proofs.Common.{◌≡◌, ◌+◌, ◌-◌, ◌*◌, ◌^◌, ◌≤◌, Bool, true, ltb, ap, sym, subst, ◌∙◌, arith, ◌&&◌, ◌||◌, ◌⊎◌, inl, inr}
use Rattle.std.specs.Borrow.{Bor}
use Rattle.std.specs.Fn.{Shared, FnReturnsAtPair}
use Rattle.std.proofs.lemmas.Bool.{or_left, or_right}
use Rattle.fixed_point.specs.declared.V3.{V3}
use Rattle.fixed_point.specs.Vectors.{IsAtMost}
use Rattle.cell_space.specs.Cells.{InBox}
use Rattle.nbody_model.specs.Moments.{MomentsData}
use Rattle.nbody_model.specs.OpeningRule.{accept, side, square, way}
use Rattle.nbody_model.specs.PairForce.{pair}
use Rattle.nbody_model.specs.Setups.{SetupData}
use Rattle.nbody_model.specs.Tables.{Gravity}
use Rattle.model_laws.proofs.Fair.{square_turned}
use Rattle.pair_law.specs.Conditions.{is_final}
use Rattle.pair_law.specs.Laws.{AreApart, AreInOrder, Two, two, MayAct, IsLaw, AnswersBy, PairLaw, Answers}

accept_fair : (s : SetupData) (A B : MomentsData) → InBox A.centre → InBox B.centre → accept s A B ≡ accept s B A
unfolding accept
accept_fair s A B u v =
    let sides : side A + side B ≡ side B + side A = omega arith in
    let far : square (way A.centre B.centre) ≡ square (way B.centre A.centre) = square_turned A.centre B.centre u v in
    λ i. ltb (sides i * sides i * 65536) (s.theta * s.theta * far i)

less_small : (f : V3) → IsAtMost (2 ^ 86) f → IsAtMost (2 ^ 87 - 1) f
less_small f h = record { on_x = omega (arith, h.on_x); on_y = omega (arith, h.on_y); on_z = omega (arith, h.on_z) }

module _ {A F : Type 0} (asks : Shared A Two Bool) (pulls : Shared F Two V3) (accepts : A) (force : F) (g : Gravity) (by : AnswersBy asks pulls accepts force g) where
  accept_at : (A B : MomentsData) (r : Bool) → FnReturnsAtPair asks accepts A B r → r ≡ accept g.setup A B
  accept_at A B r h =
      by.accepts h.first h.second r h.says.met
      ∙ ap (λ m. accept g.setup m h.second.now) h.shows.0
      ∙ ap (λ m. accept g.setup A m) h.shows.1

  final_from : (A B : MomentsData) → MayAct asks accepts A B → is_final g.setup A B ≡ true
  final_from A B (inl e) = or_left (A.leaf && B.leaf) (accept g.setup A B) e
  final_from A B (inr h) = or_right (A.leaf && B.leaf) (accept g.setup A B) (sym (accept_at A B true h))

  pub law_from : IsLaw asks pulls accepts force
  law_from = record {
    may_ask = λ a b h. by.may_ask a b;
    one_answer = λ a b c d r s h e f u v. by.accepts a b r u ∙ ap (λ m. accept g.setup m b.now) e ∙ ap (λ m. accept g.setup c.now m) f ∙ sym (by.accepts c d s v);
    fair = λ a b c d r s h k e f u v. by.accepts a b r u ∙ accept_fair g.setup a.now b.now h k ∙ ap (λ m. accept g.setup m a.now) f ∙ ap (λ m. accept g.setup c.now m) e ∙ sym (by.accepts c d s v);
    may_pull = λ a b h k. by.may_pull a b h.apart.light (final_from a.now b.now k);
    one_force = λ a b c d f e h p q u v. by.forces a b f u ∙ ap (λ m. pair g m b.now) p ∙ ap (λ m. pair g c.now m) q ∙ sym (by.forces c d e v);
    small = λ a b f h u. less_small f (by.small a b f u);
  }

  pub answers_from : Answers asks pulls accepts force (record { accept = accept g.setup; force = pair g })
  answers_from = record {
    accepts = λ a b r h u. by.accepts a b r u;
    forces = λ a b f h u. by.forces a b f u;
    turned = λ A B h k. accept_fair g.setup A B h k;
  }
