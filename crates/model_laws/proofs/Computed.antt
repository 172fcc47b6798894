-- The worked cases, computed.
use Rattle.std.proofs.Common.{refl}
use Rattle.std.specs.Fmt.{digits}
use Rattle.fixed_point.specs.Fixed.{root, with_digits}
use Rattle.cell_space.specs.Cells.{digit}
use Rattle.nbody_model.specs.Nodes.{is_leaf, is_node}
use Rattle.nbody_model.specs.Moments.{moments}
use Rattle.nbody_model.specs.OpeningRule.{accept}
use Rattle.nbody_model.specs.Correction.{mean, correction}
use Rattle.nbody_model.specs.PairForce.{pair}
use Rattle.nbody_model.specs.Covers.{chain_apart, chain_same, chain, cover, interactions}
use Rattle.nbody_model.specs.Walks.{visits_apart, visits_same, visits, found}
use Rattle.nbody_model.specs.Force.{pair_force, force_on, node_total, small_share, share, force_at, forces}
use Rattle.nbody_model.specs.Factors.{factor}
use Rattle.nbody_model.specs.Steps.{fast, change}
use Rattle.nbody_model.specs.Evolve.{kick, between, close, step_by, evolve}
use Rattle.nbody_model.specs.Continue.{round, continue}
use Rattle.nbody_model.specs.Session.{synchronised, base_step, session_from, session}
use Rattle.nbody_model.specs.RestartText.{restart_text}
use Rattle.model_laws.specs.Worked.{ForcesOfTwo, ForcesAcross, ForcesAtHalf, ForcesOfLeaf, ForcesOpened, AcceptedAndNot, SharesOfMinusSeven, Corrections, FitsAtEdge, OneStep, ByFactors, TwoBins, TwoBinsAsked, StepRefused, MomentumRefused, StoppedInside, ResumedInside, FourSteps, TextsOfNothing, BinsText}

pub forces_of_two : ForcesOfTwo
unfolding session session_from base_step synchronised continue round evolve step_by between close kick fast change factor forces force_at node_total force_on pair_force share small_share pair correction mean interactions cover chain chain_same chain_apart found visits visits_same visits_apart is_node digit is_leaf accept moments root with_digits digits restart_text lib.Count.count_trailing_zeros
forces_of_two = refl

pub forces_across : ForcesAcross
unfolding session session_from base_step synchronised continue round evolve step_by between close kick fast change factor forces force_at node_total force_on pair_force share small_share pair correction mean interactions cover chain chain_same chain_apart found visits visits_same visits_apart is_node digit is_leaf accept moments root with_digits digits restart_text lib.Count.count_trailing_zeros
forces_across = refl

pub forces_at_half : ForcesAtHalf
unfolding session session_from base_step synchronised continue round evolve step_by between close kick fast change factor forces force_at node_total force_on pair_force share small_share pair correction mean interactions cover chain chain_same chain_apart found visits visits_same visits_apart is_node digit is_leaf accept moments root with_digits digits restart_text lib.Count.count_trailing_zeros
forces_at_half = refl

pub forces_of_leaf : ForcesOfLeaf
unfolding session session_from base_step synchronised continue round evolve step_by between close kick fast change factor forces force_at node_total force_on pair_force share small_share pair correction mean interactions cover chain chain_same chain_apart found visits visits_same visits_apart is_node digit is_leaf accept moments root with_digits digits restart_text lib.Count.count_trailing_zeros
forces_of_leaf = refl

pub forces_opened : ForcesOpened
unfolding session session_from base_step synchronised continue round evolve step_by between close kick fast change factor forces force_at node_total force_on pair_force share small_share pair correction mean interactions cover chain chain_same chain_apart found visits visits_same visits_apart is_node digit is_leaf accept moments root with_digits digits restart_text lib.Count.count_trailing_zeros
forces_opened = refl

pub accepted_and_not : AcceptedAndNot
unfolding session session_from base_step synchronised continue round evolve step_by between close kick fast change factor forces force_at node_total force_on pair_force share small_share pair correction mean interactions cover chain chain_same chain_apart found visits visits_same visits_apart is_node digit is_leaf accept moments root with_digits digits restart_text lib.Count.count_trailing_zeros
accepted_and_not = refl

pub shares_of_minus_seven : SharesOfMinusSeven
unfolding session session_from base_step synchronised continue round evolve step_by between close kick fast change factor forces force_at node_total force_on pair_force share small_share pair correction mean interactions cover chain chain_same chain_apart found visits visits_same visits_apart is_node digit is_leaf accept moments root with_digits digits restart_text lib.Count.count_trailing_zeros
shares_of_minus_seven = refl

pub corrections : Corrections
unfolding session session_from base_step synchronised continue round evolve step_by between close kick fast change factor forces force_at node_total force_on pair_force share small_share pair correction mean interactions cover chain chain_same chain_apart found visits visits_same visits_apart is_node digit is_leaf accept moments root with_digits digits restart_text lib.Count.count_trailing_zeros
corrections = refl

pub fits_at_edge : FitsAtEdge
unfolding session session_from base_step synchronised continue round evolve step_by between close kick fast change factor forces force_at node_total force_on pair_force share small_share pair correction mean interactions cover chain chain_same chain_apart found visits visits_same visits_apart is_node digit is_leaf accept moments root with_digits digits restart_text lib.Count.count_trailing_zeros
fits_at_edge = refl

pub one_step : OneStep
unfolding session session_from base_step synchronised continue round evolve step_by between close kick fast change factor forces force_at node_total force_on pair_force share small_share pair correction mean interactions cover chain chain_same chain_apart found visits visits_same visits_apart is_node digit is_leaf accept moments root with_digits digits restart_text lib.Count.count_trailing_zeros
one_step = (refl, refl)

pub by_factors : ByFactors
unfolding session session_from base_step synchronised continue round evolve step_by between close kick fast change factor forces force_at node_total force_on pair_force share small_share pair correction mean interactions cover chain chain_same chain_apart found visits visits_same visits_apart is_node digit is_leaf accept moments root with_digits digits restart_text lib.Count.count_trailing_zeros
by_factors = (refl, refl)

pub two_bins : TwoBins
unfolding session session_from base_step synchronised continue round evolve step_by between close kick fast change factor forces force_at node_total force_on pair_force share small_share pair correction mean interactions cover chain chain_same chain_apart found visits visits_same visits_apart is_node digit is_leaf accept moments root with_digits digits restart_text lib.Count.count_trailing_zeros
two_bins = (refl, refl)

pub two_bins_asked : TwoBinsAsked
unfolding session session_from base_step synchronised continue round evolve step_by between close kick fast change factor forces force_at node_total force_on pair_force share small_share pair correction mean interactions cover chain chain_same chain_apart found visits visits_same visits_apart is_node digit is_leaf accept moments root with_digits digits restart_text lib.Count.count_trailing_zeros
two_bins_asked = (refl, refl)

pub step_refused : StepRefused
unfolding session session_from base_step synchronised continue round evolve step_by between close kick fast change factor forces force_at node_total force_on pair_force share small_share pair correction mean interactions cover chain chain_same chain_apart found visits visits_same visits_apart is_node digit is_leaf accept moments root with_digits digits restart_text lib.Count.count_trailing_zeros
step_refused = (refl, refl)

pub momentum_refused : MomentumRefused
unfolding session session_from base_step synchronised continue round evolve step_by between close kick fast change factor forces force_at node_total force_on pair_force share small_share pair correction mean interactions cover chain chain_same chain_apart found visits visits_same visits_apart is_node digit is_leaf accept moments root with_digits digits restart_text lib.Count.count_trailing_zeros
momentum_refused = (refl, refl, refl)

pub stopped_inside : StoppedInside
unfolding session session_from base_step synchronised continue round evolve step_by between close kick fast change factor forces force_at node_total force_on pair_force share small_share pair correction mean interactions cover chain chain_same chain_apart found visits visits_same visits_apart is_node digit is_leaf accept moments root with_digits digits restart_text lib.Count.count_trailing_zeros
stopped_inside = (refl, refl, refl, refl, refl, refl)

pub resumed_inside : ResumedInside
unfolding session session_from base_step synchronised continue round evolve step_by between close kick fast change factor forces force_at node_total force_on pair_force share small_share pair correction mean interactions cover chain chain_same chain_apart found visits visits_same visits_apart is_node digit is_leaf accept moments root with_digits digits restart_text lib.Count.count_trailing_zeros
resumed_inside = (refl, refl, refl)

pub four_steps : FourSteps
unfolding session session_from base_step synchronised continue round evolve step_by between close kick fast change factor forces force_at node_total force_on pair_force share small_share pair correction mean interactions cover chain chain_same chain_apart found visits visits_same visits_apart is_node digit is_leaf accept moments root with_digits digits restart_text lib.Count.count_trailing_zeros
four_steps = (refl, refl, refl, refl, refl)

pub texts_of_nothing : TextsOfNothing
unfolding session session_from base_step synchronised continue round evolve step_by between close kick fast change factor forces force_at node_total force_on pair_force share small_share pair correction mean interactions cover chain chain_same chain_apart found visits visits_same visits_apart is_node digit is_leaf accept moments root with_digits digits restart_text lib.Count.count_trailing_zeros
texts_of_nothing = (refl, refl, refl)

pub bins_text : BinsText
unfolding session session_from base_step synchronised continue round evolve step_by between close kick fast change factor forces force_at node_total force_on pair_force share small_share pair correction mean interactions cover chain chain_same chain_apart found visits visits_same visits_apart is_node digit is_leaf accept moments root with_digits digits restart_text lib.Count.count_trailing_zeros
bins_text = refl
