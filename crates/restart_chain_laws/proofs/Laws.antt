-- What a chain of runs keeps can be read, and a session from it goes on as the run that isn't stopped.
use Rattle.std.proofs.Common.{◌≡◌, false, true, List, None, sym, subst}
use Rattle.nbody_model.specs.Setups.{IsSetup}
use Rattle.nbody_model.specs.States.{StateData}
use Rattle.nbody_model.specs.Session.{Plan, Restart, session, kept}
use Rattle.model_laws.specs.Resumed.{GoesOn}
use Rattle.restart_files.specs.RestartFile.{Spell}
use Rattle.restart_laws.proofs.Laws.{found, good_spells, spelled_is}
use Rattle.restart_laws.proofs.Sessions.{IsFine, IsGoodFile, run_keeps}
use Rattle.chain_laws.specs.Chains.{Link, last_state}
use Rattle.chain_laws.proofs.Chains.{first_ready, chains_go_on}
use Rattle.restart_chain_laws.specs.ChainFiles.{IsChain, ChainFilesAreRead, ChainFilesGoOn}
use Rattle.restart_chain_laws.proofs.Kept.{StandsLast, resumed_keeps, last_stands}

pub chain_stands : (plan : Plan) (σ τ : StateData) (ls : List Link) → IsSetup plan.rules.gravity.setup → IsChain plan σ τ ls → StandsLast plan σ.bodies (last_state τ ls)
chain_stands plan σ τ ls h k =
    let s = plan.rules.gravity.setup in
    let f = k.first in
    last_stands plan σ.bodies h τ ls (record {
      fine = found (IsFine s σ.bodies) τ (session plan false k.stop σ).states (run_keeps plan k.stop σ f h).states k.begins;
      ready = first_ready plan k.stop σ τ f.start f.valid.ascending h k.begins;
    }) k.linked

pub are_read : ChainFilesAreRead
are_read plan stop σ τ ls k h n ρ w =
    let s = plan.rules.gravity.setup in
    let last = last_state τ ls in
    let stands = chain_stands plan σ τ ls h k in
    good_spells s σ.bodies ρ h k.first.valid (found (IsGoodFile s σ.bodies) (Restart n ρ) (session plan true stop (kept last)).written (resumed_keeps plan stop σ.bodies last h stands.fine stands.ready).files w)

pub go_on : ChainFilesGoOn
go_on plan bytes ρ t h spell σ τ ls k e =
    let s = plan.rules.gravity.setup in
    let last = last_state τ ls in
    let fine = (chain_stands plan σ τ ls h k).fine in
    let same : ρ ≡ kept last = spelled_is s σ.bodies last h k.first.valid fine ρ t (subst (λ b. Spell b ρ t) e spell) in
    subst (λ x. GoesOn (session plan false None σ) (session plan true None x)) (sym same)
    (chains_go_on plan k.stop σ τ ls k.first.start k.first.valid.ascending h k.begins k.linked)
