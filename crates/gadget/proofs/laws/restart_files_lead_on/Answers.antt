use Rattle.gadget.proofs.Leading.{runs_keep, resumed_keep}
use Rattle.gadget.proofs.LedEnd.{kept_lead_on}
use Rattle.gadget.proofs.laws.restart_files_lead_on.Goals as goal

pub returns : goal.returns
returns c = record { kept = runs_keep; resumed = resumed_keep; lead_on = kept_lead_on }
