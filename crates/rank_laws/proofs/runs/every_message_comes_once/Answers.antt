use Rattle.rank_laws.proofs.Finished.{events_deliver, keeps_messages, messages_differ}
use Rattle.rank_laws.proofs.runs.every_message_comes_once.Goals as goal

pub returns : goal.returns
returns c = record { differ = messages_differ; kept = keeps_messages; delivered = events_deliver }
