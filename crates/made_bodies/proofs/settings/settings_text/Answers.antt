use Rattle.std.proofs.Common.{ℕ, List, ◌++◌, codes, ap, ◌∙◌}
use Rattle.made_bodies.specs.Settings.{named_line, numbers_text, settings_text}
use Rattle.made_bodies.proofs.Joins.{join_six}
use Rattle.made_bodies.proofs.settings.settings_text.Goals as goal

pub returns : goal.returns
unfolding settings_text numbers_text
returns c =
    let name = c.args.name.now in
    join_six (named_line (codes "InitCondFile ") name (codes ".ics\n")) (named_line (codes "SnapshotFileBase ") name (codes "_out\n"))
    (named_line (codes "RestartFileBase ") name (codes "_restart\n")) (named_line (codes "KickFile ") name (codes ".kicks\n"))
    (named_line (codes "RankTraceFile ") name (codes ".trace\n")) numbers_text
    _ _ _ _ _ _
    (c.in_ok-push_name.ensures ∙ ap (λ (l : List ℕ). l ++ named_line (codes "InitCondFile ") name (codes ".ics\n")) c.new-out.ensures.items)
    c.in_ok-push_name-2.ensures c.in_ok-push_name-3.ensures c.in_ok-push_name-4.ensures c.in_ok-push_name-5.ensures c.in_ok-extend_from_slice.ensures.items
