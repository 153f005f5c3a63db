use Rattle.mx_engine.proofs.UnreadLemmas.{are_unread_rows, users-none}
use Rattle.mx_engine.proofs.kept_rows.UnreadRows.new.Goals as goal

pub returns-clause-kept : goal.returns-clause-kept
returns-clause-kept g c =
    are_unread_rows c.new.result.entries
    (users-none c.new.result.entries c.new.ensures.unique c.new.ensures.empty)
