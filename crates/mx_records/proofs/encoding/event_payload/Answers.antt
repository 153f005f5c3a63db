use Rattle.std.proofs.Common.{rules}
use Rattle.mx_records.proofs.EntryLemmas.{event-written}
use Rattle.mx_records.proofs.encoding.event_payload.Goals as goal

pub returns : goal.returns
returns c =
    event-written c.args.event.now c.extend_from_slice.new.self.items c.canonical_into.new.out.items _ (search rules)
    (search rules) (search rules)
