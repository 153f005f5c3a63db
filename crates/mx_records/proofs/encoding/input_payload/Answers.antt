use Rattle.mx_records.proofs.PusherLemmas.{ts-in_range}
use Rattle.mx_records.proofs.encoding.input_payload.Goals as goal

pub pusher_value-requires : goal.pusher_value-requires
pusher_value-requires c = ts-in_range c.args.input.now c.in-Pusher.spec c.in-Pusher.is c.requires
