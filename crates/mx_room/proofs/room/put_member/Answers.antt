use Rattle.std.proofs.Common.{Some}
use Rattle.std.specs.String.{string_bytes}
use Rattle.std.proofs.lemmas.Map.Text.{hash_map_updates_text}
use Rattle.mx_room.proofs.KeptLemmas.{by_text-put}
use Rattle.mx_room.proofs.room.put_member.Goals as goal

pub returns : goal.returns
returns c =
    by_text-put c.args.members.now.entries c.insert.new.self.entries (string_bytes c.args.user) c.args.member
    (hash_map_updates_text (string_bytes c.args.user) c.args.members.now c.insert.new.self (Some c.args.member)
    c.in-Ok.ensures.updates)
