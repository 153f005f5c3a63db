-- The names of the fields of a command, as its object spells them and a refusal prints them: ours.
use Rattle.std.specs.Prelude.{ℕ, List, codes}
use Rattle.mx_rule.specs.declared.edit.Part.{Part}
use Rattle.mx_rule.specs.declared.edit.Part.TheVariants as part
use Rattle.mx_records.specs.declared.field_name.FieldName.{FieldName}
use Rattle.mx_records.specs.declared.field_name.FieldName.TheVariants.{Cmd, EventEventId, EventRoomId, EventSender}
use Rattle.mx_records.specs.declared.field_name.FieldName.TheVariants.{EventKind, EventContent, EventStateKey, User}
use Rattle.mx_records.specs.declared.field_name.FieldName.TheVariants.{Kind, RuleId, Actions, Conditions, Pattern}
use Rattle.mx_records.specs.declared.field_name.FieldName.TheVariants.{Before, After, Enabled, RoomId, EventId}
use Rattle.mx_records.specs.declared.field_name.FieldName.TheVariants.{ReceiptKind, ThreadId, Pushkey, AppId}
use Rattle.mx_records.specs.declared.field_name.FieldName.TheVariants.{AppDisplayName, DeviceDisplayName, Lang, Data}
use Rattle.mx_records.specs.declared.field_name.FieldName.TheVariants.{DataUrl, DataFormat, Append, Ts, Threads, Units}

-- the name of a field, with a full stop between the names of an object and of its member
abbrev pub name_of : FieldName → List ℕ
name_of Cmd = codes "cmd"
name_of EventEventId = codes "event.event_id"
name_of EventRoomId = codes "event.room_id"
name_of EventSender = codes "event.sender"
name_of EventKind = codes "event.type"
name_of EventContent = codes "event.content"
name_of EventStateKey = codes "event.state_key"
name_of User = codes "user"
name_of Kind = codes "kind"
name_of RuleId = codes "rule_id"
name_of Actions = codes "actions"
name_of Conditions = codes "conditions"
name_of Pattern = codes "pattern"
name_of Before = codes "before"
name_of After = codes "after"
name_of Enabled = codes "enabled"
name_of RoomId = codes "room_id"
name_of EventId = codes "event_id"
name_of ReceiptKind = codes "type"
name_of ThreadId = codes "thread_id"
name_of Pushkey = codes "pushkey"
name_of AppId = codes "app_id"
name_of AppDisplayName = codes "app_display_name"
name_of DeviceDisplayName = codes "device_display_name"
name_of Lang = codes "lang"
name_of Data = codes "data"
name_of DataUrl = codes "data.url"
name_of DataFormat = codes "data.format"
name_of Append = codes "append"
name_of Ts = codes "ts"
name_of Threads = codes "threads"
name_of Units = codes "units"

-- the field of a command that a part of an edit stands in
abbrev pub field_of_part : Part → FieldName
field_of_part part.RuleId = RuleId
field_of_part part.Pattern = Pattern
field_of_part part.Conditions = Conditions
field_of_part part.Actions = Actions
