-- How often a field was seen among those that were looked at: ours.
use Rattle.std.specs.Prelude.{ℕ, List}
use Rattle.httparse.specs.Spans.{span_bytes, IsWithin}
use Rattle.mx_wire.specs.Heads.{Once}
use Rattle.mx_wire.specs.Heads.Once.{absent, one, repeated}
use Rattle.mx_wire.specs.declared.head.Seen.{Seen}
use Rattle.mx_wire.specs.declared.head.Seen.TheVariants as seen

-- How often it was seen, with its value in this block.
abbrev pub seen_of : List ℕ → Seen → Once
seen_of block seen.Never = absent
seen_of block (seen.Once span) = one (span_bytes block span)
seen_of block seen.Repeatedly = repeated

-- The value lies within so many bytes.
abbrev pub IsSeenWithin : ℕ → Seen → Type 0
IsSeenWithin n seen.Never = Unit {0}
IsSeenWithin n (seen.Once span) = IsWithin n span
IsSeenWithin n seen.Repeatedly = Unit {0}
