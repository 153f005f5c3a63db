use Rattle.std.proofs.Common.{◌++◌, ap, sym, arith}
use Rattle.std.proofs.lemmas.Str.{encode_ascii}
use Rattle.std.specs.String.{string_bytes}
use Rattle.mx_json.specs.Path.{in_front}
use Rattle.mx_json.proofs.PathLemmas.{take_stop, take_backslash, take_other, is_escapable_other}
use Rattle.mx_json.proofs.path.PathReader.take_plain.Goals as goal

pub returns-in_ok-end_segment-in-46 : goal.returns-in_ok-end_segment-in-46
returns-in_ok-end_segment-in-46 c = λ rest.
    let ended = c.in_ok-end_segment-in-46.ensures in
    rw (ended.ended, ended.emptied, ended.waits, c.requires, c.in-46.is, encode_ascii 46 (omega arith))
    (take_stop _ _ rest)

pub returns-in-92 : goal.returns-in-92
returns-in-92 c = λ rest.
    rw (c.requires, c.in-92.is, encode_ascii 92 (omega arith))
    (ap (λ s. c.args.self.now.ended ++ in_front (string_bytes c.args.self.now.segment) s) (sym (take_backslash rest)))

pub returns-in_ok-push-in_default : goal.returns-in_ok-push-in_default
returns-in_ok-push-in_default c = λ rest.
    rw (c.in_ok-push-in_default.ensures.bytes, c.requires) (ap (λ s. c.args.self.now.ended ++ s)
    (take_other _ rest c.args.c (is_escapable_other c.args.c (λ is. omega arith) (λ is. omega arith))))
