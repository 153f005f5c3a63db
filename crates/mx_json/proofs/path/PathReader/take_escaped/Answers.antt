use Rattle.std.proofs.Common.{◌≡◌, ◌++◌, true, false, ap, sym, arith}
use Rattle.std.proofs.lemmas.Str.{encode_ascii}
use Rattle.mx_json.specs.Path.{is_escapable}
use Rattle.mx_json.proofs.PathLemmas.{take_escaped, take_after_backslash, small_from_escapable}
use Rattle.mx_json.proofs.path.PathReader.take_escaped.Goals as goal
use Rattle.mx_json.proofs.path.PathReader.take_escaped.Goals.{then-not-is_escapable+in_ok-push, else-not-is_escapable}

pub returns : goal.returns
returns c = λ rest. elim c.if-not-is_escapable.branch [
  | then-not-is_escapable+in_ok-push w ↦
      let plain : is_escapable c.args.c ≡ false = sym w.if-not-is_escapable.ensures in
      rw (
        c.in_ok-push-2.ensures.bytes,
        w.self-is,
        w.in_ok-push.ensures.bytes,
        c.requires,
        encode_ascii 92 (omega arith),
      ) (ap (λ s. c.args.self.now.ended ++ s) (take_after_backslash _ rest c.args.c plain))
  | else-not-is_escapable w ↦
      let escapable : is_escapable c.args.c ≡ true = sym w.if-not-is_escapable.ensures in
      rw (
        c.in_ok-push-2.ensures.bytes,
        w.self-is,
        c.requires,
        encode_ascii c.args.c (small_from_escapable c.args.c escapable),
      ) (ap (λ s. c.args.self.now.ended ++ s) (take_escaped _ rest c.args.c escapable))
]
