use Rattle.std.proofs.Common.{◌≡◌, ◌++◌, Some, None, ◌∷◌, arith, sym, ap, ◌∙◌}
use Rattle.std.proofs.lemmas.Str.Pattern.{strip_prefix_char, strip_suffix_char}
use Rattle.mx_json.proofs.IdLemmas.{local_user-parts, remote_end}
use Rattle.mx_json.proofs.user_id.part_before.Goals as goal

pub returns-in_err-strip_prefix : goal.returns-in_err-strip_prefix
returns-in_err-strip_prefix c =
    let sigil = strip_prefix_char 64 c.args.id.now None c.in_err-strip_prefix.ensures.cases (omega arith) in
    rw c.from_residual.ensures (λ part is. sigil (part ++ 58 ∷ c.args.server.now) is)

pub returns-in_err-strip_suffix : goal.returns-in_err-strip_suffix
returns-in_err-strip_suffix c =
    let sigil = strip_prefix_char 64 c.args.id.now
    (Some c.in_ok-strip_prefix.field-0) c.in_ok-strip_prefix.ensures.cases (omega arith) in
    rw c.from_residual-in_err-strip_suffix.ensures (remote_end c.args.server.now c.args.id.now
    c.in_ok-strip_prefix.field-0.now sigil c.in_err-strip_suffix.ensures.cases)

pub returns : goal.returns
returns c =
    let sigil = strip_prefix_char 64 c.args.id.now
    (Some c.in_ok-strip_prefix.field-0) c.in_ok-strip_prefix.ensures.cases (omega arith) in
    let x = c.in_ok-strip_prefix.field-0.now in
    let y = c.in_ok-strip_suffix.field-0.now in
    let found = c.in_ok-strip_suffix.ensures.cases in
    let ends : x ≡ y ++ c.args.server.now = found.1.1 ∙ ap (λ w. w ++ c.args.server.now) (sym found.2) in
    local_user-parts c.args.server.now c.args.id.now x y c.strip_suffix-2.result sigil ends
    (strip_suffix_char 58 y c.strip_suffix-2.result c.strip_suffix-2.ensures.cases (omega arith))
