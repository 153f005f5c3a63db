use Rattle.std.proofs.Common.{◌≡◌, ℕ, ◌+◌, ◌-◌, ◌*◌, ◌<◌, ◌≤◌, ◌^◌, List, ◌∷◌, drop, length, get_or, sym, subst, ap}
use Rattle.std.proofs.Common.{◌∙◌, arith, length-drop}
use Rattle.mx_blocks.specs.Differences.{differences, IsFirstBelow, IsPacked, with_low}
use Rattle.mx_blocks.proofs.DifferenceLemmas.{differences-last, drop_at, differences-more, first_is_below}
use Rattle.mx_blocks.proofs.DifferenceLemmas.{IsFirstBelow-higher, IsPacked-tail, more_follows}
use Rattle.mx_blocks.proofs.difference.+read_difference.Goals as goal

pub returns-then-byte-lt128-clause-packed : goal.returns-then-byte-lt128-clause-packed
returns-then-byte-lt128-clause-packed t c =
    let bytes = c.args.bytes.now in
    let here = drop_at bytes c.args.at c.requires.some in
    IsPacked-tail (get_or bytes c.args.at 0) _ (subst IsPacked here c.requires.packed)

pub returns-then-byte-lt128-clause-reads : goal.returns-then-byte-lt128-clause-reads
returns-then-byte-lt128-clause-reads t c =
    let bytes = c.args.bytes.now in
    ap differences (drop_at bytes c.args.at c.requires.some)
    ∙ differences-last _ _ c.if-byte-lt128.true
    ∙ ap (λ n. n ∷ differences (drop (c.args.at + 1) bytes)) (sym c.from.ensures)

pub read_difference-higher-requires : goal.read_difference-higher-requires
read_difference-higher-requires t c =
    let bytes = c.args.bytes.now in
    let here = drop_at bytes c.args.at c.requires.some in
    let packed = subst IsPacked here c.requires.packed in
    let more = more_follows (get_or bytes c.args.at 0) _ packed c.if-byte-lt128.false in
    let long = length-drop (c.args.at + 1) bytes in (
      omega arith,
      (
        IsPacked-tail (get_or bytes c.args.at 0) _ packed,
        (
          omega arith,
          IsFirstBelow-higher (get_or bytes c.args.at 0) (2 ^ 64) _ c.if-byte-lt128.false
              (subst (λ l. IsFirstBelow (2 ^ 64) (differences l)) here c.requires.small),
        ),
      ),
    )

-- the number fits, as the definition bounds it
fits : (bytes : List ℕ) (at higher : ℕ) (more : List ℕ) → at < length bytes → 128 ≤ get_or bytes at 0
    → IsFirstBelow (2 ^ 64) (differences (drop at bytes)) → differences (drop (at + 1) bytes) ≡ higher ∷ more
    → get_or bytes at 0 - 128 + 128 * higher < 2 ^ 64
fits bytes at higher more within large small reads =
    first_is_below (get_or bytes at 0) (2 ^ 64) higher (drop (at + 1) bytes) more large reads
    (subst (λ l. IsFirstBelow (2 ^ 64) (differences l)) (drop_at bytes at within) small)

pub overflow_mul-result : goal.overflow_mul-result
overflow_mul-result t c =
    let sum = fits c.args.bytes.now c.args.at c.read_difference-higher.result.0 _ c.requires.some c.if-byte-lt128.false
    c.requires.small c.read_difference-higher.ensures.reads in
    omega arith

pub overflow_add-result-2 : goal.overflow_add-result-2
overflow_add-result-2 t c =
    let sum = fits c.args.bytes.now c.args.at c.read_difference-higher.result.0 _ c.requires.some c.if-byte-lt128.false
    c.requires.small c.read_difference-higher.ensures.reads in
    omega arith

pub returns-clause-reads : goal.returns-clause-reads
returns-clause-reads t c =
    let bytes = c.args.bytes.now in
    ap differences (drop_at bytes c.args.at c.requires.some)
    ∙ differences-more (get_or bytes c.args.at 0) (drop (c.args.at + 1) bytes) c.if-byte-lt128.false
    ∙ ap (with_low (get_or bytes c.args.at 0 - 128)) c.read_difference-higher.ensures.reads
    ∙ ap (λ n. (n + 128 * c.read_difference-higher.result.0) ∷ differences
    (drop c.read_difference-higher.result.1 bytes))
    (sym c.from-2.ensures)
