-- Eight digits fit 32 bits.
use Rattle.std.proofs.Common.{arith}
use Rattle.mx_wire.proofs.Sizes.{digits_fit}
use Rattle.mx_wire.proofs.coding.one_more.Goals as goal

pub overflow_mul-result : goal.overflow_mul-result
overflow_mul-result c =
    omega (
      arith,
      digits_fit c.args.size.digits c.args.size.value c.args.digit c.requires.few c.args.size.fits
          c.requires.digit,
    )

pub overflow_add-result-2 : goal.overflow_add-result-2
overflow_add-result-2 c =
    omega (
      arith,
      digits_fit c.args.size.digits c.args.size.value c.args.digit c.requires.few c.args.size.fits
          c.requires.digit,
    )
