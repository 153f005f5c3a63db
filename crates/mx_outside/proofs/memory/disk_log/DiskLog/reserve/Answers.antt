-- Memory is taken where there is none.
use Rattle.std.proofs.Common.{◌≡◌, length, arith}
use Rattle.mx_outside.specs.DiskLog.{logged_bytes}
use Rattle.mx_outside.proofs.Logged.{covered_fits, fits_covered}
use Rattle.mx_outside.proofs.memory.disk_log.DiskLog.reserve.Goals as goal

pub returns-in_err-reserve-clause-within : goal.returns-in_err-reserve-clause-within
returns-in_err-reserve-clause-within c =
    λ covers.
    let fits = covered_fits c.self.inside.calls.items c.self.inside.bytes.items _ _ c.args.count c.args.self.now
    c.self.view_is c.self.invariant (omega arith) covers in
    absurd (omega (arith, c.in_err-reserve.ensures.full))

pub returns-in_err-reserve-2-clause-within : goal.returns-in_err-reserve-2-clause-within
returns-in_err-reserve-2-clause-within c =
    λ covers.
    let fits = covered_fits c.self.inside.calls.items c.self.inside.bytes.items _ _ c.args.count c.args.self.now
    c.self.view_is c.self.invariant (omega arith) covers in
    absurd (omega (arith, c.in_err-reserve-2.ensures.full))

pub returns-clause-reserved : goal.returns-clause-reserved
returns-clause-reserved c =
    let calls = c.reserve.new.self.items in
    let bytes = c.reserve-2.new.self.items in
    let all : length bytes ≡ logged_bytes calls = rw (c.reserve.ensures.items, c.reserve-2.ensures.items)
    c.self.invariant in
    fits_covered calls bytes _ _ c.args.count all
    (record {
      bytes_fit = omega (arith, c.in_ok-reserve-2.ensures.ok);
      calls_fit = omega
          (arith, c.in_ok-reserve.ensures.ok);
    })
