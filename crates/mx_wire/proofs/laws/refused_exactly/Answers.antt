-- Each is refused exactly where no further bytes make one.
use Rattle.mx_wire.proofs.Fills.{size_line-exact, crlf-exact, trailer-exact}
use Rattle.mx_wire.proofs.laws.refused_exactly.Goals as goal

pub returns-clause-size_line : goal.returns-clause-size_line
returns-clause-size_line c = size_line-exact

pub returns-clause-crlf : goal.returns-clause-crlf
returns-clause-crlf c = crlf-exact

pub returns-clause-trailer : goal.returns-clause-trailer
returns-clause-trailer c = trailer-exact
