use Rattle.std.proofs.lemmas.Nat.{from_be_bytes-to_be_bytes_8}
use Rattle.resolver_names.proofs.Comparing.{eight_rise}
use Rattle.resolver_names.proofs.laws.eight_bytes_are_a_number.Goals as goal

pub returns-clause-back : goal.returns-clause-back
returns-clause-back c = from_be_bytes-to_be_bytes_8 c.args.one c.ranges.one.fits

pub returns-clause-order : goal.returns-clause-order
returns-clause-order c = eight_rise c.args.one c.args.other c.ranges.one.fits c.ranges.other.fits
