use Rattle.std.proofs.Common.{◌≡◌, drop}
use Rattle.resolver_fetch_scan.specs.Scan.{least, least_until}
use Rattle.resolver_fetch_scan.proofs.trail.least_until.Given as goal

-- The least so far, or of what is left, is that of all.
abbrev pub invariant-loop-tried : goal.invariant-loop-tried
invariant-loop-tried g l = least l.limit (least_until (drop l.tried-index l.trail)) ≡ least_until l.trail
