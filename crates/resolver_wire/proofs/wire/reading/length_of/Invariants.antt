use Rattle.std.proofs.Common.{◌≡◌, ◌-◌, ◌^◌, ◌<◌, ◌≤◌, ltb, length, drop}
use Rattle.resolver_wire.specs.Reading.{varint_at}
use Rattle.resolver_wire.proofs.Groups.{completed}
use Rattle.resolver_wire.proofs.wire.reading.length_of.Given as goal

abbrev pub invariant-loop-place : goal.invariant-loop-place
invariant-loop-place l = record {
  few : l.place ≤ 4;
  within : l.place ≤ length l.bytes;
  worth : l.worth ≡ 128 ^ l.place;
  low : l.length < l.worth;
  so_far : completed (ltb 0 l.place) l.length l.worth (varint_at (4 - l.place) (drop l.place l.bytes)) ≡ varint_at 4 l.bytes;
}
