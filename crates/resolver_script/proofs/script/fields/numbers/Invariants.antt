use Rattle.std.proofs.Common.{◌≡◌, map, take, true}
use Rattle.std.specs.List.{list_all}
use Rattle.std.specs.Str.Parse.{digits_value}
use Rattle.resolver_script.specs.Numbers.{is_number}
use Rattle.resolver_script.proofs.script.fields.numbers.Given as goal

abbrev pub invariant-loop-part : goal.invariant-loop-part
invariant-loop-part l = record {
  written : list_all (λ part. is_number part.now 255) (take l.part-index l.parts) ≡ true;
  read : l.numbers.items ≡ map (λ part. digits_value 10 part.now) (take l.part-index l.parts);
}
