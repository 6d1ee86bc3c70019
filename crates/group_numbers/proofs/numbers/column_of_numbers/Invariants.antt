use Rattle.std.proofs.Common.{◌≡◌, map, take}
use Rattle.sub_types.specs.Nullable.{int_value}
use Rattle.sub_types.specs.declared.kind.Kind.TheVariants as kinds
use Rattle.group_numbers.proofs.numbers.column_of_numbers.Given as goal

-- the values so far
abbrev pub invariant-loop-number : goal.invariant-loop-number
invariant-loop-number l = record {
  values : l.builder.values ≡ map int_value (take l.number-index l.numbers);
  kind : l.builder.ty.kind ≡ kinds.I64;
}
