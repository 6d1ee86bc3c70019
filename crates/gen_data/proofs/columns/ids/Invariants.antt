use Rattle.std.proofs.Common.{◌≡◌, pos, map}
use Rattle.std.specs.List.{range_with_len}
use Rattle.sub_types.specs.declared.value.Value.TheVariants as values
use Rattle.gen_data.specs.Checked.{whole_type}
use Rattle.gen_data.proofs.columns.ids.Given as goal

-- the values so far
abbrev pub invariant-loop-order : goal.invariant-loop-order
invariant-loop-order l = record {
  values : l.builder.values ≡ map (λ order. values.Int (pos order)) (range_with_len 0 l.order);
  ty : l.builder.ty ≡ whole_type;
}
