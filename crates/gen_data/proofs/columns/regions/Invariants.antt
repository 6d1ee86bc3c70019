use Rattle.std.proofs.Common.{◌≡◌, map}
use Rattle.std.specs.List.{range_with_len}
use Rattle.sub_types.specs.declared.value.Value.TheVariants as values
use Rattle.gen_data.specs.Rows.{region_of}
use Rattle.gen_data.specs.Checked.{text_type}
use Rattle.gen_data.proofs.columns.regions.Given as goal

-- the values so far
abbrev pub invariant-loop-order : goal.invariant-loop-order
invariant-loop-order l = record {
  values : l.builder.values ≡ map (λ order. values.Bytes (region_of order)) (range_with_len 0 l.order);
  ty : l.builder.ty ≡ text_type;
}
