use Rattle.std.proofs.Common.{◌≡◌, pos, map}
use Rattle.std.specs.List.{range_with_len}
use Rattle.sub_types.specs.declared.value.Value.TheVariants as values
use Rattle.gen_data.specs.Rows.{order_of}
use Rattle.gen_data.specs.Checked.{whole_type}
use Rattle.gen_data.proofs.columns.oids.Given as goal

-- the values so far
abbrev pub invariant-loop-line : goal.invariant-loop-line
invariant-loop-line l = record {
  values : l.builder.values ≡ map (λ line. values.Int (pos (order_of l.fn.number line))) (range_with_len 0 l.line);
  ty : l.builder.ty ≡ whole_type;
}
