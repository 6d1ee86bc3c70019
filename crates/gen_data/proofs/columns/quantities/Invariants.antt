use Rattle.std.proofs.Common.{◌≡◌, map}
use Rattle.std.specs.List.{range_with_len}
use Rattle.gen_data.specs.Rows.{quantity_of}
use Rattle.gen_data.specs.Checked.{whole_type}
use Rattle.gen_data.proofs.columns.quantities.Given as goal

-- the values so far
abbrev pub invariant-loop-line : goal.invariant-loop-line
invariant-loop-line l = record {
  values : l.builder.values ≡ map (quantity_of) (range_with_len 0 l.line);
  ty : l.builder.ty ≡ whole_type;
}
