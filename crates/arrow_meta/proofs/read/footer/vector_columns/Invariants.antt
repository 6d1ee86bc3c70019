use Rattle.std.proofs.Common.{◌≡◌, IsOk, vec_len}
use Rattle.std.specs.List.{All}
use Rattle.arrow_meta.specs.Known.{IsShape}
use Rattle.sub_types.specs.ResultSteps.{◌>>=◌}
use Rattle.arrow_meta.specs.Footer.{field_at, columns_from}
use Rattle.arrow_meta.specs.Seen.{columns_of, items_of}
use Rattle.arrow_meta.proofs.CollectLaws.{rest_of, prefixed}
use Rattle.arrow_meta.proofs.read.footer.vector_columns.Given as goal

-- the columns so far and those of the fields that are left are all columns
abbrev pub invariant-loop-i : goal.invariant-loop-i
invariant-loop-i l = record {
  readable : IsOk (rest_of (field_at l.fields) l.fields.count l.i);
  columns : prefixed l.columns.items (rest_of (field_at l.fields) l.fields.count l.i >>= columns_from l.i) ≡ columns_of (items_of l.fields);
  shapes : All (λ field. IsShape field.shape) l.columns.items;
  count : vec_len l.columns ≡ l.i;
}
