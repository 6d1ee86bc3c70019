use Rattle.std.proofs.Common.{◌≡◌, ◌≤◌, ◌<◌, ◌++◌, map, All}
use Rattle.std.specs.List.{flat_map}
use Rattle.std.specs.Slice.Iter.{chunks_rest, chunks_size}
use Rattle.batch.specs.BatchRows.{rows_of, types_of}
use Rattle.batch_places.specs.BatchRow.{row_at}
use Rattle.batch_places.proofs.gather.gather_in_parts.Given as goal

-- the rows so far, and those at the places that are left
abbrev pub invariant-loop-part : goal.invariant-loop-part
invariant-loop-part l = record {
  next : goal.iterator-loop-part.can_next l.part-iterator;
  ends : goal.iterator-loop-part.is_finite l.part-iterator;
  rows : flat_map rows_of l.batches.items ++ map (row_at l.whole) (chunks_rest l.part-iterator) ≡ map (row_at l.fn.whole) l.fn.places;
  types : All (λ batch. types_of batch ≡ types_of l.fn.whole) l.batches.items;
  few : All (λ batch. batch.rows ≤ 65536) l.batches.items;
  number : All (λ batch. batch.number ≡ l.fn.whole.number) l.batches.items;
  within : All (λ i. i < l.whole.rows) (chunks_rest l.part-iterator);
  size : chunks_size l.part-iterator ≡ 65536;
}
