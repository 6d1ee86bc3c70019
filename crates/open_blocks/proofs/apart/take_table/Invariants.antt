use Rattle.std.proofs.Common.{List, length}
use Rattle.std.specs.List.{All}
use Rattle.std.specs.Vec.Iter.{into_iter_items}
use Rattle.sub_types.specs.declared.kind.Ty.{Ty}
use Rattle.table_open.specs.Ready.{IsReady}
use Rattle.open_blocks.specs.Apart.{HasRoom}
use Rattle.open_blocks.proofs.TakenLaws.{TakenSoFar}
use Rattle.open_blocks.proofs.apart.take_table.Given as goal

-- the files so far, and what is so of those that are left
abbrev pub invariant-loop-file : goal.invariant-loop-file
invariant-loop-file g l = record {
  taken : TakenSoFar l.fn.table.items (into_iter_items l.file-iterator) l.initial.apart l.apart;
  room : HasRoom (length (into_iter_items l.file-iterator)) l.apart;
  ready : (types : List Ty) × All (IsReady g.R.Reader.bytes types) (into_iter_items l.file-iterator);
}
