use Rattle.std.specs.Vec.Iter.{into_iter_items}
use Rattle.set_rels.proofs.TypedLaws.{IsTyping}
use Rattle.set_rels.proofs.typed.typed_columns.Given as goal

abbrev pub invariant-loop-column : goal.invariant-loop-column
invariant-loop-column l = IsTyping l.types l.fn.columns.items l.typed.items (into_iter_items l.column-iterator)
