use Rattle.std.proofs.Common.{◌≡◌, ◌-◌, ◌++◌, length, take, drop}
use Rattle.fb_bytes.specs.Object.{parts_of, laid_each}
use Rattle.fb_bytes.proofs.BegunLemmas.{begun, vector_begun}
use Rattle.fb_bytes.proofs.write.+put.Given as goal

abbrev pub invariant-put_children-loop-field : goal.invariant-put_children-loop-field
invariant-put_children-loop-field l =
    l.out.items ≡ take l.start l.initial.out.items ++ begun (parts_of l.fields) (parts_of (take l.field-index l.fields)) (parts_of (drop l.field-index l.fields))

abbrev pub invariant-put_tables-loop-i : goal.invariant-put_tables-loop-i
invariant-put_tables-loop-i l =
    l.out.items ≡ take l.start l.initial.out.items ++ vector_begun (length l.objects) (laid_each (take l.i l.objects)) (length l.objects - l.i)
