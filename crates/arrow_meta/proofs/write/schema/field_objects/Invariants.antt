use Rattle.std.proofs.Common.{◌≡◌, ◌++◌, drop}
use Rattle.std.specs.List.{All}
use Rattle.fb_bytes.specs.Object.{laid_each, IsSoundTable}
use Rattle.arrow_meta.specs.Messages.{fields_laid}
use Rattle.arrow_meta.proofs.write.schema.field_objects.Given as goal

abbrev pub invariant-loop-i : goal.invariant-loop-i
invariant-loop-i l = record {
  laid : laid_each l.objects.items ++ fields_laid (drop l.i l.names) (drop l.i l.types) ≡ fields_laid l.names l.types;
  sound : All IsSoundTable l.objects.items;
}
