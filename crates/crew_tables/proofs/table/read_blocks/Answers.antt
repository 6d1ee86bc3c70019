use Rattle.std.proofs.Common.{◌<◌, List, length, sym, subst, arith}
use Rattle.std.specs.List.{All}
use Rattle.sub_types.specs.Kind.{IsKind}
use Rattle.sub_types.specs.declared.kind.Ty.{Ty}
use Rattle.crew_tables.proofs.TableLaws.{kinds_in}
use Rattle.crew_tables.proofs.table.read_blocks.Goals as goal

pub invariant_of-rows : goal.invariant_of-rows
invariant_of-rows g c =
    let files = c.args.blocks.now.files in
    let some : 0 < length files.items = omega (arith, c.requires.some, files.ok.0) in
    record {
      count = c.requires.numbers;
      kinds = subst (λ (types : List Ty). All (λ (ty : Ty). IsKind ty.kind) types) (sym c.as_slice.ensures) (kinds_in c.args.read.now.types files.items some c.requires.kinds);
    }
