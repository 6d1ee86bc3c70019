use Rattle.std.proofs.Common.{ap}
use Rattle.std.specs.Option.{option_map_or}
use Rattle.plan_scan.specs.declared.shape.Shape.TheVariants as s
use Rattle.plan_raw.specs.declared.source.RawSource.TheVariants as source
use Rattle.plan_parts.proofs.ReaderLaws.{read_part}
use Rattle.plan_rels.proofs.read.source_in.Goals as goal

pub returns-in_ok-virtual_table-in-Some : goal.returns-in_ok-virtual_table-in-Some
returns-in_ok-virtual_table-in-Some g c =
    let found = read_part c.args.won.now c.in_ok-merged-in-5.field-0 c.in-Some.found s.VirtualTable 5 c.in_ok-virtual_table-in-Some.field-0
    c.in-Some.is c.in_ok-merged-in-5.ensures.bytes c.in_ok-merged-in-5.ensures.below c.message.ensures c.in_ok-virtual_table-in-Some.ensures in
    rw c.in-5.is (ap (λ o. option_map_or source.VirtualTable o source.Missing) found)
