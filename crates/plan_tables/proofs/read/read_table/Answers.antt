use Rattle.std.proofs.Common.{List, All, sym, subst}
use Rattle.std.specs.List.{flat_map}
use Rattle.sub_types.specs.declared.kind.Ty.{Ty}
use Rattle.table_rows.specs.Blocks.{HoldsTypes}
use Rattle.plan_tables.specs.declared.open.OpenRead.{OpenRead}
use Rattle.plan_tables.specs.declared.read.TableEnd.TheVariants.{Whole, Faulty}
use Rattle.plan_tables.specs.Open.{table_seen}
use Rattle.plan_tables.specs.Read.{HasRead, IsReadOf}
use Rattle.plan_tables.proofs.ReadLaws.{whole_read, faulty_read}
use Rattle.plan_tables.proofs.read.read_table.Goals as goal

pub returns-in-Whole-clause-read : goal.returns-in-Whole-clause-read
returns-in-Whole-clause-read g c =
    let bytes = g.F.R.Reader.bytes in
    let one : OpenRead g.row.F-R.Denot = record { read = c.args.read.now; tables = c.args.opened } in
    let batches = c.read_parts.new.batches.items in
    let files = flat_map (table_seen bytes) c.args.opened.items in
    subst (IsReadOf bytes one) (sym c.table_of.ensures)
    (whole_read bytes one batches
    (λ told. subst (λ (types : List Ty). HasRead one.read.relation types files batches Whole) c.as_slice.ensures (c.in-Whole.ensures.read told))
    (subst (λ (types : List Ty). All (HoldsTypes types) batches) c.as_slice.ensures c.read_parts.ensures.typed))

pub returns-in-Faulty-clause-read : goal.returns-in-Faulty-clause-read
returns-in-Faulty-clause-read g c =
    let bytes = g.F.R.Reader.bytes in
    let one : OpenRead g.row.F-R.Denot = record { read = c.args.read.now; tables = c.args.opened } in
    let batches = c.read_parts.new.batches.items in
    let files = flat_map (table_seen bytes) c.args.opened.items in
    let fault = c.in-Faulty.fault in
    subst (IsReadOf bytes one) (sym c.table_of-in-Faulty.ensures)
    (faulty_read bytes one batches fault
    (λ told. subst (λ (types : List Ty). HasRead one.read.relation types files batches (Faulty fault)) c.as_slice.ensures (c.in-Faulty.ensures.read told))
    (subst (λ (types : List Ty). All (HoldsTypes types) batches) c.as_slice.ensures c.read_parts.ensures.typed) c.in-Faulty.ensures.faults)
