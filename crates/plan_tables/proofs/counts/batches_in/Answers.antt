use Rattle.std.proofs.Common.{◌≡◌, ◌∙◌, ℕ, List, IfOk, sym, ap, subst}
use Rattle.std.specs.List.{flat_map, sum_by}
use Rattle.plan_reads.specs.declared.reads.Origin.{Origin}
use Rattle.table_open.specs.Files.{TableFile}
use Rattle.plan_tables.specs.Open.{OpenTable, table_seen, open_seen}
use Rattle.plan_tables.specs.Tables.{batches_of, batches_in, files_in}
use Rattle.plan_tables.proofs.CountLaws.{sum_flat}
use Rattle.plan_tables.proofs.counts.batches_in.Goals as goal

pub returns-in-Named : goal.returns-in-Named
returns-in-Named g c =
    let bytes = g.R.Reader.bytes in
    let one = c.args.one.now in
    let blocks : TableFile → ℕ = λ file. file.blocks in
    let all : List (OpenTable g.row.R.Denot) → ℕ = λ tables. sum_by blocks (flat_map (table_seen bytes) tables) in
    let same : all c.deref.result.now ≡ batches_in (open_seen bytes one) =
    ap all c.deref.ensures.value ∙ sym (sum_flat blocks (table_seen bytes) one.tables.items)
    ∙ ap (λ (origin : Origin). batches_of origin (files_in (open_seen bytes one))) (sym c.in-Named.is) in
    subst (λ n. IfOk c.count_blocks.result (λ count. count ≡ n)) same c.count_blocks.ensures
