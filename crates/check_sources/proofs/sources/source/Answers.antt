-- A source is checked by its member.
use Rattle.std.proofs.Common.{ap, refl, ◌∙◌}
use Rattle.plan_raw.specs.declared.source.RawSource.{RawSource-F}
use Rattle.plan_verdict.specs.declared.rule.Rule.TheVariants as rules
use Rattle.plan_verdict.specs.Verdict.{checked_source, checked_table}
use Rattle.plan_verdict.proofs.FoldLaws.{checked_source-Missing, checked_source-VirtualTable, checked_source-LocalFiles, checked_source-NamedTable}
use Rattle.check_exprs.proofs.LevelLaws.{refused_comes}
use Rattle.check_sources.proofs.SourceLaws.{source_comes}
use Rattle.check_sources.proofs.sources.source.Goals as goal

pub returns-in-Missing : goal.returns-in-Missing
returns-in-Missing g c =
    let terms = c.args.terms.now in
    source_comes terms c.args.written.now RawSource-F.«RawSource::Missing» c.args.number c.args.types.now c.args.progress _ (ap (checked_source terms) c.in-Missing.is ∙ checked_source-Missing terms)
    (refused_comes c.args.number rules.MissingField c.refuse.result _ c.refuse.ensures refl)

pub returns-in-VirtualTable : goal.returns-in-VirtualTable
returns-in-VirtualTable g c =
    let terms = c.args.terms.now in
    source_comes terms c.args.written.now (RawSource-F.VirtualTable (checked_table terms c.in-VirtualTable.table)) c.args.number c.args.types.now c.args.progress _ (ap (checked_source terms) c.in-VirtualTable.is ∙ checked_source-VirtualTable terms _)
    c.rows_source.ensures

pub returns-in-LocalFiles : goal.returns-in-LocalFiles
returns-in-LocalFiles g c =
    let terms = c.args.terms.now in
    source_comes terms c.args.written.now (RawSource-F.LocalFiles c.in-LocalFiles.files) c.args.number c.args.types.now c.args.progress _ (ap (checked_source terms) c.in-LocalFiles.is ∙ checked_source-LocalFiles terms _)
    (c.paths_source.ensures c.args.types.now)

pub returns-in-NamedTable : goal.returns-in-NamedTable
returns-in-NamedTable g c =
    let terms = c.args.terms.now in
    source_comes terms c.args.written.now (RawSource-F.NamedTable c.in-NamedTable.table) c.args.number c.args.types.now c.args.progress _ (ap (checked_source terms) c.in-NamedTable.is ∙ checked_source-NamedTable terms _)
    (c.table_source.ensures c.args.types.now)
