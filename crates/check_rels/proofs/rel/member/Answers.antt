use Rattle.std.proofs.Common.{◌∙◌, ap, refl, map, rules as given}
use Rattle.std.specs.Option.{option_map}
use Rattle.plan_raw.specs.declared.rel.RawRel.{RawRel-F}
use Rattle.plan_verdict.specs.declared.rule.Rule.TheVariants as rules
use Rattle.plan_verdict.specs.Aggregates.{aggregate}
use Rattle.plan_verdict.specs.Checking.{Comes}
use Rattle.plan_verdict.specs.Rels as spec
use Rattle.plan_verdict.specs.Verdict.{checked_count, checked_expr, checked_grouping, checked_measure, checked_offset, checked_rel, checked_sort, checked_source}
use Rattle.plan_verdict.proofs.FoldLaws.{checked_rel-Missing, checked_rel-Unknown, checked_rel-Read, checked_rel-Filter, checked_rel-Fetch, checked_rel-Aggregate, checked_rel-Sort, checked_rel-Join, checked_rel-Project, checked_rel-Set, checked_rel-Cross}
use Rattle.check_exprs.proofs.LevelLaws.{relation_comes, refused_comes}
use Rattle.check_rels.proofs.rel.member.Goals as goal

pub returns-in-Missing : goal.returns-in-Missing
returns-in-Missing g c =
    let terms = c.args.terms.now in
    relation_comes terms c.args.rel.now RawRel-F.«RawRel::Missing» c.args.number c.args.progress _ (ap (checked_rel terms) c.in-Missing.is ∙ checked_rel-Missing terms) (refused_comes c.args.number rules.MissingField c.refuse.result _ c.refuse.ensures refl)

pub returns-in-Unknown : goal.returns-in-Unknown
returns-in-Unknown g c =
    let terms = c.args.terms.now in
    relation_comes terms c.args.rel.now (RawRel-F.«RawRel::Unknown» c.in-Unknown.unknown) c.args.number c.args.progress _ (ap (checked_rel terms) c.in-Unknown.is ∙ checked_rel-Unknown terms c.in-Unknown.unknown) (refused_comes c.args.number (rules.UnknownRelation c.in-Unknown.unknown) c.refuse-in-Unknown.result _ c.refuse-in-Unknown.ensures refl)

pub returns-in-Read : goal.returns-in-Read
returns-in-Read g c =
    let terms = c.args.terms.now in
    relation_comes terms c.args.rel.now (RawRel-F.Read c.in-Read.common c.in-Read.base_schema (option_map (checked_expr terms) c.in-Read.filter) c.in-Read.projection (checked_source terms c.in-Read.source) (option_map (checked_expr terms) c.in-Read.best_effort_filter)) c.args.number c.args.progress _ (ap (checked_rel terms) c.in-Read.is ∙ checked_rel-Read terms _ _ _ _ _ _) c.read.ensures

pub returns-in-Filter : goal.returns-in-Filter
returns-in-Filter g c =
    let terms = c.args.terms.now in
    relation_comes terms c.args.rel.now (RawRel-F.Filter c.in-Filter.common (option_map (checked_rel terms) c.in-Filter.input) (option_map (checked_expr terms) c.in-Filter.condition)) c.args.number c.args.progress _ (ap (checked_rel terms) c.in-Filter.is ∙ checked_rel-Filter terms _ _ _) c.filter.ensures

pub returns-in-Fetch : goal.returns-in-Fetch
returns-in-Fetch g c =
    let terms = c.args.terms.now in
    relation_comes terms c.args.rel.now (RawRel-F.Fetch c.in-Fetch.common (option_map (checked_rel terms) c.in-Fetch.input) (checked_offset terms c.in-Fetch.offset) (checked_count terms c.in-Fetch.count)) c.args.number c.args.progress _ (ap (checked_rel terms) c.in-Fetch.is ∙ checked_rel-Fetch terms _ _ _ _) c.fetch.ensures

pub returns-in-Join : goal.returns-in-Join
returns-in-Join g c =
    let terms = c.args.terms.now in
    relation_comes terms c.args.rel.now (RawRel-F.Join c.in-Join.common (option_map (checked_rel terms) c.in-Join.left) (option_map (checked_rel terms) c.in-Join.right) (option_map (checked_expr terms) c.in-Join.expression) (option_map (checked_expr terms) c.in-Join.post_join_filter) c.in-Join.type_) c.args.number c.args.progress _ (ap (checked_rel terms) c.in-Join.is ∙ checked_rel-Join terms _ _ _ _ _ _) c.join.ensures

pub returns-in-Cross : goal.returns-in-Cross
returns-in-Cross g c =
    let terms = c.args.terms.now in
    relation_comes terms c.args.rel.now (RawRel-F.Cross c.in-Cross.common (option_map (checked_rel terms) c.in-Cross.left) (option_map (checked_rel terms) c.in-Cross.right)) c.args.number c.args.progress _ (ap (checked_rel terms) c.in-Cross.is ∙ checked_rel-Cross terms _ _ _) c.cross.ensures

pub returns-in-Aggregate : goal.returns-in-Aggregate
returns-in-Aggregate g c =
    let terms = c.args.terms.now in
    let found : Comes c.aggregate.result (aggregate c.args.number c.in-Aggregate.common (option_map (checked_rel terms) c.in-Aggregate.input) (map (checked_grouping terms) c.in-Aggregate.groupings) (map (checked_measure terms) c.in-Aggregate.measures) (map (checked_expr terms) c.in-Aggregate.grouping_expressions) c.args.progress) = search given in
    relation_comes terms c.args.rel.now (RawRel-F.Aggregate c.in-Aggregate.common (option_map (checked_rel terms) c.in-Aggregate.input) (map (checked_grouping terms) c.in-Aggregate.groupings) (map (checked_measure terms) c.in-Aggregate.measures) (map (checked_expr terms) c.in-Aggregate.grouping_expressions)) c.args.number c.args.progress _ (ap (checked_rel terms) c.in-Aggregate.is ∙ checked_rel-Aggregate terms _ _ _ _ _) found

pub returns-in-Sort : goal.returns-in-Sort
returns-in-Sort g c =
    let terms = c.args.terms.now in
    let found : Comes c.sort.result (spec.sort c.args.number c.in-Sort.common (option_map (checked_rel terms) c.in-Sort.input) (map (checked_sort terms) c.in-Sort.sorts) c.args.progress) = search given in
    relation_comes terms c.args.rel.now (RawRel-F.Sort c.in-Sort.common (option_map (checked_rel terms) c.in-Sort.input) (map (checked_sort terms) c.in-Sort.sorts)) c.args.number c.args.progress _ (ap (checked_rel terms) c.in-Sort.is ∙ checked_rel-Sort terms _ _ _) found

pub returns-in-Project : goal.returns-in-Project
returns-in-Project g c =
    let terms = c.args.terms.now in
    let found : Comes c.project.result (spec.project c.args.number c.in-Project.common (option_map (checked_rel terms) c.in-Project.input) (map (checked_expr terms) c.in-Project.expressions) c.args.progress) = search given in
    relation_comes terms c.args.rel.now (RawRel-F.Project c.in-Project.common (option_map (checked_rel terms) c.in-Project.input) (map (checked_expr terms) c.in-Project.expressions)) c.args.number c.args.progress _ (ap (checked_rel terms) c.in-Project.is ∙ checked_rel-Project terms _ _ _) found

pub returns-in-Set : goal.returns-in-Set
returns-in-Set g c =
    let terms = c.args.terms.now in
    let found : Comes c.set.result (spec.set c.args.number c.in-Set.common (map (checked_rel terms) c.in-Set.inputs) c.in-Set.op c.args.progress) = search given in
    relation_comes terms c.args.rel.now (RawRel-F.Set c.in-Set.common (map (checked_rel terms) c.in-Set.inputs) c.in-Set.op) c.args.number c.args.progress _ (ap (checked_rel terms) c.in-Set.is ∙ checked_rel-Set terms _ _ _) found
