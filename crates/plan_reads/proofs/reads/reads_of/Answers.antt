use Rattle.std.proofs.Common.{◌≡◌, ◌∙◌, ◌++◌, rules, ap, Bool, is_lt}
use Rattle.std.specs.List.{flat_map}
use Rattle.std.proofs.lemmas.List.Sorted.{ranks_by}
use Rattle.std.proofs.lemmas.Fn.{always_returns_same}
use Rattle.plan_typed.specs.declared.sub.Sub.{Sub}
use Rattle.plan_denote.specs.Sort.{arranged}
use Rattle.plan_denote.proofs.SortLaws.{is_arranged}
use Rattle.plan_reads.specs.declared.reads.PlanRead.{PlanRead}
use Rattle.plan_reads.specs.Reads.{by_relation, reads_in, reads_of}
use Rattle.plan_reads.proofs.ReadLaws.{by_relation_total}
use Rattle.plan_reads.proofs.reads.reads_of.Goals as goal

pub returns-clause-reads : goal.returns-clause-reads
unfolding reads_of
returns-clause-reads c =
    let lt : PlanRead → PlanRead → Bool = λ a b. is_lt (by_relation a b) in
    let weak = ranks_by by_relation_total (λ (read : PlanRead). read) in
    let here : c.push_reads.new.reads.items ≡ flat_map (λ (sub : Sub). reads_in sub.rel) c.args.plan.now.subs ++ reads_in c.args.plan.now.typed.rel = search rules in
    is_arranged by_relation by_relation_total c.push_reads.new.reads.items c.sort_by.new.self.items (record {
      sorted = c.in_ok-sort_by.ensures.sorted lt weak (always_returns_same _ _ _ (λ a r f k. search rules));
      stable = c.sort_by.ensures.stable lt weak (always_returns_same _ _ _ (λ a r f k. search rules));
    }) ∙ ap (arranged by_relation) here
