use Rattle.std.proofs.Common.{rules, tests, ◌∙◌}
use Rattle.std.proofs.lemmas.Iterator.{YieldsList-from_slice, YieldsList-from_zip}
use Rattle.std.proofs.lemmas.Iterator.Search.{all_from_yields_List}
use Rattle.sub_types.specs.declared.kind.Ty.{Ty}
use Rattle.func_table.specs.Kinds.{is_equal}
use Rattle.plan_rules.proofs.ListLaws.{list_all-zip}
use Rattle.plan_rules.proofs.joins.are_of_kinds.Goals as goal

pub returns-then-first-other : goal.returns-then-first-other
returns-then-first-other c =
    all_from_yields_List (λ (pair : Ty × Ty). is_equal pair.0.kind pair.1.kind) c.all.new.self _ c.all.result c.all.ensures.ran
    (YieldsList-from_zip (YieldsList-from_slice c.args.first.now cc) (YieldsList-from_slice c.args.other.now cc)) (λ x b q k. search (rules, tests))
    ∙ list_all-zip (λ (a b : Ty). is_equal a.kind b.kind) c.args.first.now c.args.other.now c.if-first-other.true
