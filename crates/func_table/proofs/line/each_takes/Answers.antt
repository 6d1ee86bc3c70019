use Rattle.std.proofs.Common.{rules, tests, ◌∙◌}
use Rattle.std.proofs.lemmas.Iterator.{YieldsList-from_slice, YieldsList-from_zip}
use Rattle.std.proofs.lemmas.Iterator.Search.{all_from_yields_List}
use Rattle.func_table.specs.Entry.{takes_kind}
use Rattle.func_table.proofs.ListLaws.{list_all-zip}
use Rattle.func_table.proofs.line.each_takes.Goals as goal

pub returns-then-names-kinds : goal.returns-then-names-kinds
returns-then-names-kinds c =
    all_from_yields_List (λ pair. takes_kind pair.0.now pair.1) c.all.new.self _ c.all.result c.all.ensures.ran
    (YieldsList-from_zip (YieldsList-from_slice c.args.names.now cc) (YieldsList-from_slice c.args.kinds.now cc)) (λ x b q k. search (rules, tests))
    ∙ list_all-zip takes_kind (λ name. name.now) c.args.names.now c.args.kinds.now c.if-names-kinds.true
