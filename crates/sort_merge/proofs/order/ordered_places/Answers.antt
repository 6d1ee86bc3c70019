use Rattle.std.proofs.Common.{◌∙◌, ap, length, arith}
use Rattle.std.proofs.lemmas.List.{length-map}
use Rattle.sort_merge.specs.Prefix.{row_of}
use Rattle.sort_merge.proofs.PrefixLaws.{rows_in_order}
use Rattle.sort_merge.proofs.order.ordered_places.Goals as goal

pub returns-clause-arrangement : goal.returns-clause-arrangement
returns-clause-arrangement c =
    rows_in_order c.scale_of-scale.result c.args.keys.now c.args.batch.now (omega arith) c.in_ok-rows.rows.items c.keep_places.new.rows.items c.in_ok-rows.ensures.arrangement c.keep_places.ensures

pub returns-clause-count : goal.returns-clause-count
returns-clause-count c = ap length c.keep_places.ensures ∙ length-map c.in_ok-rows.rows.items row_of ∙ c.in_ok-rows.ensures.count
