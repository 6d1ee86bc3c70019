use Rattle.std.proofs.Common.{rules, ◌∙◌, ◌+◌, ◌%◌, ◌^◌, ap}
use Rattle.std.specs.Slice.Iter.{iter_rest}
use Rattle.std.proofs.lemmas.Iterator.{YieldsList-from_slice, YieldsList-from_map}
use Rattle.std.proofs.lemmas.Iterator.Adapters.{items_from_extend}
use Rattle.col_text.proofs.ends.extend_narrow.Goals as goal

pub returns-clause-ok : goal.returns-clause-ok
returns-clause-ok c =
    let all = items_from_extend c.extend.result c.extend.ensures.ran (YieldsList-from_map _ (λ end. (end + c.args.shift) % 2 ^ 32) (YieldsList-from_slice c.args.more.now (ap iter_rest c.map.ensures.source ∙ c.iter.ensures.rest)) c.map.ensures.closure (λ x r q k. search rules)) in
    search rules
