use Rattle.std.proofs.Common.{◌≡◌, ◌∙◌, ap, length, Ok, arith}
use Rattle.std.specs.Vec.Iter.{into_iter_items, into_iter_len}
use Rattle.std.proofs.lemmas.Iterator.{YieldsList-from_zip, items_from_collect}
use Rattle.std.proofs.lemmas.Iterator.Adapters.{YieldsList-from_vec}
use Rattle.check_exprs.proofs.arms.zipped.Goals as goal

pub returns : goal.returns
returns g c =
    let first : into_iter_items c.zip.result.a ≡ c.args.firsts = ap into_iter_items c.zip.ensures.first ∙ c.into_iter.ensures.rest ∙ c.into_vec.ensures in
    let first_len : into_iter_len c.zip.result.a ≡ length c.args.firsts = ap into_iter_len c.zip.ensures.first ∙ c.into_iter.ensures.len ∙ omega (arith, c.into_vec.result.ok.0, ap length c.into_vec.ensures) in
    let second : into_iter_items c.zip.result.b ≡ c.args.seconds = c.zip.ensures.second.0 ∙ c.into_vec-2.ensures in
    let second_len : into_iter_len c.zip.result.b ≡ length c.args.seconds = c.zip.ensures.second.1 ∙ omega (arith, c.into_vec-2.result.ok.0, ap length c.into_vec-2.ensures) in
    c.from_vec.ensures
    ∙ items_from_collect {E = Unit {0}} (Ok c.in_ok-pairs.pairs) c.in_ok-pairs.ensures.ran (YieldsList-from_zip (YieldsList-from_vec c.args.firsts first first_len) (YieldsList-from_vec c.args.seconds second second_len))
