use Rattle.std.proofs.Common.{◌∙◌, ◌∷◌, ◌++◌, ◌+◌, [], take, sym, ap}
use Rattle.std.specs.List.{join_with_byte}
use Rattle.plan_rules.proofs.NameLaws.{join_with_byte-first, join_with_byte-more, join_with_byte-all}
use Rattle.plan_rules.proofs.sources.joined.Goals as goal

pub loop-name-init : goal.loop-name-init
loop-name-init c =
    c.into_vec-bytes.ensures ∙ c.in_ok-copy.ensures ∙ sym (join_with_byte-first 46 c.in-Some.first.now c.args.names.now c.in-Some.rest.now c.in-Some.ensures.cases.0)

pub loop-name-preserved : goal.loop-name-preserved
loop-name-preserved c =
    let name = c.name-item.result in
    c.in_ok-extend_from_slice.ensures.items
    ∙ ap (λ bytes. bytes ++ c.bytes.result.now) (c.in_ok-push.ensures.items ∙ ap (λ bytes. bytes ++ 46 ∷ []) c.loop-name.invariant)
    ∙ ap (λ last. (join_with_byte 46 (take (c.loop-name.name-index + 1) c.args.names.now) ++ 46 ∷ []) ++ last) c.bytes.ensures
    ∙ sym (join_with_byte-more 46 c.in-Some.first.now c.args.names.now c.in-Some.rest.now c.loop-name.name-index name c.in-Some.ensures.cases.0 c.loop-name-test.true c.name-item.is)

pub returns : goal.returns
returns c =
    c.from_vec-2.ensures ∙ c.loop-name.invariant
    ∙ join_with_byte-all 46 c.in-Some.first.now c.args.names.now c.in-Some.rest.now c.loop-name.name-index c.in-Some.ensures.cases.0 c.loop-name-test.false
