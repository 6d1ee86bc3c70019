use Rattle.std.proofs.Common.{◌∙◌, ℕ, List, Some, sym, ap, subst}
use Rattle.sub_types.specs.declared.kind.Ty.{Ty}
use Rattle.pipe_steps.specs.Tables.{joins_of}
use Rattle.plan_pipes.specs.declared.pipe.Step.{Step}
use Rattle.pipe_feeds.specs.Ready.{IsReadFirst}
use Rattle.pipe_feeds.proofs.FirstLaws.{read_first}
use Rattle.pipe_feeds.proofs.feed.feed_virtual.Goals as goal

pub feed_first-requires-clause-first : goal.feed_first-requires-clause-first
feed_first-requires-clause-first c =
    let r = c.in-Read in
    let joins = joins_of c.args.built.now in
    let given = c.args.given.now in
    let steps = c.args.steps.now in
    let first : IsReadFirst joins given r.types r.reader r.filter r.mask steps = read_first joins given r.reader r.names r.types r.filter r.mask steps (sym c.in-Some.ensures.value ∙ ap (λ (step : Step). Some step) r.is) c.requires.over in
    subst (λ (types : List Ty). IsReadFirst joins given types r.reader r.filter c.as_slice-2.result.now steps) (sym c.as_slice.ensures)
    (subst (λ (mask : List ℕ). IsReadFirst joins given r.types r.reader r.filter mask steps) (sym c.as_slice-2.ensures) first)
