use Rattle.std.proofs.Common.{◌∙◌, sym, ap, map}
use Rattle.sub_types.specs.Stream.{followed_by, glue}
use Rattle.row_steps.specs.Seen.{seen}
use Rattle.row_steps.proofs.GlueLaws.{one_more}
use Rattle.row_steps.proofs.glue.glued.Goals as goal

pub loop-stream-preserved : goal.loop-stream-preserved
loop-stream-preserved g c =
    let left = map seen c.next.new.self.rest.items in
    ap (λ s. followed_by s (glue left)) c.in_ok-all.ensures ∙ sym (one_more (seen c.loop-stream.all) (seen c.in-Some.stream) left)
    ∙ ap (λ items. followed_by (seen c.loop-stream.all) (glue (map seen items))) (sym c.in-Some.ensures.steps.0) ∙ c.loop-stream.invariant
