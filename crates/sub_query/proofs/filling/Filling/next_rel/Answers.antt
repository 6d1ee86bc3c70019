-- The rows of the next subquery end in a fault.
use Rattle.std.proofs.Common.{◌≡◌, Some, arith}
use Rattle.std.proofs.lemmas.Grind.{common_steps}
use Rattle.plan_denote.specs.Holes.{filled}
use Rattle.sub_query.specs.Progress.{next_of}
use Rattle.sub_query.proofs.ProgressLaws.{next_fault}
use Rattle.sub_query.proofs.filling.Filling.next_rel.Goals as goal

pub returns-in_ok-filled_rel-in-Some-clause-fault : goal.returns-in_ok-filled_rel-in-Some-clause-fault
returns-in_ok-filled_rel-in-Some-clause-fault c =
    let state = c.args.self.now in
    let sub = c.in-Some.sub.now in
    let made = c.in_ok-filled_rel-in-Some.field-0 in
    let here : next_of state ≡ Some sub = grind (arith, common_steps) in
    let is_made : made ≡ filled state.known sub.rel = grind (arith, common_steps) in
    λ tables rel fault same ends. next_fault tables state sub made rel fault here is_made (cc same) ends
