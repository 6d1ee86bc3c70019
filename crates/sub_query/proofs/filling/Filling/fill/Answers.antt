-- What is known afterwards leads to what all are worth.
use Rattle.std.proofs.Common.{◌≡◌, ◌∙◌, Option, Some, None, Ok, Err, sym, ap, arith}
use Rattle.std.proofs.lemmas.Grind.{common_steps}
use Rattle.std.specs.List.{flat_map}
use Rattle.batch.specs.BatchRows.{rows_of}
use Rattle.sub_types.specs.declared.fault.Fault.{Fault}
use Rattle.sub_query.specs.Known.{worth_seen, found_seen}
use Rattle.sub_query.specs.Progress.{progress, next_of, Follows}
use Rattle.sub_query.proofs.ProgressLaws.{leads}
use Rattle.sub_query.proofs.filling.Filling.fill.Goals as goal

pub returns-in_ok-push-in-Ok-clause-denoted : goal.returns-in_ok-push-in-Ok-clause-denoted
returns-in_ok-push-in-Ok-clause-denoted c =
    let old = c.args.self.now in
    let new = progress c.self.inside.holed c.push.new.self.items in
    let rows = flat_map rows_of c.args.rows.now in
    let one = c.in-Some.sub.now in
    let here : next_of old ≡ Some one = grind (arith, common_steps) in
    let found = sym (ap found_seen c.in-Ok.is) ∙ c.in_ok-worth.ensures in
    let follows : Follows old one.hole (Ok (worth_seen c.in-Ok.worth)) None new = grind (arith, common_steps) in
    λ tables sub is denotes. leads tables old new one sub rows (Ok (worth_seen c.in-Ok.worth)) None here found follows is denotes

pub returns-in-Err-clause-denoted : goal.returns-in-Err-clause-denoted
returns-in-Err-clause-denoted c =
    let old = c.args.self.now in
    let rows = flat_map rows_of c.args.rows.now in
    let one = c.in-Some.sub.now in
    let fault : Option Fault = Some c.in-Err.fault in
    let here : next_of old ≡ Some one = grind (arith, common_steps) in
    let found = sym (ap found_seen c.in-Err.is) ∙ c.in_ok-worth.ensures in
    let follows : Follows old one.hole (Err c.in-Err.fault) fault old = grind (arith, common_steps) in
    λ tables sub is denotes. leads tables old old one sub rows (Err c.in-Err.fault) fault here found follows is denotes
