use Rattle.std.proofs.Common.{◌∙◌, ap, min, arith}
use Rattle.set_places.specs.Taken.{times, times_each, allowed}
use Rattle.set_places.proofs.CountLaws.{ends_within}
use Rattle.set_places.proofs.MarkLaws.{marks_are}
use Rattle.set_places.proofs.marks.mark_rows.Goals as goal

pub returns-clause-marks : goal.returns-clause-marks
returns-clause-marks c = λ test count is are.
    let first = c.args.first in
    let others = c.args.others.now in
    let many = c.leading-many.result in
    let within = ends_within first others count are in
    let many_is = c.leading-many.ensures.times test count is within (omega arith) in
    let allow = allowed c.args.op (times test 0 first) (times_each test first others) in
    let allow_is = c.allowed.ensures test count is are many_is ∙ ap (λ m. allowed c.args.op m (times_each test first others)) many_is in
    marks_are test count first many c.min-taken.result allow c.args.alike.now c.args.marks.now c.mark_all.new.marks c.mark_all-2.new.marks is within many_is
    (c.min-taken.ensures ∙ ap (λ n. min n many) allow_is) c.requires c.mark_all.ensures c.mark_all-2.ensures
