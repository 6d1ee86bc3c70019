use Rattle.std.proofs.Common.{◌≡◌, ◌∙◌, ◌+◌, drop, true, false, sym, ap, arith}
use Rattle.std.specs.Prelude.{is_some}
use Rattle.std.proofs.lemmas.List.{drop_all}
use Rattle.pipe_ends.specs.Held.{end_in, end_among}
use Rattle.pipe_ends.proofs.PartLaws.{no_end, its_end, ends_from}
use Rattle.pipe_ends.proofs.ends.end_among.Goals as goal

pub returns-then-is_some : goal.returns-then-is_some
returns-then-is_some c =
    let l = c.loop-part in
    let all = c.args.parts.now in
    let part = c.part-item.result in
    let some : is_some (end_in part) ≡ true = ap is_some (sym c.end_in-end.ensures) ∙ sym c.is_some.ensures ∙ c.if-is_some.true in
    c.end_in-end.ensures ∙ its_end (end_in part) (end_among (drop (l.part-index + 1) all)) some ∙ sym (ends_from all l.part-index part (omega arith) c.part-item.is) ∙ l.invariant

pub loop-part-preserved : goal.loop-part-preserved
loop-part-preserved c =
    let l = c.loop-part in
    let all = c.args.parts.now in
    let part = c.part-item.result in
    let none : is_some (end_in part) ≡ false = ap is_some (sym c.end_in-end.ensures) ∙ sym c.is_some.ensures ∙ c.if-is_some.false in
    sym (no_end (end_in part) (end_among (drop (l.part-index + 1) all)) none) ∙ sym (ends_from all l.part-index part (omega arith) c.part-item.is) ∙ l.invariant

pub returns : goal.returns
returns c = sym (ap end_among (drop_all c.loop-part.part-index c.args.parts.now c.loop-part-test.false)) ∙ c.loop-part.invariant
