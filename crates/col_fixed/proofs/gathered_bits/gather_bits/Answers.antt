use Rattle.std.proofs.Common.{◌≡◌, ◌∙◌, ℕ, ◌+◌, ◌<◌, false, sym, subst}
use Rattle.std.specs.List.{All, slice_range}
use Rattle.sub_types.specs.Rows.{picked}
use Rattle.col_fixed.proofs.GatherLaws.{picked-front}
use Rattle.col_fixed.proofs.gathered_bits.gather_bits.Goals as goal

pub returns-then-from-eq0 : goal.returns-then-from-eq0
returns-then-from-eq0 c =
    let P : ℕ → Type 0 = λ from. All (λ i. from + i < c.args.to) c.args.at.now → c.in_ok-gather.field-0 ≡ picked false c.args.at.now (slice_range c.args.bits.now from c.args.to) in
    let front : P 0 = λ places. c.in_ok-gather.ensures ∙ picked-front false c.args.bits.now c.args.to c.args.at.now places in
    subst P (sym c.if-from-eq0.true) front c.requires.places
