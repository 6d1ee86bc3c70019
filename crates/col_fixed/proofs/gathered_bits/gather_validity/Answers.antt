use Rattle.std.proofs.Common.{◌≡◌, ◌∙◌, length, replicate, true, rules}
use Rattle.col_fixed.proofs.GatherLaws.{picked-all}
use Rattle.col_fixed.proofs.gathered_bits.gather_validity.Goals as goal

pub returns-then-is_all : goal.returns-then-is_all
returns-then-is_all c =
    let valid = c.args.valid.now in
    let all : valid ≡ replicate (length valid) true = search rules in
    c.in_ok-ones.ensures ∙ picked-all valid c.args.from c.args.to c.args.at.now all c.requires.within c.requires.places
