use Rattle.std.proofs.Common.{◌≡◌, ℕ, length, map, subst, arith}
use Rattle.std.specs.Prelude.{vec_len}
use Rattle.std.proofs.lemmas.List.{length-map}
use Rattle.sub_types.specs.Stream.{glue}
use Rattle.run_core.specs.Receipts.{lists_of, IsBalanced}
use Rattle.read_rounds.proofs.FileLaws.{rows_told}
use Rattle.read_rounds.proofs.files.read_blocks.Goals as goal

pub returns-clause-balanced : goal.returns-clause-balanced
returns-clause-balanced g c =
    let round = c.in_ok-round.round in
    let many : vec_len c.args.steps.now.table.now.places ≡ c.len-batches.result = omega (arith, c.len-batches.ensures) in
    subst (λ (n : ℕ). IsBalanced n (map lists_of round.receipts.items) round.left.items) many c.in_ok-round.ensures.balanced

pub returns-clause-parts : goal.returns-clause-parts
returns-clause-parts g c =
    let steps = c.args.steps.now in
    let files = steps.table.now.files in
    let readers = c.args.readers.now in
    let bytes = map g.R.Reader.bytes readers.items in
    let many : length steps.numbers.now ≡ length files.items = omega (arith, steps.count, files.ok.0) in
    let lent : length bytes ≡ length files.items = omega (arith, length-map readers.items g.R.Reader.bytes, readers.ok.0, c.requires.count, files.ok.0) in
    let given = c.in_ok-round.ensures.parts in
    (glue given.0, λ told. rows_told steps bytes steps.table.now.places.items given.0 steps.table.now.placed many lent told given.1, given.2)
