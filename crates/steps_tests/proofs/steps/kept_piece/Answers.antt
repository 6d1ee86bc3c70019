use Rattle.std.proofs.Common.{arith}
use Rattle.batch.proofs.JoinLaws.{length-columns}
use Rattle.steps_tests.specs.Typed.{numbers}
use Rattle.steps_tests.proofs.steps.kept_piece.Goals as goal

pub keep-requires : goal.keep-requires
keep-requires c = record {
  exist = λ k d below.
      let wide = length-columns c.args.piece.batch numbers c.requires.types in
      let low = c.requires.columns k d below in
      omega arith;
}
