use Rattle.std.proofs.Common.{arith, map, take, ◌∙◌}
use Rattle.arrow_meta.specs.Meta.{unsigned_pair}
use Rattle.arrow_meta.proofs.Lengths.{pairs_are_structs}
use Rattle.std.proofs.lemmas.Grind.{common_steps}
use Rattle.std.proofs.lemmas.List.Elements.{All-more}
use Rattle.arrow_meta.specs.Written.{IsPair}
use Rattle.arrow_meta.proofs.write.structs.pairs_bytes.Goals as goal

pub returns-clause-structs : goal.returns-clause-structs
returns-clause-structs c =
    pairs_are_structs c.from_vec.result (map unsigned_pair (take c.loop-pair.pair-index c.pairs-pair-items.result.now)) (c.from_vec.ensures ∙ c.loop-pair.invariant.bytes)

pub loop-pair-preserved : goal.loop-pair-preserved
loop-pair-preserved c = record {
  bytes = grind (arith, common_steps);
  fits = All-more IsPair c.pairs-pair-items.result.now c.loop-pair.pair-index _ (omega arith) c.loop-pair.invariant.fits c.in_ok-put_pair.ensures.fits;
}
