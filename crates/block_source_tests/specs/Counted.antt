-- What the rows of a block are counted to.
use Rattle.std.specs.Prelude.{◌≡◌, ℕ, unsigned_abs}
use Rattle.sub_types.specs.declared.fault.Fault.{Fault}
use Rattle.block_source.specs.declared.block.BlockRead.{BlockRead}
use Rattle.block_source.specs.declared.block.BlockRead.TheVariants as reads
use Rattle.round_end.specs.declared.outcome.Outcome.{Outcome}
use Rattle.round_end.specs.declared.outcome.Outcome.TheVariants as outcomes

-- the rows of a good block, a fault for a bad one, and a failed read for a failed read
abbrev pub IsCountOf : BlockRead → Outcome ℕ → Type 0
IsCountOf (reads.Whole raw) made = made ≡ outcomes.Made (unsigned_abs raw.meta.length)
IsCountOf reads.Bad made = (fault : Fault) × (made ≡ outcomes.Ended 0 fault)
IsCountOf reads.Failed made = made ≡ outcomes.ReadFault
IsCountOf reads.Absent made = (fault : Fault) × (made ≡ outcomes.Ended 0 fault)
