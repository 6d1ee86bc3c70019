use Rattle.std.proofs.Common.{◌≡◌, length, take}
use Rattle.std.specs.List.{sum_by}
use Rattle.plan_tables.proofs.counts.blocks_in.Given as goal

-- the blocks of the files so far
abbrev pub invariant-loop-file : goal.invariant-loop-file
invariant-loop-file g l = l.count ≡ sum_by (λ file. length file.head.blocks.items) (take l.file-index l.files)
