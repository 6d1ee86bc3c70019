use Rattle.std.proofs.Common.{◌≡◌, drop, map}
use Rattle.cut_laws.specs.Found.{read_at}
use Rattle.read_sources.specs.Seen.{read_seen}
use Rattle.read_sources.proofs.sources.source_at.Given as goal

-- the read relations that are left answer as all do
abbrev pub invariant-loop-read : goal.invariant-loop-read
invariant-loop-read l = read_at l.fn.number (map read_seen (drop l.read-index l.reads)) ≡ read_at l.fn.number (map read_seen l.fn.reads)
