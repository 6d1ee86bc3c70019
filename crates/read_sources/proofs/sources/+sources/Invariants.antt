-- What was there, and the read relations of the relations so far.
use Rattle.std.proofs.Common.{◌≡◌, ◌++◌, map, take}
use Rattle.std.specs.List.{flat_map}
use Rattle.cut_laws.specs.Found.{read_rels}
use Rattle.read_sources.specs.Seen.{read_seen}
use Rattle.read_sources.proofs.sources.+sources.Given as goal

abbrev pub invariant-push_all-loop-rel : goal.invariant-push_all-loop-rel
invariant-push_all-loop-rel l = map read_seen l.reads.items ≡ map read_seen l.initial.reads.items ++ flat_map read_rels (take l.rel-index l.rels)
