-- The first so many relations are made.
use Rattle.std.proofs.Common.{◌≡◌, map, take}
use Rattle.plan_denote.specs.Holes.{filled}
use Rattle.sub_query.specs.Known.{known_seen}
use Rattle.sub_query.proofs.fill_rel.+fill_rel.Given as goal

abbrev pub invariant-fill_rels-loop-rel : goal.invariant-fill_rels-loop-rel
invariant-fill_rels-loop-rel l = l.made.items ≡ map (filled (known_seen l.known)) (take l.rel-index l.rels)
