use Rattle.std.proofs.Common.{◌≡◌, map, take}
use Rattle.arrow_decode.specs.Seen.{dictionary_seen}
use Rattle.arrow_read.proofs.copies.dictionaries_copy.Given as goal

abbrev pub invariant-loop-dictionary : goal.invariant-loop-dictionary
invariant-loop-dictionary l = map dictionary_seen l.copy.items ≡ map dictionary_seen (take l.dictionary-index l.dictionaries)
