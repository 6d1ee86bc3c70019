use Rattle.std.proofs.Common.{◌≡◌, map, drop}
use Rattle.arrow_meta.specs.Table.{dictionary_of}
use Rattle.arrow_decode.specs.Seen.{dictionary_seen}
use Rattle.arrow_decode.proofs.decoding.find_dictionary.Given as goal

-- the dictionary is among those that are left
abbrev pub invariant-loop-dictionary : goal.invariant-loop-dictionary
invariant-loop-dictionary l =
    dictionary_of (map dictionary_seen (drop l.dictionary-index l.dictionaries)) l.column ≡ dictionary_of (map dictionary_seen l.dictionaries) l.column
