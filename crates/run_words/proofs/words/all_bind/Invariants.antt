use Rattle.std.proofs.Common.{◌≡◌, take, true}
use Rattle.std.specs.List.{list_all}
use Rattle.run_words.specs.Words.{is_binding}
use Rattle.run_words.proofs.words.all_bind.Given as goal

abbrev pub invariant-loop-word : goal.invariant-loop-word
invariant-loop-word l = list_all (is_binding l.out) (take l.word-index l.words) ≡ true
