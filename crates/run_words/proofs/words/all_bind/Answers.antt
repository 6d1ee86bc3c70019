use Rattle.std.proofs.Common.{◌≡◌, ◌∙◌, sym, ap, refl, true, get_or}
use Rattle.std.proofs.lemmas.List.{take_all}
use Rattle.std.proofs.lemmas.List.Folds.{list_all_more}
use Rattle.std.specs.List.{list_all}
use Rattle.run_words.specs.Words.{is_binding}
use Rattle.run_words.proofs.words.all_bind.Goals as goal

pub loop-word-preserved : goal.loop-word-preserved
loop-word-preserved c =
    let test = is_binding c.args.out.now in
    let word = c.word-item.result in
    let i = c.loop-word.word-index in
    let binds : test (get_or c.args.words.now i word) ≡ true =
    ap test (sym c.word-item.is ∙ sym c.text.ensures) ∙ sym c.binds.ensures ∙ c.if-not-binds.false in
    list_all_more test c.args.words.now i word c.loop-word-test.true ∙ rw (c.loop-word.invariant, binds) refl

pub returns : goal.returns
returns c =
    sym (ap (list_all (is_binding c.args.out.now)) (sym (take_all c.loop-word.word-index c.args.words.now c.loop-word-test.false)) ∙ c.loop-word.invariant)
