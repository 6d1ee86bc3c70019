use Rattle.std.proofs.Common.{◌∙◌, ◌<◌, length, All, ap, sym, subst}
use Rattle.std.proofs.lemmas.List.Elements.{All-cons}
use Rattle.group_numbers.specs.Keys.{keys_at}
use Rattle.set_states.proofs.firsts.one_with_rows.Goals as goal

pub with_rows-requires-clause-columns : goal.with_rows-requires-clause-columns
with_rows-requires-clause-columns c =
    subst (All (λ column. column < length c.args.batch.now.columns.items)) (sym (c.as_slice.ensures.value ∙ c.in_ok-all.ensures))
    (All-cons (λ column. column < length c.args.batch.now.columns.items) c.args.first c.args.columns.now c.requires.there c.requires.columns)

pub returns : goal.returns
returns c = λ keys entries later place distinct are pairs at.
    c.with_rows.ensures keys entries later place are (pairs ∙ ap (λ l. keys_at l c.args.batch.now) (sym (c.as_slice.ensures.value ∙ c.in_ok-all.ensures))) at
