use Rattle.std.proofs.Common.{◌∙◌, ◌∷◌, [], map, ap}
use Rattle.group_keys.specs.Keys.{key_of_number}
use Rattle.group_numbers.specs.Keys.{with_keys, keys_at}
use Rattle.group_numbers.proofs.WholeLaws.{once_again}
use Rattle.group_numbers.proofs.keys.GroupKeys.moved.Goals as goal

pub returns-clause-rows : goal.returns-clause-rows
returns-clause-rows c =
    c.in_ok-numbers_by_bytes.ensures.rows
    ∙ ap (λ rows. with_keys rows (keys_at (0 ∷ []) c.in_ok-batch.batch)) c.by_bytes-keys.ensures.rows
    ∙ ap (with_keys []) (c.in_ok-batch.ensures.keys ∙ ap (map key_of_number) c.as_slice.ensures.keys ∙ c.requires.kept.whole c.requires.mode)
    ∙ once_again c.args.self.now.rows c.requires.kept.once
