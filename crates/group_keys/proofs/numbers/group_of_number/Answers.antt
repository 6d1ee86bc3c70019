use Rattle.std.proofs.Common.{◌∙◌, map, ap}
use Rattle.std.specs.Option.{option_eq}
use Rattle.std.specs.Ordering.{int_eq}
use Rattle.plan_denote.specs.Distinct.{is_same_row}
use Rattle.group_keys.specs.Keys.{key_of_number}
use Rattle.group_keys.proofs.ItemLaws.{inserted, stored_at, same_number_key, equal_numbers}
use Rattle.group_keys.proofs.numbers.group_of_number.Goals as goal

pub returns-clause-keys : goal.returns-clause-keys
returns-clause-keys c = ap (map key_of_number) c.in_ok-number.ensures.keys ∙ inserted key_of_number (option_eq int_eq) is_same_row same_number_key c.args.keys.now.keys c.args.key

pub returns-clause-number : goal.returns-clause-number
returns-clause-number c =
    let stored = c.in_ok-number.ensures.stored in
    stored_at key_of_number c.insert_full.new.self.keys c.in_ok-number.number stored.0 (key_of_number c.args.key) stored.1 (ap key_of_number (equal_numbers c.args.key stored.0 stored.2))
