use Rattle.std.proofs.Common.{◌≡◌, OnOk, IfOk, sym, subst}
use Rattle.group_numbers.specs.Keys.{AreAt, with_keys}
use Rattle.group_numbers.proofs.keys.GroupKeys.numbers_of.Goals as goal

pub returns-in-Some-clause-rows : goal.returns-in-Some-clause-rows
returns-in-Some-clause-rows c =
    subst (λ keys. OnOk c.numbers_by_number.result (c.numbers_by_number.new.self.rows ≡ with_keys c.args.self.now.rows keys)) (sym c.in-Some.ensures.numbers.keys) c.numbers_by_number.ensures.rows

pub returns-in-Some-clause-numbers : goal.returns-in-Some-clause-numbers
returns-in-Some-clause-numbers c =
    subst (λ keys. IfOk c.numbers_by_number.result (λ numbers. AreAt c.numbers_by_number.new.self.rows numbers.items keys)) (sym c.in-Some.ensures.numbers.keys) c.numbers_by_number.ensures.numbers
