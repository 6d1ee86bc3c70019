use Rattle.std.proofs.Common.{◌≡◌, ◌∙◌, sym, refl, subst, ℕ, ◌≤◌, Ok, IsTrue, false, arith}
use Rattle.run_words.specs.Words.{IsNumber}
use Rattle.run_words.proofs.NumberLaws.{number_is, number_none, read_number}
use Rattle.run_words.proofs.words.number.Goals as goal

pub returns-in_default-clause-number : goal.returns-in_default-clause-number
returns-in_default-clause-number c = sym (number_none c.args.most c.args.word.now (λ n is.
    let within : n ≤ c.args.most = is.2 in
    c.in_default.not-Ok n (read_number c.args.word.now n c.args.most c.parse.result c.parse.ensures.value.0 (omega arith) is)))

pub returns-then-not-is_number-clause-number : goal.returns-then-not-is_number-clause-number
returns-then-not-is_number-clause-number c = sym (number_none c.args.most c.args.word.now (λ n is.
    let within : n ≤ c.args.most = is.2 in
    let both : Ok c.in-Ok.number ≡ Ok n = sym c.in-Ok.is ∙ read_number c.args.word.now n c.args.most c.parse.result c.parse.ensures.value.0 (omega arith) is in
    let same : n ≡ c.in-Ok.number = cc in
    let P : ℕ → Type 0 = λ m. IsNumber c.args.word.now m c.args.most in
    let h : IsTrue false = c.if-not-is_number.ensures.1 (subst P same is) in
    cc))

pub returns-clause-number : goal.returns-clause-number
returns-clause-number c = sym (number_is c.args.most c.in-Ok.number c.args.word.now (omega arith) (c.if-not-is_number.ensures.0 refl))
