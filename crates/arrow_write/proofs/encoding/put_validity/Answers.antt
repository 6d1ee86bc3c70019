use Rattle.std.proofs.Common.{◌∙◌, sym, List, ℕ, [], ◌∷◌, subst}
use Rattle.arrow_write.specs.Bodies.{Puts}
use Rattle.arrow_write.proofs.KindBuffers.{validity-all, validity-some}
use Rattle.arrow_write.proofs.encoding.put_validity.Goals as goal

pub returns-then-nulls-eq0-clause-put : goal.returns-then-nulls-eq0-clause-put
returns-then-nulls-eq0-clause-put c =
    subst (λ (v : List ℕ). Puts c.args.body.now c.put.new.self (v ∷ [])) (sym (validity-all c.args.valid.now (sym c.count_false-nulls.ensures ∙ c.if-nulls-eq0.true))) c.in_ok-put.ensures.put

pub returns-clause-put : goal.returns-clause-put
returns-clause-put c =
    subst (λ (v : List ℕ). Puts c.args.body.now c.put-2.new.self (v ∷ [])) (c.deref.ensures.value ∙ c.in_ok-packed_bytes.ensures ∙ sym (validity-some c.args.valid.now (λ none. c.if-nulls-eq0.false (c.count_false-nulls.ensures ∙ none)))) c.in_ok-put-2.ensures.put
