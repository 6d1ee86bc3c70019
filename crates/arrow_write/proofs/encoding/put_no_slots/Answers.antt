use Rattle.std.proofs.Common.{◌∙◌, ◌∷◌, [], ℕ, List, sym, subst}
use Rattle.arrow_meta.specs.Buffers.{value_buffers}
use Rattle.arrow_write.specs.Bodies.{Puts}
use Rattle.arrow_write.proofs.Parts.{on_ok}
use Rattle.arrow_write.proofs.BodyLaws.{Puts-more}
use Rattle.arrow_write.proofs.KindBuffers.{no_slots-texts, no_slots-others}
use Rattle.arrow_write.proofs.encoding.put_no_slots.Goals as goal
use Rattle.arrow_write.proofs.encoding.put_no_slots.Goals.{then-has_offsets+in_ok-put, else-has_offsets}

pub returns-clause-put : goal.returns-clause-put
returns-clause-put c =
    let old = c.args.body.now in
    let mid = c.if-has_offsets.body in
    let new = c.put-2.new.self in
    let target : List (List ℕ) = value_buffers c.args.kind [] in
    elim c.if-has_offsets.branch [
      | then-has_offsets+in_ok-put w ↦
          on_ok (Puts mid new ([] ∷ [])) (Puts old new target) c.put-2.result (λ put. subst (Puts old new) (no_slots-texts c.args.kind (sym c.has_offsets.ensures ∙ w.if-has_offsets.true))
          (Puts-more old mid new ((0 ∷ 0 ∷ 0 ∷ 0 ∷ []) ∷ []) ([] ∷ []) (subst (λ b. Puts old b ((0 ∷ 0 ∷ 0 ∷ 0 ∷ []) ∷ [])) (sym w.body-is) w.in_ok-put.ensures.put) put)) c.put-2.ensures.put
      | else-has_offsets w ↦
          on_ok (Puts mid new ([] ∷ [])) (Puts old new target) c.put-2.result (λ put. subst (Puts old new) (no_slots-others c.args.kind (sym c.has_offsets.ensures ∙ w.if-has_offsets.false))
          (subst (λ b. Puts b new ([] ∷ [])) w.body-is put)) c.put-2.ensures.put
    ]
