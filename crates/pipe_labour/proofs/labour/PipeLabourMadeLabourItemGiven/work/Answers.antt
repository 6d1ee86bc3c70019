use Rattle.std.proofs.Common.{List, [], ◌∷◌, ◌++◌, ap, subst, ◌∙◌}
use Rattle.pipe_labour.specs.declared.item.Item.{Item}
use Rattle.pipe_labour.proofs.labour.PipeLabourMadeLabourItemGiven.work.Goals as goal

pub returns-clause-worked : goal.returns-clause-worked
returns-clause-worked g c =
    let out : Item g.row.W-Made.Denot = record { number = c.into_inner-number.result.number; value = c.in_ok-made.made } in
    let same = c.into_inner-number.ensures in (
      out,
      c.push_reserved.ensures.items ∙ ap (λ (xs : List (Item g.row.W-Made.Denot)). xs ++ out ∷ []) c.in_ok-reserve.ensures.items,
      (
        subst (λ (i : Item g.row.S-Given.Denot). g.W.Work.makes (g.W.Work.sense c.args.self.now.work) i.number i.value c.in_ok-made.made) same c.in_ok-made.ensures,
        ap (λ (i : Item g.row.S-Given.Denot). i.number) same,
      ),
    )
