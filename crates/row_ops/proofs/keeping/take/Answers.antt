use Rattle.std.proofs.Common.{rules, ◌≡◌, ◌∙◌, map, get_or, slice_index_or, ap, sym}
use Rattle.row_ops.specs.declared.keeping.Slot.TheVariants as slots
use Rattle.row_ops.specs.Kept.{nothing, shown, shown_slot}
use Rattle.row_ops.proofs.KeptLaws.{take_stays, slot_at, taken_at, read_at}
use Rattle.row_ops.proofs.keeping.take.Goals as goal
use Rattle.row_ops.proofs.keeping.take.Goals.{in-Here, in-Taken+in_ok-column-in-Taken}

pub returns-clause-stay : goal.returns-clause-stay
returns-clause-stay c =
    let kept = c.args.kept.now.items in
    let all = c.args.slots.now.items in
    let d = c.replace-slot.new.dest in
    let at = slot_at kept all c.args.place d c.requires.exists in
    let is : shown c.match-slot.column ≡ slice_index_or (map (shown_slot kept) all) c.args.place nothing = elim c.match-slot.branch [
      | in-Here w ↦
          let old : slots.Here w.in-Here.column ≡ get_or all c.args.place d = w.in-Here.ensures.value ∙ read_at all c.args.place d c.index_mut.result.now c.requires.exists c.index_mut.ensures.value in
          ap shown w.column-is ∙ ap (shown_slot kept) old ∙ sym at
      | in-Taken+in_ok-column-in-Taken w ↦
          let old : slots.Taken w.in-Taken.first ≡ get_or all c.args.place d = w.in-Taken.ensures.value ∙ read_at all c.args.place d c.index_mut.result.now c.requires.exists c.index_mut.ensures.value in
          ap shown w.column-is ∙ w.in_ok-column-in-Taken.ensures ∙ ap shown w.index.ensures
          ∙ taken_at kept all c.args.place w.in-Taken.first w.index.result.now d c.requires.exists c.requires.within old
    ] in
    take_stays kept c.push.new.self.items c.match-slot.column all c.args.place d c.requires.exists c.requires.within (search rules) (search rules) is
