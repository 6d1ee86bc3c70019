-- Where no count is the answer, a read failed.
use Rattle.std.proofs.Common.{◌≡◌, ℕ, List, map, length, get_or, All, Option, Some, None, Result, Ok, Err, OnOk, slice_get, sym, ap, subst, ◌∙◌}
use Rattle.std.proofs.lemmas.Option.{slice_get-map, slice_get_within, get_or_from_slice_get}
use Rattle.world.specs.Counts.{Rose}
use Rattle.pipe_labour.specs.declared.item.Item.{Item}
use Rattle.block_source.specs.declared.block.BlockRead.{BlockRead}
use Rattle.block_source.specs.declared.block.BlockRead.TheVariants as reads
use Rattle.block_source.specs.declared.file.BlockFile.{BlockFile}
use Rattle.block_source.specs.Made.{IsMadeOf}
use Rattle.block_source.proofs.InPlaces.{mapped_from}
use Rattle.round_end.specs.declared.outcome.Outcome.{Outcome}
use Rattle.round_end.specs.declared.outcome.Outcome.TheVariants as outcomes
use Rattle.round_end.specs.Decided.{decided}
use Rattle.round_end.proofs.First.{first_unread}
use Rattle.block_source_tests.specs.Counted.{IsCountOf}

pub always : {A E : Type 0} (r : Result A E) (P : Type 0) → P → OnOk r P
always (Ok x) P p = p
always (Err e) P p = tt

of_failed : (given : BlockRead) (made : Outcome ℕ) → IsCountOf given made → made ≡ outcomes.ReadFault → given ≡ reads.Failed
of_failed (reads.Whole raw) made is e = absurd (let f = sym is ∙ e in cc)
of_failed reads.Bad made is e = absurd (let f = sym is.1 ∙ e in cc)
of_failed reads.Failed made is e = cc
of_failed reads.Absent made is e = absurd (let f = sym is.1 ∙ e in cc)

pub rose_where : (outs : List (Item (Outcome ℕ))) (files : List BlockFile) (bytes : List (Option (List ℕ))) (before now : ℕ)
    → All (λ out. IsMadeOf (λ _ given made. IsCountOf given made) files bytes before now out.number out.value) outs → decided (map (λ (out : Item (Outcome ℕ)). out.value) outs) ≡ None → Rose before now
rose_where outs files bytes before now made none =
    let first = first_unread (map (λ (out : Item (Outcome ℕ)). out.value) outs) none in
    let m = mapped_from (λ (out : Item (Outcome ℕ)). out.value) (slice_get outs first.0) outcomes.ReadFault (sym (slice_get-map (λ (out : Item (Outcome ℕ)). out.value) outs first.0) ∙ first.1.here) in
    let at = subst (λ (out : Item (Outcome ℕ)). IsMadeOf (λ _ given made. IsCountOf given made) files bytes before now out.number out.value)
    (get_or_from_slice_get outs first.0 m.0 m.0 m.1) (made first.0 m.0 (slice_get_within outs first.0 m.0 m.1)) in
    at.failed (of_failed at.given m.0.value at.made_of m.2)
