-- Each place that is found settles a row and those before it.
use Rattle.std.proofs.Common.{◌≡◌, ◌∙◌, ◌+◌, ◌-◌, ◌<◌, ◌≤◌, ℕ, List, [], Bool, Some, None, length, get_or, set, sym, ap, subst, arith}
use Rattle.std.proofs.Math.Dec.{leb}
use Rattle.memchr.specs.Find.{FindsNeedle}
use Rattle.sub_types.specs.Slots.{slots, length-slots}
use Rattle.col_text.specs.Text.{ends_of}
use Rattle.col_text.proofs.TextLaws.{length-ends_of, offset_of-le}
use Rattle.call_kernels.specs.Searches.{AreMarked}
use Rattle.call_kernels.proofs.SearchLaws.{ends_behind, row_there, searched_all, searched_more}
use Rattle.call_kernels.proofs.searches.marks_found.Goals as goal

pub place_from-requires : goal.place_from-requires
place_from-requires c =
    let l = c.loop-place in
    let ts = slots {T = List ℕ} [] c.args.column.now in
    omega (arith, l.invariant.1, offset_of-le ts l.row, ap length c.bytes-hay.ensures)

pub row_at-hit-requires-clause-within : goal.row_at-hit-requires-clause-within
row_at-hit-requires-clause-within c =
    let l = c.loop-place in
    let ts = slots {T = List ℕ} [] c.args.column.now in
    let needle = subst (λ (needle : List ℕ). FindsNeedle c.bytes-hay.result.now needle l.at (Some c.in-Some.place)) c.new-finder.ensures c.in-Some.ensures in
    let found = subst (λ (hay : List ℕ). FindsNeedle hay c.args.pattern.now l.at (Some c.in-Some.place)) c.bytes-hay.ensures needle in
    let below = row_there ts c.args.pattern.now l.row l.at c.in-Some.place c.requires (omega (arith, l.invariant.0, length-slots {T = List ℕ} [] c.args.column.now)) l.invariant.1 found in
    omega (arith, below, ap length c.ends-edges.ensures, length-ends_of 0 ts)

pub row_at-hit-requires-clause-last : goal.row_at-hit-requires-clause-last
row_at-hit-requires-clause-last c =
    let l = c.loop-place in
    let place = c.in-Some.place in
    let ts = slots {T = List ℕ} [] c.args.column.now in
    let needle = subst (λ (needle : List ℕ). FindsNeedle c.bytes-hay.result.now needle l.at (Some place)) c.new-finder.ensures c.in-Some.ensures in
    let found = subst (λ (hay : List ℕ). FindsNeedle hay c.args.pattern.now l.at (Some place)) c.bytes-hay.ensures needle in
    let below = row_there ts c.args.pattern.now l.row l.at place c.requires (omega (arith, l.invariant.0, length-slots {T = List ℕ} [] c.args.column.now)) l.invariant.1 found in
    let last : length (ends_of 0 ts) - 1 ≡ length ts - 1 = ap (λ n. n - 1) (length-ends_of 0 ts) in
    let behind = ends_behind ts c.args.pattern.now place c.requires (omega (arith, below)) found.1 in
    subst (λ (ends : List ℕ). place < get_or ends (length ends - 1) 0) (sym c.ends-edges.ensures) (subst (λ n. place < get_or (ends_of 0 ts) n 0) (sym last) behind)

pub put-requires : goal.put-requires
put-requires c =
    let ts = slots {T = List ℕ} [] c.args.column.now in
    omega (arith, c.row_at-hit.ensures.there, ap length c.ends-edges.ensures, length-ends_of 0 ts, c.loop-place.invariant.2.count)

pub overflow_add-row : goal.overflow_add-row
overflow_add-row c =
    let ts = slots {T = List ℕ} [] c.args.column.now in
    omega (arith, c.row_at-hit.ensures.there, ap length c.ends-edges.ensures, length-ends_of 0 ts, length-slots {T = List ℕ} [] c.args.column.now, c.len.ensures)

pub loop-place-preserved : goal.loop-place-preserved
loop-place-preserved c =
    let l = c.loop-place in
    let place = c.in-Some.place in
    let pattern = c.args.pattern.now in
    let hit = c.row_at-hit.result in
    let end = c.get-at.result in
    let ts = slots {T = List ℕ} [] c.args.column.now in
    let needle = subst (λ (needle : List ℕ). FindsNeedle c.bytes-hay.result.now needle l.at (Some place)) c.new-finder.ensures c.in-Some.ensures in
    let found = subst (λ (hay : List ℕ). FindsNeedle hay pattern l.at (Some place)) c.bytes-hay.ensures needle in
    let before = subst (λ (ends : List ℕ). (k : ℕ) → l.row ≤ k → k < hit → get_or ends k 0 ≤ place) c.ends-edges.ensures c.row_at-hit.ensures.before in
    let behind = subst (λ (ends : List ℕ). place < get_or ends hit 0) c.ends-edges.ensures c.row_at-hit.ensures.behind in
    let there : hit < length ts = omega (arith, c.row_at-hit.ensures.there, ap length c.ends-edges.ensures, length-ends_of 0 ts) in
    let end_is = c.get-at.ensures ∙ ap (λ (ends : List ℕ). get_or ends hit 0) c.ends-edges.ensures in
    let more = searched_more ts pattern l.row l.at place hit end l.bits c.requires l.invariant.1 l.invariant.2 found c.row_at-hit.ensures.rising there before behind end_is in
    let marked : c.put.new.self ≡ set l.bits hit (leb (length pattern) (end - place)) = c.put.ensures ∙ ap (λ (bit : Bool). set l.bits hit bit) c.fits.ensures in
    (omega (arith, there, length-slots {T = List ℕ} [] c.args.column.now), more.0, subst (λ (bits : List Bool). AreMarked pattern ts (hit + 1) bits) (sym marked) more.1)

pub returns : goal.returns
returns c =
    let l = c.loop-place in
    let ts = slots {T = List ℕ} [] c.args.column.now in
    let needle = subst (λ (needle : List ℕ). FindsNeedle c.bytes-hay.result.now needle l.at None) c.new-finder.ensures c.in_default.ensures in
    let nowhere = subst (λ (hay : List ℕ). FindsNeedle hay c.args.pattern.now l.at None) c.bytes-hay.ensures needle in
    searched_all ts c.args.pattern.now l.row l.at l.bits l.invariant.1 l.invariant.2 nowhere
