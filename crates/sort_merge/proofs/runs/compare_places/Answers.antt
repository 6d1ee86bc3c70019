use Rattle.std.proofs.Common.{◌≡◌, ◌∙◌, ap₂, sym, refl, length, true, false, ◌&&◌}
use Rattle.std.specs.Ordering.{bool_cmp}
use Rattle.std.proofs.lemmas.Option.{slice_get_read}
use Rattle.batch_places.specs.Places.{is_there}
use Rattle.batch_places.proofs.PlaceLaws.{run_there}
use Rattle.sort_merge.proofs.RowLaws.{not_first, not_second}
use Rattle.sort_merge.proofs.PlaceLaws.{by_keys_there, by_presence_there}
use Rattle.sort_merge.proofs.runs.compare_places.Goals as goal
use Rattle.sort_merge.proofs.runs.compare_places.Goals.{else-first-via-then-first+else-second, else-first-via-else-first}

pub returns-then-second : goal.returns-then-second
returns-then-second c =
    let runs = c.args.runs.now in
    let a = c.args.a.now in
    let b = c.args.b.now in
    let here : is_there runs a ≡ true = sym c.is_row-first.ensures ∙ c.if-first.true in
    let there : is_there runs b ≡ true = sym c.is_row-second.ensures ∙ c.if-second.true in
    by_keys_there c.args.keys.now runs a b c.index-runs-a.result c.index-runs-b.result c.compare_keys.result
    (slice_get_read runs (length runs) a.run c.index-runs-a.result refl (run_there runs a here) c.index-runs-a.is)
    (slice_get_read runs (length runs) b.run c.index-runs-b.result refl (run_there runs b there) c.index-runs-b.is)
    here there c.compare_keys.ensures

pub returns : goal.returns
returns c =
    let runs = c.args.runs.now in
    let a = c.args.a.now in
    let b = c.args.b.now in
    let not_both : is_there runs a && is_there runs b ≡ false =
    elim c.else-first.branch [
      | else-first-via-then-first+else-second w ↦ not_second (is_there runs a) (is_there runs b) (sym c.is_row-second.ensures ∙ w.if-second.false)
      | else-first-via-else-first w ↦ not_first (is_there runs a) (is_there runs b) (sym c.is_row-first.ensures ∙ w.if-first.false)
    ] in
    by_presence_there c.args.keys.now runs a b c.cmp.result not_both (c.cmp.ensures ∙ ap₂ bool_cmp c.is_row-first.ensures c.is_row-second.ensures)
