use Rattle.std.proofs.Common.{◌≡◌, ◌∙◌, ◌++◌, ℕ, ◌+◌, Bool, length, map, get_or, sym, ap, arith}
use Rattle.std.specs.List.{range_with_len}
use Rattle.std.proofs.lemmas.List.{get_or_default, length-replicate}
use Rattle.std.proofs.lemmas.List.FromFn.{length-map-range_with_len}
use Rattle.std.proofs.lemmas.Result.{IfOk-weaker}
use Rattle.hash_chains.specs.First.{rows_where}
use Rattle.set_places.specs.declared.marks.Mark.TheVariants.{Open}
use Rattle.set_places.specs.Marks.{is_open, is_taken, marked}
use Rattle.set_places.specs.Taken.{takes}
use Rattle.set_places.proofs.MarkLaws.{IsAlike, marks_begin, marks_open, marks_known, marks_end, was_not_open}
use Rattle.set_places.proofs.taken.taken_rows.Goals as goal
use Rattle.set_places.proofs.taken.taken_rows.Goals.{then-is_open+in_ok-matches, else-is_open}

pub loop-row-init : goal.loop-row-init
loop-row-init g c =
    let keys = c.args.chains.now.keys in
    let m = g.met.K.Keys in
    let same : ℕ → ℕ → Bool = g.K.Keys.same keys keys in
    let count = g.K.Keys.count keys in
    let alike : IsAlike same count = record {
      own = λ i below. m.own keys i below (c.requires.whole i);
      again = λ i j k e. m.same_again keys keys i j k e;
    } in
    record {
      count = ap length c.in_ok-marks.ensures ∙ length-replicate c.args.first Open;
      marks = marks_begin same count alike c.args.op c.args.first c.args.others.now c.requires.ends c.in_ok-marks.marks.items c.in_ok-marks.ensures;
    }

pub loop-row-preserved : goal.loop-row-preserved
loop-row-preserved g c =
    let keys = c.args.chains.now.keys in
    let m = g.met.K.Keys in
    let same : ℕ → ℕ → Bool = g.K.Keys.same keys keys in
    let count = g.K.Keys.count keys in
    let alike : IsAlike same count = record {
      own = λ i below. m.own keys i below (c.requires.whole i);
      again = λ i j k e. m.same_again keys keys i j k e;
    } in
    let old = c.loop-row.marks.items in
    let at : get_or old c.loop-row.row Open ≡ c.index.result.now = get_or_default old c.loop-row.row Open c.index.result.now (omega (arith, c.loop-row.invariant.count)) ∙ sym c.index.ensures in
    let new : c.if-is_open.marks.items ≡ map (marked same (takes same c.args.op c.args.first c.args.others.now) (c.loop-row.row + 1)) (range_with_len 0 c.args.first) =
    elim c.if-is_open.branch [
      | then-is_open+in_ok-matches w ↦
          let test : ℕ → Bool = same c.loop-row.row in
          let alike_is : w.deref.result.now ≡ rows_where test count =
          w.deref.ensures.value ∙ w.in_ok-matches.ensures ∙ ap (λ l. l ++ rows_where (g.K.Keys.same w.keys.result.now keys c.loop-row.row) count) w.clear.ensures.items ∙ ap (λ k. rows_where (g.K.Keys.same k keys c.loop-row.row) count) w.keys.ensures in
          ap (λ v. v.items) w.marks-is
          ∙ marks_open same count alike c.args.op c.args.first c.args.others.now c.requires.ends c.loop-row.row c.loop-row.marks.items w.mark_alike.new.marks.items c.loop-row.invariant.marks (w.mark_alike.ensures.marks test count alike_is c.requires.ends)
      | else-is_open w ↦
          ap (λ v. v.items) w.marks-is
          ∙ marks_known same count alike c.args.op c.args.first c.args.others.now c.requires.ends c.loop-row.row c.loop-row.marks.items c.loop-row-test.true c.loop-row.invariant.marks (was_not_open (get_or old c.loop-row.row Open) (ap is_open at ∙ sym c.is_open.ensures ∙ w.if-is_open.false))
    ] in
    record { count = ap length new ∙ length-map-range_with_len (marked same (takes same c.args.op c.args.first c.args.others.now) (c.loop-row.row + 1)) 0 c.args.first; marks = new }

pub returns : goal.returns
returns g c =
    let keys = c.args.chains.now.keys in
    let m = g.met.K.Keys in
    let same : ℕ → ℕ → Bool = g.K.Keys.same keys keys in
    let count = g.K.Keys.count keys in
    let alike : IsAlike same count = record {
      own = λ i below. m.own keys i below (c.requires.whole i);
      again = λ i j k e. m.same_again keys keys i j k e;
    } in
    let marks = c.loop-row.marks.items in
    IfOk-weaker c.rows_taken.result (λ rows. rows.items ≡ rows_where (λ row. is_taken (get_or c.deref-2.result.now row Open)) (length c.deref-2.result.now)) (λ rows. rows.items ≡ rows_where (takes same c.args.op c.args.first c.args.others.now) c.args.first) (λ rows is.
    marks_end same count alike c.args.op c.args.first c.args.others.now c.requires.ends c.loop-row.row marks rows.items c.loop-row-test.false (omega arith) c.loop-row.invariant.marks
    (is ∙ ap (λ all. rows_where (λ row. is_taken (get_or all row Open)) (length all)) c.deref-2.ensures.value)) c.rows_taken.ensures
