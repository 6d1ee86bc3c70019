use Rattle.std.proofs.Common.{◌≡◌, ◌∙◌, sym, ap, map, length, ◌∷◌, [], ◌++◌, ◌+◌, arith}
use Rattle.std.proofs.lemmas.List.{map-append, length_push}
use Rattle.run_core.specs.Receipts.{lists_of, no_lists}
use Rattle.run_words.specs.Alone.{workers_alone}
use Rattle.run_words.proofs.AloneLaws.{workers_more}
use Rattle.run_words.proofs.receipts.worker_receipts.Goals as goal

pub loop-init : goal.loop-init
loop-init c =
    let items = c.in_ok-push.ensures.items ∙ ap (λ front. front ++ c.in_ok-worked.field-0 ∷ []) c.new-receipts.ensures.items in
    record {
      lists = ap (map lists_of) items ∙ ap (λ lists. lists ∷ []) c.in_ok-worked.ensures;
      len = ap length items;
    }

pub loop-preserved : goal.loop-preserved
loop-preserved c = record {
  lists =
      ap (map lists_of) c.in_ok-push-2.ensures.items ∙ map-append lists_of c.loop.receipts.items (c.new.result ∷ [])
      ∙ ap (λ last. map lists_of c.loop.receipts.items ++ last ∷ []) c.new.ensures
      ∙ ap (λ front. front ++ no_lists ∷ []) c.loop.invariant.lists
      ∙ sym (workers_more c.args.batches c.loop.counter (omega arith));
  len = ap length c.in_ok-push-2.ensures.items ∙ length_push c.loop.receipts.items c.new.result ∙ ap (λ n. n + 1) c.loop.invariant.len;
}

pub returns-clause-lists : goal.returns-clause-lists
returns-clause-lists c =
    let end : c.loop.counter ≡ c.args.workers = omega arith in
    c.loop.invariant.lists ∙ ap (workers_alone c.args.batches) end

pub returns-clause-len : goal.returns-clause-len
returns-clause-len c =
    let end : c.loop.counter ≡ c.args.workers = omega arith in
    c.loop.invariant.len ∙ end
