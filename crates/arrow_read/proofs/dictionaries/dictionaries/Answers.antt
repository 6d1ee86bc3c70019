use Rattle.std.proofs.Common.{◌≡◌, ◌∙◌, ◌+◌, ◌++◌, ℕ, List, Option, map, drop, refl, sym, ap, w64, to_z, of_z, arith, rules}
use Rattle.std.specs.List.{filter_map, enumerate_from}
use Rattle.arrow_meta.specs.Dictionary.{ColumnDictionary, dictionary_texts, column_dictionary}
use Rattle.arrow_read.specs.Sound.{index_place}
use Rattle.arrow_decode.specs.declared.dictionary.DictColumn.{DictColumn}
use Rattle.arrow_decode.specs.Seen.{dictionary_seen}
use Rattle.arrow_read.specs.Extents.{blocks_seen}
use Rattle.arrow_read.proofs.IndexedLaws.{next_dictionary, next_place, one_more}
use Rattle.arrow_read.proofs.dictionaries.dictionaries.Goals as goal

pub loop-i-preserved-in_default : goal.loop-i-preserved-in_default
loop-i-preserved-in_default g c =
    let i = c.loop-i.i in
    let columns = c.args.columns.now in
    let none = sym c.in_default.is ∙ c.index.ensures in
    record {
      bytes = c.loop-i.invariant.bytes;
      faults = c.loop-i.invariant.faults;
      dictionaries = λ told is. c.loop-i.invariant.dictionaries told is ∙ ap (λ ds. map dictionary_seen c.loop-i.found.items ++ ds) (next_dictionary (blocks_seen told c.args.blocks.now) columns i c.index-columns-i.result _ c.loop-i-test.true none);
      indexed = c.loop-i.invariant.indexed ∙ ap (λ places. map (λ (dictionary : DictColumn). dictionary.column) c.loop-i.found.items ++ places) (next_place columns i c.index-columns-i.result _ c.loop-i-test.true none);
    }

pub loop-i-preserved : goal.loop-i-preserved
loop-i-preserved g c =
    let i = c.loop-i.i in
    let columns = c.args.columns.now in
    let found = c.loop-i.found.items in
    let named = sym c.in-Some.is ∙ c.index.ensures in
    let same : to_z w64 (of_z w64 c.in-Some.id) ≡ c.in-Some.id = search rules in
    let seen : Option (List (Option (List ℕ))) → ColumnDictionary = λ values. record { column = i; values = values } in
    record {
      bytes = c.in_ok-values.ensures.bytes ∙ c.loop-i.invariant.bytes;
      faults = omega (arith, c.in_ok-values.ensures.cause.never_falls, c.loop-i.invariant.faults);
      dictionaries = λ told is.
          let blocks = blocks_seen told c.args.blocks.now in
          let texts = c.in_ok-values.ensures.texts told (c.loop-i.invariant.bytes ∙ is) ∙ ap (λ id. dictionary_texts id c.in-Some.wide blocks) same in
          c.loop-i.invariant.dictionaries told is
          ∙ ap (λ ds. map dictionary_seen found ++ ds) (next_dictionary blocks columns i c.index-columns-i.result _ c.loop-i-test.true named)
          ∙ one_more dictionary_seen found c.push.new.self.items _ _ (filter_map (column_dictionary blocks) (enumerate_from (i + 1) (drop (i + 1) columns))) c.in_ok-push.ensures.items (ap seen (sym texts));
      indexed =
          c.loop-i.invariant.indexed
          ∙ ap (λ places. map (λ (dictionary : DictColumn). dictionary.column) found ++ places) (next_place columns i c.index-columns-i.result _ c.loop-i-test.true named)
          ∙ one_more (λ (dictionary : DictColumn). dictionary.column) found c.push.new.self.items _ _ (filter_map index_place (enumerate_from (i + 1) (drop (i + 1) columns))) c.in_ok-push.ensures.items refl;
    }
