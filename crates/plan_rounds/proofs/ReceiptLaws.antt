-- The receipts of the read relations of a plan's relations, in the order in which they were read, and then by their numbers.
use Rattle.std.proofs.Common.{◌≡◌, ◌∙◌, ◌≤◌, ◌+◌, ◌==◌, ℕ, List, [], ◌∷◌, ◌++◌, Bool, true, false, cond, Option, Some, map, refl, sym, ap, subst, append-nil, eqb-true, arith}
use Rattle.std.specs.Prelude.{if◌then◌else◌}
use Rattle.std.specs.List.{AllByRecursion, AllZip, flat_map, count_by}
use Rattle.std.specs.Ordering.{nat_cmp}
use Rattle.std.proofs.lemmas.List.{map-append}
use Rattle.std.proofs.lemmas.List.Concat.{flat_map-append}
use Rattle.std.proofs.lemmas.Simd.{map-map}
use Rattle.func_table.proofs.ListLaws.{count_by-cons}
use Rattle.sub_types.specs.declared.kind.Ty.{Ty}
use Rattle.plan_typed.specs.declared.rel.Rel.{Rel}
use Rattle.plan_typed.specs.declared.rel.Source.{Source}
use Rattle.plan_typed.specs.declared.rel.Source.TheVariants as sources
use Rattle.plan_typed.specs.declared.sub.Holed.{Holed}
use Rattle.plan_typed.specs.declared.sub.Sub.{Sub}
use Rattle.well_typed.specs.WellTyped.{IsWellTyped}
use Rattle.plan_denote.specs.Holes.{Known, filled}
use Rattle.plan_denote.specs.Sort.{arranged}
use Rattle.plan_reads.specs.declared.reads.PlanRead.{PlanRead}
use Rattle.plan_reads.specs.Reads.{read_of, reads_in, reads_of as plan_reads_of}
use Rattle.plan_laws.proofs.FilledLaws.{reads_filled}
use Rattle.plan_laws.proofs.FoundLaws.{all_there}
use Rattle.plan_laws.proofs.Levels.{AllReads}
use Rattle.plan_laws.proofs.PlanReadLaws.{arranged_all}
use Rattle.read_laws.specs.Typed.{read_as}
use Rattle.read_laws.proofs.FillLaws.{filled_alike}
use Rattle.cut_laws.specs.Found.{ReadRel, read_at, read_rels}
use Rattle.cut_laws.specs.Reads.{reads_of}
use Rattle.agree_laws.specs.Agree.{numbers_in, rels_of}
use Rattle.agree_laws.proofs.OrderLaws.{arranged_numbers, law_of_order}
use Rattle.agree_laws.proofs.TypeLaws.{each_found, law_of_numbers, numbers_of_rels, rels_from_reads}
use Rattle.open_blocks.specs.Files.{FilesSeen}
use Rattle.open_blocks.specs.Taken.{Adds}
use Rattle.table_engine.specs.Inputs.{IsReceiptAt, IsReceiptOf, batches_from, batches_read}
use Rattle.run_words.specs.declared.status.PipeReceipt.{PipeReceipt}
use Rattle.plan_rounds.specs.Inputs.{batches_of, input_read}
use Rattle.plan_rounds.specs.Known.{AreReceiptsOf, batches_for}
use Rattle.plan_rounds.specs.Receipts.{by_number}

zip_parts : {X Y : Type 0} (R : X → Y → Type 0) (xs more : List X) (ys rest : List Y) → AllZip R xs ys → AllZip R more rest → AllZip R (xs ++ more) (ys ++ rest)
zip_parts R [] more [] rest first second = second
zip_parts R [] more (y ∷ ys) rest first second = absurd first
zip_parts R (x ∷ xs) more [] rest first second = absurd first
zip_parts R (x ∷ xs) more (y ∷ ys) rest first second = (first.0, zip_parts R xs more ys rest first.1 second)

-- relation by relation, each read in its batches
module _ (workers : ℕ) (files : List FilesSeen) (many : ℕ → ℕ) where
  -- a read relation is read in as many
  abbrev IsMany : ReadRel → Type 0
  IsMany read = many read.number ≡ batches_from files read.number read.source

  many_if : (number : ℕ) (read : ReadRel) (rest : Option ReadRel) (test : Bool) (count : ℕ) → (test ≡ true → read.number ≡ number) → IsMany read → 1 ≤ cond test 1 0 + count → (1 ≤ count → batches_read files number rest ≡ many number)
      → batches_read files number (if test then Some read else rest) ≡ many number
  many_if number read rest true count at is some k = sym (subst (λ (one : ℕ). many one ≡ batches_from files one read.source) (at refl) is)
  many_if number read rest false count at is some k = k (omega (arith, some))

  many_at : (reads : List ReadRel) (number : ℕ) → AllByRecursion IsMany reads → 1 ≤ count_by (λ one. one == number) (numbers_of_rels reads) → batches_read files number (read_at number reads) ≡ many number
  many_at [] number all some = absurd (omega (arith, some))
  many_at (read ∷ reads) number all some =
      many_if number read (read_at number reads) (read.number == number) (count_by (λ one. one == number) (numbers_of_rels reads)) (λ is. eqb-true read.number number is) all.0
      (omega (arith, some, count_by-cons (λ one. one == number) read.number (numbers_of_rels reads))) (many_at reads number all.1)

  abbrev AsMany : List ReadRel → ℕ → Type 0
  AsMany reads number = batches_read files number (read_at number reads) ≡ many number

  each_many : (reads : List ReadRel) (numbers : List ℕ) → AllByRecursion IsMany reads → AllByRecursion (λ number. 1 ≤ count_by (λ one. one == number) (numbers_of_rels reads)) numbers → AllByRecursion (AsMany reads) numbers
  each_many reads [] all there = tt
  each_many reads (number ∷ numbers) all there = (many_at reads number all there.0, each_many reads numbers all there.1)

  abbrev with_many : ℕ → ℕ × ℕ
  with_many number = (number, many number)

  as_of : (reads : List ReadRel) (numbers : List ℕ) (receipts : List PipeReceipt) → AllByRecursion (AsMany reads) numbers → AllZip (IsReceiptAt workers files reads) numbers receipts → AllZip (IsReceiptOf workers) (map with_many numbers) receipts
  as_of reads [] [] all zip = tt
  as_of reads [] (receipt ∷ receipts) all zip = absurd zip
  as_of reads (number ∷ numbers) [] all zip = absurd zip
  as_of reads (number ∷ numbers) (receipt ∷ receipts) all zip = (
    subst (λ (count : ℕ). IsReceiptOf workers (number, count) receipt) all.0 zip.0,
    as_of reads numbers receipts all.1 zip.1,
  )

  -- those of one relation more, behind those before it
  pub one_relation_more : (done numbers : List ℕ) (reads : List ReadRel) (old new : List PipeReceipt) → numbers ≡ numbers_of_rels reads → AllByRecursion IsMany reads → AllZip (IsReceiptOf workers) (map with_many done) old
      → Adds (IsReceiptAt workers files reads) numbers old new → AllZip (IsReceiptOf workers) (map with_many (done ++ numbers)) new
  one_relation_more done numbers reads old new are all so_far adds =
      let there = subst (λ (these : List ℕ). AllByRecursion (λ number. 1 ≤ count_by (λ one. one == number) (numbers_of_rels reads)) these) (sym are) (all_there (λ (one : ℕ). one) (numbers_of_rels reads)) in
      let zip = as_of reads numbers adds.more (each_many reads numbers all there) adds.each_is in
      subst (λ (inputs : List (ℕ × ℕ)). AllZip (IsReceiptOf workers) inputs new) (sym (map-append with_many done numbers))
      (subst (AllZip (IsReceiptOf workers) (map with_many done ++ map with_many numbers)) (sym adds.added) (zip_parts (IsReceiptOf workers) (map with_many done) (map with_many numbers) old adds.more so_far zip))

  -- each by the number of its relation
  abbrev IsOwn : PipeReceipt → Type 0
  IsOwn receipt = IsReceiptOf workers (with_many receipt.relation) receipt

  each_own : (numbers : List ℕ) (receipts : List PipeReceipt) → AllZip (IsReceiptOf workers) (map with_many numbers) receipts → AllByRecursion IsOwn receipts × (map (λ (receipt : PipeReceipt). receipt.relation) receipts ≡ numbers)
  each_own [] [] zip = (tt, refl)
  each_own [] (receipt ∷ receipts) zip = absurd zip
  each_own (number ∷ numbers) [] zip = absurd zip
  each_own (number ∷ numbers) (receipt ∷ receipts) zip =
      let rest = each_own numbers receipts zip.1 in (
        (subst (λ (one : ℕ). IsReceiptOf workers (with_many one) receipt) (sym zip.0.relation) zip.0, rest.0),
        ap (λ (one : ℕ). one ∷ map (λ (other : PipeReceipt). other.relation) receipts) zip.0.relation ∙ ap (λ (all : List ℕ). number ∷ all) rest.1,
      )

  first_same : (x y : ℕ) (xs ys : List ℕ) → x ∷ xs ≡ y ∷ ys → x ≡ y
  first_same x y xs ys is = cc

  rest_same : (x y : ℕ) (xs ys : List ℕ) → x ∷ xs ≡ y ∷ ys → xs ≡ ys
  rest_same x y xs ys is = cc

  again : (reads : List PlanRead) (receipts : List PipeReceipt) → map (λ (receipt : PipeReceipt). receipt.relation) receipts ≡ numbers_in reads → AllByRecursion IsOwn receipts
      → AllByRecursion (λ (read : PlanRead). many read.relation ≡ batches_of files read.relation read.origin) reads → AllZip (IsReceiptOf workers) (map (input_read files) reads) receipts
  again [] [] same own all = tt
  again [] (receipt ∷ receipts) same own all = absurd (cc)
  again (read ∷ reads) [] same own all = absurd (cc)
  again (read ∷ reads) (receipt ∷ receipts) same own all =
      let rest = map (λ (other : PipeReceipt). other.relation) receipts in
      let number : receipt.relation ≡ read.relation = first_same receipt.relation read.relation rest (numbers_in reads) same in (
        subst (λ (count : ℕ). IsReceiptOf workers (read.relation, count) receipt) all.0 (subst (λ (one : ℕ). IsReceiptOf workers (with_many one) receipt) number own.0),
        again reads receipts (rest_same receipt.relation read.relation rest (numbers_in reads) same) own.1 all.1,
      )

-- those of a plan
module _ (workers : ℕ) (files : List FilesSeen) (plan : Holed) (typed : IsWellTyped plan) where
  abbrev many : ℕ → ℕ
  many = batches_for files plan

  abbrev pub IsManyRead : PlanRead → Type 0
  IsManyRead read = many read.relation ≡ batches_of files read.relation read.origin

  pub all_many : AllByRecursion IsManyRead (plan_reads_of plan)
  all_many = each_found (λ (read : PlanRead). batches_of files read.relation read.origin) 0 plan typed

  by_source : (number : ℕ) (source : Source) (names : List (List ℕ)) (types : List Ty) → IsManyRead (read_of number source names types) → many number ≡ batches_from files number source
  by_source number (sources.Named words) names types is = is
  by_source number (sources.Rows rows) names types is = is

  same_numbers : (known : Known) (rel : Rel) → reads_of (filled known rel) ≡ reads_of rel
  same_numbers known rel =
      let first = λ (one : ℕ × List Ty). one.0 in
      law_of_numbers (filled known rel)
      ∙ sym (map-map first read_as (read_rels (filled known rel))) ∙ ap (map first) (filled_alike known rel).reads ∙ map-map first read_as (read_rels rel)
      ∙ sym (law_of_numbers rel)

  -- behind one relation more
  pub more_receipts : (known : Known) (done : List Rel) (rel : Rel) (old new : List PipeReceipt) → AllReads IsManyRead rel → AreReceiptsOf workers files plan done old
      → Adds (IsReceiptAt workers files (read_rels (filled known rel))) (reads_of (filled known rel)) old new → AreReceiptsOf workers files plan (done ++ rel ∷ []) new
  more_receipts known done rel old new own so_far adds =
      let new_rel = filled known rel in
      let all = rels_from_reads IsManyRead (λ (read : ReadRel). many read.number ≡ batches_from files read.number read.source) by_source new_rel (subst (AllByRecursion IsManyRead) (sym (reads_filled known rel)) own) in
      let one = one_relation_more workers files many (flat_map reads_of done) (reads_of new_rel) (read_rels new_rel) old new (law_of_numbers new_rel) all so_far adds in
      let numbers : flat_map reads_of (done ++ rel ∷ []) ≡ flat_map reads_of done ++ reads_of new_rel =
      flat_map-append reads_of done (rel ∷ []) ∙ ap (λ (more : List ℕ). flat_map reads_of done ++ more) (append-nil (reads_of rel) ∙ sym (same_numbers known rel)) in
      subst (λ (these : List ℕ). AllZip (IsReceiptOf workers) (map (λ (number : ℕ). (number, many number)) these) new) (sym numbers) one

  -- all of them, by their numbers
  flat : (subs : List Sub) → flat_map reads_in (rels_of subs) ≡ flat_map (λ (sub : Sub). reads_in sub.rel) subs
  flat [] = refl
  flat (sub ∷ subs) = ap (λ (rest : List PlanRead). reads_in sub.rel ++ rest) (flat subs)

  abbrev all_rels : List Rel
  all_rels = rels_of plan.subs ++ plan.typed.rel ∷ []

  all_reads : flat_map reads_in all_rels ≡ flat_map (λ (sub : Sub). reads_in sub.rel) plan.subs ++ reads_in plan.typed.rel
  all_reads =
      flat_map-append reads_in (rels_of plan.subs) (plan.typed.rel ∷ [])
      ∙ ap (λ (reads : List PlanRead). reads ++ (reads_in plan.typed.rel ++ [])) (flat plan.subs)
      ∙ ap (λ (last : List PlanRead). flat_map (λ (sub : Sub). reads_in sub.rel) plan.subs ++ last) (append-nil (reads_in plan.typed.rel))

  numbers_are : numbers_in (plan_reads_of plan) ≡ arranged nat_cmp (numbers_in (flat_map reads_in all_rels))
  unfolding plan_reads_of
  numbers_are =
      arranged_numbers (λ (read : PlanRead). read.relation) (flat_map (λ (sub : Sub). reads_in sub.rel) plan.subs ++ reads_in plan.typed.rel)
      ∙ ap (λ (reads : List PlanRead). arranged nat_cmp (numbers_in reads)) (sym all_reads)

  pub receipts_in_order : (receipts sorted : List PipeReceipt) → AreReceiptsOf workers files plan all_rels receipts → sorted ≡ arranged by_number receipts → AllZip (IsReceiptOf workers) (map (input_read files) (plan_reads_of plan)) sorted
  receipts_in_order receipts sorted are is =
      let number = λ (receipt : PipeReceipt). receipt.relation in
      let own = each_own workers files many (flat_map reads_of all_rels) receipts are in
      let same : map number (arranged by_number receipts) ≡ numbers_in (plan_reads_of plan) =
      arranged_numbers number receipts ∙ ap (arranged nat_cmp) own.1 ∙ law_of_order all_rels ∙ sym numbers_are in
      subst (AllZip (IsReceiptOf workers) (map (input_read files) (plan_reads_of plan))) (sym is)
      (again workers files many (plan_reads_of plan) (arranged by_number receipts) same (arranged_all (λ (receipt : PipeReceipt). IsReceiptOf workers (receipt.relation, many receipt.relation) receipt) by_number receipts own.0) all_many)
