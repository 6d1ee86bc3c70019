-- What read relations read, by what fed their pipelines: the inputs of all pipelines, and the tables that they are of.
use Rattle.std.proofs.Common.{◌≡◌, ◌∙◌, ◌≤◌, ℕ, List, [], ◌∷◌, ◌++◌, Bool, true, false, Option, Some, None, ◌==◌, map, refl, sym, ap, subst, arith, if◌then◌else◌}
use Rattle.std.specs.Prelude.{IfSome, MatchOption}
use Rattle.std.proofs.lemmas.Bool.{eq-eqb, eqb-true}
use Rattle.sub_types.specs.Stream.{Stream, rows_alone}
use Rattle.plan_typed.specs.declared.rel.Source.{Source}
use Rattle.plan_typed.specs.declared.rel.Source.TheVariants as sources
use Rattle.well_typed.specs.WellTyped.{AllDiffer}
use Rattle.plan_denote.specs.Denote.{Tables, source_rows}
use Rattle.plan_denote.specs.Eval.{eval}
use Rattle.plan_denote.specs.Read.{virtual_rows}
use Rattle.plan_denote.specs.Rows.{Row}
use Rattle.plan_pipes.specs.declared.pipe.Feed.{Feed}
use Rattle.plan_pipes.specs.declared.pipe.Feed.TheVariants as feeds
use Rattle.plan_pipes.specs.declared.pipe.Pipe.{Pipe}
use Rattle.cut_flows.specs.Given.{fed_by, fed_in}
use Rattle.cut_laws.specs.Found.{ReadRel, read_at, rows_read}
use Rattle.fed_laws.specs.Fed.{AreFedBy, FeedAll, Feeds, HaveTables, IsFedBy, IsKnown, IsReadAt, IsReadFrom}
use Rattle.fed_laws.proofs.CountLaws.{count, weight, counted-append, counted-first, own_counted}

-- whether the read relation of a number feeds a pipeline
abbrev is_fed : Feed → ℕ → Bool
is_fed (feeds.Read relation) number = relation == number
is_fed _ number = false

-- the stream that fed the first pipeline which the read relation feeds, and else another
abbrev given_at : List Pipe → List (Stream Row) → ℕ → Stream Row → Stream Row
given_at [] given number other = other
given_at (pipe ∷ pipes) [] number other = other
given_at (pipe ∷ pipes) (one ∷ given) number other = if is_fed pipe.feed number then one else given_at pipes given number other

choose : {A : Type 0} (P : A → Type 0) (test : Bool) (x y : A) → (test ≡ true → P x) → P y → P (if test then x else y)
choose P true x y first second = first refl
choose P false x y first second = second

module _ (May : ℕ → Stream Row → Type 0) (reads : List ReadRel) where
  read_by : (feed : Feed) (number : ℕ) (one : Stream Row) → IsFedBy May reads feed one → is_fed feed number ≡ true → IsReadAt May reads number one
  read_by (feeds.Read relation) number one fed is = let same : relation ≡ number = eqb-true relation number is in subst (λ (n : ℕ). IsReadAt May reads n one) same fed
  read_by (feeds.Pipe at) number one fed is = absurd (cc)
  read_by (feeds.Set op pipes types) number one fed is = absurd (cc)

  -- what holds of what a read relation reads, and of the other
  given_holds : (pipes : List Pipe) (given : List (Stream Row)) (number : ℕ) (other : Stream Row) (Q : Stream Row → Type 0) → Q other → ((s : Stream Row) → IsReadAt May reads number s → Q s) → AreFedBy May reads pipes given
      → Q (given_at pipes given number other)
  given_holds [] given number rest Q base own fed = base
  given_holds (pipe ∷ pipes) [] number rest Q base own fed = base
  given_holds (pipe ∷ pipes) (one ∷ given) number rest Q base own fed =
      choose Q (is_fed pipe.feed number) one (given_at pipes given number rest) (λ is. own one (read_by pipe.feed number one fed.0 is)) (given_holds pipes given number rest Q base own fed.1)

-- the first read relation that feeds, where other inputs have the same
feeds_same : (inputs others : Tables) (feed : Feed) (one : Stream Row) → ((number : ℕ) → 1 ≤ count number (fed_by feed) → others number ≡ inputs number) → Feeds inputs feed one → Feeds others feed one
feeds_same inputs others (feeds.Read relation) one own is = own relation (own_counted relation []) ∙ is
feeds_same inputs others (feeds.Pipe at) one own is = tt
feeds_same inputs others (feeds.Set op pipes types) one own is = tt

-- pipelines that are fed by streams are fed by what other inputs have that differ in other numbers alone
feed_same : (inputs others : Tables) (pipes : List Pipe) (given : List (Stream Row)) → ((number : ℕ) → 1 ≤ count number (fed_in pipes) → others number ≡ inputs number) → FeedAll inputs pipes given → FeedAll others pipes given
feed_same inputs others [] [] same fed = tt
feed_same inputs others [] (one ∷ given) same fed = absurd fed
feed_same inputs others (pipe ∷ pipes) [] same fed = absurd fed
feed_same inputs others (pipe ∷ pipes) (one ∷ given) same fed = (
  feeds_same inputs others pipe.feed one (λ number some. same number (omega (arith, some, counted-append number (fed_by pipe.feed) (fed_in pipes)))) fed.0,
  feed_same inputs others pipes given (λ number some. same number (omega (arith, some, counted-append number (fed_by pipe.feed) (fed_in pipes)))) fed.1,
)

not_same : (relation number : ℕ) (rest : List ℕ) (test : Bool) → (relation == number) ≡ test → count number (relation ∷ rest) ≤ 1 → 1 ≤ count number rest → test ≡ false
not_same relation number rest false is few some = refl
not_same relation number rest true is few some =
    let once : weight (relation == number) ≡ weight true = ap weight is in
    absurd (omega (arith, once, few, some, counted-first relation number rest))

unfed : (feed : Feed) (number : ℕ) (rest : List ℕ) → count number (fed_by feed ++ rest) ≤ 1 → 1 ≤ count number rest → is_fed feed number ≡ false
unfed (feeds.Read relation) number rest few some = not_same relation number rest (relation == number) refl few some
unfed (feeds.Pipe at) number rest few some = refl
unfed (feeds.Set op pipes types) number rest few some = refl

own_given : (feed : Feed) (one : Stream Row) (more : ℕ → Stream Row) → Feeds (λ number. if is_fed feed number then one else more number) feed one
own_given (feeds.Read relation) one more = ap (λ (test : Bool). if test then one else more relation) (eq-eqb relation relation refl)
own_given (feeds.Pipe at) one more = tt
own_given (feeds.Set op pipes types) one more = tt

-- each is fed by what its own read relation reads, where no read relation feeds two
module _ (others : Tables) where
  abbrev inputs_by : List Pipe → List (Stream Row) → Tables
  inputs_by pipes given number = given_at pipes given number (others number)

  feed_all : (May : ℕ → Stream Row → Type 0) (reads : List ReadRel) (pipes : List Pipe) (given : List (Stream Row)) → AllDiffer (fed_in pipes) → AreFedBy May reads pipes given → FeedAll (inputs_by pipes given) pipes given
  feed_all May reads [] [] differ fed = tt
  feed_all May reads [] (one ∷ given) differ fed = absurd fed
  feed_all May reads (pipe ∷ pipes) [] differ fed = absurd fed
  feed_all May reads (pipe ∷ pipes) (one ∷ given) differ fed = (
    own_given pipe.feed one (inputs_by pipes given),
    feed_same (inputs_by pipes given) (inputs_by (pipe ∷ pipes) (one ∷ given)) pipes given
        (λ number some. ap (λ (test : Bool). if test then one else inputs_by pipes given number) (unfed pipe.feed number (fed_in pipes) (differ number) some))
        (feed_all May reads pipes given (λ number. omega (arith, differ number, counted-append number (fed_by pipe.feed) (fed_in pipes))) fed.1),
  )

collapse : (test : Bool) (one : Stream Row) (f : Stream Row → Stream Row) (base : Stream Row) → f (f base) ≡ f base → (if test then one else f (if test then one else f base)) ≡ (if test then one else f base)
collapse true one f base same = refl
collapse false one f base same = same

again : (pipes : List Pipe) (given : List (Stream Row)) (number : ℕ) (base : Stream Row) → given_at pipes given number (given_at pipes given number base) ≡ given_at pipes given number base
again [] given number base = refl
again (pipe ∷ pipes) [] number base = refl
again (pipe ∷ pipes) (one ∷ given) number base = collapse (is_fed pipe.feed number) one (given_at pipes given number) base (again pipes given number base)

-- tables that may be, where something may be the table of each number
module _ (May : ℕ → Stream Row → Type 0) (told : Tables) (told_may : (number : ℕ) → May number (told number)) (reads : List ReadRel) (pipes : List Pipe) (given : List (Stream Row)) where
  -- the tables: what was read where it was not of the plan, and what may be the table where nothing was read
  abbrev table_by : ℕ → Source → Stream Row
  table_by number (sources.Named names) = given_at pipes given number (told number)
  table_by number (sources.Rows rows) = told number

  abbrev table_of : ℕ → Option ReadRel → Stream Row
  table_of number None = told number
  table_of number (Some read) = table_by number read.source

  abbrev tables_by : Tables
  tables_by number = table_of number (read_at number reads)

  -- what each read relation reads of them
  abbrev inputs_read : Tables
  inputs_read number = given_at pipes given number (rows_read tables_by number (read_at number reads))

  found_from : (number : ℕ) (read : ReadRel) (s : Stream Row) → read_at number reads ≡ Some read → IsReadAt May reads number s → IsReadFrom May number read.source s
  found_from number read s found own = subst (λ (one : Option ReadRel). MatchOption one ⊥ (λ (r : ReadRel). IsReadFrom May number r.source s)) found own

  module _ (fed : AreFedBy May reads pipes given) where
    own_told : (number : ℕ) (read : ReadRel) (source : Source) → read_at number reads ≡ Some read → read.source ≡ source → May number (table_by number source)
    own_told number read (sources.Named names) found is =
        given_holds May reads pipes given number (told number) (May number) (told_may number) (λ s own. subst (λ (source : Source). IsReadFrom May number source s) is (found_from number read s found own)) fed
    own_told number read (sources.Rows rows) found is = told_may number

    found_told : (number : ℕ) (found : Option ReadRel) → read_at number reads ≡ found → May number (table_of number found)
    found_told number None is = told_may number
    found_told number (Some read) is = own_told number read read.source is refl

    -- a read relation reads its source
    own_read : (number : ℕ) (read : ReadRel) (source : Source) → read_at number reads ≡ Some read → read.source ≡ source → given_at pipes given number (source_rows tables_by number source) ≡ source_rows tables_by number source
    own_read number read (sources.Named names) found is =
        let table : tables_by number ≡ given_at pipes given number (told number) = ap (table_of number) found ∙ ap (table_by number) is in
        ap (given_at pipes given number) table ∙ again pipes given number (told number) ∙ sym table
    own_read number read (sources.Rows rows) found is =
        given_holds May reads pipes given number (virtual_rows number (map (map eval) rows)) (λ s. s ≡ virtual_rows number (map (map eval) rows)) refl
        (λ s own. subst (λ (source : Source). IsReadFrom May number source s) is (found_from number read s found own)) fed

    found_read : (number : ℕ) (found : Option ReadRel) → read_at number reads ≡ found → inputs_read number ≡ rows_read tables_by number found
    found_read number None is =
        given_holds May reads pipes given number (rows_read tables_by number (read_at number reads)) (λ s. s ≡ rows_alone []) (ap (rows_read tables_by number) is)
        (λ s own. absurd (subst (λ (one : Option ReadRel). MatchOption one ⊥ (λ (r : ReadRel). IsReadFrom May number r.source s)) is own)) fed
    found_read number (Some read) is =
        ap (λ (one : Option ReadRel). given_at pipes given number (rows_read tables_by number one)) is ∙ own_read number read read.source is refl

    -- what was read is what read relations read of the tables
    pub have_tables : AllDiffer (fed_in pipes) → HaveTables May reads pipes given
    have_tables differ = record {
      tables = tables_by;
      inputs = inputs_read;
      may_be = λ number. found_told number (read_at number reads) refl;
      are_read = λ number. found_read number (read_at number reads) refl;
      feed = feed_all (λ number. rows_read tables_by number (read_at number reads)) May reads pipes given differ fed;
    }

-- the known tables, and no rows elsewhere
abbrev known_or : Option (Stream Row) → Stream Row
known_or None = rows_alone []
known_or (Some table) = table

is_known : (found : Option (Stream Row)) → IfSome found (λ table. known_or found ≡ table)
is_known None = tt
is_known (Some table) = refl

pub known_tables : (known : ℕ → Option (Stream Row)) (reads : List ReadRel) (pipes : List Pipe) (given : List (Stream Row)) → AllDiffer (fed_in pipes) → AreFedBy (IsKnown known) reads pipes given → HaveTables (IsKnown known) reads pipes given
known_tables known reads pipes given differ fed = have_tables (IsKnown known) (λ number. known_or (known number)) (λ number. is_known (known number)) reads pipes given fed differ
