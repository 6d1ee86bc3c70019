use Rattle.std.proofs.Common.{◌≡◌, ◌++◌, ◌∷◌, [], ℕ, List, Option, Some, map, slice_get, refl, ap, sym, subst, ◌∙◌}
use Rattle.block_source.specs.declared.block.BlockRead.TheVariants as reads
use Rattle.block_source.specs.declared.file.BlockFile.{BlockFile}
use Rattle.block_source.specs.declared.file.BlockPlace.{BlockPlace}
use Rattle.block_source.specs.Places.{places_of}
use Rattle.block_source.specs.Bodies.{reading, AreReadFor}
use Rattle.block_source.specs.Seen.{AreHeads, IsPlaceIn, GivesAt, GivesFor}
use Rattle.block_source.proofs.InPlaces.{place_is_in}
use Rattle.block_source.proofs.Numbers.{reading_past}
use Rattle.block_source.proofs.ReadLaws.{read_nothing}
use Rattle.block_source.proofs.source.BlockSourceSource.read.Goals as goal

pub invariant_of-self-in_default : goal.invariant_of-self-in_default
invariant_of-self-in_default g c =
    let self = c.args.self.now in
    let files = self.table.now.files.items in
    let loaded = c.push_reserved.ensures.items ∙ ap (λ (ns : List ℕ). ns ++ c.args.number ∷ []) c.in_ok-reserve.ensures.items in
    record {
      count = self.count;
      heads = self.heads;
      reads = subst (AreReadFor files (map g.R.Reader.reads self.readers.items)) (sym loaded)
          (read_nothing (reading files) (map g.R.Reader.reads self.readers.items) self.loaded.items c.args.number (λ file. reading_past files c.args.number file (sym c.in_default.ensures)) self.reads);
    }

pub returns-in_default-clause-given : goal.returns-in_default-clause-given
returns-in_default-clause-given g c =
    let self = c.args.self.now in
    let files = self.table.now.files.items in
    subst (λ (p : Option BlockPlace). GivesFor files (map g.R.Reader.bytes self.readers.items) p reads.Absent) c.in_default.ensures refl

pub read_place-requires-clause-place : goal.read_place-requires-clause-place
read_place-requires-clause-place g c =
    let files = c.args.self.now.table.now.files.items in
    subst (λ (fs : List BlockFile). IsPlaceIn fs c.in-Some.place) (sym c.deref.ensures.value) (place_is_in files c.args.number c.in-Some.place (sym c.in-Some.ensures))

pub invariant_of-self-2 : goal.invariant_of-self-2
invariant_of-self-2 g c =
    let self = c.args.self.now in
    let files = self.table.now.files.items in
    let place = c.in-Some.place in
    let before = map g.R.Reader.reads self.readers.items in
    let after = map g.R.Reader.reads c.read_place.new.readers.items in
    let loaded = c.push_reserved-2.ensures.items ∙ ap (λ (ns : List ℕ). ns ++ c.args.number ∷ []) c.in_ok-reserve.ensures.items in
    let e = c.in_ok-given.ensures in
    let more : (numbers : List ℕ) (number : ℕ) → slice_get (places_of files) number ≡ Some place → AreReadFor files before numbers → AreReadFor files after (numbers ++ number ∷ []) =
    subst
    (λ (fs : List BlockFile). (numbers : List ℕ) (number : ℕ) → slice_get (places_of fs) number ≡ Some place → AreReadFor fs before numbers → AreReadFor fs after (numbers ++ number ∷ []))
    c.deref.ensures.value e.reads in
    record {
      count = e.len ∙ self.count;
      heads = subst (AreHeads files) (sym e.bytes) self.heads;
      reads = subst (AreReadFor files after) (sym loaded) (more self.loaded.items c.args.number (sym c.in-Some.ensures) self.reads);
    }

pub returns-clause-given : goal.returns-clause-given
returns-clause-given g c =
    let self = c.args.self.now in
    let files = self.table.now.files.items in
    let bytes = map g.R.Reader.bytes self.readers.items in
    let given = c.in_ok-given.given in
    subst (λ (p : Option BlockPlace). GivesFor files bytes p given) c.in-Some.ensures
    (subst (λ (fs : List BlockFile). GivesAt fs bytes c.in-Some.place given) c.deref.ensures.value c.in_ok-given.ensures.given)
