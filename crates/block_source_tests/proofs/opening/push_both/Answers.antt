use Rattle.std.proofs.Common.{◌≡◌, ◌++◌, [], ◌∷◌, ℕ, List, Option, Some, Ok, length, map, arith, ap, sym, subst, ◌∙◌}
use Rattle.std.proofs.lemmas.List.{length-map, map_push}
use Rattle.world.specs.declared.mem_reader.MemReader.{MemReader}
use Rattle.arrow_meta.specs.Head.{head_of}
use Rattle.arrow_read.specs.Seen.{head_seen}
use Rattle.block_source.specs.declared.file.BlockFile.{BlockFile}
use Rattle.block_source.specs.Seen.{AreHeads}
use Rattle.block_source.proofs.HeadLaws.{heads_push}
use Rattle.block_source_tests.proofs.opening.push_both.Goals as goal

pub returns-clause-heads : goal.returns-clause-heads
returns-clause-heads c =
    let bytes : MemReader → Option (List ℕ) = λ reader. Some reader.bytes in
    let file = c.args.file in
    let reader = c.args.reader in
    let files = c.args.files.now.items in
    let readers = c.args.readers.now.items in
    let files_are : c.push_reserved.new.self.items ≡ files ++ file ∷ [] = c.push_reserved.ensures.items ∙ ap (λ (t : List BlockFile). t ++ file ∷ []) c.in_ok-reserve.ensures.items in
    let bytes_are : map bytes c.push.new.self.items ≡ map bytes readers ++ bytes reader ∷ [] = ap (map bytes) c.in_ok-push.ensures.items ∙ map_push bytes readers reader in
    let lens : length files ≡ length (map bytes readers) = omega (arith, c.requires.count, c.args.files.now.ok.0, c.args.readers.now.ok.0, length-map readers bytes) in
    let pushed = heads_push (λ (one : BlockFile) (told : List ℕ). head_of told ≡ Ok (head_seen one.head)) files (map bytes readers) file (bytes reader) lens c.requires.heads
    (λ told e. let same : reader.bytes ≡ told = cc in subst (λ (x : List ℕ). head_of x ≡ Ok (head_seen file.head)) same c.requires.head) in
    subst (λ (fs : List BlockFile). AreHeads fs (map bytes c.push.new.self.items)) (sym files_are)
    (subst (λ (bs : List (Option (List ℕ))). AreHeads (files ++ file ∷ []) bs) (sym bytes_are) pushed)
