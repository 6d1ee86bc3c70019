-- What a read relation that is found read.
use Rattle.std.proofs.Common.{◌≡◌, ℕ, List, Option, Some, sym, subst}
use Rattle.std.specs.Prelude.{MatchOption}
use Rattle.world.specs.Reads.{Reads}
use Rattle.plan_typed.specs.declared.rel.Source.{Source}
use Rattle.cut_laws.specs.Found.{ReadRel, read_at}
use Rattle.open_blocks.specs.Files.{FilesSeen}
use Rattle.pipe_flows.specs.Bodies.{HaveReadAt, HaveReadFrom}

pub found_reads : (files : List FilesSeen) (number : ℕ) (reads : List ReadRel) (read : ReadRel) (source : Source) (start now : List (List (Option Reads))) → Some read ≡ read_at number reads → read.source ≡ source → HaveReadFrom source files number start now
    → HaveReadAt reads files number start now
found_reads files number reads read source start now found is own =
    subst (λ (one : Option ReadRel). MatchOption one ⊥ (λ (r : ReadRel). HaveReadFrom r.source files number start now)) found (subst (λ (s : Source). HaveReadFrom s files number start now) (sym is) own)
