-- Read relations that are lent, as definitions see them.
use Rattle.std.specs.Prelude.{ℕ, List}
use Rattle.sub_types.specs.declared.kind.Ty.{Ty}
use Rattle.plan_typed.specs.declared.rel.Source.{Source}
use Rattle.cut_laws.specs.Found.{ReadRel}
use Rattle.read_sources.specs.declared.sources.ReadSource.{ReadSource}

abbrev pub read_rel : ℕ → Source → List Ty → ReadRel
read_rel number source types = record { number = number; source = source; types = types }

abbrev pub read_seen : ReadSource → ReadRel
read_seen read = read_rel read.number read.source.now read.types.now
