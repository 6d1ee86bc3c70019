-- Each kind of relation, by those below it.
use Rattle.std.proofs.Common.{rules, append_assoc}
use Rattle.read_sources.proofs.ReadLaws.{of_op, of_Read, of_Filter, of_Project, of_Fetch, of_Sort, of_Aggregate, of_GroupSets, of_Join, of_Cross, of_Set}
use Rattle.read_sources.proofs.sources.+sources.Goals as goal

pub push_reads-returns-in-Read : goal.push_reads-returns-in-Read
push_reads-returns-in-Read t c = search (rules, of_op, of_Read)

pub push_reads-returns-in-Set : goal.push_reads-returns-in-Set
push_reads-returns-in-Set t c = search (rules, of_op, of_Set)

pub push_reads-returns-in_ok-push_reads-in-Join : goal.push_reads-returns-in_ok-push_reads-in-Join
push_reads-returns-in_ok-push_reads-in-Join t c = search (rules, of_op, of_Join, of_Cross, append_assoc)

pub push_reads-returns-in-Filter : goal.push_reads-returns-in-Filter
push_reads-returns-in-Filter t c = search (rules, of_op, of_Filter, of_Project, of_Fetch, of_Sort, of_Aggregate, of_GroupSets)
