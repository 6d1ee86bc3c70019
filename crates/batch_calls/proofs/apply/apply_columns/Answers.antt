-- What a kernel made is what is wanted.
use Rattle.batch_calls.proofs.apply.apply_columns.Goals as goal

pub returns-in-Some-clause-values : goal.returns-in-Some-clause-values
returns-in-Some-clause-values c = (rw c.in-Some.is at c.in_ok-kernel.ensures).values

pub returns-in-Some-clause-stop : goal.returns-in-Some-clause-stop
returns-in-Some-clause-stop c = (rw c.in-Some.is at c.in_ok-kernel.ensures).stop_is

pub returns-in-Some-clause-ty : goal.returns-in-Some-clause-ty
returns-in-Some-clause-ty c = (rw c.in-Some.is at c.in_ok-kernel.ensures).ty_is
