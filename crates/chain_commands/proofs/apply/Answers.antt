-- `chain_commands::apply` meets its contract: what it calls for a code is the code's. Assumes nothing.
use Rattle.std.specs.Prelude.{Ok, Err}
use Rattle.std.proofs.lemmas.Result.{err_from_is_err_and}
use Rattle.chain_commands.proofs.Step.{removal, insertion, no_code}
use Rattle.chain_commands.proofs.apply.Goals as goal

pub returns-then-c-eq0-clause-applied : goal.returns-then-c-eq0-clause-applied
returns-then-c-eq0-clause-applied c = no_code _ _ _ c.if-c-eq0.true

pub returns-then-c-eq5-clause-applied : goal.returns-then-c-eq5-clause-applied
returns-then-c-eq5-clause-applied c = removal _ _ _ c.if-c-eq5.true c.remove.result c.remove.ensures.removed c.removal_done.ensures

pub returns-in_err-insert_coded-clause-applied : goal.returns-in_err-insert_coded-clause-applied
returns-in_err-insert_coded-clause-applied c =
    let p = err_from_is_err_and c.from_residual-in_err-insert_coded.result c.from_residual-in_err-insert_coded.ensures.1 in
    rw (p.1, p.2) (insertion _ _ _ c.if-c-eq0.false c.if-c-lt5.false c.if-c-eq5.false (Err c.in_err-insert_coded.field-0.0) c.in_err-insert_coded.ensures.inserted)

pub returns-clause-applied : goal.returns-clause-applied
returns-clause-applied c = insertion _ _ _ c.if-c-eq0.false c.if-c-lt5.false c.if-c-eq5.false (Ok c.in_ok-insert_coded.field-0) c.in_ok-insert_coded.ensures.inserted
