use Rattle.probe.proofs.probe_solve_factored.Goals as goal

pub returns-then-answer : goal.returns-then-answer
returns-then-answer c = rw c.if-answer.true at c.answer.ensures

pub returns : goal.returns
returns c = rw c.if-answer.false at c.answer.ensures
