use Rattle.dv_value.proofs.Spellings.{too_short, no_flag, no_moment}
use Rattle.dv_value.proofs.spelling.take_body.Goals as goal

pub returns-in-None-clause-refused : goal.returns-in-None-clause-refused
returns-in-None-clause-refused c = λ _. rw c.in-1.is (no_flag c.args.body.now c.in-None.ensures)

pub returns-in-None-take_four-clause-refused : goal.returns-in-None-take_four-clause-refused
returns-in-None-take_four-clause-refused c = λ _. rw c.in-2.is (too_short 2 c.args.body.now c.in-None-take_four.ensures)

pub returns-in-None-take_moment-clause-refused : goal.returns-in-None-take_moment-clause-refused
returns-in-None-take_moment-clause-refused c = λ _. rw c.in-5.is (no_moment c.args.body.now c.in-None-take_moment.ensures)

pub returns-in-None-take_sixteen-clause-refused : goal.returns-in-None-take_sixteen-clause-refused
returns-in-None-take_sixteen-clause-refused c = λ _. rw c.in-7.is (too_short 7 c.args.body.now c.in-None-take_sixteen.ensures)
