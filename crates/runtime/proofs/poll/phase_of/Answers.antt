use Rattle.runtime.proofs.poll.phase_of.Goals as goal

pub returns-in-Some-clause-alone : goal.returns-in-Some-clause-alone
returns-in-Some-clause-alone c = c.look.ensures.alone c.requires.role.0 c.requires.role.1
