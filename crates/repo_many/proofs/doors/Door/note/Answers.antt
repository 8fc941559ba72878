use Rattle.repo_many.proofs.doors.Door.note.Goals as goal

pub returns-in-Nobody-clause-door : goal.returns-in-Nobody-clause-door
returns-in-Nobody-clause-door c = rw c.in-Nobody.is

pub returns-in-Came-clause-door : goal.returns-in-Came-clause-door
returns-in-Came-clause-door c = rw c.in-Came.is c.count.ensures

pub returns-in-Lost-clause-door : goal.returns-in-Lost-clause-door
returns-in-Lost-clause-door c = rw c.in-Lost.is c.count-in-Lost.ensures

pub returns-in-Refused-clause-door : goal.returns-in-Refused-clause-door
returns-in-Refused-clause-door c = rw (c.in-Refused.is, c.saturating_add.ensures)
