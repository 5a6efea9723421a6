use Rattle.dv_roles.proofs.AlikeLaws.{unit-alike, user-alike, team-alike, member-alike, role-alike, gift-alike}
use Rattle.dv_roles.proofs.laws.refused_alike.Goals as goal

pub returns-clause-units : goal.returns-clause-units
returns-clause-units c = unit-alike

pub returns-clause-users : goal.returns-clause-users
returns-clause-users c = user-alike

pub returns-clause-teams : goal.returns-clause-teams
returns-clause-teams c = team-alike

pub returns-clause-members : goal.returns-clause-members
returns-clause-members c = member-alike

pub returns-clause-roles : goal.returns-clause-roles
returns-clause-roles c = role-alike

pub returns-clause-gifts : goal.returns-clause-gifts
returns-clause-gifts c = gift-alike
