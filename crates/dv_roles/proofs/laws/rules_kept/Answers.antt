use Rattle.dv_roles.proofs.RuleLaws.{adding_role-keeps, setting_privileges-keeps, giving_role-keeps, taking_role-keeps, moving-keeps, enabling-keeps}
use Rattle.dv_roles.proofs.laws.rules_kept.Goals as goal

pub returns-clause-adds : goal.returns-clause-adds
returns-clause-adds c = adding_role-keeps

pub returns-clause-sets : goal.returns-clause-sets
returns-clause-sets c = setting_privileges-keeps

pub returns-clause-gives : goal.returns-clause-gives
returns-clause-gives c = giving_role-keeps

pub returns-clause-takes : goal.returns-clause-takes
returns-clause-takes c = taking_role-keeps

pub returns-clause-moves : goal.returns-clause-moves
returns-clause-moves c = moving-keeps

pub returns-clause-enables : goal.returns-clause-enables
returns-clause-enables c = enabling-keeps
