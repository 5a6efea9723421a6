use Rattle.std.specs.Str.{chars}
use Rattle.std.proofs.Common.{rules, sym, ◌∙◌, true, ◌≡◌}
use Rattle.std.proofs.lemmas.Bool.{true≢false}
use Rattle.dv_units.specs.Chart.{is_unit}
use Rattle.dv_units.proofs.Changes.{unit-moved}
use Rattle.dv_units.proofs.Refused.{root-moved, circle}
use Rattle.dv_units.proofs.units.Units.move_unit.Goals as goal

pub returns-then-is_root-clause-err : goal.returns-then-is_root-clause-err
unfolding chars
returns-then-is_root-clause-err c = root-moved c.args.self.now c.args.unit c.args.parent c.in_ok-why.why (search rules) (search rules) (search rules) c.in_ok-why.ensures

pub returns-then-within-clause-err : goal.returns-then-within-clause-err
unfolding chars
returns-then-within-clause-err c = circle c.args.self.now c.args.unit c.args.parent c.in_ok-why-2.why (search rules) (search rules) (search rules) (search rules) c.in_ok-why-2.ensures

pub invariant_of-self-2 : goal.invariant_of-self-2
invariant_of-self-2 c =
    let s = c.self.inside in
    let there : is_unit c.args.self.now c.args.parent ≡ true = search rules in
    unit-moved s.units.entries s.users.entries s.teams.entries s.members.keys s.joined.keys c.self.invariant c.args.self.now c.self.view_is c.put.new.list.entries c.args.unit c.args.parent c.in_ok-put.ensures.gets
    (search rules) there (search rules)
    (λ k e. true≢false (sym (c.within.ensures.leads.1 (record { there = there; levels = k; leads = e })) ∙ c.if-within.false))
    c.in_ok-put.ensures.len
