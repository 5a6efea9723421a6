use Rattle.std.proofs.Common.{sym, ◌∙◌}
use Rattle.dv_meta.specs.Numbers.{number_in}
use Rattle.dv_meta.proofs.NumbersLaws.{find_in-added, none_from}
use Rattle.dv_meta.proofs.index.names.Numbers.add.Goals as goal

pub returns : goal.returns
unfolding number_in
returns c = find_in-added c.args.self.now.map c.insert.new.self c.args.name c.args.number (none_from _ (sym c.contains_key.ensures ∙ c.if-contains_key.false)) (c.in_ok-insert.ensures.updates.0)
