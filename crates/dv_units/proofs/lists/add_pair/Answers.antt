use Rattle.std.proofs.Common.{rules, ◌∙◌, ap, true}
use Rattle.std.specs.BTreeMap.{is_at}
use Rattle.std.specs.Set.{remove_key}
use Rattle.dv_value.specs.declared.id.Id.{Id}
use Rattle.dv_units.specs.Chart.{pair_cmp}
use Rattle.dv_units.proofs.ListLaws.{remove_key-insert_key, turns}
use Rattle.dv_units.proofs.lists.add_pair.Goals as goal

pub returns-in-Err-clause-err : goal.returns-in-Err-clause-err
returns-in-Err-clause-err c =
    let pair : Id × Id = (c.args.first, c.args.second) in
    c.remove.ensures.keys ∙ ap (remove_key (is_at (pair_cmp pair))) c.in_ok-insert.ensures.keys ∙ remove_key-insert_key pair_cmp pair (search rules) c.args.pairs.now.keys c.requires

pub returns-in-Ok-clause-turns : goal.returns-in-Ok-clause-turns
returns-in-Ok-clause-turns c = turns true c.args.first c.args.second c.args.pairs.now.keys c.args.turned.now.keys c.insert.new.self.keys c.insert-2.new.self.keys (search rules) (search rules)
