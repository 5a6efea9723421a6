use Rattle.std.proofs.Common.{◌++◌, ap, ◌∙◌, append_assoc}
use Rattle.std.specs.Int.{to_be_bytes, w16}
use Rattle.dv_cells.specs.Bytes.{id_bytes}
use Rattle.dv_cells.proofs.encoding.put_row.Goals as goal

pub returns : goal.returns
returns c =
    c.in_ok-put_id.ensures ∙ ap (λ bytes. bytes ++ id_bytes c.args.key.id) c.in_ok-put_u16.ensures
    ∙ append_assoc c.args.out.now.items (to_be_bytes w16 c.args.key.table) (id_bytes c.args.key.id)
