use Rattle.dv_keeper.proofs.PlaceLaws.{IsNext-first, IsNext-none, IsNext-past}
use Rattle.dv_keeper.proofs.places.next_cell.Goals as goal

pub returns-in_default : goal.returns-in_default
returns-in_default c = IsNext-none c.args.places.now.entries c.args.sheet _ c.in_ok-start_after.field-0 c.in_ok-start_after.ensures c.first_full.ensures.ordered c.in_default.ensures.entry

pub returns-in_ok-from_slice-in-Some-key_in-2 : goal.returns-in_ok-from_slice-in-Some-key_in-2
returns-in_ok-from_slice-in-Some-key_in-2 c =
    rw (c.in_ok-from_slice-in-Some-key_in.ensures, c.in_ok-from_slice-in-Some-key_in-2.ensures, c.as_slice.ensures)
    (IsNext-first c.args.places.now.entries c.args.sheet _ c.in_ok-start_after.field-0 c.in_ok-start_after.ensures c.first_full.ensures.ordered
    c.in-Some.at.now c.in-Some.value.now c.in-Some-key_in.key.now c.in-Some.ensures.entry c.in-Some-key_in.ensures)

pub returns-in-None : goal.returns-in-None
returns-in-None c =
    IsNext-past c.args.places.now.entries c.args.sheet _ c.in_ok-start_after.field-0 c.in_ok-start_after.ensures c.first_full.ensures.ordered
    c.in-Some.at.now c.in-Some.value.now c.in-Some.ensures.entry c.in-None.ensures
