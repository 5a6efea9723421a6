-- The lists that are taken out of an object.
use Rattle.std.proofs.Common.{◌≡◌, ℕ, List, [], ap, option_map, option_and_then, unwrap_or, bytes_eq, false}
use Rattle.std.specs.List.{list_any}
use Rattle.serde_json.specs.Data.{Data, Members}
use Rattle.serde_json.specs.Find.{as_array}
use Rattle.dv_form.specs.Members.{data_list}
use Rattle.dv_form.proofs.Reading.{Left}
use Rattle.dv_wire.specs.Members.{list_in, list_at, list_if}

-- a list that was left is that of the object
pub list_left : (ms : Members) (d : Data) (taken : List (List ℕ)) (name : List ℕ) → Left ms d taken → list_any (bytes_eq name) taken ≡ false → unwrap_or (list_in name ms) [] ≡ list_at name d
unfolding list_if
list_left ms d taken name left apart = ap (λ o. unwrap_or (option_map data_list (option_and_then as_array o)) []) (left name apart)
