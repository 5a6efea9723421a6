use Rattle.dv_http.proofs.Streams.{Messages_unique}
use Rattle.dv_http.proofs.laws.an_input_has_one_list_of_messages.Goals as goal

pub returns : goal.returns
returns c = Messages_unique
