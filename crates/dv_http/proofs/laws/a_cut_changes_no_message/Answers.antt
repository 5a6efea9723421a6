use Rattle.dv_http.proofs.Streams.{Messages-append, Messages-closed}
use Rattle.dv_http.proofs.laws.a_cut_changes_no_message.Goals as goal

pub returns : goal.returns
returns c = record { goes_on = Messages-append; closed = Messages-closed }
