use Rattle.dv_http.proofs.laws.a_message_is_not_hopeless.Goals as goal
use Rattle.dv_http.proofs.Hopes.{message_not_hopeless}

pub returns : goal.returns
returns c = message_not_hopeless
