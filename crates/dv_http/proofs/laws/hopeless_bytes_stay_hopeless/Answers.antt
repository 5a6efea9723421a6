use Rattle.dv_http.proofs.laws.hopeless_bytes_stay_hopeless.Goals as goal
use Rattle.dv_http.proofs.Hopes.{hopeless-append}

pub returns : goal.returns
returns c = hopeless-append
