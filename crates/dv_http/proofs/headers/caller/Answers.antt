use Rattle.std.proofs.Common.{refl}
use Rattle.dv_http.specs.Headers.{caller_of}
use Rattle.dv_http.proofs.headers.caller.Goals as goal

pub returns-in-Some : goal.returns-in-Some
unfolding caller_of
returns-in-Some c = rw c.in-Some.ensures.value refl

pub returns-in-None : goal.returns-in-None
unfolding caller_of
returns-in-None c = rw c.in-None.ensures.value refl
